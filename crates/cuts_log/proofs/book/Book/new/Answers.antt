-- Nothing was written before.
use Rattle.std.proofs.Common.{◌<◌, rules, arith}
use Rattle.lrat_log.specs.declared.log.TheConstants.{LINE_LIMIT}
use Rattle.cuts_log.proofs.Noting.{begins}
use Rattle.cuts_log.proofs.book.Book.new.Goals as goal

pub invariant_of-result : goal.invariant_of-result
invariant_of-result g c =
    let small : c.args.base < LINE_LIMIT = search (rules, arith) in
    rw (c.seen-trace.ensures, c.new.ensures)
    (begins c.args.instance.now c.args.base _ small c.requires.base)
