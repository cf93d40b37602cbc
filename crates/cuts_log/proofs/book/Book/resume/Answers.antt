-- `lines` lines stand for what was judged.
use Rattle.std.proofs.Common.{◌<◌, length, rules, arith, subst}
use Rattle.lrat_log.specs.declared.log.TheConstants.{LINE_LIMIT}
use Rattle.cuts_log.specs.Starts.{earlier_lines}
use Rattle.cuts_log.proofs.Noting.{resumes}
use Rattle.cuts_log.proofs.book.Book.resume.Goals as goal

pub invariant_of-result : goal.invariant_of-result
invariant_of-result g c =
    let s = c.args.machine.now.state in
    let small : c.args.base < LINE_LIMIT = search (rules, arith) in
    let few : c.args.lines < LINE_LIMIT = search (rules, arith) in
    let short : length (earlier_lines c.args.base s) < LINE_LIMIT =
    subst (λ n. n < LINE_LIMIT) c.requires.lines few in
    rw (c.seen-trace.ensures, c.new.ensures, c.last.ensures, c.requires.lines)
    (resumes c.args.instance.now s c.args.base _ small short)
