use Rattle.std.proofs.Common.{◌≡◌, false, rules}
use Rattle.std.specs.Prelude.{is_some}
use Rattle.cuts_log.proofs.MadeClauses.{more_made}
use Rattle.cuts_log.proofs.standing.Standing.more.Goals as goal

pub returns-clause-made : goal.returns-clause-made
returns-clause-made c = λ _.
    let none : is_some c.in_ok-fault.fault ≡ false = search rules in
    more_made c.args.self.now c.take_all.new.self c.more.new.clauses c.more.new.self
    c.in_ok-fault.fault c.clause_limits.ensures none c.in_ok-take_all.ensures c.limits.ensures
    c.limits_of_each.ensures c.args.number c.in_ok-fault.ensures
