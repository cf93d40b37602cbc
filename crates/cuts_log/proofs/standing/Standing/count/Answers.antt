use Rattle.std.proofs.Common.{◌≡◌, [], false, sym, ◌∙◌, arith, rules, length, ap, List}
use Rattle.std.specs.Prelude.{is_some, ◌==◌}
use Rattle.std.proofs.lemmas.Bool.{false≢true}
use Rattle.cnf.specs.Literal.{Literal}
use Rattle.cuts_log.proofs.Claims.{count_taken}
use Rattle.cuts_log.proofs.MadeClauses.{count_made}
use Rattle.cuts_log.proofs.standing.Standing.count.Goals as goal

pub returns-clause-taken : goal.returns-clause-taken
returns-clause-taken c = λ _.
    let open_end = c.if-self.false in
    let none : is_some c.in_ok-fault.fault ≡ false = search rules in
    let some : c.args.inputs.now ≡ [] → ⊥ = λ e.
    false≢true (sym c.if-is_empty.false ∙ c.is_empty.ensures
    ∙ ap (λ (l : List Literal). length l == 0) e) in
    count_taken c.args.self.now c.take_all.new.self c.args.outputs c.args.inputs.now
    c.count.new.clauses c.count.new.self c.in_ok-fault.fault open_end (omega arith) some
    c.limits.ensures c.in_ok-fault.ensures none c.in_ok-take_all.ensures

pub returns-clause-made : goal.returns-clause-made
returns-clause-made c = λ _.
    let none : is_some c.in_ok-fault.fault ≡ false = search rules in
    count_made c.args.self.now c.take_all.new.self c.count.new.clauses c.count.new.self
    c.in_ok-fault.fault c.clause_limits.ensures none c.in_ok-take_all.ensures c.limits-2.ensures
    c.limits_of_each.ensures c.args.outputs c.args.inputs.now c.in_ok-fault.ensures
