use Rattle.std.proofs.Common.{[], ◌∷◌, ◌++◌, map, sym, ◌∙◌, ap, subst, arith}
use Rattle.std.proofs.Common.{append_assoc}
use Rattle.std.specs.List.{AllByRecursion}
use Rattle.lrat_log.specs.Log.{axiom_line}
use Rattle.cuts_log.specs.Made.{IsMadeClause}
use Rattle.cuts_solver.proofs.solver.proposing.give_made.Goals as goal

pub loop-clause-preserved : goal.loop-clause-preserved
loop-clause-preserved g c =
    let i = c.loop-clause.invariant in
    let k = c.in-Some.clause.now in
    let v = c.args.log.now.standing.forms.variables in
    let made = subst (AllByRecursion (IsMadeClause v)) c.in-Some.ensures.steps i.3 in (
      i.0 ++ axiom_line k ∷ [],
      c.in_ok-take_axiom.ensures.takes c.args.input.now i.0 i.1,
      i.2 ∙ ap (λ cs. i.0 ++ map axiom_line cs) c.in-Some.ensures.steps
          ∙ sym (append_assoc i.0 (axiom_line k ∷ []) (map axiom_line c.next.new.self)),
      made.1,
      (let same = c.in_ok-take_axiom.ensures.variables in let low = i.4 in omega arith),
    )
