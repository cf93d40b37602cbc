-- What is found under the id is the clause that is live, or there is none.
use Rattle.std.proofs.Common.{◌≡◌, true, false, List, [], ◌∷◌, ◌++◌, Some, None, subst, sym, ◌∙◌}
use Rattle.std.proofs.Common.{ap}
use Rattle.std.proofs.Common.{◌+◌}
use Rattle.std.specs.Prelude.{IfSome}
use Rattle.std.specs.Option.{option_copied}
use Rattle.std.proofs.lemmas.Result.{IfOk-weaker}
use Rattle.lrat_live.specs.Listed.{listed_at}
use Rattle.lrat_log.specs.Log.{LogLine, axiom_line}
use Rattle.cdcl_search.specs.Running.{Runs}
use Rattle.cuts_log.specs.Starts.{lines_for}
use Rattle.cuts_solver.specs.Solving.{CanCome}
use Rattle.cuts_solver.proofs.solver.resuming.take_addition.Goals as goal

pub returns-in-Some-clause-takes : goal.returns-in-Some-clause-takes
returns-in-Some-clause-takes c =
    let p = c.args.input.now in
    let old = c.args.search.now in
    let new = c.take_live.new.search in
    let here : listed_at c.args.machine.now.state.live c.args.id ≡ Some c.in-Some.lits.now =
    sym c.find.ensures ∙ ap option_copied c.in-Some.is in
    IfOk-weaker c.take_live.result
    (λ taken. taken ≡ true → (ls : List LogLine) → Runs old p ls
    → Runs new p (ls ++ axiom_line c.in-Some.lits.now ∷ []))
    (λ taken. taken ≡ true → (ls : List LogLine) → Runs old p ls → Runs new p
    (ls ++ lines_for (listed_at c.args.machine.now.state.live c.args.id) (old.additions + 1)))
    (λ taken h yes ls r. subst (λ o. Runs new p (ls ++ lines_for o (old.additions + 1))) (sym here)
    (h yes ls r)) c.take_live.ensures.takes

pub returns-in-None-clause-takes : goal.returns-in-None-clause-takes
returns-in-None-clause-takes c = λ yes ls r.
    let p = c.args.input.now in
    let old = c.args.search.now in
    let here : listed_at c.args.machine.now.state.live c.args.id ≡ None =
    sym c.find.ensures ∙ ap option_copied c.in-None.is in
    subst (λ o. Runs c.skip.new.search p (ls ++ lines_for o (old.additions + 1))) (sym here)
    (c.skip.ensures.skips p ls r)

pub returns-in-Some-clause-can : goal.returns-in-Some-clause-can
returns-in-Some-clause-can c =
    let v = c.args.search.now.engine.variables in
    let o = listed_at c.args.machine.now.state.live c.args.id in
    let here : o ≡ Some c.in-Some.lits.now =
    sym c.find.ensures ∙ ap option_copied c.in-Some.is in
    IfOk-weaker c.take_live.result
    (λ taken. taken ≡ true → CanCome v c.in-Some.lits.now)
    (λ taken. taken ≡ true → IfSome o (CanCome v))
    (λ taken h yes. subst (λ x. IfSome x (CanCome v)) (sym here) (h yes))
    c.take_live.ensures.can

pub returns-in-Some-clause-refused : goal.returns-in-Some-clause-refused
returns-in-Some-clause-refused c =
    let v = c.args.search.now.engine.variables in
    let o = listed_at c.args.machine.now.state.live c.args.id in
    let here : o ≡ Some c.in-Some.lits.now =
    sym c.find.ensures ∙ ap option_copied c.in-Some.is in
    IfOk-weaker c.take_live.result
    (λ taken. taken ≡ false → CanCome v c.in-Some.lits.now → ⊥)
    (λ taken. taken ≡ false → IfSome o (CanCome v) → ⊥)
    (λ taken h no can. h no (subst (λ x. IfSome x (CanCome v)) here can))
    c.take_live.ensures.refused

pub returns-in-None-clause-can : goal.returns-in-None-clause-can
returns-in-None-clause-can c = λ yes.
    let none : listed_at c.args.machine.now.state.live c.args.id ≡ None =
    sym c.find.ensures ∙ ap option_copied c.in-None.is in
    subst (λ x. IfSome x (CanCome c.args.search.now.engine.variables)) (sym none) tt
