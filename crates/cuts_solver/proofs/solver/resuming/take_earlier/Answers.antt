-- One addition after the other comes.
use Rattle.std.proofs.Common.{◌≡◌, suc, ◌+◌, ◌-◌, true, ◌++◌, inl, inr, subst, sym}
use Rattle.std.proofs.Common.{◌∙◌, ap, arith, rules}
use Rattle.std.specs.Prelude.{IfSome}
use Rattle.std.proofs.lemmas.Bool.{cases_eq}
use Rattle.lrat_live.specs.Listed.{listed_at}
use Rattle.cdcl_search.specs.Running.{Runs}
use Rattle.cuts_log.specs.Starts.{added_at, lines_before, lines_for}
use Rattle.cuts_solver.specs.Solving.{CanCome}
use Rattle.cuts_solver.proofs.solver.resuming.take_earlier.Goals as goal

pub loop-number-preserved : goal.loop-number-preserved
loop-number-preserved c =
    let i = c.loop-number.invariant in
    let n = c.loop-number.number in
    let s = c.args.machine.now.state in
    let at = added_at c.args.base s in
    let yes : c.in_ok-take_addition.field-0 ≡ true = search rules in
    let e = c.in_ok-take_addition.ensures in
    let new = c.take_addition.new.search in
    let p = c.args.input.now in
    let base = c.args.base in
    let next : n + 1 ≡ suc n = omega arith in
    let place : base + n + 1 ≡ base + suc n = omega arith in
    let count : c.loop-number.search.additions + 1 ≡ suc n = omega (arith, i.additions) in
    record {
      runs = subst (λ k. Runs new p (lines_before at k)) (sym next)
          (subst (λ k. Runs new p (lines_before at n ++ lines_for (listed_at s.live k) (suc n)))
          place (subst (λ k. Runs new p (lines_before at n
          ++ lines_for (listed_at s.live (base + n + 1)) k)) count
          (e.takes yes (lines_before at n) i.runs)));
      additions = e.additions yes ∙ ap (λ k. k + 1) i.additions;
      variables = e.variables yes ∙ i.variables;
      can = λ j less. elim (cases_eq j n) [
        | inl t ↦ subst (λ k. IfSome (listed_at s.live (base + k + 1))
            (CanCome c.args.search.now.engine.variables)) (sym t)
            (subst (λ v. IfSome (listed_at s.live (base + n + 1)) (CanCome v)) i.variables
            (e.can yes))
        | inr f ↦ i.can j (omega (arith, less, f))
      ];
    }

pub returns-clause-can : goal.returns-clause-can
returns-clause-can c = λ yes j less.
    let n = c.loop-number.number in
    let all : n ≡ c.args.machine.now.state.last - c.args.base = search (rules, arith) in
    c.loop-number.invariant.can j (omega (arith, less, all))

pub returns-clause-runs : goal.returns-clause-runs
returns-clause-runs c = λ yes.
    let s = c.args.machine.now.state in
    let n = c.loop-number.number in
    let all : n ≡ s.last - c.args.base = search (rules, arith) in
    subst (λ k. Runs c.loop-number.search c.args.input.now
    (lines_before (added_at c.args.base s) k)) all c.loop-number.invariant.runs
