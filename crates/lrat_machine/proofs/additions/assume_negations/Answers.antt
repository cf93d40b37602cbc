use Rattle.std.proofs.Common.{◌≡◌, ◌++◌, ◌∷◌, [], map, take, ap, sym, ◌∙◌, arith}
use Rattle.cnf.specs.Literal.{negation}
use Rattle.cnf.specs.Clause.{contains_literal}
use Rattle.lrat_machine.proofs.Negations.{not_apart, not_single, negations_more, single_more}
use Rattle.lrat_machine.proofs.Negations.{apart_more, within_more}
use Rattle.lrat_machine.proofs.additions.assume_negations.Goals as goal
use Rattle.lrat_machine.proofs.additions.assume_negations.Goals.{then-is_true-via-then-is_true}
use Rattle.lrat_machine.proofs.additions.assume_negations.Goals.{
  then-is_true-via-else-is_true+then-is_true-2,
}

pub returns-then-is_true-clause-distinct : goal.returns-then-is_true-clause-distinct
returns-then-is_true-clause-distinct c =
    let T = c.grow.new.self.literals in
    let i = c.loop-lit.lit-index in
    let negated : T ≡ map negation (take i c.args.clause.now) = c.in_ok-grow.ensures.literals
    ∙ c.loop-lit.invariant.negated in
    elim c.then-is_true.branch [
      | then-is_true-via-then-is_true w ↦
          not_apart c.args.clause.now i c.lit-item.result c.loop-lit-test.true
          c.lit-item.is T negated
          (sym w.if-is_true.ensures)
      | then-is_true-via-else-is_true+then-is_true-2 w ↦
          not_single c.args.clause.now i c.lit-item.result c.loop-lit-test.true c.lit-item.is T
          negated (ap (λ k. contains_literal k T) (sym w.negation.ensures)
          ∙ sym w.if-is_true-2.ensures)
    ]

pub loop-lit-preserved : goal.loop-lit-preserved
loop-lit-preserved c =
    let T = c.grow.new.self.literals in
    let i = c.loop-lit.lit-index in
    let d = c.args.clause.now in
    let l = c.lit-item.result in
    let negated : T ≡ map negation (take i d) = c.in_ok-grow.ensures.literals
    ∙ c.loop-lit.invariant.negated in
    let now = c.in_ok-assume.ensures.ok in
    let literals : c.assume.new.self.literals ≡ T ++ negation l ∷ [] = ap (λ a. a.literals) now
    ∙ ap (λ k. T ++ k ∷ []) c.negation-in-loop-lit.ensures in
    let variables : c.assume.new.self.variables ≡ c.grow.new.self.variables =
    ap (λ a. a.variables) now in
    record {
      negated = literals ∙ negations_more d i l c.loop-lit-test.true c.lit-item.is T negated;
      single =
          single_more d i l c.loop-lit-test.true c.lit-item.is T negated c.loop-lit.invariant.single
          (ap (λ k. contains_literal k T) (sym c.negation.ensures) ∙ sym c.if-is_true-2.ensures);
      apart =
          apart_more d i l c.loop-lit-test.true c.lit-item.is T negated c.loop-lit.invariant.apart
          (sym c.if-is_true.ensures);
      within =
          within_more d i l c.loop-lit-test.true c.lit-item.is c.loop-lit.assumed.variables
          c.assume.new.self.variables (omega (arith, c.in_ok-grow.ensures.more))
          c.loop-lit.invariant.within
          (omega (arith, c.in_ok-grow.ensures.ok, c.variable.ensures.variable));
      more = omega (arith, c.in_ok-grow.ensures.more);
    }
