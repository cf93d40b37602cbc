-- The clause is live, and is short or not.
use Rattle.std.proofs.Common.{◌≡◌, ◌<◌, true, false, ◌&&◌, List, [], length, get_or, refl, sym, ◌∙◌}
use Rattle.std.proofs.Common.{ap, subst, arith}
use Rattle.std.specs.Prelude.{nat_le}
use Rattle.std.specs.List.{list_all}
use Rattle.std.proofs.lemmas.Bool.{le-leb, lt-leb}
use Rattle.std.proofs.lemmas.List.{length-map}
use Rattle.std.proofs.lemmas.List.Folds.{list_all_at, list_all_more}
use Rattle.cnf.specs.Literal.{Literal}
use Rattle.clauses.specs.Slots.{Slots, IsLive}
use Rattle.clauses.specs.Slots.{clause_under, clauses_under}
use Rattle.eliminate_tables.proofs.Counted.{under_at}
use Rattle.eliminate_tables.proofs.worthwhile.are_few_and_short.Goals as goal

pub lits-requires : goal.lits-requires
lits-requires c =
    subst (IsLive c.args.store.now.slots) (sym c.reference-item.is)
    (c.requires c.loop-reference.reference-index c.reference-item.result
    c.loop-reference-test.true)

-- a clause that is too long
pub returns-then-lits-gt-LONGEST_PARENT : goal.returns-then-lits-gt-LONGEST_PARENT
returns-then-lits-gt-LONGEST_PARENT c =
    let slots : Slots = c.args.store.now.slots in
    let cs : List (List Literal) = clauses_under slots c.args.references.now in
    let at : get_or cs c.loop-reference.reference-index [] ≡ c.lits.result.now =
    under_at slots c.args.references.now c.loop-reference.reference-index c.reference-item.result
    c.lits.result.now c.loop-reference-test.true c.reference-item.is c.lits.ensures in
    let lt : c.loop-reference.reference-index < length cs =
    omega (
      arith,
      length-map c.args.references.now (clause_under slots),
      c.loop-reference-test.true,
    ) in
    let long : nat_le (length c.lits.result.now) 100 ≡ false =
    lt-leb _ _ (omega (arith, c.if-lits-gt-LONGEST_PARENT.true)) in
    let none : list_all (λ d. nat_le (length d) 100) cs ≡ false =
    list_all_at (λ d. nat_le (length d) 100) cs c.loop-reference.reference-index [] lt
    (ap (λ d. nat_le (length d) 100) at ∙ long) in
    rw none refl

pub loop-reference-preserved : goal.loop-reference-preserved
loop-reference-preserved c =
    let slots : Slots = c.args.store.now.slots in
    let cs : List (List Literal) = clauses_under slots c.args.references.now in
    let at : get_or cs c.loop-reference.reference-index [] ≡ c.lits.result.now =
    under_at slots c.args.references.now c.loop-reference.reference-index c.reference-item.result
    c.lits.result.now c.loop-reference-test.true c.reference-item.is c.lits.ensures in
    let lt : c.loop-reference.reference-index < length cs =
    omega (
      arith,
      length-map c.args.references.now (clause_under slots),
      c.loop-reference-test.true,
    ) in
    let short : nat_le (length c.lits.result.now) 100 ≡ true =
    le-leb _ _ (omega (arith, c.if-lits-gt-LONGEST_PARENT.false)) in
    list_all_more (λ d. nat_le (length d) 100) cs c.loop-reference.reference-index [] lt
    ∙ ap (λ b. b && nat_le (length (get_or cs c.loop-reference.reference-index [])) 100)
    c.loop-reference.invariant
    ∙ ap (λ d. nat_le (length d) 100) at ∙ short
