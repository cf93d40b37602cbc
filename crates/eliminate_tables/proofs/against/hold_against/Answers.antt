-- A second literal that is not marked, or one of which neither sign is, ends the search.
use Rattle.std.proofs.Common.{◌≡◌, ◌∙◌, false, take, sym, ap, subst, rules}
use Rattle.std.proofs.lemmas.List.{take_all}
use Rattle.cnf.specs.Literal.{negation}
use Rattle.cnf.specs.Marks.{mark_of}
use Rattle.eliminate_tables.specs.Against.{unmarked}
use Rattle.eliminate_tables.specs.declared.against.Against.TheVariants.{Within}
use Rattle.eliminate_tables.proofs.Lying.{IsOpen, apart_second, apart_neither, open_lies}
use Rattle.eliminate_tables.proofs.against.hold_against.Goals as goal
use Rattle.eliminate_tables.proofs.against.hold_against.Goals.{then-ne-via-then-ne}
use Rattle.eliminate_tables.proofs.against.hold_against.Goals.{
  then-ne-via-else-ne+then-not-is_marked-2,
}

pub returns-then-ne-clause-exact : goal.returns-then-ne-clause-exact
returns-then-ne-clause-exact c =
    let here : mark_of c.args.marks.now c.lit-item.result ≡ false =
    sym c.is_marked.ensures ∙ c.if-not-is_marked.true in
    elim c.then-ne.branch [
      | then-ne-via-then-ne w ↦
          let other : c.loop-lit.found ≡ Within → ⊥ =
          (let h = w.if-ne.ensures in let g = c.ne.ensures in search rules) in
          sym (apart_second c.args.marks.now c.args.lits.now c.loop-lit.lit-index c.lit-item.result
          c.loop-lit.found c.loop-lit-test.true c.lit-item.is here other c.loop-lit.invariant)
      | then-ne-via-else-ne+then-not-is_marked-2 w ↦
          let complement : mark_of c.args.marks.now (negation c.lit-item.result) ≡ false =
          ap (mark_of c.args.marks.now) (sym w.negation.ensures) ∙ sym w.is_marked-else-ne.ensures
          ∙ w.if-not-is_marked-2.true in
          sym (apart_neither c.args.marks.now c.args.lits.now c.loop-lit.lit-index c.lit-item.result
          c.loop-lit.found c.loop-lit-test.true c.lit-item.is here complement
          c.loop-lit.invariant)
    ]

pub returns-clause-lies : goal.returns-clause-lies
returns-clause-lies c =
    let whole : take c.loop-lit.lit-index c.args.lits.now ≡ c.args.lits.now =
    take_all c.loop-lit.lit-index c.args.lits.now c.loop-lit-test.false in
    open_lies c.args.marks.now c.args.lits.now c.loop-lit.found
    (subst (λ part. IsOpen c.args.marks.now (unmarked c.args.marks.now part) c.loop-lit.found)
    whole c.loop-lit.invariant)
