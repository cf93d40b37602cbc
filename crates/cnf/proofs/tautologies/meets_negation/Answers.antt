-- One more literal is marked, and was held against those before it.
use Rattle.std.proofs.Common.{◌≡◌, ◌+◌, ◌∙◌, ◌||◌, ap, arith, false, length, length-set, set, subst}
use Rattle.std.proofs.Common.{sym, take, true}
use Rattle.std.proofs.lemmas.List.{length-replicate}
use Rattle.cnf.specs.Literal.{index_of}
use Rattle.cnf.specs.Marks.{mark_of, IsMarked, HasPlace}
use Rattle.cnf.proofs.Complements.{mark_step}
use Rattle.cnf.proofs.tautologies.meets_negation.Goals as goal

pub loop-lit-preserved : goal.loop-lit-preserved
loop-lit-preserved c =
    let l = c.lit-item.result in
    let marks = c.loop-lit.marks in
    let now : c.mark.new.self ≡ set marks (index_of l) true = c.mark.ensures in
    let n = length c.args.marks.now in
    let same : length marks ≡ n =
    omega (
      arith,
      c.loop-lit.invariant.long,
      ap length c.clear.ensures,
      length-replicate n false,
    ) in
    let place : HasPlace (length marks) l =
    subst (λ m. HasPlace m l) (sym same)
    (subst (HasPlace n) (sym c.lit-item.is)
    (c.requires c.loop-lit.lit-index l c.loop-lit-test.true)) in
    let found = c.is_marked-found.ensures ∙ ap (mark_of marks) c.negation.ensures in
    let step =
    mark_step marks c.loop-lit.found c.args.lits.now c.loop-lit.lit-index l c.loop-lit-test.true
    c.lit-item.is place (c.loop-lit.invariant.marked, c.loop-lit.invariant.value) in
    record {
      long = ap length now ∙ length-set marks (index_of l) true ∙ c.loop-lit.invariant.long;
      marked =
          subst (λ m. IsMarked m (take (c.loop-lit.lit-index + 1) c.args.lits.now))
          (sym now) step.0;
      value = ap (λ b. c.loop-lit.found || b) found ∙ step.1;
    }
