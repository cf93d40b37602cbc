-- One more literal is marked, and was held against those before it.
use Rattle.std.proofs.Common.{◌≡◌, ◌+◌, ◌∙◌, ◌||◌, ap, arith, false, length, length-set, set, subst}
use Rattle.std.proofs.Common.{sym, take, true}
use Rattle.std.proofs.lemmas.List.{length-replicate}
use Rattle.cnf.specs.Literal.{index_of}
use Rattle.cnf.specs.Marks.{mark_of, IsMarked, HasPlace}
use Rattle.forms.proofs.Repeating.{step}
use Rattle.forms.proofs.known.repeats_variable.Goals as goal

pub loop-lit-preserved : goal.loop-lit-preserved
loop-lit-preserved c =
    let l = c.lit-item.result in
    let marks = c.loop-lit.marks in
    let now : c.mark.new.self ≡ set marks (index_of l) true = c.mark.ensures in
    let n = length c.args.marks.now in
    let same : length marks ≡ n =
    omega (
      arith,
      c.loop-lit.invariant.long,
      ap length c.clear.ensures,
      length-replicate n false,
    ) in
    let place : HasPlace (length marks) l =
    subst (λ m. HasPlace m l) (sym same)
    (subst (HasPlace n) (sym c.lit-item.is)
    (c.requires c.loop-lit.lit-index l c.loop-lit-test.true)) in
    let found =
    c.is_marked-is_complemented.ensures ∙ ap (mark_of marks) c.negation.ensures in
    let next =
    step marks c.loop-lit.is_repeated c.loop-lit.is_complemented c.args.lits.now
    c.loop-lit.lit-index l c.loop-lit-test.true c.lit-item.is place c.loop-lit.invariant.marked
    c.loop-lit.invariant.repeated c.loop-lit.invariant.complemented in
    record {
      long = ap length now ∙ length-set marks (index_of l) true ∙ c.loop-lit.invariant.long;
      marked =
          subst (λ m. IsMarked m (take (c.loop-lit.lit-index + 1) c.args.lits.now))
          (sym now) next.0;
      repeated =
          ap (λ b. c.loop-lit.is_repeated || b) c.is_marked-is_repeated.ensures ∙ next.1;
      complemented = ap (λ b. c.loop-lit.is_complemented || b) found ∙ next.2;
    }
