-- A stamp that is taken away changes neither costs nor values.
use Rattle.std.proofs.Common.{◌∙◌, ◌<◌, ◌≢◌, None, pos, length, get_or, set, refl, arith}
use Rattle.std.proofs.Common.{below_more, get_or-set_other, get_or-set_same}
use Rattle.linear.specs.declared.terms.Term.{Term}
use Rattle.linear.proofs.Places.{map_same}
use Rattle.linear.proofs.terms.take_stamps.Goals as goal

pub loop-term-preserved : goal.loop-term-preserved
loop-term-preserved c =
    let ts = c.loop-term.terms in
    let i = c.loop-term.term-index in
    let d : Term = record { added = pos 0; cost = pos 0; stamp = 0; value = None } in
    let t = record (get_or ts i d) { stamp = 0 } in
    let lt : i < length ts = omega arith in
    record {
      costs = map_same (λ u. u.cost) ts i t d lt refl ∙ (c.loop-term.invariant).costs;
      values = map_same (λ u. u.value) ts i t d lt refl ∙ (c.loop-term.invariant).values;
      none = below_more (λ k. (e : Term) → (get_or (set ts i t) k e).stamp < 1) i
          (λ k h e. let ne : k ≢ i = omega arith in
          rw (get_or-set_other ts i k t e ne) ((c.loop-term.invariant).none k h e))
          (λ e. rw (get_or-set_same ts i t e lt) (omega arith));
    }
