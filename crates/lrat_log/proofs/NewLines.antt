-- Lines that are new at their places: where none is learned, and one list after another.
use Rattle.std.proofs.Common.{◌≡◌, ℕ, ◌+◌, ◌<◌, ◌≤◌, Bool, true, List, [], ◌∷◌, ◌++◌, append_assoc}
use Rattle.std.proofs.Common.{append-nil, sym, ◌∙◌, ap, subst, arith}
use Rattle.std.specs.Prelude.{◌&&◌, nat_le, if◌then◌else◌}
use Rattle.std.proofs.lemmas.Bool.{le-leb}
use Rattle.std.proofs.lemmas.List.Sums.{sum_by-cons}
use Rattle.lrat_log.specs.Log.{LogLine, Given, is_learned}
use Rattle.lrat_log.specs.Steps.{LearnsNew, is_later, learned_count}

-- the ids after the first ones
pub later_true : (first last i : ℕ) → first < i → i ≤ last → is_later first last i ≡ true
later_true first last i h k = ap (λ b. b && nat_le i last) (le-leb (first + 1) i (omega arith))
    ∙ le-leb i last k

module _ (exempt : ℕ → Bool) (given : Given) (base : ℕ) where
  pub none_new : (before ls : List LogLine) → learned_count ls ≡ 0
      → LearnsNew exempt given base before ls
  none_new before [] h = tt
  none_new before (l ∷ ls) h =
      let parts = sum_by-cons (λ (l : LogLine). if is_learned l.kind then 1 else 0) l ls in (
        λ e. absurd (omega (arith, h, parts, ap {B = ℕ} (λ b. if b then 1 else 0) e)),
        none_new (before ++ l ∷ []) ls (omega (arith, h, parts)),
      )

  pub append_new : (before a b : List LogLine) → LearnsNew exempt given base before a
      → LearnsNew exempt given base (before ++ a) b → LearnsNew exempt given base before (a ++ b)
  append_new before [] b h k = subst (λ x. LearnsNew exempt given base x b) (append-nil before) k
  append_new before (l ∷ a) b h k = (
    h.0,
    append_new (before ++ l ∷ []) a b h.1
        (subst (λ x. LearnsNew exempt given base x b) (sym (append_assoc before (l ∷ []) a)) k),
  )

  -- a search that begins with no learned line
  pub first_new : (old since new : List LogLine) → learned_count old ≡ 0 → new ≡ old ++ since
      → LearnsNew exempt given base old since → LearnsNew exempt given base [] new
  first_new old since new h e k =
      subst (LearnsNew exempt given base []) (sym e) (append_new [] old since (none_new [] old h) k)
