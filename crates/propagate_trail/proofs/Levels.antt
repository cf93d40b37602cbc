-- What is kept of a trail up to a level.
use Rattle.std.proofs.Common.{◌≡◌, ℕ, ◌+◌, ◌<◌, ◌≤◌, leb, List, [], ◌∷◌, ◌++◌}
use Rattle.std.proofs.Common.{Some, inl, inr, refl, sym, ◌∙◌, ap, subst, arith}
use Rattle.std.specs.Prelude.{◌==◌}
use Rattle.std.proofs.lemmas.Bool.{cases_Bool, le-leb, lt-leb, cond-true, cond-false}
use Rattle.std.proofs.lemmas.Option.{none-some, same_Some}
use Rattle.propagate_trail.specs.Trail.{Assigned, depth_of, is_decision, level_after, kept_from}
use Rattle.propagate_trail.specs.Trail.{kept_to, level_from}
use Rattle.propagate_trail.proofs.Trails.{depth-cons, depth_push}

pub depth_step : (n : ℕ) (a : Assigned) (T : List Assigned)
    → level_after n a + depth_of T ≡ n + depth_of (a ∷ T)
depth_step n a T =
    rw (depth-cons a T) (elim (cases_Bool (is_decision a)) [
      | inl h ↦ rw h (omega arith)
      | inr h ↦
          rw h (omega arith)
    ])

pub level_from-le : (n : ℕ) (T : List Assigned) (v m : ℕ) → level_from n T v ≡ Some m
    → m ≤ n + depth_of T
level_from-le n [] v m e = absurd (none-some m e)
level_from-le n (a ∷ T) v m e = elim (cases_Bool (a.literal.variable == v)) [
  | inl s ↦ let same : level_after n a ≡ m = same_Some (level_after n a) m (rw s at e) in
      omega (arith, depth_step n a T)
  | inr s ↦ let rest = level_from-le (level_after n a) T v m (rw s at e) in
      omega (arith, depth_step n a T)
]

pub kept_all_from : (n to : ℕ) (T : List Assigned) → n + depth_of T ≤ to → kept_from n to T ≡ T
kept_all_from n to [] h = refl
kept_all_from n to (a ∷ T) h =
    let e = depth_step n a T in
    cond-true (leb (level_after n a) to) (a ∷ kept_from (level_after n a) to T) []
    (le-leb (level_after n a) to (omega arith))
    ∙ ap (λ x. a ∷ x) (kept_all_from (level_after n a) to T (omega arith))

pub kept_push_from : (n to : ℕ) (T : List Assigned) (a : Assigned)
    → to < level_after (n + depth_of T) a → kept_from n to (T ++ a ∷ []) ≡ kept_from n to T
kept_push_from n to [] a h =
    cond-false (leb (level_after n a) to) (a ∷ []) []
    (lt-leb (level_after n a) to (subst (λ k. to < level_after k a) (omega arith) h))
kept_push_from n to (b ∷ T) a h = elim (cases_Bool (leb (level_after n b) to)) [
  | inl e ↦ rw e (ap (λ x. b ∷ x)
      (kept_push_from (level_after n b) to T a
      (subst (λ k. to < level_after k a) (sym (depth_step n b T)) h)))
  | inr e ↦ rw e refl
]

pub kept_all : (to : ℕ) (T : List Assigned) → depth_of T ≤ to → kept_to to T ≡ T
kept_all to T h = kept_all_from 0 to T (omega arith)

pub kept_push : (to : ℕ) (T : List Assigned) (a : Assigned) → to < depth_of (T ++ a ∷ [])
    → kept_to to (T ++ a ∷ []) ≡ kept_to to T
kept_push to T a h =
    kept_push_from 0 to T a (subst (λ k. to < level_after k a) (omega arith)
    (subst (λ k. to < k) (depth_push T a) h))

pub depth_grows : (T : List Assigned) (a : Assigned) → depth_of T ≤ depth_of (T ++ a ∷ [])
depth_grows T a =
    rw (depth_push T a) (elim (cases_Bool (is_decision a)) [
      | inl h ↦ rw h (omega arith)
      | inr h ↦
          rw h (omega arith)
    ])
