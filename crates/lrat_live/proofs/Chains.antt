-- Hash chains: what a walk down a chain knows, and what a push does.
use Rattle.std.proofs.Common.{◌≡◌, ◌≢◌, ℕ, zero, suc, ◌+◌, ◌<◌, ◌≤◌, Bool, true, false, List, []}
use Rattle.std.proofs.Common.{◌∷◌, ◌++◌, length, take, set, refl, sym, ◌∙◌, ap, subst, arith, inl}
use Rattle.std.proofs.Common.{inr, ◌⊎◌}
use Rattle.std.specs.Prelude.{◌==◌, slice_index, if◌then◌else◌}
use Rattle.std.proofs.lemmas.Bool.{cases_Bool, both_ways, eq-eqb, eqb-true, eqb-false, ne_eqb}
use Rattle.std.proofs.lemmas.Bool.{cases_lt}
use Rattle.std.proofs.lemmas.List.{take-take, take_more, get_or-take, length_push, get_or-set_same}
use Rattle.std.proofs.lemmas.List.{get_or-set_other, take-append-le, get_or_append_left}
use Rattle.std.proofs.lemmas.List.{get_or_push, length-take, length-set, take_at}
use Rattle.lrat_live.specs.Chains.{bucket_of, is_in_bucket, newest, place_of, IsChained}

abbrev Test : Type 0
Test = ℕ → Bool

-- one step of the recursion
pub newest_none : (t : Test) (x : ℕ) (ks : List ℕ) → newest t ks ≡ 0
    → newest t (x ∷ ks) ≡ (if t x then 1 else 0)
newest_none t x ks e = rw e refl

pub newest_some : (t : Test) (x : ℕ) (ks : List ℕ) (n : ℕ) → newest t ks ≡ suc n
    → newest t (x ∷ ks) ≡ suc (suc n)
newest_some t x ks n e = rw e refl

pub newest_first : (t : Test) (x : ℕ) (ks : List ℕ) → newest t ks ≡ 0 → t x ≡ true
    → newest t (x ∷ ks) ≡ 1
newest_first t x ks e h = rw (e, h) refl

pub newest_nowhere : (t : Test) (x : ℕ) (ks : List ℕ) → newest t ks ≡ 0 → t x ≡ false
    → newest t (x ∷ ks) ≡ 0
newest_nowhere t x ks e h = rw (e, h) refl

pub cases_zero : (n : ℕ) → (n ≡ 0) ⊎ ((m : ℕ) × (n ≡ suc m))
cases_zero zero = inl refl
cases_zero (suc m) = inr (m, refl)

pub push_passes : (t : Test) (ks : List ℕ) (k : ℕ) → t k ≡ true
    → newest t (ks ++ k ∷ []) ≡ length ks + 1
push_passes t [] k h = rw h (omega arith)
push_passes t (x ∷ ks) k h =
    newest_some t x (ks ++ k ∷ []) (length ks) (omega (arith, push_passes t ks k h)) ∙ omega arith

pub push_fails : (t : Test) (ks : List ℕ) (k : ℕ) → t k ≡ false
    → newest t (ks ++ k ∷ []) ≡ newest t ks
push_fails t [] k h = rw h refl
push_fails t (x ∷ ks) k h = rw (push_fails t ks k h) refl

pub newest-le : (t : Test) (ks : List ℕ) → newest t ks ≤ length ks
newest-le t [] = omega arith
newest-le t (x ∷ ks) =
    elim (cases_zero (newest t ks)) [
      | inl e ↦ elim (cases_Bool (t x)) [
        | inl h ↦ omega (arith, newest_first t x ks e h)
        | inr h ↦
            omega (arith, newest_nowhere t x ks e h)
      ]
      | inr (n, e) ↦ omega (arith, newest-le t ks, newest_some t x ks n e)
    ]

-- the key at the newest place passes
pub newest_passes : (t : Test) (ks : List ℕ) (p : ℕ) → newest t ks ≡ p + 1
    → t (slice_index ks p) ≡ true
newest_passes t [] p e = absurd (omega arith)
newest_passes t (x ∷ ks) zero e =
    elim (cases_zero (newest t ks)) [
      | inl u ↦ elim (cases_Bool (t x)) [
        | inl h ↦ h
        | inr h ↦
            absurd (omega (arith, newest_nowhere t x ks u h))
      ]
      | inr (n, u) ↦ absurd (omega (arith, newest_some t x ks n u))
    ]
newest_passes t (x ∷ ks) (suc p) e =
    elim (cases_zero (newest t ks)) [
      | inl u ↦ elim (cases_Bool (t x)) [
        | inl h ↦ absurd (omega (arith, newest_first t x ks u h))
        | inr h ↦ absurd (omega (arith, newest_nowhere t x ks u h))
      ]
      | inr (n, u) ↦ newest_passes t ks p (omega (arith, newest_some t x ks n u))
    ]

-- one that passes only where another does is looked for up to the newest of the other
pub newest_narrow : (s t : Test) → ((k : ℕ) → s k ≡ true → t k ≡ true) → (ks : List ℕ)
    → newest s (take (newest t ks) ks) ≡ newest s ks
newest_narrow s t i [] = refl
newest_narrow s t i (x ∷ ks) =
    let h = newest_narrow s t i ks in
    elim (cases_zero (newest t ks)) [
      | inr (n, u) ↦
          let g : newest s (take (suc n) ks) ≡ newest s ks =
          subst (λ m. newest s (take m ks) ≡ newest s ks) u h in
          rw (newest_some t x ks n u, g) refl
      | inl u ↦
          let g : 0 ≡ newest s ks = subst (λ m. newest s (take m ks) ≡ newest s ks) u h in
          elim (cases_Bool (t x)) [
            | inl a ↦ rw (newest_first t x ks u a, newest_none s x ks (sym g)) refl
            | inr a ↦ elim (cases_Bool (s x)) [
              | inl b ↦ absurd (both_ways _ a (i x b))
              | inr b ↦ rw (newest_nowhere t x ks u a, newest_nowhere s x ks (sym g) b) refl
            ]
          ]
    ]

pub same_bucket : (m key k : ℕ) → (k == key) ≡ true → is_in_bucket m (bucket_of m key) k ≡ true
same_bucket m key k e = eq-eqb _ _ (ap (bucket_of m) (eqb-true k key e))

-- where a walk down the chain of a key has come
pub record IsOnWalk (buckets key : ℕ) (keys : List ℕ) (p : ℕ) : Type 0 where
  pub in_chain : newest (is_in_bucket buckets (bucket_of buckets key)) (take p keys) ≡ p
  pub below : place_of key (take p keys) ≡ place_of key keys

module _ (buckets key : ℕ) (keys : List ℕ) where
  abbrev of_bucket : Test
  of_bucket = is_in_bucket buckets (bucket_of buckets key)

  abbrev is_key : Test
  is_key k = k == key

  pub walk_bound : (p : ℕ) → IsOnWalk buckets key keys p → p ≤ length keys
  walk_bound p w = omega (arith, w.in_chain, newest-le of_bucket (take p keys), length-take p keys)

  pub walk_start : (heads nexts : List ℕ) → IsChained buckets heads keys nexts
      → bucket_of buckets key < buckets
      → IsOnWalk buckets key keys (slice_index heads (bucket_of buckets key))
  walk_start heads nexts c h =
      let e = c.heads_at (bucket_of buckets key) h in
      record {
        in_chain = rw e (newest_narrow of_bucket of_bucket (λ k z. z) keys);
        below = rw e (newest_narrow is_key of_bucket (same_bucket buckets key) keys);
      }

  pub walk_found : (q : ℕ) → IsOnWalk buckets key keys (q + 1) → slice_index keys q ≡ key
      → place_of key keys ≡ q + 1
  walk_found q w e =
      let l : q < length keys = omega (arith, walk_bound (q + 1) w) in
      let z : newest is_key (take (q + 1) keys) ≡ length (take q keys) + 1 =
      rw (take_more keys q 0 l) (push_passes is_key (take q keys) (slice_index keys q)
      (eq-eqb _ _ e)) in
      omega (arith, z, w.below, length-take q keys)

  pub walk_end : IsOnWalk buckets key keys 0 → place_of key keys ≡ 0
  walk_end w = sym w.below

  -- the chain of a bucket, from one of its keys to the next older
  module _ (heads nexts : List ℕ) (c : IsChained buckets heads keys nexts) (q : ℕ)
      (w : newest of_bucket (take (q + 1) keys) ≡ q + 1) where
    pub chain_bound : q < length keys
    chain_bound = omega (arith, newest-le of_bucket (take (q + 1) keys), length-take (q + 1) keys)

    pub chain_next : slice_index nexts q ≡ newest of_bucket (take q keys)
    chain_next =
        let same : slice_index (take (q + 1) keys) q ≡ slice_index keys q =
        get_or-take (q + 1) keys q 0 (omega arith) in
        let passes : of_bucket (slice_index keys q) ≡ true =
        subst (λ k. of_bucket k ≡ true) same (newest_passes of_bucket (take (q + 1) keys) q w) in
        let bucket : bucket_of buckets (slice_index keys q) ≡ bucket_of buckets key =
        eqb-true _ _ passes in
        c.nexts_at q chain_bound ∙ ap (λ b. newest (is_in_bucket buckets b) (take q keys)) bucket

    pub chain_falls : slice_index nexts q ≤ q
    chain_falls = omega (arith, chain_next, newest-le of_bucket (take q keys), length-take q keys)

    chain_cut : take (slice_index nexts q) (take q keys) ≡ take (slice_index nexts q) keys
    chain_cut = take-take _ _ keys chain_falls

    pub chain_step : newest of_bucket (take (slice_index nexts q) keys) ≡ slice_index nexts q
    chain_step = rw (← chain_cut) (ap (λ n. newest of_bucket (take n (take q keys))) chain_next
        ∙ newest_narrow of_bucket of_bucket (λ k z. z) (take q keys) ∙ sym chain_next)

    pub walk_step : IsOnWalk buckets key keys (q + 1) → slice_index keys q ≢ key
        → IsOnWalk buckets key keys (slice_index nexts q)
    walk_step on ne =
        let front : place_of key (take (q + 1) keys) ≡ place_of key (take q keys) =
        rw (take_more keys q 0 chain_bound) (push_fails is_key (take q keys) (slice_index keys q)
        (ne_eqb _ _ ne)) in
        record {
          in_chain = chain_step;
          below = rw (← chain_cut) (ap (λ n. place_of key (take n (take q keys))) chain_next
              ∙ newest_narrow is_key of_bucket (same_bucket buckets key) (take q keys) ∙ sym front
              ∙ on.below);
        }

-- one more key, linked to the head of its bucket
module _ (buckets : ℕ) (heads keys nexts : List ℕ) (key place : ℕ) (linked : List ℕ)
    (c : IsChained buckets heads keys nexts) (at : place ≡ length keys + 1)
    (within : bucket_of buckets key < buckets) (kept : (i : ℕ) → i < length keys
    → slice_index linked i ≡ slice_index nexts i) (link : slice_index linked (length keys)
    ≡ slice_index heads (bucket_of buckets key)) where
  abbrev b₀ : ℕ
  b₀ = bucket_of buckets key

  push_head : (b : ℕ) → b < buckets
      → slice_index (set heads b₀ place) b ≡ newest (is_in_bucket buckets b) (keys ++ key ∷ [])
  push_head b h =
      elim (cases_Bool (is_in_bucket buckets b key)) [
        | inl e ↦
            let same : b₀ ≡ b = eqb-true _ _ e in
            let there : b₀ < length heads = omega (arith, c.all) in
            let z : slice_index (set heads b₀ place) b₀ ≡ place =
            get_or-set_same heads b₀ place 0 there in
            subst (λ x. slice_index (set heads b₀ place) x ≡ newest (is_in_bucket buckets b)
            (keys ++ key ∷ [])) same (z ∙ at
            ∙ sym (push_passes (is_in_bucket buckets b) keys key e))
        | inr e ↦
            let other : b ≢ b₀ = λ u. eqb-false _ _ e (sym u) in
            get_or-set_other heads b₀ b place 0 other ∙ c.heads_at b h
            ∙ sym (push_fails (is_in_bucket buckets b) keys key e)
      ]

  push_next : (i : ℕ) → i < length (keys ++ key ∷ [])
      → slice_index linked i
      ≡ newest (is_in_bucket buckets (bucket_of buckets (slice_index (keys ++ key ∷ []) i)))
      (take i (keys ++ key ∷ []))
  push_next i h =
      elim (cases_lt i (length keys)) [
        | inl l ↦
            let k : slice_index (keys ++ key ∷ []) i ≡ slice_index keys i =
            get_or_append_left keys (key ∷ []) 0 i l in
            let t : take i (keys ++ key ∷ []) ≡ take i keys =
            take-append-le i keys (key ∷ []) (omega arith) in
            rw (k, t) (kept i l ∙ c.nexts_at i l)
        | inr g ↦
            let e : length keys ≡ i = omega (arith, length_push keys key) in
            let k : slice_index (keys ++ key ∷ []) i ≡ key = get_or_push keys key 0 i e in
            let t : take i (keys ++ key ∷ []) ≡ keys = take_at keys (key ∷ []) i e in
            rw (k, t) (subst (λ n. slice_index linked n ≡ newest (is_in_bucket buckets b₀) keys) e
            (link ∙ c.heads_at b₀ within))
      ]

  pub chained_push : IsChained buckets (set heads b₀ place) (keys ++ key ∷ []) linked
  chained_push =
      record { all = length-set heads b₀ place ∙ c.all; heads_at = push_head; nexts_at = push_next }
