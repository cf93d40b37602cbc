-- Levels are at most as many as literals, and stamps say which were met.
use Rattle.std.proofs.Common.{◌≡◌, ℕ, zero, suc, ◌+◌, ◌<◌, ◌≤◌, true, false, List, [], ◌∷◌, length}
use Rattle.std.proofs.Common.{get_or, set, take, Option, Some, None, refl, sym, ◌∙◌, ap, inl, inr}
use Rattle.std.proofs.Common.{arith}
use Rattle.std.specs.Prelude.{◌==◌, nat_lt, unwrap_or}
use Rattle.std.specs.List.{list_any}
use Rattle.std.proofs.lemmas.Bool.{cases_Bool, cases_eq, eq-eqb, ne_eqb, lt-ltb}
use Rattle.std.proofs.lemmas.List.{get_or-set_other, get_or-set_same, length-set}
use Rattle.std.proofs.lemmas.List.Sums.{count_by-le-length, fold_more}
use Rattle.cnf.specs.Literal.{Literal}
use Rattle.propagate.specs.Trail.{Assigned, is_decision, depth_of, level_in}
use Rattle.propagate.specs.Trail.{level_of}
use Rattle.propagate.proofs.Laws.{level_from-le}
use Rattle.cdcl_order.specs.Levels.{with_level, levels_of}

-- Levels.

unwrapped_low : (o : Option ℕ) (most : ℕ) → ((k : ℕ) → o ≡ Some k → k ≤ most)
    → unwrap_or o 0 ≤ most
unwrapped_low None most h = omega arith
unwrapped_low (Some k) most h = h k refl

pub level_low : (T : List Assigned) (l : Literal) → level_of T l ≤ length T
level_low T l =
    let deep : depth_of T ≤ length T = count_by-le-length is_decision T in
    unwrapped_low (level_in T l.variable) (length T)
    (λ k e. let low = level_from-le 0 T l.variable k e in omega arith)

-- Stamps.

-- just the levels that were met have the stamp
pub record AreStamped (stamps : List ℕ) (count : ℕ) (met : List ℕ) : Type 0 where
  pub says : (k : ℕ) → k < length stamps
      → list_any (λ m. m == k) met ≡ (get_or stamps k 0 == count)

-- a level is met for the first time
pub stamped_more : (stamps : List ℕ) (count : ℕ) (met : List ℕ) (k : ℕ)
    → AreStamped stamps count met → k < length stamps
    → AreStamped (set stamps k count) count (k ∷ met)
stamped_more stamps count met k s inside = record {
  says = λ j below. elim (cases_eq j k) [
    | inl same ↦
        let here : get_or (set stamps k count) j 0 ≡ count =
        ap (λ i. get_or (set stamps k count) i 0) same ∙ get_or-set_same stamps k count 0 inside in
        let hit : (k == j) ≡ true = eq-eqb k j (sym same) in
        rw hit (sym (eq-eqb (get_or (set stamps k count) j 0) count here))
    | inr other ↦
        let miss : (k == j) ≡ false = ne_eqb k j (λ e. other (sym e)) in
        let there : get_or (set stamps k count) j 0 ≡ get_or stamps j 0 =
        get_or-set_other stamps k j count 0 other in
        rw miss (s.says j (let long = length-set stamps k count in omega arith)
        ∙ ap (λ n. n == count) (sym there))
  ];
}

-- a literal's level comes to the list where it is above 0 and has no stamp
pub met_first : (stamps : List ℕ) (count : ℕ) (met : List ℕ) (k : ℕ)
    → AreStamped stamps count met → k < length stamps → 0 < k
    → (get_or stamps k 0 ≡ count → ⊥) → with_level met k ≡ k ∷ met
met_first stamps count met k s inside above fresh =
    let off : list_any (λ m. m == k) met ≡ false =
    s.says k inside ∙ ne_eqb (get_or stamps k 0) count fresh in
    rw (lt-ltb 0 k above, off) refl

with_old : (met : List ℕ) (k : ℕ) → list_any (λ m. m == k) met ≡ true → with_level met k ≡ met
with_old met k on = elim (cases_Bool (nat_lt 0 k)) [ inl a ↦ rw (a, on) refl | inr b ↦ rw b refl ]

pub met_before : (stamps : List ℕ) (count : ℕ) (met : List ℕ) (k : ℕ)
    → AreStamped stamps count met → k < length stamps → (0 < k → get_or stamps k 0 ≡ count)
    → with_level met k ≡ met
met_before stamps count met zero s inside old = refl
met_before stamps count met (suc n) s inside old =
    let on : list_any (λ m. m == suc n) met ≡ true =
    s.says (suc n) inside ∙ eq-eqb (get_or stamps (suc n) 0) count (old (omega arith)) in
    with_old met (suc n) on

pub levels_more : (T : List Assigned) (lits : List Literal) (i : ℕ) (d : Literal)
    → i < length lits
    → levels_of T (take (i + 1) lits) ≡ with_level (levels_of T (take i lits))
    (level_of T (get_or lits i d))
levels_more T lits i d lt = fold_more (λ met l. with_level met (level_of T l)) [] lits i d lt
