-- What is known of literals that are there.
use Rattle.std.proofs.Common.{◌≡◌, ℕ, ◌+◌, ◌*◌, ◌<◌, ◌≤◌, true, false, not}
use Rattle.std.proofs.Common.{◌||◌, List}
use Rattle.std.proofs.Common.{[], ◌∷◌, length, map, arith, subst, inl, inr}
use Rattle.std.specs.Prelude.{nat_le}
use Rattle.std.specs.List.{All, AllByRecursion, IsDistinct, list_any}
use Rattle.std.proofs.lemmas.Bool.{and_parts, eqb-true, false≢true, leb-true, ne_eqb, not-true}
use Rattle.std.proofs.lemmas.Bool.{or_cases, or_parts}
use Rattle.std.proofs.Math.Dec.{eqb}
use Rattle.std.proofs.lemmas.List.{length-map}
use Rattle.std.proofs.lemmas.List.Elements.{All-from_recursion, All-weaker, recursion_from_All}
use Rattle.std.proofs.lemmas.Map.Steps.{length-le_from_distinct_below}
use Rattle.cnf.specs.Literal.{Literal}
use Rattle.cnf.specs.Clause.{greatest_variable, has_repeat, is_tautology}
use Rattle.cnf.specs.Marks.{HasPlace}
use Rattle.cnf.proofs.Laws.{places_each}
use Rattle.totalizer.proofs.Laws.{AreDifferent, IsNew, below_greatest, different_from}
use Rattle.forms.specs.Forms.{Forms, are_known}

pub record IsKnown (s : Forms) (c : List Literal) : Type 0 where
  pub below : greatest_variable c ≤ s.variables
  pub once : has_repeat c ≡ false
  pub open_one : is_tautology c ≡ false

pub known : (s : Forms) (c : List Literal) → are_known s c ≡ true → IsKnown s c
known s c h =
    let p = and_parts (nat_le (greatest_variable c) s.variables)
    (not (has_repeat c || is_tautology c)) h in
    let q = or_parts (has_repeat c) (is_tautology c)
    (not-true (has_repeat c || is_tautology c) p.1) in
    record {
      below = leb-true (greatest_variable c) s.variables p.0;
      once = q.0;
      open_one = q.1;
    }

-- with places for the marks of their literals
pub known_places : (n rows : ℕ) (c : List Literal) → 2 * n ≤ rows → greatest_variable c ≤ n
    → All (λ l. 0 < l.variable) c → All (HasPlace rows) c
known_places n rows c h below some =
    All-from_recursion (HasPlace rows) c
    (places_each n rows c h (recursion_from_All (λ l. 0 < l.variable) c some) below)

-- a new variable is none of these
apart : (l : Literal) (c : List Literal) → IsNew l c
    → AllByRecursion (λ y. eqb l.variable y ≡ false) (map (λ k. k.variable) c)
apart l [] h = tt
apart l (k ∷ c) h = (ne_eqb l.variable k.variable h.0, apart l c h.1)

all_apart : (c : List Literal) → AreDifferent c → IsDistinct eqb (map (λ k. k.variable) c)
unfolding IsDistinct
all_apart [] h = tt
all_apart (l ∷ c) h = (apart l c h.0, all_apart c h.1)

small : (n : ℕ) (c : List Literal) → greatest_variable c ≤ n
    → (q : ℕ) → list_any (eqb q) (map (λ k. k.variable) c) ≡ true → q < n + 1
small n [] h q e = absurd (false≢true e)
small n (l ∷ c) h q e =
    elim (or_cases (eqb q l.variable) (list_any (eqb q) (map (λ k. k.variable) c)) e) [
      | inl y ↦ let same = eqb-true q l.variable y in omega arith
      | inr y ↦ small n c (omega arith) q y
    ]

-- different variables up to a number are few
pub known_few : (n : ℕ) (c : List Literal) → greatest_variable c ≤ n → has_repeat c ≡ false
    → is_tautology c ≡ false → length c ≤ n + 1
known_few n c h p q =
    subst (λ k. k ≤ n + 1) (length-map c (λ k. k.variable))
    (length-le_from_distinct_below (map (λ k. k.variable) c) (n + 1)
    (all_apart c (different_from c p q)) (small n c h))

-- variables that are below the width have places
pub below_width : (width : ℕ) (c : List Literal) → greatest_variable c < width
    → All (λ l. l.variable < width) c
below_width width c h =
    All-from_recursion (λ l. l.variable < width) c (below_greatest width c h)

-- each variable is at most the greatest one
pub each_within : (n : ℕ) (c : List Literal) → greatest_variable c ≤ n
    → All (λ l. l.variable ≤ n) c
each_within n c h =
    All-weaker (λ l. l.variable < n + 1) (λ l. l.variable ≤ n) (λ l p. omega (arith, p)) c
    (below_width (n + 1) c (omega arith))

pub known_within : (s : Forms) (width : ℕ) (c : List Literal) → s.variables < width
    → are_known s c ≡ true → All (λ l. l.variable < width) c
known_within s width c lt h = below_width width c (omega (arith, (known s c h).below))
