-- What is marked in a table, as one more mark is set, and clauses whose literals are marked.
use Rattle.std.proofs.Common.{◌≡◌, ℕ, zero, suc, ◌+◌, ◌-◌, ◌*◌, ◌<◌, ◌≤◌, Bool, true, false, ◌||◌}
use Rattle.std.proofs.Common.{List, [], ◌∷◌, ◌++◌, length, take, get_or, set, replicate}
use Rattle.std.proofs.Common.{if◌then◌else◌, refl, sym, ◌∙◌, ap, arith, add-one}
use Rattle.std.proofs.Common.{get_or-set_same, get_or-set_other}
use Rattle.std.specs.Prelude.{All}
use Rattle.std.specs.List.{AllByRecursion}
use Rattle.std.proofs.lemmas.List.Elements.{All-head, All-tail}
use Rattle.std.proofs.lemmas.List.Elements.{All-from_recursion, recursion_from_All}
use Rattle.cnf.specs.Literal.{Literal, literal_eq, index_of}
use Rattle.cnf.specs.Clause.{contains_literal, is_subset, greatest_variable}
use Rattle.cnf.specs.Instance.{IsClauseWithin}
use Rattle.cnf.specs.Marks.{mark_of, IsMarked, HasPlace, are_marked}
use Rattle.cnf.proofs.Sound.{literal_eq-true}
use Rattle.cnf.proofs.Literals.{literal_ne, index_same, contains-push}

place_bound : (v : ℕ) (b : Bool) (rows : ℕ) → 0 < v → 2 * v ≤ rows
    → 2 * (v - 1) + (if b then 1 else 0) < rows
place_bound v true rows p q = omega arith
place_bound v false rows p q = omega arith

pub place_within : (rows : ℕ) (l : Literal) → HasPlace rows l → index_of l < rows
place_within rows l h = place_bound l.variable l.negated rows h.0 h.1

pub places_each : (vars rows : ℕ) (c : List Literal) → 2 * vars ≤ rows
    → AllByRecursion (λ l. 0 < l.variable) c → greatest_variable c ≤ vars
    → AllByRecursion (HasPlace rows) c
places_each vars rows [] h p g = tt
places_each vars rows (l ∷ c) h p g =
    ((p.0, omega arith), places_each vars rows c h p.1 (omega arith))

-- the literals of an instance's clause have places
pub places_within : (vars rows : ℕ) (c : List Literal) → 2 * vars ≤ rows → IsClauseWithin vars c
    → All (HasPlace rows) c
places_within vars rows c h w =
    All-from_recursion (HasPlace rows) c
    (places_each vars rows c h (recursion_from_All (λ l. 0 < l.variable) c w.1) w.2)

-- after a write at the place of l
mark-set : (marks : List Bool) (b : Bool) (k l : Literal) → 0 < k.variable → 0 < l.variable
    → index_of l < length marks
    → mark_of (set marks (index_of l) b) k ≡ (if literal_eq k l then b else mark_of marks k)
mark-set marks b k l p q h =
    elim (literal_eq k l) as (λ x. literal_eq k l ≡ x
    → mark_of (set marks (index_of l) b) k ≡ (if x then b else mark_of marks k)) [
      | true ↦ λ e. ap (mark_of (set marks (index_of l) b)) (literal_eq-true k l e)
          ∙ get_or-set_same marks (index_of l) b false h
      | false ↦ λ e. get_or-set_other marks (index_of l) (index_of k) b false
          (λ same. literal_ne k l e (index_same k l p q same))
    ] refl

-- one literal more is marked
pub marked_one : (marks : List Bool) (c : List Literal) (l : Literal) → HasPlace (length marks) l
    → IsMarked marks c → IsMarked (set marks (index_of l) true) (c ++ l ∷ [])
marked_one marks c l h m = record {
  marked = λ k p. mark-set marks true k l p h.0 (place_within (length marks) l h)
      ∙ by (literal_eq k l) (mark_of marks k) (contains_literal k c) (m.marked k p)
      ∙ sym (contains-push k c l);
}
  where
    by : (b m c : Bool) → m ≡ c → (if b then true else m) ≡ (c || b)
    by true m true e = refl
    by true m false e = refl
    by false m true e = e
    by false m false e = e

pub none_at : (n i : ℕ) → get_or (replicate n false) i false ≡ false
none_at zero i = refl
none_at (suc n) zero = refl
none_at (suc n) (suc i) = none_at n i

pub none_marked : (n : ℕ) → IsMarked (replicate n false) []
none_marked n = record { marked = λ l p. none_at n (index_of l) }

all_so_far : (marks : List Bool) (c : List Literal) (i : ℕ) (l : Literal) → i < length c
    → l ≡ get_or c i l → mark_of marks l ≡ true → are_marked marks (take i c) ≡ true
    → are_marked marks (take (suc i) c) ≡ true
all_so_far marks [] i l h is m a = absurd (omega arith)
all_so_far marks (k ∷ c) zero l h is m a = rw (sym (ap (mark_of marks) is) ∙ m) refl
all_so_far marks (k ∷ c) (suc i) l h is m a =
    elim (mark_of marks k) as (λ b. (if b then are_marked marks (take i c) else false) ≡ true
    → (if b then are_marked marks (take (suc i) c) else false) ≡ true) [
      | true ↦ λ rest. all_so_far marks c i l (omega arith) is m rest
      | false ↦ λ rest. rest
    ] a

-- the first literals are all marked, and so is the next
pub all_next : (marks : List Bool) (c : List Literal) (i : ℕ) (l : Literal) → i < length c
    → l ≡ get_or c i l → mark_of marks l ≡ true → are_marked marks (take i c) ≡ true
    → are_marked marks (take (i + 1) c) ≡ true
all_next marks c i l h is m a = rw add-one (all_so_far marks c i l h is m a)

-- a literal that is not marked
pub not_all : (marks : List Bool) (c : List Literal) (i : ℕ) (l : Literal) → i < length c
    → l ≡ get_or c i l → mark_of marks l ≡ false → are_marked marks c ≡ false
not_all marks [] i l h is m = absurd (omega arith)
not_all marks (k ∷ c) zero l h is m = rw (sym (ap (mark_of marks) is) ∙ m) refl
not_all marks (k ∷ c) (suc i) l h is m =
    elim (mark_of marks k) as (λ b. (if b then are_marked marks c else false) ≡ false) [
      | true ↦ not_all marks c i l (omega arith) is m
      | false ↦ refl
    ]

-- where a clause's literals are marked, those whose literals are all marked are its subsets
pub marked_subset : (marks : List Bool) (c d : List Literal) → IsMarked marks d
    → All (λ l. 0 < l.variable) c → are_marked marks c ≡ is_subset c d
marked_subset marks [] d m some = refl
marked_subset marks (l ∷ c) d m some =
    (λ i. if m.marked l (All-head (λ l. 0 < l.variable) l c some) i
    then marked_subset marks c d m (All-tail (λ l. 0 < l.variable) l c some) i else false)
