-- How clauses lie against a marked one, as they are walked.
use Rattle.std.proofs.Common.{◌≡◌, ℕ, ◌+◌, ◌<◌, Bool, true, false, not, List, [], ◌∷◌, ◌++◌, length}
use Rattle.std.proofs.Common.{take, drop, get_or, if◌then◌else◌, refl, sym, ◌∙◌, ap, arith}
use Rattle.std.proofs.lemmas.Bool.{false≢true, true≢false, or_left, or_right}
use Rattle.std.proofs.lemmas.List.{take_more, take-append-drop}
use Rattle.std.proofs.lemmas.List.Elements.{filter-append}
use Rattle.cnf.specs.Literal.{Literal, literal_eq, negation}
use Rattle.cnf.specs.Clause.{contains_literal, without_literal}
use Rattle.cnf.specs.Marks.{mark_of, are_marked}
use Rattle.cnf.proofs.Laws.{literal_eq-refl}
use Rattle.eliminate_tables.specs.Against.{LiesAgainst, unmarked, against_without, against_of}
use Rattle.eliminate_tables.specs.declared.against.Against.{Against}
use Rattle.eliminate_tables.specs.declared.against.Against.TheVariants.{Apart, Within, ButFor}

are_marked-without : (marks : List Bool) (p : Literal) (a : List Literal)
    → are_marked marks a ≡ true → are_marked marks (without_literal p a) ≡ true
are_marked-without marks p [] m = refl
are_marked-without marks p (k ∷ a) m =
    elim (mark_of marks k) as (λ x. mark_of marks k ≡ x → (if x then are_marked marks a else false)
    ≡ true → are_marked marks (without_literal p (k ∷ a)) ≡ true) [
      | true ↦ λ here rest. elim (literal_eq p k)
          as (λ b. are_marked marks (if not b then k ∷ without_literal p a else without_literal p a)
          ≡ true) [
            | true ↦ are_marked-without marks p a rest
            | false ↦ rw here (are_marked-without marks p a rest)
          ]
      | false ↦ λ here rest. absurd (false≢true rest)
    ] refl m

-- what was found of these literals that are not marked, while no answer is given
abbrev pub IsOpen : List Bool → List Literal → Against → Type 0
IsOpen marks c Apart = ⊥
IsOpen marks c Within = c ≡ []
IsOpen marks c (ButFor l) = (c ≡ l ∷ []) × (mark_of marks (negation l) ≡ true)

unmarked_next : (marks : List Bool) (c : List Literal) (i : ℕ) (l : Literal) → i < length c
    → l ≡ get_or c i l → mark_of marks l ≡ false
    → unmarked marks (take (i + 1) c) ≡ unmarked marks (take i c) ++ l ∷ []
unmarked_next marks c i l h is m =
    let one : unmarked marks (l ∷ []) ≡ l ∷ [] = rw m refl in
    ap (unmarked marks) (take_more c i l h ∙ ap (λ x. take i c ++ x ∷ []) (sym is))
    ∙ filter-append (λ k. not (mark_of marks k)) (take i c) (l ∷ [])
    ∙ ap (λ u. unmarked marks (take i c) ++ u) one

abbrev is_within : Against → Bool
is_within Apart = false
is_within Within = true
is_within (ButFor l) = false

-- what is apart stays so with more literals
apart-append : (marks : List Bool) (a b : List Literal) → against_without marks a ≡ Apart
    → against_without marks (a ++ b) ≡ Apart
apart-append marks [] b e = absurd (true≢false (ap is_within e))
apart-append marks (l ∷ []) [] e = e
apart-append marks (l ∷ []) (k ∷ b) e = refl
apart-append marks (l ∷ k ∷ a) b e = refl

apart_so_far : (marks : List Bool) (c : List Literal) (i : ℕ) (l : Literal) → i < length c
    → l ≡ get_or c i l → mark_of marks l ≡ false
    → against_without marks (unmarked marks (take i c) ++ l ∷ []) ≡ Apart
    → against_of marks c ≡ Apart
apart_so_far marks c i l h is m e =
    let whole : unmarked marks c ≡ unmarked marks (take (i + 1) c) ++ unmarked marks
    (drop (i + 1) c) =
    ap (unmarked marks) (sym (take-append-drop (i + 1) c))
    ∙ filter-append (λ k. not (mark_of marks k)) (take (i + 1) c) (drop (i + 1) c) in
    ap (against_without marks) whole
    ∙ apart-append marks (unmarked marks (take (i + 1) c)) (unmarked marks (drop (i + 1) c))
    (ap (against_without marks) (unmarked_next marks c i l h is m) ∙ e)

-- a literal of which neither sign is marked
pub apart_neither : (marks : List Bool) (c : List Literal) (i : ℕ) (l : Literal) (found : Against)
    → i < length c → l ≡ get_or c i l → mark_of marks l ≡ false → mark_of marks (negation l) ≡ false
    → IsOpen marks (unmarked marks (take i c)) found → against_of marks c ≡ Apart
apart_neither marks c i l Apart h is m complement lies = absurd lies
apart_neither marks c i l Within h is m complement lies =
    apart_so_far marks c i l h is m (ap (λ u. against_without marks (u ++ l ∷ [])) lies
    ∙ rw complement refl)
apart_neither marks c i l (ButFor k) h is m complement lies =
    apart_so_far marks c i l h is m (ap (λ u. against_without marks (u ++ l ∷ [])) lies.0)

-- a second literal that is not marked
pub apart_second : (marks : List Bool) (c : List Literal) (i : ℕ) (l : Literal) (found : Against)
    → i < length c → l ≡ get_or c i l → mark_of marks l ≡ false → (found ≡ Within → ⊥)
    → IsOpen marks (unmarked marks (take i c)) found → against_of marks c ≡ Apart
apart_second marks c i l Apart h is m other lies = absurd lies
apart_second marks c i l Within h is m other lies = absurd (other refl)
apart_second marks c i l (ButFor k) h is m other lies =
    apart_so_far marks c i l h is m (ap (λ u. against_without marks (u ++ l ∷ [])) lies.0)

none_unmarked : (marks : List Bool) (c : List Literal) → unmarked marks c ≡ []
    → are_marked marks c ≡ true
none_unmarked marks [] none = refl
none_unmarked marks (k ∷ c) none =
    elim (mark_of marks k) as (λ b. (if not b then k ∷ unmarked marks c else unmarked marks c) ≡ []
    → (if b then are_marked marks c else false) ≡ true) [
      | true ↦ λ rest. none_unmarked marks c rest
      | false ↦ λ rest. absurd (omega (arith, ap length rest))
    ] none

one_unmarked : (marks : List Bool) (c : List Literal) (l : Literal) → unmarked marks c ≡ l ∷ []
    → (contains_literal l c ≡ true) × (are_marked marks (without_literal l c) ≡ true)
one_unmarked marks [] l one = absurd (omega (arith, ap length one))
one_unmarked marks (k ∷ c) l one =
    elim (mark_of marks k) as (λ b. mark_of marks k ≡ b
    → (if not b then k ∷ unmarked marks c else unmarked marks c) ≡ l ∷ []
    → (contains_literal l (k ∷ c) ≡ true)
    × (are_marked marks (without_literal l (k ∷ c)) ≡ true)) [
      | true ↦ λ here rest. let more = one_unmarked marks c l rest in (
        or_right (literal_eq l k) (contains_literal l c) more.0,
        elim (literal_eq l k) as (λ b. are_marked marks (if not b then k ∷ without_literal l c
            else without_literal l c) ≡ true) [
              | true ↦ more.1
              | false ↦ rw here more.1
            ],
      )
      | false ↦ λ here rest.
          let same : literal_eq l k ≡ true = ap (λ u. literal_eq l (get_or u 0 l)) rest
          ∙ literal_eq-refl l in
          let more : are_marked marks (without_literal l c) ≡ true =
          are_marked-without marks l c (none_unmarked marks c (ap (drop 1) rest)) in
          (or_left (literal_eq l k) (contains_literal l c) same, rw same more)
    ] refl one

-- what an answer shows
pub open_lies : (marks : List Bool) (c : List Literal) (found : Against)
    → IsOpen marks (unmarked marks c) found → LiesAgainst marks c found
open_lies marks c Apart lies = absurd lies
open_lies marks c Within lies = none_unmarked marks c lies
open_lies marks c (ButFor l) lies = let one = one_unmarked marks c l lies.0 in
    (one.0, lies.1, one.1)
