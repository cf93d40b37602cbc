-- Eliminated variables get values that satisfy the clauses that went with them, the last eliminated
-- first.
use Rattle.std.proofs.Common.{◌≡◌, ℕ, zero, suc, Bool, true, false, not, ◌&&◌, ◌+◌, ◌-◌, ◌<◌}
use Rattle.std.proofs.Common.{◌≤◌, List, [], ◌∷◌, ◌++◌, length, ◌⊎◌, inl, inr, refl, sym, ◌∙◌, ap}
use Rattle.std.proofs.Common.{subst, arith, get_or, set}
use Rattle.std.specs.Prelude.{if◌then◌else◌, All, Contains, slice_get, slice_set, unwrap_or}
use Rattle.std.specs.List.{AllByRecursion, list_any}
use Rattle.std.proofs.lemmas.Bool.{not-true, not-false, or_cases, or_parts, and_parts}
use Rattle.std.proofs.lemmas.Bool.{and_cases, both_ways, cases_eq, eq-eqb, ne_eqb, false≢true}
use Rattle.std.proofs.lemmas.List.{get_or-set_same, get_or-set_other}
use Rattle.std.proofs.lemmas.List.Elements.{All-nil, All-cons, All-contains}
use Rattle.std.proofs.lemmas.Option.{unwrap_or-slice_get}
use Rattle.cnf.specs.Literal.{Literal, Assignment, negation, literal_value}
pub use Rattle.cnf.specs.Literal.{negative}
use Rattle.cnf.specs.Clause.{Satisfies, clause_value, contains_literal, without_literal}
use Rattle.cnf.specs.Clause.{is_tautology, is_subset}
use Rattle.cnf.specs.Bits.{assignment_of}
use Rattle.cnf.proofs.Laws.{all_from, contained_true, tautologies_true}
use Rattle.cnf.proofs.Laws.{made_true, made, clause_kept, rest_kept}
use Rattle.cnf.specs.Literal.{positive}
use Rattle.reconstruction.specs.Removals.{Removed, becomes_true, extended}
use Rattle.eliminate.specs.Elimination.{SatisfiesAll}
use Rattle.reconstruction.proofs.Laws.{extended-append, length-extended}
use Rattle.eliminate.specs.State.{GivesBack}
use Rattle.eliminate_tables.specs.Resolvents.{resolvent}
use Rattle.eliminate_tables.proofs.Laws.{resolvent-parts}
use Rattle.cnf.proofs.Laws.{not_not}

-- the variable with this value, as a literal
abbrev pub valued : ℕ → Bool → Literal
valued v b = record { variable = v; negated = not b }

-- each literal of r is in a or b, as those of a resolvent are in what is left of its parents
abbrev pub IsMadeOf : List Literal → List Literal → List Literal → Type 0
IsMadeOf r a b =
    AllByRecursion (λ k. (contains_literal k a ≡ true) ⊎ (contains_literal k b ≡ true)) r

pub made_of_true : (t : Assignment) (r a b : List Literal) → IsMadeOf r a b
    → clause_value t r ≡ true → (clause_value t a ≡ true) ⊎ (clause_value t b ≡ true)
made_of_true t [] a b m e = absurd (false≢true e)
made_of_true t (k ∷ r) a b m e =
    elim (or_cases (literal_value t k) (clause_value t r) e) [
      | inl h ↦ elim m.0 [
        | inl x ↦ inl (contained_true t k a x h)
        | inr x ↦ inr (contained_true t k b x h)
      ]
      | inr h ↦ made_of_true t r a b m.1 h
    ]

pub resolvent-made_of : (p : Literal) (c d : List Literal)
    → IsMadeOf (resolvent p c d) (without_literal p c) (without_literal (negation p) d)
resolvent-made_of p c d =
    all_from (λ k. (contains_literal k (without_literal p c) ≡ true)
    ⊎ (contains_literal k (without_literal (negation p) d) ≡ true)) (resolvent p c d)
    (λ k e. resolvent-parts p k c d e)

pub some_at : {X : Type 0} (q : X → Bool) (xs : List X) → list_any q xs ≡ true
    → (x : X) × Contains xs x × (q x ≡ true)
some_at q [] e = absurd (false≢true e)
some_at q (x ∷ xs) e =
    elim (or_cases (q x) (list_any q xs) e) [
      | inl h ↦ (x, (0, omega arith, refl), h)
      | inr h ↦ let m = some_at q xs h in (m.0, (suc m.1.0, omega (arith, m.1.1), m.1.2), m.2)
    ]

none_at : {X : Type 0} (q : X → Bool) (xs : List X) → list_any q xs ≡ false
    → All (λ x. q x ≡ false) xs
none_at q [] e = All-nil (λ x. q x ≡ false)
none_at q (x ∷ xs) e = let h = or_parts (q x) (list_any q xs) e in
    All-cons (λ x. q x ≡ false) x xs h.0 (none_at q xs h.1)

-- each clause has the variable
abbrev pub HaveVariable : ℕ → List (List Literal) → Type 0
HaveVariable v cs =
    All (λ c. (contains_literal (positive v) c ≡ true) ⊎ (contains_literal (negative v) c ≡ true))
    cs

-- of a clause with the variable and one with its negation, one is true without these
abbrev pub AreResolved : Assignment → ℕ → List (List Literal) → Type 0
AreResolved t v cs =
    All (λ c. All (λ d. contains_literal (positive v) c ≡ true
    → contains_literal (negative v) d ≡ true
    → (clause_value t (without_literal (positive v) c) ≡ true)
    ⊎ (clause_value t (without_literal (negative v) d) ≡ true)) cs) cs

needed_back : (t : Assignment) (r : Removed) → HaveVariable r.variable r.clauses
    → AreResolved t r.variable r.clauses → becomes_true t r ≡ true
    → SatisfiesAll (made_true t (positive r.variable)) r.clauses
needed_back t r have resolved e k z lt =
    let d : List Literal = get_or r.clauses k z in
    let w =
    some_at (λ c. contains_literal (positive r.variable) c &&
    not (clause_value t (without_literal (positive r.variable) c))) r.clauses e in
    let q =
    and_parts (contains_literal (positive r.variable) w.0)
    (not (clause_value t (without_literal (positive r.variable) w.0))) w.2 in
    let pair =
    All-contains (λ c. All (λ d. contains_literal (positive r.variable) c ≡ true
    → contains_literal (negative r.variable) d ≡ true
    → (clause_value t (without_literal (positive r.variable) c) ≡ true)
    ⊎ (clause_value t (without_literal (negative r.variable) d) ≡ true)) r.clauses) r.clauses
    w.0 resolved w.1 in
    elim (have k z lt) [
      | inl h ↦ contained_true (made_true t (positive r.variable)) (positive r.variable) d h
          (made t (positive r.variable))
      | inr h ↦ elim (pair k z lt q.0 h) [
        | inl a ↦ absurd (both_ways (clause_value t (without_literal (positive r.variable) w.0))
            (not-true _ q.1) a)
        | inr a ↦ rest_kept t (positive r.variable) d a
      ]
    ]

not_needed_back : (t : Assignment) (r : Removed) → HaveVariable r.variable r.clauses
    → becomes_true t r ≡ false → SatisfiesAll (made_true t (negative r.variable)) r.clauses
not_needed_back t r have e k z lt =
    let d : List Literal = get_or r.clauses k z in
    let q =
    none_at (λ c. contains_literal (positive r.variable) c &&
    not (clause_value t (without_literal (positive r.variable) c))) r.clauses e k z lt in
    elim (have k z lt) [
      | inr h ↦ contained_true (made_true t (negative r.variable)) (negative r.variable) d h
          (made t (negative r.variable))
      | inl h ↦ elim (and_cases (contains_literal (positive r.variable) d)
          (not (clause_value t (without_literal (positive r.variable) d))) q) [
            | inl a ↦ absurd (both_ways (contains_literal (positive r.variable) d) a h)
            | inr a ↦ rest_kept t (negative r.variable) d
                (not-false (clause_value t (without_literal (positive r.variable) d)) a)
          ]
    ]

-- one elimination: the removed clauses are satisfied once the variable has its value
pub removed_back : (t : Assignment) (r : Removed) → HaveVariable r.variable r.clauses
    → AreResolved t r.variable r.clauses
    → SatisfiesAll (made_true t (valued r.variable (becomes_true t r))) r.clauses
removed_back t r have resolved =
    elim (becomes_true t r) as (λ b. becomes_true t r ≡ b
    → SatisfiesAll (made_true t (valued r.variable b)) r.clauses) [
      | true ↦ λ e. needed_back t r have resolved e
      | false ↦ λ e. not_needed_back t r have e
    ] refl

-- setting a bit makes the literal true
pub set_bit : (bits : List Bool) (v : ℕ) (b : Bool) → 0 < v → v ≤ length bits → (u : ℕ)
    → assignment_of (slice_set bits (v - 1) b) u ≡ made_true (assignment_of bits) (valued v b) u
set_bit bits v b some few zero = rw (ne_eqb v 0 (λ e. omega arith)) refl
set_bit bits v b some few (suc u) =
    elim (cases_eq v (suc u)) [
      | inl e ↦ rw (eq-eqb v (suc u) e) (read ∙ (let on : v - 1 ≡ u = omega arith in
          ap (λ x. get_or (set bits x b) u false) on)
          ∙ get_or-set_same bits u b false (omega arith) ∙ sym (not_not b))
      | inr n ↦ rw (ne_eqb v (suc u) n) (read
          ∙ get_or-set_other bits (v - 1) u b false (λ e. n (omega arith))
          ∙ sym (unwrap_or-slice_get bits u false))
    ]
  where
    read : unwrap_or (slice_get (slice_set bits (v - 1) b) u) false
        ≡ get_or (set bits (v - 1) b) u false
    read = unwrap_or-slice_get (slice_set bits (v - 1) b) u false

pub set_bits : (bits : List Bool) (v : ℕ) (b : Bool) → 0 < v → v ≤ length bits
    → assignment_of (slice_set bits (v - 1) b) ≡ made_true (assignment_of bits) (valued v b)
set_bits bits v b some few = λ i u. set_bit bits v b some few u i

-- what satisfies these clauses satisfies c
abbrev pub Entails : List (List Literal) → List Literal → Type 0
Entails cs c = (t : Assignment) → SatisfiesAll t cs → Satisfies t c

-- the clause is removed with the variable, or has not the variable and follows from those after
abbrev pub IsAccountedFor : Removed → List (List Literal) → List Literal → Type 0
IsAccountedFor r after c = Contains r.clauses c
    ⊎ (Entails after c × (contains_literal (positive r.variable) c ≡ false)
    × (contains_literal (negative r.variable) c ≡ false))

-- a clause has complementary literals, or follows from the clauses after
abbrev pub IsLeft : List (List Literal) → List Literal → Type 0
IsLeft after c = (is_tautology c ≡ true) ⊎ Entails after c

-- c and d, which have the variable and its negation, resolve to such a clause
abbrev pub ResolveTo : List (List Literal) → ℕ → List Literal → List Literal → Type 0
ResolveTo after v c d =
    (r : List Literal) × IsMadeOf r (without_literal (positive v) c)
    (without_literal (negative v) d) × IsLeft after r

pub resolve_to : (after : List (List Literal)) (v : ℕ) (c d : List Literal)
    → IsLeft after (resolvent (positive v) c d) → ResolveTo after v c d
resolve_to after v c d h = (resolvent (positive v) c d, resolvent-made_of (positive v) c d, h)

-- the clauses before become those after: a variable goes, with its clauses
pub record IsElimination (r : Removed) (before after : List (List Literal)) : Type 0 where
  pub from_one : 0 < r.variable
  pub have : HaveVariable r.variable r.clauses
  pub resolved : All (λ c. All (λ d. contains_literal (positive r.variable) c ≡ true
      → contains_literal (negative r.variable) d ≡ true
      → ResolveTo after r.variable c d) r.clauses) r.clauses
  pub kept : All (IsAccountedFor r after) before

pub left_true : (t : Assignment) (after : List (List Literal)) (c : List Literal)
    → SatisfiesAll t after → IsLeft after c → Satisfies t c
left_true t after c all h = elim h [ inl pair ↦ tautologies_true t c pair | inr e ↦ e t all ]

elimination_resolved : (t : Assignment) (r : Removed) (before after : List (List Literal))
    → IsElimination r before after → SatisfiesAll t after → AreResolved t r.variable r.clauses
elimination_resolved t r before after e all k z lt m y lm p n =
    let w = e.resolved k z lt m y lm p n in
    made_of_true t w.0 (without_literal (positive r.variable) (get_or r.clauses k z))
    (without_literal (negative r.variable) (get_or r.clauses m y)) w.1
    (left_true t after w.0 all w.2)

kept_value : (t : Assignment) (v : ℕ) (b : Bool) (c : List Literal)
    → contains_literal (positive v) c ≡ false → contains_literal (negative v) c ≡ false
    → Satisfies t c → Satisfies (made_true t (valued v b)) c
kept_value t v true c p n s = clause_kept t (positive v) c s n
kept_value t v false c p n s = clause_kept t (negative v) c s p

-- one elimination, over assignments
pub elimination_back : (t : Assignment) (r : Removed) (before after : List (List Literal))
    → IsElimination r before after → SatisfiesAll t after
    → SatisfiesAll (made_true t (valued r.variable (becomes_true t r))) before
elimination_back t r before after e all k z lt =
    elim (e.kept k z lt) [
      | inl h ↦ All-contains (Satisfies (made_true t (valued r.variable (becomes_true t r))))
          r.clauses (get_or before k z)
          (removed_back t r e.have (elimination_resolved t r before after e all)) h
      | inr h ↦ kept_value t r.variable (becomes_true t r) (get_or before k z) h.1 h.2 (h.0 t all)
    ]

-- the value of one more variable
pub extended-value : (r : Removed) (rs : List Removed) (bits : List Bool) → 0 < r.variable
    → r.variable ≤ length bits
    → assignment_of (extended (r ∷ rs) bits) ≡ made_true (assignment_of (extended rs bits))
    (valued r.variable (becomes_true (assignment_of (extended rs bits)) r))
extended-value r rs bits some few =
    set_bits (extended rs bits) r.variable (becomes_true (assignment_of (extended rs bits)) r) some
    (omega (arith, length-extended rs bits))

pub extends_weaker : (n : ℕ) (rs : List Removed) (before mid after : List (List Literal))
    → GivesBack n rs before mid → All (Entails after) mid → GivesBack n rs before after
extends_weaker n rs before mid after e weaker bits few all =
    e bits few (λ k z lt. weaker k z lt (assignment_of bits) all)

pub extends_eliminated : (n : ℕ) (rs : List Removed) (r : Removed)
    (before mid after : List (List Literal)) → GivesBack n rs before mid → r.variable ≤ n
    → IsElimination r mid after
    → GivesBack n (rs ++ r ∷ []) before after
extends_eliminated n rs r before mid after e within one bits few all =
    subst (λ (x : List Bool). SatisfiesAll (assignment_of x) before)
    (sym (extended-append rs (r ∷ []) bits))
    (e (extended (r ∷ []) bits) (omega (arith, length-extended (r ∷ []) bits))
    (subst (λ (t : Assignment). SatisfiesAll t mid)
    (sym (extended-value r [] bits one.from_one (omega arith)))
    (elimination_back (assignment_of bits) r mid after one all)))

pub entails_member : (after : List (List Literal)) (c : List Literal) → Contains after c
    → Entails after c
entails_member after c h t all = All-contains (Satisfies t) after c all h

-- what satisfies a subset satisfies the clause
pub subsumed_true : (t : Assignment) (c d : List Literal) → is_subset c d ≡ true
    → clause_value t c ≡ true → clause_value t d ≡ true
subsumed_true t [] d s e = absurd (false≢true e)
subsumed_true t (l ∷ c) d s e =
    elim (contains_literal l d) as (λ b. contains_literal l d ≡ b
    → (if b then is_subset c d else false) ≡ true → clause_value t d ≡ true) [
      | true ↦ λ h sub. elim (or_cases (literal_value t l) (clause_value t c) e) [
        | inl m ↦ contained_true t l d h m
        | inr m ↦ subsumed_true t c d sub m
      ]
      | false ↦ λ h sub. absurd (false≢true sub)
    ] refl s

-- a subsumed clause follows from a clause after
pub entails_subsumed : (after : List (List Literal)) (c d : List Literal) → Contains after c
    → is_subset c d ≡ true → Entails after d
entails_subsumed after c d h s t all =
    subsumed_true t c d s (All-contains (Satisfies t) after c all h)
