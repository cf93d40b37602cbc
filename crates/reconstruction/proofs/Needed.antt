-- Clauses that need their variable to be true, as they are walked.
use Rattle.std.proofs.Common.{◌≡◌, ℕ, ◌+◌, ◌-◌, ◌<◌, ◌≤◌, Bool, true, false, not, ◌&&◌, List}
use Rattle.std.proofs.Common.{length, get_or, drop, refl, sym, ◌∙◌, ap, subst, arith}
use Rattle.std.specs.Prelude.{slice_set, All}
use Rattle.std.proofs.lemmas.Bool.{false_from_ne_true}
use Rattle.std.proofs.lemmas.List.{get_or-map, length-map, drop_more}
use Rattle.std.proofs.lemmas.List.Folds.{list_any_at}
use Rattle.cnf.specs.Literal.{Literal, Assignment, literal_value, literal_eq}
use Rattle.cnf.specs.Clause.{contains_literal, without_literal}
use Rattle.cnf.specs.Bits.{assignment_of}
use Rattle.cnf.proofs.Laws.{literal_eq-true, contained_true}
use Rattle.cnf.proofs.Laws.{at_contains}
use Rattle.reconstruction.specs.Removals.{Removed, extended, is_needed, becomes_true, positive}
use Rattle.reconstruction.specs.declared.removals.Piece.{Piece}
use Rattle.reconstruction.specs.declared.removals.Gone.{Gone}
use Rattle.reconstruction.specs.Flat.{clause_in, clauses_at, one_removed, removed_in, IsGone}
use Rattle.cnf.proofs.Laws.{literal_eq-refl}
use Rattle.cnf.proofs.Laws.{contains-filter}

-- another literal is true: the clause needs nothing
pub not_needed : (t : Assignment) (p : Literal) (c : List Literal) (i : ℕ) (l : Literal)
    → i < length c → l ≡ get_or c i l → literal_eq l p ≡ false → literal_value t l ≡ true
    → is_needed t p c ≡ false
not_needed t p c i l h is other value =
    let apart : literal_eq p l ≡ false =
    false_from_ne_true (literal_eq p l)
    (λ e. both (literal_eq l p) other
    (subst (λ x. literal_eq l x ≡ true) (sym (literal_eq-true p l e)) (literal_eq-refl l))) in
    let in_rest : contains_literal l (without_literal p c) ≡ true =
    contains-filter (λ k. not (literal_eq p k)) l c (at_contains c i l h is) (ap not apart) in
    rw (contained_true t l (without_literal p c) in_rest value) (none (contains_literal p c))
  where
    both : (b : Bool) → b ≡ false → b ≡ true → ⊥
    both true e f = cc
    both false e f = cc

    none : (b : Bool) → (b && false) ≡ false
    none true = refl
    none false = refl

-- a clause at some place needs it
pub needed_at : (t : Assignment) (v : ℕ) (literals : List Literal) (pieces : List Piece) (i : ℕ)
    (d : Piece) → i < length pieces
    → is_needed t (positive v) (clause_in literals (get_or pieces i d)) ≡ true
    → becomes_true t (record { variable = v; clauses = clauses_at literals pieces }) ≡ true
needed_at t v literals pieces i d h need =
    let c : List Literal = clause_in literals (get_or pieces i d) in
    let at : get_or (clauses_at literals pieces) i c ≡ c =
    get_or-map (clause_in literals) pieces i d c h in
    list_any_at (is_needed t (positive v)) (clauses_at literals pieces) i c
    (omega (arith, length-map pieces (clause_in literals))) (ap (is_needed t (positive v)) at
    ∙ need)

-- one variable more has its value
extended_more : (removed : List Removed) (i : ℕ) (d : Removed) (bits : List Bool)
    → i < length removed
    → extended (drop i removed) bits ≡ slice_set (extended (drop (i + 1) removed) bits)
    ((get_or removed i d).variable - 1)
    (becomes_true (assignment_of (extended (drop (i + 1) removed) bits)) (get_or removed i d))
extended_more removed i d bits h = ap (λ rs. extended rs bits) (drop_more removed i d h)

pub extend_step : (gone : List Gone) (pieces : List Piece) (literals : List Literal)
    (self : List Removed) (bits now : List Bool) (value : Bool) (back i : ℕ) (g : Gone)
    → removed_in gone pieces literals ≡ self → i + (back + 1) ≡ length gone → g ≡ get_or gone i g
    → now ≡ extended (drop (length self - back) self) bits
    → value ≡ becomes_true (assignment_of now) (one_removed pieces literals g)
    → slice_set now (g.variable - 1) value ≡ extended (drop (length self - (back + 1)) self) bits
extend_step gone pieces literals self bits now value back i g view at here_is before is =
    let r : Removed = one_removed pieces literals g in
    let long : length self ≡ length gone =
    ap length (sym view) ∙ length-map gone (one_removed pieces literals) in
    let here : get_or self i r ≡ r = ap (λ rs. get_or rs i r) (sym view)
    ∙ get_or-map (one_removed pieces literals) gone i g r (omega arith)
    ∙ ap (one_removed pieces literals) (sym here_is) in
    let this : length self - (back + 1) ≡ i = omega arith in
    let next : length self - back ≡ i + 1 = omega arith in
    let old : now ≡ extended (drop (i + 1) self) bits =
    before ∙ ap (λ k. extended (drop k self) bits) next in
    ap (λ v. slice_set now (g.variable - 1) v) is
    ∙ ap (λ xs. slice_set xs (g.variable - 1) (becomes_true (assignment_of xs) r)) old
    ∙ sym (ap (λ k. extended (drop k self) bits) this ∙ extended_more self i r bits (omega arith)
    ∙ ap (λ (x : Removed). slice_set (extended (drop (i + 1) self) bits) (x.variable - 1)
    (becomes_true (assignment_of (extended (drop (i + 1) self) bits)) x)) here)

-- the variable has a bit
pub gone_small : (gone : List Gone) (pieces : List Piece) (literals : List Literal)
    (self : List Removed) (n i : ℕ) (g : Gone) → removed_in gone pieces literals ≡ self
    → All (λ r. r.variable ≤ n) self → i < length gone
    → g ≡ get_or gone i g → g.variable ≤ n
gone_small gone pieces literals self n i g view all h here_is =
    let r : Removed = one_removed pieces literals g in
    let long : length self ≡ length gone =
    ap length (sym view) ∙ length-map gone (one_removed pieces literals) in
    let here : get_or self i r ≡ r = ap (λ rs. get_or rs i r) (sym view)
    ∙ get_or-map (one_removed pieces literals) gone i g r h
    ∙ ap (one_removed pieces literals) (sym here_is) in
    subst (λ (x : Removed). x.variable ≤ n) here (all i r (omega arith))

pub gone_from_one : (gone : List Gone) (count i : ℕ) (g : Gone) → All (IsGone count) gone
    → i < length gone → g ≡ get_or gone i g → 0 < g.variable
gone_from_one gone count i g all h is = (subst (IsGone count) (sym is) (all i g h)).0
