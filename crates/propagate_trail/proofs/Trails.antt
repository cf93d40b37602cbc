-- A trail that grows or shrinks by one literal.
use Rattle.std.proofs.Common.{◌≡◌, ◌≢◌, ℕ, ◌+◌, ◌<◌, Bool, true, false, ◌||◌, cond, List, [], ◌∷◌}
use Rattle.std.proofs.Common.{◌++◌, take, length, get_or, set, Option, Some, None, inl, inr, refl}
use Rattle.std.proofs.Common.{sym, ◌∙◌, ap, arith}
use Rattle.std.specs.Prelude.{if◌then◌else◌, ◌==◌, is_none, count_by}
use Rattle.std.proofs.lemmas.Bool.{or_parts, or_cases, or_right, eqb-false, eqb-true, cases_Bool}
use Rattle.std.proofs.lemmas.Bool.{false≢true, both_ways, cond-true, cond-false, cases_lt}
use Rattle.std.proofs.lemmas.List.{map_push, length_push, get_or-set_other, length-set, get_or_push}
use Rattle.std.proofs.lemmas.List.{get_or_append_left, take-append-le, take_all}
use Rattle.std.proofs.lemmas.List.Sums.{sum_by-set, sum_by-cons, sum_by_push}
use Rattle.cnf.specs.Literal.{Literal, negation, literal_eq}
use Rattle.cnf.specs.Clause.{contains_literal}
use Rattle.cnf.proofs.Laws.{literal_eq-complement}
use Rattle.propagate_trail.specs.Trail.{Assigned, literals_of, depth_of, is_decision, value_in}
use Rattle.propagate_trail.specs.Trail.{level_in, level_from, level_after, reason_in}
use Rattle.propagate_trail.specs.Tables.{mentions, reason_at, assigned_by}
use Rattle.std.proofs.Math.Bool.{or-false}
use Rattle.propagate_trail.proofs.Literals.{contains-push, contains-none, mentions-none}
use Rattle.propagate_trail.proofs.Literals.{negation_twice, literal_eq-self}
use Rattle.propagate_trail.proofs.Literals.{literal_eq-other}

abbrev pub made : Literal → Option ℕ → Assigned
made l r = record { literal = l; reason = r }

pub literals_of-assigned : (R : List (Option ℕ)) (A : List Literal)
    → literals_of (assigned_by R A) ≡ A
literals_of-assigned R [] = refl
literals_of-assigned R (l ∷ A) = ap (λ x. l ∷ x) (literals_of-assigned R A)

pub reason-assigned : (R : List (Option ℕ)) (A : List Literal) (v : ℕ) → mentions v A ≡ true
    → reason_in (assigned_by R A) v ≡ reason_at R v
reason-assigned R [] v e = absurd (false≢true e)
reason-assigned R (l ∷ A) v e = elim (cases_Bool (l.variable == v)) [
  | inl h ↦ cond-true (l.variable == v) (reason_at R l.variable) (reason_in (assigned_by R A) v) h
      ∙ ap (reason_at R) (eqb-true l.variable v h)
  | inr h ↦ cond-false (l.variable == v) (reason_at R l.variable) (reason_in (assigned_by R A) v) h
      ∙ reason-assigned R A v (elim (or_cases (l.variable == v) (mentions v A) e) [
        | inl k ↦
            absurd (both_ways _ h k)
        | inr k ↦ k
      ])
]

pub reason_none : (T : List Assigned) (v : ℕ) → mentions v (literals_of T) ≡ false
    → reason_in T v ≡ None
reason_none [] v e = refl
reason_none (a ∷ T) v e =
    let e' = or_parts (a.literal.variable == v) (mentions v (literals_of T)) e in
    cond-false (a.literal.variable == v) a.reason (reason_in T v) e'.0 ∙ reason_none T v e'.1

pub level_none : (n : ℕ) (T : List Assigned) (v : ℕ) → mentions v (literals_of T) ≡ false
    → level_from n T v ≡ None
level_none n [] v e = refl
level_none n (a ∷ T) v e =
    let e' = or_parts (a.literal.variable == v) (mentions v (literals_of T)) e in
    cond-false (a.literal.variable == v) (Some (level_after n a)) (level_from (level_after n a) T v)
    e'.0 ∙ level_none (level_after n a) T v e'.1

pub level_some : (n : ℕ) (T : List Assigned) (v : ℕ) → mentions v (literals_of T) ≡ true
    → (m : ℕ) × (level_from n T v ≡ Some m)
level_some n [] v e = absurd (false≢true e)
level_some n (a ∷ T) v e = elim (cases_Bool (a.literal.variable == v)) [
  | inl h ↦ (
    level_after n a,
    cond-true (a.literal.variable == v) (Some (level_after n a))
        (level_from (level_after n a) T v) h,
  )
  | inr h ↦
      let k =
      elim (or_cases (a.literal.variable == v) (mentions v (literals_of T)) e)
      as (λ _. mentions v (literals_of T) ≡ true) [
        | inl k ↦ absurd (both_ways _ h k)
        | inr k ↦ k
      ] in
      let w = level_some (level_after n a) T v k in (
        w.0,
        cond-false (a.literal.variable == v) (Some (level_after n a))
            (level_from (level_after n a) T v) h ∙ w.1,
      )
]

-- what has a level is mentioned, and nothing else
pub mentioned : (T : List Assigned) (v k : ℕ) → level_in T v ≡ Some k
    → mentions v (literals_of T) ≡ true
mentioned T v k e = elim (cases_Bool (mentions v (literals_of T))) [
  | inl h ↦ h
  | inr h ↦
      absurd (let n = level_none 0 T v h in cc)
]

pub unmentioned : (T : List Assigned) (v : ℕ) → level_in T v ≡ None
    → mentions v (literals_of T) ≡ false
unmentioned T v e = elim (cases_Bool (mentions v (literals_of T))) [
  | inr h ↦ h
  | inl h ↦
      absurd (let n = level_some 0 T v h in cc (n.1))
]

pub depth-cons : (b : Assigned) (T : List Assigned)
    → depth_of (b ∷ T) ≡ cond (is_decision b) 1 0 + depth_of T
depth-cons b T = sum_by-cons (λ (a : Assigned). cond (is_decision a) 1 0) b T

depth_cons : (a : Assigned) (n d : ℕ) → level_after n a + d ≡ n + (cond (is_decision a) 1 0 + d)
depth_cons a n d = elim (cases_Bool (is_decision a)) [
  | inl h ↦ rw h (omega arith)
  | inr h ↦
      rw h (omega arith)
]

-- one more literal
pub level_push : (n : ℕ) (T : List Assigned) (a : Assigned) (v : ℕ)
    → level_from n (T ++ a ∷ []) v ≡ (if mentions v (literals_of T) then level_from n T v
    else (if a.literal.variable == v then Some (level_after (n + depth_of T) a) else None))
level_push n [] a v =
    ap (λ k. if a.literal.variable == v then Some (level_after k a) else None) (omega arith)
level_push n (b ∷ T) a v = elim (cases_Bool (b.literal.variable == v)) [
  | inl h ↦ rw h refl
  | inr h ↦ rw (h, depth-cons b T) (level_push (level_after n b) T a v
      ∙ rw (depth_cons b n (depth_of T)) refl)
]

pub depth_push : (T : List Assigned) (a : Assigned)
    → depth_of (T ++ a ∷ []) ≡ level_after (depth_of T) a
depth_push T a = sum_by_push (λ (b : Assigned). cond (is_decision b) 1 0) T a
    ∙ elim (cases_Bool (is_decision a)) [ inl h ↦ rw h refl | inr h ↦ rw h (omega arith) ]

pub assigned_by-set : (R : List (Option ℕ)) (A : List Literal) (v : ℕ) (r : Option ℕ)
    → mentions v A ≡ false → assigned_by (set R v r) A ≡ assigned_by R A
assigned_by-set R [] v r e = refl
assigned_by-set R (l ∷ A) v r e =
    let e' = or_parts (l.variable == v) (mentions v A) e in
    let ne : l.variable ≢ v = eqb-false l.variable v e'.0 in
    ap (λ x. made l x ∷ assigned_by (set R v r) A) (get_or-set_other R v l.variable r None ne)
    ∙ ap (λ x. made l (reason_at R l.variable) ∷ x) (assigned_by-set R A v r e'.1)

pub open_at : (a b : Bool) → ◌≡◌ {A = Option Bool} (if a then Some true else if b then Some false
    else None) None → (a ≡ false) × (b ≡ false)
open_at true b e = absurd (cc)
open_at false true e = absurd (cc)
open_at false false e = (refl, refl)

pub open_none : (T : List Assigned) (l : Literal) → value_in T l ≡ None
    → mentions l.variable (literals_of T) ≡ false
open_none T l e =
    let h =
    open_at (contains_literal l (literals_of T)) (contains_literal (negation l) (literals_of T)) e
    in
    mentions-none l (literals_of T) h.0 h.1

abbrev value_by : Bool → Bool → Option Bool
value_by a b = if a then Some true else if b then Some false else None

pub value_push : (T : List Assigned) (a : Assigned) (l : Literal)
    → value_in (T ++ a ∷ []) l
    ≡ value_by (contains_literal l (literals_of T) || literal_eq l a.literal)
    (contains_literal (negation l) (literals_of T) || literal_eq (negation l) a.literal)
value_push T a l =
    rw (
      map_push (λ (x : Assigned). x.literal) T a,
      contains-push l (literals_of T) a.literal,
      contains-push (negation l) (literals_of T) a.literal,
    ) refl

pub value_push_other : (T : List Assigned) (a : Assigned) (l : Literal)
    → l.variable ≢ a.literal.variable → value_in (T ++ a ∷ []) l ≡ value_in T l
value_push_other T a l ne =
    value_push T a l ∙ rw (
      literal_eq-other l a.literal ne,
      literal_eq-other (negation l) a.literal ne,
      or-false (contains_literal l (literals_of T)),
      or-false (contains_literal (negation l) (literals_of T)),
    ) refl

pub value_push_same : (T : List Assigned) (a : Assigned)
    → value_in (T ++ a ∷ []) a.literal ≡ Some true
value_push_same T a = value_push T a a.literal
    ∙ rw (or_right (contains_literal a.literal (literals_of T)) (literal_eq a.literal a.literal)
    (literal_eq-self a.literal)) refl

pub value_push_negation : (T : List Assigned) (a : Assigned)
    → mentions a.literal.variable (literals_of T) ≡ false
    → value_in (T ++ a ∷ []) (negation a.literal) ≡ Some false
value_push_negation T a e =
    value_push T a (negation a.literal)
    ∙ rw (
      contains-none (negation a.literal) (literals_of T) e,
      literal_eq-complement a.literal,
      or_right (contains_literal (negation (negation a.literal)) (literals_of T))
          (literal_eq (negation (negation a.literal)) a.literal)
          (ap (λ k. literal_eq k a.literal) (negation_twice a.literal) ∙ literal_eq-self a.literal),
    ) refl

pub value_none : (T : List Assigned) (l : Literal) → mentions l.variable (literals_of T) ≡ false
    → value_in T l ≡ None
value_none T l e =
    rw (contains-none l (literals_of T) e, contains-none (negation l) (literals_of T) e) refl

-- the literals are apart
pub once_last : (A : List Literal) (l : Literal) → ((k : ℕ) (d : Literal) → k < length (A ++ l ∷ [])
    → mentions (get_or (A ++ l ∷ []) k d).variable (take k (A ++ l ∷ [])) ≡ false)
    → mentions l.variable A ≡ false
once_last A l h =
    let e = h (length A) l (omega (arith, length_push A l)) in
    rw (
      get_or_push A l l (length A) refl,
      take-append-le (length A) A (l ∷ []) (omega arith),
      take_all (length A) A (omega arith),
    ) at e

pub once_front : (A : List Literal) (l : Literal)
    → ((k : ℕ) (d : Literal) → k < length (A ++ l ∷ [])
    → mentions (get_or (A ++ l ∷ []) k d).variable (take k (A ++ l ∷ [])) ≡ false)
    → (k : ℕ) (d : Literal) → k < length A → mentions (get_or A k d).variable (take k A) ≡ false
once_front A l h k d lt =
    let e = h k d (omega (arith, length_push A l)) in
    rw (get_or_append_left A (l ∷ []) d k lt, take-append-le k A (l ∷ []) (omega arith)) at e

pub once_push : (A : List Literal) (l : Literal)
    → ((k : ℕ) (d : Literal) → k < length A → mentions (get_or A k d).variable (take k A) ≡ false)
    → mentions l.variable A ≡ false
    → (k : ℕ) (d : Literal) → k < length (A ++ l ∷ [])
    → mentions (get_or (A ++ l ∷ []) k d).variable (take k (A ++ l ∷ [])) ≡ false
once_push A l h new k d lt = elim (cases_lt k (length A)) [
  | inl below ↦ rw (
    get_or_append_left A (l ∷ []) d k below,
    take-append-le k A (l ∷ []) (omega arith),
  ) (h k d below)
  | inr above ↦
      let at : k ≡ length A = omega (arith, length_push A l) in
      rw (
        at,
        get_or_push A l d (length A) refl,
        take-append-le (length A) A (l ∷ []) (omega arith),
        take_all (length A) A (omega arith),
      ) new
]

none_at : (o : Option Bool) → o ≡ None → cond {A = ℕ} (is_none o) 1 0 ≡ 1
none_at None e = refl
none_at (Some b) e = absurd (cc)

-- the values after a literal became true, and how many are open
pub values_push : (vs : List (Option Bool)) (i j : ℕ) → i ≢ j → i < length vs → j < length vs
    → get_or vs i None ≡ None → get_or vs j None ≡ None
    → count_by is_none (set (set vs i (Some true)) j (Some false)) + 2 ≡ count_by is_none vs
values_push vs i j ne hi hj ei ej =
    let ei' : cond {A = ℕ} (is_none (get_or vs i None)) 1 0 ≡ 1 = rw ei refl in
    let ej' : cond {A = ℕ} (is_none (get_or (set vs i (Some true)) j None)) 1 0 ≡ 1 =
    none_at _ (get_or-set_other vs i j (Some true) None (λ e. ne (sym e)) ∙ ej) in
    omega (
      arith,
      sum_by-set (λ (o : Option Bool). cond (is_none o) 1 0) vs i (Some true) None hi,
      sum_by-set (λ (o : Option Bool). cond (is_none o) 1 0) (set vs i (Some true)) j (Some false)
          None (omega (arith, length-set vs i (Some true))),
    )

some_at : (o : Option Bool) (b : Bool) → o ≡ Some b → cond {A = ℕ} (is_none o) 1 0 ≡ 0
some_at None b e = absurd (cc)
some_at (Some c) b e = refl

pub values_pop : (vs : List (Option Bool)) (i j : ℕ) (b c : Bool) → i ≢ j → i < length vs
    → j < length vs → get_or vs i None ≡ Some b → get_or vs j None ≡ Some c
    → count_by is_none (set (set vs i None) j None) ≡ count_by is_none vs + 2
values_pop vs i j b c ne hi hj ei ej =
    let ei' : cond {A = ℕ} (is_none (get_or vs i None)) 1 0 ≡ 0 = some_at _ b ei in
    let ej' : cond {A = ℕ} (is_none (get_or (set vs i None) j None)) 1 0 ≡ 0 =
    some_at _ c (get_or-set_other vs i j None None (λ e. ne (sym e)) ∙ ej) in
    omega (
      arith,
      sum_by-set (λ (o : Option Bool). cond (is_none o) 1 0) vs i None None hi,
      sum_by-set (λ (o : Option Bool). cond (is_none o) 1 0) (set vs i None) j None None
          (omega (arith, length-set {A = Option Bool} vs i None)),
    )
