-- The tables follow the trail.
use Rattle.std.proofs.Common.{◌≡◌, ℕ, zero, suc, ◌+◌, ◌*◌, ◌-◌, ◌<◌, ◌≤◌, ◌≢◌, ◌^◌, Bool, true}
use Rattle.std.proofs.Common.{false, not, cond, List, [], ◌∷◌, ◌++◌, take, length, get_or, set}
use Rattle.std.proofs.Common.{replicate, Option, Some, None, inl, inr, refl, sym, ◌∙◌, ap, subst}
use Rattle.std.proofs.Common.{arith, zero-add}
use mir.Val.{bool_byte}
use Rattle.std.specs.Option.{is_some}
use Rattle.std.specs.Prelude.{◌==◌, if◌then◌else◌, All, is_none, count_by}
use Rattle.std.proofs.lemmas.Bool.{eq-eqb, eqb-true, ne_eqb, cases_Bool, cases_eq, cases_lt}
use Rattle.std.proofs.lemmas.Bool.{both_ways, false≢true, or_cases, or_parts, cond-true, cond-false}
use Rattle.std.proofs.lemmas.List.{map_push, get_or-set_other, get_or-set_same, length-set}
use Rattle.std.proofs.lemmas.List.{length_push, get_or_push, get_or_append_left, length-replicate}
use Rattle.std.proofs.lemmas.List.{take_all}
use Rattle.std.proofs.lemmas.List.Sums.{sum_by-cons}
use Rattle.std.proofs.lemmas.List.Elements.{All-push, All-nil}
use Rattle.cnf.specs.Literal.{Literal, negation, index_of}
use Rattle.cnf.proofs.Laws.{same_variable}
use Rattle.propagate_trail.specs.Trail.{Assigned, literals_of, depth_of, value_in, level_in}
use Rattle.propagate_trail.specs.Trail.{level_after, position_in, position_from, IsVariable}
use Rattle.propagate_trail.specs.Tables.{mentions, reason_at, assigned_by, IsTrail}
use Rattle.propagate_trail.proofs.Literals.{index-other, index-negation}
use Rattle.propagate_trail.proofs.Literals.{index-within}
use Rattle.propagate_trail.proofs.Trails.{made, literals_of-assigned, open_none, assigned_by-set}
use Rattle.propagate_trail.proofs.Trails.{value_push_other, value_push_same, value_push_negation}
use Rattle.propagate_trail.proofs.Trails.{value_none, level_push, level_none, depth_push, once_push}
use Rattle.propagate_trail.proofs.Trails.{once_last, once_front, values_push, values_pop}

abbrev pub depth_with : ℕ → Option ℕ → ℕ
depth_with d r = d + (if is_none r then 1 else 0)

depth_with-after : (d : ℕ) (l : Literal) (r : Option ℕ) → depth_with d r ≡ level_after d (made l r)
depth_with-after d l None = refl
depth_with-after d l (Some r) = omega arith

pub assigned_push : (R : List (Option ℕ)) (A : List Literal) (l : Literal) (r : Option ℕ)
    → l.variable < length R → mentions l.variable A ≡ false
    → assigned_by (set R l.variable r) (A ++ l ∷ []) ≡ assigned_by R A ++ made l r ∷ []
assigned_push R A l r h e =
    map_push (λ (k : Literal). made k (reason_at (set R l.variable r) k.variable)) A l
    ∙ ap (λ T. T ++ made l (reason_at (set R l.variable r) l.variable) ∷ [])
    (assigned_by-set R A l.variable r e)
    ∙ ap (λ x. assigned_by R A ++ made l x ∷ []) (get_or-set_same R l.variable r None h)

value_after : (n : ℕ) (vs : List (Option Bool)) (T : List Assigned) (l : Literal) (r : Option ℕ)
    → length vs ≡ 2 * n → IsVariable n l → mentions l.variable (literals_of T) ≡ false
    → ((k : Literal) → IsVariable n k → get_or vs (index_of k) None ≡ value_in T k)
    → (k : Literal) → IsVariable n k
    → get_or (set (set vs (index_of l) (Some true)) (index_of (negation l)) (Some false))
    (index_of k) None ≡ value_in (T ++ made l r ∷ []) k
value_after n vs T l r long named new says k h =
    let inner = set vs (index_of l) (Some true) in
    let long' = length-set vs (index_of l) (Some true) in
    let named' : IsVariable n (negation l) = named in
    let w = index-within n l named in
    let w' = index-within n (negation l) named' in
    elim (cases_eq k.variable l.variable) [
      | inr ne ↦ get_or-set_other inner (index_of (negation l)) (index_of k) (Some false) None
          (index-other n k (negation l) h named' ne)
          ∙ get_or-set_other vs (index_of l) (index_of k) (Some true) None
          (index-other n k l h named ne)
          ∙ says k h ∙ sym (value_push_other T (made l r) k ne)
      | inl same ↦ elim (same_variable k l same) [
        | inl e ↦ rw e (get_or-set_other inner (index_of (negation l)) (index_of l) (Some false)
            None (index-negation l)
            ∙ get_or-set_same vs (index_of l) (Some true) None (omega arith)
            ∙ sym (value_push_same T (made l r)))
        | inr e ↦ rw e (get_or-set_same inner (index_of (negation l)) (Some false) None
            (omega arith) ∙ sym (value_push_negation T (made l r) new))
      ]
    ]

level_after_push : (ls : List (Option ℕ)) (T : List Assigned) (l : Literal) (r : Option ℕ) (d : ℕ)
    → l.variable < length ls → d ≡ depth_of T → mentions l.variable (literals_of T) ≡ false
    → ((v : ℕ) → get_or ls v None ≡ level_in T v)
    → (v : ℕ) → get_or (set ls l.variable (Some (depth_with d r))) v None
    ≡ level_in (T ++ made l r ∷ []) v
level_after_push ls T l r d long e new says v = elim (cases_eq v l.variable) [
  | inl same ↦ rw same (get_or-set_same ls l.variable (Some (depth_with d r)) None long
      ∙ ap Some (depth_with-after d l r)
      ∙ ap (λ k. Some (level_after k (made l r))) (e ∙ sym (zero-add (depth_of T)))
      ∙ sym (level_push 0 T (made l r) l.variable
      ∙ rw (new, eq-eqb l.variable l.variable refl) refl))
  | inr ne ↦ get_or-set_other ls l.variable v (Some (depth_with d r)) None ne ∙ says v
      ∙ sym (level_push 0 T (made l r) v ∙ rw (ne_eqb l.variable v (λ h. ne (sym h)))
      (elim (cases_Bool (mentions v (literals_of T))) [
        | inl h ↦ rw h refl
        | inr h ↦
            rw h (sym (level_none 0 T v h))
      ]))
]

-- a variable that is not mentioned is none of those that are
not_mentioned : (A : List Literal) (v k : ℕ) (d : Literal) → mentions v A ≡ false → k < length A
    → (get_or A k d).variable ≢ v
not_mentioned [] v k d e lt s = absurd (omega arith)
not_mentioned (l ∷ A) v zero d e lt s =
    both_ways (l.variable == v) (or_parts (l.variable == v) (mentions v A) e).0
    (eq-eqb l.variable v s)
not_mentioned (l ∷ A) v (suc k) d e lt s =
    not_mentioned A v k d (or_parts (l.variable == v) (mentions v A) e).1 (omega arith) s

position_after : (ps : List ℕ) (A : List Literal) (l : Literal) → l.variable < length ps
    → mentions l.variable A ≡ false
    → ((k : ℕ) (d : Literal) → k < length A → get_or ps (get_or A k d).variable 0 ≡ k)
    → (k : ℕ) (d : Literal) → k < length (A ++ l ∷ [])
    → get_or (set ps l.variable (length A)) (get_or (A ++ l ∷ []) k d).variable 0 ≡ k
position_after ps A l long new says k d lt = elim (cases_lt k (length A)) [
  | inl below ↦
      rw (get_or_append_left A (l ∷ []) d k below)
      (get_or-set_other ps l.variable (get_or A k d).variable (length A) 0
      (not_mentioned A l.variable k d new below) ∙ says k d below)
  | inr above ↦
      let at : k ≡ length A = omega (arith, length_push A l) in
      rw (at, get_or_push A l d (length A) refl) (get_or-set_same ps l.variable (length A) 0 long)
]

position_before : (ps : List ℕ) (A : List Literal) (l : Literal)
    → ((k : ℕ) (d : Literal) → k < length (A ++ l ∷ [])
    → get_or ps (get_or (A ++ l ∷ []) k d).variable 0 ≡ k)
    → (k : ℕ) (d : Literal) → k < length A → get_or ps (get_or A k d).variable 0 ≡ k
position_before ps A l says k d lt =
    ap (λ (x : Literal). get_or ps x.variable 0) (sym (get_or_append_left A (l ∷ []) d k lt))
    ∙ says k d (omega (arith, length_push A l))

-- the table has the position of each variable that is mentioned
position_found : (ps : List ℕ) (R : List (Option ℕ)) (A : List Literal) (n v : ℕ)
    → ((k : ℕ) (d : Literal) → k < length A → get_or ps (get_or A k d).variable 0 ≡ n + k)
    → mentions v A ≡ true → position_from n (assigned_by R A) v ≡ Some (get_or ps v 0)
position_found ps R [] n v says e = absurd (false≢true e)
position_found ps R (l ∷ A) n v says e = elim (cases_Bool (l.variable == v)) [
  | inl s ↦
      let here : get_or ps l.variable 0 ≡ n + 0 = says 0 l (omega arith) in
      let same : l.variable ≡ v = eqb-true l.variable v s in
      let at : n ≡ get_or ps v 0 = let up : get_or ps l.variable 0 ≡ get_or ps v 0 =
      ap (λ x. get_or ps x 0) same in omega arith in
      cond-true (l.variable == v) (Some n) (position_from (n + 1) (assigned_by R A) v) s
      ∙ ap Some at
  | inr s ↦
      let later : mentions v A ≡ true =
      elim (or_cases (l.variable == v) (mentions v A) e) as (λ _. mentions v A ≡ true) [
        | inl k ↦
            absurd (both_ways _ s k)
        | inr k ↦ k
      ] in
      cond-false (l.variable == v) (Some n) (position_from (n + 1) (assigned_by R A) v) s
      ∙ position_found ps R A (n + 1) v (λ k d lt. let up = says (suc k) d (omega arith) in
      omega arith) later
]

pub position_known : (ps : List ℕ) (R : List (Option ℕ)) (A : List Literal) (v : ℕ)
    → ((k : ℕ) (d : Literal) → k < length A → get_or ps (get_or A k d).variable 0 ≡ k)
    → mentions v A ≡ true → position_in (assigned_by R A) v ≡ Some (get_or ps v 0)
position_known ps R A v says e = position_found ps R A 0 v (λ k d lt. let at = says k d lt in
    omega arith) e

pub position_none : (n : ℕ) (T : List Assigned) (v : ℕ) → mentions v (literals_of T) ≡ false
    → position_from n T v ≡ None
position_none n [] v e = refl
position_none n (a ∷ T) v e =
    let e' = or_parts (a.literal.variable == v) (mentions v (literals_of T)) e in
    cond-false (a.literal.variable == v) (Some n) (position_from (n + 1) T v) e'.0
    ∙ position_none (n + 1) T v e'.1

pub trail_push : (n : ℕ) (A : List Literal) (vs : List (Option Bool)) (ls : List (Option ℕ))
    (ps : List ℕ) (R : List (Option ℕ)) (d room room' : ℕ) (l : Literal) (r : Option ℕ)
    → n ≤ room' → IsTrail n A vs ls ps R d room → IsVariable n l
    → value_in (assigned_by R A) l ≡ None
    → IsTrail n (A ++ l ∷ []) (set (set vs (index_of l) (Some true)) (index_of (negation l))
    (Some false)) (set ls l.variable (Some (depth_with d r))) (set ps l.variable (length A))
    (set R l.variable r) (depth_with d r) room'
trail_push n A vs ls ps R d room room' l r wide t named is_open =
    let T = assigned_by R A in
    let new : mentions l.variable (literals_of T) ≡ false = open_none T l is_open in
    let new' : mentions l.variable A ≡ false = rw literals_of-assigned at new in
    let shape = assigned_push R A l r (omega (arith, t.reasons_length)) new' in
    let w = index-within n l named in
    let w' = index-within n (negation l) named in
    let e' : get_or vs (index_of (negation l)) None ≡ None = t.value_of (negation l) named
    ∙ value_none T (negation l) new in
    record {
      within = All-push (IsVariable n) A l t.within named;
      once = once_push A l t.once new';
      values_length =
          length-set (set vs (index_of l) (Some true)) (index_of (negation l)) (Some false)
          ∙ length-set vs (index_of l) (Some true) ∙ t.values_length;
      levels_length = length-set ls l.variable (Some (depth_with d r)) ∙ t.levels_length;
      positions_length = length-set ps l.variable (length A) ∙ t.positions_length;
      reasons_length = length-set R l.variable r ∙ t.reasons_length;
      value_of = λ k h. value_after n vs T l r t.values_length named new t.value_of k h
          ∙ sym (ap (λ X. value_in X k) shape);
      level_of =
          λ v. level_after_push ls T l r d (omega (arith, t.levels_length)) t.depth_is
          new t.level_of
          v ∙ sym (ap (λ X. level_in X v) shape);
      position_of = position_after ps A l (omega (arith, t.positions_length)) new' t.position_of;
      depth_is = ap (λ k. depth_with k r) t.depth_is ∙ depth_with-after (depth_of T) l r
          ∙ sym (depth_push T (made l r)) ∙ sym (ap depth_of shape);
      has_room = wide;
      few = t.few;
      open_literals = omega (
        arith,
        t.open_literals,
        length_push A l,
        values_push vs (index_of l) (index_of (negation l)) (index-negation l)
            (omega (arith, t.values_length)) (omega (arith, t.values_length)) (t.value_of l named
            ∙ is_open) e',
      );
    }

-- an open literal leaves room
pub room_left : (n : ℕ) (A : List Literal) (vs : List (Option Bool)) (ls : List (Option ℕ))
    (ps : List ℕ) (R : List (Option ℕ)) (d room : ℕ) (l : Literal)
    → IsTrail n A vs ls ps R d room → IsVariable n l → value_in (assigned_by R A) l ≡ None
    → length A < n
room_left n A vs ls ps R d room l t named is_open =
    let T = assigned_by R A in
    let new : mentions l.variable (literals_of T) ≡ false = open_none T l is_open in
    let w = index-within n l named in
    let w' = index-within n (negation l) named in
    let e' : get_or vs (index_of (negation l)) None ≡ None = t.value_of (negation l) named
    ∙ value_none T (negation l) new in
    omega (
      arith,
      t.open_literals,
      values_push vs (index_of l) (index_of (negation l)) (index-negation l)
          (omega (arith, t.values_length)) (omega (arith, t.values_length)) (t.value_of l named
          ∙ is_open) e',
    )

-- the last literal goes
All-last : {X : Type 0} (P : X → Type 0) (xs : List X) (x : X) → All P (xs ++ x ∷ []) → P x
All-last P xs x h =
    subst P (get_or_push xs x x (length xs) refl)
    (h (length xs) x (omega (arith, length_push xs x)))

All-front : {X : Type 0} (P : X → Type 0) (xs : List X) (x : X) → All P (xs ++ x ∷ []) → All P xs
All-front P xs x h k d lt =
    subst P (get_or_append_left xs (x ∷ []) d k lt) (h k d (omega (arith, length_push xs x)))

value_before : (n : ℕ) (vs : List (Option Bool)) (T : List Assigned) (l : Literal) (r : Option ℕ)
    → length vs ≡ 2 * n → IsVariable n l → mentions l.variable (literals_of T) ≡ false
    → ((k : Literal) → IsVariable n k
    → get_or vs (index_of k) None ≡ value_in (T ++ made l r ∷ []) k)
    → (k : Literal) → IsVariable n k
    → get_or (set (set vs (index_of l) None) (index_of (negation l)) None) (index_of k) None
    ≡ value_in T k
value_before n vs T l r long named new says k h =
    let inner = set vs (index_of l) None in
    let long' = length-set {A = Option Bool} vs (index_of l) None in
    let w = index-within n l named in
    let w' = index-within n (negation l) named in
    elim (cases_eq k.variable l.variable) [
      | inr ne ↦ get_or-set_other inner (index_of (negation l)) (index_of k) None None
          (index-other n k (negation l) h named ne)
          ∙ get_or-set_other vs (index_of l) (index_of k) None None (index-other n k l h named ne)
          ∙ says k h ∙ value_push_other T (made l r) k ne
      | inl same ↦ elim (same_variable k l same) [
        | inl e ↦ rw e (get_or-set_other inner (index_of (negation l)) (index_of l) None None
            (index-negation l)
            ∙ get_or-set_same vs (index_of l) None None (omega arith) ∙ sym (value_none T l new))
        | inr e ↦ rw e (get_or-set_same inner (index_of (negation l)) None None (omega arith)
            ∙ sym (value_none T (negation l) new))
      ]
    ]

level_before_push : (ls : List (Option ℕ)) (T : List Assigned) (l : Literal) (r : Option ℕ)
    → l.variable < length ls → mentions l.variable (literals_of T) ≡ false
    → ((v : ℕ) → get_or ls v None ≡ level_in (T ++ made l r ∷ []) v)
    → (v : ℕ) → get_or (set ls l.variable None) v None ≡ level_in T v
level_before_push ls T l r long new says v = elim (cases_eq v l.variable) [
  | inl same ↦ rw same (get_or-set_same ls l.variable None None long
      ∙ sym (level_none 0 T l.variable new))
  | inr ne ↦ get_or-set_other ls l.variable v None None ne ∙ says v
      ∙ (level_push 0 T (made l r) v ∙ rw (ne_eqb l.variable v (λ h. ne (sym h)))
      (elim (cases_Bool (mentions v (literals_of T))) [
        | inl h ↦ rw h refl
        | inr h ↦
            rw h (sym (level_none 0 T v h))
      ]))
]

abbrev pub depth_before : ℕ → Option ℕ → ℕ
depth_before d r = d - (if is_none r then 1 else 0)

depth_undone : (d e : ℕ) (r : Option ℕ) → d ≡ depth_with e r → depth_before d r ≡ e
depth_undone d e None h = omega arith
depth_undone d e (Some r) h = omega arith

-- the last literal, and the rest
pub trail_pop : (n : ℕ) (A : List Literal) (vs : List (Option Bool)) (ls : List (Option ℕ))
    (ps : List ℕ) (R : List (Option ℕ)) (d room room' : ℕ) (l : Literal)
    → n ≤ room' → IsTrail n (A ++ l ∷ []) vs ls ps R d room
    → IsTrail n A (set (set vs (index_of l) None) (index_of (negation l)) None)
    (set ls l.variable None) ps R (depth_before d (reason_at R l.variable)) room'
trail_pop n A vs ls ps R d room room' l wide t =
    let T = assigned_by R A in
    let r = reason_at R l.variable in
    let new' : mentions l.variable A ≡ false = once_last A l t.once in
    let new : mentions l.variable (literals_of T) ≡ false = rw literals_of-assigned new' in
    let named : IsVariable n l = All-last (IsVariable n) A l t.within in
    let shape : assigned_by R (A ++ l ∷ []) ≡ T ++ made l r ∷ [] =
    map_push (λ (k : Literal). made k (reason_at R k.variable)) A l in
    let values : (k : Literal) → IsVariable n k
    → get_or vs (index_of k) None ≡ value_in (T ++ made l r ∷ []) k =
    λ k h. t.value_of k h ∙ ap (λ X. value_in X k) shape in
    let w = index-within n l named in
    let w' = index-within n (negation l) named in
    let e = values l named ∙ value_push_same T (made l r) in
    let e' = values (negation l) named ∙ value_push_negation T (made l r) new in
    record {
      within = All-front (IsVariable n) A l t.within;
      once = once_front A l t.once;
      values_length =
          length-set {A = Option Bool} (set vs (index_of l) None) (index_of (negation l)) None
          ∙ length-set {A = Option Bool} vs (index_of l) None ∙ t.values_length;
      levels_length = length-set {A = Option ℕ} ls l.variable None ∙ t.levels_length;
      positions_length = t.positions_length;
      reasons_length = t.reasons_length;
      value_of = value_before n vs T l r t.values_length named new values;
      level_of = level_before_push ls T l r (omega (arith, t.levels_length)) new (λ v. t.level_of v
          ∙ ap (λ X. level_in X v) shape);
      position_of = position_before ps A l t.position_of;
      depth_is =
          depth_undone d (depth_of T) r (t.depth_is ∙ ap depth_of shape ∙ depth_push T (made l r)
          ∙ sym (depth_with-after (depth_of T) l r));
      has_room = wide;
      few = t.few;
      open_literals = omega (
        arith,
        t.open_literals,
        length_push A l,
        values_pop vs (index_of l) (index_of (negation l)) true false (index-negation l)
            (omega (arith, t.values_length)) (omega (arith, t.values_length)) e e',
      );
    }

pub trail_push_at : (n : ℕ) (A : List Literal) (vs : List (Option Bool)) (ls : List (Option ℕ))
    (ps : List ℕ) (R : List (Option ℕ)) (d room room' : ℕ) (l : Literal) (r : Option ℕ)
    (A' : List Literal) (vs' : List (Option Bool)) (v p k : ℕ)
    → A' ≡ A ++ l ∷ [] → vs' ≡ set (set vs (index_of l) (Some true)) (index_of (negation l))
    (Some false) → v ≡ l.variable → p ≡ length A → k ≡ (if is_none r then 1 else 0)
    → n ≤ room' → IsTrail n A vs ls ps R d room → IsVariable n l
    → value_in (assigned_by R A) l ≡ None
    → IsTrail n A' vs' (set ls v (Some (d + k))) (set ps v p) (set R v r) (d + k) room'
trail_push_at n A vs ls ps R d room room' l r A' vs' v p k a b e g f wide t named o =
    rw (a, b, e, g, f) (trail_push n A vs ls ps R d room room' l r wide t named o)

pub one_from : (o : Option ℕ) (b : Bool) (k : ℕ) → is_some o ≡ not b → k ≡ bool_byte b
    → k ≡ (if is_none o then 1 else 0)
one_from None true k e f = f
one_from None false k e f = absurd (cc)
one_from (Some r) true k e f = absurd (cc)
one_from (Some r) false k e f = f

-- tables of nothing
get_none : {X : Type 0} (k v : ℕ) → get_or {A = Option X} (replicate k None) v None ≡ None
get_none zero v = refl
get_none (suc k) zero = refl
get_none (suc k) (suc v) = get_none k v

none_count : (k : ℕ) → count_by (is_none {T = Bool}) (replicate k None) ≡ k
none_count zero = refl
none_count (suc k) = sum_by-cons (λ (o : Option Bool). cond (is_none o) 1 0) None (replicate k None)
    ∙ omega (arith, none_count k)

pub trail_none : (n room : ℕ) (vs : List (Option Bool)) (ls : List (Option ℕ)) (ps : List ℕ)
    (rs : List (Option ℕ)) → vs ≡ replicate (2 * n) None → ls ≡ replicate (n + 1) None
    → ps ≡ replicate (n + 1) 0 → rs ≡ replicate (n + 1) None → n ≤ room → n < 2 ^ 32 - 1
    → IsTrail n [] vs ls ps rs 0 room
trail_none n room vs ls ps rs e f p g wide few = record {
  within = All-nil (IsVariable n);
  once = λ k d lt. absurd (omega arith);
  values_length = ap length e ∙ length-replicate (2 * n) None;
  levels_length = ap length f ∙ length-replicate (n + 1) None;
  positions_length = ap length p ∙ length-replicate (n + 1) 0;
  reasons_length = ap length g ∙ length-replicate (n + 1) None;
  value_of = λ l h. rw e (get_none (2 * n) (index_of l));
  level_of = λ v. rw f (get_none (n + 1) v);
  position_of = λ k d lt. absurd (omega arith);
  depth_is = refl;
  has_room = wide;
  few = few;
  open_literals = rw e (omega (arith, none_count (2 * n)));
}

pub resized : {X : Type 0} (xs ys : List X) (n k : ℕ) (x : X) → xs ≡ [] → k ≡ 0
    → ys ≡ take n xs ++ replicate (n - k) x → ys ≡ replicate n x
resized xs ys n k x e f g =
    g ∙ rw (take_all n xs (omega (arith, ap length e)), e) (ap (λ m. replicate m x) (omega arith))
