-- The trail on which a literal was decided in place of its negation, beside the trail that it comes
-- from.
use Rattle.std.proofs.Common.{◌≡◌, ◌≢◌, ℕ, ◌+◌, ◌<◌, true, false, List, [], ◌∷◌, ◌++◌}
use Rattle.std.proofs.Common.{get_or, Some, None, ◌⊎◌, inl, inr, refl, sym, ◌∙◌, ap}
use Rattle.std.proofs.Common.{arith}
use Rattle.std.specs.Prelude.{◌==◌, nat_le, unwrap_or}
use Rattle.std.specs.List.{AllByRecursion}
use Rattle.std.proofs.lemmas.Bool.{cases_Bool, or_cases, or_left, or_right, false≢true}
use Rattle.std.proofs.lemmas.Bool.{both_ways, eqb-true, eqb-false, eq-eqb, ne_eqb, cond-true}
use Rattle.std.proofs.lemmas.Bool.{cond-false}
use Rattle.std.proofs.lemmas.Option.{none-some, same_Some}
use Rattle.std.proofs.lemmas.List.Elements.{recursion_from_All}
use Rattle.cnf.specs.Literal.{Literal, negation, literal_eq}
use Rattle.cnf.specs.Clause.{contains_literal}
use Rattle.cnf.specs.Refute.{Clauses}
use Rattle.cnf.proofs.Laws.{literal_eq-true, literal_eq-refl, same_variable, all_at, all_weaker}
use Rattle.propagate.specs.Trail.{Assigned, literals_of, depth_of, level_after, level_from}
use Rattle.propagate.specs.Trail.{kept_from, reason_in, HasReasons}
use Rattle.propagate.proofs.Laws.{negation_twice, open_literal, depth_step}
use Rattle.analyze.specs.Analyzer.{decided, chosen_reasons, reason_list}
use Rattle.analyze.specs.declared.marks.Mark.{Mark}
use Rattle.analyze.specs.declared.marks.Mark.TheVariants.{Clear, Kept}
use Rattle.analyze.specs.Marks.{mark_at, is_resolved, resolved_of, others_in, HasVariable}
use Rattle.analyze.proofs.Levels.{later_open, once}
use Rattle.analyze.proofs.Reasoning.{at_place, unit_of}
use Rattle.analyze.proofs.Resolving.{clear_or}
use Rattle.analyze.proofs.Collecting.{passes, passes_not}

-- the decision
abbrev pub by_choice : Literal → Assigned
by_choice l = record { literal = l; reason = None }

-- Variables among literals.

pub has_here : (k : Literal) (ls : List Literal) (v : ℕ) → k.variable ≡ v → HasVariable (k ∷ ls) v
has_here k ls v e = (k, or_left (literal_eq k k) (contains_literal k ls) (literal_eq-refl k), e)

pub has_more : (k : Literal) (ls : List Literal) (v : ℕ) → HasVariable ls v → HasVariable (k ∷ ls) v
has_more k ls v w = (w.0, or_right (literal_eq w.0 k) (contains_literal w.0 ls) w.1, w.2)

pub has_none : (v : ℕ) → HasVariable [] v → ⊥
has_none v w = false≢true w.1

pub has_cases : (k : Literal) (ls : List Literal) (v : ℕ) → HasVariable (k ∷ ls) v
    → (k.variable ≡ v) ⊎ HasVariable ls v
has_cases k ls v w = elim (or_cases (literal_eq w.0 k) (contains_literal w.0 ls) w.1) [
  | inl s ↦ inl (sym (ap (λ (x : Literal). x.variable) (literal_eq-true w.0 k s)) ∙ w.2)
  | inr m ↦ inr (w.0, m, w.2)
]

-- among the literals after the first, where that has another variable
has_rest : (a : Assigned) (ls : List Literal) (v : ℕ) → (a.literal.variable == v) ≡ false
    → HasVariable (a.literal ∷ ls) v → HasVariable ls v
has_rest a ls v s w = elim (has_cases a.literal ls v w) [
  | inl e ↦ absurd (eqb-false a.literal.variable v s e)
  | inr m ↦ m
]

only_one : (l : Literal) (v : ℕ) → HasVariable (l ∷ []) v → v ≡ l.variable
only_one l v w = elim (has_cases l [] v w) [ inl e ↦ sym e | inr m ↦ absurd (has_none v m) ]

-- Reasons.

open_instead : (A : List Literal) (k l : Literal) → k.variable ≡ l.variable
    → (contains_literal k A ≡ false) × (contains_literal (negation k) A ≡ false)
    → (contains_literal l A ≡ false) × (contains_literal (negation l) A ≡ false)
open_instead A k l e o = elim (same_variable l k (sym e)) [
  | inl same ↦ (
    ap (λ x. contains_literal x A) same ∙ o.0,
    ap (λ x. contains_literal (negation x) A) same ∙ o.1,
  )
  | inr same ↦ (
    ap (λ x. contains_literal x A) same ∙ o.1,
    ap (λ x. contains_literal (negation x) A) same
        ∙ ap (λ x. contains_literal x A) (negation_twice k) ∙ o.0,
  )
]

pub decided_reasons : (at : Clauses) (A : List Literal) (l : Literal) (T : List Assigned)
    → HasReasons at A T → HasReasons at A (decided l T)
decided_reasons at A l [] h = tt
decided_reasons at A l (a ∷ T) h = elim (cases_Bool (a.literal.variable == l.variable)) [
  | inl s ↦ rw s (
    open_instead A a.literal l (eqb-true a.literal.variable l.variable s)
        (open_literal at A a.literal a.reason h.0),
    tt,
  )
  | inr s ↦ rw s (h.0, decided_reasons at (a.literal ∷ A) l T h.1)
]

pub decided_has : (l : Literal) (T : List Assigned) → HasVariable (literals_of T) l.variable
    → contains_literal l (literals_of (decided l T)) ≡ true
decided_has l [] w = absurd (has_none l.variable w)
decided_has l (a ∷ T) w = elim (cases_Bool (a.literal.variable == l.variable)) [
  | inl s ↦ rw s (or_left (literal_eq l l) false (literal_eq-refl l))
  | inr s ↦ rw s (or_right (literal_eq l a.literal) (contains_literal l (literals_of (decided l T)))
      (decided_has l T (has_rest a (literals_of T) l.variable s w)))
]

-- Levels.

one_more : (n : ℕ) (l : Literal) → level_after n (by_choice l) ≡ n + depth_of (by_choice l ∷ [])
one_more n l =
    let e : level_after n (by_choice l) + depth_of [] ≡ n + depth_of (by_choice l ∷ []) =
    depth_step n (by_choice l) [] in
    let z : depth_of [] ≡ 0 = refl in
    omega arith

one_deep : (l : Literal) → depth_of (by_choice l ∷ []) ≡ 1
one_deep l =
    let e : level_after 0 (by_choice l) + depth_of [] ≡ 0 + depth_of (by_choice l ∷ []) =
    depth_step 0 (by_choice l) [] in
    let z : depth_of [] ≡ 0 = refl in
    let o : level_after 0 (by_choice l) ≡ 1 = refl in
    omega arith

pub decided_deep : (l : Literal) (T : List Assigned) → HasVariable (literals_of T) l.variable
    → 0 < depth_of (decided l T)
decided_deep l [] w = absurd (has_none l.variable w)
decided_deep l (a ∷ T) w = elim (cases_Bool (a.literal.variable == l.variable)) [
  | inl s ↦ rw s (let e = one_deep l in omega arith)
  | inr s ↦ rw s (
      let rest = decided_deep l T (has_rest a (literals_of T) l.variable s w) in
      let e : level_after 0 a + depth_of (decided l T) ≡ 0 + depth_of (a ∷ decided l T) =
      depth_step 0 a (decided l T) in
      omega arith
      )
]

pub decided_level : (n : ℕ) (l : Literal) (T : List Assigned)
    → HasVariable (literals_of T) l.variable
    → level_from n (decided l T) l.variable ≡ Some (n + depth_of (decided l T))
decided_level n l [] w = absurd (has_none l.variable w)
decided_level n l (a ∷ T) w = elim (cases_Bool (a.literal.variable == l.variable)) [
  | inl s ↦ rw s (
      cond-true (l.variable == l.variable) (Some (level_after n (by_choice l))) None
      (eq-eqb l.variable l.variable refl)
      ∙ ap Some (one_more n l)
      )
  | inr s ↦ rw s (
      cond-false (a.literal.variable == l.variable) (Some (level_after n a))
      (level_from (level_after n a) (decided l T) l.variable) s
      ∙ decided_level (level_after n a) l T (has_rest a (literals_of T) l.variable s w)
      ∙ ap Some (depth_step n a (decided l T))
      )
]

pub decided_same : (n : ℕ) (l : Literal) (T : List Assigned) (v : ℕ) → v ≢ l.variable
    → HasVariable (literals_of (decided l T)) v
    → level_from n (decided l T) v ≡ level_from n T v
decided_same n l [] v ne w = refl
decided_same n l (a ∷ T) v ne w = elim (cases_Bool (a.literal.variable == l.variable)) [
  | inl s ↦ absurd (ne (only_one l v (rw s at w)))
  | inr s ↦ elim (cases_Bool (a.literal.variable == v)) [
    | inl t ↦ rw (s, t) refl
    | inr t ↦ rw (s, t) (decided_same (level_after n a) l T v ne
        (has_rest a (literals_of (decided l T)) v t (rw s at w)))
  ]
]

pub decided_low : (n : ℕ) (l : Literal) (T : List Assigned) (v m : ℕ) → v ≢ l.variable
    → HasVariable (literals_of T) l.variable → level_from n (decided l T) v ≡ Some m
    → m < n + depth_of (decided l T)
decided_low n l [] v m ne w e = absurd (none-some m e)
decided_low n l (a ∷ T) v m ne w e = elim (cases_Bool (a.literal.variable == l.variable)) [
  | inl s ↦ absurd (none-some m (
      sym (cond-false (l.variable == v) (Some (level_after n (by_choice l))) None
      (ne_eqb l.variable v (λ x. ne (sym x))))
      ∙ (rw s at e)
      ))
  | inr s ↦
      let has = has_rest a (literals_of T) l.variable s w in
      let step : level_after n a + depth_of (decided l T) ≡ n + depth_of (a ∷ decided l T) =
      depth_step n a (decided l T) in
      elim (cases_Bool (a.literal.variable == v)) [
        | inl t ↦ rw s (
            let deep = decided_deep l T has in
            let here : level_after n a ≡ m = same_Some (level_after n a) m (rw (s, t) at e) in
            omega arith
            )
        | inr t ↦ rw s (
            let low : m < level_after n a + depth_of (decided l T) =
            decided_low (level_after n a) l T v m ne has (rw (s, t) at e) in
            omega arith
            )
      ]
]

pub decided_bare : (n : ℕ) (l : Literal) (T : List Assigned) (v : ℕ) → v ≢ l.variable
    → unwrap_or (level_from n T v) 0 ≡ 0 → unwrap_or (level_from n (decided l T) v) 0 ≡ 0
decided_bare n l [] v ne e = refl
decided_bare n l (a ∷ T) v ne e = elim (cases_Bool (a.literal.variable == l.variable)) [
  | inl s ↦ rw s (ap (λ o. unwrap_or o 0)
      (cond-false (l.variable == v) (Some (level_after n (by_choice l))) None
      (ne_eqb l.variable v (λ x. ne (sym x)))))
  | inr s ↦ elim (cases_Bool (a.literal.variable == v)) [
    | inl t ↦ rw (s, t) (rw t at e)
    | inr t ↦ rw (s, t) (decided_bare (level_after n a) l T v ne (rw t at e))
  ]
]

not_low : (m : ℕ) → 0 < m → nat_le m 0 ≡ false
not_low m h = grind arith

-- the literals of level 0 stand on both
pub decided_zero : (n : ℕ) (l : Literal) (T : List Assigned)
    → 0 < unwrap_or (level_from n T l.variable) 0
    → kept_from n 0 (decided l T) ≡ kept_from n 0 T
decided_zero n l [] h = refl
decided_zero n l (a ∷ T) h = elim (cases_Bool (a.literal.variable == l.variable)) [
  | inl s ↦
      let up : 0 < level_after n a = (rw s at h) in
      let high : nat_le (level_after n a) 0 ≡ false = not_low (level_after n a) up in
      let one : nat_le (level_after n (by_choice l)) 0 ≡ false =
      not_low (level_after n (by_choice l)) (let x : level_after n (by_choice l) ≡ n + 1 = refl in
      omega arith) in
      rw s (rw high (cond-false (nat_le (level_after n (by_choice l)) 0)
      (by_choice l ∷ kept_from (level_after n (by_choice l)) 0 []) [] one))
  | inr s ↦
      let rest = decided_zero (level_after n a) l T (rw s at h) in
      elim (cases_Bool (nat_le (level_after n a) 0)) [
        | inl t ↦ rw (s, t) (ap (λ x. a ∷ x) rest)
        | inr t ↦ rw (s, t) refl
      ]
]

-- Clauses of reasons.

reason_is : (at : Clauses) (A : List Literal) (a : Assigned) (T : List Assigned) (l : Literal)
    → HasReasons at A (a ∷ T) → (a.literal.variable == l.variable) ≡ true
    → contains_literal (negation l) (literals_of (a ∷ T)) ≡ true → a.literal ≡ negation l
reason_is at A a T l h s e =
    elim (or_cases (literal_eq (negation l) a.literal)
    (contains_literal (negation l) (literals_of T)) e) [
      | inl same ↦ sym (literal_eq-true (negation l) a.literal same)
      | inr later ↦ absurd (once at A a T (negation l) h later
          (eqb-true a.literal.variable l.variable s))
    ]

reason_later : (a : Assigned) (T : List Assigned) (l : Literal)
    → (a.literal.variable == l.variable) ≡ false
    → contains_literal (negation l) (literals_of (a ∷ T)) ≡ true
    → contains_literal (negation l) (literals_of T) ≡ true
reason_later a T l s e =
    elim (or_cases (literal_eq (negation l) a.literal)
    (contains_literal (negation l) (literals_of T)) e) [
      | inl same ↦ absurd (eqb-false a.literal.variable l.variable s
          (sym (ap (λ (x : Literal). x.variable) (literal_eq-true (negation l) a.literal same))))
      | inr later ↦ later
    ]

-- the negation of the literal stands in the clause of its reason
pub reason_member : (at : Clauses) (A : List Literal) (T : List Assigned) (l : Literal) (r : ℕ)
    (c : List Literal) → HasReasons at A T → reason_in T l.variable ≡ Some r → at r ≡ Some c
    → contains_literal (negation l) (literals_of T) ≡ true → contains_literal (negation l) c ≡ true
reason_member at A [] l r c h e f n = absurd (none-some r e)
reason_member at A (a ∷ T) l r c h e f n =
    elim (cases_Bool (a.literal.variable == l.variable)) [
      | inl s ↦
          let u = unit_of at A a.literal a.reason r c (rw s at e) f h.0 in
          ap (λ x. contains_literal x c) (sym (reason_is at A a T l h s n)) ∙ u.member
      | inr s ↦
          reason_member at (a.literal ∷ A) T l r c h.1 (rw s at e) f (reason_later a T l s n)
    ]

-- that clause is false where the literal was decided
pub decided_wrong : (at : Clauses) (A : List Literal) (T : List Assigned) (l : Literal) (r : ℕ)
    (c : List Literal) → HasReasons at A T → reason_in T l.variable ≡ Some r → at r ≡ Some c
    → contains_literal (negation l) (literals_of T) ≡ true
    → (k : Literal) → contains_literal k c ≡ true
    → (contains_literal (negation k) A ≡ true)
    ⊎ (contains_literal (negation k) (literals_of (decided l T)) ≡ true)
decided_wrong at A [] l r c h e f n k m = absurd (none-some r e)
decided_wrong at A (a ∷ T) l r c h e f n k m =
    elim (cases_Bool (a.literal.variable == l.variable)) [
      | inl s ↦
          let u = unit_of at A a.literal a.reason r c (rw s at e) f h.0 in
          elim (all_at (λ x. (x ≡ a.literal) ⊎ (contains_literal (negation x) A ≡ true)) c k
          u.others m) [
            | inl same ↦
                let is : negation k ≡ l =
                ap negation (same ∙ reason_is at A a T l h s n) ∙ negation_twice l in
                inr (rw s (or_left (literal_eq (negation k) l) false
                (ap (λ x. literal_eq x l) is ∙ literal_eq-refl l)))
            | inr w ↦ inl w
          ]
      | inr s ↦
          elim (decided_wrong at (a.literal ∷ A) T l r c h.1 (rw s at e) f
          (reason_later a T l s n) k m) [
            | inl w ↦ elim (or_cases (literal_eq (negation k) a.literal)
                (contains_literal (negation k) A) w) [
                  | inl x ↦ inr (rw s (or_left (literal_eq (negation k) a.literal)
                      (contains_literal (negation k) (literals_of (decided l T))) x))
                  | inr x ↦ inl x
                ]
            | inr w ↦ inr (rw s (or_right (literal_eq (negation k) a.literal)
                (contains_literal (negation k) (literals_of (decided l T))) w))
          ]
    ]

-- what a reason before the literal's variable speaks of stands there, too
pub decided_closed : (at : Clauses) (A : List Literal) (T : List Assigned) (l : Literal) (v r : ℕ)
    (c : List Literal) → HasReasons at A T → reason_in T v ≡ Some r → at r ≡ Some c
    → HasVariable (literals_of (decided l T)) v → v ≢ l.variable
    → AllByRecursion (λ (k : Literal). HasVariable A k.variable
    ⊎ HasVariable (literals_of (decided l T)) k.variable) c
decided_closed at A [] l v r c h e f w ne = absurd (none-some r e)
decided_closed at A (a ∷ T) l v r c h e f w ne =
    elim (cases_Bool (a.literal.variable == l.variable)) [
      | inl s ↦ absurd (ne (only_one l v (rw s at w)))
      | inr s ↦ elim (cases_Bool (a.literal.variable == v)) [
        | inl t ↦
            let u = unit_of at A a.literal a.reason r c (rw t at e) f h.0 in
            rw s (all_weaker (λ k. (k ≡ a.literal) ⊎ (contains_literal (negation k) A ≡ true))
            (λ (k : Literal). HasVariable A k.variable
            ⊎ HasVariable (a.literal ∷ literals_of (decided l T)) k.variable) c
            (λ k p. elim p [
              | inl same ↦ inr (has_here a.literal (literals_of (decided l T)) k.variable
                  (sym (ap (λ (x : Literal). x.variable) same)))
              | inr m ↦ inl (negation k, m, refl)
            ]) u.others)
        | inr t ↦
            rw s (all_weaker (λ (k : Literal). HasVariable (a.literal ∷ A) k.variable
            ⊎ HasVariable (literals_of (decided l T)) k.variable)
            (λ (k : Literal). HasVariable A k.variable
            ⊎ HasVariable (a.literal ∷ literals_of (decided l T)) k.variable) c
            (λ k p. elim p [
              | inl x ↦ elim (has_cases a.literal A k.variable x) [
                | inl y ↦ inr (has_here a.literal (literals_of (decided l T)) k.variable y)
                | inr y ↦ inl y
              ]
              | inr x ↦ inr (has_more a.literal (literals_of (decided l T)) k.variable x)
            ])
            (decided_closed at (a.literal ∷ A) T l v r c h.1 (rw t at e) f
            (has_rest a (literals_of (decided l T)) v t (rw s at w)) ne))
      ]
    ]

-- What is read off the marks.

-- each variable that is marked is among those that were passed, or stands on the trail to come
abbrev pub AreAhead : List Mark → List Literal → List Literal → Type 0
AreAhead M passed ls = (v : ℕ) → mark_at M v ≢ Clear → HasVariable passed v ⊎ HasVariable ls v

ahead_more : (M : List Mark) (passed : List Literal) (k : Literal) (ls : List Literal)
    → AreAhead M passed (k ∷ ls) → AreAhead M (k ∷ passed) ls
ahead_more M passed k ls f v ne = elim (f v ne) [
  | inl p ↦ inl (has_more k passed v p)
  | inr w ↦ elim (has_cases k ls v w) [
    | inl e ↦ inl (has_here k passed v e)
    | inr m ↦ inr m
  ]
]

-- after the literal's variable nothing is marked
after_clear : (at : Clauses) (passed : List Literal) (a : Assigned) (T : List Assigned)
    (l : Literal) (M : List Mark) → HasReasons at passed (a ∷ T)
    → a.literal.variable ≡ l.variable → AreAhead M passed (l ∷ [])
    → AllByRecursion (λ b. mark_at M b.literal.variable ≡ Clear) T
after_clear at passed a T l M h e f =
    recursion_from_All (λ b. mark_at M b.literal.variable ≡ Clear) T (λ i d lt.
    let k = (get_or T i d).literal in
    let m = at_place T i d lt in
    elim (clear_or (mark_at M k.variable)) [
      | inl z ↦ z
      | inr ne ↦ elim (f k.variable ne) [
        | inr w ↦ absurd (once at passed a T k h m (e ∙ sym (only_one l k.variable w)))
        | inl w ↦
            let o = later_open at passed (a ∷ T) k h
            (or_right (literal_eq k a.literal) (contains_literal k (literals_of T)) m) in
            elim (same_variable w.0 k w.2) [
              | inl same ↦ absurd (both_ways _ o.0
                  (ap (λ x. contains_literal x passed) (sym same) ∙ w.1))
              | inr same ↦ absurd (both_ways _ o.1
                  (ap (λ x. contains_literal x passed) (sym same) ∙ w.1))
            ]
      ]
    ])

clear_chosen : (M : List Mark) (T : List Assigned)
    → AllByRecursion (λ b. mark_at M b.literal.variable ≡ Clear) T
    → chosen_reasons (λ k. resolved_of M k.variable) T ≡ []
clear_chosen M [] h = refl
clear_chosen M (b ∷ T) h = rw (ap is_resolved h.0) (clear_chosen M T h.1)

clear_not_kept : (m : Mark) → m ≡ Clear → m ≢ Kept
clear_not_kept m e f = absurd (let z : Clear ≡ Kept = sym e ∙ f in cc)

clear_others : (M : List Mark) (u : Literal) (T : List Assigned)
    → AllByRecursion (λ b. mark_at M b.literal.variable ≡ Clear) T
    → others_in M u (literals_of T) ≡ []
clear_others M u [] h = refl
clear_others M u (b ∷ T) h =
    let none : passes M u b.literal ≡ false =
    passes_not M u b.literal b.literal.variable refl
    (inl (clear_not_kept (mark_at M b.literal.variable) h.0)) in
    rw none (clear_others M u T h.1)

pub decided_chosen : (at : Clauses) (passed : List Literal) (l : Literal) (M : List Mark)
    (T : List Assigned) → HasReasons at passed T → resolved_of M l.variable ≡ false
    → AreAhead M passed (literals_of (decided l T))
    → chosen_reasons (λ k. resolved_of M k.variable) (decided l T)
    ≡ chosen_reasons (λ k. resolved_of M k.variable) T
decided_chosen at passed l M [] h none f = refl
decided_chosen at passed l M (a ∷ T) h none f =
    elim (cases_Bool (a.literal.variable == l.variable)) [
      | inl s ↦
          let e = eqb-true a.literal.variable l.variable s in
          let here : resolved_of M a.literal.variable ≡ false = ap (resolved_of M) e ∙ none in
          let rest = clear_chosen M T (after_clear at passed a T l M h e (rw s at f)) in
          rw s (rw here (rw none (sym rest)))
      | inr s ↦
          let rest = decided_chosen at (a.literal ∷ passed) l M T h.1 none
          (ahead_more M passed a.literal (literals_of (decided l T)) (rw s at f)) in
          elim (cases_Bool (resolved_of M a.literal.variable)) [
            | inl y ↦ rw (s, y) (ap (λ x. reason_list a.reason ++ x) rest)
            | inr n ↦ rw (s, n) rest
          ]
    ]

others_step : (M : List Mark) (u k : Literal) (xs ys : List Literal)
    → others_in M u xs ≡ others_in M u ys → others_in M u (k ∷ xs) ≡ others_in M u (k ∷ ys)
others_step M u k xs ys e = elim (cases_Bool (passes M u k)) [
  | inl y ↦ rw y (ap (λ x. negation k ∷ x) e)
  | inr n ↦ rw n e
]

pub decided_others : (at : Clauses) (passed : List Literal) (l : Literal) (M : List Mark)
    (T : List Assigned) → HasReasons at passed T
    → AreAhead M passed (literals_of (decided l T))
    → others_in M l (literals_of (decided l T)) ≡ others_in M l (literals_of T)
decided_others at passed l M [] h f = refl
decided_others at passed l M (a ∷ T) h f =
    elim (cases_Bool (a.literal.variable == l.variable)) [
      | inl s ↦
          let e = eqb-true a.literal.variable l.variable s in
          let here : passes M l a.literal ≡ false =
          passes_not M l a.literal a.literal.variable refl (inr e) in
          let own : passes M l l ≡ false = passes_not M l l l.variable refl (inr refl) in
          let rest = clear_others M l T (after_clear at passed a T l M h e (rw s at f)) in
          rw here (rw s (rw own (sym rest)))
      | inr s ↦
          ap (λ D. others_in M l (literals_of D))
          (cond-false (a.literal.variable == l.variable) (by_choice l ∷ []) (a ∷ decided l T) s)
          ∙ others_step M l a.literal (literals_of (decided l T)) (literals_of T)
          (decided_others at (a.literal ∷ passed) l M T h.1
          (ahead_more M passed a.literal (literals_of (decided l T)) (rw s at f)))
    ]

-- what holds along the trail, and of the decision
pub decided_all : (P Q : Assigned → Type 0) (l : Literal) (T : List Assigned)
    → ((a : Assigned) → P a → Q a) → Q (by_choice l) → AllByRecursion P T
    → AllByRecursion Q (decided l T)
decided_all P Q l [] f own h = tt
decided_all P Q l (a ∷ T) f own h = elim (cases_Bool (a.literal.variable == l.variable)) [
  | inl s ↦ rw s (own, tt)
  | inr s ↦ rw s (f a h.0, decided_all P Q l T f own h.1)
]
