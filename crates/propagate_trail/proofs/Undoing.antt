-- Levels that are undone: where they begin on the trail, and the tables without them.
use Rattle.std.proofs.Common.{◌≡◌, ℕ, zero, suc, ◌+◌, ◌<◌, ◌≤◌, leb, Bool, false, List, [], ◌∷◌}
use Rattle.std.proofs.Common.{◌++◌, take, length, get_or, set, Option, Some, None, inl, inr, refl}
use Rattle.std.proofs.Common.{sym, ◌∙◌, ap, subst, arith, zero-add}
use Rattle.std.specs.Prelude.{◌==◌}
use Rattle.std.proofs.lemmas.Bool.{cases_Bool, cond-true, cond-false, le-leb, lt-leb, leb-true}
use Rattle.std.proofs.lemmas.Bool.{leb-false, or_parts, eq-eqb}
use Rattle.std.proofs.lemmas.List.{length-map}
use Rattle.cnf.specs.Literal.{Literal, negation, index_of}
use Rattle.propagate_trail.specs.Trail.{Assigned, literals_of, depth_of, is_decision, level_after}
use Rattle.propagate_trail.specs.Trail.{level_from, kept_from, kept_to}
use Rattle.propagate_trail.specs.Tables.{mentions, reason_at, assigned_by, IsTrail}
use Rattle.propagate_trail.proofs.Levels.{depth_step}
use Rattle.propagate_trail.proofs.Trails.{made, literals_of-assigned}
use Rattle.propagate_trail.proofs.Tables.{trail_pop, depth_before}

-- the level of the literal at a place
pub level_from_at : (n : ℕ) (T : List Assigned) (k : ℕ) (d : Literal) → k < length T
    → mentions (get_or (literals_of T) k d).variable (take k (literals_of T)) ≡ false
    → level_from n T (get_or (literals_of T) k d).variable ≡ Some (n + depth_of (take (suc k) T))
level_from_at n [] k d lt e = absurd (omega arith)
level_from_at n (a ∷ T) zero d lt e =
    cond-true (a.literal.variable == a.literal.variable) (Some (level_after n a))
    (level_from (level_after n a) T a.literal.variable)
    (eq-eqb a.literal.variable a.literal.variable refl)
    ∙ ap Some (omega (arith, depth_step n a []))
level_from_at n (a ∷ T) (suc k) d lt e =
    let v = (get_or (literals_of T) k d).variable in
    let e' = or_parts (a.literal.variable == v) (mentions v (take k (literals_of T))) e in
    cond-false (a.literal.variable == v) (Some (level_after n a)) (level_from (level_after n a) T v)
    e'.0
    ∙ level_from_at (level_after n a) T k d (omega arith) e'.1
    ∙ ap Some (depth_step n a (take (suc k) T))

-- what the table has for it
pub level_at_place : (n : ℕ) (A : List Literal) (vs : List (Option Bool)) (ls : List (Option ℕ))
    (ps : List ℕ) (R : List (Option ℕ)) (d room : ℕ) → IsTrail n A vs ls ps R d room
    → (k : ℕ) (l : Literal) → k < length A → get_or ls (get_or A k l).variable None
    ≡ Some (depth_of (take (k + 1) (assigned_by R A)))
level_at_place n A vs ls ps R d room t k l lt =
    let T = assigned_by R A in
    let long = length-map A (λ (x : Literal). made x (reason_at R x.variable)) in
    let e : suc k ≡ k + 1 = omega arith in
    t.level_of (get_or A k l).variable
    ∙ subst (λ X. mentions (get_or X k l).variable (take k X) ≡ false
    → level_from 0 T (get_or X k l).variable ≡ Some (0 + depth_of (take (suc k) T)))
    (literals_of-assigned R A) (level_from_at 0 T k l (omega arith)) (t.once k l lt)
    ∙ ap Some (zero-add (depth_of (take (suc k) T)) ∙ ap (λ m. depth_of (take m T)) e)

kept_from_at : (n to k : ℕ) (T : List Assigned) → n + depth_of (take k T) ≤ to
    → (k < length T → to < n + depth_of (take (suc k) T)) → kept_from n to T ≡ take k T
kept_from_at n to zero [] low high = refl
kept_from_at n to (suc k) [] low high = refl
kept_from_at n to zero (a ∷ T) low high =
    let h = high (omega arith) in
    cond-false (leb (level_after n a) to) (a ∷ kept_from (level_after n a) to T) []
    (lt-leb (level_after n a) to (omega (arith, depth_step n a [])))
kept_from_at n to (suc k) (a ∷ T) low high =
    let s = depth_step n a (take k T) in
    let s' = depth_step n a (take (suc k) T) in
    cond-true (leb (level_after n a) to) (a ∷ kept_from (level_after n a) to T) []
    (le-leb (level_after n a) to (omega arith))
    ∙ ap (λ x. a ∷ x) (kept_from_at (level_after n a) to k T (omega arith)
    (λ lt. let h = high (omega arith) in omega arith))

-- what is kept ends where the level of the next literal is above
pub kept_at : (to k : ℕ) (T : List Assigned) → depth_of (take k T) ≤ to
    → (k < length T → to < depth_of (take (k + 1) T)) → kept_to to T ≡ take k T
kept_at to k T low high =
    kept_from_at 0 to k T (omega arith)
    (λ lt. let e : k + 1 ≡ suc k = omega arith in
    let h = subst (λ m. to < depth_of (take m T)) e (high lt) in omega arith)

after_next : (n : ℕ) (a : Assigned) → level_after n a ≤ n + 1
after_next n a = elim (cases_Bool (is_decision a)) [
  | inl h ↦ rw h (omega arith)
  | inr h ↦ rw h (omega arith)
]

depth_kept_from : (n to : ℕ) (T : List Assigned) → n ≤ to → to ≤ n + depth_of T
    → n + depth_of (kept_from n to T) ≡ to
depth_kept_from n to [] low high = omega arith
depth_kept_from n to (a ∷ T) low high = elim (cases_Bool (leb (level_after n a) to)) [
  | inl e ↦ rw e (omega (
    arith,
    depth_step n a (kept_from (level_after n a) to T),
    depth_kept_from (level_after n a) to T (leb-true (level_after n a) to e)
        (omega (arith, depth_step n a T)),
  ))
  | inr e ↦ rw e (omega (arith, after_next n a, leb-false (level_after n a) to e))
]

-- how many decisions are kept
pub depth_kept : (to : ℕ) (T : List Assigned) → to ≤ depth_of T → depth_of (kept_to to T) ≡ to
depth_kept to T h = omega (arith, depth_kept_from 0 to T (omega arith) (omega arith))

-- the same with another room
pub trail_sized : (n : ℕ) (A : List Literal) (vs : List (Option Bool)) (ls : List (Option ℕ))
    (ps : List ℕ) (R : List (Option ℕ)) (d d' room room' : ℕ) → d' ≡ d → n ≤ room'
    → IsTrail n A vs ls ps R d room → IsTrail n A vs ls ps R d' room'
trail_sized n A vs ls ps R d d' room room' e wide t = record {
  within = t.within;
  few = t.few;
  once = t.once;
  values_length = t.values_length;
  levels_length = t.levels_length;
  positions_length = t.positions_length;
  reasons_length = t.reasons_length;
  value_of = t.value_of;
  level_of = t.level_of;
  position_of = t.position_of;
  depth_is = e ∙ t.depth_is;
  has_room = wide;
  open_literals = t.open_literals;
}

-- the last literal goes
pub trail_back : (n : ℕ) (A : List Literal) (vs : List (Option Bool)) (ls : List (Option ℕ))
    (ps : List ℕ) (R : List (Option ℕ)) (d d' : ℕ) (l : Literal) (A' : List Literal)
    (vs' : List (Option Bool)) (v : ℕ) → A ≡ A' ++ l ∷ []
    → vs' ≡ set (set vs (index_of l) None) (index_of (negation l)) None → v ≡ l.variable
    → d' ≡ depth_of (assigned_by R A') → IsTrail n A vs ls ps R d n
    → IsTrail n A' vs' (set ls v None) ps R d' n
trail_back n A vs ls ps R d d' l A' vs' v a b e f t =
    rw (b, e)
    (let t' = trail_pop n A' vs ls ps R d n n l (omega arith) (rw a at t) in
    trail_sized n A' (set (set vs (index_of l) None) (index_of (negation l)) None)
    (set ls l.variable None) ps R (depth_before d (reason_at R l.variable)) d' n n
    (f ∙ sym t'.depth_is) (omega arith) t')
