-- The literals of level 0 that clauses need, and the hints that name their clauses.
use Rattle.std.proofs.Common.{◌≡◌, ◌≢◌, ℕ, ◌+◌, ◌-◌, ◌<◌, true, false, List, [], ◌∷◌, ◌++◌, length}
use Rattle.std.proofs.Common.{get_or, set, take, map, Option, Some, None, inl, inr, refl, sym, ◌∙◌}
use Rattle.std.proofs.Common.{ap, subst, arith}
use Rattle.std.specs.Prelude.{unwrap_or, All, IfSome, Contains}
use Rattle.std.proofs.lemmas.Bool.{cases_Bool, cases_eq, cases_lt, or_cases, or_left, or_right}
use Rattle.std.proofs.lemmas.Bool.{false≢true, both_ways}
use Rattle.std.proofs.lemmas.List.{get_or_past, get_or_default, get_or-set_same, get_or-set_other}
use Rattle.std.proofs.lemmas.List.{take_more, length-set, map_push, map-append}
use Rattle.std.proofs.lemmas.Option.{none-some, same_Some}
use Rattle.cnf.specs.Literal.{Literal, negation, literal_eq}
use Rattle.cnf.specs.Clause.{contains_literal}
use Rattle.cnf.proofs.Laws.{literal_eq-true, same_variable, contains_front, repeat_push}
use Rattle.clauses.specs.Slots.{Slots, clause_at}
use Rattle.propagate.specs.Trail.{Assigned, literals_of, level_in, value_in, HasReasons}
use Rattle.propagate.specs.Watches.{EngineState, is_attached, IsVariable}
use Rattle.propagate.specs.Fits.{Fits}
use Rattle.propagate.proofs.Laws.{negation_twice, contains-push}
use Rattle.cnf.proofs.Laws.{literal_eq-refl, all_weaker, all_append}
use Rattle.propagate.proofs.Laws.{contains_at}
use Rattle.propagate.proofs.Laws.{attached_within, within_variable, false_value, not_false_value}
use Rattle.propagate.proofs.Laws.{no_tautology}
use Rattle.analyze.proofs.Laws.{low_kept}
use Rattle.lrat_log.specs.declared.lines.Name.{Name}
use Rattle.lrat_log.specs.declared.lines.Hint.{Hint}
use Rattle.lrat_log.specs.declared.lines.Hint.TheVariants.{Plain}
use Rattle.cdcl_search.specs.Invariant.{name_at, HasUnit, zero_of}
use Rattle.cdcl_search.specs.Hinting.{AreUnits, plain_hints, IsNotedIn, IsNeededBy, AreHintsOf}
use Rattle.cdcl_search.specs.Moves.{unit_at, HaveUnits, CoversZero, Gathers}
use Rattle.cdcl_search.proofs.Conflicts.{at_zero}
use Rattle.cdcl_search.proofs.LearnedLines.{kept_in}

pub some_within : {A : Type 0} (xs : List (Option A)) (i : ℕ) (x : A) → get_or xs i None ≡ Some x
    → i < length xs
some_within xs i x e =
    elim (cases_lt i (length xs)) [
      | inl lt ↦ lt
      | inr ge ↦
          absurd (none-some x (sym (get_or_past xs i None ge) ∙ e))
    ]

-- a literal of an attached clause has a variable of the engine
pub literal_within : (e : EngineState) (slots : Slots) (r : ℕ) (c : List Literal) (i : ℕ)
    (l : Literal) → Fits e slots → is_attached e r ≡ true → clause_at slots r ≡ Some c
    → i < length c → l ≡ get_or c i l → IsVariable e.variables l
literal_within e slots r c i l fits on live lt is =
    within_variable e.variables c l (attached_within e slots r c fits on live)
    (ap (λ x. contains_literal x c) is ∙ contains_at c i l lt)

-- a literal that is false at level 0 has its unit clause
pub noted_unit : (e : EngineState) (slots : Slots) (units : List (Option ℕ)) (r : ℕ)
    (c : List Literal) (i : ℕ) (l : Literal) → Fits e slots
    → IfSome (clause_at slots r) (IsNotedIn slots units e.trail)
    → clause_at slots r ≡ Some c → i < length c → l ≡ get_or c i l
    → level_in e.trail l.variable ≡ Some 0 → value_in e.trail l ≡ Some false
    → HasUnit slots units (negation l)
noted_unit e slots units r c i l fits noted live lt is level value =
    let all : IsNotedIn slots units e.trail c =
    subst (λ o. IfSome o (IsNotedIn slots units e.trail)) live noted in
    all l (ap (λ x. contains_literal x c) is ∙ contains_at c i l lt)
    (low_kept (clause_at slots) e.trail 0 (negation l) 0 fits.reasons
    (false_value e.trail l value) level (omega arith))

-- and the table has it there
pub found_unit : (e : EngineState) (slots : Slots) (units : List (Option ℕ)) (r : ℕ)
    (c : List Literal) (i : ℕ) (l : Literal) → Fits e slots
    → IfSome (clause_at slots r) (IsNotedIn slots units e.trail)
    → clause_at slots r ≡ Some c → i < length c → l ≡ get_or c i l → (v : ℕ) (o : Option ℕ)
    → v ≡ l.variable → level_in e.trail v ≡ Some 0 → value_in e.trail l ≡ Some false
    → o ≡ get_or units (v - 1) o
    → (u : ℕ) × (o ≡ Some u) × (get_or units (l.variable - 1) None ≡ Some u)
    × (clause_at slots u ≡ Some (negation l ∷ []))
found_unit e slots units r c i l fits noted live lt is v o named level value found =
    let has =
    noted_unit e slots units r c i l fits noted live lt is (sym (ap (level_in e.trail) named)
    ∙ level) value in
    let at : get_or units (v - 1) None ≡ Some has.0 =
    ap (λ x. get_or units (x - 1) None) named ∙ has.1 in (
      has.0,
      found ∙ get_or_default units (v - 1) o None (some_within units (v - 1) has.0 at) ∙ at,
      has.1,
      has.2,
    )

push_cases : (k : Literal) (c : List Literal) (l : Literal) (P : Type 0)
    → contains_literal k (c ++ l ∷ []) ≡ true → (contains_literal k c ≡ true → P) → (k ≡ l → P) → P
push_cases k c l P e old new =
    elim (or_cases (contains_literal k c) (literal_eq k l) (sym (contains-push k c l) ∙ e)) [
      | inl h ↦ old h
      | inr h ↦ new (literal_eq-true k l h)
    ]

in_push : (k : Literal) (c : List Literal) (l : Literal) → k ≡ l
    → contains_literal k (c ++ l ∷ []) ≡ true
in_push k c l e =
    contains-push k c l
    ∙ or_right (contains_literal k c) (literal_eq k l) (ap (λ x. literal_eq x l) e
    ∙ literal_eq-refl l)

same_place : (k l : Literal) → 0 < k.variable → 0 < l.variable → k.variable - 1 ≡ l.variable - 1
    → k.variable ≡ l.variable
same_place k l a b e = omega arith

-- one more name
named_push : (hints : List Hint) (names : List Name) (units : List (Option ℕ))
    (zeros : List Literal) (z : Literal) (n : Name)
    → hints ≡ plain_hints (map (name_at names) (map (unit_at units) zeros))
    → n ≡ name_at names (unit_at units z)
    → hints ++ Plain n ∷ [] ≡ plain_hints
    (map (name_at names) (map (unit_at units) (zeros ++ z ∷ [])))
named_push hints names units zeros z n h name =
    let U : List ℕ = map (unit_at units) zeros in
    let more : map (name_at names) (map (unit_at units) (zeros ++ z ∷ [])) ≡ map (name_at names) U
    ++ name_at names (unit_at units z) ∷ [] =
    ap (map (name_at names)) (map_push (unit_at units) zeros z)
    ∙ map_push (name_at names) U (unit_at units z) in
    ap (λ x. x ++ Plain n ∷ []) h
    ∙ ap (λ m. plain_hints (map (name_at names) U) ++ Plain m ∷ []) name
    ∙ sym (ap plain_hints more
    ∙ map_push Plain (map (name_at names) U) (name_at names (unit_at units z)))

pub gathers_start : (slots : Slots) (names : List Name) (units : List (Option ℕ))
    (T : List Assigned) (stamp : ℕ) (all : List ℕ) (stamps : List ℕ) → All (λ n. n < stamp) stamps
    → Gathers slots names units T stamp all [] [] stamps []
gathers_start slots names units T stamp all stamps past = record {
  zeros = [];
  spelled = refl;
  marked = λ l m. absurd (false≢true m);
  stands = λ v lt e. (let low : get_or stamps v 0 < stamp = past v 0 lt in absurd (omega arith));
  from_one = λ l m. absurd (false≢true m);
  within = λ l m. absurd (false≢true m);
  once = refl;
  have = λ l m. absurd (false≢true m);
  serves = tt;
  covers = λ k m z. absurd (false≢true m);
  needed = λ z m. absurd (false≢true m);
}

module _ (slots : Slots) (names : List Name) (units : List (Option ℕ)) (T : List Assigned)
    (stamp : ℕ) (all done : List ℕ) (r : ℕ) (c : List Literal)
    (listed : Contains all r) (reasons : HasReasons (clause_at slots) [] T)
    (live : clause_at slots r ≡ Some c) where
  covers_more : (zeros : List Literal) (i : ℕ) (l : Literal) → i < length c → l ≡ get_or c i l
      → CoversZero T zeros (take i c)
      → (contains_literal (negation l) (zero_of T) ≡ true
      → contains_literal (negation l) zeros ≡ true) → CoversZero T zeros (take (i + 1) c)
  covers_more zeros i l lt is covers here k m z =
      push_cases k (take i c) l (contains_literal (negation k) zeros ≡ true)
      (ap (contains_literal k) (sym (take_more c i l lt ∙ ap (λ x. take i c ++ x ∷ []) (sym is)))
      ∙ m)
      (λ old. covers k old z)
      (λ same. ap (λ x. contains_literal (negation x) zeros) same
      ∙ here (ap (λ x. contains_literal (negation x) (zero_of T)) (sym same) ∙ z))

  -- a literal that is not of level 0, or true, or met
  pub gathers_miss : (i : ℕ) (stamps : List ℕ) (hints : List Hint) (l : Literal)
      → (g : Gathers slots names units T stamp all done (take i c) stamps hints) → i < length c
      → l ≡ get_or c i l
      → (contains_literal (negation l) (zero_of T) ≡ true
      → contains_literal (negation l) g.zeros ≡ true)
      → Gathers slots names units T stamp all done (take (i + 1) c) stamps hints
  gathers_miss i stamps hints l g lt is here = record {
    zeros = g.zeros;
    spelled = g.spelled;
    marked = g.marked;
    stands = g.stands;
    from_one = g.from_one;
    within = g.within;
    once = g.once;
    have = g.have;
    serves = g.serves;
    covers = covers_more g.zeros i l lt is g.covers here;
    needed = g.needed;
  }

  -- one that is new
  pub gathers_hit : (i : ℕ) (stamps : List ℕ) (hints : List Hint) (l : Literal) (n : Name)
      → Gathers slots names units T stamp all done (take i c) stamps hints → i < length c
      → l ≡ get_or c i l
      → level_in T l.variable ≡ Some 0 → value_in T l ≡ Some false
      → get_or stamps (l.variable - 1) 0 < stamp → l.variable - 1 < length stamps → 0 < l.variable
      → IsNotedIn slots units T c → n ≡ name_at names (unit_at units l)
      → Gathers slots names units T stamp all done (take (i + 1) c)
      (set stamps (l.variable - 1) stamp) (hints ++ Plain n ∷ [])
  gathers_hit i stamps hints l n g lt is level value fresh room one noted name =
      let k0 = negation l in
      let p = l.variable - 1 in
      let M = set stamps p stamp in
      let F = g.zeros ++ k0 ∷ [] in
      let zero : contains_literal k0 (zero_of T) ≡ true =
      low_kept (clause_at slots) T 0 k0 0 reasons (false_value T l value) level (omega arith) in
      let here : get_or M p 0 ≡ stamp = get_or-set_same stamps p stamp 0 room in
      let member : contains_literal l c ≡ true = ap (λ x. contains_literal x c) is
      ∙ contains_at c i l lt in
      let new : contains_literal k0 g.zeros ≡ false =
      elim (cases_Bool (contains_literal k0 g.zeros))
      as (λ _. contains_literal k0 g.zeros ≡ false) [
        | inr e ↦ e
        | inl e ↦ absurd (let old : get_or stamps p 0 ≡ stamp = g.marked k0 e in omega arith)
      ] in
      record {
        zeros = F;
        spelled = named_push hints names units g.zeros k0 n g.spelled name;
        marked = λ k m. push_cases k g.zeros k0 (get_or M (k.variable - 1) 0 ≡ stamp) m
            (λ before. elim (cases_eq (k.variable - 1) p)
            as (λ _. get_or M (k.variable - 1) 0 ≡ stamp) [
              | inl same ↦ ap (λ v. get_or M v 0) same ∙ here
              | inr other ↦ get_or-set_other stamps p (k.variable - 1) stamp 0 other
                  ∙ g.marked k before
            ])
            (λ same. ap (λ (x : Literal). get_or M (x.variable - 1) 0) same ∙ here);
        stands =
            λ v inside e. elim (cases_eq v p) as (λ _. (k : Literal) × (contains_literal k F ≡ true)
            × (k.variable - 1 ≡ v)) [
              | inl same ↦ (k0, in_push k0 g.zeros k0 refl, sym same)
              | inr other ↦
                  let w =
                  g.stands v (omega (arith, inside, length-set stamps p stamp))
                  (sym (get_or-set_other stamps p v stamp 0 other) ∙ e) in
                  (w.0, contains_front w.0 g.zeros (k0 ∷ []) w.1, w.2)
            ];
        from_one = λ k m. push_cases k g.zeros k0 (0 < k.variable) m (λ before. g.from_one k before)
            (λ same. subst (λ (x : Literal). 0 < x.variable) (sym same) one);
        within =
            λ k m. push_cases k g.zeros k0 (contains_literal k (zero_of T) ≡ true) m
            (λ before. g.within k before) (λ same. ap (λ x. contains_literal x (zero_of T)) same
            ∙ zero);
        once = repeat_push g.zeros k0 new g.once;
        have = λ k m. push_cases k g.zeros k0 (HasUnit slots units k) m
            (λ before. g.have k before)
            (λ same. subst (HasUnit slots units) (sym same) (noted l member zero));
        serves =
            all_weaker _ _ done (λ h f d e k m z. contains_front (negation k) g.zeros (k0 ∷ [])
            (f d e k m z)) g.serves;
        covers =
            covers_more F i l lt is (λ k m z. contains_front (negation k) g.zeros (k0 ∷ [])
            (g.covers k m z)) (λ z. in_push k0 g.zeros k0 refl);
        needed = λ k m. push_cases k g.zeros k0 (IsNeededBy slots all k) m
            (λ before. g.needed k before)
            (λ same. record {
              reference = r;
              clause = c;
              listed = listed;
              live = live;
              stands = ap (λ x. contains_literal (negation x) c) same
                  ∙ ap (λ x. contains_literal x c) (negation_twice l) ∙ member;
            });
      }

  -- why a literal is passed over
  pub other_level : (zeros : List Literal) (l : Literal) → level_in T l.variable ≢ Some 0
      → contains_literal (negation l) (zero_of T) ≡ true
      → contains_literal (negation l) zeros ≡ true
  other_level zeros l ne z = absurd (ne (at_zero T (negation l) z))

  pub other_value : (zeros : List Literal) (l : Literal) → value_in T l ≢ Some false
      → contains_literal (negation l) (zero_of T) ≡ true
      → contains_literal (negation l) zeros ≡ true
  other_value zeros l ne z =
      absurd (both_ways _ (not_false_value (clause_at slots) T l reasons ne)
      (kept_in T (negation l) z))

  pub met_before : (part : List Literal) (stamps : List ℕ) (hints : List Hint) (l : Literal)
      → (g : Gathers slots names units T stamp all done part stamps hints) → 0 < l.variable
      → l.variable - 1 < length stamps
      → get_or stamps (l.variable - 1) 0 ≡ stamp → contains_literal (negation l) (zero_of T) ≡ true
      → contains_literal (negation l) g.zeros ≡ true
  met_before part stamps hints l g one room e z =
      let w = g.stands (l.variable - 1) room e in
      elim (same_variable w.0 (negation l) (same_place w.0 l (g.from_one w.0 w.1) one w.2))
      as (λ _. contains_literal (negation l) g.zeros ≡ true) [
        | inl same ↦ ap (λ x. contains_literal x g.zeros) (sym same) ∙ w.1
        | inr complement ↦ absurd (no_tautology (clause_at slots) T reasons (negation l)
            (kept_in T (negation l) z)
            (ap (λ x. contains_literal x (literals_of T)) (sym complement)
            ∙ kept_in T w.0 (g.within w.0 w.1)))
      ]

  -- all literals of the clause were looked at
  pub gathers_clause : (stamps : List ℕ) (hints : List Hint)
      → Gathers slots names units T stamp all done c stamps hints
      → Gathers slots names units T stamp all (done ++ r ∷ []) [] stamps hints
  gathers_clause stamps hints g = record {
    zeros = g.zeros;
    spelled = g.spelled;
    marked = g.marked;
    stands = g.stands;
    from_one = g.from_one;
    within = g.within;
    once = g.once;
    have = g.have;
    serves =
        all_append _ done (r ∷ []) g.serves (
          λ d e k m z. g.covers k (ap (contains_literal k) (same_Some c d (sym live ∙ e)) ∙ m) z,
          tt,
        );
    covers = λ k m z. absurd (false≢true m);
    needed = g.needed;
  }

-- the clauses of the literals
units_of : (slots : Slots) (units : List (Option ℕ)) (zeros : List Literal)
    → HaveUnits slots units zeros → AreUnits (clause_at slots) (map (unit_at units) zeros) zeros
units_of slots units [] have = tt
units_of slots units (z ∷ zs) have =
    let h = have z (or_left (literal_eq z z) (contains_literal z zs) (literal_eq-refl z)) in (
      ap (clause_at slots) (ap (λ o. unwrap_or o 0) h.1) ∙ h.2,
      units_of slots units zs
          (λ l m. have l (or_right (literal_eq l z) (contains_literal l zs) m)),
    )

pub hints_are : (slots : Slots) (names : List Name) (units : List (Option ℕ)) (T : List Assigned)
    (stamp : ℕ) (rs : List ℕ) (stamps : List ℕ) (hints all : List Hint)
    → Gathers slots names units T stamp rs rs [] stamps hints
    → all ≡ hints ++ plain_hints (map (name_at names) rs) → AreHintsOf slots names T rs all
hints_are slots names units T stamp rs stamps hints all g e = record {
  units = map (unit_at units) g.zeros;
  zeros = g.zeros;
  spelled =
      let U : List ℕ = map (unit_at units) g.zeros in
      let parts : map (name_at names) (U ++ rs) ≡ map (name_at names) U ++ map (name_at names) rs =
      map-append (name_at names) U rs in
      e ∙ ap (λ x. x ++ plain_hints (map (name_at names) rs)) g.spelled
      ∙ sym (ap plain_hints parts
      ∙ map-append Plain (map (name_at names) U) (map (name_at names) rs));
  are_units = units_of slots units g.zeros g.have;
  within = g.within;
  once = g.once;
  serves = g.serves;
  needed = g.needed;
}
