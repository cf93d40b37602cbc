-- The lines that unit propagation adds: a clause of one literal, and the empty clause.
use Rattle.std.proofs.Common.{◌≡◌, ℕ, ◌+◌, ◌-◌, ◌<◌, ◌≤◌, ◌^◌, max, Bool, true, false, not, List}
use Rattle.std.proofs.Common.{[], ◌∷◌, ◌++◌, length, map, filter, take, get_or, Some, None, Option}
use Rattle.std.proofs.Common.{◌⊎◌, inl, inr, refl, sym, ◌∙◌, ap, subst, arith}
use Rattle.std.specs.Prelude.{All, if◌then◌else◌, unwrap_or}
use Rattle.std.proofs.lemmas.Bool.{or_cases, or_left, or_right, both_ways, false≢true}
use Rattle.std.proofs.lemmas.Bool.{false_from_ne_true}
use Rattle.std.proofs.lemmas.List.{append-nil, map-append, get_or_read}
use Rattle.std.proofs.lemmas.List.Elements.{All-nil, All-cons, filter-append}
use Rattle.cnf.specs.Literal.{Literal, negation, literal_eq}
use Rattle.cnf.specs.Clause.{contains_literal, without_literal, greatest_variable}
use Rattle.cnf.specs.Formula.{IsFormulaClause}
use Rattle.cnf.specs.Refute.{IsUnit, IsFalseUnder}
use Rattle.cnf.specs.Lrat.{IsId}
use Rattle.cnf.proofs.Laws.{literal_eq-true, all_from, all_at}
use Rattle.clauses.specs.Slots.{Slots, clause_at}
use Rattle.lrat_log.specs.declared.lines.Name.{Name}
use Rattle.lrat_log.specs.declared.lines.Hint.{Hint}
use Rattle.lrat_log.specs.declared.lines.Hint.TheVariants.{Plain}
use Rattle.lrat_log.specs.declared.lines.Kind.TheVariants.{Unit, Empty}
use Rattle.lrat_log.specs.Log.{LogLine, id_of, number_in, HasNumber}
use Rattle.lrat_log.specs.Steps.{given_of, log_live, IsOwnGroup, IsBaseOf}
use Rattle.cnf.specs.Marks.{mark_of}
use Rattle.eliminate.specs.declared.simplifier.Simplifier.{Simplifier}
use Rattle.eliminate.specs.declared.units.Units.{Units}
use Rattle.reconstruction.specs.Removals.{is_eliminated}
use Rattle.eliminate_names.specs.Work.{name_at, IsRupLine}
use Rattle.eliminate.specs.State.{Start}
use Rattle.eliminate.specs.Simplifier.{IsSimplified, IsAddableLine}
use Rattle.eliminate.specs.Units.{AreUnits, unit_of, unit_name, falsified_in, unit_hints}
use Rattle.eliminate.proofs.Adding.{unit_line, empty_line}
use Rattle.eliminate.proofs.Falsified.{AreFalseByUnits}
use Rattle.cnf.proofs.Laws.{literal_eq-refl}
use Rattle.eliminate_tables.proofs.Laws.{member_has}
use Rattle.cnf.proofs.Laws.{filter-contains}
use Rattle.eliminate_names.proofs.Laws.{number_at}
use Rattle.eliminate.proofs.ClauseStates.{take_next}

-- the next literal of a clause is false, or not
falsified-pushed : (u : Units) (c : List Literal) (l : Literal)
    → falsified_in u (c ++ l ∷ []) ≡ falsified_in u c ++ falsified_in u (l ∷ [])
falsified-pushed u c l = filter-append (λ k. mark_of u.values (negation k)) c (l ∷ [])

pub falsified_more : (u : Units) (names : List Name) (c : List Literal) (i : ℕ) (l : Literal)
    (hints more : List Hint) (n : Name) → i < length c → l ≡ get_or c i l
    → mark_of u.values (negation l) ≡ true
    → n ≡ unit_name u.clauses.items names l
    → hints ≡ map (λ k. Plain (unit_name u.clauses.items names k)) (falsified_in u (take i c))
    → more ≡ hints ++ Plain n ∷ []
    → more ≡ map (λ k. Plain (unit_name u.clauses.items names k)) (falsified_in u (take (i + 1) c))
falsified_more u names c i l hints more n h is m e old new =
    let f : Literal → Hint = λ k. Plain (unit_name u.clauses.items names k) in
    let one : falsified_in u (l ∷ []) ≡ l ∷ [] = rw m refl in
    let both : falsified_in u (take (i + 1) c) ≡ falsified_in u (take i c) ++ l ∷ [] =
    ap (falsified_in u) (take_next c i l h is) ∙ falsified-pushed u (take i c) l
    ∙ ap (λ xs. falsified_in u (take i c) ++ xs) one in
    new ∙ ap (λ xs. xs ++ Plain n ∷ []) old
    ∙ ap (λ x. map f (falsified_in u (take i c)) ++ Plain x ∷ []) e
    ∙ sym (ap (map f) both ∙ map-append f (falsified_in u (take i c)) (l ∷ []))

pub falsified_same : (u : Units) (c : List Literal) (i : ℕ) (l : Literal) → i < length c
    → l ≡ get_or c i l → mark_of u.values (negation l) ≡ false
    → falsified_in u (take i c) ≡ falsified_in u (take (i + 1) c)
falsified_same u c i l h is m =
    let none : falsified_in u (l ∷ []) ≡ [] = rw m refl in
    sym (ap (falsified_in u) (take_next c i l h is) ∙ falsified-pushed u (take i c) l
    ∙ ap (λ xs. falsified_in u (take i c) ++ xs) none ∙ append-nil (falsified_in u (take i c)))

-- two tests that agree on the literals of a clause keep the same ones
same_filter : (p q : Literal → Bool) (c : List Literal)
    → ((k : Literal) → contains_literal k c ≡ true → p k ≡ q k) → filter p c ≡ filter q c
same_filter p q [] h = refl
same_filter p q (k ∷ c) h =
    let here : p k ≡ q k =
    h k (or_left (literal_eq k k) (contains_literal k c) (literal_eq-refl k)) in
    let rest : filter p c ≡ filter q c =
    same_filter p q c (λ l e. h l (or_right (literal_eq l k) (contains_literal l c) e)) in
    ap (λ b. if b then k ∷ filter p c else filter p c) here
    ∙ ap (λ xs. if q k then k ∷ xs else xs) rest

all_kept : (p : Literal → Bool) (c : List Literal)
    → ((k : Literal) → contains_literal k c ≡ true → p k ≡ true) → filter p c ≡ c
all_kept p [] h = refl
all_kept p (k ∷ c) h =
    ap (λ b. if b then k ∷ filter p c else filter p c)
    (h k (or_left (literal_eq k k) (contains_literal k c) (literal_eq-refl k)))
    ∙ ap (λ xs. k ∷ xs)
    (all_kept p c (λ l e. h l (or_right (literal_eq l k) (contains_literal l c) e)))

module _ (u : Units) (slots : Slots) (c : List Literal) (a : AreUnits u slots)
    (some : All (λ k. 0 < k.variable) c) where
  marked_as : (k : Literal) (b : Bool) → contains_literal k c ≡ true
      → contains_literal (negation k) u.trail.items ≡ b → mark_of u.values (negation k) ≡ b
  marked_as k b has e = a.marked.marked (negation k) (member_has (λ l. 0 < l.variable) c k some has)
      ∙ e

  -- of a unit clause all literals are false but one
  pub falsified_unit : (l : Literal) → IsUnit c u.trail.items l
      → falsified_in u c ≡ without_literal l c
  falsified_unit l w =
      same_filter (λ k. mark_of u.values (negation k)) (λ k. not (literal_eq l k)) c (λ k has.
      elim (all_at (λ x. (x ≡ l) ⊎ (contains_literal (negation x) u.trail.items ≡ true)) c k
      w.others has) [
        | inl same ↦ marked_as k false has
            (ap (λ x. contains_literal (negation x) u.trail.items) same ∙ w.not_false)
            ∙ sym (ap not (ap (literal_eq l) same ∙ literal_eq-refl l))
        | inr false_one ↦ marked_as k true has false_one
            ∙ sym (ap not (false_from_ne_true (literal_eq l k) (λ e.
            both_ways (contains_literal (negation l) u.trail.items) w.not_false
            (subst (λ x. contains_literal (negation x) u.trail.items ≡ true)
            (sym (literal_eq-true l k e)) false_one))))
      ])

  pub falsified_all : IsFalseUnder c u.trail.items → falsified_in u c ≡ c
  falsified_all w =
      all_kept (λ k. mark_of u.values (negation k)) c
      (λ k has. marked_as k true has
      (all_at (λ x. contains_literal (negation x) u.trail.items ≡ true) c k w has))

-- what is read at a literal's variable
pub looked_up : (clauses : List (Option ℕ)) (n : ℕ) (l : Literal) (o : Option ℕ) → n ≡ l.variable
    → n - 1 < length clauses → o ≡ get_or clauses (n - 1) o
    → o ≡ get_or clauses (l.variable - 1) None
looked_up clauses n l o e lt is = get_or_read clauses (n - 1) o lt is None
    ∙ ap (λ k. get_or clauses (k - 1) None) e

all_own : (f : Literal → Name) (ks : List Literal) (m : Name)
    → All IsOwnGroup (map (λ k. Plain (f k)) ks ++ Plain m ∷ [])
all_own f [] m = All-cons IsOwnGroup (Plain m) [] tt (All-nil IsOwnGroup)
all_own f (k ∷ ks) m =
    All-cons IsOwnGroup (Plain (f k)) (map (λ x. Plain (f x)) ks ++ Plain m ∷ []) tt
    (all_own f ks m)

all_ids : (names : List Name) → All (λ n. IsId (number_in n)) names
    → (f : Literal → ℕ) (ks : List Literal) (r : ℕ)
    → All HasNumber (map (λ k. Plain (name_at names (f k))) ks ++ Plain (name_at names r) ∷ [])
all_ids names all f [] r =
    All-cons HasNumber (Plain (name_at names r)) [] (number_at names r all) (All-nil HasNumber)
all_ids names all f (k ∷ ks) r =
    All-cons HasNumber (Plain (name_at names (f k)))
    (map (λ x. Plain (name_at names (f x))) ks ++ Plain (name_at names r) ∷ [])
    (number_at names (f k) all) (all_ids names all f ks r)

module _ (start : Start) (s : Simplifier) (slots : Slots) (ls : List LogLine) (u : Units)
    (h : IsSimplified start s slots ls) (a : AreUnits u slots) where
  abbrev names : List Name
  names = s.names.names

  abbrev by_unit : Literal → Name
  by_unit k = unit_name u.clauses.items names k

  -- literals that are false are so by clauses of one literal, under their names
  false_by_units : (base : ℕ) → IsBaseOf (given_of start.clauses) base → (ks : List Literal)
      → ((k : Literal) → contains_literal k ks ≡ true
      → contains_literal (negation k) u.trail.items ≡ true)
      → AreFalseByUnits (log_live (given_of start.clauses) base ls) (λ k. id_of base (by_unit k)) ks
  false_by_units base above ks f =
      all_from (λ k. log_live (given_of start.clauses) base ls (id_of base (by_unit k))
      ≡ Some (negation k ∷ [])) ks (λ k has.
      let w = a.by_units (negation k) (f k has) in
      let place : unit_of u.clauses.items k ≡ w.place = ap (λ o. unwrap_or o 0) w.there in
      ap (λ r. log_live (given_of start.clauses) base ls (id_of base (name_at names r))) place
      ∙ (h.state.work.named.live base above).named w.place (negation k ∷ []) w.alone)

  module _ (c : List Literal) (r : ℕ) (at : clause_at slots r ≡ Some c) where
    few_vars : s.vars < 2 ^ 27
    few_vars = let f = h.few in let g = h.fresh in omega arith

    formula : IsFormulaClause s.vars c
    formula = h.state.work.clauses r c at

    member_small : (k : Literal) → contains_literal k c ≡ true → k.variable ≤ s.vars
    member_small k has = by c k formula.small has
      where
        by : (d : List Literal) (k : Literal) → greatest_variable d ≤ s.vars
            → contains_literal k d ≡ true → k.variable ≤ s.vars
        by [] k f e = absurd (false≢true e)
        by (x ∷ d) k f e = elim (or_cases (literal_eq k x) (contains_literal k d) e) [
          | inl same ↦ subst (λ (y : Literal). y.variable ≤ s.vars) (sym (literal_eq-true k x same))
              (let m : x.variable ≤ max x.variable (greatest_variable d) = omega arith in
              omega arith)
          | inr more ↦ by d k (omega arith) more
        ]

    pub unit_addable : (l : Literal) → IsUnit c u.trail.items l
        → IsAddableLine start s ls
        (record { kind = Unit; clause = l ∷ []; hints = unit_hints u names c r })
    unit_addable l w =
        let some : 0 < l.variable =
        member_has (λ (k : Literal). 0 < k.variable) c l formula.from_one w.member in
        let few : l.variable ≤ s.vars = member_small l w.member in
        let same : falsified_in u c ≡ without_literal l c =
        falsified_unit u slots c a formula.from_one l w in
        let rup : IsRupLine (given_of start.clauses) ls
        (record {
          kind = Unit;
          clause = l ∷ [];
          hints = map (λ k. Plain (by_unit k)) (without_literal l c) ++ Plain
              (name_at names r) ∷ [];
        }) =
        unit_line (given_of start.clauses) ls Unit s.vars l c by_unit (name_at names r) refl
        few_vars formula w.member
        (λ base above. (
          (h.state.work.named.live base above).named r c at,
          false_by_units base above (without_literal l c) (λ k has.
              let in_c = filter-contains (λ x. not (literal_eq l x)) k c has in
              elim (all_at (λ x. (x ≡ l) ⊎ (contains_literal (negation x) u.trail.items ≡ true))
              c k w.others in_c.0) [
                | inl is ↦ absurd (not_itself (literal_eq l k) in_c.1 (ap (literal_eq l) is
                    ∙ literal_eq-refl l))
                | inr false_one ↦ false_one
              ]),
        )) in
        record {
          follows =
              subst (λ (ks : List Literal). IsRupLine (given_of start.clauses) ls
              (record {
                kind = Unit;
                clause = l ∷ [];
                hints = map (λ k. Plain (by_unit k)) ks ++ Plain (name_at names r) ∷ [];
              }))
              (sym same) rup;
          own = all_own by_unit (falsified_in u c) (name_at names r);
          unlearned = refl;
          line = record {
            literals =
                All-cons (λ (k : Literal). IsId k.variable) l [] (
                  some,
                  (let v = few_vars in
                      omega arith),
                ) (All-nil (λ (k : Literal). IsId k.variable));
            names =
                all_ids names h.state.work.named.numbers (unit_of u.clauses.items)
                (falsified_in u c) r;
            deletes = λ e. absurd (false≢true e);
          };
          clause = record {
            no_repeat = refl;
            no_tautology = refl;
            from_one =
                All-cons (λ (k : Literal). 0 < k.variable) l [] some
                (All-nil (λ (k : Literal). 0 < k.variable));
            small = omega arith;
          };
          free = All-cons (λ (k : Literal). is_eliminated s.removals k.variable ≡ false) l []
              (member_has (λ (k : Literal). is_eliminated s.removals k.variable ≡ false) c l
              (h.state.free r c at) w.member)
              (All-nil (λ (k : Literal). is_eliminated s.removals k.variable ≡ false));
        }
      where
        not_itself : (b : Bool) → not b ≡ true → b ≡ true → ⊥
        not_itself true n t = false≢true n
        not_itself false n t = false≢true t

    pub empty_addable : IsFalseUnder c u.trail.items
        → IsAddableLine start s ls
        (record { kind = Empty; clause = []; hints = unit_hints u names c r })
    empty_addable w =
        let same : falsified_in u c ≡ c = falsified_all u slots c a formula.from_one w in
        let rup : IsRupLine (given_of start.clauses) ls
        (record {
          kind = Empty;
          clause = [];
          hints = map (λ k. Plain (by_unit k)) c ++ Plain (name_at names r) ∷ [];
        }) =
        empty_line (given_of start.clauses) ls Empty s.vars c by_unit (name_at names r) refl formula
        (λ base above. (
          (h.state.work.named.live base above).named r c at,
          false_by_units base above c
              (λ k has. all_at (λ x. contains_literal (negation x) u.trail.items ≡ true) c k
              w has),
        )) in
        record {
          follows =
              subst (λ (ks : List Literal). IsRupLine (given_of start.clauses) ls
              (record {
                kind = Empty;
                clause = [];
                hints = map (λ k. Plain (by_unit k)) ks ++ Plain (name_at names r) ∷ [];
              }))
              (sym same) rup;
          own = all_own by_unit (falsified_in u c) (name_at names r);
          unlearned = refl;
          line = record {
            literals = All-nil (λ (k : Literal). IsId k.variable);
            names =
                all_ids names h.state.work.named.numbers (unit_of u.clauses.items)
                (falsified_in u c) r;
            deletes = λ e. absurd (false≢true e);
          };
          clause = record {
            no_repeat = refl;
            no_tautology = refl;
            from_one = All-nil (λ (k : Literal). 0 < k.variable);
            small = omega arith;
          };
          free = All-nil (λ (k : Literal). is_eliminated s.removals k.variable ≡ false);
        }
