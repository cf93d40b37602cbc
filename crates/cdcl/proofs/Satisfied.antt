-- Where each variable has a value and no clause is false, the bits of the trail satisfy all
-- clauses.
use Rattle.std.proofs.Common.{◌≡◌, ℕ, zero, suc, ◌+◌, ◌-◌, ◌<◌, ◌≤◌, Bool, true, false, not, List}
use Rattle.std.proofs.Common.{[], ◌∷◌, length, take, get_or, Option, Some, None, ◌⊎◌, inl, inr}
use Rattle.std.proofs.Common.{refl, sym, ◌∙◌, ap, subst, arith, map}
use Rattle.std.specs.Prelude.{All, if◌then◌else◌, Contains}
use Rattle.std.proofs.lemmas.Bool.{or_left, or_right, or_cases}
use Rattle.std.proofs.lemmas.List.Elements.{All-head, All-tail}
use Rattle.std.proofs.lemmas.List.{get_or-take, length-take-le}
use Rattle.std.proofs.lemmas.Option.{none-some, same_Some, slice_get-get_or, unwrap_or-slice_get}
use Rattle.cnf.specs.Literal.{Literal, Assignment, negation, literal_value}
use Rattle.cnf.specs.Clause.{clause_value, Satisfies, contains_literal, greatest_variable}
use Rattle.cnf.specs.Bits.{assignment_of, Extends}
use Rattle.cnf.specs.Refute.{IsFalseUnder, IsRefutedByHints}
use Rattle.clauses.specs.Slots.{Slots, clause_at}
use Rattle.propagate.specs.Trail.{Assigned, literals_of, value_in}
use Rattle.propagate.specs.Fits.{IsWithin}
use Rattle.analyze.specs.Analyzer.{IsFixpoint}
use Rattle.cdcl.specs.Outcomes.{AreValues}
use Rattle.cdcl_order.specs.Orders.{positive}
use Rattle.cnf.specs.Formula.{IsFormulaClause}
use Rattle.propagate.specs.Watches.{EngineState}
use Rattle.lrat_log.specs.declared.lines.Name.{Name}
use Rattle.lrat_log.specs.Log.{LogLine, Given}
use Rattle.lrat_log.specs.Steps.{log_live}
use Rattle.reconstruction.specs.Stack.{StackState}
use Rattle.reconstruction.specs.Removals.{extended}
use Rattle.cdcl.specs.Solving.{SatisfyGiven, IsLiveRefuted}
use Rattle.cdcl.specs.Guiding.{IsRefutedAtOnce}
use Rattle.cdcl_search.specs.declared.input.Input.{Input}
use Rattle.cdcl_search.specs.declared.search.Search.{Search}
use Rattle.cdcl_search.specs.Invariant.{Tables, NamesStore, KeepsPlain, IsRunning}
use Rattle.cdcl_search.specs.Running.{Runs}
use Rattle.clauses.proofs.Laws.{not_refuted}
use Rattle.cdcl_search.proofs.Laws.{value_agrees}

pub value_by : (a b : Bool) (v : Bool)
    → ◌≡◌ {A = Option Bool} (if a then Some true else if b then Some false else None) (Some v)
    → ((v ≡ true) × (a ≡ true)) ⊎ ((v ≡ false) × (b ≡ true))
value_by true b v e = inl (sym (same_Some true v e), refl)
value_by false true v e = inr (sym (same_Some false v e), refl)
value_by false false v e = absurd (none-some v e)

bit_at : (bits : List Bool) (v : ℕ) → assignment_of bits (suc v) ≡ get_or bits v false
bit_at bits v = unwrap_or-slice_get bits v false

-- what the trail says of a variable
parts_at : (T : List Assigned) (bits : List Bool) (v : ℕ) → AreValues T bits → v < length bits
    → ((assignment_of bits (suc v) ≡ true)
    × (contains_literal (positive (suc v)) (literals_of T) ≡ true))
    ⊎ ((assignment_of bits (suc v) ≡ false)
    × (contains_literal (negation (positive (suc v))) (literals_of T) ≡ true))
parts_at T bits v values within =
    let up : v + 1 ≡ suc v = omega arith in
    let e : value_in T (positive (suc v)) ≡ Some (get_or bits v false) =
    subst (λ k. value_in T (positive k) ≡ Some (get_or bits v false)) up (values v within) in
    elim (value_by (contains_literal (positive (suc v)) (literals_of T))
    (contains_literal (negation (positive (suc v))) (literals_of T)) (get_or bits v false) e) [
      | inl h ↦ inl (bit_at bits v ∙ h.0, h.1)
      | inr h ↦ inr (bit_at bits v ∙ h.0, h.1)
    ]

by_sign : (t : Assignment) (T : List Assigned) (v : ℕ) (s : Bool)
    → ((t v ≡ true) × (contains_literal (positive v) (literals_of T) ≡ true))
    ⊎ ((t v ≡ false) × (contains_literal (negation (positive v)) (literals_of T) ≡ true))
    → (literal_value t (record { variable = v; negated = s }) ≡ true)
    ⊎ (contains_literal (negation (record { variable = v; negated = s })) (literals_of T)
    ≡ true)
by_sign t T v true (inl h) = inr h.1
by_sign t T v true (inr h) = inl (ap not h.0)
by_sign t T v false (inl h) = inl h.0
by_sign t T v false (inr h) = inr h.1

-- each literal is true under the bits, or false under the trail
true_or_false : (T : List Assigned) (bits : List Bool) (l : Literal) → AreValues T bits
    → 0 < l.variable → l.variable ≤ length bits
    → (literal_value (assignment_of bits) l ≡ true)
    ⊎ (contains_literal (negation l) (literals_of T) ≡ true)
true_or_false T bits l values one within =
    let up : suc (l.variable - 1) ≡ l.variable = omega arith in
    let h = parts_at T bits (l.variable - 1) values (omega arith) in
    by_sign (assignment_of bits) T l.variable l.negated
    (subst (λ v. ((assignment_of bits v ≡ true)
    × (contains_literal (positive v) (literals_of T) ≡ true))
    ⊎ ((assignment_of bits v ≡ false)
    × (contains_literal (negation (positive v)) (literals_of T) ≡ true))) up h)

satisfied_or_false : (T : List Assigned) (bits : List Bool) (c : List Literal) → AreValues T bits
    → All (λ l. 0 < l.variable) c → greatest_variable c ≤ length bits
    → Satisfies (assignment_of bits) c ⊎ IsFalseUnder c (literals_of T)
satisfied_or_false T bits [] values ones small = inr tt
satisfied_or_false T bits (l ∷ c) values ones small =
    elim (true_or_false T bits l values (All-head (λ (k : Literal). 0 < k.variable) l c ones)
    (omega arith)) [
      | inl t ↦ inl (or_left (literal_value (assignment_of bits) l)
          (clause_value (assignment_of bits) c) t)
      | inr f ↦ elim (satisfied_or_false T bits c values
          (All-tail (λ (k : Literal). 0 < k.variable) l c ones) (omega arith)) [
            | inl s ↦ inl (or_right (literal_value (assignment_of bits) l)
                (clause_value (assignment_of bits) c) s)
            | inr g ↦ inr (f, g)
          ]
    ]

pub live_satisfied : (slots : Slots) (T : List Assigned) (bits : List Bool) → AreValues T bits
    → IsFixpoint slots (literals_of T)
    → ((r : ℕ) (c : List Literal) → clause_at slots r ≡ Some c → IsWithin (length bits) c)
    → (r : ℕ) (c : List Literal) → clause_at slots r ≡ Some c → Satisfies (assignment_of bits) c
live_satisfied slots T bits values fixpoint small r c e =
    let w = small r c e in
    elim (satisfied_or_false T bits c values w.0 w.1) [
      | inl s ↦ s
      | inr f ↦
          absurd ((fixpoint r c e).0 f)
    ]

-- only the bits of a clause's variables matter
abbrev AgreeUpTo : ℕ → Assignment → Assignment → Type 0
AgreeUpTo n t u = (v : ℕ) → 0 < v → v ≤ n → t v ≡ u v

pub satisfied_agrees : (n : ℕ) (t u : Assignment) (c : List Literal) → AgreeUpTo n t u
    → All (λ l. 0 < l.variable) c → greatest_variable c ≤ n → Satisfies t c → Satisfies u c
satisfied_agrees n t u [] agree ones small s = s
satisfied_agrees n t u (l ∷ c) agree ones small s =
    elim (or_cases (literal_value t l) (clause_value t c) s) [
      | inl h ↦ or_left (literal_value u l) (clause_value u c)
          (sym (value_agrees t u l
          (agree l.variable (All-head (λ (k : Literal). 0 < k.variable) l c ones) (omega arith)))
          ∙ h)
      | inr h ↦ or_right (literal_value u l) (clause_value u c)
          (satisfied_agrees n t u c agree (All-tail (λ (k : Literal). 0 < k.variable) l c ones)
          (omega arith) h)
    ]

-- what extends the first bits agrees with all of them on the first variables
pub extends_agrees : (n : ℕ) (bits : List Bool) (t : Assignment) → n ≤ length bits
    → Extends (take n bits) t → AgreeUpTo n (assignment_of bits) t
extends_agrees n bits t within ext zero one low = absurd (omega arith)
extends_agrees n bits t within ext (suc v) one low =
    let long : length (take n bits) ≡ n = length-take-le n bits within in
    bit_at bits v ∙ sym (get_or-take n bits v false low)
    ∙ sym (ext v (get_or (take n bits) v false)
    (slice_get-get_or (take n bits) v false (omega arith)))

-- The answers.

-- the bits of a trail at a fixpoint without open variables, after reconstruction, satisfy all that
-- was given
pub answer_sat : (e : EngineState) (slots : Slots) (stack : StackState) (t : Tables)
    (frozen : List Bool) (first : ℕ) (given : Given) (ls : List LogLine) (bits : List Bool)
    → IsRunning e slots stack t frozen first given ls → IsFixpoint slots (literals_of e.trail)
    → length bits ≡ stack.variables → AreValues e.trail bits
    → All (λ g. IsFormulaClause (length frozen) g.1) given
    → length frozen ≤ length (extended stack.removed bits)
    → SatisfyGiven (take (length frozen) (extended stack.removed bits)) given
answer_sat e slots stack t frozen first given ls bits r fixpoint long values small wide u ext =
    let live = live_satisfied slots e.trail bits values fixpoint (λ q c at.
    let w = r.searches.fits.attached q (r.searches.all_attached q (c, at)) in
    let same : w.0 ≡ c = same_Some w.0 c (sym w.1 ∙ at) in
    let size : e.variables ≡ length bits = r.variables ∙ sym long in
    subst (λ n. IsWithin n c) size (subst (IsWithin e.variables) same w.2.0)) in
    let all = r.recorded.back bits long (λ q c at keeps. live q c at) in
    λ k d lt.
    satisfied_agrees (length frozen) (assignment_of (extended stack.removed bits)) u
    (get_or given k d).1
    (extends_agrees (length frozen) (extended stack.removed bits) u wide ext)
    (small k d lt).from_one (small k d lt).small (all k d lt)

-- hints refute nothing where no clause is false or unit
answer_open : (e : EngineState) (slots : Slots) (names : List Name) (given : Given)
    (ls : List LogLine) → NamesStore slots names given ls → IsFixpoint slots (literals_of e.trail)
    → IsLiveRefuted given ls → ⊥
answer_open e slots names given ls n fixpoint w =
    not_refuted (log_live given w.0 ls) (literals_of e.trail)
    (λ i c at. let z = (n.live w.0 w.1).only i c at in fixpoint z.0 c z.1) w.2 w.3

-- nor is the empty clause live there
plain_open : (slots : Slots) (A : List Literal) (first : ℕ) (given : Given)
    → KeepsPlain slots first given → IsFixpoint slots A
    → IsRefutedByHints (map (λ g. g.1) (take first given)) ⊎ Contains (map (λ g. g.1) given) [] → ⊥
plain_open slots A first given plain fixpoint h = let w = plain h in (fixpoint w.0 [] w.1).0 tt

pub not_at_once : (s : Search) (p : Input) (ls : List LogLine) → Runs s p ls
    → IsFixpoint (s.store).slots (literals_of (s.engine).trail) → IsRefutedAtOnce p ls → ⊥
not_at_once s p ls r fixpoint (inl live) =
    answer_open s.engine (s.store).slots (s.names).items p.given ls r.running.recorded.names
    fixpoint live
not_at_once s p ls r fixpoint (inr plain) =
    plain_open (s.store).slots (literals_of (s.engine).trail) p.first p.given
    r.running.recorded.plain fixpoint plain
