-- The tables at the start: each clause of the formula has its number as its name, and stands in the
-- rows of its literals.
use Rattle.std.proofs.Common.{◌≡◌, ℕ, zero, suc, ◌+◌, ◌*◌, ◌<◌, ◌≤◌, Bool, true, false, List, []}
use Rattle.std.proofs.Common.{◌∷◌, ◌++◌, length, map, get_or, replicate, Some, None, refl, sym, ◌∙◌}
use Rattle.std.proofs.Common.{ap, subst, arith, length-append}
use Rattle.std.specs.Prelude.{All, Contains, ◌==◌, if◌then◌else◌}
use Rattle.std.specs.List.{enumerate_from}
use Rattle.std.proofs.lemmas.Bool.{eq-eqb, eqb-true, ne_eqb, both_ways}
use Rattle.std.proofs.lemmas.List.{length-replicate}
use Rattle.std.proofs.lemmas.List.Elements.{All-nil, All-head, All-tail}
use Rattle.std.proofs.lemmas.Option.{none-some}
use Rattle.cnf.specs.Literal.{Literal}
use Rattle.cnf.specs.Formula.{IsFormula, IsFormulaClause}
use Rattle.cnf.specs.Lrat.{IsId}
use Rattle.clauses.specs.Slots.{Slots, clause_at, live_clauses}
use Rattle.clauses.proofs.Laws.{live_all}
use Rattle.lrat_log.specs.declared.lines.Name.{Name}
use Rattle.lrat_log.specs.declared.lines.Name.TheVariants.{Formula, Added}
use Rattle.lrat_log.specs.Log.{Given, given_at, id_of, number_in}
use Rattle.lrat_log.specs.Steps.{given_of, StaysLogOver}
use Rattle.eliminate.specs.declared.simplifier.Simplifier.{Simplifier}
use Rattle.reconstruction.specs.Stack.{IsFree, IsRemovedWithin}
use Rattle.reconstruction.specs.Removals.{Removed}
use Rattle.eliminate.specs.State.{Start, IsState}
use Rattle.eliminate.specs.Simplifier.{IsSimplified}
use Rattle.eliminate_names.specs.Work.{NamesState, name_at, formula_names, IsNamed}
use Rattle.eliminate_tables.specs.Rows.{row_at, AreRows}

abbrev given_from : ℕ → Slots → Given
given_from n slots = map (λ e. (Formula e.0, e.1)) (enumerate_from n (live_clauses slots))

abbrev id_from : ℕ → ℕ → Slots → ℕ → ℕ
id_from base n slots r = id_of base (name_at (formula_names n slots) r)

abbrev IsAtMost : ℕ → Name × List Literal → Type 0
IsAtMost base g = elim g.0 as (λ x. Type 0) [ Formula i ↦ i ≤ base | Added j ↦ ⊥ ]

id_low : (base n : ℕ) (slots : Slots) (r : ℕ) (c : List Literal) → clause_at slots r ≡ Some c
    → n ≤ id_from base n slots r
id_low base n [] r c e = absurd (none-some c e)
id_low base n (None ∷ slots) zero c e = absurd (none-some c e)
id_low base n (None ∷ slots) (suc r) c e = id_low base n slots r c e
id_low base n (Some d ∷ slots) zero c e = omega arith
id_low base n (Some d ∷ slots) (suc r) c e = let h : n + 1 ≤ id_from base (n + 1) slots r =
    id_low base (n + 1) slots r c e in omega arith

id_named : (base n : ℕ) (slots : Slots) (r : ℕ) (c : List Literal) → clause_at slots r ≡ Some c
    → given_at (given_from n slots) (id_from base n slots r) ≡ Some c
id_named base n [] r c e = absurd (none-some c e)
id_named base n (None ∷ slots) zero c e = absurd (none-some c e)
id_named base n (None ∷ slots) (suc r) c e = id_named base n slots r c e
id_named base n (Some d ∷ slots) zero c e = rw (eq-eqb n n refl) e
id_named base n (Some d ∷ slots) (suc r) c e =
    let low : n + 1 ≤ id_from base (n + 1) slots r = id_low base (n + 1) slots r c e in
    rw (ne_eqb n (id_from base (n + 1) slots r)
    (λ (h : n ≡ id_from base (n + 1) slots r). omega arith)) (id_named base (n + 1) slots r c e)

id_only : (base n : ℕ) (slots : Slots) (i : ℕ) (c : List Literal)
    → given_at (given_from n slots) i ≡ Some c → (r : ℕ) × (clause_at slots r ≡ Some c)
    × (id_from base n slots r ≡ i)
id_only base n [] i c e = absurd (none-some c e)
id_only base n (None ∷ slots) i c e = let w = id_only base n slots i c e in (suc w.0, w.1, w.2)
id_only base n (Some d ∷ slots) i c e =
    elim (n == i) as (λ b. (n == i) ≡ b
    → (if b then Some d else given_at (given_from (n + 1) slots) i) ≡ Some c
    → (r : ℕ) × (clause_at (Some d ∷ slots) r ≡ Some c) × (id_from base n (Some d ∷ slots) r ≡ i)) [
      | true ↦ λ q h. (zero, h, eqb-true n i q)
      | false ↦ λ q h. let w = id_only base (n + 1) slots i c h in (suc w.0, w.1, w.2)
    ] refl e

id_differ : (base n : ℕ) (slots : Slots) (r s : ℕ) (c d : List Literal) → clause_at slots r ≡ Some c
    → clause_at slots s ≡ Some d → id_from base n slots r ≡ id_from base n slots s → r ≡ s
id_differ base n [] r s c d e f h = absurd (none-some c e)
id_differ base n (None ∷ slots) zero s c d e f h = absurd (none-some c e)
id_differ base n (None ∷ slots) (suc r) zero c d e f h = absurd (none-some d f)
id_differ base n (None ∷ slots) (suc r) (suc s) c d e f h =
    ap suc (id_differ base n slots r s c d e f h)
id_differ base n (Some x ∷ slots) zero zero c d e f h = refl
id_differ base n (Some x ∷ slots) zero (suc s) c d e f h =
    let low : n + 1 ≤ id_from base (n + 1) slots s = id_low base (n + 1) slots s d f in
    let same : n ≡ id_from base (n + 1) slots s = h in absurd (omega arith)
id_differ base n (Some x ∷ slots) (suc r) zero c d e f h =
    let low : n + 1 ≤ id_from base (n + 1) slots r = id_low base (n + 1) slots r c e in
    let same : id_from base (n + 1) slots r ≡ n = h in absurd (omega arith)
id_differ base n (Some x ∷ slots) (suc r) (suc s) c d e f h =
    ap suc (id_differ base (n + 1) slots r s c d e f h)

id_below : (base n : ℕ) (slots : Slots) (r : ℕ) (c : List Literal)
    → All (IsAtMost base) (given_from n slots) → clause_at slots r ≡ Some c
    → id_from base n slots r ≤ base
id_below base n [] r c all e = absurd (none-some c e)
id_below base n (None ∷ slots) zero c all e = absurd (none-some c e)
id_below base n (None ∷ slots) (suc r) c all e = id_below base n slots r c all e
id_below base n (Some d ∷ slots) zero c all e =
    All-head (IsAtMost base) (Formula n, d) (given_from (n + 1) slots) all
id_below base n (Some d ∷ slots) (suc r) c all e =
    id_below base (n + 1) slots r c
    (All-tail (IsAtMost base) (Formula n, d) (given_from (n + 1) slots) all) e

names_long : (n : ℕ) (slots : Slots) → length (formula_names n slots) ≡ length slots
names_long n [] = refl
names_long n (None ∷ slots) = ap suc (names_long n slots)
names_long n (Some c ∷ slots) = ap suc (names_long (n + 1) slots)

pub named_start : (slots : Slots) → All (λ k. IsId (number_in k)) (formula_names 1 slots)
    → IsNamed (given_of (live_clauses slots)) slots (formula_names 1 slots) []
named_start slots ids = record {
  long = names_long 1 slots;
  numbers = ids;
  live = λ base above. record {
    named = id_named base 1 slots;
    only = id_only base 1 slots;
    differ = id_differ base 1 slots;
    below = λ r c e. let b : id_from base 1 slots r ≤ base = id_below base 1 slots r c above e in
        omega arith;
  };
}

pub stays_start : (first : ℕ) (given : Given) → StaysLogOver first given []
stays_start first given more small =
    record { steps = λ base above. refl; stops = tt; groups = All-nil _ }

-- the rows before the first clause, and at a place without a clause
none_at : (n i r : ℕ) → Contains (row_at (replicate n []) i) r → ⊥
none_at zero i r h = let lt = h.1 in omega arith
none_at (suc n) zero r h = let lt = h.1 in omega arith
none_at (suc n) (suc i) r h = none_at n i r h

pub rows_start : (n : ℕ) → AreRows (replicate n []) []
rows_start n = record {
  complete = λ r c l e has. absurd (none-some c e);
  right = λ r c l some e stands. absurd (none-some c e);
  before = λ i r h. absurd (none_at n i r h);
}

none_pushed : (slots : Slots) (r : ℕ) (c : List Literal) → clause_at (slots ++ None ∷ []) r ≡ Some c
    → clause_at slots r ≡ Some c
none_pushed [] zero c e = e
none_pushed [] (suc r) c e = e
none_pushed (x ∷ slots) zero c e = e
none_pushed (x ∷ slots) (suc r) c e = none_pushed slots r c e

pub rows_none : (rows : List (List ℕ)) (slots : Slots) → AreRows rows slots
    → AreRows rows (slots ++ None ∷ [])
rows_none rows slots a = record {
  complete = λ r c l e has. a.complete r c l (none_pushed slots r c e) has;
  right = λ r c l some e stands. a.right r c l some (none_pushed slots r c e) stands;
  before = λ i r h. let b : r < length slots = a.before i r h in
      omega (arith, length-append slots (None ∷ []));
}

pub slot_some : (slots : Slots) (i : ℕ) (c : List Literal) → clause_at slots i ≡ Some c
    → get_or slots i None ≡ Some c
slot_some [] i c e = absurd (none-some c e)
slot_some (None ∷ slots) zero c e = e
slot_some (Some d ∷ slots) zero c e = e
slot_some (x ∷ slots) (suc i) c e = slot_some slots i c e

pub slot_none : (slots : Slots) (i : ℕ) → clause_at slots i ≡ None → get_or slots i None ≡ None
slot_none [] i e = refl
slot_none (None ∷ slots) zero e = refl
slot_none (Some d ∷ slots) zero e = e
slot_none (x ∷ slots) (suc i) e = slot_none slots i e

-- the tables of a formula
pub record AreFirst (t : Simplifier) (vars : ℕ) (slots : Slots) : Type 0 where
  pub vars_are : t.vars ≡ vars
  pub names : t.names ≡ record { names = formula_names 1 slots; additions = 0 }
  pub ids : All (λ k. IsId (number_in k)) t.names.names
  pub rows : AreRows t.occurrences.rows slots
  pub places : length t.occurrences.rows ≡ 2 * vars
  pub removals : t.removals ≡ []
  pub marks : t.marks ≡ replicate (2 * vars) false
  pub works : t.is_refuted ≡ false

pub simplified_start : (t : Simplifier) (vars : ℕ) (slots : Slots) (frozen : List Bool)
    → IsFormula (record { variables = vars; clauses = live_clauses slots }) → length frozen ≡ vars
    → AreFirst t vars slots
    → IsSimplified (record { clauses = live_clauses slots; frozen = frozen }) t slots []
simplified_start t vars slots frozen f long a =
    let start : Start = record { clauses = live_clauses slots; frozen = frozen } in
    let names : t.names.names ≡ formula_names 1 slots = ap (λ (x : NamesState). x.names) a.names in
    let ids : All (λ k. IsId (number_in k)) (formula_names 1 slots) =
    subst (All (λ k. IsId (number_in k))) names a.ids in
    let state : IsState start vars slots (formula_names 1 slots) [] t.occurrences.rows [] = record {
      work = record {
        log = stays_start (length frozen) (given_of (live_clauses slots));
        none_learned = refl;
        named = named_start slots ids;
        clauses = live_all (IsFormulaClause vars) slots f.clauses;
      };
      occurrences = a.rows;
      places = a.places;
      back = λ bits few all. all;
      within = All-nil (IsRemovedWithin vars);
      free = λ r c e k d lt. refl;
      not_frozen = All-nil (λ (r : Removed). IsFree frozen r.variable);
    } in
    record {
      state = rw (a.vars_are, names, a.removals) state;
      counted = ap (λ (x : NamesState). x.additions) a.names;
      marks = ap length a.marks ∙ length-replicate (2 * vars) false
          ∙ ap (λ k. 2 * k) (sym a.vars_are);
      few = (let v = f.few in omega arith);
      given = (let v = a.vars_are in omega arith);
      fresh = (let v = a.vars_are in omega arith);
      going = λ e. tt;
      refuted = λ e. absurd (both_ways t.is_refuted a.works e);
    }
