-- The line for the next literal of level 0: it follows from its reason and the literals before it.
use Rattle.std.proofs.Common.{◌≡◌, ℕ, zero, suc, ◌+◌, ◌-◌, ◌<◌, ◌≤◌, ◌^◌, true, false, cond, List}
use Rattle.std.proofs.Common.{[], ◌∷◌, ◌++◌, length, take, drop, get_or, set, Option, Some, None}
use Rattle.std.proofs.Common.{◌⊎◌, inl, inr, refl, sym, ◌∙◌, ap, subst, arith}
use Rattle.std.specs.Prelude.{All, is_none}
use Rattle.std.specs.List.{AllByRecursion}
use Rattle.std.proofs.Math.Seq.{split_at}
use Rattle.std.proofs.lemmas.Bool.{cases_Bool, true≢false}
use Rattle.std.proofs.lemmas.Option.{same_Some}
use Rattle.std.proofs.lemmas.List.{take-map, get_or-map, length-map, length-set}
use Rattle.std.proofs.lemmas.List.Elements.{recursion_from_All}
use Rattle.cnf.specs.Literal.{Literal, negation}
use Rattle.cnf.specs.Clause.{contains_literal}
use Rattle.cnf.specs.Refute.{IsUnit}
use Rattle.cnf.proofs.Laws.{all_at, contains_one}
use Rattle.clauses.specs.Slots.{Slots, clause_at}
use Rattle.propagate.specs.Trail.{Assigned, literals_of, depth_of, is_decision, reason_in}
use Rattle.propagate.specs.Trail.{HasReasons, IsJustified}
use Rattle.propagate.proofs.Laws.{negation_twice, kept_all, depth-cons, contains_at, contains_take}
use Rattle.propagate.proofs.Laws.{NoTautology, no_tautology}
use Rattle.analyze.proofs.Laws.{reason_at}
use Rattle.lrat_log.specs.declared.lines.Hint.{Hint}
use Rattle.lrat_log.specs.declared.lines.Name.{Name}
use Rattle.lrat_log.specs.declared.lines.Kind.TheVariants.{Unit as UnitKind}
use Rattle.lrat_log.specs.Log.{LogLine, Given}
use Rattle.cdcl_search.specs.Hinting.{AreHintsOf, AreNoted}
use Rattle.cdcl_search.specs.Invariant.{HasUnit, NotesUnits, NamesStore, zero_of, IsRunning}
use Rattle.lrat_log.specs.declared.lines.Name.TheVariants.{Added}
use Rattle.cdcl_search.specs.declared.search.Search.{Search}
use Rattle.cdcl_search.specs.declared.input.Input.{Input}
use Rattle.cdcl_search.specs.Running.{LogsLine, HasRoom, Runs, tables_of}
use Rattle.cdcl_search.proofs.LogLines.{AddsByHints}
use Rattle.cdcl_search.proofs.Moves.{with_addition}
use Rattle.cdcl_search.proofs.MoreMoves.{run_note}
use Rattle.cdcl_search.proofs.Placing.{room_stored, running_same, tables_same, literal_small}
use Rattle.cdcl_search.proofs.LearnedLines.{adds_learned}
use Rattle.cdcl_search.proofs.ZeroLines.{refutes_unit, justified_at}

-- At level 0 each literal has a reason.

with_reason : (o : Option ℕ) → is_none o ≡ false → (r : ℕ) × (o ≡ Some r)
with_reason None e = absurd (true≢false e)
with_reason (Some r) e = (r, refl)

flat_tail : (a : Assigned) (T : List Assigned) → depth_of (a ∷ T) ≡ 0 → (is_decision a ≡ false)
    × (depth_of T ≡ 0)
flat_tail a T flat =
    let e : cond (is_decision a) 1 0 + depth_of T ≡ 0 = sym (depth-cons a T) ∙ flat in
    elim (cases_Bool (is_decision a)) as (λ _. (is_decision a ≡ false) × (depth_of T ≡ 0)) [
      | inl t ↦ let x : 1 + depth_of T ≡ 0 = rw t at e in absurd (omega arith)
      | inr f ↦ let x : 0 + depth_of T ≡ 0 = rw f at e in (f, omega arith)
    ]

pub flat_reason : (T : List Assigned) (i : ℕ) (d : Assigned) → depth_of T ≡ 0 → i < length T
    → (r : ℕ) × ((get_or T i d).reason ≡ Some r)
flat_reason [] i d flat lt = absurd (omega arith)
flat_reason (a ∷ T) zero d flat lt = with_reason a.reason (flat_tail a T flat).0
flat_reason (a ∷ T) (suc i) d flat lt = flat_reason T i d (flat_tail a T flat).1 (omega arith)

pub flat_zero : (T : List Assigned) → depth_of T ≡ 0 → zero_of T ≡ literals_of T
flat_zero T flat = ap literals_of (kept_all 0 T (omega arith))

-- The literal in a place of the trail was unit in its reason, under the literals before it.

pub record IsNext (slots : Slots) (T : List Assigned) (i : ℕ) (k : Literal) (r : ℕ) : Type 0 where
  pub clause : List Literal
  pub here : clause_at slots r ≡ Some clause
  pub unit : IsUnit clause (take i (literals_of T)) k
  pub member : contains_literal k (literals_of T) ≡ true

pub is_next : (slots : Slots) (T : List Assigned) (i : ℕ) (k : Literal) (r : ℕ)
    → HasReasons (clause_at slots) [] T → i < length T → k ≡ get_or (literals_of T) i k
    → reason_in T k.variable ≡ Some r → IsNext slots T i k r
is_next slots T i k r reasons lt at reason =
    let d : Assigned = record { literal = k; reason = None } in
    let a : Assigned = get_or T i d in
    let k_is : k ≡ a.literal = at ∙ get_or-map (λ (x : Assigned). x.literal) T i d k lt in
    let a_reason : a.reason ≡ Some r = sym (reason_at (clause_at slots) T i d reasons lt)
    ∙ ap (λ (x : Literal). reason_in T x.variable) (sym k_is) ∙ reason in
    let split : T ≡ take i T ++ a ∷ drop (suc i) T = split_at T i d lt in
    let j : IsJustified (clause_at slots) (literals_of (take i T)) a.literal a.reason =
    justified_at (clause_at slots) (take i T) a (drop (suc i) T)
    (subst (HasReasons (clause_at slots) []) split reasons) in
    let w : IsJustified (clause_at slots) (literals_of (take i T)) a.literal (Some r) =
    subst (IsJustified (clause_at slots) (literals_of (take i T)) a.literal) a_reason j in
    record {
      clause = w.0;
      here = w.1;
      unit = subst (λ A. IsUnit w.0 A k) (sym (take-map (λ (x : Assigned). x.literal) i T))
          (subst (IsUnit w.0 (literals_of (take i T))) (sym k_is) w.2);
      member = ap (λ x. contains_literal x (literals_of T)) at
          ∙ contains_at (literals_of T) i k
          (omega (arith, length-map T (λ (x : Assigned). x.literal)));
    }

-- a literal of the reason that is false is so by a literal before
false_before : (slots : Slots) (T : List Assigned) (i : ℕ) (k : Literal) (r : ℕ)
    (n : IsNext slots T i k r) (x : Literal) → NoTautology (literals_of T)
    → contains_literal x n.clause ≡ true → contains_literal (negation x) (literals_of T) ≡ true
    → contains_literal (negation x) (take i (literals_of T)) ≡ true
false_before slots T i k r n x apart m f =
    elim (all_at (λ y. (y ≡ k) ⊎ (contains_literal (negation y) (take i (literals_of T)) ≡ true))
    n.clause x n.unit.others m) as (λ _. contains_literal (negation x) (take i (literals_of T))
    ≡ true) [
      | inl s ↦ absurd (apart k n.member (ap (λ y. contains_literal (negation y) (literals_of T))
          (sym s) ∙ f))
      | inr b ↦ b
    ]

same_reference : (slots : Slots) (r q : ℕ) (c d : List Literal) → q ≡ r → clause_at slots r ≡ Some c
    → clause_at slots q ≡ Some d → d ≡ c
same_reference slots r q c d e at bt = same_Some d c (sym bt ∙ ap (clause_at slots) e ∙ at)

-- the reason's false literals are noted
pub next_noted : (slots : Slots) (T : List Assigned) (k : Literal) (r : ℕ) (units : List (Option ℕ))
    (noted : ℕ) → HasReasons (clause_at slots) [] T → depth_of T ≡ 0 → IsNext slots T noted k r
    → NotesUnits slots (zero_of T) (depth_of T) units noted → AreNoted slots units T (r ∷ [])
next_noted slots T k r units noted reasons flat n notes q m c at x x_in f =
    let same : c ≡ n.clause = same_reference slots r q n.clause c (contains_one r q m) n.here at in
    let z = flat_zero T flat in
    let before = false_before slots T noted k r n x (no_tautology (clause_at slots) T reasons)
    (ap (contains_literal x) (sym same) ∙ x_in) (ap (contains_literal (negation x)) (sym z)
    ∙ f) in
    all_at (HasUnit slots units) (take noted (zero_of T)) (negation x) notes.have
    (ap (λ Z. contains_literal (negation x) (take noted Z)) z ∙ before)

-- so the line is a step
pub adds_unit : (slots : Slots) (T : List Assigned) (names : List Name) (given : Given)
    (ls : List LogLine) (hints : List Hint) (k : Literal) (i r : ℕ)
    → HasReasons (clause_at slots) [] T → depth_of T ≡ 0 → IsNext slots T i k r
    → NamesStore slots names given ls → AreHintsOf slots names T (r ∷ []) hints
    → k.variable < 2 ^ 27
    → AddsByHints given ls (record { kind = UnitKind; clause = k ∷ []; hints = hints })
adds_unit slots T names given ls hints k i r reasons flat n store h few =
    let apart = no_tautology (clause_at slots) T reasons in
    let z = flat_zero T flat in
    let A : List Literal = take i (literals_of T) in
    let in_trail : (y : Literal) → contains_literal y h.zeros ≡ true
    → contains_literal y (literals_of T) ≡ true = λ y m. ap (contains_literal y) (sym z)
    ∙ h.within y m in
    let within : (y : Literal) → contains_literal y h.zeros ≡ true → contains_literal y A ≡ true =
    λ y m.
    (let w = h.needed y m in
    let same : w.clause ≡ n.clause =
    same_reference slots r w.reference n.clause w.clause (contains_one r w.reference w.listed)
    n.here w.live in
    let b =
    false_before slots T i k r n (negation y) apart (ap (contains_literal (negation y)) (sym same)
    ∙ w.stands) (ap (λ x. contains_literal x (literals_of T)) (negation_twice y)
    ∙ in_trail y m) in
    ap (λ x. contains_literal x A) (sym (negation_twice y)) ∙ b) in
    adds_learned slots names given ls (record { kind = UnitKind; clause = k ∷ []; hints = hints })
    (h.units ++ r ∷ []) store refl h.spelled
    (record { no_repeat = refl; no_tautology = refl; small = omega arith })
    (refutes_unit (clause_at slots) A k h.units h.zeros r n.clause h.are_units h.once
    (λ y m o. apart y (in_trail y m) (in_trail (negation y) o)) within n.here n.unit
    (λ x m other. elim (all_at (λ y. (y ≡ k) ⊎ (contains_literal (negation y) A ≡ true)) n.clause x
    n.unit.others m) as (λ _. contains_literal (negation x) h.zeros ≡ true) [
      | inl s ↦ absurd (other s)
      | inr b ↦ h.serves.0 n.clause n.here x m (ap (contains_literal (negation x)) z
          ∙ contains_take (negation x) i (literals_of T) b)
    ]))

-- What the search is once the line is written.

ones_from : (T : List Assigned) (n : ℕ)
    → AllByRecursion (λ (a : Assigned). (0 < a.literal.variable) × (a.literal.variable ≤ n)) T
    → AllByRecursion (λ (j : Literal). 0 < j.variable) (literals_of T)
ones_from [] n h = tt
ones_from (a ∷ T) n h = (h.0.0, ones_from T n h.1)

-- the literal's clause is noted
pub record NotesOne (n u : Search) (v r : ℕ) : Type 0 where
  pub engine : u.engine ≡ n.engine
  pub slots : (u.store).slots ≡ (n.store).slots
  pub names : (u.names).items ≡ (n.names).items
  pub units : (u.units).items ≡ set (n.units).items v (Some r)
  pub noted : u.noted ≡ n.noted + 1
  pub kept : u.kept ≡ n.kept
  pub additions : u.additions ≡ n.additions
  pub stamps : u.stamps ≡ n.stamps
  pub policy : u.policy ≡ n.policy
  pub analyzer : u.analyzer ≡ n.analyzer

pub runs_noted : (m n u : Search) (p : Input) (ls now : List LogLine) (hints : List Hint)
    (k : Literal) (v r : ℕ) → IsRunning m.engine (m.store).slots p.stack (tables_of m)
    (p.frozen).items p.first p.given ls → HasRoom m
    → All (λ x. x ≤ m.additions + 1) (m.stamps).items
    → depth_of (m.engine).trail ≡ 0 → m.noted < length (m.engine).trail
    → k ≡ get_or (literals_of (m.engine).trail) m.noted k
    → AddsByHints p.given ls (record { kind = UnitKind; clause = k ∷ []; hints = hints })
    → LogsLine m n ls now (record { kind = UnitKind; clause = k ∷ []; hints = hints })
    → v ≡ k.variable - 1 → r ≡ length (m.store).slots → NotesOne n u v r → Runs u p now
runs_noted m n u p ls now hints k v r run room past flat left at adds added vis ris d =
    let w = added.stored in
    let more = added.additions in
    let few = added.few in
    let e = m.engine in
    let slots = (m.store).slots in
    let T = e.trail in
    let l : LogLine = record { kind = UnitKind; clause = k ∷ []; hints = hints } in
    let z = flat_zero T flat in
    let reasons = run.searches.fits.reasons in
    let apart : NoTautology (zero_of T) =
    subst NoTautology (sym z) (no_tautology (clause_at slots) T reasons) in
    let small = literal_small e slots m.noted k run.searches.fits left at in
    let long : length (literals_of T) ≡ length T = length-map T (λ (x : Assigned). x.literal) in
    let all_ones : AllByRecursion (λ (j : Literal). 0 < j.variable) (literals_of T) =
    ones_from T (m.engine).variables
    (recursion_from_All (λ (a : Assigned). (0 < a.literal.variable)
    × (a.literal.variable ≤ (m.engine).variables)) T run.searches.fits.small) in
    let ones : AllByRecursion (λ (j : Literal). 0 < j.variable) (zero_of T) =
    subst (AllByRecursion (λ (j : Literal). 0 < j.variable)) (sym z) all_ones in
    let left_zero : m.noted < length (zero_of T) =
    subst (λ X. m.noted < length X) (sym z) (omega arith) in
    let at_zero : k ≡ get_or (zero_of T) m.noted k =
    subst (λ X. k ≡ get_or X m.noted k) (sym z) at in
    let room_k : k.variable ≤ length (m.units).items = (let ru = room.units in let sk = small.1 in
    omega arith) in
    let ran =
    run_note e n.engine slots p.stack (tables_of m) (p.frozen).items p.first p.given ls l
    k run flat left_zero at_zero refl apart ones room_k adds (omega arith) w.attached (
      w.trail,
      w.variables,
    ) w.works w.fits in
    let stored = room_stored m n (Added (m.additions + 1)) (k ∷ []) room w in
    subst (Runs u p) (sym added.lines)
    (record {
      running = running_same n.engine u.engine (slots ++ Some (k ∷ []) ∷ []) (u.store).slots p.stack
          (with_addition (tables_of m) (set (m.units).items (k.variable - 1) (Some (length slots)))
          (m.noted + 1)) (tables_of u) (p.frozen).items p.first p.given (ls ++ l ∷ [])
          d.engine (d.slots ∙ w.slots)
          (tables_same (with_addition (tables_of m)
          (set (m.units).items (k.variable - 1) (Some (length slots))) (m.noted + 1))
          (tables_of u) (d.names ∙ w.names)
          (d.units ∙ ap (λ x. set x v (Some r)) (ap (λ x. x.items) w.units)
          ∙ (λ i. set (m.units).items (vis i) (Some (ris i)))) (d.noted
          ∙ ap (λ x. x + 1) w.noted) (d.kept ∙ w.kept) (d.additions ∙ more))
          ran;
      room = record {
        policy = ap (λ x. x.variables) d.policy ∙ stored.policy
            ∙ sym (ap (λ x. x.variables) d.engine);
        analyzer =
            subst (λ x. x.variables < u.analyzer) (sym d.engine)
            (subst (λ x. (n.engine).variables < x) (sym d.analyzer) stored.analyzer);
        few = subst (λ x. x.variables < 2 ^ 27) (sym d.engine) stored.few;
        stamps = ap (λ x. length x.items) d.stamps ∙ stored.stamps
            ∙ sym (ap (λ x. x.variables) d.engine);
        units = ap length d.units ∙ length-set (n.units).items v (Some r) ∙ stored.units
            ∙ sym (ap (λ x. x.variables) d.engine);
      };
      past =
          subst (λ x. All (λ y. y ≤ u.additions) x.items) (sym (d.stamps ∙ w.stamps))
          (subst (λ x. All (λ y. y ≤ x) (m.stamps).items) (sym (d.additions ∙ more)) past);
      few = subst (λ x. x < 2 ^ 61) (sym d.additions) few;
    })
