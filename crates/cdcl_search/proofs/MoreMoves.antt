-- Further moves: compaction, a clause that is given, what is learned, what is noted at level 0, and
-- the empty clause.
use Rattle.std.proofs.Common.{◌≡◌, ◌≢◌, ℕ, zero, suc, ◌+◌, ◌-◌, ◌<◌, ◌≤◌, ◌^◌, Bool, true, false}
use Rattle.std.proofs.Common.{not, ◌&&◌, List, [], ◌∷◌, ◌++◌, length, map, get_or, set, Option}
use Rattle.std.proofs.Common.{Some, None, inl, inr, refl, sym, ◌∙◌, ap, subst, arith}
use Rattle.std.specs.Prelude.{All, Contains, if◌then◌else◌}
use Rattle.std.specs.List.{AllByRecursion, slice_get, list_any}
use Rattle.std.specs.List.Sorted.{IsStrictlyIncreasing}
use Rattle.std.proofs.lemmas.Bool.{or_left, or_right, or_cases}
use Rattle.std.proofs.lemmas.List.{get_or-set_other, length-set, map_push, take-append-le}
use Rattle.std.proofs.lemmas.List.Elements.{All-push, All-head, All-tail, Contains-push_cases}
use Rattle.std.proofs.lemmas.Option.{same_Some, unwrap_or-slice_get}
use Rattle.cnf.specs.Literal.{Literal, Assignment, literal_value}
use Rattle.cnf.specs.Clause.{clause_value, Satisfies, greatest_variable, is_empty_clause}
use Rattle.cnf.specs.Lrat.{IsId}
use Rattle.cnf.specs.Refute.{IsRefutedByHints}
use Rattle.cnf.specs.Bits.{assignment_of}
use Rattle.clauses.specs.Slots.{Slots, clause_at, Renaming, IsRenaming}
use Rattle.propagate.specs.Trail.{depth_of}
use Rattle.propagate.specs.Watches.{EngineState, SetsAttached}
use Rattle.propagate.specs.Fits.{Fits, MovesAttached, renamed_trail, renamed_reason}
use Rattle.propagate.proofs.Laws.{NoTautology}
use Rattle.lrat_log.specs.declared.lines.Name.{Name}
use Rattle.lrat_log.specs.declared.lines.Name.TheVariants.{Formula}
use Rattle.lrat_log.specs.Log.{LogLine, Given, given_at, number_in}
use Rattle.lrat_log.specs.Steps.{AddsNoEmptyClause, adds_empty_clause, IsBaseOf, log_live, IsNewTo}
use Rattle.lrat_log.specs.Steps.{nothing_exempt}
use Rattle.lrat_log.specs.Axioms.{StaysOpenLogOver}
use Rattle.reconstruction.specs.Stack.{StackState, IsFree}
use Rattle.reconstruction.specs.Removals.{Removed, extended, becomes_true}
use Rattle.analyze.specs.Analyzer.{IsAsserting}
use Rattle.cdcl_search.specs.Running.{is_refuted}
use Rattle.cdcl_search.specs.Giving.{IsFrozen}
use Rattle.cdcl_search.specs.Invariant.{Tables, name_at, NamesStore, Searches, NotesUnits, zero_of}
use Rattle.cdcl_search.specs.Invariant.{KeepsPlain, IsRunning}
use Rattle.cdcl_search.proofs.LogLines.{AddsByHints, AddsLine, by_hints}
use Rattle.cdcl_search.proofs.Named.{names_move}
use Rattle.cdcl_search.proofs.MoreGiven.{open_given, names_given}
use Rattle.cdcl_search.proofs.Fixpoint.{searches_move, searches_add}
use Rattle.analyze.proofs.Laws.{is_new}
use Rattle.cdcl_search.proofs.LearnedLines.{new_to_log}
use Rattle.cdcl_search.proofs.Units.{units_add, units_note, units_move}
use Rattle.cdcl_search.proofs.Keeping.{leads_back, keeps_plain, kept_move, empty_move, empty_add}
use Rattle.cdcl_search.proofs.Keeping.{back_given}
use Rattle.clauses.proofs.Laws.{clause_new}
use Rattle.cdcl_search.proofs.Moves.{with_addition, run_add}

-- the store is compacted, and engine and tables go along
abbrev pub with_names : Tables → List Name → List (Option ℕ) → Tables
with_names t names units =
    record { names = names; units = units; noted = t.noted; kept = t.kept; additions = t.additions }

pub run_move : (e f : EngineState) (before after : Slots) (stack : StackState) (t : Tables)
    (frozen : List Bool) (first : ℕ) (given : Given) (ls : List LogLine) (ms : Renaming)
    (names : List Name) (units : List (Option ℕ))
    → IsRunning e before stack t frozen first given ls → IsRenaming before after ms
    → IsStrictlyIncreasing (map (λ m. m.0) ms)
    → MovesAttached e f ms → f.trail ≡ renamed_trail ms e.trail → (f.variables ≡ e.variables)
    × (f.failed ≡ e.failed) → Fits f after
    → length names ≡ length after → All (λ m. name_at names m.1 ≡ name_at t.names m.0) ms
    → All (λ n. IsId (number_in n)) names
    → length units ≡ length t.units
    → ((v : ℕ) → get_or units v None ≡ renamed_reason ms (get_or t.units v None))
    → IsRunning f after stack (with_names t names units) frozen first given ls
run_move e f before after stack t frozen first given ls ms names units r renames rises moves trail
    same fits long along numbers wide moved =
    let s = searches_move before after ms e f renames rises r.searches moves trail same.1 fits in
    let d = r.recorded in
    let notes =
    units_move before after ms (zero_of e.trail) (depth_of e.trail) t.units units t.noted renames
    moved r.units in
    record {
      recorded = record {
        log = d.log;
        names = names_move before after t.names names given ls ms renames rises long along d.names;
        numbers = numbers;
        many_units = wide ∙ d.many_units;
        kept = d.kept;
        not_frozen = d.not_frozen;
        back =
            leads_back before after t.names names t.kept stack given
            (kept_move before after t.names names ms t.kept renames along) d.back;
        plain = keeps_plain before after first given (empty_move before after ms renames) d.plain;
      };
      searches = s.0;
      variables = same.0 ∙ r.variables;
      units =
          subst (λ Z. NotesUnits after Z (depth_of f.trail) units t.noted) (sym s.1)
          (subst (λ k. NotesUnits after (zero_of e.trail) k units t.noted) (sym s.2) notes);
    }

-- One more clause is given, over frozen variables, at level 0.

pub extended_frozen : (frozen : List Bool) (removed : List Removed) (bits : List Bool) (v : ℕ)
    → All (λ r. IsFree frozen r.variable) removed → slice_get frozen v ≡ Some true
    → get_or (extended removed bits) v false ≡ get_or bits v false
extended_frozen frozen [] bits v free e = refl
extended_frozen frozen (r ∷ rs) bits v free e =
    let here = All-head (λ (x : Removed). IsFree frozen x.variable) r rs free in
    let other : v ≢ r.variable - 1 =
    λ s. (let clash : true ≡ false = same_Some true false (sym e ∙ ap (slice_get frozen) s
    ∙ here.1) in absurd (cc)) in
    get_or-set_other (extended rs bits) (r.variable - 1) v
    (becomes_true (assignment_of (extended rs bits)) r) false other
    ∙ extended_frozen frozen rs bits v
    (All-tail (λ (x : Removed). IsFree frozen x.variable) r rs free) e

pub value_agrees : (t u : Assignment) (l : Literal) → t l.variable ≡ u l.variable
    → literal_value t l ≡ literal_value u l
value_agrees t u l e = ap (λ b. if l.negated then not b else b) e

satisfied_there : (t u : Assignment) (c : List Literal) → All (λ l. t l.variable ≡ u l.variable) c
    → Satisfies t c → Satisfies u c
satisfied_there t u [] same s = s
satisfied_there t u (l ∷ c) same s =
    let here : literal_value t l ≡ literal_value u l =
    value_agrees t u l (All-head (λ (k : Literal). t k.variable ≡ u k.variable) l c same) in
    elim (or_cases (literal_value t l) (clause_value t c) s) [
      | inl h ↦ or_left (literal_value u l) (clause_value u c) (sym here ∙ h)
      | inr h ↦ or_right (literal_value u l) (clause_value u c)
          (satisfied_there t u c (All-tail (λ (k : Literal). t k.variable ≡ u k.variable) l c same)
          h)
    ]

bit_same : (bits more : List Bool) (v : ℕ) → 0 < v
    → get_or bits (v - 1) false ≡ get_or more (v - 1) false
    → assignment_of bits v ≡ assignment_of more v
bit_same bits more zero one e = absurd (omega arith)
bit_same bits more (suc v) one e =
    let back : suc v - 1 ≡ v = omega arith in
    unwrap_or-slice_get bits v false ∙ subst (λ k. get_or bits k false ≡ get_or more k false) back e
    ∙ sym (unwrap_or-slice_get more v false)

frozen_same : (frozen : List Bool) (removed : List Removed) (bits : List Bool) (c : List Literal)
    → All (λ r. IsFree frozen r.variable) removed → All (IsFrozen frozen) c
    → All (λ l. 0 < l.variable) c
    → Satisfies (assignment_of bits) c → Satisfies (assignment_of (extended removed bits)) c
frozen_same frozen removed bits c free fixed ones s =
    satisfied_there (assignment_of bits) (assignment_of (extended removed bits)) c
    (λ k d lt. bit_same bits (extended removed bits) (get_or c k d).variable (ones k d lt)
    (sym (extended_frozen frozen removed bits ((get_or c k d).variable - 1) free
    (fixed k d lt)))) s

plain_given : (slots : Slots) (first : ℕ) (given : Given) (n : Name) (c : List Literal)
    → first ≤ length given → KeepsPlain slots first given
    → KeepsPlain (slots ++ Some c ∷ []) first (given ++ (n, c) ∷ [])
plain_given slots first given n c within plain (inl h) =
    let w =
    plain (inl (subst (λ g. IsRefutedByHints (map (λ x. x.1) g))
    (take-append-le first given ((n, c) ∷ []) within) h)) in empty_add slots c w.0 w.1
plain_given slots first given n c within plain (inr h) =
    elim (Contains-push_cases (map (λ (g : Name × List Literal). g.1) given) c []
    (subst (λ x. Contains x []) (map_push (λ (g : Name × List Literal). g.1) given (n, c)) h)) [
      | inl old ↦ let w = plain (inr old) in empty_add slots c w.0 w.1
      | inr new ↦ (length slots, clause_new slots c ∙ ap Some new)
    ]

abbrev pub with_given : Tables → ℕ → Tables
with_given t i = record {
  names = t.names ++ Formula i ∷ [];
  units = t.units;
  noted = t.noted;
  kept = t.kept;
  additions = t.additions;
}

pub run_given : (e f : EngineState) (slots : Slots) (stack : StackState) (t : Tables)
    (frozen : List Bool) (first : ℕ) (given : Given) (ls : List LogLine) (i : ℕ) (c : List Literal)
    → IsRunning e slots stack t frozen first given ls → depth_of e.trail ≡ 0 → first ≤ length given
    → given_at given i ≡ None → IsId i → All (IsFrozen frozen) c → All (λ l. 0 < l.variable) c
    → greatest_variable c ≤ length frozen
    → SetsAttached e f (length slots) true → (f.trail ≡ e.trail) × (f.variables ≡ e.variables)
    → f.failed ≡ false → Fits f (slots ++ Some c ∷ [])
    → IsRunning f (slots ++ Some c ∷ []) stack (with_given t i) frozen first
    (given ++ (Formula i, c) ∷ []) ls
run_given e f slots stack t frozen first given ls i c r flat within fresh id fixed ones small sets
    same works fits =
    let d = r.recorded in
    record {
      recorded = record {
        log = record {
          stays = open_given (length frozen) given (Formula i) c ls small d.log.stays;
          unrefuted = d.log.unrefuted;
          counted = d.log.counted;
        };
        names = names_given slots t.names given ls i c (length frozen) fresh d.log.stays d.names;
        numbers = All-push (λ k. IsId (number_in k)) t.names (Formula i) d.numbers id;
        many_units = d.many_units;
        kept = d.kept;
        not_frozen = d.not_frozen;
        back = back_given slots t.names (Formula i) c t.kept stack given d.names.as_many refl
            (λ bits long s. frozen_same frozen stack.removed bits c d.not_frozen fixed ones s)
            d.back;
        plain = plain_given slots first given (Formula i) c within d.plain;
      };
      searches =
          searches_add slots e f c r.searches sets same.0 works fits
          (λ level below. absurd (omega arith));
      variables = same.1 ∙ r.variables;
      units =
          subst (λ T. NotesUnits (slots ++ Some c ∷ []) (zero_of T) (depth_of T) t.units t.noted)
          (sym same.0) (units_add slots c (zero_of e.trail) (depth_of e.trail) t.units
          t.noted r.units);
    }

-- Nothing live is a subset of what is learned.
pub learn_is_new : (e : EngineState) (slots : Slots) (names : List Name) (given : Given)
    (ls : List LogLine) (l : LogLine) (back : ℕ) → Searches e slots
    → NamesStore slots names given ls
    → IsAsserting e.trail l.clause back → 0 < depth_of e.trail → (base : ℕ) → IsBaseOf given base
    → IsNewTo nothing_exempt (log_live given base ls) l.clause
learn_is_new e slots names given ls l back s n w deep base above =
    new_to_log slots names base (log_live given base ls) l.clause (n.live base above)
    (is_new slots (clause_at slots) e.trail l.clause back s.fits.reasons w deep
    (s.fixpoint (depth_of e.trail - 1) (omega arith)))

-- The next literal of level 0 gets its clause.

pub run_note : (e f : EngineState) (slots : Slots) (stack : StackState) (t : Tables)
    (frozen : List Bool) (first : ℕ) (given : Given) (ls : List LogLine) (l : LogLine) (k : Literal)
    → IsRunning e slots stack t frozen first given ls → depth_of e.trail ≡ 0
    → t.noted < length (zero_of e.trail) → k ≡ get_or (zero_of e.trail) t.noted k
    → l.clause ≡ k ∷ []
    → NoTautology (zero_of e.trail) → AllByRecursion (λ j. 0 < j.variable) (zero_of e.trail)
    → k.variable ≤ length t.units
    → AddsByHints given ls l → t.additions + 1 < 2 ^ 62
    → SetsAttached e f (length slots) true → (f.trail ≡ e.trail) × (f.variables ≡ e.variables)
    → f.failed ≡ false → Fits f (slots ++ Some l.clause ∷ [])
    → IsRunning f (slots ++ Some l.clause ∷ []) stack
    (with_addition t (set t.units (k.variable - 1) (Some (length slots))) (t.noted + 1)) frozen
    first given (ls ++ l ∷ [])
run_note e f slots stack t frozen first given ls l k r flat left at one apart ones room_k adds room
    sets same works fits =
    run_add e f slots stack t frozen first given ls l
    (set t.units (k.variable - 1) (Some (length slots))) (t.noted + 1) r
    (by_hints (length frozen) given ls l adds)
    (ap (λ b. not b && is_empty_clause l.clause) adds.adds ∙ ap is_empty_clause one) room sets
    same works fits
    (λ level below. absurd (omega arith))
    (length-set t.units (k.variable - 1) (Some (length slots)))
    (subst (λ d. NotesUnits (slots ++ Some l.clause ∷ []) (zero_of e.trail) d
    (set t.units (k.variable - 1) (Some (length slots))) (t.noted + 1)) (sym flat)
    (subst (λ c. NotesUnits (slots ++ Some c ∷ []) (zero_of e.trail) 0
    (set t.units (k.variable - 1) (Some (length slots))) (t.noted + 1)) (sym one)
    (units_note slots (zero_of e.trail) k t.units t.noted apart ones left at room_k
    (subst (λ d. NotesUnits slots (zero_of e.trail) d t.units t.noted) flat r.units))))

-- The empty clause.

any_push : (ls : List LogLine) (l : LogLine) → adds_empty_clause l ≡ true
    → list_any adds_empty_clause (ls ++ l ∷ []) ≡ true
any_push [] l e = or_left (adds_empty_clause l) false e
any_push (k ∷ ls) l e =
    or_right (adds_empty_clause k) (list_any adds_empty_clause (ls ++ l ∷ [])) (any_push ls l e)

-- the empty clause, by hints: the solver's word for it
pub answer_unsat : (variables : ℕ) (given : Given) (ls : List LogLine) (l : LogLine)
    → StaysOpenLogOver variables given ls → AddsNoEmptyClause ls
    → AddsLine variables given ls l → l.clause ≡ []
    → StaysOpenLogOver variables given (ls ++ l ∷ []) × (is_refuted (ls ++ l ∷ []) ≡ true)
answer_unsat variables given ls l stays unrefuted adds none =
    let empty : adds_empty_clause l ≡ true = ap (λ b. not b && is_empty_clause l.clause) adds.adds
    ∙ ap is_empty_clause none in
    (adds.stays stays unrefuted, any_push ls l empty)
