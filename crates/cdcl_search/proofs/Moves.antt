-- Each move of a search keeps what holds of a running solver.
use Rattle.std.proofs.Common.{◌≡◌, ℕ, ◌+◌, ◌<◌, ◌≤◌, ◌^◌, Bool, true, false, not, ◌&&◌, List, []}
use Rattle.std.proofs.Common.{◌∷◌, ◌++◌, length, set, Option, Some, None, sym, ◌∙◌, ap, subst}
use Rattle.std.proofs.Common.{arith}
use Rattle.std.proofs.lemmas.List.Elements.{All-push}
use Rattle.cnf.specs.Literal.{Literal}
use Rattle.cnf.specs.Lrat.{IsId}
use Rattle.cnf.specs.Refute.{IsUnit, IsFalseUnder}
use Rattle.clauses.specs.Slots.{Slots, clause_at}
use Rattle.propagate.specs.Trail.{literals_of, depth_of, kept_to}
use Rattle.propagate.specs.Watches.{EngineState, SameAttached, SetsAttached}
use Rattle.propagate.specs.Fits.{Fits, GrowsByUnits}
use Rattle.lrat_log.specs.declared.lines.Name.{Name}
use Rattle.lrat_log.specs.declared.lines.Name.TheVariants.{Added}
use Rattle.lrat_log.specs.Log.{LogLine, Given, is_delete, number_in}
use Rattle.cnf.specs.Clause.{is_empty_clause}
use Rattle.lrat_log.specs.Steps.{adds_empty_clause}
use Rattle.lrat_log.proofs.Laws.{one_apart, open_push}
use Rattle.reconstruction.specs.Stack.{StackState}
use Rattle.cdcl_search.specs.Invariant.{Tables, name_at, is_kept_name, NamesStore, NotesUnits}
use Rattle.cdcl_search.specs.Invariant.{zero_of, IsRecorded, IsRunning}
use Rattle.analyze.specs.Analyzer.{IsFixpoint}
use Rattle.cdcl_search.proofs.Chains.{count_push_addition, count_push_deletion}
use Rattle.cdcl_search.specs.Hinting.{plain_hints}
use Rattle.cdcl_search.proofs.LogLines.{AddsLine, DeletesNames, log_delete}
use Rattle.cdcl_search.proofs.Named.{names_add, names_delete}
use Rattle.cdcl_search.proofs.Fixpoint.{searches_propagate, searches_decide, searches_backtrack}
use Rattle.cdcl_search.proofs.Fixpoint.{searches_add}
use Rattle.cdcl_search.proofs.Units.{units_propagate, units_decide, units_backtrack}
use Rattle.cdcl_search.proofs.Keeping.{EmptyStays, leads_back, keeps_plain, kept_add, kept_delete}
use Rattle.cdcl_search.proofs.Keeping.{empty_add, empty_delete}

-- the engine alone

pub run_propagate : (e f : EngineState) (slots : Slots) (stack : StackState) (t : Tables)
    (frozen : List Bool) (first : ℕ) (given : Given) (ls : List LogLine)
    → IsRunning e slots stack t frozen first given ls
    → GrowsByUnits slots e f → SameAttached e f → f.variables ≡ e.variables → f.failed ≡ false
    → Fits f slots → IsRunning f slots stack t frozen first given ls
run_propagate e f slots stack t frozen first given ls r grows same vars works fits = record {
  recorded = r.recorded;
  searches = searches_propagate slots e f r.searches grows same fits works;
  variables = vars ∙ r.variables;
  units = subst (λ T. NotesUnits slots (zero_of T) (depth_of T) t.units t.noted) (sym grows.1)
      (units_propagate slots f e.trail grows.0 t.units t.noted grows.2 r.units);
}

pub run_decide : (e f : EngineState) (slots : Slots) (stack : StackState) (t : Tables)
    (frozen : List Bool) (first : ℕ) (given : Given) (ls : List LogLine) (l : Literal)
    → IsRunning e slots stack t frozen first given ls
    → IsFixpoint slots (literals_of e.trail) → length (zero_of e.trail) ≤ t.noted
    → f.trail ≡ e.trail ++ record { literal = l; reason = None } ∷ [] → SameAttached e f
    → (f.variables ≡ e.variables) × (f.failed ≡ e.failed) → Fits f slots
    → IsRunning f slots stack t frozen first given ls
run_decide e f slots stack t frozen first given ls l r fixpoint full trail attached same fits =
    record {
      recorded = r.recorded;
      searches = searches_decide slots e f l r.searches fixpoint trail attached same.1 fits;
      variables = same.0 ∙ r.variables;
      units = subst (λ T. NotesUnits slots (zero_of T) (depth_of T) t.units t.noted) (sym trail)
          (units_decide slots e.trail l t.units t.noted full r.units);
    }

pub run_backtrack : (e f : EngineState) (slots : Slots) (stack : StackState) (t : Tables)
    (frozen : List Bool) (first : ℕ) (given : Given) (ls : List LogLine) (level : ℕ)
    → IsRunning e slots stack t frozen first given ls
    → level ≤ depth_of e.trail → f.trail ≡ kept_to level e.trail → SameAttached e f
    → (f.variables ≡ e.variables) × (f.failed ≡ e.failed) → Fits f slots
    → IsRunning f slots stack t frozen first given ls
run_backtrack e f slots stack t frozen first given ls level r within trail attached same fits =
    record {
      recorded = r.recorded;
      searches = searches_backtrack slots e f level r.searches within trail attached same.1 fits;
      variables = same.0 ∙ r.variables;
      units = subst (λ T. NotesUnits slots (zero_of T) (depth_of T) t.units t.noted) (sym trail)
          (units_backtrack slots e.trail level t.units t.noted r.units);
    }

-- a clause follows, is written down, comes to the store and is attached
abbrev pub with_addition : Tables → List (Option ℕ) → ℕ → Tables
with_addition t units noted =
    record {
      names = t.names ++ Added (t.additions + 1) ∷ [];
      units = units;
      noted = noted;
      kept = t.kept;
      additions = t.additions + 1;
    }

pub recorded_add : (slots : Slots) (stack : StackState) (t : Tables) (frozen : List Bool)
    (first : ℕ) (given : Given) (ls : List LogLine) (l : LogLine) (units : List (Option ℕ))
    (noted : ℕ)
    → IsRecorded slots stack t frozen first given ls → AddsLine (length frozen) given ls l
    → adds_empty_clause l ≡ false → t.additions + 1 < 2 ^ 62 → length units ≡ length t.units
    → IsRecorded (slots ++ Some l.clause ∷ []) stack (with_addition t units noted) frozen first
    given (ls ++ l ∷ [])
recorded_add slots stack t frozen first given ls l units noted r adds goes_on room long =
    let n : Name = Added (t.additions + 1) in
    record {
      log = record {
        stays = adds.stays r.log.stays r.log.unrefuted;
        unrefuted = open_push ls l r.log.unrefuted goes_on;
        counted = ap (λ k. k + 1) r.log.counted ∙ sym (count_push_addition ls l adds.adds);
      };
      names =
          subst (λ k. NamesStore (slots ++ Some l.clause ∷ []) (t.names ++ Added (k + 1) ∷ []) given
          (ls ++ l ∷ [])) (sym r.log.counted)
          (names_add slots t.names given ls l adds.names adds.adds adds.plain r.names);
      numbers = All-push (λ k. IsId (number_in k)) t.names n r.numbers (omega arith, room);
      many_units = long ∙ r.many_units;
      kept = (let low = r.kept in omega arith);
      not_frozen = r.not_frozen;
      back = leads_back slots (slots ++ Some l.clause ∷ []) t.names (t.names ++ n ∷ []) t.kept stack
          given (kept_add slots t.names l.clause n t.kept r.names.as_many) r.back;
      plain = keeps_plain slots (slots ++ Some l.clause ∷ []) first given (empty_add slots l.clause)
          r.plain;
    }

pub run_add : (e f : EngineState) (slots : Slots) (stack : StackState) (t : Tables)
    (frozen : List Bool) (first : ℕ) (given : Given) (ls : List LogLine) (l : LogLine)
    (units : List (Option ℕ)) (noted : ℕ)
    → IsRunning e slots stack t frozen first given ls → AddsLine (length frozen) given ls l
    → adds_empty_clause l ≡ false → t.additions + 1 < 2 ^ 62
    → SetsAttached e f (length slots) true → (f.trail ≡ e.trail) × (f.variables ≡ e.variables)
    → f.failed ≡ false → Fits f (slots ++ Some l.clause ∷ [])
    → ((level : ℕ) → level < depth_of e.trail
    → (IsFalseUnder l.clause (literals_of (kept_to level e.trail)) → ⊥)
    × ((k : Literal) → IsUnit l.clause (literals_of (kept_to level e.trail)) k → ⊥))
    → length units ≡ length t.units
    → NotesUnits (slots ++ Some l.clause ∷ []) (zero_of e.trail) (depth_of e.trail) units noted
    → IsRunning f (slots ++ Some l.clause ∷ []) stack (with_addition t units noted) frozen first
    given (ls ++ l ∷ [])
run_add e f slots stack t frozen first given ls l units noted r adds goes_on room sets same works
    fits fixpoint long notes = record {
      recorded =
          recorded_add slots stack t frozen first given ls l units noted r.recorded adds goes_on
          room long;
      searches = searches_add slots e f l.clause r.searches sets same.0 works fits fixpoint;
      variables = same.1 ∙ r.variables;
      units =
          subst (λ T. NotesUnits (slots ++ Some l.clause ∷ []) (zero_of T) (depth_of T) units noted)
          (sym same.0) notes;
    }

deletes_not_empty : (l : LogLine) → is_delete l.kind ≡ true → adds_empty_clause l ≡ false
deletes_not_empty l e = ap (λ b. not b && is_empty_clause l.clause) e

empty_long : (slots : Slots) (q : ℕ) (c : List Literal) → clause_at slots q ≡ Some c → 1 < length c
    → EmptyStays slots (set slots q None)
empty_long slots q [] e long = absurd (omega arith)
empty_long slots q (l ∷ c) e long = empty_delete slots q l c e

-- a clause of two literals or more, which is not kept, is detached, deleted, and written down as
-- deleted
pub recorded_delete : (slots : Slots) (stack : StackState) (t : Tables) (frozen : List Bool)
    (first : ℕ) (given : Given) (ls : List LogLine) (l : LogLine) (q : ℕ) (c : List Literal)
    → IsRecorded slots stack t frozen first given ls → clause_at slots q ≡ Some c → 1 < length c
    → is_kept_name t.kept (name_at t.names q) ≡ false
    → is_delete l.kind ≡ true → l.hints ≡ plain_hints (name_at t.names q ∷ [])
    → IsRecorded (set slots q None) stack t frozen first given (ls ++ l ∷ [])
recorded_delete slots stack t frozen first given ls l q c r here long dropped deletes plain =
    let d : DeletesNames given ls l = record {
      names = name_at t.names q ∷ [];
      deletes = deletes;
      plain = plain;
      apart = λ base above. one_apart _;
      live = λ base above. ((c, (r.names.live base above).named q c here), tt);
    } in
    record {
      log = record {
        stays = log_delete (length frozen) given ls l r.log.stays r.log.unrefuted d;
        unrefuted = open_push ls l r.log.unrefuted (deletes_not_empty l deletes);
        counted = r.log.counted ∙ sym (count_push_deletion ls l deletes);
      };
      names = names_delete slots t.names given ls l q deletes plain (c, here) r.names;
      numbers = r.numbers;
      many_units = r.many_units;
      kept = r.kept;
      not_frozen = r.not_frozen;
      back = leads_back slots (set slots q None) t.names t.names t.kept stack given
          (kept_delete slots t.names q t.kept dropped) r.back;
      plain = keeps_plain slots (set slots q None) first given (empty_long slots q c here long)
          r.plain;
    }
