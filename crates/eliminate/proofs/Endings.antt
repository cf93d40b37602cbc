-- From the tables of all passes to what the pairs need of them, and to what is left at the end.
use Rattle.std.proofs.Common.{◌≡◌, ℕ, ◌+◌, ◌<◌, ◌≤◌, ◌^◌, ◌==◌, Bool, false, List, [], ◌∷◌, length}
use Rattle.std.proofs.Common.{refl, ap, arith}
use Rattle.std.specs.Prelude.{Result, Ok, Err, IfOk, OnErr, All}
use Rattle.std.proofs.lemmas.Bool.{or_from, ne_eqb}
use Rattle.std.proofs.lemmas.List.Elements.{All-head, All-tail, All-weaker}
use Rattle.cnf.specs.Bits.{assignment_of}
use Rattle.clauses.specs.Slots.{Slots, live_clauses}
use Rattle.lrat_log.specs.Log.{LogLine}
use Rattle.lrat_log.specs.Steps.{given_of}
use Rattle.eliminate_names.specs.Work.{NamesState}
use Rattle.eliminate_names.proofs.Laws.{AreTogether}
use Rattle.eliminate_pairs.specs.Pairs.{Stage, Ground, IsStage, Passes, FitNames, stage_of}
use Rattle.eliminate.specs.declared.simplifier.Simplifier.{Simplifier}
use Rattle.reconstruction.specs.Stack.{IsRemovedWithin}
use Rattle.reconstruction.specs.Removals.{Removed, is_eliminated}
use Rattle.eliminate.specs.Ending.{IsResult}
use Rattle.eliminate.specs.State.{Start}
use Rattle.eliminate.specs.Variables.{LeavesLogOver}
use Rattle.eliminate.specs.Simplifier.{IsSimplified}
use Rattle.eliminate_pairs.proofs.Laws.{fit_together, stage_together}

-- a variable above all that were eliminated is none of these
none_above : (v z : ℕ) (removed : List Removed) → v < z → All (IsRemovedWithin v) removed
    → is_eliminated removed z ≡ false
none_above v z [] above within = refl
none_above v z (r ∷ removed) above within =
    let w = All-head (IsRemovedWithin v) r removed within in
    or_from (r.variable == z) (is_eliminated removed z)
    (ne_eqb r.variable z (λ e. omega (arith, w.1)))
    (none_above v z removed above (All-tail (IsRemovedWithin v) r removed within))

-- the pairs keep what the store held before them, and bring no eliminated variable back
abbrev ground_of : Start → Simplifier → Slots → Ground
ground_of start s slots =
    record {
      first = length start.frozen;
      given = given_of start.clauses;
      clauses = live_clauses slots;
      is_gone = is_eliminated s.removals;
    }

-- where the log is open, the tables are a stage
open_stage : (start : Start) (s : Simplifier) (slots : Slots) (lines : List LogLine)
    → IsSimplified start s slots lines → s.is_refuted ≡ false
    → IsStage (ground_of start s slots) (stage_of s.vars slots s.names lines)
open_stage start s slots lines h running = record {
  more = h.given;
  work = h.state.work;
  going = h.going running;
  back = λ t all. all;
  above = λ v over. none_above s.vars v s.removals over h.state.within;
  free = h.state.free;
}

-- also once the clauses have moved together
moved_stage : (start : Start) (s : Simplifier) (slots moved : Slots) (n : NamesState)
    (lines : List LogLine) → IsSimplified start s slots lines → s.is_refuted ≡ false
    → AreTogether slots moved s.names n
    → IsStage (ground_of start s slots) (stage_of s.vars moved n lines)
moved_stage start s slots moved n lines h running t =
    stage_together (ground_of start s slots) s.vars slots moved s.names n lines t
    (open_stage start s slots lines h running)

pub moved_fit : (start : Start) (s : Simplifier) (slots moved : Slots) (n : NamesState)
    (lines : List LogLine) → IsSimplified start s slots lines → AreTogether slots moved s.names n
    → FitNames n moved lines
moved_fit start s slots moved n lines h t =
    fit_together slots moved s.names n lines t
    (record { counted = h.counted; long = h.state.work.named.long })

-- and with the fresh variables
stage_result : (start : Start) (s : Simplifier) (slots : Slots) (lines : List LogLine) (t : Stage)
    → IsSimplified start s slots lines → s.vars ≤ t.variables → IsStage (ground_of start s slots) t
    → t.variables ≤ length start.frozen + 2 ^ 20 → IsResult start s.removals t
stage_result start s slots lines t h more k fresh = record {
  more = k.more;
  fresh = fresh;
  work = k.work;
  back = λ bits few all. h.state.back bits (omega arith) (k.back (assignment_of bits) all);
  within =
      All-weaker (IsRemovedWithin s.vars) (IsRemovedWithin t.variables)
      (λ r w. (w.0, omega (arith, w.1))) s.removals h.state.within;
  free = k.free;
  not_frozen = h.state.not_frozen;
}

-- where the pairs were done
pub ended : {E : Type 0} (r : Result ℕ E) (frozen : List Bool) (s : Simplifier)
    (slots moved slots' : Slots) (n n' : NamesState) (lines lines' : List LogLine)
    → s.is_refuted ≡ false → AreTogether slots moved s.names n
    → Passes r (stage_of s.vars moved n lines) (length frozen + 2 ^ 20) slots' n' lines'
    → IfOk r (λ v. (start : Start) → start.frozen ≡ frozen → IsSimplified start s slots lines
    → IsResult start s.removals (stage_of v slots' n' lines'))
ended (Ok v) frozen s slots moved slots' n n' lines lines' running t done = λ start is h.
    let same : length start.frozen ≡ length frozen = ap length is in
    stage_result start s slots lines (stage_of v slots' n' lines') h done.more
    (done.keeps (ground_of start s slots) (moved_stage start s slots moved n lines h running t))
    (omega (arith, done.most))
ended (Err x) frozen s slots moved slots' n n' lines lines' running t done = tt

pub refused : {E : Type 0} (r : Result ℕ E) (frozen : List Bool) (s : Simplifier)
    (slots moved slots' : Slots) (n n' : NamesState) (lines lines' : List LogLine)
    → s.is_refuted ≡ false → AreTogether slots moved s.names n
    → Passes r (stage_of s.vars moved n lines) (length frozen + 2 ^ 20) slots' n' lines'
    → OnErr r (LeavesLogOver frozen s slots lines lines')
refused (Ok v) frozen s slots moved slots' n n' lines lines' running t done = tt
refused (Err e) frozen s slots moved slots' n n' lines lines' running t done = λ start is h.
    let log = done.log (ground_of start s slots)
    (moved_stage start s slots moved n lines h running t) in
    (log.steps, log.none_learned)
