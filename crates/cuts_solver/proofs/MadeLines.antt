-- A log to which clauses from outside come stays open.
use Rattle.std.proofs.Common.{◌≡◌, ℕ, ◌<◌, true, false, List, [], ◌∷◌, ◌++◌, length, map, refl}
use Rattle.std.proofs.Common.{sym, subst, arith, append_assoc, append-nil}
use Rattle.std.specs.List.{AllByRecursion}
use Rattle.cnf.specs.Literal.{Literal}
use Rattle.lrat_log.specs.Axioms.{IsNewClause, StaysOpenLogOver}
use Rattle.lrat_log.specs.Log.{Given, LogLine, axiom_line}
use Rattle.lrat_log.specs.Steps.{AddsNoEmptyClause, adds_empty_clause}
use Rattle.lrat_log.proofs.Laws.{axiom_kept, open_push}
use Rattle.cuts_log.specs.Logs.{Brings, SameLog, lines_seen}
use Rattle.cuts_log.specs.Made.{IsMadeClause}
use Rattle.cuts_solver.specs.Solving.{IsSolver, SolverState}
use Rattle.cuts_solver.proofs.Working.{fails_brings}

some_kept : (c : List Literal) → 0 < length c → adds_empty_clause (axiom_line c) ≡ false
some_kept [] some = absurd (omega (arith, some))
some_kept (l ∷ c) some = refl

pub made_stays : (n v : ℕ) (given : Given) (ls : List LogLine) (made : List (List Literal))
    → AllByRecursion (IsMadeClause v) made → StaysOpenLogOver n given ls → AddsNoEmptyClause ls
    → StaysOpenLogOver n given (ls ++ map axiom_line made)
made_stays n v given ls [] h stays unrefuted =
    subst (StaysOpenLogOver n given) (sym (append-nil ls)) stays
made_stays n v given ls (c ∷ made) h stays unrefuted =
    let l = axiom_line c in
    subst (StaysOpenLogOver n given) (append_assoc ls (l ∷ []) (map axiom_line made))
    (made_stays n v given (ls ++ l ∷ []) made h.1
    (axiom_kept n given ls c stays unrefuted (h.0).new)
    (open_push ls l unrefuted (some_kept c (h.0).some)))

-- a solver fails where such clauses came
module _ (old new : SolverState) (h : IsSolver old) (works : old.failed ≡ false)
    (going : old.refuted ≡ false) (same : SameLog old.log new.log) (input : new.input ≡ old.input)
    (refuted : new.refuted ≡ old.refuted) (failed : new.failed ≡ true) where
  unrefuted : AddsNoEmptyClause (lines_seen old.log)
  unrefuted = ((h.working works).runs going).running.recorded.log.unrefuted

  pub fails_made : (v : ℕ) (made : List (List Literal)) → Brings (map axiom_line made) old.log
      new.log → AllByRecursion (IsMadeClause v) made → IsSolver new
  fails_made v made b each =
      fails_brings old new made h same b.lines
      (made_stays (length ((old.input).frozen).items) v (old.input).given (lines_seen old.log) made
      each (h.lines).stays unrefuted) input refuted failed

  pub fails_cut : (c : List Literal) → Brings (axiom_line c ∷ []) old.log new.log → IsNewClause c
      → IsSolver new
  fails_cut c b fresh =
      fails_brings old new (c ∷ []) h same b.lines
      (axiom_kept (length ((old.input).frozen).items) (old.input).given (lines_seen old.log) c
      (h.lines).stays unrefuted fresh) input refuted failed
