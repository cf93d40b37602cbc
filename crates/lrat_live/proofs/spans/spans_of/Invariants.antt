use Rattle.std.proofs.Common.{◌≡◌, ◌≤◌, ◌∷◌, length, take}
use Rattle.lrat_live.specs.Near.{nowhere, spans_from}
use Rattle.lrat_live.specs.declared.spans.TheConstants.{MOST_KEPT}
use Rattle.lrat_live.proofs.StartLaws.{joined}
use Rattle.lrat_live.proofs.spans.spans_of.Given as goal

abbrev pub invariant-loop-place : goal.invariant-loop-place
invariant-loop-place l = record {
  start : l.start ≡ length (joined (take l.place l.clauses));
  few : l.start ≤ MOST_KEPT;
  spans : l.spans.items ≡ nowhere ∷ spans_from 0 (take l.place l.clauses);
}
