use Rattle.std.proofs.Common.{◌≡◌, ◌<◌, ◌≤◌, ◌∷◌, length, get_or, take, vec_capacity}
use Rattle.cnf.specs.Literal.{negation}
use Rattle.propagate.specs.Trail.{literals_of}
use Rattle.analyze.specs.Analyzer.{chosen_reasons}
use Rattle.analyze.specs.Marks.{others_in, resolved_of}
use Rattle.analyze.proofs.collect.collect.Given as goal

-- up to the next position
abbrev pub invariant-loop-position : goal.invariant-loop-position
invariant-loop-position l = record {
  lits : l.lits.items ≡ negation l.asserting ∷ others_in l.marks l.asserting
      (take (get_or l.met l.position-index (length l.engine.trail)) (literals_of l.engine.trail));
  hints : l.hints.items ≡ chosen_reasons (λ k. resolved_of l.marks k.variable)
      (take (get_or l.met l.position-index (length l.engine.trail)) l.engine.trail);
  few : length l.hints.items ≤ l.position-index;
  room : length l.met < vec_capacity l.hints;
}
