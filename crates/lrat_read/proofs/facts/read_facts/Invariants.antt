use Rattle.std.proofs.Common.{◌≡◌, ◌≤◌, ◌-◌, length, drop}
use Rattle.text.specs.Text.{tokens_of}
use Rattle.lrat_read.specs.Words.{ended_facts}
use Rattle.lrat_read.proofs.FactLaws.{facts_ahead}
use Rattle.lrat_read.proofs.facts.read_facts.Given as goal

abbrev pub invariant-loop-weight : goal.invariant-loop-weight
invariant-loop-weight l = record {
  within : l.place ≤ length l.line;
  facts : ended_facts (tokens_of (drop l.at l.line))
      ≡ facts_ahead l.facts.items (ended_facts (tokens_of (drop l.place l.line)));
}

abbrev pub decreases-loop-weight : goal.decreases-loop-weight
decreases-loop-weight l = length l.line - l.place
