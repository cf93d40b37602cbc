use Rattle.std.proofs.Common.{◌≡◌, ◌≤◌, ◌-◌, length, drop}
use Rattle.text.specs.Text.{tokens_of}
use Rattle.lrat_read.specs.Words.{ended_ids}
use Rattle.lrat_read.proofs.IdLaws.{ids_ahead}
use Rattle.lrat_read.proofs.blocks.read_ids.Given as goal

abbrev pub invariant-loop-id : goal.invariant-loop-id
invariant-loop-id l = record {
  within : l.place ≤ length l.line;
  ids : ended_ids (tokens_of (drop l.at l.line))
      ≡ ids_ahead l.ids.items (ended_ids (tokens_of (drop l.place l.line)));
}

abbrev pub decreases-loop-id : goal.decreases-loop-id
decreases-loop-id l = length l.line - l.place
