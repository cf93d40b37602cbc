use Rattle.std.proofs.Common.{length, ◌-◌, ◌≡◌, ◌≤◌, drop}
use Rattle.text.specs.Text.{tokens_of}
use Rattle.lrat_read.specs.Form.{block_of}
use Rattle.lrat_read.proofs.Prefixes.{ahead}
use Rattle.lrat_read.proofs.blocks.read_hints.Given as goal

abbrev pub invariant-loop-is_dashed : goal.invariant-loop-is_dashed
invariant-loop-is_dashed l = record {
  within : l.place ≤ length l.line;
  block : block_of (tokens_of (drop l.at l.line)) ≡ ahead l.hints.items
      (block_of (tokens_of (drop l.place l.line)));
}

abbrev pub decreases-loop-is_dashed : goal.decreases-loop-is_dashed
decreases-loop-is_dashed l = length l.line - l.place
