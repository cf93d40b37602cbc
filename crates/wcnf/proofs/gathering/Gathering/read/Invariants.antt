-- What is left is read on from what was gathered.
use Rattle.std.proofs.Common.{◌≡◌, ◌≤◌, ◌^◌, length}
use Rattle.wcnf.specs.Drafts.{gathered_at}
use Rattle.wcnf.proofs.gathering.Gathering.read.Given as goal

abbrev pub invariant-loop-word : goal.invariant-loop-word
invariant-loop-word l = (l.count ≤ 2 ^ 26) × (l.self.variables ≤ l.most)
    × (gathered_at l.most l.self l.count l.words ≡ gathered_at l.most l.initial.self
    l.initial.count l.initial.words)

abbrev pub decreases-loop-word : goal.decreases-loop-word
decreases-loop-word l = length l.words
