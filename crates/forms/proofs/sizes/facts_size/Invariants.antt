-- The terms so far, with those of the facts that are left, are all.
use Rattle.std.proofs.Common.{◌≡◌, ℕ, ◌*◌, ◌≤◌, ◌^◌, drop}
use Rattle.forms.specs.Forms.{facts_size, plus_size}
use Rattle.forms.specs.Stamped.{numbered_in}
use Rattle.forms.proofs.sizes.facts_size.Given as goal

abbrev pub invariant-loop-fact : goal.invariant-loop-fact
invariant-loop-fact g l = record {
  whole : (present : ℕ)
      → facts_size (g.T.ClauseTable.at l.table) (numbered_in present l.numbered) l.facts
      ≡ plus_size l.total (facts_size (g.T.ClauseTable.at l.table) (numbered_in present l.numbered)
      (drop l.fact-index l.facts));
  few : l.total ≤ l.fact-index * 2 ^ 64;
}
