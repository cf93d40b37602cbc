-- The facts that are left come off what the others leave, and there is room for them.
use Rattle.std.proofs.Common.{◌≡◌, drop}
use Rattle.forms.specs.Forms.{less_facts}
use Rattle.forms.specs.Answers.{HasFactRoom}
use Rattle.forms.proofs.state.Forms.subtract_all.Given as goal

abbrev pub invariant-loop-fact : goal.invariant-loop-fact
invariant-loop-fact g l = record {
  whole : less_facts (g.T.ClauseTable.at l.table) l.self (drop l.fact-index l.facts)
      ≡ less_facts (g.T.ClauseTable.at l.table) l.fn.self l.facts;
  room : HasFactRoom (g.T.ClauseTable.at l.table) l.self (drop l.fact-index l.facts);
}
