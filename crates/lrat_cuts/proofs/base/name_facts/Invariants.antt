-- The facts so far are named.
use Rattle.std.proofs.Common.{◌≡◌, map, take, All}
use Rattle.forms.specs.Answers.{IsFact}
use Rattle.lrat_cuts.specs.Cuts.{fact_of}
use Rattle.lrat_cuts.proofs.base.name_facts.Given as goal

abbrev pub invariant-loop-fact : goal.invariant-loop-fact
invariant-loop-fact l = record {
  facts : l.names.items ≡ map fact_of (take l.fact-index l.facts);
  small : All IsFact l.names.items;
}
