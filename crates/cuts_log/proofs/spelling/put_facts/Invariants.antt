-- The facts before the index were put.
use Rattle.std.proofs.Common.{take}
use Rattle.std.specs.List.{flat_map}
use Rattle.cuts_log.specs.Facts.{fact_text, spelled}
use Rattle.cuts_log.specs.Outs.{Says}
use Rattle.cuts_log.proofs.spelling.put_facts.Given as goal

abbrev pub invariant-loop-fact : goal.invariant-loop-fact
invariant-loop-fact g l =
    Says l.initial.out (flat_map (λ f. fact_text (spelled f)) (take l.fact-index l.facts)) l.out
