-- The name on a line more.
use Rattle.std.proofs.Common.{ap}
use Rattle.std.specs.List.{flat_map}
use Rattle.text.specs.Text.{tokens_of}
use Rattle.explain.specs.Names.{name_text}
use Rattle.explain_text.proofs.Laws.{leads_on, leads_same}
use Rattle.explain.proofs.names.put_names.Goals as goal

pub loop-numbered-preserved : goal.loop-numbered-preserved
loop-numbered-preserved g c =
    leads_on c.put_name.ensures (leads_same c.loop-numbered.invariant
    (ap (flat_map (λ n. name_text c.args.bits.now (tokens_of n.1))) c.in-Some.ensures.steps))
