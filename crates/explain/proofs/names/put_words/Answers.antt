-- A word more, after its space.
use Rattle.std.proofs.Common.{ap}
use Rattle.explain.specs.Names.{words_text}
use Rattle.explain_text.proofs.Laws.{leads_on, leads_same}
use Rattle.explain.proofs.names.put_words.Goals as goal

pub loop-word-preserved : goal.loop-word-preserved
loop-word-preserved g c =
    leads_on c.put_shown.ensures (leads_on c.put.ensures
    (leads_same c.loop-word.invariant (ap words_text c.in-Some.ensures.steps)))
