-- One more line has small ids.
use Rattle.std.proofs.Common.{◌<◌, ◌^◌}
use Rattle.std.specs.Prelude.{All}
use Rattle.std.proofs.lemmas.List.Elements.{All-push}
use Rattle.lrat_log.specs.Log.{LogLine, id_of, name_of}
use Rattle.render_bench.specs.declared.TheConstants.{BASE}
use Rattle.render_bench.proofs.log.Goals as goal

pub loop-k-preserved : goal.loop-k-preserved
loop-k-preserved c =
    rw c.in_ok-append.ensures.ok
    (All-push (λ (l : LogLine). All (λ h. id_of BASE (name_of h) < 2 ^ 62) l.hints) _ _
    c.loop-k.invariant (rw c.deref-in-loop-k.ensures.value c.in_ok-hints.ensures.ids))
