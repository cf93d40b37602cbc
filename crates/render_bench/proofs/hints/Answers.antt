-- One more hint is in range.
use Rattle.std.proofs.Common.{◌<◌, ◌^◌}
use Rattle.std.proofs.lemmas.List.Elements.{All-push}
use Rattle.cnf.specs.Lrat.{IsId}
use Rattle.lrat_log.specs.Log.{id_of, name_of, number_in}
use Rattle.render_bench.specs.declared.TheConstants.{BASE}
use Rattle.render_bench.proofs.hints.Goals as goal

pub loop-k-preserved : goal.loop-k-preserved
loop-k-preserved c =
    rw c.in_ok-push.ensures.items (
      All-push (λ h. IsId (number_in (name_of h))) _ _ c.loop-k.invariant.0 c.name.ensures.number,
      All-push (λ h. id_of BASE (name_of h) < 2 ^ 62) _ _ c.loop-k.invariant.1 c.name.ensures.id,
    )
