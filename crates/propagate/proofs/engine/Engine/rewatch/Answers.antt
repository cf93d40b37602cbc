use Rattle.std.proofs.Common.{◌≡◌, ◌<◌, length, ap, ◌∙◌, arith}
use Rattle.std.proofs.lemmas.List.{length-set}
use Rattle.propagate_watches.specs.declared.table.Attachment.TheVariants.{Watching}
use Rattle.propagate_watches.specs.Table.{is_kept}
use Rattle.propagate.specs.Watches.{EngineState, engine_state, is_attached}
use Rattle.propagate.proofs.Attaching.{engine_set, kept_within}
use Rattle.propagate.proofs.engine.Engine.rewatch.Goals as goal

pub invariant_of-self-2 : goal.invariant_of-self-2
invariant_of-self-2 c =
    let i = c.self.inside in
    let r = c.args.reference in
    let e = engine_state i.trail i.table i.pool i.waiting.items i.stable_qhead i.qhead i.failed in
    let variables = ap (λ (x : EngineState). x.variables) c.self.view_is in
    let lt : r < length i.table =
    kept_within i.table r (ap (λ (x : EngineState). is_attached x r) c.self.view_is
    ∙ ap is_kept c.requires.watching.2) in
    let long : length c.push.new.self ≡ length i.pool = ap length c.in_ok-push.ensures.ok
    ∙ length-set _ _ _ in
    rw c.rewatch.ensures (engine_set e r (Watching c.args.lit c.args.other _) c.push.new.self
    i.waiting.items c.self.invariant long lt
    (λ one other at.
    let a : one ≡ c.args.lit = cc in
    let b : other ≡ c.args.other = cc in
    rw (a, b) (
      (c.requires.lit.0, omega (arith, c.requires.lit.1)),
      (c.requires.other.0, omega (arith, c.requires.other.1)),
    )))
