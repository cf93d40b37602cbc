-- All ids were looked at.
use Rattle.std.proofs.Common.{◌≡◌, ◌∙◌, ap, arith}
use Rattle.lrat_live.specs.Listed.{listed_at}
use Rattle.explain_certificate.specs.Holdings.{live_up_to}
use Rattle.explain_certificate.proofs.holdings.count_live.Goals as goal

pub returns : goal.returns
returns c =
    let s = c.args.machine.now.state in
    let i = c.loop-id.invariant in
    let all : c.loop-id.id ≡ s.last =
    omega (arith, i.within, c.loop-id-test.false, c.last-last.ensures) in
    i.count ∙ ap (live_up_to (listed_at s.live)) all
