-- Where all are live, each is found at its place.
use Rattle.std.proofs.Common.{◌<◌, length, arith, rules}
use Rattle.cuts_log.proofs.LiveClauses.{live_found}
use Rattle.cuts_log.proofs.earlier.are_live.Goals as goal

pub returns-then-not-is_live-clause-no : goal.returns-then-not-is_live-clause-no
returns-then-not-is_live-clause-no c = λ is live.
    let cs = c.args.clauses.now in
    let i = c.loop-place.place in
    let within : i < length cs = search (rules, arith) in
    c.is_live.ensures.no c.if-not-is_live.true
    (live_found cs c.args.machine.now.state.live i live within)
