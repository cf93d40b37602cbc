use Rattle.cuts_log.proofs.Keeping.{short_seen}
use Rattle.cuts_log.proofs.log.CutsLogSink.is_short.Goals as goal

pub returns : goal.returns
returns g c =
    let l = c.self.inside in
    rw (← c.self.view_is) (short_seen
    (record { book = l.book; standing = l.standing; cost = l.cost }) c.limits.ensures)
