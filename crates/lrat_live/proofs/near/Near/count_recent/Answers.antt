use Rattle.std.proofs.Common.{◌+◌, length, drop}
use Rattle.lrat_live.proofs.SpanLaws.{spread_within, spread_take}
use Rattle.lrat_live.proofs.near.Near.count_recent.Goals as goal

pub count_live-requires : goal.count_live-requires
count_live-requires c =
    let s = c.self.inside in
    rw (c.deref.ensures.value, c.deref-2.ensures.value)
    (spread_within s.given_lits _ (length s.lits.items)
    (spread_take s.given_lits (drop (s.given + 1) s.spans.items) (length s.lits.items) _
    c.self.invariant.recent))
