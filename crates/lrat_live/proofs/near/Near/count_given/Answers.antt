use Rattle.std.proofs.Common.{◌+◌, length, take, drop}
use Rattle.lrat_live.proofs.SpanLaws.{spread_within, spread_up, spread_le}
use Rattle.lrat_live.proofs.near.Near.count_given.Goals as goal

pub count_live-requires : goal.count_live-requires
count_live-requires c =
    let s = c.self.inside in
    let ss = s.spans.items in
    rw (c.deref.ensures.value, c.deref-2.ensures.value)
    (spread_within 0 (take (s.given + 1) ss) (length s.lits.items)
    (spread_up 0 (take (s.given + 1) ss) s.given_lits (length s.lits.items)
    (spread_le s.given_lits (drop (s.given + 1) ss) (length s.lits.items) c.self.invariant.recent)
    c.self.invariant.formula))
