use Rattle.std.proofs.Common.{◌+◌, arith, take, drop}
use Rattle.std.proofs.lemmas.List.{length-drop, length-take-le}
use Rattle.lrat_live.proofs.SpanLaws.{spanned-le}
use Rattle.lrat_live.proofs.near.Near.entries.Goals as goal

pub returns-clause-all : goal.returns-clause-all
returns-clause-all c =
    let s = c.self.inside in
    let ss = s.spans.items in
    rw (← c.self.view_is) (omega (
      arith,
      spanned-le s.lits.items 0 (take (s.given + 1) ss),
      spanned-le s.lits.items (s.given + 1 + s.gap) (drop (s.given + 1) ss),
      length-take-le (s.given + 1) ss c.self.invariant.covers,
      length-drop (s.given + 1) ss,
      s.spans.ok.0,
      c.self.invariant.covers,
    ))
