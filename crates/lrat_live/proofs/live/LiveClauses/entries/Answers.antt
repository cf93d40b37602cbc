use Rattle.std.proofs.Common.{◌++◌, arith, length-append}
use Rattle.lrat_live.proofs.live.LiveClauses.entries.Goals as goal

pub returns : goal.returns
returns c =
    let s = c.self.inside in
    rw (← c.self.view_is) (omega (
      arith,
      length-append s.near.given (s.far ++ s.near.recent),
      length-append s.far s.near.recent,
    ))
