use Rattle.std.proofs.Common.{arith}
use Rattle.clauses.specs.Heads.{head_of}
use Rattle.clauses.proofs.Zipped.{length-zipped, zipped-set}
use Rattle.clauses.proofs.heads.Heads.set.Goals as goal

pub index_mut-requires : goal.index_mut-requires
index_mut-requires c =
    let within = rw (← c.self.view_is) at c.requires in
    omega (arith, within, length-zipped head_of _ _ c.self.invariant, c.self.inside.spans.ok.0)

pub index_mut-requires-2 : goal.index_mut-requires-2
index_mut-requires-2 c =
    let within = rw (← c.self.view_is) at c.requires in
    omega (
      arith,
      within,
      length-zipped head_of _ _ c.self.invariant,
      c.self.invariant,
      c.self.inside.live.ok.0,
    )

pub returns : goal.returns
returns c = rw (← c.self.view_is) (zipped-set head_of _ _ _ _ _)
