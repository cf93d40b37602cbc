use Rattle.std.proofs.Common.{arith}
use Rattle.clauses.specs.Heads.{head_of}
use Rattle.clauses.proofs.Zipped.{length-zipped}
use Rattle.clauses.proofs.heads.Heads.len.Goals as goal

pub returns : goal.returns
returns c =
    rw (← c.self.view_is) (omega (
      arith,
      c.len.ensures,
      length-zipped head_of _ _ c.self.invariant,
      c.self.inside.spans.ok.0,
    ))
