use Rattle.clauses.specs.Heads.{head_of}
use Rattle.clauses.proofs.Zipped.{zipped-take}
use Rattle.clauses.proofs.heads.Heads.truncate.Goals as goal

pub returns : goal.returns
returns c =
    rw (← c.self.view_is, c.truncate.ensures.items, c.truncate-2.ensures.items)
    (zipped-take head_of _ _ _)
