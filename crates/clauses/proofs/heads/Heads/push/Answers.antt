use Rattle.std.proofs.Common.{[], ◌∷◌}
use Rattle.clauses.specs.Heads.{head_of}
use Rattle.clauses.proofs.Zipped.{zipped-append}
use Rattle.clauses.proofs.heads.Heads.push.Goals as goal

pub returns-clause-ok : goal.returns-clause-ok
returns-clause-ok c =
    rw (
      ← c.self.view_is,
      c.in_ok-push-2.ensures.items,
      c.in_ok-push.ensures.items,
      c.in_ok-reserve.ensures.items,
    ) (zipped-append head_of _ (_ ∷ []) _ (_ ∷ []) c.self.invariant)
