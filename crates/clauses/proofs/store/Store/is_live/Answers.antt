use Rattle.clauses.proofs.Stored.{live_by_flag}
use Rattle.clauses.proofs.store.Store.is_live.Goals as goal

pub returns : goal.returns
returns c =
    let by_flag =
    live_by_flag c.self.inside.literals.items c.self.inside.heads c.reference.inside.place in
    rw (← c.self.view_is, ← c.reference.view_is) (
      λ t. by_flag.0 (c.is_live.ensures.0 t),
      λ live. c.is_live.ensures.1 (by_flag.1 live),
    )
