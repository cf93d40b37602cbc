use Rattle.clauses.proofs.Renaming.{brought_together, room_of_store}
use Rattle.clauses.proofs.store.Store.move_together.Goals as goal

pub returns-clause-together : goal.returns-clause-together
returns-clause-together c =
    rw (← c.self.view_is)
    (brought_together c.self.inside.literals.items c.compact.new.literals.items
    c.self.inside.heads c.compact.new.heads c.compact.ensures.live c.compact.ensures.clauses)

pub returns-clause-used : goal.returns-clause-used
returns-clause-used c =
    room_of_store c.compact.new.literals.items c.compact.new.heads c.compact.ensures.laid
    c.compact.ensures.live
