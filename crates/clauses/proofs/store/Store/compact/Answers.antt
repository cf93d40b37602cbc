use Rattle.std.proofs.Common.{◌∙◌, ap}
use Rattle.clauses.specs.Heads.{slots_of}
use Rattle.clauses.specs.Slots.{StoreState, moves_of}
use Rattle.clauses.proofs.Renaming.{moves_rise, renamed_together}
use Rattle.clauses.proofs.store.Store.compact.Goals as goal

pub invariant_of-result : goal.invariant_of-result
invariant_of-result c =
    moves_rise (slots_of c.self.inside.literals.items c.self.inside.heads) c.in_ok-pairs.pairs.items
    (c.in_ok-pairs.ensures c.self.inside.literals.items)

pub returns-clause-moves : goal.returns-clause-moves
returns-clause-moves c =
    renamed_together c.args.self.now.slots c.move_together.new.self.slots c.in_ok-pairs.pairs.items
    c.move_together.ensures.together
    (c.in_ok-pairs.ensures c.self.inside.literals.items
    ∙ ap (λ (s : StoreState). moves_of s.slots) c.self.view_is)
