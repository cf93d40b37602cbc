use Rattle.std.proofs.Common.{ap}
use Rattle.cdcl_search.proofs.EngineMoves.{runs_chosen}
use Rattle.cdcl_search.proofs.axioms.take_axiom.Goals as goal

pub returns-in-Some-clause-takes : goal.returns-in-Some-clause-takes
returns-in-Some-clause-takes c = λ p ls r.
    runs_chosen c.attach_axiom.new.search c.note_learned.new.self p _
    (ap (λ x. x.variables) c.note_learned.ensures.same_view)
    (c.in_ok-reference.ensures.takes p ls r)

pub returns-in-None-clause-takes : goal.returns-in-None-clause-takes
returns-in-None-clause-takes c = λ p ls r.
    runs_chosen c.attach_axiom.new.search c.note_kept.new.self p _
    (ap (λ x. x.variables) c.note_kept.ensures.same_view)
    (c.in_ok-reference.ensures.takes p ls r)
