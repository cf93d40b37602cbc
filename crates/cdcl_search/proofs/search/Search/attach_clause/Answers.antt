use Rattle.std.proofs.Common.{ap, sym, subst, ◌∙◌}
use Rattle.propagate.specs.Watches.{is_attached}
use Rattle.propagate.specs.Fits.{Fits}
use Rattle.propagate.proofs.Laws.{fits_added, new_is_detached}
use Rattle.cdcl_search.proofs.Placing.{new_live, new_within}
use Rattle.cdcl_search.proofs.search.Search.attach_clause.Goals as goal

pub attach-requires-clause-fits : goal.attach-requires-clause-fits
attach-requires-clause-fits c =
    subst (Fits c.args.self.now.engine) (sym (ap (λ s. s.slots) c.in_ok-reference.ensures.ok))
    (fits_added c.args.self.now.engine (c.args.self.now.store).slots c.args.lits.now
    c.requires.ready.searches.fits)

pub attach-requires-clause-live : goal.attach-requires-clause-live
attach-requires-clause-live c =
    new_live (c.args.self.now.store).slots c.add.new.self.slots c.args.lits.now
    c.in_ok-reference.reference (ap (λ s. s.slots) c.in_ok-reference.ensures.ok)
    c.in_ok-reference.ensures.reference

pub attach-requires-clause-small : goal.attach-requires-clause-small
attach-requires-clause-small c =
    new_within (c.args.self.now.store).slots c.add.new.self.slots c.args.lits.now
    c.in_ok-reference.reference (c.args.self.now.engine).variables
    (ap (λ s. s.slots) c.in_ok-reference.ensures.ok) c.in_ok-reference.ensures.reference
    c.requires.within

pub attach-requires-clause-once : goal.attach-requires-clause-once
attach-requires-clause-once c =
    ap (is_attached c.args.self.now.engine) c.in_ok-reference.ensures.reference
    ∙ new_is_detached c.args.self.now.engine (c.args.self.now.store).slots
    c.requires.ready.searches.fits
