use Rattle.std.proofs.Common.{List, sym, ◌∙◌, subst}
use Rattle.analyze.specs.declared.marks.Mark.{Mark}
use Rattle.analyze.specs.Met.{AreVariables}
use Rattle.analyze.proofs.Fitting.{reason_live, reason_marked}
use Rattle.analyze.proofs.minimise.Minimiser.meet_reasons.Goals as goal

pub lits-lits-requires : goal.lits-lits-requires
lits-lits-requires c =
    reason_live c.args.engine.now c.args.store.now.slots c.min-variable.result c.in-Some.reason
    c.requires.fits.fits (sym c.reason.ensures ∙ c.in-Some.is)

pub take_in-requires-clause-has : goal.take_in-requires-clause-has
take_in-requires-clause-has c =
    reason_marked c.args.engine.now c.args.store.now.slots c.deref-marks.result.now
    c.min-variable.result c.in-Some.reason c.lits-lits.result.now
    (rw c.deref-marks.ensures.value c.requires.fits) (sym c.reason.ensures ∙ c.in-Some.is)
    c.lits-lits.ensures

pub returns-clause-named : goal.returns-clause-named
returns-clause-named c =
    subst (λ (ms : List Mark). AreVariables ms c.loop-lit.list.items) c.deref-marks.ensures.value
    c.loop-lit.invariant
