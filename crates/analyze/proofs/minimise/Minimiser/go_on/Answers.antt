use Rattle.std.proofs.Common.{sym, ◌∙◌}
use Rattle.analyze.proofs.Fitting.{reason_live, reason_marked}
use Rattle.analyze.proofs.minimise.Minimiser.go_on.Goals as goal

pub lits-requires : goal.lits-requires
lits-requires c =
    reason_live c.args.engine.now c.args.store.now.slots c.min-variable.result c.in-Some.reason
    c.requires.fits (sym c.reason.ensures ∙ c.in-Some.is)

pub look-requires : goal.look-requires
look-requires c =
    reason_marked c.args.engine.now c.args.store.now.slots c.args.marks.now c.min-variable.result
    c.in-Some.reason c.lits.result.now c.requires (sym c.reason.ensures ∙ c.in-Some.is)
    c.lits.ensures
