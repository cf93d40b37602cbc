-- The lines up to one end where its head says.
use Rattle.lrat_log.proofs.Flat.{lits_before-last, hints_before-last}
use Rattle.lrat_log.proofs.log.find_ends.Goals as goal

pub returns-clause-lits : goal.returns-clause-lits
returns-clause-lits c =
    lits_before-last c.args.heads.now c.args.count c.get-head.result c.if-count-eq0.false c.requires
    c.get-head.ensures

pub returns-clause-hints : goal.returns-clause-hints
returns-clause-hints c =
    hints_before-last c.args.heads.now c.args.count c.get-head.result c.if-count-eq0.false
    c.requires c.get-head.ensures
