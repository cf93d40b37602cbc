use Rattle.propagate.proofs.Compacting.{attached_listed, reasons_listed}
use Rattle.propagate.proofs.engine.Engine.compact.Goals as goal

pub rename-requires-clause-listed : goal.rename-requires-clause-listed
rename-requires-clause-listed c =
    attached_listed c.args.self.now c.args.store.now.slots c.compact.new.self.slots
    c.in_ok-moves.moves c.requires.fits c.in_ok-moves.ensures.moves

pub rename-requires-clause-reasons : goal.rename-requires-clause-reasons
rename-requires-clause-reasons c =
    reasons_listed c.args.self.now c.args.store.now.slots c.compact.new.self.slots
    c.in_ok-moves.moves c.requires.fits c.in_ok-moves.ensures.moves

pub returns-clause-fits : goal.returns-clause-fits
returns-clause-fits c =
    c.rename.ensures.fits c.args.store.now.slots c.compact.new.self.slots
    c.in_ok-moves.ensures.moves c.requires.fits
