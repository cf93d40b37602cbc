use Rattle.lrat_machine.proofs.Judged.{addition_applied}
use Rattle.lrat_machine.proofs.machine.apply_line.Goals as goal

pub returns-in-Deletion-false-clause-base : goal.returns-in-Deletion-false-clause-base
returns-in-Deletion-false-clause-base c =
    c.delete_all.ensures.base c.args.scratch.now.assumed.variables c.args.base.now.last c.requires

pub returns-in-Addition-false-clause-applied : goal.returns-in-Addition-false-clause-applied
returns-in-Addition-false-clause-applied c =
    addition_applied c.args.form c.args.line.now c.args.base.now c.add.new.base c.add.result
    c.in-Addition-false.is-0 c.in-Addition-false.is-1 c.requires.up_to c.add.ensures.fault
    c.add.ensures.added c.add.ensures.err
