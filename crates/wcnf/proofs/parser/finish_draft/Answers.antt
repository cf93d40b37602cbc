-- The lines make an instance, or fewer clauses than the header says.
use Rattle.std.proofs.Common.{sym}
use Rattle.wcnf.proofs.FromLines.{reads_whole, whole_instance, whole_short}
use Rattle.wcnf.proofs.parser.finish_draft.Goals as goal

pub returns-in-Some-clause-fault : goal.returns-in-Some-clause-fault
returns-in-Some-clause-fault c =
    λ bytes e. whole_short bytes c.args.draft c.in-Some.line e (sym c.in-Some.ensures)

pub finish-requires : goal.finish-requires
finish-requires c = let (bytes, e) = c.requires in
    whole_instance bytes c.args.draft e (sym c.in-None.ensures)

pub returns-in-None-clause-instance : goal.returns-in-None-clause-instance
returns-in-None-clause-instance c =
    λ bytes e. rw c.finish.ensures (reads_whole bytes c.args.draft e (sym c.in-None.ensures))
