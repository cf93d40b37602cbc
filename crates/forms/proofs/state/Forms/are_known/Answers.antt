use Rattle.std.proofs.Common.{length, arith}
use Rattle.forms.proofs.Knowing.{known_places}
use Rattle.forms.proofs.state.Forms.are_known.Goals as goal

pub repeats_variable-requires : goal.repeats_variable-requires
repeats_variable-requires c =
    known_places c.self.inside.variables (length c.self.inside.marks) c.args.lits.now
    c.self.invariant.marks (omega arith) c.greatest_variable.ensures.from_one
