use Rattle.std.proofs.Common.{subst}
use Rattle.forms.specs.Answers.{MakesStageClauses}
use Rattle.forms.proofs.MadeClauses.{makes_clauses}
use Rattle.forms.proofs.state.Forms.clause_limits.Goals as goal

pub returns : goal.returns
returns c = subst MakesStageClauses c.self.view_is (makes_clauses c.self.inside c.self.invariant)
