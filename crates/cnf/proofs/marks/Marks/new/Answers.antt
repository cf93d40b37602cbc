-- The first stamp has not been given.
use Rattle.std.proofs.Common.{◌∙◌, ap, map, arith}
use Rattle.std.specs.Prelude.{◌==◌}
use Rattle.cnf.proofs.Unstamped.{unused}
use Rattle.cnf.proofs.marks.Marks.new.Goals as goal

pub returns-clause-none : goal.returns-clause-none
returns-clause-none c = ap (map (λ s. s == 1)) c.in_ok-stamps.ensures ∙ unused 1 _ (omega arith)
