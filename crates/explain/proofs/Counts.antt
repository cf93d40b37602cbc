-- What there is of an instance.
use Rattle.std.proofs.Common.{◌≡◌, ℕ, length, sum_by, refl}
use Rattle.cnf.specs.Problem.{Problem, SoftClause}
use Rattle.explain.specs.Summary.{counts_text, summary_text}

pub counted : (p : Problem) (variables hard soft weights : ℕ) → variables ≡ p.variables
    → hard ≡ length p.hard → soft ≡ length p.soft
    → weights ≡ sum_by (λ (s : SoftClause). s.weight) p.soft
    → counts_text variables hard soft weights ≡ summary_text p
counted p variables hard soft weights v h s w = rw (v, h, s, w) refl
