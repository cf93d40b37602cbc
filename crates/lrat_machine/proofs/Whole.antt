-- What a verdict on a whole certificate means.
use Rattle.std.proofs.Common.{◌≡◌, ℕ, List, sym, subst}
use Rattle.std.specs.Prelude.{◌↔◌}
use Rattle.cnf.specs.Formula.{Cnf, IsFormula, IsUnsatisfiable}
use Rattle.cnf.proofs.Laws.{certificate_sound}
use Rattle.lrat_machine.specs.Proofs.{IsProofOver}
use Rattle.lrat_machine.specs.declared.verdicts.Verdict.{Verdict}
use Rattle.lrat_machine.specs.declared.verdicts.Verdict.TheVariants.{Yes}
use Rattle.lrat_machine.specs.Verdict.{proof_verdict}
use Rattle.lrat_machine.proofs.Proofs.{proof_verdict-IsFormula}

pub yes_is_proof : (f : Cnf) (text : List ℕ) (v : Verdict) → IsFormula f
    → v ≡ proof_verdict f.clauses text → (v ≡ Yes) ↔ IsProofOver f.clauses text
yes_is_proof f text v h e =
    subst (λ w. (w ≡ Yes) ↔ IsProofOver f.clauses text) (sym e) (proof_verdict-IsFormula f h text)

pub yes_is_sound : (f : Cnf) (text : List ℕ) (v : Verdict) → IsFormula f
    → v ≡ proof_verdict f.clauses text → v ≡ Yes → IsUnsatisfiable f.clauses
yes_is_sound f text v h e y = let p = (yes_is_proof f text v h e).0 y in
    certificate_sound f.clauses p.0 p.2
