-- Faults that name no line.
use Rattle.std.specs.Prelude.{◌≡◌, ℕ}
use Rattle.lrat_machine.specs.declared.verdicts.Cause.{Cause}
use Rattle.lrat_plain.specs.declared.faults.PlainFault.{PlainFault}
use Rattle.lrat_plain.specs.declared.faults.PlainFault.TheVariants.{Line}

abbrev pub IsNoLine : PlainFault → Type 0
IsNoLine fault = (cause : Cause) (line : ℕ) → fault ≡ Line cause line → ⊥
