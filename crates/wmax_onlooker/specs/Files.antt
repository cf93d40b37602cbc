-- Why a file cannot be read whole.
use Rattle.std.specs.Prelude.{◌≡◌, ◌⊎◌}
use Rattle.report_text.specs.declared.fault.RunFault.{RunFault}
use Rattle.report_text.specs.declared.fault.RunFault.TheVariants.{Memory, Read}
use Rattle.wcnf.specs.declared.faults.FaultKind.TheVariants.{Read as ReadKind}

-- refused memory, or that it cannot be opened or read, which is no fault of a line
abbrev pub IsFileFault : RunFault → Type 0
IsFileFault fault =
    (fault ≡ Memory) ⊎ (fault ≡ Read (record { kind = ReadKind; line = 0 }))
