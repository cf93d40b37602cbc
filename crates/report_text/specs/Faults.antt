-- Faults of reading and of encoding as faults of a run.
use Rattle.std.specs.Prelude.{◌≡◌, ◌⊎◌}
use Rattle.wcnf.specs.declared.faults.ReadFault.{ReadFault}
use Rattle.wcnf.specs.declared.faults.FaultKind.TheVariants.{Memory as MemoryKind}
use Rattle.report_text.specs.declared.fault.RunFault.{RunFault}
use Rattle.bound.specs.declared.encoding.EncodeFault.{EncodeFault}
use Rattle.bound.specs.declared.encoding.EncodeFault.TheVariants.{Memory as NoMemory}
use Rattle.bound.specs.declared.encoding.EncodeFault.TheVariants.{Output as NoOutput}
use Rattle.report_text.specs.declared.fault.RunFault.TheVariants.{Read, Memory, Output}

-- want of memory is a fault of its own
abbrev pub IsRunFault : ReadFault → RunFault → Type 0
IsRunFault f g =
    ((f.kind ≡ MemoryKind) × (g ≡ Memory)) ⊎ ((f.kind ≡ MemoryKind → ⊥) × (g ≡ Read f))

abbrev pub encode_fault : EncodeFault → RunFault
encode_fault NoMemory = Memory
encode_fault NoOutput = Output
