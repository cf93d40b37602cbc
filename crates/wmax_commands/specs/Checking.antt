-- Which of two faults is told, where a certificate is tried in each profile.
use Rattle.std.specs.Prelude.{ℕ, Bool, not, ◌&&◌, ◌||◌, Option, Some, None, nat_le, ◌==◌}
use Rattle.std.specs.Prelude.{if◌then◌else◌}
use Rattle.wmax_commands.specs.declared.checking.CertificateFault.{CertificateFault}

-- Whether the first line is as far down as the second. Line 0 is the end, behind all others.
abbrev pub is_as_far : ℕ → ℕ → Bool
is_as_far first second = (first == 0) || (not (second == 0) && nat_le second first)

-- the one that stands further down; the first where neither does
abbrev pub later : Option CertificateFault → CertificateFault → CertificateFault
later None second = second
later (Some first) second = if is_as_far first.line second.line then first else second
