-- Why a certificate cannot go on, and the exit statuses of a run that there is not.
use Rattle.std.specs.Prelude.{ℕ}
use Rattle.cuts_earlier.specs.declared.earlier.CannotResume.{CannotResume}
use Rattle.cuts_earlier.specs.declared.earlier.CannotResume.TheVariants.{Lacking, Unfit}
use Rattle.wmax_opening.specs.declared.refusals.KeptFileFault.{KeptFileFault}
use Rattle.wmax_opening.specs.declared.refusals.KeptFileFault.TheVariants.{Taken, Other}
use Rattle.wmax_opening.specs.declared.refusals.KeptFileFault.TheVariants.{Unwritable}
use Rattle.wmax_opening.specs.declared.refusals.ResumeFault.{ResumeFault}
use Rattle.wmax_opening.specs.declared.refusals.ResumeFault.TheVariants.{Lacking as Needs}
use Rattle.wmax_opening.specs.declared.refusals.ResumeFault.TheVariants.{Unfit as Refused}

-- a mistake of the command line, or a file that fails
abbrev pub kept_status : KeptFileFault → ℕ
kept_status Taken = 2
kept_status Other = 2
kept_status Unwritable = 3

-- a run says the same of a certificate, and asks for a solution of the same cost
abbrev pub resume_fault : CannotResume → ResumeFault
resume_fault (Lacking cost) = Needs cost
resume_fault Unfit = Refused
