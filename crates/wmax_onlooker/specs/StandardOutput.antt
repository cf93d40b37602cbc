-- Whether a write failed since nobody reads any more.
use Rattle.std.specs.Prelude.{Bool, true, false, Result, Ok, Err}
use Rattle.std.specs.IoError.{error_kind}
use Rattle.std.specs.declared.io.Error.{Error}
use Rattle.std.specs.declared.io.ErrorKind.{ErrorKind}
use Rattle.std.specs.declared.io.ErrorKind.TheVariants.{BrokenPipe}

abbrev pub is_broken_pipe : ErrorKind → Bool
is_broken_pipe BrokenPipe = true
is_broken_pipe _ = false

-- the pipe has no reader left
abbrev pub is_for_closing : {T : Type 0} → Result T Error → Bool
is_for_closing (Ok x) = false
is_for_closing (Err error) = is_broken_pipe (error_kind error)
