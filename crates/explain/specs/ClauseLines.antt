-- The lines of a text that are clauses, with the comments above them.
use Rattle.std.specs.Prelude.{ℕ, List}

-- a clause as the text has it; the comment is empty where there is none
pub record SourceLine : Type 0 where
  pub number : ℕ
  pub text : List ℕ
  pub comment : List ℕ
