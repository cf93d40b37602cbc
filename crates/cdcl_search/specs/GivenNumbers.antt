-- The clauses given, under their numbers.
use Rattle.std.specs.Prelude.{ℕ, List, ◌++◌}
use Rattle.std.specs.List.{range_with_len}
use Rattle.cnf.specs.Literal.{Literal}
use Rattle.lrat_log.specs.declared.lines.Name.{Name}
use Rattle.lrat_log.specs.declared.lines.Name.TheVariants.{Formula}

-- a clause of the formula under its number
abbrev pub given_as : ℕ → List Literal → Name × List Literal
given_as number c = (Formula number, c)

-- `first` numbers from 1 on, and then those of later clauses
abbrev pub numbers_with : ℕ → List ℕ → List ℕ
numbers_with first later = range_with_len 1 first ++ later
