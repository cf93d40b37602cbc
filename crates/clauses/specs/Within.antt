-- Literals among others.
use Rattle.std.specs.Prelude.{◌≡◌, true, List}
use Rattle.cnf.specs.Literal.{Literal}
use Rattle.cnf.specs.Clause.{contains_literal}

-- each literal of B is one of A
abbrev pub Within : List Literal → List Literal → Type 0
Within B A = (l : Literal) → contains_literal l B ≡ true → contains_literal l A ≡ true
