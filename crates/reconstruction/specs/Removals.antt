-- The reconstruction stack: eliminated variables with their clauses, and how they get their values
-- back.
use Rattle.std.specs.Prelude.{ℕ, ◌-◌, Bool, not, ◌&&◌, List, [], ◌∷◌, slice_set, ◌==◌}
use Rattle.std.specs.List.{list_any}
use Rattle.cnf.specs.Literal.{Literal, Assignment, literal_value}
use Rattle.cnf.specs.Clause.{contains_literal, without_literal}
use Rattle.cnf.specs.Bits.{assignment_of}
pub use Rattle.cnf.specs.Literal.{positive}

-- a variable and the clauses that were removed with it
pub record Removed : Type 0 where
  pub variable : ℕ
  pub clauses : List (List Literal)

-- the clause has the literal, and is otherwise false
abbrev pub is_needed : Assignment → Literal → List Literal → Bool
is_needed t l c = contains_literal l c && not (list_any (literal_value t) (without_literal l c))

-- some removed clause with the variable is otherwise false
abbrev pub becomes_true : Assignment → Removed → Bool
becomes_true t r = list_any (is_needed t (positive r.variable)) r.clauses

-- the eliminated variables get their values, the last eliminated first
abbrev pub extended : List Removed → List Bool → List Bool
extended [] bits = bits
extended (r ∷ rs) bits = slice_set (extended rs bits) (r.variable - 1)
    (becomes_true (assignment_of (extended rs bits)) r)

abbrev pub is_eliminated : List Removed → ℕ → Bool
is_eliminated removed v = list_any (λ r. r.variable == v) removed
