-- The reconstruction stack in flat lists: eliminated variables with their clauses.
use Rattle.std.specs.Prelude.{◌≡◌, ℕ, ◌<◌, ◌≤◌, List, ◌++◌, length, map, All, slice_range}
use Rattle.cnf.specs.Literal.{Literal}
use Rattle.cnf.specs.declared.limits.TheConstants.{VARIABLE_LIMIT}
use Rattle.reconstruction.specs.declared.removals.Piece.{Piece}
use Rattle.reconstruction.specs.declared.removals.Gone.{Gone}
use Rattle.reconstruction.specs.Removals.{Removed}

abbrev pub clause_in : List Literal → Piece → List Literal
clause_in literals p = slice_range literals p.start p.end

abbrev pub clauses_at : List Literal → List Piece → List (List Literal)
clauses_at literals pieces = map (clause_in literals) pieces

abbrev pub one_removed : List Piece → List Literal → Gone → Removed
one_removed pieces literals g = record {
  variable = g.variable;
  clauses = clauses_at literals (slice_range pieces g.start g.end);
}

abbrev pub removed_in : List Gone → List Piece → List Literal → List Removed
removed_in gone pieces literals = map (one_removed pieces literals) gone

abbrev pub IsPieceWithin : ℕ → Piece → Type 0
IsPieceWithin count p = (p.start ≤ p.end) × (p.end ≤ count)

abbrev pub IsGone : ℕ → Gone → Type 0
IsGone count g =
    (0 < g.variable) × (g.variable < VARIABLE_LIMIT) × (g.start ≤ g.end) × (g.end ≤ count)

pub record AreRemovals (gone : List Gone) (pieces : List Piece) (literals : List Literal) : Type 0
  where
    pub each_gone : All (IsGone (length pieces)) gone
    pub each_piece : All (IsPieceWithin (length literals)) pieces

-- these clauses come after those before, in pieces and literals of their own
pub record AddsClauses (pieces after : List Piece) (literals longer : List Literal)
    (clauses : List (List Literal)) : Type 0 where
  pub more : List Piece
  pub more_literals : List Literal
  pub pieces_are : after ≡ pieces ++ more
  pub literals_are : longer ≡ literals ++ more_literals
  pub within : All (IsPieceWithin (length longer)) more
  pub clauses_are : clauses_at longer more ≡ clauses
