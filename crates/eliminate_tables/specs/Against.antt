-- How clauses lie against a marked one.
use Rattle.std.specs.Prelude.{◌≡◌, Bool, true, not, if◌then◌else◌}
use Rattle.std.specs.Prelude.{List, [], ◌∷◌, Option, Some, None, filter}
use Rattle.cnf.specs.Literal.{Literal, negation}
use Rattle.cnf.specs.Clause.{contains_literal, without_literal}
use Rattle.cnf.specs.Marks.{mark_of, are_marked}
use Rattle.eliminate_tables.specs.declared.against.Against.{Against}
use Rattle.eliminate_tables.specs.declared.against.Against.TheVariants.{Apart, Within, ButFor}

-- the literals of a clause that are not marked
abbrev pub unmarked : List Bool → List Literal → List Literal
unmarked marks c = filter (λ l. not (mark_of marks l)) c

-- how a clause lies of which these literals are not marked: the negation of a single one may be
abbrev pub against_without : List Bool → List Literal → Against
against_without marks [] = Within
against_without marks (l ∷ []) = if mark_of marks (negation l) then ButFor l else Apart
against_without marks (k ∷ l ∷ c) = Apart

-- how a clause lies against the marked one
abbrev pub against_of : List Bool → List Literal → Against
against_of marks c = against_without marks (unmarked marks c)

-- what the answer shows: the literals are all marked; or all but one, whose negation is
abbrev pub LiesAgainst : List Bool → List Literal → Against → Type 0
LiesAgainst marks c Apart = Unit {0}
LiesAgainst marks c Within = are_marked marks c ≡ true
LiesAgainst marks c (ButFor l) = (contains_literal l c ≡ true)
    × (mark_of marks (negation l) ≡ true) × (are_marked marks (without_literal l c) ≡ true)

-- the literal but for which a clause is within another one
abbrev pub but_for : Against → Option Literal
but_for Apart = None
but_for Within = None
but_for (ButFor l) = Some l
