-- Where a log starts: before the first line of a certificate, or behind lines that the checker has
-- judged, with which it goes on.
use Rattle.std.specs.Prelude.{◌≡◌, ℕ, zero, suc, ◌+◌, ◌-◌, ◌<◌, ◌≤◌, false, List, [], ◌∷◌, ◌++◌}
use Rattle.std.specs.Prelude.{length, Option, Some, None, Ok}
use Rattle.cnf.specs.Literal.{Literal}
use Rattle.cnf.specs.Problem.{Problem}
use Rattle.cnf.specs.Refute.{Clauses}
use Rattle.bound.specs.Weighted.{weighted_cnf}
use Rattle.lrat_live.specs.Listed.{listed_at}
use Rattle.lrat_log.specs.declared.lines.Hint.TheVariants.{Plain}
use Rattle.lrat_log.specs.declared.lines.Kind.TheVariants.{Delete}
use Rattle.lrat_log.specs.declared.lines.Name.TheVariants.{Added}
use Rattle.lrat_log.specs.Log.{LogLine, axiom_line}
use Rattle.lrat_log.specs.Steps.{AddsNoEmptyClause}
use Rattle.lrat_cuts.specs.Cuts.{CutsState, cuts_start, judged_lines}
use Rattle.cuts_log.specs.Given.{AreLive, all_live}

-- it stands for a clause that came and went
abbrev pub stand_in : List Literal
stand_in = record { variable = 1; negated = false } ∷ []

abbrev pub deletion_line : ℕ → LogLine
deletion_line j = record { kind = Delete; clause = []; hints = Plain (Added j) ∷ [] }

-- the addition with this number, whose clause is live, or came and went
abbrev pub lines_for : Option (List Literal) → ℕ → List LogLine
lines_for (Some c) j = axiom_line c ∷ []
lines_for None j = axiom_line stand_in ∷ deletion_line j ∷ []

-- the first n additions, of which these are live
abbrev pub lines_before : Clauses → ℕ → List LogLine
lines_before at zero = []
lines_before at (suc n) = lines_before at n ++ lines_for (at (suc n)) (suc n)

-- what is live of the additions, by their numbers
abbrev pub added_at : ℕ → CutsState → Clauses
added_at base s j = listed_at s.live (base + j)

-- what has led the checker there, as a search sees it: each clause came from outside
abbrev pub earlier_lines : ℕ → CutsState → List LogLine
earlier_lines base s = lines_before (added_at base s) (s.last - base)

-- some lines lead the checker there, whatever their cuts hold for
abbrev pub IsReached : Problem → CutsState → Type 0
IsReached p s = (lines : List (List (List ℕ))) × (judged_lines None (cuts_start p) 1 lines ≡ Ok s)

-- a log can go on there, over a formula with these clauses; `lines` lines stand for what has led
-- there
pub record IsResumable (s : CutsState) (clauses : List (List Literal)) (lines : ℕ) : Type 0 where
  pub formula : AreLive (all_live clauses) s.live
  pub last : length clauses ≤ s.last
  pub count : lines ≡ length (earlier_lines (length clauses) s)
  pub unrefuted : AddsNoEmptyClause (earlier_lines (length clauses) s)

-- a log may start there
pub record IsStart (p : Problem) (s : CutsState) : Type 0 where
  pub reached : IsReached p s
  pub open_end : s.ended ≡ false
  -- each cut holds for some cost
  pub some : 0 < s.worth
  -- the whole formula is live
  pub formula : AreLive (all_live (weighted_cnf p).clauses) s.live
  pub last : length (weighted_cnf p).clauses ≤ s.last
  pub unrefuted : AddsNoEmptyClause (earlier_lines (length (weighted_cnf p).clauses) s)
