-- The lines of a log of forms and cuts, and how they are spelled.
use Rattle.std.specs.Prelude.{ℕ, ◌+◌, List, [], ◌∷◌, map, Option}
use Rattle.std.specs.List.{flat_map}
use Rattle.cnf.specs.Literal.{Literal}
use Rattle.cnf.specs.Problem.{Problem}
use Rattle.text.specs.LratText.{line_tokens}
use Rattle.text.specs.Writing.{joined, spaced}
use Rattle.lrat_log.specs.Log.{LogLine, axiom_line, numbered_line}
use Rattle.lrat_log.specs.Steps.{added_count}
use Rattle.lrat_read.specs.Words.{WordLine}
use Rattle.lrat_read.specs.WordTokens.{word_tokens}
use Rattle.lrat_cuts.specs.Cuts.{CutsState}

pub data Event : Type 0 where
  -- an addition or a deletion
  Plain : LogLine → Event
  -- a line that begins with a word, and the clauses that it makes
  Word : WordLine → List (List Literal) → Event

-- what a log has seen
pub record TraceState : Type 0 where
  pub problem : Problem
  -- what the checker has before the first line
  pub start : CutsState
  -- what the writer had at first, if it is known
  pub origin : Option (List ℕ)
  -- the lines so far
  pub events : List Event

-- the lines that a search sees: a clause that a word makes comes from outside
abbrev pub lines_in : Event → List LogLine
lines_in (Plain l) = l ∷ []
lines_in (Word w made) = map axiom_line made

abbrev pub lines_of : List Event → List LogLine
lines_of es = flat_map lines_in es

-- the tokens of a line, where `before` clauses were added before it
abbrev pub tokens_at : ℕ → ℕ → Event → List (List ℕ)
tokens_at base before (Plain l) = line_tokens (numbered_line base before l)
tokens_at base before (Word w made) = word_tokens w

abbrev pub tokens_on : ℕ → ℕ → List Event → List (List (List ℕ))
tokens_on base before [] = []
tokens_on base before (e ∷ es) =
    tokens_at base before e ∷ tokens_on base (before + added_count (lines_in e)) es

-- the text of the lines, where `before` clauses were added before the first one
abbrev pub text_of : ℕ → ℕ → List Event → List ℕ
text_of base before es = flat_map spaced (tokens_on base before es)

-- the text of the first of them, without its line feed
abbrev pub open_text : ℕ → ℕ → List Event → List ℕ
open_text base before [] = []
open_text base before (e ∷ es) = joined (tokens_at base before e)
