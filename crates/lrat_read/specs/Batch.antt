-- Lines of a certificate that are read together.
use Rattle.std.specs.Prelude.{◌≡◌, ℕ, ◌<◌, ◌≤◌, Bool, List, [], ◌∷◌, ◌++◌, length, drop}
use Rattle.std.specs.Str.Lines.{strip_carriage_return}
use Rattle.text.specs.Text.{tokens_of, IsNoFeed}
use Rattle.lrat_read.specs.Reader.{IsReadAs}
use Rattle.cnf.specs.Literal.{Literal}
use Rattle.lrat_read.specs.Plain.{IsSpanWithin, line_in}
use Rattle.lrat_read.specs.declared.batch.NextLine.{NextLine}
use Rattle.lrat_read.specs.declared.line.ReadLine.{ReadLine}
use Rattle.lrat_read.specs.declared.plain.Used.{Used}

-- the bytes begin with a line and its line feed; this was read of the line, and that is left
pub record IsFirstRead (bytes : List ℕ) (r : ReadLine) (left : List ℕ) : Type 0 where
  pub line : List ℕ
  pub split : bytes ≡ line ++ 10 ∷ left
  pub no_feed : IsNoFeed line
  pub read : IsReadAs (tokens_of (strip_carriage_return line)) r.form r.line

-- the bytes are lines, each with its line feed, and this was read of each
abbrev pub AreRead : List ℕ → List ReadLine → Type 0
AreRead bytes [] = bytes ≡ []
AreRead bytes (r ∷ rs) = (left : List ℕ) × IsFirstRead bytes r left × AreRead left rs

-- the line that begins at a place of the text, and where its numbers stand in the buffers from
-- these places on
pub record IsNextRead (text : List ℕ) (at : ℕ) (lits : List Literal) (hints : List (Bool × ℕ))
    (used : Used) (n : NextLine) : Type 0 where
  pub read : IsFirstRead (drop at text) (line_in lits hints n.span) (drop n.end text)
  pub order : at < n.end
  pub end : n.end ≤ length text
  pub lits_start : used.lits ≤ (n.span).lits_start
  pub hints_start : used.hints ≤ (n.span).hints_start
  pub within : IsSpanWithin (length lits) (length hints) n.span
