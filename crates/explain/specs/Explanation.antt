-- What is explained of a result: which lines are written, and whether the bits are right.
use Rattle.std.specs.Prelude.{ℕ, ◌+◌, List, [], ◌∷◌, ◌++◌}
use Rattle.std.specs.Prelude.{Option, Some, None, ◌==◌, if◌then◌else◌, slice_get}
use Rattle.std.specs.Fmt.{decimal}
use lib.Chars.{codes}
use Rattle.explain.specs.declared.falsified.GivenUp.{GivenUp}
use Rattle.explain.specs.ClauseLines.{SourceLine}
use Rattle.explain_text.specs.Showing.{shown_text}

abbrev pub comment_text : List ℕ → List ℕ
comment_text [] = []
comment_text (b ∷ bs) = codes "    " ++ (shown_text (b ∷ bs) ++ codes "\n")

-- a line of the text with its number, and the comment above it
abbrev pub source_text : SourceLine → List ℕ
source_text c =
    codes "line " ++ (decimal c.number ++ (codes ": " ++ (shown_text c.text ++ (codes "\n"
    ++ comment_text c.comment))))

abbrev pub source_text_at : List SourceLine → ℕ → List ℕ
source_text_at lines place = by (slice_get lines place)
  where
    by : Option SourceLine → List ℕ
    by None = []
    by (Some c) = source_text c

-- the cost, and what was told where that is another
abbrev pub told_text : ℕ → ℕ → List ℕ
told_text cost told =
    if cost == told then [] else codes ", where the result says " ++ decimal told

abbrev pub cost_line : ℕ → ℕ → List ℕ
cost_line cost told = codes "cost " ++ (decimal cost ++ (told_text cost told ++ codes "\n"))

abbrev pub count_line : ℕ → ℕ → List ℕ
count_line count all =
    codes "given up: " ++ (decimal count ++ (codes " of " ++ (decimal all
    ++ codes " soft clauses\n")))

-- a soft clause that is given up, where this is paid up to it
abbrev pub paid_line : ℕ → ℕ → List ℕ → List ℕ
paid_line weight paid source =
    codes "+ " ++ (decimal weight ++ (codes " = " ++ (decimal paid ++ (codes ", " ++ source))))

-- all of them, where this is paid before the first
abbrev pub paid_lines : List SourceLine → ℕ → List GivenUp → List ℕ
paid_lines soft paid [] = []
paid_lines soft paid (g ∷ gs) =
    paid_line g.weight (paid + g.weight) (source_text_at soft g.place)
    ++ paid_lines soft (paid + g.weight) gs

abbrev pub broken_line : SourceLine → List ℕ
broken_line c = codes "broken, hard, " ++ source_text c

-- there are too few or too many bits
abbrev pub bits_line : ℕ → ℕ → List ℕ
bits_line bits variables =
    codes "the result has " ++ (decimal bits ++ (codes " bits, and the instance "
    ++ (decimal variables ++ codes " variables\n")))
