-- Worked certificates.
use Rattle.std.specs.Prelude.{◌≡◌, ℕ, List, [], ◌∷◌, ◌++◌, map, Option, Some, None}
use Rattle.std.specs.Prelude.{Result, Ok, Err, refl, Bool, true, false}
use lib.Chars.{codes}
use Rattle.cnf.specs.Literal.{positive as p, negative as n}
use Rattle.cnf.specs.Problem.{Problem}
use Rattle.text.specs.Text.{tokens_of}
use Rattle.lrat_read.specs.Words.{NamedFact}
use Rattle.lrat_machine.specs.declared.verdicts.Cause.{Cause}
use Rattle.lrat_machine.specs.declared.verdicts.Cause.TheVariants.{CutWorth, LineName, LineForm}
use Rattle.lrat_machine.specs.declared.verdicts.Cause.TheVariants.{TrailingLine, NoConflict}
use Rattle.lrat_machine.specs.declared.verdicts.Cause.TheVariants.{NoEmptyClause}
use Rattle.lrat_machine.specs.declared.verdicts.Verdict.TheVariants.{Yes, No}
use Rattle.lrat_cuts.specs.Cuts.{CutsState, cuts_start, judged_lines}
use Rattle.lrat_cuts.specs.LastForm.{form_facts}
use Rattle.lrat_cuts.specs.Verdict.{cuts_lower, cuts_verdict, ended_part}
use Rattle.lrat_cuts.specs.declared.verdicts.LowerVerdict.TheVariants.{AtLeast}
use Rattle.lrat_cuts.specs.declared.verdicts.LowerVerdict.TheVariants.{No as NotRight}

-- one of both is needed; the first costs 3, the second 4
abbrev shop : Problem
shop = record {
  variables = 2;
  hard = (p 1 ∷ p 2 ∷ []) ∷ [];
  soft =
      record { weight = 3; clause = n 1 ∷ [] } ∷ record { weight = 4; clause = n 2 ∷ [] } ∷ [];
}

-- the greatest bound that was proved, where all lines are right
abbrev proved : Option ℕ → List (List ℕ) → Result ℕ (Cause × ℕ)
proved cost lines = by (judged_lines cost (cuts_start shop) 1 (map tokens_of lines))
  where
    by : Result CutsState (Cause × ℕ) → Result ℕ (Cause × ℕ)
    by (Err e) = Err e
    by (Ok s) = Ok s.proved

three : proved (Some 3) (codes "form 1 3 1 0" ∷ codes "cut 0" ∷ []) ≡ Ok 3
three = refl

found : proved (Some 3)
    (codes "form 1 0" ∷ codes "cut -2 0" ∷ codes "3 1 0 2 1 0" ∷ codes "cut 0" ∷ []) ≡ Ok 3
found = refl

four : proved (Some 4) (codes "form 1 3 1 0" ∷ codes "cut 0" ∷ []) ≡ Err (CutWorth, 2)
four = refl

none : proved None (codes "form 1 3 1 0" ∷ codes "bound 2 0" ∷ []) ≡ Ok 2
none = refl

dear : proved None (codes "form 1 3 1 0" ∷ codes "bound 4 0" ∷ []) ≡ Err (CutWorth, 2)
dear = refl

dead : proved None (codes "form 1 3 2 0" ∷ []) ≡ Err (LineName, 1)
dead = refl

open_line : proved None (codes "form 1 3 1" ∷ []) ≡ Err (LineForm, 1)
open_line = refl

trailing : proved None (codes "form 1 3 1 0" ∷ codes "cut 0" ∷ [] ∷ codes "cut 0" ∷ [])
    ≡ Err (TrailingLine, 4)
trailing = refl

-- no RAT line
no_rat : proved None (codes "2 3 1 0 0" ∷ []) ≡ Err (NoConflict, 1)
no_rat = refl

-- whole texts
abbrev two_lines : List ℕ
two_lines = codes "form 1 3 1 0" ++ 10 ∷ codes "cut 0"

is_right : cuts_verdict (Some 3) shop two_lines ≡ Yes
is_right = refl

too_dear : cuts_verdict (Some 4) shop two_lines ≡ No CutWorth 2
too_dear = refl

without_end : cuts_verdict (Some 3) shop (codes "form 1 3 1 0") ≡ No NoEmptyClause 0
without_end = refl

-- the second line counts once its line feed is there
first_line : ended_part two_lines ≡ codes "form 1 3 1 0" ++ 10 ∷ []
first_line = refl

none_yet : cuts_lower shop two_lines ≡ AtLeast 0
none_yet = refl

at_least_three : cuts_lower shop (two_lines ++ 10 ∷ []) ≡ AtLeast 3
at_least_three = refl

wrong_line : cuts_lower shop (codes "form 2" ++ 10 ∷ two_lines) ≡ NotRight LineForm 1
wrong_line = refl

-- the facts of the present form
abbrev named : Bool → ℕ → NamedFact
named dashed weight = record { weight = weight; is_numbered = dashed; number = 1 }

form_goes_on : form_facts []
    (map tokens_of (codes "form 1 3 1 0" ∷ codes "form + 2 -1 0" ∷ codes "cut 0" ∷ []))
    ≡ named false 3 ∷ named true 2 ∷ []
form_goes_on = refl

form_begins : form_facts (named false 3 ∷ []) (map tokens_of (codes "form 2 1 -1 0" ∷ []))
    ≡ named true 1 ∷ []
form_begins = refl
