-- What the first token of a line says after what was read before, and the header of the older form.
use Rattle.std.specs.Prelude.{ℕ, ◌+◌, Bool, false, ◌||◌, List, [], ◌∷◌, Option, Some, None, Result}
use Rattle.std.specs.Prelude.{Ok, Err, nat_lt, nat_le, ◌==◌, if◌then◌else◌, bytes_eq}
use lib.Chars.{codes}
use Rattle.cnf.specs.declared.limits.TheConstants.{MOST_VARIABLES, MOST_HARD, MOST_SOFT}
use Rattle.cnf.specs.declared.limits.TheConstants.{MOST_TEXT_CLAUSES, NUMBER_LIMIT}
use Rattle.text.specs.Text.{number_of, is_digit}
use Rattle.wcnf.specs.declared.faults.FaultKind.{FaultKind}
use Rattle.wcnf.specs.declared.faults.FaultKind.TheVariants.{FirstToken, OldForm, Weight, WeightSum}
use Rattle.wcnf.specs.declared.faults.FaultKind.TheVariants.{TooMany, Header as HeaderFault, Count}
use Rattle.wcnf.specs.Wcnf.{Header}

-- what was read so far, after the header where there is one
pub record SoFar : Type 0 where
  pub hard : ℕ
  pub soft : ℕ
  pub literals : ℕ
  pub weight : ℕ

infixl 10 ◌>>=◌
abbrev pub ◌>>=◌ : {A B E : Type 0} → Result A E → (A → Result B E) → Result B E
(Ok x) >>= f = f x
(Err e) >>= f = Err e

-- the greatest variable that a literal may have
abbrev pub most_variable : Option Header → ℕ
most_variable None = MOST_VARIABLES
most_variable (Some h) = h.variables

-- one more hard clause: no weight
abbrev pub one_hard : SoFar → Result (Option ℕ) FaultKind
one_hard totals = if nat_le MOST_HARD totals.hard then Err TooMany else Ok None

-- one more soft clause
abbrev pub one_soft : SoFar → ℕ → Result (Option ℕ) FaultKind
one_soft totals w =
    if nat_le NUMBER_LIMIT (totals.weight + w) then Err WeightSum
    else if nat_le MOST_SOFT totals.soft then Err TooMany else Ok (Some w)

-- one more clause of those that the header counts
abbrev pub one_counted : Header → SoFar → Option ℕ → Result (Option ℕ) FaultKind
one_counted h totals w = if nat_le h.clauses (totals.hard + totals.soft) then Err Count else Ok w

-- a clause by its weight
abbrev pub weighed : Option Header → SoFar → ℕ → Result (Option ℕ) FaultKind
weighed None totals w =
    if (w == 0) || nat_le NUMBER_LIMIT w then Err Weight else one_soft totals w
weighed (Some h) totals w = if (w == 0) || nat_lt h.top w then Err Weight else do
  v ← if w == h.top then one_hard totals else one_soft totals w
  one_counted h totals v

-- a clause by the letter h
abbrev pub lettered : Option Header → SoFar → Result (Option ℕ) FaultKind
lettered None totals = one_hard totals
lettered (Some h) totals = Err FirstToken

-- the first token of a clause line: no weight for a hard clause
abbrev pub head_of : Option Header → SoFar → List ℕ → Result (Option ℕ) FaultKind
head_of form totals [] = Err FirstToken
head_of form totals (b ∷ bs) =
    if is_digit b then by (number_of (b ∷ bs)) else named bs
  where
    by : Option ℕ → Result (Option ℕ) FaultKind
    by None = Err Weight
    by (Some w) = weighed form totals w

    named : List ℕ → Result (Option ℕ) FaultKind
    named [] =
        if b == 104 then lettered form totals else if b == 112 then Err OldForm else Err FirstToken
    named (c ∷ cs) = Err FirstToken

abbrev pub begins_comment : List ℕ → Bool
begins_comment [] = false
begins_comment (b ∷ bs) = b == 99

-- the next of the tokens, a number up to this one, and the tokens after it
abbrev pub number_within : ℕ → List (List ℕ) → Result (ℕ × List (List ℕ)) FaultKind
number_within most [] = Err HeaderFault
number_within most (t ∷ ts) = by (number_of t)
  where
    by : Option ℕ → Result (ℕ × List (List ℕ)) FaultKind
    by None = Err HeaderFault
    by (Some n) = if nat_lt most n then Err HeaderFault else Ok (n, ts)

abbrev pub is_wcnf : List ℕ → Bool
is_wcnf t = bytes_eq t (codes "wcnf")

-- the header of these numbers, with nothing after them
abbrev pub header_ended : ℕ → ℕ → ℕ → List (List ℕ) → Result Header FaultKind
header_ended v c w [] =
    if w == 0 then Err HeaderFault else Ok (record { variables = v; clauses = c; top = w })
header_ended v c w (t ∷ ts) = Err HeaderFault

-- the header, of whose tokens these are those after the first
abbrev pub header_of : List (List ℕ) → Result Header FaultKind
header_of [] = Err HeaderFault
header_of (t ∷ ts) = if is_wcnf t then (do
  v ← number_within MOST_VARIABLES ts
  c ← number_within MOST_TEXT_CLAUSES v.1
  w ← number_within NUMBER_LIMIT c.1
  header_ended v.0 c.0 w.0 w.1) else Err HeaderFault

abbrev pub is_p : List ℕ → Bool
is_p (b ∷ []) = b == 112
is_p other = false
