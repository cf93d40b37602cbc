-- What a line of a log is judged as, by the definition of the checker.
use Rattle.std.specs.Prelude.{◌≡◌, ℕ, ◌+◌, ◌≤◌, true, false, List, [], ◌∷◌, ◌++◌, length, map}
use Rattle.std.specs.Prelude.{Option, Some, None, Ok, min}
use Rattle.std.specs.Io.KnownBytes.{Appends}
use Rattle.std.specs.List.{AllByRecursion, list_any}
use Rattle.cnf.specs.Instance.{IsInstance}
use Rattle.cnf.specs.Literal.{Assignment, Literal}
use Rattle.cnf.specs.Problem.{IsFeasible, Problem, cost_under}
use Rattle.bound.specs.Weighted.{weighted_cnf}
use Rattle.lrat_live.specs.Listed.{listed_from}
use Rattle.text.specs.Pieces.{IsEnded}
use Rattle.lrat_log.specs.Axioms.{FollowByRup, IsOpenLogOver}
use Rattle.lrat_log.specs.Log.{LogLine, axiom_line}
use Rattle.lrat_log.specs.Steps.{StopsAtEmptyClause, added_count, adds_empty_clause, given_of}
use Rattle.lrat_read.specs.Words.{WordLine, BoundLine}
use Rattle.lrat_read.specs.WordTokens.{word_tokens}
use Rattle.lrat_cuts.specs.Cuts.{CutsState, judged_line, judged_lines}
use Rattle.lrat_cuts.specs.Verdict.{ended_part, judged_text}
use Rattle.cuts_log.specs.declared.standing.Standing.{Standing}
use Rattle.cuts_log.specs.Events.{Event, Plain, Word, tokens_at, tokens_on}
use Rattle.cuts_log.specs.Books.{IsBook, before_of, book_text}
use Rattle.cuts_log.specs.Given.{AreLive}
use Rattle.cuts_log.specs.Logs.{IsKept, LogState, all_lines, events_of, lines_seen, problem_of}
use Rattle.cuts_log.specs.Logs.{start_of}
use Rattle.cuts_log.specs.Stands.{TakesWord, with_line}

-- the checker stands as the log does, with these clauses more
pub record Follows (old : CutsState) (made : List (List Literal)) (s : Standing) (new : CutsState) :
    Type 0 where
  pub live : new.live ≡ old.live ++ listed_from (old.last + 1) made
  pub last : new.last ≡ old.last + length made
  pub forms : new.forms ≡ s.forms
  pub ended : new.ended ≡ s.ended

-- the checker stands as the log does, over a formula with `base` clauses
pub record StandsAs (base : ℕ) (t : CutsState) (s : Standing) : Type 0 where
  pub forms : t.forms ≡ s.forms
  pub ended : t.ended ≡ s.ended
  pub within : length (s.formula).clauses ≤ base
  pub formula : AreLive s.formula t.live

-- a cost up to what cuts hold for, or none
abbrev pub IsUpTo : ℕ → Option ℕ → Type 0
IsUpTo cost None = Unit {0}
IsUpTo cost (Some k) = k ≤ cost

-- an addition or a deletion is judged right, and then the checker stands as the log does
pub record IsRightPlain (o : Option ℕ) (base before : ℕ) (old : CutsState) (l : LogLine)
    (new : CutsState) : Type 0 where
  pub judged : judged_line o old (tokens_at base before (Plain l)) ≡ Ok new
  pub stands : (s : Standing) → StandsAs base old s → StandsAs base new (with_line l s)

-- so is each where it stands
abbrev pub ArePlainRight : Option ℕ → ℕ → ℕ → CutsState → List Event → Type 0
ArePlainRight o base before s [] = Unit {0}
ArePlainRight o base before s (Plain l ∷ es) = (t : CutsState) × IsRightPlain o base before s l t
    × ArePlainRight o base (before + added_count (l ∷ [])) t es
ArePlainRight o base before s (Word w made ∷ es) = (t : CutsState)
    → judged_line o s (word_tokens w) ≡ Ok t
    → ArePlainRight o base (before + added_count (map axiom_line made)) t es

-- a line that was taken is right for each cost up to the one that it was taken for, where the
-- clauses of the formula that the log has are live
abbrev pub WordsAreRight : Type 0
WordsAreRight = (k cost : ℕ) → k ≤ cost → (s : CutsState) (old new : Standing) (w : WordLine)
    (made : List (List Literal)) → s.forms ≡ old.forms → s.ended ≡ old.ended
    → AreLive old.formula s.live → TakesWord cost old w made new
    → (t : CutsState) × (judged_line (Some k) s (word_tokens w) ≡ Ok t) × Follows s made new t

-- a log that has not failed is judged right line by line, for each cost up to that of its cuts,
-- where its additions and deletions are; and then the checker stands as it does
abbrev pub LogsAreRight : Type 0
LogsAreRight = (l : LogState) (k : ℕ) → IsKept l → (l.book).failed ≡ false → k ≤ l.cost
    → ArePlainRight (Some k) (l.book).base (before_of l.book) (start_of l) (events_of l)
    → (t : CutsState) × (judged_lines (Some k) (start_of l) 1
    (tokens_on (l.book).base (before_of l.book) (events_of l)) ≡ Ok t)
    × (t.forms ≡ (l.standing).forms) × (t.ended ≡ (l.standing).ended)

-- so is one whose lines are steps apart from clauses from outside, and follow by their hints alone
abbrev pub StepsAreRight : Type 0
StepsAreRight = (l : LogState) (k : ℕ) → IsKept l → IsBook l.book → (l.book).failed ≡ false
    → k ≤ l.cost
    → IsOpenLogOver (given_of (weighted_cnf (problem_of l)).clauses) (all_lines l)
    → FollowByRup (given_of (weighted_cnf (problem_of l)).clauses) (l.book).base []
    (all_lines l)
    → (t : CutsState) × (judged_lines (Some k) (start_of l) 1
    (tokens_on (l.book).base (before_of l.book) (events_of l)) ≡ Ok t)
    × (t.forms ≡ (l.standing).forms) × (t.ended ≡ (l.standing).ended)

-- one whose lines stop at the empty clause, and have one, has ended
abbrev pub LogsEnd : Type 0
LogsEnd = (l : LogState) → IsKept l → IsBook l.book → (l.book).failed ≡ false
    → StopsAtEmptyClause (all_lines l)
    → list_any adds_empty_clause (all_lines l) ≡ true → (l.standing).ended ≡ true

-- a text that is judged so line by line, whatever its cuts hold for; it is empty, or a line feed
-- ends it
pub record IsEarlier (p : Problem) (s : CutsState) (text : List ℕ) : Type 0 where
  pub judged : judged_text None p text ≡ Ok s
  pub ended : IsEnded text

-- the text of one whose lines are steps, and follow, is judged right behind a text that leads to
-- its start
abbrev pub TextsAreRight : Type 0
TextsAreRight = (l : LogState) (k : ℕ) (before : List ℕ) → IsKept l → IsBook l.book
    → (l.book).failed ≡ false → k ≤ l.cost → IsEarlier (problem_of l) (start_of l) before
    → IsOpenLogOver (given_of (weighted_cnf (problem_of l)).clauses) (all_lines l)
    → FollowByRup (given_of (weighted_cnf (problem_of l)).clauses) (l.book).base []
    (all_lines l)
    → (t : CutsState)
    × (judged_text (Some k) (problem_of l) (before ++ book_text l.book) ≡ Ok t)
    × (t.ended ≡ (l.standing).ended)

-- the lines of a text that a line feed ends are judged right behind another text, for each cost up
-- to this one, and for none
abbrev pub HasRightLines : Problem → ℕ → List ℕ → List ℕ → Type 0
HasRightLines p cost before text = (o : Option ℕ) → IsUpTo cost o
    → (t : CutsState) × (judged_text o p (before ++ ended_part text) ≡ Ok t)

-- so are those that the writer has, even where the log has failed, if the lines that the search
-- sees are steps, and follow
abbrev pub BegunTextsAreRight : Type 0
BegunTextsAreRight = (l : LogState) → IsKept l → IsBook l.book
    → IsOpenLogOver (given_of (weighted_cnf (problem_of l)).clauses) (lines_seen l)
    → FollowByRup (given_of (weighted_cnf (problem_of l)).clauses) (l.book).base []
    (lines_seen l)
    → (text : List ℕ) × Appends ((l.book).seen).origin ((l.book).out).had text
    × ((before : List ℕ) → IsEarlier (problem_of l) (start_of l) before
    → HasRightLines (problem_of l) l.cost before text)

-- where it has ended, nothing costs less than its cuts hold for
abbrev pub NothingIsCheaper : Type 0
NothingIsCheaper = (l : LogState) → IsKept l → IsBook l.book → (l.book).failed ≡ false
    → IsOpenLogOver (given_of (weighted_cnf (problem_of l)).clauses) (all_lines l)
    → FollowByRup (given_of (weighted_cnf (problem_of l)).clauses) (l.book).base []
    (all_lines l)
    → (l.standing).ended ≡ true → IsInstance (problem_of l)
    → (u : Assignment) → IsFeasible (problem_of l) u → l.cost ≤ cost_under (problem_of l) u

-- a lower bound that a line tells is proved, up to what cuts hold for
abbrev pub IsProvedWord : ℕ → ℕ → WordLine → Type 0
IsProvedWord cost proved (BoundLine lower) = min lower cost ≤ proved
IsProvedWord cost proved w = Unit {0}

abbrev pub IsProvedEvent : ℕ → ℕ → Event → Type 0
IsProvedEvent cost proved (Plain l) = Unit {0}
IsProvedEvent cost proved (Word w made) = IsProvedWord cost proved w

-- the text is judged right for no cost, too, and proves each lower bound that it tells
abbrev pub BoundsAreProved : Type 0
BoundsAreProved = (l : LogState) (before : List ℕ) → IsKept l → IsBook l.book
    → (l.book).failed ≡ false → IsEarlier (problem_of l) (start_of l) before
    → IsOpenLogOver (given_of (weighted_cnf (problem_of l)).clauses) (all_lines l)
    → FollowByRup (given_of (weighted_cnf (problem_of l)).clauses) (l.book).base []
    (all_lines l)
    → (t : CutsState)
    × (judged_text None (problem_of l) (before ++ book_text l.book) ≡ Ok t)
    × (t.ended ≡ (l.standing).ended) × AllByRecursion (IsProvedEvent l.cost t.proved) (events_of l)
