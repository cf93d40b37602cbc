-- The text of a log has the tokens of its lines, and what it proves.
use Rattle.std.proofs.Common.{◌≡◌, ℕ, ◌+◌, false, List, [], ◌∷◌, ◌++◌, map, Option, Some}
use Rattle.std.proofs.Common.{None, ◌∙◌, ap, subst, arith}
use Rattle.std.specs.List.{AllByRecursion}
use Rattle.cnf.specs.Lrat.{Live}
use Rattle.bound.specs.Weighted.{weighted_cnf}
use Rattle.text.specs.Text.{token_lines}
use Rattle.lrat_log.specs.Axioms.{FollowByRup, IsOpenLogOver}
use Rattle.lrat_log.specs.Log.{axiom_line, numbered_line}
use Rattle.lrat_log.specs.Steps.{added_count, given_of}
use Rattle.lrat_log.proofs.Laws.{after_line, line_words, token_lines-spaced}
use Rattle.lrat_cuts.specs.Cuts.{CutsState, cuts_start, judged_lines}
use Rattle.lrat_cuts.proofs.Laws.{cuts_prove, cuts_sound}
use Rattle.cuts_log.specs.declared.standing.Standing.{Standing}
use Rattle.cuts_log.specs.Books.{IsBook, before_of, book_text}
use Rattle.cuts_log.specs.Events.{Event, Plain, Word, lines_of, tokens_on}
use Rattle.cuts_log.specs.Judging.{IsUpTo, NothingIsCheaper, StandsAs, TextsAreRight}
use Rattle.cuts_log.specs.Logs.{IsKept, LogState, all_lines, events_of, problem_of, start_of}
use Rattle.cuts_log.specs.Stands.{TakesAll, stand_at}
use Rattle.cuts_log.proofs.BeforeTexts.{judged_behind, right_for, text_behind}
use Rattle.cuts_log.proofs.JudgedLogs.{start_stands}
use Rattle.cuts_log.proofs.JudgedStart.{start_right, steps_judged}
use Rattle.cuts_log.proofs.JudgedSteps.{Stands, count_one, goes_same, plain_on, word_says}
use Rattle.cuts_log.proofs.LineWords.{AreWords, word_words}

pub steps_words : (o : Option ℕ) (cost base before : ℕ) → IsUpTo cost o
    → (s : CutsState) (old new : Standing)
    (es : List Event) (live : Live) → StandsAs base s old → TakesAll cost old es new
    → Stands base before s live (lines_of es) → AllByRecursion AreWords (tokens_on base before es)
steps_words o cost base before up s old new [] live same h st = tt
steps_words o cost base before up s old new (Plain l ∷ es) live same h st =
    let g = plain_on o base before s live l (lines_of es) h.1.0 h.1.1 st in
    let next = goes_same o base before s l (lines_of es) old h.0 g same h.1.2 in
    let rest = steps_words o cost base (after_line l before) up g.next h.0 new es g.live next h.2
    g.stands in (
      line_words (numbered_line base before l) g.numbers,
      subst (λ n. AllByRecursion AreWords (tokens_on base n es)) (count_one before l) rest,
    )
steps_words o cost base before up s old new (Word w made ∷ es) live same h st =
    let after = before + added_count (map axiom_line made) in
    let g = word_says o cost base before up s old h.0 w made es live same h.1 st in (
      word_words w h.1.numbers,
      steps_words o cost base after up g.next h.0 new es g.live g.same h.2 g.stands,
    )

-- the tokens of the text
pub text_tokens : (l : LogState) → IsKept l → IsBook l.book → (l.book).failed ≡ false
    → IsOpenLogOver (given_of (weighted_cnf (problem_of l)).clauses) (all_lines l)
    → FollowByRup (given_of (weighted_cnf (problem_of l)).clauses) (l.book).base []
    (all_lines l)
    → token_lines (book_text l.book)
    ≡ tokens_on (l.book).base (before_of l.book) (events_of l)
text_tokens l h book works log follows =
    let p = problem_of l in
    let s = start_of l in
    let base = (l.book).base in
    let right = start_right l h book works log follows in
    token_lines-spaced (tokens_on base (before_of l.book) (events_of l))
    (steps_words None l.cost base (before_of l.book) tt s (stand_at p s) h.left (events_of l)
    right.0 (start_stands p base s h.start h.base) h.taken right.1)

pub texts_judged : TextsAreRight
texts_judged l k before h book works le first log follows =
    let j = steps_judged l k h book works le log follows in
    let s = start_of l in (
      j.0,
      text_behind (Some k) (problem_of l) before (book_text l.book) s j.0 l.cost first.ended le
          h.worth (h.start).some first.judged
          (ap (judged_lines (Some k) s 1) (text_tokens l h book works log follows) ∙ j.1),
      j.3,
    )

pub nothing_cheaper : NothingIsCheaper
nothing_cheaper l h book works log follows ended i u feasible =
    let p = problem_of l in
    let s = start_of l in
    let start = cuts_start p in
    let lines = tokens_on (l.book).base (before_of l.book) (events_of l) in
    let j = steps_judged l l.cost h book works (omega arith) log follows in
    let reached = (h.start).reached in
    let first = right_for (Some l.cost) reached.0 start s 1 l.cost (omega arith) h.worth
    (h.start).some reached.1 in
    let all = judged_behind (Some l.cost) reached.0 lines start s j.0 1 1 first j.1 in
    let most = cuts_prove p l.cost (reached.0 ++ lines) j.0 h.cost all (j.3 ∙ ended) in
    let least = cuts_sound p (Some l.cost) (reached.0 ++ lines) j.0 i all u feasible in
    omega (arith, most, least)
