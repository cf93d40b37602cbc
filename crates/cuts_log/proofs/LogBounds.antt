-- A log is judged right for no cost, too, and proves each lower bound that it tells.
use Rattle.std.proofs.Common.{◌≡◌, ℕ, ◌+◌, ◌≤◌, List, [], ◌∷◌, map, Option, None, Ok, refl, sym}
use Rattle.std.proofs.Common.{◌∙◌, ap, subst, arith}
use Rattle.std.specs.List.{AllByRecursion}
use Rattle.cnf.specs.Lrat.{Live}
use Rattle.lrat_log.specs.Log.{axiom_line}
use Rattle.lrat_log.specs.Steps.{added_count}
use Rattle.lrat_read.specs.WordTokens.{word_tokens}
use Rattle.lrat_cuts.specs.Cuts.{CutsState, judged_lines}
use Rattle.cuts_log.specs.declared.standing.Standing.{Standing}
use Rattle.cuts_log.specs.Books.{before_of, book_text}
use Rattle.cuts_log.specs.Events.{Event, Plain, Word, lines_of, tokens_at, tokens_on}
use Rattle.cuts_log.specs.Judging.{BoundsAreProved, IsProvedEvent, IsUpTo, StandsAs}
use Rattle.cuts_log.specs.Logs.{events_of, problem_of, start_of}
use Rattle.cuts_log.specs.Stands.{TakesAll, stand_at}
use Rattle.cuts_log.proofs.BeforeTexts.{text_behind}
use Rattle.cuts_log.proofs.JudgedLogs.{next_line, start_stands}
use Rattle.cuts_log.proofs.JudgedStart.{start_right}
use Rattle.cuts_log.proofs.JudgedSteps.{Stands, count_one, goes_same, plain_on, word_says}
use Rattle.cuts_log.proofs.LogTexts.{text_tokens}
use Rattle.cuts_log.proofs.Worths.{proved_more}

-- what lines come to, where cuts are worth the cost at first
record Proves (o : Option ℕ) (cost base before n : ℕ) (s : CutsState) (es : List Event)
    (new : Standing) : Type 0 where
  last : CutsState
  judged : judged_lines o s n (tokens_on base before es) ≡ Ok last
  stands : StandsAs base last new
  rises : s.proved ≤ last.proved
  told : AllByRecursion (IsProvedEvent cost last.proved) es

steps_prove : (o : Option ℕ) (cost base before n : ℕ) → IsUpTo cost o → (s : CutsState)
    (old new : Standing) (es : List Event) (live : Live) → StandsAs base s old
    → TakesAll cost old es new → Stands base before s live (lines_of es) → cost ≤ s.worth
    → Proves o cost base before n s es new
steps_prove o cost base before n up s old new [] live same h st worth = record {
  last = s;
  judged = refl;
  stands = subst (StandsAs base s) (sym h) same;
  rises = omega arith;
  told = tt;
}
steps_prove o cost base before n up s old new (Plain l ∷ es) live same h st worth =
    let after = before + added_count (l ∷ []) in
    let g = plain_on o base before s live l (lines_of es) h.1.0 h.1.1 st in
    let next = goes_same o base before s l (lines_of es) old h.0 g same h.1.2 in
    let rise = g.rises cost in
    let there = subst (λ m. Stands base m g.next g.live (lines_of es)) (count_one before l) g.stands
    in
    let rest = steps_prove o cost base after (n + 1) up g.next h.0 new es g.live next h.2 there
    (rise.0 worth) in record {
      last = rest.last;
      judged = next_line o n s g.next rest.last (tokens_at base before (Plain l))
          (tokens_on base after es) g.right.judged rest.judged;
      stands = rest.stands;
      rises = omega (arith, rise.1, rest.rises);
      told = (tt, rest.told);
    }
steps_prove o cost base before n up s old new (Word w made ∷ es) live same h st worth =
    let after = before + added_count (map axiom_line made) in
    let g = word_says o cost base before up s old h.0 w made es live same h.1 st in
    let rise = g.tells.rises in
    let rest = steps_prove o cost base after (n + 1) up g.next h.0 new es g.live g.same h.2 g.stands
    (rise.0 worth) in record {
      last = rest.last;
      judged = next_line o n s g.next rest.last (word_tokens w) (tokens_on base after es) g.judged
          rest.judged;
      stands = rest.stands;
      rises = omega (arith, rise.1, rest.rises);
      told = (
        proved_more cost (g.next).proved (rest.last).proved w rest.rises (g.tells.told worth),
        rest.told,
      );
    }

pub bounds_proved : BoundsAreProved
bounds_proved l before h book works first log follows =
    let p = problem_of l in
    let s = start_of l in
    let base = (l.book).base in
    let right = start_right l h book works log follows in
    let j = steps_prove None l.cost base (before_of l.book) 1 tt s (stand_at p s) h.left
    (events_of l) right.0 (start_stands p base s h.start h.base) h.taken right.1 h.worth in (
      j.last,
      text_behind None p before (book_text l.book) s j.last l.cost first.ended tt h.worth
          (h.start).some first.judged
          (ap (judged_lines None s 1) (text_tokens l h book works log follows) ∙ j.judged),
      j.stands.ended ∙ ap (λ (x : Standing). x.ended) (sym (h.standing works)),
      j.told,
    )
