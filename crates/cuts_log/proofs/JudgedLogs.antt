-- The lines of a log are judged one after the other.
use Rattle.std.proofs.Common.{◌≡◌, ℕ, ◌+◌, false, List, [], ◌∷◌, map, Some, Ok, refl, sym, ◌∙◌}
use Rattle.std.proofs.Common.{ap, Option, arith, length, subst}
use Rattle.cnf.specs.Problem.{Problem}
use Rattle.bound.specs.Weighted.{weighted_cnf}
use Rattle.lrat_log.specs.Log.{axiom_line}
use Rattle.lrat_log.specs.Steps.{added_count}
use Rattle.lrat_read.specs.WordTokens.{word_tokens}
use Rattle.lrat_cuts.specs.Cuts.{CutsState, judged_line, judged_lines}
use Rattle.cuts_log.specs.declared.standing.Standing.{Standing}
use Rattle.cuts_log.specs.Events.{Event, Plain, Word, tokens_at, tokens_on}
use Rattle.cuts_log.specs.Books.{before_of}
use Rattle.cuts_log.specs.Judging.{ArePlainRight, IsUpTo, LogsAreRight, StandsAs}
use Rattle.cuts_log.specs.Logs.{IsKept, LogState, events_of, problem_of, start_of}
use Rattle.cuts_log.specs.Stands.{TakesAll, stand_at}
use Rattle.cuts_log.specs.Starts.{IsStart}
use Rattle.cuts_log.proofs.JudgedWords.{stands_on, taken_told}

-- what lines come to, where the checker stands at first as the log did
abbrev AreJudged : Option ℕ → ℕ → ℕ → ℕ → CutsState → List Event → Standing → Type 0
AreJudged o base before n s es new = (t : CutsState)
    × (judged_lines o s n (tokens_on base before es) ≡ Ok t) × StandsAs base t new

pub next_line : (o : Option ℕ) (n : ℕ) (s t u : CutsState) (ts : List (List ℕ))
    (more : List (List (List ℕ)))
    → judged_line o s ts ≡ Ok t → judged_lines o t (n + 1) more ≡ Ok u
    → judged_lines o s n (ts ∷ more) ≡ Ok u
next_line o n s t u ts more e f = rw e f

lines_judged : (o : Option ℕ) (cost base before n : ℕ) → IsUpTo cost o
    → (s : CutsState) (old new : Standing)
    (es : List Event) → StandsAs base s old → TakesAll cost old es new
    → ArePlainRight o base before s es → AreJudged o base before n s es new
lines_judged o cost base before n up s old new [] e h p = (
  s,
  refl,
  subst (StandsAs base s) (sym h)
      e,
)
lines_judged o cost base before n up s old new (Plain l ∷ es) e h p =
    let t = p.0 in
    let same : StandsAs base t h.0 = subst (StandsAs base t) (sym h.1.2) (p.1.stands old e) in
    let rest = lines_judged o cost base (before + added_count (l ∷ [])) (n + 1) up t h.0 new es same
    h.2 p.2 in (
      rest.0,
      next_line o n s t rest.0 (tokens_at base before (Plain l))
          (tokens_on base (before + added_count (l ∷ [])) es) p.1.judged rest.1,
      rest.2,
    )
lines_judged o cost base before n up s old new (Word w made ∷ es) e h p =
    let j = taken_told o cost up s old h.0 w made e.forms e.ended e.formula h.1 in
    let t = j.0 in
    let same = stands_on base cost s t old h.0 w made e h.1 j.2 in
    let rest = lines_judged o cost base (before + added_count (map axiom_line made)) (n + 1) up t
    h.0
    new es same h.2 (p t j.1) in (
      rest.0,
      next_line o n s t rest.0 (word_tokens w)
          (tokens_on base (before + added_count (map axiom_line made)) es) j.1 rest.1,
      rest.2,
    )

-- before the first line
pub start_stands : (p : Problem) (base : ℕ) (s : CutsState) → IsStart p s
    → base ≡ length (weighted_cnf p).clauses → StandsAs base s (stand_at p s)
start_stands p base s h size = record {
  forms = refl;
  ended = h.open_end;
  within = omega (arith, size);
  formula = h.formula;
}

pub log_judged : (o : Option ℕ) (l : LogState) → IsKept l → (l.book).failed ≡ false
    → IsUpTo l.cost o
    → ArePlainRight o (l.book).base (before_of l.book) (start_of l) (events_of l)
    → (t : CutsState) × (judged_lines o (start_of l) 1
    (tokens_on (l.book).base (before_of l.book) (events_of l)) ≡ Ok t)
    × (t.forms ≡ (l.standing).forms) × (t.ended ≡ (l.standing).ended)
log_judged o l h works up p =
    let j = lines_judged o l.cost (l.book).base (before_of l.book) 1 up (start_of l)
    (stand_at (problem_of l) (start_of l)) h.left (events_of l)
    (start_stands (problem_of l) (l.book).base (start_of l) h.start h.base) h.taken p in
    let same = sym (h.standing works) in (
      j.0,
      j.1,
      j.2.forms ∙ ap (λ (x : Standing). x.forms) same,
      j.2.ended ∙ ap (λ (x : Standing). x.ended) same,
    )

pub logs_judged : LogsAreRight
logs_judged l k h works le p = log_judged (Some k) l h works le p
