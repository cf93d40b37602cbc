-- A log with one line more.
use Rattle.std.proofs.Common.{◌≡◌, ℕ, ◌+◌, ◌<◌, ◌≤◌, false, List, [], ◌∷◌, ◌++◌, length, take}
use Rattle.std.proofs.Common.{refl, sym, ◌∙◌, ap, subst, arith, length-append}
use Rattle.std.proofs.lemmas.List.{length-take-le, take_all, take-append-le}
use Rattle.cnf.specs.Literal.{Literal}
use Rattle.cnf.specs.Refute.{Clauses}
use Rattle.bound.specs.Weighted.{weighted_cnf}
use Rattle.forms.specs.Forms.{Forms}
use Rattle.lrat_log.specs.declared.log.TheConstants.{LINE_LIMIT}
use Rattle.lrat_log.specs.Log.{LogLine}
use Rattle.lrat_read.specs.Words.{WordLine, CountLine, MoreLine, GroupLine, FormLine, CutLine}
use Rattle.lrat_read.specs.Words.{BoundLine}
use Rattle.cuts_log.specs.declared.standing.Standing.{Standing}
use Rattle.cuts_log.specs.Books.{BookState, FailsAt, IsBook, Notes, log_lines, seen_next}
use Rattle.cuts_log.specs.Events.{Event, Plain, TraceState, Word, lines_in, lines_of}
use Rattle.cuts_log.specs.Logs.{Brings, IsKept, LogState, SameLog, all_lines, events_of}
use Rattle.cuts_log.specs.Logs.{lines_seen, problem_of, start_of}
use Rattle.cuts_log.specs.Given.{formula_at}
use Rattle.cuts_log.specs.Stands.{IsRightWord, Takes, TakesAll, stand_at}
use Rattle.cuts_log.specs.Starts.{IsStart, earlier_lines}
use Rattle.cuts_log.proofs.Noting.{lines_more}

pub takes_push : (cost : ℕ) (s mid new : Standing) (es : List Event) (e : Event)
    → TakesAll cost s es mid → Takes cost mid e new → TakesAll cost s (es ++ e ∷ []) new
takes_push cost s mid new [] e h t = (new, subst (λ z. Takes cost z e new) h t, refl)
takes_push cost s mid new (d ∷ es) e h t = (h.0, h.1, takes_push cost h.0 mid new es e h.2 t)

-- what holds for a cost holds for a lower one
right_lower : (more less : ℕ) → less ≤ more → (at : Clauses) (old new : Forms) (w : WordLine)
    (made : List (List Literal)) → IsRightWord more at old w made new
    → IsRightWord less at old w made new
right_lower more less le at old new (CountLine outputs inputs) made h = h
right_lower more less le at old new (MoreLine number) made h = h
right_lower more less le at old new (GroupLine inputs ids) made h = h
right_lower more less le at old new (FormLine scale facts) made h = h
right_lower more less le at old new (CutLine c) made h = (h.0, h.1, omega (arith, h.2), h.3, h.4)
right_lower more less le at old new (BoundLine lower) made h = h

takes_lower : (more less : ℕ) → less ≤ more → (old new : Standing) (e : Event)
    → Takes more old e new → Takes less old e new
takes_lower more less le old new (Plain l) t = t
takes_lower more less le old new (Word w made) t = record {
  open_end = t.open_end;
  numbers = t.numbers;
  middle = t.middle;
  right = right_lower more less le (formula_at old.formula) old.forms t.middle w made t.right;
  clauses = t.clauses;
}

pub all_lower : (more less : ℕ) → less ≤ more → (old new : Standing) (es : List Event)
    → TakesAll more old es new → TakesAll less old es new
all_lower more less le old new [] t = t
all_lower more less le old new (e ∷ es) t =
    (t.0, takes_lower more less le old t.0 e t.1, all_lower more less le t.0 new es t.2)

abbrev with_cost : LogState → ℕ → LogState
with_cost l cost = record l { cost = cost }

pub kept_lower : (l : LogState) (cost : ℕ) → cost ≤ l.cost → IsKept l → IsKept (with_cost l cost)
kept_lower l cost le h = record {
  base = h.base;
  start = h.start;
  cost = omega (arith, h.cost);
  worth = omega (arith, le, h.worth);
  left = h.left;
  taken = all_lower l.cost cost le (stand_at (problem_of l) (start_of l)) h.left (events_of l)
      h.taken;
  standing = h.standing;
}

-- one line more, which the search sees or does not
pub kept_next : (l : LogState) (e : Event) (s : Standing) (b : BookState) → IsKept l
    → (l.book).failed ≡ false → Takes l.cost l.standing e s → b.seen ≡ seen_next e (l.book).seen
    → b.base ≡ (l.book).base → IsKept (record { book = b; standing = s; cost = l.cost })
kept_next l e s b h works t seen base =
    let es = events_of l in
    let from = stand_at (problem_of l) (start_of l) in
    let next : Takes l.cost h.left e s = subst (λ z. Takes l.cost z e s) (h.standing works) t in
    let all : TakesAll l.cost from (es ++ e ∷ []) s = takes_push l.cost from h.left s es e h.taken
    next
    in
    let Goes : TraceState → Type 0 =
    λ z. TakesAll l.cost (stand_at z.problem z.start) z.events s in
    let Based : TraceState → Type 0 = λ z. (l.book).base
    ≡ length (weighted_cnf z.problem).clauses in record {
      base = base ∙ subst Based (sym seen) h.base;
      start = subst (λ (z : TraceState). IsStart z.problem z.start) (sym seen) h.start;
      cost = h.cost;
      worth = subst (λ (z : TraceState). l.cost ≤ (z.start).worth) (sym seen) h.worth;
      left = s;
      taken = subst Goes (sym seen) all;
      standing = λ f. refl;
    }

abbrev seen_in : BookState → List LogLine
seen_in b = take b.lines (log_lines b)

-- the lines that the search sees
seen_whole : (b : BookState) → IsBook b → b.failed ≡ false → seen_in b ≡ log_lines b
seen_whole b h w = take_all b.lines (log_lines b) (omega (arith, h.lines w))

-- all lines, where one came more
lines_next : (old new : BookState) (e : Event) → new.seen ≡ seen_next e old.seen
    → new.base ≡ old.base → log_lines new ≡ log_lines old ++ lines_in e
lines_next old new e seen base =
    ap (λ (t : TraceState). earlier_lines new.base t.start ++ lines_of t.events) seen
    ∙ ap (λ b. earlier_lines b (old.seen).start ++ lines_of ((old.seen).events ++ e ∷ [])) base
    ∙ lines_more old e

seen_more : (old new : BookState) (e : Event) → IsBook old → old.failed ≡ false → Notes e old new
    → seen_in new ≡ seen_in old ++ lines_in e
seen_more old new e h w n =
    let lines = lines_next old new e n.seen n.base in
    let long : length (log_lines new) ≡ length (log_lines old) + length (lines_in e) =
    ap length lines ∙ length-append (log_lines old) (lines_in e) in
    take_all new.lines (log_lines new) (omega (arith, n.lines, h.lines w, long))
    ∙ lines ∙ ap (λ z. z ++ lines_in e) (sym (seen_whole old h w))

seen_same : (old new : BookState) (e : Event) → IsBook old → FailsAt e old new
    → seen_in new ≡ seen_in old
seen_same old new e h f =
    let within : old.lines ≤ length (log_lines old) = h.within in
    ap (λ n. take n (log_lines new)) f.lines
    ∙ ap (take old.lines) (lines_next old new e f.seen f.base)
    ∙ take-append-le old.lines (log_lines old) (lines_in e) within

-- what one line more brings, where the log was seen as `now`
pub brings : (old now : LogState) (s : Standing) (b : BookState) (e : Event) (more : List LogLine)
    → old ≡ now → IsBook old.book → (old.book).failed ≡ false → Notes e old.book b
    → lines_in e ≡ more
    → Brings more now (record { book = b; standing = s; cost = old.cost })
brings old now s b e more view h w n is =
    let new : LogState = record { book = b; standing = s; cost = old.cost } in
    subst (λ z. Brings more z new) view (record {
      lines = seen_more old.book b e h w n ∙ ap (λ z. lines_seen old ++ z) is;
      works = n.works;
    })

pub lost : (old now : LogState) (s : Standing) (b : BookState) (e : Event) → old ≡ now
    → IsBook old.book → FailsAt e old.book b
    → lines_seen (record { book = b; standing = s; cost = old.cost }) ≡ lines_seen now
lost old now s b e view h f = seen_same old.book b e h f ∙ ap lines_seen view

pub same_next : (old now : LogState) (s : Standing) (b : BookState) (e : Event) → old ≡ now
    → b.seen ≡ seen_next e (old.book).seen
    → SameLog now (record { book = b; standing = s; cost = old.cost })
same_next old now s b e view seen =
    let new : LogState = record { book = b; standing = s; cost = old.cost } in
    subst (λ z. SameLog z new) view (record {
      problem = ap (λ (t : TraceState). t.problem) seen;
      start = ap (λ (t : TraceState). t.start) seen;
      origin = ap (λ (t : TraceState). t.origin) seen;
      cost = refl;
    })

pub short_seen : (l : LogState) → IsBook l.book → length (lines_seen l) < LINE_LIMIT
short_seen l h =
    let within : (l.book).lines ≤ length (all_lines l) = h.within in
    omega (arith, h.short, length-take-le (l.book).lines (all_lines l) within)

pub same_on : (first old new : LogState) → SameLog first old → SameLog old new → SameLog first new
same_on first old new h n = record {
  problem = n.problem ∙ h.problem;
  start = n.start ∙ h.start;
  origin = n.origin ∙ h.origin;
  cost = n.cost ∙ h.cost;
}
