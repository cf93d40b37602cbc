-- The lines that a writer has, where the log may have failed.
use Rattle.std.proofs.Common.{◌≡◌, ℕ, ◌+◌, ◌<◌, false, List, [], ◌∷◌, ◌++◌, Option, Result, Ok, Err}
use Rattle.std.proofs.Common.{refl, sym, ◌∙◌, ap, subst, arith, inl, inr, append_assoc, append-nil}
use Rattle.std.proofs.Common.{take}
use Rattle.std.specs.Prelude.{◌==◌}
use Rattle.std.specs.Io.KnownBytes.{Appends}
use Rattle.std.proofs.KnownBytes.{Appends-nil}
use Rattle.std.proofs.Math.Seq.{take-append_seam}
use Rattle.std.proofs.lemmas.Bool.{cases_Bool, eqb-true}
use Rattle.std.proofs.lemmas.Grind.{flat_map-append}
use Rattle.std.proofs.lemmas.List.Elements.{All-cons, All-nil}
use Rattle.cnf.specs.Problem.{Problem}
use Rattle.text.specs.Pieces.{IsCut, IsEnded}
use Rattle.text.specs.Text.{IsNoFeed, token_lines}
use Rattle.bound.specs.Weighted.{weighted_cnf}
use Rattle.lrat_log.specs.declared.log.TheConstants.{LINE_LIMIT}
use Rattle.lrat_log.specs.Axioms.{FollowByRup, IsOpenLogOver}
use Rattle.lrat_log.specs.Log.{Given, LogLine}
use Rattle.lrat_log.specs.Steps.{added_count, given_of}
use Rattle.lrat_log.proofs.Laws.{additions_few}
use Rattle.lrat_machine.specs.declared.verdicts.Cause.{Cause}
use Rattle.lrat_cuts.specs.Cuts.{CutsState, cuts_start, judged_line, judged_lines}
use Rattle.lrat_cuts.specs.Verdict.{ended_part, ended_with, judged_text}
use Rattle.lrat_cuts.proofs.Laws.{ended_none, ended_part-more}
use Rattle.cuts_log.specs.declared.standing.Standing.{Standing}
use Rattle.cuts_log.specs.Books.{IsBegun, IsBook, before_of}
use Rattle.cuts_log.specs.Events.{Event, lines_in, lines_of, open_text, text_of, tokens_on}
use Rattle.cuts_log.specs.Judging.{BegunTextsAreRight, HasRightLines, IsEarlier, IsUpTo}
use Rattle.cuts_log.specs.Logs.{IsKept, LogState, all_lines, lines_seen, problem_of}
use Rattle.cuts_log.specs.Logs.{start_of}
use Rattle.cuts_log.specs.Stands.{TakesAll, stand_at}
use Rattle.cuts_log.specs.Starts.{earlier_lines}
use Rattle.cuts_log.proofs.BeforeTexts.{text_behind, tokens_behind}
use Rattle.cuts_log.proofs.JudgedStart.{step_judged}
use Rattle.cuts_log.proofs.LogTexts.{text_tokens}
use Rattle.cuts_log.proofs.Noting.{all_added}
use Rattle.cuts_log.proofs.OpenLines.{ended-more, ended_lines, open_feed}
use Rattle.cuts_log.proofs.Saying.{says_put}

-- The first of some lines.
takes_front : (cost : ℕ) (s new : Standing) (es fs : List Event) → TakesAll cost s (es ++ fs) new
    → (mid : Standing) × TakesAll cost s es mid × TakesAll cost mid fs new
takes_front cost s new [] fs h = (s, refl, h)
takes_front cost s new (e ∷ es) fs h =
    let r = takes_front cost h.0 new es fs h.2 in (r.0, (h.0, h.1, r.1), r.2)

judged_front : (o : Option ℕ) (xs ys : List (List (List ℕ))) (s u : CutsState) (n : ℕ)
    → judged_lines o s n (xs ++ ys) ≡ Ok u
    → (t : CutsState) × (judged_lines o s n xs ≡ Ok t)
judged_front o [] ys s u n e = (s, refl)
judged_front o (x ∷ xs) ys s u n e =
    elim (judged_line o s x)
    as (λ r. judged_line o s x ≡ r → (t : CutsState) × (judged_lines o s n (x ∷ xs) ≡ Ok t)) [
      | Err c ↦ λ q. absurd (err_ok (c, n) u (rw q at e))
      | Ok next ↦ λ q.
          let r = judged_front o xs ys next u (n + 1) (rw q at e) in (r.0, rw q r.1)
    ] refl
  where
    err_ok : (f : Cause × ℕ) (x : CutsState)
        → (let r : Result CutsState (Cause × ℕ) = Err f in r ≡ Ok x) → ⊥
    err_ok f x e = cc

text_front : (o : Option ℕ) (p : Problem) (done more : List ℕ) (u : CutsState) → IsEnded done
    → judged_text o p (done ++ more) ≡ Ok u → (t : CutsState) × (judged_text o p done ≡ Ok t)
text_front o p done more u ended e =
    judged_front o (token_lines done) (token_lines more) (cuts_start p) u 1
    (ap (judged_lines o (cuts_start p) 1) (sym (tokens_behind done more ended)) ∙ e)

-- What a line feed ends of a text.
abbrev IsOrdinary : ℕ → Type 0
IsOrdinary b = (b == 10) ≡ false

cut_one : (b : ℕ) (bs done rest : List ℕ) → IsCut bs done rest
    → (left : List ℕ) × IsCut (b ∷ bs) (ended_with b done) left
cut_one b bs [] rest c =
    elim (cases_Bool (b == 10)) [
      | inl t ↦ rw t (
        rest,
        record {
          split = ap (λ x. b ∷ x) c.split;
          ended = inr ([], ap (λ x. x ∷ []) (eqb-true b 10 t));
          unfinished = c.unfinished;
        },
      )
      | inr f ↦ rw f (
        b ∷ rest,
        record {
          split = ap (λ x. b ∷ x) c.split;
          ended = inl refl;
          unfinished = All-cons IsOrdinary b rest f c.unfinished;
        },
      )
    ]
cut_one b bs (d ∷ ds) rest c = (
  rest,
  record {
    split = ap (λ x. b ∷ x) c.split;
    ended = elim c.ended [
      | inl e ↦ absurd (cc)
      | inr e ↦ inr (b ∷ e.0, ap (λ x. b ∷ x) e.1)
    ];
    unfinished = c.unfinished;
  },
)

cut_of : (bs : List ℕ) → (rest : List ℕ) × IsCut bs (ended_part bs) rest
cut_of [] = ([], record { split = refl; ended = inl refl; unfinished = All-nil IsOrdinary })
cut_of (b ∷ bs) = let r = cut_of bs in cut_one b bs (ended_part bs) r.0 r.1

-- that of a beginning of ended lines and one that is open is a beginning of the former
ended_front : (text tail part left : List ℕ) → IsEnded text → IsNoFeed tail
    → text ++ tail ≡ part ++ left → (more : List ℕ) × (text ≡ ended_part part ++ more)
ended_front text tail part left ended none split =
    let cut = cut_of part in
    let done = ended_part part in
    let whole : ended_part (text ++ tail) ≡ text =
    ended_part-more text tail ended ∙ ap (λ x. text ++ x) (ended_none tail none) ∙ append-nil text
    in (
      ended_part (cut.0 ++ left),
      sym whole
          ∙ ap ended_part (split ∙ ap (λ x. x ++ left) cut.1.split ∙ append_assoc done cut.0 left)
          ∙ ended_part-more done (cut.0 ++ left) cut.1.ended,
    )

-- The log as if it had ended behind the lines that the search sees.
module _ (l : LogState) (h : IsKept l) (book : IsBook l.book) where
  abbrev w : IsBegun l.book
  w = book.begun

  abbrev base : ℕ
  base = (l.book).base

  abbrev before : List LogLine
  before = earlier_lines base (start_of l)

  abbrev origin : Option (List ℕ)
  origin = ((l.book).seen).origin

  abbrev text : List ℕ
  text = text_of base (before_of l.book) w.front

  parts : (mid : Standing) × TakesAll l.cost (stand_at (problem_of l) (start_of l)) w.front mid
      × TakesAll l.cost mid w.rest h.left
  parts =
      let from = stand_at (problem_of l) (start_of l) in
      takes_front l.cost from h.left w.front w.rest
      (subst (λ es. TakesAll l.cost from es h.left) w.split h.taken)

  abbrev seen_log : LogState
  seen_log = record {
    book = record {
      seen = record (l.book).seen { events = w.front };
      out = record { had = origin; held = text; failed = false };
      base = base;
      lines = (l.book).lines;
      added = added_count (before ++ lines_of w.front);
      failed = false;
    };
    standing = parts.0;
    cost = l.cost;
  }

  kept_seen : IsKept seen_log
  kept_seen = record {
    base = h.base;
    start = h.start;
    cost = h.cost;
    worth = h.worth;
    left = parts.0;
    taken = parts.1;
    standing = λ _. refl;
  }

  book_seen : IsBook seen_log.book
  book_seen = record {
    small = book.small;
    short = book.short;
    said = says_put origin text;
    within = omega (arith, w.lines);
    lines = λ _. w.lines;
    added = λ _. refl;
    works = λ _. refl;
    begun = record {
      front = w.front;
      rest = [];
      split = sym (append-nil w.front);
      lines = w.lines;
      part = ([], (text ++ [], refl), Appends-nil origin);
    };
  }

  seen_lines : lines_seen l ≡ all_lines seen_log
  seen_lines =
      let n = (l.book).lines in
      let own = lines_of w.front in
      let more = lines_of w.rest in
      ap (λ es. take n (before ++ lines_of es)) w.split
      ∙ ap (λ x. take n (before ++ x)) (flat_map-append lines_in w.front w.rest)
      ∙ ap (take n) (sym (append_assoc before own more))
      ∙ ap (λ k. take k ((before ++ own) ++ more)) w.lines
      ∙ take-append_seam (before ++ own) more

  -- fewer lines were added than there may be
  few : before_of l.book + added_count (lines_of w.front) < LINE_LIMIT
  few = omega (
    arith,
    all_added seen_log.book,
    additions_few (before ++ lines_of w.front),
    w.lines,
    book.short,
  )

  -- the line behind them has no line feed yet
  no_feed : IsNoFeed
      (open_text base (before_of l.book + added_count (lines_of w.front)) w.rest)
  no_feed =
      open_feed l.cost base (before_of l.book + added_count (lines_of w.front)) parts.0 h.left
      w.rest book.small few parts.2

  module _ (log : IsOpenLogOver (given_of (weighted_cnf (problem_of l)).clauses) (lines_seen l))
      (follows : FollowByRup (given_of (weighted_cnf (problem_of l)).clauses) base []
      (lines_seen l)) where
    abbrev given : Given
    given = given_of (weighted_cnf (problem_of l)).clauses

    seen_right : (first : List ℕ) → IsEarlier (problem_of l) (start_of l) first
        → (o : Option ℕ) → IsUpTo l.cost o
        → (t : CutsState) × (judged_text o (problem_of l) (first ++ text) ≡ Ok t)
    seen_right first b o up =
        let s = start_of l in
        let open_log = subst (IsOpenLogOver given) seen_lines log in
        let rup = subst (FollowByRup given base []) seen_lines follows in
        let j = step_judged o seen_log kept_seen book_seen refl up open_log rup in (
          j.0,
          text_behind o (problem_of l) first text s j.0 l.cost b.ended up h.worth (h.start).some
              b.judged
              (ap (judged_lines o s 1) (text_tokens seen_log kept_seen book_seen refl open_log rup)
              ∙ j.1),
        )

    pub begun_right : (has : List ℕ) × Appends origin ((l.book).out).had has
        × ((first : List ℕ) → IsEarlier (problem_of l) (start_of l) first
        → HasRightLines (problem_of l) l.cost first has)
    begun_right =
        let has = w.part.0 in
        let front =
        ended_front text (open_text base (before_of l.book + added_count (lines_of w.front)) w.rest)
        has w.part.1.0 (ended_lines (tokens_on base (before_of l.book) w.front)) no_feed w.part.1.1
        in (
          has,
          w.part.2,
          λ first b o up.
              let done = ended_part has in
              let j = seen_right first b o up in
              text_front o (problem_of l) (first ++ done) front.0 j.0
              (ended-more first done b.ended (cut_of has).1.ended)
              (ap (judged_text o (problem_of l)) (append_assoc first done front.0
              ∙ ap (λ x. first ++ x) (sym front.1)) ∙ j.1),
        )

pub begun_judged : BegunTextsAreRight
begun_judged l h book log follows = begun_right l h book log follows
