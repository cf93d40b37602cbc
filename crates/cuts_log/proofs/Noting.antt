-- A book with one line more.
use Rattle.std.proofs.Common.{◌≡◌, ℕ, ◌+◌, ◌-◌, ◌<◌, Bool, true, false, List, [], ◌∷◌, ◌++◌, length}
use Rattle.std.proofs.Common.{refl, sym, ◌∙◌, ap, append-nil, append_assoc, length-append}
use Rattle.std.proofs.Common.{subst, arith, Option}
use Rattle.std.proofs.lemmas.Bool.{false≢true}
use Rattle.text.specs.Writing.{AppendsPart, joined}
use Rattle.text.proofs.Laws.{spaced-joined}
use Rattle.bound.specs.Weighted.{weighted_cnf}
use Rattle.lrat_log.specs.declared.log.TheConstants.{LINE_LIMIT}
use Rattle.lrat_log.specs.Steps.{added_count}
use Rattle.lrat_cuts.specs.Cuts.{CutsState, cuts_start}
use Rattle.cnf.specs.Problem.{Problem}
use Rattle.cuts_log.specs.Books.{BookState, IsBegun, IsBook, before_of, begun_book, book_text}
use Rattle.cuts_log.specs.Books.{failed_book, log_lines, resumed_book, seen_next}
use Rattle.cuts_log.specs.Events.{Event, lines_in, lines_of, tokens_at}
use Rattle.cuts_log.specs.Outs.{OutState, Says, feed, fresh, with_feed}
use Rattle.cuts_log.specs.Starts.{added_at, earlier_lines}
use Rattle.cuts_log.proofs.EarlierLines.{lines_before-added}
use Rattle.cuts_log.proofs.EventLines.{added-append, lines_of-push, text_of-push}
use Rattle.cuts_log.proofs.Saying.{begun_part, says-none, says_as, says_behind, says_feed}
use Rattle.cuts_log.proofs.Starting.{none_earlier}

-- where no line is cut off
pub begun_all : (b : BookState) → b.lines ≡ length (log_lines b)
    → Says (fresh (b.seen).origin) (book_text b) b.out → IsBegun b
begun_all b lines said = record {
  front = (b.seen).events;
  rest = [];
  split = sym (append-nil (b.seen).events);
  lines = lines;
  part = subst (AppendsPart (b.seen).origin (b.out).had) (sym (append-nil (book_text b)))
      (begun_part (b.seen).origin b.out (book_text b) said);
}

pub begins : (p : Problem) (base : ℕ) (origin : Option (List ℕ)) → base < LINE_LIMIT
    → base ≡ length (weighted_cnf p).clauses → IsBook (begun_book p base origin)
begins p base origin small size =
    let none : log_lines (begun_book p base origin) ≡ [] =
    append-nil (earlier_lines base (cuts_start p)) ∙ none_earlier p base size in record {
      small = small;
      short = omega arith;
      said = says-none (fresh origin);
      within = omega arith;
      lines = λ _. sym (ap length none);
      added = λ _. sym (ap added_count none);
      works = λ _. refl;
      begun = begun_all (begun_book p base origin) (sym (ap length none)) (says-none (fresh
          origin));
    }

pub resumes : (p : Problem) (s : CutsState) (base : ℕ) (origin : Option (List ℕ))
    → base < LINE_LIMIT → length (earlier_lines base s) < LINE_LIMIT
    → IsBook (resumed_book p s base origin)
resumes p s base origin small short =
    let all : log_lines (resumed_book p s base origin) ≡ earlier_lines base s =
    append-nil (earlier_lines base s) in record {
      small = small;
      short = short;
      said = says-none (fresh origin);
      within = omega (arith, ap length all);
      lines = λ _. sym (ap length all);
      added = λ _. sym (ap added_count all ∙ lines_before-added (added_at base s) (s.last - base));
      works = λ _. refl;
      begun = begun_all (resumed_book p s base origin) (sym (ap length all))
          (says-none (fresh origin));
    }

-- all lines, with those of one more
pub lines_more : (b : BookState) (e : Event)
    → earlier_lines b.base (b.seen).start ++ lines_of ((b.seen).events ++ e ∷ [])
    ≡ log_lines b ++ lines_in e
lines_more b e =
    let before = earlier_lines b.base (b.seen).start in
    ap (λ z. before ++ z) (lines_of-push (b.seen).events e)
    ∙ sym (append_assoc before (lines_of (b.seen).events) (lines_in e))

pub all_added : (b : BookState)
    → added_count (log_lines b) ≡ before_of b + added_count (lines_of (b.seen).events)
all_added b =
    let before = earlier_lines b.base (b.seen).start in
    added-append before (lines_of (b.seen).events)
    ∙ ap (λ n. n + added_count (lines_of (b.seen).events))
    (lines_before-added (added_at b.base (b.seen).start) (before_of b))

-- the text of one line more, without its line feed
module _ (b : BookState) (e : Event) (o out : OutState) (due : Bool) (h : IsBook b)
    (w : b.failed ≡ false) (is : b.out ≡ with_feed due o)
    (says : Says o (feed due ++ joined (tokens_at b.base b.added e)) out) where
  abbrev es : List Event
  es = (b.seen).events

  abbrev line : List ℕ
  line = joined (tokens_at b.base (before_of b + added_count (lines_of es)) e)

  said_open : Says (fresh (b.seen).origin) (book_text b ++ line) out
  said_open =
      says_behind (fresh (b.seen).origin) o out due (book_text b) line
      (subst (Says (fresh (b.seen).origin) (book_text b)) is h.said)
      (sym (ap (λ (x : OutState). x.failed) is) ∙ h.works w)
      (subst (λ k. Says o (feed due ++ joined (tokens_at b.base k e)) out)
      (h.added w ∙ all_added b) says)

  said_next : Says (fresh (b.seen).origin) (book_text (record b { seen = seen_next e b.seen }))
      (with_feed true out)
  said_next =
      let tokens = tokens_at b.base (before_of b + added_count (lines_of es)) e in
      says_as (fresh (b.seen).origin) (with_feed true out) _ _
      (append_assoc (book_text b) line (10 ∷ [])
      ∙ ap (λ z. book_text b ++ z) (sym (spaced-joined tokens))
      ∙ text_of-push b.base (before_of b) es e)
      (says_feed (fresh (b.seen).origin) out (book_text b ++ line) refl said_open)

long_more : (b : BookState) (e : Event)
    → length (earlier_lines b.base (b.seen).start ++ lines_of ((b.seen).events ++ e ∷ []))
    ≡ length (log_lines b) + length (lines_in e)
long_more b e = ap length (lines_more b e) ∙ length-append (log_lines b) (lines_in e)

added_more : (b : BookState) (e : Event)
    → added_count (earlier_lines b.base (b.seen).start ++ lines_of ((b.seen).events ++ e ∷ []))
    ≡ added_count (log_lines b) + added_count (lines_in e)
added_more b e = ap added_count (lines_more b e) ∙ added-append (log_lines b) (lines_in e)

module _ (b : BookState) (e : Event) (o out : OutState) (due : Bool) (h : IsBook b)
    (w : b.failed ≡ false) (is : b.out ≡ with_feed due o)
    (says : Says o (feed due ++ joined (tokens_at b.base b.added e)) out) where
  abbrev noted : BookState
  noted = record {
    seen = seen_next e b.seen;
    out = with_feed true out;
    base = b.base;
    lines = b.lines + length (lines_in e);
    added = b.added + added_count (lines_in e);
    failed = false;
  }

  pub notes : b.lines + length (lines_in e) < LINE_LIMIT → out.failed ≡ false → IsBook noted
  notes room works =
      let long = long_more b e in
      let added = added_more b e in
      let said = said_next b e o out due h w is says in
      let lines : noted.lines ≡ length (log_lines noted) = omega (arith, h.lines w, long) in
      record {
        small = h.small;
        short = room;
        said = said;
        within = omega (arith, lines);
        lines = λ _. lines;
        added = λ _. omega (arith, h.added w, added);
        works = λ _. works;
        begun = begun_all noted lines said;
      }

  pub fails_at : IsBook (record {
    seen = seen_next e b.seen;
    out = with_feed true out;
    base = b.base;
    lines = b.lines;
    added = b.added;
    failed = true;
  })
  fails_at = record {
    small = h.small;
    short = h.short;
    said = said_next b e o out due h w is says;
    within = omega (arith, h.within, long_more b e);
    lines = λ f. absurd (false≢true (sym f));
    added = λ f. absurd (false≢true (sym f));
    works = λ f. absurd (false≢true (sym f));
    begun = record {
      front = (b.seen).events;
      rest = e ∷ [];
      split = refl;
      lines = h.lines w;
      part = begun_part (b.seen).origin out (book_text b ++ line b e o out due h w is says)
          (said_open b e o out due h w is says);
    };
  }

-- all of it was written, or not
pub flushes : (b : BookState) (o out : OutState) (due failed : Bool) → IsBook b → b.failed ≡ false
    → b.out ≡ with_feed due o → Says o (feed due ++ []) out
    → (failed ≡ false → out.failed ≡ false)
    → IsBook (record b { out = with_feed false out; failed = failed })
flushes b o out due failed h w is says works =
    let origin = (b.seen).origin in
    let said : Says (fresh origin) (book_text b) out =
    says_as (fresh origin) out _ _ (append-nil (book_text b))
    (says_behind (fresh origin) o out due (book_text b) []
    (subst (Says (fresh origin) (book_text b)) is h.said)
    (sym (ap (λ (x : OutState). x.failed) is) ∙ h.works w) says) in record {
      small = h.small;
      short = h.short;
      said = said;
      within = h.within;
      lines = λ _. h.lines w;
      added = λ _. h.added w;
      works = works;
      begun = begun_all (record b { out = out; failed = failed }) (h.lines w) said;
    }

-- nothing is written any more
pub fails : (b : BookState) → IsBook b → IsBook (failed_book b)
fails b h = record {
  small = h.small;
  short = h.short;
  said = h.said;
  within = h.within;
  lines = λ f. absurd (false≢true (sym f));
  added = λ f. absurd (false≢true (sym f));
  works = λ f. absurd (false≢true (sym f));
  begun = record {
    front = (h.begun).front;
    rest = (h.begun).rest;
    split = (h.begun).split;
    lines = (h.begun).lines;
    part = (h.begun).part;
  };
}
