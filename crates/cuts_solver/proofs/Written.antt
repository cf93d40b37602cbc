-- What a log that works has written.
use Rattle.std.proofs.Common.{◌≡◌, ℕ, ◌≤◌, Bool, true, false, List, [], ◌++◌, Option, length}
use Rattle.std.proofs.Common.{refl, sym, ◌∙◌, ap, subst, arith, append-nil, None, Ok}
use Rattle.std.specs.Io.KnownBytes.{Appends}
use Rattle.std.proofs.lemmas.List.{take_all}
use Rattle.std.proofs.lemmas.List.Elements.{All-nil}
use Rattle.cnf.specs.Clause.{greatest_variable}
use Rattle.cnf.specs.Instance.{IsInstance}
use Rattle.cnf.specs.Literal.{Literal}
use Rattle.bound.specs.Weighted.{weighted_cnf}
use Rattle.lrat_log.specs.declared.lines.Name.{Name}
use Rattle.lrat_log.specs.Log.{Given, LogLine}
use Rattle.lrat_log.specs.Steps.{given_of}
use Rattle.lrat_log.specs.Axioms.{FollowByRup, IsOpenLogOver, StaysOpenLogOver}
use Rattle.cdcl_search.specs.Running.{is_refuted}
use Rattle.lrat_cuts.specs.Verdict.{judged_text}
use Rattle.cuts_log.specs.Books.{IsBook, book_text}
use Rattle.cuts_log.specs.Judging.{BegunTextsAreRight, HasRightLines, IsEarlier, LogsEnd}
use Rattle.cuts_log.specs.Judging.{NothingIsCheaper, TextsAreRight}
use Rattle.cuts_log.specs.Logs.{IsKept, LogState, SameLog, all_lines, lines_seen, problem_of}
use Rattle.cuts_log.specs.Logs.{start_of}
use Rattle.cuts_log.specs.Outs.{OutState, Says, fresh}
use Rattle.cuts_solver.specs.Solving.{HasBegunToWrite, HasWritten, IsLeast, IsRightText}
use Rattle.cuts_solver.specs.Solving.{IsSolver, SolverState}
use Rattle.cuts_solver.specs.Solving.{instance_of}
use Rattle.cuts_solver.proofs.Ended.{still_open}
use Rattle.cuts_solver.proofs.Working.{open_same}

-- a writer has all of what was put out, where nothing is held
begun_whole : (origin : Option (List ℕ)) (out : OutState) (text : List ℕ)
    → Says (fresh origin) text out → out.failed ≡ false → out.held ≡ []
    → Appends origin out.had text
begun_whole origin out text said works none =
    let p = (said.whole works).1 in
    subst (Appends origin out.had)
    (sym (p.split ∙ ap (λ z. p.written ++ z) none ∙ append-nil p.written)) p.appended

-- the lines of a log that works are all seen
all_seen : (l : LogState) → IsBook l.book → (l.book).failed ≡ false
    → lines_seen l ≡ all_lines l
all_seen l h works =
    take_all (l.book).lines (all_lines l) (omega (arith, h.lines works))

-- what is known of them over the clauses of the formula
pub record AreProved (l : LogState) : Type 0 where
  pub open_log : IsOpenLogOver (given_of (weighted_cnf (problem_of l)).clauses) (all_lines l)
  pub follows : FollowByRup (given_of (weighted_cnf (problem_of l)).clauses) (l.book).base []
      (all_lines l)

-- where no further clauses are given
open_only : (n : ℕ) (given same : Given) (ls : List LogLine) → given ≡ same
    → StaysOpenLogOver n given ls → IsOpenLogOver same ls
open_only n given same ls is stays =
    subst (λ g. IsOpenLogOver g ls) is
    (subst (λ g. IsOpenLogOver g ls) (append-nil given)
    (stays [] (All-nil (λ (g : Name × List Literal). greatest_variable g.1 ≤ n))))

pub are_proved : (n : ℕ) (given : Given) (l : LogState) → IsKept l → IsBook l.book
    → (l.book).failed ≡ false → given ≡ given_of (weighted_cnf (problem_of l)).clauses
    → StaysOpenLogOver n given (lines_seen l)
    → FollowByRup given (length (weighted_cnf (problem_of l)).clauses) [] (lines_seen l)
    → AreProved l
are_proved n given l kept book works same stays follows =
    let seen = all_seen l book works in
    record {
      open_log =
          subst (IsOpenLogOver (given_of (weighted_cnf (problem_of l)).clauses)) seen
          (open_only n given _ (lines_seen l) same stays);
      follows =
          subst (λ g. FollowByRup g (l.book).base [] (all_lines l)) same
          (subst (λ b. FollowByRup given b [] (all_lines l)) (sym kept.base)
          (subst (FollowByRup given (length (weighted_cnf (problem_of l)).clauses) []) seen
          follows));
    }

-- the log has ended just where the empty clause was added
ended_is : (l : LogState) (refuted : Bool) → IsKept l → IsBook l.book → (l.book).failed ≡ false
    → AreProved l → is_refuted (lines_seen l) ≡ refuted → LogsEnd → (l.standing).ended ≡ refuted
ended_is l refuted kept book works proved is ends = by refuted refl
  where
    is_in : is_refuted (all_lines l) ≡ refuted
    is_in = sym (ap is_refuted (all_seen l book works)) ∙ is

    by : (b : Bool) → refuted ≡ b → (l.standing).ended ≡ refuted
    by true e = ends l kept book works (proved.open_log).stops (is_in ∙ e) ∙ sym e
    by false e = still_open l kept works (is_in ∙ e) ∙ sym e

-- what leads to where it starts
before_same : (old new : LogState) (text : List ℕ) → SameLog old new
    → IsEarlier (problem_of old) (start_of old) text
    → IsEarlier (problem_of new) (start_of new) text
before_same old new text same b = record {
  judged =
      subst (λ q. judged_text None q text ≡ Ok (start_of new)) (sym same.problem)
      (b.judged ∙ ap Ok (sym same.start));
  ended = b.ended;
}

-- the text of such a log is right
right_text : (s : SolverState) (l : LogState) → IsSolver s → s.failed ≡ false → IsKept l
    → IsBook l.book → (l.book).failed ≡ false → SameLog s.log l
    → lines_seen l ≡ lines_seen s.log → LogsEnd → TextsAreRight
    → (before : List ℕ) → IsEarlier (problem_of s.log) (start_of s.log) before
    → IsRightText (instance_of s) (s.log).cost s.refuted (before ++ book_text l.book)
right_text s l h on kept book works same lines ends texts before first =
    let w = h.working on in
    let o = h.lines in
    let n = length ((s.input).frozen).items in
    let given = (s.input).given in
    let proved =
    are_proved n given l kept book works
    (h.given ∙ ap (λ q. given_of (weighted_cnf q).clauses) (sym same.problem))
    (subst (StaysOpenLogOver n given) (sym lines) o.stays)
    (subst (λ q. FollowByRup given (length (weighted_cnf q).clauses) [] (lines_seen l))
    (sym same.problem)
    (subst (FollowByRup given (length (weighted_cnf (instance_of s)).clauses) []) (sym lines)
    o.follows)) in
    let t = texts l l.cost before kept book works (omega arith)
    (before_same s.log l before same first) proved.open_log proved.follows in
    let ended =
    ended_is l s.refuted kept book works proved (ap is_refuted lines ∙ w.refuted_is) ends in
    let text = before ++ book_text l.book in
    subst (λ q. IsRightText q (s.log).cost s.refuted text) same.problem
    (subst (λ k. IsRightText (problem_of l) k s.refuted text) same.cost
    (t.0, t.1, t.2 ∙ ended))

-- the writer has all lines of a solver, where nothing of them is held
pub has_written : (s : SolverState) (l : LogState) → IsSolver s → s.failed ≡ false → IsKept l
    → IsBook l.book → (l.book).failed ≡ false → ((l.book).out).held ≡ [] → SameLog s.log l
    → lines_seen l ≡ lines_seen s.log → LogsEnd → TextsAreRight
    → HasWritten s ((l.book).out).had
has_written s l h on kept book works none same lines ends texts =
    let b = l.book in
    let text = book_text b in (
      text,
      subst (λ o. Appends o (b.out).had text) same.origin
          (begun_whole (b.seen).origin b.out text book.said (book.works works) none),
      right_text s l h on kept book works same lines ends texts,
    )

-- or some of them, which are right
pub has_begun_to_write : (s : SolverState) (l : LogState) → IsSolver s → IsKept l → IsBook l.book
    → SameLog s.log l → lines_seen l ≡ lines_seen s.log → BegunTextsAreRight
    → HasBegunToWrite s ((l.book).out).had
has_begun_to_write s l h kept book same lines begun =
    let open_lines = open_same s.input s.log l h.lines same lines in
    let given : (s.input).given ≡ given_of (weighted_cnf (problem_of l)).clauses =
    h.given ∙ ap (λ q. given_of (weighted_cnf q).clauses) (sym same.problem) in
    let log : IsOpenLogOver (given_of (weighted_cnf (problem_of l)).clauses) (lines_seen l) =
    open_only (length ((s.input).frozen).items) (s.input).given _ (lines_seen l) given
    open_lines.stays in
    let follows =
    subst (λ b. FollowByRup (given_of (weighted_cnf (problem_of l)).clauses) b [] (lines_seen l))
    (sym kept.base)
    (subst (λ g. FollowByRup g (length (weighted_cnf (problem_of l)).clauses) [] (lines_seen l))
    given open_lines.follows) in
    let w = begun l kept book log follows in (
      w.0,
      subst (λ o. Appends o ((l.book).out).had w.0) same.origin w.1,
      λ before first.
          subst (λ q. HasRightLines q (s.log).cost before w.0) same.problem
          (subst (λ k. HasRightLines (problem_of l) k before w.0) same.cost
          (w.2 before (before_same s.log l before same first))),
    )

-- where the log has ended, nothing costs less
pub nothing_less : (n : ℕ) (given : Given) (l : LogState) → IsKept l → IsBook l.book
    → (l.book).failed ≡ false → given ≡ given_of (weighted_cnf (problem_of l)).clauses
    → StaysOpenLogOver n given (lines_seen l)
    → FollowByRup given (length (weighted_cnf (problem_of l)).clauses) [] (lines_seen l)
    → is_refuted (lines_seen l) ≡ true → IsInstance (problem_of l) → LogsEnd → NothingIsCheaper
    → IsLeast l
nothing_less n given l kept book works same stays follows refuted fine ends cheaper =
    let proved = are_proved n given l kept book works same stays follows in
    cheaper l kept book works proved.open_log proved.follows
    (ended_is l true kept book works proved refuted ends) fine
