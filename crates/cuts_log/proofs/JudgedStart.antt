-- A whole log, from where it starts.
use Rattle.std.proofs.Common.{◌≡◌, ℕ, zero, suc, ◌+◌, ◌-◌, ◌<◌, ◌≤◌, true, false, List, [], ◌∷◌}
use Rattle.std.proofs.Common.{◌++◌, length, Option, Some, None, Ok, refl, sym, ◌∙◌, ap, subst}
use Rattle.std.proofs.Common.{arith, inl, inr, length-append, replicate}
use Rattle.std.specs.Prelude.{All, slice_get, slice_index_or}
use Rattle.std.specs.List.{AllByRecursion}
use Rattle.std.proofs.lemmas.Bool.{cases_eq, cases_lt, false≢true}
use Rattle.std.proofs.lemmas.List.Elements.{All-append, All-weaker, recursion_from_All}
use Rattle.cnf.specs.Clause.{has_repeat}
use Rattle.cnf.specs.Formula.{numbered}
use Rattle.cnf.specs.Literal.{Literal}
use Rattle.cnf.specs.Lrat.{Live}
use Rattle.cnf.specs.Problem.{Problem}
use Rattle.cnf.specs.declared.limits.TheConstants.{NUMBER_LIMIT}
use Rattle.adder.specs.declared.profiles.Profile.TheVariants.{Two}
use Rattle.bound.specs.Bound.{kept, relaxed_clauses}
use Rattle.bound.specs.Weighted.{weighted_cnf}
use Rattle.bound.proofs.Laws.{kept_once}
use Rattle.lrat_live.specs.Listed.{Listed, listed_at}
use Rattle.lrat_live.proofs.Laws.{listed_there}
use Rattle.lrat_log.specs.Axioms.{FollowByRup, IsOpenLogOver, OpenChain}
use Rattle.lrat_log.specs.Log.{numbered_lines, start_over}
use Rattle.lrat_log.specs.Steps.{added_count, given_of, live_after}
use Rattle.lrat_log.proofs.Laws.{additions_few, base_of, given_at-given_of, live_chain, live_end}
use Rattle.lrat_log.proofs.Laws.{none_of, open_split}
use Rattle.lrat_cuts.specs.Cuts.{CutsState, judged_lines}
use Rattle.lrat_cuts.proofs.Laws.{have_ids}
use Rattle.cuts_log.specs.Books.{IsBook, before_of}
use Rattle.cuts_log.specs.Events.{lines_of, tokens_on}
use Rattle.cuts_log.specs.Given.{AreLive, all_live}
use Rattle.cuts_log.specs.Judging.{IsUpTo, StepsAreRight}
use Rattle.cuts_log.specs.Logs.{IsKept, LogState, all_lines, events_of, problem_of, start_of}
use Rattle.cuts_log.specs.Stands.{stand_at}
use Rattle.cuts_log.specs.Starts.{IsStart, added_at, earlier_lines}
use Rattle.cuts_log.proofs.EarlierLines.{Leaves, follow_behind, lines_before-added, lines_leave}
use Rattle.cuts_log.proofs.EarlierLines.{stops_behind}
use Rattle.cuts_log.proofs.JudgedLogs.{log_judged, start_stands}
use Rattle.cuts_log.proofs.JudgedPlain.{Matches}
use Rattle.cuts_log.proofs.JudgedSteps.{Follow, Stands, follow_on, steps_right}

single_at : (cs : List (List Literal)) → AllByRecursion (λ c. has_repeat c ≡ false) cs → (i : ℕ)
    (c : List Literal) → slice_get cs i ≡ Some c → has_repeat c ≡ false
single_at [] h i c e = absurd (cc)
single_at (d ∷ cs) h zero c e = let same : d ≡ c = cc in subst (λ x. has_repeat x ≡ false) same h.0
single_at (d ∷ cs) h (suc i) c e = single_at cs h.1 i c e

single_numbered : (cs : List (List Literal)) → AllByRecursion (λ c. has_repeat c ≡ false) cs
    → (i : ℕ) (c : List Literal) → numbered cs i ≡ Some c → has_repeat c ≡ false
single_numbered cs h zero c e = absurd (cc)
single_numbered cs h (suc i) c e = single_at cs h i c e

weighted_once : (p : Problem) → All (λ c. has_repeat c ≡ false) (weighted_cnf p).clauses
weighted_once p = All-append (λ (c : List Literal). has_repeat c ≡ false) (kept p.hard)
    (kept (relaxed_clauses Two p)) (kept_once p.hard) (kept_once (relaxed_clauses Two p))

-- the formula under its numbers
some_at : (cs : List (List Literal)) (i : ℕ) → i < length cs
    → (c : List Literal) × (slice_get cs i ≡ Some c)
some_at [] i h = absurd (omega (arith, h))
some_at (c ∷ cs) zero h = (c, refl)
some_at (c ∷ cs) (suc i) h = some_at cs i (omega (arith, h))

flag_at : (n i : ℕ) → i < n → slice_index_or (replicate n true) i false ≡ true
flag_at zero i h = absurd (omega (arith, h))
flag_at (suc n) zero h = refl
flag_at (suc n) (suc i) h = flag_at n i (omega (arith, h))

-- where the whole formula is live
formula_listed : (cs : List (List Literal)) (es : Listed) → AreLive (all_live cs) es → (i : ℕ)
    → 0 < i → i ≤ length cs → listed_at es i ≡ numbered cs i
formula_listed cs es h zero some le = absurd (omega (arith, some))
formula_listed cs es h (suc i) some le =
    let below : i < length cs = omega (arith, le) in
    let w = some_at cs i below in
    let flag = flag_at (length cs) i below in
    h (suc i) w.0 (rw flag w.1) ∙ sym w.1

-- what is found in a list is in it
listed_in : (P : ℕ → Type 0) (es : Listed) (i : ℕ) (c : List Literal)
    → AllByRecursion (λ (e : ℕ × List Literal). P e.0) es → listed_at es i ≡ Some c → P i
listed_in P [] i c h e = absurd (cc)
listed_in P (x ∷ es) i c h e =
    elim (cases_eq x.0 i) [
      | inl t ↦ subst P t h.0
      | inr f ↦ listed_in P es i c h.1 (sym (listed_there x es i f) ∙ e)
    ]

-- the checker where the log starts, and what is live behind the lines that stand for that
module _ (p : Problem) (s : CutsState) (h : IsStart p s) (live : Live) where
  abbrev cs : List (List Literal)
  cs = (weighted_cnf p).clauses

  abbrev Left : Type 0
  Left = Leaves (given_of cs) (length cs) (added_at (length cs) s) (s.last - length cs) live

  have : All (λ e. (0 < e.0) × (e.0 ≤ s.last)) s.live
  have = have_ids p None (h.reached).0 s (h.reached).1

  listed_within : (i : ℕ) (c : List Literal) → listed_at s.live i ≡ Some c
      → (0 < i) × (i ≤ s.last)
  listed_within i c e = listed_in (λ j. (0 < j) × (j ≤ s.last)) s.live i c
      (recursion_from_All (λ (x : ℕ × List Literal). (0 < x.0) × (x.0 ≤ s.last)) s.live have) e

  low_same : Left → (i : ℕ) → i ≤ length cs → listed_at s.live i ≡ live.clause_at i
  low_same w zero le =
      none_of (listed_at s.live 0)
      (λ c e. let w = listed_within 0 c e in absurd (omega (arith, w.0)))
      ∙ sym (w.low 0 le ∙ given_at-given_of cs 0)
  low_same w (suc i) le =
      formula_listed cs s.live h.formula (suc i) (omega arith) le
      ∙ sym (w.low (suc i) le ∙ given_at-given_of cs (suc i))

  all_same : Left → (i : ℕ) → listed_at s.live i ≡ live.clause_at i
  all_same w i =
      elim (cases_lt (length cs) i) [
        | inr low ↦ low_same w i low
        | inl above ↦ elim (cases_lt s.last i) [
          | inr le ↦
              let j = i - length cs in
              let place : length cs + j ≡ i = omega (arith, above) in
              let here = w.here j (omega (arith, above)) (omega (arith, above, le)) in
              ap (listed_at s.live) (sym place) ∙ sym here ∙ ap live.clause_at place
          | inl past ↦
              none_of (listed_at s.live i)
              (λ c e. let w = listed_within i c e in absurd (omega (arith, w.1, past)))
              ∙ sym (w.high i (omega (arith, past, h.last)))
        ]
      ]

  once : Left → (i : ℕ) (c : List Literal) → listed_at s.live i ≡ Some c → has_repeat c ≡ false
  once w i c e =
      elim (cases_lt (length cs) i) [
        | inr low ↦
            single_numbered cs (recursion_from_All (λ d. has_repeat d ≡ false) cs (weighted_once p))
            i c (sym (given_at-given_of cs i) ∙ sym (w.low i low) ∙ sym (all_same w i) ∙ e)
        | inl above ↦
            let j = i - length cs in
            let place : length cs + j ≡ i = omega (arith, above) in
            let within = listed_within i c e in
            w.single j c (omega (arith, above)) (omega (arith, above, within.1))
            (ap (listed_at s.live) place ∙ e)
      ]

  pub start_matches : Left → Matches s.live s.last live
  start_matches w = record {
    clauses = all_same w;
    last_is = omega (arith, w.last, h.last);
    up_to = All-weaker (λ (x : ℕ × List Literal). (0 < x.0) × (x.0 ≤ s.last))
        (λ x. x.0 ≤ s.last) (λ x w. w.1) s.live have;
    single = once w;
    in_range = λ i c e. listed_within i c (all_same w i ∙ e);
  }

-- the checker before the lines of a log
abbrev pub StartsAt : LogState → Live → Type 0
StartsAt l live =
    Stands (l.book).base (before_of l.book) (start_of l) live (lines_of (events_of l))

pub start_right : (l : LogState) → IsKept l → IsBook l.book → (l.book).failed ≡ false
    → IsOpenLogOver (given_of (weighted_cnf (problem_of l)).clauses) (all_lines l)
    → FollowByRup (given_of (weighted_cnf (problem_of l)).clauses) (l.book).base []
    (all_lines l)
    → (live : Live) × StartsAt l live
start_right l h book works log follows =
    let p = problem_of l in
    let s = start_of l in
    let cs = (weighted_cnf p).clauses in
    let given = given_of cs in
    let base = (l.book).base in
    let before = earlier_lines base s in
    let own = lines_of (events_of l) in
    let n = s.last - base in
    let size : base ≡ length cs = h.base in
    let above = base_of cs base (omega (arith, size)) in
    let first = start_over given base in
    let whole = live_after first (numbered_lines base (before ++ own)) in
    let parts = open_split base 0 first whole before own (log.steps base above) in
    let mid = parts.0 in
    let count : added_count before ≡ n = lines_before-added (added_at base s) n in
    let left : Leaves given base (added_at base s) n mid =
    lines_leave given base (added_at base s) n mid above parts.1 in
    let matches : Matches s.live s.last mid = start_matches p s h.start mid
    (subst (λ b. Leaves given b (added_at b s) (s.last - b) mid) size left) in
    let ends : mid ≡ live_after first (numbered_lines base before) =
    live_end first mid (numbered_lines base before) (live_chain base 0 first mid before parts.1) in
    let follow = follow_on given base before own (follow_behind given base [] before own follows) in
    let few = additions_few before in
    let long = length-append before own in
    let room : base + n + length own < NUMBER_LIMIT =
    omega (arith, book.small, book.short, book.lines works, few, count, long) in (
      mid,
      record {
        lines = record {
          matches = matches;
          last_is = omega (arith, size, (h.start).last);
          stops = stops_behind before own log.stops;
          follow = subst (λ x. Follow base n x own) (sym ends)
              (subst (λ k. Follow base k (live_after first (numbered_lines base before)) own) count
              follow);
          left = whole;
          chain = subst (λ k. OpenChain base k mid own whole) (omega (arith, count)) parts.2;
          room = room;
        };
        ended = λ e. absurd (false≢true (sym (h.start).open_end ∙ e));
      },
    )

pub step_judged : (o : Option ℕ) (l : LogState) → IsKept l → IsBook l.book
    → (l.book).failed ≡ false → IsUpTo l.cost o
    → IsOpenLogOver (given_of (weighted_cnf (problem_of l)).clauses) (all_lines l)
    → FollowByRup (given_of (weighted_cnf (problem_of l)).clauses) (l.book).base []
    (all_lines l)
    → (t : CutsState) × (judged_lines o (start_of l) 1
    (tokens_on (l.book).base (before_of l.book) (events_of l)) ≡ Ok t)
    × (t.forms ≡ (l.standing).forms) × (t.ended ≡ (l.standing).ended)
step_judged o l h book works up log follows =
    let p = problem_of l in
    let s = start_of l in
    let base = (l.book).base in
    let right = start_right l h book works log follows in
    log_judged o l h works up (steps_right o l.cost base (before_of l.book) up s (stand_at p s)
    h.left (events_of l) right.0 (start_stands p base s h.start h.base) h.taken right.1)

pub steps_judged : StepsAreRight
steps_judged l k h book works le log follows =
    step_judged (Some k) l h book works le log follows
