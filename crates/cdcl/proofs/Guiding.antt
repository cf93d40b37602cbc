-- Turns of a search, and what they write.
use Rattle.std.proofs.Common.{◌≡◌, ℕ, ◌+◌, ◌<◌, ◌≤◌, Bool, true, false, cond, List, [], ◌∷◌, ◌++◌}
use Rattle.std.proofs.Common.{Option, Some, None, length, inl, inr, refl, sym, ◌∙◌, ap, subst}
use Rattle.std.proofs.Common.{append_assoc, arith}
use Rattle.std.specs.Prelude.{Result, Ok, IsErr, IfSome, IfNone, All}
use Rattle.std.proofs.lemmas.Bool.{false≢true, true≢false}
use Rattle.std.proofs.lemmas.List.Elements.{All-nil, All-cons, All-append, All-weaker}
use Rattle.std.proofs.lemmas.List.Elements.{All-head, All-tail}
use Rattle.std.proofs.lemmas.List.Sums.{sum_by-append, sum_by-cons}
use Rattle.std.proofs.lemmas.Result.{IfOk-weaker, IfOk-from_err}
use Rattle.cnf.specs.Literal.{Literal}
use Rattle.propagate.specs.Trail.{literals_of}
use Rattle.analyze.specs.Analyzer.{IsFixpoint}
use Rattle.lrat_log.specs.Log.{LogLine, Given, is_axiom, is_learned, axiom_line}
use Rattle.lrat_log.specs.Steps.{IsLearnedOrShort, LearnsNew, nothing_exempt}
use Rattle.lrat_log.specs.Axioms.{FollowByRup, TakesNoAxiom}
use Rattle.lrat_log.proofs.Laws.{when_err, follow_append}
use Rattle.cdcl_order.specs.Budgets.{BudgetState, left_of}
use Rattle.cdcl_search.specs.declared.input.Input.{Input}
use Rattle.cdcl_search.specs.declared.search.Search.{Search}
use Rattle.std.specs.declared.vec.Vec.{Vec}
use Rattle.std.specs.declared.alloc.Global.{Global}
use Rattle.cdcl_search.specs.Cores.{IsShown}
use Rattle.cdcl_search.specs.Invariant.{zero_of}
use Rattle.cdcl_search.specs.Running.{Runs, Writes, StaysOpen}
use Rattle.cdcl_search.proofs.Laws.{learns_join, writes_none}
use Rattle.cdcl.specs.declared.guided.GuidedEnd.{GuidedEnd}
use Rattle.cdcl.specs.Turns.{RoundGoesOn}
use Rattle.cdcl.specs.Guiding.{axiom_count, IsGuidedLine, WritesOpen, PaysOpen, IsGuidedEnd}
use Rattle.cdcl.specs.declared.guided.cutting.Taking.{Taking}
use Rattle.cdcl.specs.declared.guided.cutting.Taking.TheVariants.{Refused}
use Rattle.cdcl.specs.Guiding.{IsStopped, GuidedEnds, GuidedTurns, IsTaking, TakesCut, FindsCore}
use Rattle.cdcl.proofs.Rounds.{fewer_before}

-- What is written.

none_outside : (ls : List LogLine) → TakesNoAxiom ls → axiom_count ls ≡ 0
none_outside [] own = refl
none_outside (l ∷ ls) own =
    let one = sum_by-cons (λ (k : LogLine). cond (is_axiom k.kind) 1 0) l ls in
    let zero : ◌≡◌ {A = ℕ} (cond (is_axiom l.kind) 1 0) 0 = ap (λ b. cond b 1 0) own.0 in
    let rest = none_outside ls own.1 in
    one ∙ omega (arith, zero, rest)

-- lines of which none came from outside
pub open_writes : (given : Given) (a b : List LogLine) (n : ℕ) → Writes given a b n
    → WritesOpen given a b n
open_writes given a b n w = record {
  more = w.more;
  grows = w.grows;
  lines = All-weaker IsLearnedOrShort IsGuidedLine (λ l h. inr h) w.more w.short;
  spent_is =
      let none = none_outside w.more w.own in let learned = w.learned_is in omega arith;
  new = w.new;
  follows = w.follows;
}

-- one that did
pub open_axiom : (given : Given) (ls : List LogLine) (c : List Literal)
    → WritesOpen given ls (ls ++ axiom_line c ∷ []) 1
open_axiom given ls c = record {
  more = axiom_line c ∷ [];
  grows = refl;
  lines = All-cons IsGuidedLine (axiom_line c) [] (inl refl) (All-nil IsGuidedLine);
  spent_is = refl;
  new = λ base above. (λ e. absurd (false≢true e), tt);
  follows = λ base above. (λ adds own. absurd (false≢true (sym own)), tt);
}

pub open_join : (given : Given) (a b c : List LogLine) (m n : ℕ) → WritesOpen given a b m
    → WritesOpen given b c n → WritesOpen given a c (m + n)
open_join given a b c m n v w = record {
  more = v.more ++ w.more;
  grows = w.grows ∙ ap (λ x. x ++ w.more) v.grows ∙ append_assoc a v.more w.more;
  lines = All-append IsGuidedLine v.more w.more v.lines w.lines;
  spent_is =
      let learned = sum_by-append (λ (l : LogLine). cond (is_learned l.kind) 1 0) v.more w.more in
      let outside = sum_by-append (λ (l : LogLine). cond (is_axiom l.kind) 1 0) v.more w.more in
      let x = v.spent_is in let y = w.spent_is in omega arith;
  new =
      λ base above. learns_join given base a v.more w.more (v.new base above)
      (subst (λ x. LearnsNew nothing_exempt given base x w.more) v.grows (w.new base above));
  follows =
      λ base above. follow_append given base a v.more w.more (v.follows base above)
      (subst (λ x. FollowByRup given base x w.more) v.grows (w.follows base above));
}

-- Where no line of the log came from outside.

no_axiom : (k : Bool) → ◌≡◌ {A = ℕ} (cond k 1 0) 0 → k ≡ false
no_axiom true e = absurd (omega (arith, e))
no_axiom false e = refl

plain_lines : (ls : List LogLine) → axiom_count ls ≡ 0 → All IsGuidedLine ls
    → All IsLearnedOrShort ls × TakesNoAxiom ls
plain_lines [] none lines = (All-nil IsLearnedOrShort, tt)
plain_lines (l ∷ ls) none lines =
    let one = sum_by-cons (λ (k : LogLine). cond (is_axiom k.kind) 1 0) l ls in
    let own = no_axiom (is_axiom l.kind) (omega (arith, one, none)) in
    let rest =
    plain_lines ls (omega (arith, one, none)) (All-tail IsGuidedLine l ls lines) in
    elim (All-head IsGuidedLine l ls lines) [
      | inl outside ↦ absurd (true≢false (sym outside ∙ own))
      | inr h ↦ (All-cons IsLearnedOrShort l ls h rest.0, (own, rest.1))
    ]

pub plain_writes : (given : Given) (a b : List LogLine) (n : ℕ) → axiom_count b ≡ 0
    → WritesOpen given a b n → Writes given a b n
plain_writes given a b n none w =
    let parts = sum_by-append (λ (l : LogLine). cond (is_axiom l.kind) 1 0) a w.more in
    let all : axiom_count (a ++ w.more) ≡ 0 = ap axiom_count (sym w.grows) ∙ none in
    let more : axiom_count w.more ≡ 0 = omega (arith, parts, all) in
    let lines = plain_lines w.more more w.lines in
    record {
      more = w.more;
      grows = w.grows;
      short = lines.0;
      learned_is = let spent = w.spent_is in omega (arith, more, spent);
      new = w.new;
      own = lines.1;
      follows = w.follows;
    }

-- What is paid.

pub paid_none : (given : Given) (a b : List LogLine) (s : BudgetState) → Writes given a b 0
    → PaysOpen given a b s s
paid_none given a b s w =
    let e : s.learned ≡ s.learned + 0 = omega arith in (
      0,
      open_writes given a b 0 w,
      λ i. record {
        limit = s.limit;
        learned = e i;
        answers = s.answers;
        waived = s.waived;
      },
    )

pub paid_nothing : (given : Given) (a : List LogLine) (s : BudgetState) → PaysOpen given a a s s
paid_nothing given a s = paid_none given a a s (writes_none given a)

pub paid_join : (given : Given) (a b c : List LogLine) (s t u : BudgetState)
    → PaysOpen given a b s t → PaysOpen given b c t u → PaysOpen given a c s u
paid_join given a b c s t u v w =
    let e : s.learned + v.0 + w.0 ≡ s.learned + (v.0 + w.0) = omega arith in (
      v.0 + w.0,
      open_join given a b c v.0 w.0 v.1 w.1,
      w.2 ∙ ap (λ (x : BudgetState). record {
        limit = x.limit;
        learned = x.learned + w.0;
        answers = x.answers;
        waived = u.waived;
      }) v.2
          ∙ (λ i. record {
            limit = s.limit;
            learned = e i;
            answers = s.answers;
            waived = u.waived;
          }),
    )

-- only what the watch waives was taken from the budget
pub paid_waived : (given : Given) (a : List LogLine) (s t : BudgetState)
    → t ≡ record s { waived = t.waived } → PaysOpen given a a s t
paid_waived given a s t same =
    let e : s.learned ≡ s.learned + 0 = omega arith in (
      0,
      open_writes given a a 0 (writes_none given a),
      same ∙ (λ i. record {
        limit = s.limit;
        learned = e i;
        answers = s.answers;
        waived = t.waived;
      }),
    )

-- How a turn ends.

pub guided_fails : {E : Type 0} (result : Result GuidedEnd E) (new : Search) (p : Input)
    (before after : List LogLine) (had left : BudgetState) → IsErr result → StaysOpen p after
    → PaysOpen p.given before after had left → GuidedEnds result new p before after had left
guided_fails result new p before after had left fails log pays = record {
  ends = IfOk-from_err result (IsGuidedEnd new p after left) fails;
  pays = pays;
  err = when_err result log;
}

pub guided_ends : {E : Type 0} (old new : Search) (p : Input) (before after : List LogLine)
    (had left : BudgetState) (end : GuidedEnd) → IsGuidedEnd new p after left end
    → PaysOpen p.given before after had left
    → GuidedTurns {E = E} (Ok (Some end)) old new p before after had left
guided_ends old new p before after had left end is pays =
    record { ends = is; goes = tt; pays = pays; err = tt }

pub guided_goes : {E : Type 0} (old new : Search) (p : Input) (before after : List LogLine)
    (had left : BudgetState) → RoundGoesOn old new p after had left
    → PaysOpen p.given before after had left
    → GuidedTurns {E = E} (Ok None) old new p before after had left
guided_goes old new p before after had left goes pays =
    record { ends = tt; goes = goes; pays = pays; err = tt }

pub guided_breaks : {E : Type 0} (result : Result (Option GuidedEnd) E) (old new : Search)
    (p : Input) (before after : List LogLine) (had left : BudgetState) → IsErr result
    → StaysOpen p after → PaysOpen p.given before after had left
    → GuidedTurns result old new p before after had left
guided_breaks result old new p before after had left fails log pays = record {
  ends = IfOk-from_err result (λ next. IfSome next (IsGuidedEnd new p after left)) fails;
  goes = IfOk-from_err result (λ next. IfNone next (RoundGoesOn old new p after had left)) fails;
  pays = pays;
  err = when_err result log;
}

-- under another name for what was given
pub turns_of : {E : Type 0} (result : Result (Option GuidedEnd) E) (old new : Search) (p q : Input)
    (before after : List LogLine) (had left : BudgetState) → p ≡ q
    → GuidedTurns result old new p before after had left
    → GuidedTurns result old new q before after had left
turns_of result old new p q before after had left same =
    subst (λ x. GuidedTurns result old new x before after had left) same

goes_after : (old mid new : Search) (p : Input) (after : List LogLine) (had left : BudgetState)
    → (mid.engine).variables ≡ (old.engine).variables → mid.policy ≡ old.policy
    → length (old.engine).trail ≤ length (mid.engine).trail → (next : Option GuidedEnd)
    → IfNone next (RoundGoesOn mid new p after had left) → IfNone next
    (RoundGoesOn old new p after had left)
goes_after old mid new p after had left variables policy longer (Some end) goes = tt
goes_after old mid new p after had left variables policy longer None goes = record {
  runs = goes.runs;
  fewer = fewer_before old mid new had left variables policy longer goes.fewer;
}

-- before the turn literals became true, and lines were written
pub guided_after : {E : Type 0} (result : Result (Option GuidedEnd) E) (old mid new : Search)
    (p : Input) (before between after : List LogLine) (had left : BudgetState)
    → (mid.engine).variables ≡ (old.engine).variables → mid.policy ≡ old.policy
    → length (old.engine).trail ≤ length (mid.engine).trail → Writes p.given before between 0
    → GuidedTurns result mid new p between after had left
    → GuidedTurns result old new p before after had left
guided_after result old mid new p before between after had left variables policy longer w t =
    record {
      ends = t.ends;
      goes =
          IfOk-weaker result (λ next. IfNone next (RoundGoesOn mid new p after had left))
          (λ next. IfNone next (RoundGoesOn old new p after had left))
          (goes_after old mid new p after had left variables policy longer) t.goes;
      pays =
          paid_join p.given before between after had had left
          (paid_none p.given before between had w) t.pays;
      err = t.err;
    }

-- What became of a clause from outside.

pub cut_refused : {E : Type 0} (s : Search) (p : Input) (ls more : List LogLine) (b : BudgetState)
    → more ≡ ls → TakesCut {E = E} (Ok Refused) s s p ls more b b
cut_refused s p ls more b same = record {
  takes = (refl, same, refl);
  pays = subst (λ x. PaysOpen p.given ls x b b) (sym same) (paid_nothing p.given ls b);
  kept = refl;
  err = tt;
}

pub cut_fails : {E : Type 0} (result : Result Taking E) (old new : Search) (p : Input)
    (before after : List LogLine) (had left : BudgetState) → IsErr result → StaysOpen p after
    → PaysOpen p.given before after had left → left.waived ≡ had.waived
    → TakesCut result old new p before after had left
cut_fails result old new p before after had left fails log pays kept = record {
  takes = IfOk-from_err result (IsTaking old new p before after had left) fails;
  pays = pays;
  kept = kept;
  err = when_err result log;
}

-- a unit was paid
pub waived_of : (s t : BudgetState) (n : ℕ) → t ≡ record s { learned = n } → t.waived ≡ s.waived
waived_of s t n paid = ap (λ (b : BudgetState). b.waived) paid

pub waived_kept : (s t : BudgetState) (n : ℕ) → t ≡ record s { learned = n }
    → t ≡ record s { learned = n; waived = t.waived }
waived_kept s t n paid =
    let kept = waived_of s t n paid in
    paid ∙ (λ i. record {
      limit = s.limit;
      learned = n;
      answers = s.answers;
      waived = sym kept i;
    })

-- the line of one, for which a unit was paid
pub paid_axiom : (given : Given) (a b : List LogLine) (c : List Literal) (s t : BudgetState)
    → b ≡ a ++ axiom_line c ∷ [] → t ≡ record s { learned = s.learned + 1 } → PaysOpen given a b s t
paid_axiom given a b c s t lines paid = (
  1,
  subst (λ x. WritesOpen given a x 1) (sym lines) (open_axiom given a c),
  waived_kept s t (s.learned + 1) paid,
)

-- Which assumptions cannot hold together.

pub finds_none : {E : Type 0} (old new : Search) (p : Input) (asked : List Literal)
    (ls : List LogLine) (b : BudgetState) → Runs old p ls → new ≡ old
    → FindsCore {E = E} (Ok None) new p asked ls ls b b
finds_none old new p asked ls b r same = record {
  runs = subst (λ (s : Search). Runs s p ls) (sym same) r;
  shown = tt;
  pays = paid_nothing p.given ls b;
  kept = refl;
  err = tt;
}

pub finds_fails : {E : Type 0} (result : Result (Option (Vec Literal Global)) E) (new : Search)
    (p : Input) (asked : List Literal) (before after : List LogLine) (had left : BudgetState)
    → IsErr result → StaysOpen p after → PaysOpen p.given before after had left
    → left.waived ≡ had.waived → FindsCore result new p asked before after had left
finds_fails result new p asked before after had left fails log pays kept = record {
  runs = IfOk-from_err result (λ found. Runs new p after) fails;
  shown =
      IfOk-from_err result
      (λ found. IfSome found (λ core. IsShown (new.store).slots asked core.items)) fails;
  pays = pays;
  kept = kept;
  err = when_err result log;
}

-- Where the search is as it was.

pub stopped_same : {s t : Search} {p : Input} {ls : List LogLine} → t ≡ s → (b : BudgetState)
    → Runs s p ls → IsFixpoint (s.store).slots (literals_of (s.engine).trail)
    → length (zero_of (s.engine).trail) ≤ s.noted → 0 < left_of b → IsStopped t p ls b
stopped_same {p = p} {ls = ls} same b runs fixpoint noted left =
    subst (λ x. IsStopped x p ls b) (sym same)
    (record { runs = runs; fixpoint = fixpoint; noted = noted; left = left })

pub turns_same : {E : Type 0} {result : Result (Option GuidedEnd) E} {s t new : Search} {p : Input}
    {before after : List LogLine} {had left : BudgetState} → t ≡ s
    → GuidedTurns result t new p before after had left
    → GuidedTurns result s new p before after had left
turns_same {result = result} {new = new} {p = p} {before = before} {after = after} {had = had}
    {left = left} same turns =
    subst (λ x. GuidedTurns result x new p before after had left) same turns
