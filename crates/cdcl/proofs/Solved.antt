-- What a solver answers, from what its search does.
use Rattle.std.proofs.Common.{◌≡◌, ℕ, ◌+◌, true, false, Bool, List, [], ◌++◌, length, take, map}
use Rattle.std.proofs.Common.{◌⊎◌, inl, inr, refl, sym, ◌∙◌, ap, subst, arith}
use Rattle.std.specs.Prelude.{Result, Ok, Err, IsErr, Contains}
use Rattle.std.specs.declared.alloc.AllocError.{AllocError}
use Rattle.std.proofs.lemmas.Bool.{both_ways, false≢true}
use Rattle.cnf.specs.Refute.{IsRefutedByHints}
use Rattle.lrat_log.specs.Log.{LogLine, Given}
use Rattle.lrat_log.specs.Steps.{IsAcceptedLog, StaysLogOver, AddsNoEmptyClause, IsBaseOf}
use Rattle.lrat_log.specs.Steps.{LearnsNew, nothing_exempt, learned_count}
use Rattle.cdcl_order.specs.Budgets.{BudgetState, left_of}
use Rattle.cdcl_search.specs.declared.search.Search.{Search}
use Rattle.cdcl_search.specs.declared.input.Input.{Input}
use Rattle.cdcl.specs.declared.outcome.Outcome.{Outcome}
use Rattle.cdcl.specs.declared.outcome.Outcome.TheVariants.{Sat, Unsat, Limit}
use Rattle.cdcl.specs.declared.outcome.SolveFault.{SolveFault}
use Rattle.cdcl.specs.declared.outcome.SolveFault.TheVariants.{Memory, Failed}
use Rattle.cdcl.specs.Solving.{SolverState, Solves, lines_since, OnSat, OnUnsat, OnLimit}
use Rattle.cdcl.specs.Solving.{SatisfyGiven, IsLiveRefuted, Answer, answer_count}
use Rattle.cdcl_search.specs.Running.{is_refuted, Writes, IsInput, StaysOpen}
use Rattle.cdcl.specs.Guiding.{IsRefutedAtOnce, PaysOpen, axiom_count}
use Rattle.cdcl.specs.Outcomes.{IsAnswer, PaysFor}
use Rattle.cdcl.proofs.Answered.{seen_given, given_seen, log_now, ended_log, view_of}
use Rattle.cdcl.proofs.Answered.{answered_open, since_more, written_short}
use Rattle.cdcl.proofs.Guiding.{plain_writes}
use Rattle.cdcl_search.proofs.Laws.{stays_written, writes_none}

-- what an answer says

sat_of : (s : Search) (p : Input) (ls : List LogLine) (b : BudgetState) (o : Outcome) → IsInput p
    → IsAnswer s p ls b o
    → OnSat (Ok o) (λ bits. (length bits ≡ length (p.frozen).items)
    × SatisfyGiven bits (seen_given p))
sat_of s p ls b (Sat bits) i a =
    (a.long, subst (SatisfyGiven bits.items) (sym (given_seen p i)) a.satisfied)
sat_of s p ls b Unsat i a = tt
sat_of s p ls b Limit i a = tt

unsat_of : (s : Search) (p : Input) (ls : List LogLine) (b : BudgetState) (o : Outcome)
    → IsInput p → StaysLogOver (length (p.frozen).items) p.given ls → IsAnswer s p ls b o
    → OnUnsat (Ok o) (IsAcceptedLog (seen_given p) ls)
unsat_of s p ls b (Sat bits) i stays a = tt
unsat_of s p ls b Unsat i stays a = ended_log p ls i stays a.refuted
unsat_of s p ls b Limit i stays a = tt

limit_of : (s : Search) (p : Input) (ls : List LogLine) (b : BudgetState) (o : Outcome)
    → IsAnswer s p ls b o → OnLimit (Ok o) (left_of b ≡ 0)
limit_of s p ls b (Sat bits) a = tt
limit_of s p ls b Unsat a = tt
limit_of s p ls b Limit a = a.1

open_of : (s : Search) (p : Input) (ls : List LogLine) (b : BudgetState) (o : Outcome)
    → IsAnswer s p ls b o → (◌≡◌ {A = Answer} (Ok o) (Ok Unsat) → ⊥) → AddsNoEmptyClause ls
open_of s p ls b (Sat bits) a other = a.runs.running.recorded.log.unrefuted
open_of s p ls b Unsat a other = absurd (other refl)
open_of s p ls b Limit a other = a.0.running.recorded.log.unrefuted

-- What is written, as a caller sees it.
module _ (p : Input) (before after : List LogLine) (n : ℕ) (i : IsInput p)
    (w : Writes p.given before after n) where
  since : lines_since before after ≡ w.more
  since = since_more before after w.more w.grows

  pub grows_by : after ≡ before ++ lines_since before after
  grows_by = w.grows ∙ ap (λ x. before ++ x) (sym since)

  pub new_since : (base : ℕ) → IsBaseOf (seen_given p) base
      → LearnsNew nothing_exempt (seen_given p) base before (lines_since before after)
  new_since base above =
      subst (λ x. LearnsNew nothing_exempt (seen_given p) base before x) (sym since)
      (subst (λ g. LearnsNew nothing_exempt g base before w.more) (sym (given_seen p i))
      (w.new base (subst (λ g. IsBaseOf g base) (given_seen p i) above)))

  pub learned_since : (had left : ℕ) → left ≡ had + n
      → left ≡ had + learned_count (lines_since before after)
  learned_since had left e = e ∙ ap (λ k. had + k) (sym w.learned_is ∙ ap learned_count (sym since))

count_same : (o : Outcome)
    → answer_count {E = AllocError} (Ok o) ≡ answer_count {E = SolveFault} (Ok o)
count_same (Sat bits) = refl
count_same Unsat = refl
count_same Limit = refl

module _ {S : Type 0} (lines : S → List LogLine) {p : Input} {sink : S} {failed : Bool}
    {old : SolverState S} (i : IsInput p) (same : view_of p sink failed ≡ old) where
  -- the search has answered
  pub has_answered : (s : Search) (more : S) (had left : BudgetState)
      (o : Outcome) → failed ≡ false → is_refuted (lines sink) ≡ false
      → StaysLogOver (length (p.frozen).items) p.given (lines sink)
      → IsAnswer s p (lines more) left o → (IsRefutedAtOnce p (lines sink) → o ≡ Unsat)
      → axiom_count (lines more) ≡ 0
      → PaysFor {E = AllocError} (Ok o) p.given (lines sink) (lines more) had left
      → Solves (Ok o) old (view_of p more failed) (lines old.sink) (lines more) had left
  has_answered s more had left o works unrefuted stays a at_once own pays =
      let before = lines sink in
      let after = lines more in
      let w = plain_writes p.given before after pays.0 own pays.1 in
      let now : StaysLogOver (length (p.frozen).items) p.given after =
      stays_written (length (p.frozen).items) p.given before after pays.0 stays w
      (answered_open s p after left o a) in
      subst (λ (v : SolverState S). Solves (Ok o) v (view_of p more failed) (lines v.sink) after
      had left) same (record {
        sat = sat_of s p after left o i a;
        unsat = unsat_of s p after left o i now a;
        limit = limit_of s p after left o a;
        refuted =
            λ h. ap Ok (at_once (inr (subst (λ g. IsRefutedByHints (map (λ x. x.1)
            (take p.first p.given)) ⊎ Contains (map (λ x. x.1) g) []) (given_seen p i) h)));
        propagates =
            λ h. ap Ok (at_once (inl (subst (λ g. IsLiveRefuted g before) (given_seen p i) h)));
        again = λ on f. absurd (both_ways (is_refuted before) unrefuted on);
        failed = (λ e. absurd (cc), λ f. absurd (both_ways failed works f));
        fails = (λ e. absurd (false≢true e), λ f. absurd (both_ways failed works f));
        given = (refl, refl, refl);
        grows = grows_by p before after pays.0 i w;
        lines = log_now p after i now;
        stays_open = open_of s p after left o a;
        short = written_short p.given before after pays.0 w;
        new = new_since p before after pays.0 i w;
        learned =
            learned_since p before after pays.0 i w had.learned left.learned
            (ap (λ (b : BudgetState). b.learned) pays.2);
        answers =
            ap (λ (b : BudgetState). b.answers) pays.2 ∙ ap (λ k. had.answers + k) (count_same o);
        same_limit = ap (λ (b : BudgetState). b.limit) pays.2;
      })

  -- memory was refused
  pub has_refused : (more : S) (had left : BudgetState)
      → failed ≡ false → is_refuted (lines sink) ≡ false
      → StaysLogOver (length (p.frozen).items) p.given (lines sink) → StaysOpen p (lines more)
      → axiom_count (lines more) ≡ 0
      → PaysFor {E = SolveFault} (Err Memory) p.given (lines sink) (lines more) had left
      → Solves (Err Memory) old (view_of p more true) (lines old.sink) (lines more) had left
  has_refused more had left works unrefuted stays left_open own pays =
      let before = lines sink in
      let after = lines more in
      let w = plain_writes p.given before after pays.0 own pays.1 in
      let now : StaysLogOver (length (p.frozen).items) p.given after =
      stays_written (length (p.frozen).items) p.given before after pays.0 stays w left_open.stays in
      subst (λ (v : SolverState S). Solves (Err Memory) v (view_of p more true) (lines v.sink) after
      had left) same (record {
        sat = tt;
        unsat = tt;
        limit = tt;
        refuted = tt;
        propagates = tt;
        again = λ on f. absurd (both_ways (is_refuted before) unrefuted on);
        failed = (λ e. absurd (cc), λ f. absurd (both_ways failed works f));
        fails = (λ e. refl, λ f. refl);
        given = (refl, refl, refl);
        grows = grows_by p before after pays.0 i w;
        lines = log_now p after i now;
        stays_open = tt;
        short = written_short p.given before after pays.0 w;
        new = new_since p before after pays.0 i w;
        learned =
            learned_since p before after pays.0 i w had.learned left.learned
            (ap (λ (b : BudgetState). b.learned) pays.2);
        answers = ap (λ (b : BudgetState). b.answers) pays.2;
        same_limit = ap (λ (b : BudgetState). b.limit) pays.2;
      })

  -- memory was refused before
  pub has_failed : (b : BudgetState) → failed ≡ true
      → StaysLogOver (length (p.frozen).items) p.given (lines sink)
      → Solves (Err Failed) old old (lines old.sink) (lines old.sink) b b
  has_failed b fails stays =
      let before = lines sink in
      let w = writes_none p.given before in
      subst (λ (v : SolverState S). Solves (Err Failed) v v (lines v.sink) (lines v.sink) b b) same
      (record {
        sat = tt;
        unsat = tt;
        limit = tt;
        refuted = tt;
        propagates = tt;
        again = λ on f. absurd (both_ways failed f fails);
        failed = (λ e. fails, λ f. refl);
        fails = (λ e. fails, λ f. refl);
        given = (refl, refl, refl);
        grows = grows_by p before before 0 i w;
        lines = log_now p before i stays;
        stays_open = tt;
        short = written_short p.given before before 0 w;
        new = new_since p before before 0 i w;
        learned = learned_since p before before 0 i w b.learned b.learned (omega arith);
        answers = omega arith;
        same_limit = refl;
      })

  -- the empty clause was added before
  pub was_refuted : (b : BudgetState) → failed ≡ false
      → StaysLogOver (length (p.frozen).items) p.given (lines sink)
      → is_refuted (lines sink) ≡ true
      → Solves (Ok Unsat) old old (lines old.sink) (lines old.sink) b b
  was_refuted b works stays refuted =
      let before = lines sink in
      let w = writes_none p.given before in
      subst (λ (v : SolverState S). Solves (Ok Unsat) v v (lines v.sink) (lines v.sink) b b) same
      (record {
        sat = tt;
        unsat = ended_log p before i stays refuted;
        limit = tt;
        refuted = λ h. refl;
        propagates = λ h. refl;
        again = λ on f. (refl, refl);
        failed = (λ e. absurd (cc), λ f. absurd (both_ways failed works f));
        fails = (λ e. absurd (false≢true e), λ f. absurd (both_ways failed works f));
        given = (refl, refl, refl);
        grows = grows_by p before before 0 i w;
        lines = log_now p before i stays;
        stays_open = λ other. absurd (other refl);
        short = written_short p.given before before 0 w;
        new = new_since p before before 0 i w;
        learned = learned_since p before before 0 i w b.learned b.learned (omega arith);
        answers = omega arith;
        same_limit = refl;
      })

-- What a search has paid is what an answer without bits costs.

pub err_without : {E : Type 0} (answer : Result Outcome E) → IsErr answer → answer_count answer ≡ 0
err_without (Ok o) fails = absurd (false≢true fails)
err_without (Err e) fails = refl

pub pays_without : {E : Type 0} {given : Given} {a b : List LogLine} (s t : BudgetState)
    (answer : Result Outcome E) → answer_count answer ≡ 0 → PaysOpen given a b s t
    → PaysFor answer given a b s t
pays_without s t answer none pays =
    let same : s.answers ≡ s.answers + answer_count answer = omega (arith, none) in (
      pays.0,
      pays.1,
      pays.2 ∙ (λ i. record {
        limit = s.limit;
        learned = s.learned + pays.0;
        answers = same i;
        waived = t.waived;
      }),
    )
