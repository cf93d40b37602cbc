-- What a solver says of its lines, from what its search wrote.
use Rattle.std.proofs.Common.{◌≡◌, ℕ, ◌≤◌, true, false, List, [], ◌∷◌, ◌++◌, length, take, drop}
use Rattle.std.proofs.Common.{map, refl, sym, ◌∙◌, ap, subst, append-nil, take-append-drop}
use Rattle.std.specs.Prelude.{All, Bool}
use Rattle.std.specs.List.{list_any}
use Rattle.std.proofs.lemmas.Bool.{both_ways, or_from}
use Rattle.std.proofs.lemmas.List.Elements.{All-nil}
use Rattle.cnf.specs.Clause.{greatest_variable}
use Rattle.lrat_log.specs.Log.{LogLine, Given}
use Rattle.lrat_log.specs.Steps.{IsLogOver, IsAcceptedLog, StaysLogOver}
use Rattle.lrat_log.specs.Steps.{AddsNoEmptyClause, adds_empty_clause}
use Rattle.lrat_log.specs.Steps.{IsLearnedOrShort, IsShortLine, given_of, learned_count}
use Rattle.lrat_log.specs.Axioms.{StaysOpenLogOver}
use Rattle.lrat_log.proofs.Laws.{accepted_log}
use Rattle.cdcl_search.specs.declared.search.Search.{Search}
use Rattle.cdcl_search.specs.declared.input.Input.{Input}
use Rattle.cdcl.specs.declared.outcome.Outcome.{Outcome}
use Rattle.cdcl.specs.declared.outcome.Outcome.TheVariants.{Sat, Unsat, Limit}
use Rattle.cdcl.specs.Solving.{SolverState, given_to, lines_since}
use Rattle.cdcl_search.specs.Running.{is_refuted, Writes, IsInput, Runs}
use Rattle.cdcl_order.specs.Budgets.{BudgetState}
use Rattle.cdcl.specs.Outcomes.{IsAnswer}

drop_front : (before more : List LogLine) → drop (length before) (before ++ more) ≡ more
drop_front [] more = refl
drop_front (l ∷ before) more = drop_front before more

pub since_more : (before after more : List LogLine) → after ≡ before ++ more
    → lines_since before after ≡ more
since_more before after more e = ap (drop (length before)) e ∙ drop_front before more

-- where nothing was written
module _ (before : List LogLine) {after : List LogLine} (same : after ≡ before) where
  none_since : lines_since before after ≡ []
  none_since = since_more before after [] (same ∙ sym (append-nil before))

  pub same_grows : after ≡ before ++ lines_since before after
  same_grows = same ∙ sym (append-nil before) ∙ ap (λ x. before ++ x) (sym none_since)

  pub same_learned : learned_count (lines_since before after) ≡ 0
  same_learned = ap learned_count none_since

  pub same_short : All IsShortLine (lines_since before after)
  same_short = subst (All IsShortLine) (sym none_since) (All-nil IsShortLine)

module _ (given : Given) (before after : List LogLine) (n : ℕ)
    (w : Writes given before after n) where
  since : lines_since before after ≡ w.more
  since = since_more before after w.more w.grows

  pub written_short : All IsLearnedOrShort (lines_since before after)
  written_short = subst (All IsLearnedOrShort) (sym since) w.short

-- the clauses given, as they are seen
abbrev pub seen_given : Input → Given
seen_given p =
    given_of (map (λ g. g.1) (take p.first p.given)) ++ drop p.first p.given

pub given_seen : (p : Input) → IsInput p → seen_given p ≡ p.given
given_seen p i =
    ap (λ x. x ++ drop p.first p.given) i.numbered
    ∙ take-append-drop p.first p.given

pub log_now : (p : Input) (ls : List LogLine) → IsInput p
    → StaysLogOver (length (p.frozen).items) p.given ls → IsLogOver (seen_given p) ls
log_now p ls i stays =
    subst (λ g. IsLogOver g ls) (append-nil p.given ∙ sym (given_seen p i))
    (stays [] (All-nil (λ g. greatest_variable g.1 ≤ length (p.frozen).items)))

pub ended_log : (p : Input) (ls : List LogLine) → IsInput p
    → StaysLogOver (length (p.frozen).items) p.given ls → is_refuted ls ≡ true
    → IsAcceptedLog (seen_given p) ls
ended_log p ls i stays refuted = accepted_log (seen_given p) ls (log_now p ls i stays) refuted

-- no line added the empty clause
pub not_refuted : (ls : List LogLine) → AddsNoEmptyClause ls → is_refuted ls ≡ false
not_refuted [] h = refl
not_refuted (l ∷ ls) h =
    or_from (adds_empty_clause l) (list_any adds_empty_clause ls) h.0 (not_refuted ls h.1)

-- what an end or an answer says
pub answered_open : (s : Search) (p : Input) (ls : List LogLine) (b : BudgetState) (o : Outcome)
    → IsAnswer s p ls b o → StaysOpenLogOver (length (p.frozen).items) p.given ls
answered_open s p ls b (Sat bits) a = a.runs.running.recorded.log.stays
answered_open s p ls b Unsat a = a.stays
answered_open s p ls b Limit a = a.0.running.recorded.log.stays

pub answered_runs : (s : Search) (p : Input) (ls : List LogLine) (b : BudgetState) (o : Outcome)
    → IsAnswer s p ls b o → is_refuted ls ≡ false → Runs s p ls
answered_runs s p ls b (Sat bits) a open_log = a.runs
answered_runs s p ls b Unsat a open_log = absurd (both_ways (is_refuted ls) open_log a.refuted)
answered_runs s p ls b Limit a open_log = a.0

-- What a caller sees: the view of a solver over this input.
abbrev pub view_of : {S : Type 0} → Input → S → Bool → SolverState S
view_of p sink failed = record {
  formula = record {
    variables = length (p.frozen).items;
    clauses = map (λ g. g.1) (take p.first p.given);
  };
  added = drop p.first p.given;
  frozen = (p.frozen).items;
  sink = sink;
  failed = failed;
}

pub seen_log : {S : Type 0} (lines : S → List LogLine) {p : Input} {sink : S} {failed : Bool}
    {old : SolverState S} → IsInput p → view_of p sink failed ≡ old
    → StaysLogOver (length (p.frozen).items) p.given (lines sink)
    → IsLogOver (given_to old) (lines old.sink)
seen_log lines {p = p} {sink = sink} i same stays =
    subst (λ s. IsLogOver (given_to s) (lines s.sink)) same (log_now p (lines sink) i stays)
