-- What a search leaves of a solver whose log is about the same instance.
use Rattle.std.proofs.Common.{◌≡◌, ◌+◌, true, false, List, [], ◌∷◌, ◌++◌, length, refl, sym, ◌∙◌}
use Rattle.std.proofs.Common.{ap, subst, arith}
use Rattle.std.proofs.lemmas.Bool.{true≢false}
use Rattle.cnf.specs.Instance.{IsInstance}
use Rattle.cnf.specs.Literal.{Literal}
use Rattle.bound.specs.Weighted.{weighted_cnf}
use Rattle.lrat_log.specs.Log.{axiom_line}
use Rattle.lrat_log.specs.Steps.{IsBaseOf, given_of}
use Rattle.lrat_log.specs.Axioms.{FollowByRup, IsNewClause, StaysOpenLogOver}
use Rattle.lrat_log.proofs.Laws.{base_of as below_base, follow_append}
use Rattle.cdcl_order.specs.Budgets.{BudgetState}
use Rattle.cdcl_search.specs.declared.input.Input.{Input}
use Rattle.cdcl_search.specs.Running.{IsEnded, Runs}
use Rattle.cdcl_search.proofs.Laws.{axiom_ends}
use Rattle.cuts_log.specs.Books.{IsBook}
use Rattle.cuts_log.specs.Judging.{LogsEnd, NothingIsCheaper}
use Rattle.cuts_log.specs.Logs.{Brings, IsKept, SameLog, lines_seen}
use Rattle.cdcl.specs.Guiding.{IsGuidedEnd, PaysOpen}
use Rattle.cdcl.specs.declared.guided.GuidedEnd.{GuidedEnd}
use Rattle.cdcl.specs.declared.guided.GuidedEnd.TheVariants.{Satisfied, Refuted, Stopped, Spent}
use Rattle.cdcl.proofs.Laws.{paid_axiom, paid_join}
use Rattle.cuts_solver.specs.Solving.{HasOpenLines, IsLeast, IsSolver, PaysLines, SolverState}
use Rattle.cuts_solver.specs.Solving.{SameSolver, base_of, instance_of}
use Rattle.cuts_solver.proofs.Working.{fails_solver, goes_on, open_runs, stays_solver}
use Rattle.cuts_solver.proofs.Written.{nothing_less}

-- what was written since follows too
pub follow_paid : (old new : SolverState) (had left : BudgetState) → IsSolver old
    → SameLog old.log new.log → new.input ≡ old.input
    → PaysOpen (old.input).given (lines_seen old.log) (lines_seen new.log) had left
    → FollowByRup (new.input).given (base_of new) [] (lines_seen new.log)
follow_paid old new had left h same input pays =
    let n = base_of old in
    let given = (old.input).given in
    let w = pays.1 in
    let based : IsBaseOf given n =
    subst (λ g. IsBaseOf g n) (sym h.given)
    (below_base (weighted_cnf (instance_of old)).clauses n (omega arith)) in
    let all : FollowByRup given n [] (lines_seen old.log ++ w.more) =
    follow_append given n [] (lines_seen old.log) w.more (h.lines).follows
    (w.follows n based) in
    subst (λ i. FollowByRup i.given (base_of new) [] (lines_seen new.log)) (sym input)
    (subst (λ q. FollowByRup given (length (weighted_cnf q).clauses) [] (lines_seen new.log))
    (sym same.problem) (subst (FollowByRup given n []) (sym w.grows) all))

-- the log is open, and the solver fails
pub searched_fails : (old new : SolverState) (had left : BudgetState) → IsSolver old
    → SameLog old.log new.log → new.input ≡ old.input
    → PaysOpen (old.input).given (lines_seen old.log) (lines_seen new.log) had left
    → StaysOpenLogOver (length ((new.input).frozen).items) (new.input).given (lines_seen new.log)
    → new.refuted ≡ old.refuted → new.failed ≡ true → IsSolver new
searched_fails old new had left h same input pays stays refuted failed =
    fails_solver old new h same input refuted
    (record { stays = stays; follows = follow_paid old new had left h same input pays }) failed

-- the search goes on
pub searched_on : (old new : SolverState) (had left : BudgetState) → IsSolver old
    → old.failed ≡ false → SameLog old.log new.log → new.input ≡ old.input
    → PaysOpen (old.input).given (lines_seen old.log) (lines_seen new.log) had left
    → ((new.log).book).failed ≡ false → new.refuted ≡ old.refuted → new.refuted ≡ false
    → Runs new.search new.input (lines_seen new.log) → IsSolver new
searched_on old new had left h works same input pays whole refuted going runs =
    stays_solver old new h same input refuted
    (open_runs new runs (follow_paid old new had left h same input pays))
    (λ _. goes_on new whole going runs)

-- the log has ended
pub searched_out : (old new : SolverState) (had left : BudgetState) → IsSolver old
    → old.failed ≡ false → SameLog old.log new.log → new.input ≡ old.input
    → PaysOpen (old.input).given (lines_seen old.log) (lines_seen new.log) had left
    → ((new.log).book).failed ≡ false → new.refuted ≡ true
    → IsEnded new.input (lines_seen new.log)
    → IsLeast new.log → IsSolver new
searched_out old new had left h works same input pays whole refuted ended least =
    let lines : HasOpenLines new.input new.log = record {
      stays = ended.stays;
      follows = follow_paid old new had left h same input pays;
    } in
    let before = stays_solver old (record new { refuted = old.refuted; failed = true }) h same input
    (λ i. old.refuted) lines (λ e. absurd (true≢false e)) in
    record {
      instance = before.instance;
      input = before.input;
      given = before.given;
      variables = before.variables;
      least = λ e. least;
      lines = lines;
      working = λ f. record {
        works = whole;
        refuted_is = ended.refuted ∙ sym refuted;
        runs = λ going. absurd (true≢false (sym refuted ∙ going));
      };
    }

-- so nothing costs less
pub ends_solver : (old new : SolverState) (had left : BudgetState) → IsSolver old
    → old.failed ≡ false → SameLog old.log new.log → new.input ≡ old.input
    → PaysOpen (old.input).given (lines_seen old.log) (lines_seen new.log) had left
    → ((new.log).book).failed ≡ false → new.refuted ≡ true
    → IsEnded new.input (lines_seen new.log) → IsKept new.log → IsBook (new.log).book → LogsEnd
    → NothingIsCheaper → IsSolver new
ends_solver old new had left h works same input pays whole refuted ended kept book ends cheaper =
    let given : (new.input).given ≡ given_of (weighted_cnf (instance_of new)).clauses =
    ap (λ i. i.given) input ∙ h.given
    ∙ ap (λ q. given_of (weighted_cnf q).clauses) (sym same.problem) in
    searched_out old new had left h works same input pays whole refuted ended
    (nothing_less (length ((new.input).frozen).items) (new.input).given new.log kept book whole
    given ended.stays (follow_paid old new had left h same input pays) ended.refuted
    (subst IsInstance (sym same.problem) h.instance) ends cheaper)

-- an empty clause from outside ends the log
pub cut_ends : (old new : SolverState) (c : List Literal) (had left : BudgetState) → IsSolver old
    → old.failed ≡ false → old.refuted ≡ false → SameLog old.log new.log → new.input ≡ old.input
    → Brings (axiom_line c ∷ []) old.log new.log
    → left ≡ record had { learned = had.learned + 1 } → c ≡ [] → IsNewClause c
    → new.refuted ≡ true → IsKept new.log → IsBook (new.log).book → LogsEnd → NothingIsCheaper
    → IsSolver new
cut_ends old new c had left h works going same input b paid none fresh refuted kept book ends
    cheaper =
    let ls = lines_seen old.log in
    let outside =
    axiom_ends old.search old.input ls ((h.working works).runs going)
    (subst IsNewClause none fresh) in
    let ended : IsEnded new.input (lines_seen new.log) =
    subst (λ i. IsEnded i (lines_seen new.log)) (sym input)
    (subst (IsEnded old.input) (sym b.lines)
    (subst (λ (x : List Literal). IsEnded old.input (ls ++ axiom_line x ∷ [])) (sym none)
    outside)) in
    ends_solver old new had left h works same input
    (paid_axiom (old.input).given ls (lines_seen new.log) c had left b.lines paid) b.works refuted
    ended kept book ends cheaper

-- a search that has not ended the log goes on
pub runs_on : (s : SolverState) (b : BudgetState) (end : GuidedEnd)
    → IsGuidedEnd s.search s.input (lines_seen s.log) b end → (end ≡ Refuted → ⊥)
    → Runs s.search s.input (lines_seen s.log)
runs_on s b Satisfied e other = e.runs
runs_on s b Refuted e other = absurd (other refl)
runs_on s b Stopped e other = e.runs
runs_on s b Spent e other = e.0

-- what was paid in two steps
pub pays_on : (old mid new : SolverState) (had spent left : BudgetState) → new.input ≡ mid.input
    → PaysLines old mid had spent → PaysLines mid new spent left → PaysLines old new had left
pays_on old mid new had spent left same first next =
    let ls = lines_seen old.log in
    paid_join (new.input).given ls (lines_seen mid.log) (lines_seen new.log) had spent left
    (subst (λ (i : Input). PaysOpen i.given ls (lines_seen mid.log) had spent) (sym same) first)
    next

-- what is the same in two steps
pub same_on : (old mid new : SolverState) → SameSolver old mid → SameSolver mid new
    → SameSolver old new
same_on old mid new first next = record {
  problem = next.problem ∙ first.problem;
  start = next.start ∙ first.start;
  origin = next.origin ∙ first.origin;
  cost = next.cost ∙ first.cost;
}

-- however a search has ended, its log is open
pub ended_stays : (s : SolverState) (b : BudgetState) (end : GuidedEnd)
    → IsGuidedEnd s.search s.input (lines_seen s.log) b end
    → StaysOpenLogOver (length ((s.input).frozen).items) (s.input).given (lines_seen s.log)
ended_stays s b Satisfied e = (e.runs.running.recorded.log).stays
ended_stays s b Refuted e = e.stays
ended_stays s b Stopped e = (e.runs.running.recorded.log).stays
ended_stays s b Spent e = (e.0.running.recorded.log).stays
