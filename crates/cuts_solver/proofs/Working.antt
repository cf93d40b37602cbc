-- A solver and its log go on together.
use Rattle.std.proofs.Common.{◌≡◌, ℕ, ◌-◌, ◌≤◌, Bool, true, false, List, [], ◌∷◌, ◌++◌, not}
use Rattle.std.proofs.Common.{Option, length, map, min, take, refl, sym, ◌∙◌, ap, subst, append-nil}
use Rattle.std.proofs.Common.{arith}
use Rattle.std.proofs.Math.Nat.{min-le_right}
use Rattle.std.proofs.lemmas.List.{take_all}
use Rattle.std.proofs.lemmas.Bool.{false≢true, not_from_false, true_from_ne_false, true≢false}
use Rattle.cnf.specs.Literal.{Assignment, Literal}
use Rattle.cnf.specs.Problem.{IsFeasible, Problem, cost_under}
use Rattle.cnf.specs.Instance.{IsInstance}
use Rattle.bound.specs.Weighted.{weighted_cnf}
use Rattle.lrat_log.specs.Log.{LogLine, Given, axiom_line}
use Rattle.lrat_log.specs.Steps.{given_of}
use Rattle.lrat_log.specs.Axioms.{FollowByRup, StaysOpenLogOver}
use Rattle.lrat_log.proofs.Laws.{follow_append}
use Rattle.cdcl.proofs.Laws.{not_refuted}
use Rattle.cdcl_search.specs.declared.input.Input.{Input}
use Rattle.cdcl_search.specs.declared.search.Search.{Search}
use Rattle.cdcl_search.specs.Running.{IsInput, KeepsRunning, Runs, is_refuted}
use Rattle.lrat_cuts.specs.Cuts.{CutsState}
use Rattle.cuts_log.specs.Books.{BookState, log_lines}
use Rattle.cuts_log.specs.Logs.{Brings, HasBegun, HasResumed, LogState, SameLog, lines_seen}
use Rattle.cuts_log.specs.Logs.{problem_of}
use Rattle.cuts_log.specs.Starts.{added_at, earlier_lines}
use Rattle.cuts_solver.specs.Solving.{HasOpenLines, IsSolver, IsWorking, SolverState, base_of}
use Rattle.cuts_solver.specs.Solving.{instance_of}
use Rattle.cuts_solver.proofs.Skipping.{earlier_follow}

-- Logs.

-- what comes from outside need not follow
axioms_follow : (given : Given) (base : ℕ) (before : List LogLine) (cs : List (List Literal))
    → FollowByRup given base before (map axiom_line cs)
axioms_follow given base before [] = tt
axioms_follow given base before (c ∷ cs) = (
  λ adds own. absurd (true≢false own),
  axioms_follow given base (before ++ axiom_line c ∷ []) cs,
)

pub follow_axioms : (given : Given) (base : ℕ) (ls : List LogLine) (cs : List (List Literal))
    → FollowByRup given base [] ls → FollowByRup given base [] (ls ++ map axiom_line cs)
follow_axioms given base ls cs h =
    follow_append given base [] ls (map axiom_line cs) h (axioms_follow given base ls cs)

pub same_log : (l : LogState) → SameLog l l
same_log l = record { problem = refl; start = refl; origin = refl; cost = refl }

-- no line came
pub open_same : (i : Input) (old new : LogState) → HasOpenLines i old → SameLog old new
    → lines_seen new ≡ lines_seen old → HasOpenLines i new
open_same i old new h same lines = record {
  stays = subst (StaysOpenLogOver (length (i.frozen).items) i.given) (sym lines) h.stays;
  follows =
      subst (λ q. FollowByRup i.given (length (weighted_cnf q).clauses) [] (lines_seen new))
      (sym same.problem)
      (subst (FollowByRup i.given (length (weighted_cnf (problem_of old)).clauses) []) (sym lines)
      h.follows);
}

-- lines from outside came
pub open_brings : (i : Input) (old new : LogState) (made : List (List Literal))
    → HasOpenLines i old → SameLog old new → lines_seen new ≡ lines_seen old ++ map axiom_line made
    → StaysOpenLogOver (length (i.frozen).items) i.given (lines_seen old ++ map axiom_line made)
    → HasOpenLines i new
open_brings i old new made h same lines stays =
    let n = length (weighted_cnf (problem_of old)).clauses in record {
      stays = subst (StaysOpenLogOver (length (i.frozen).items) i.given) (sym lines) stays;
      follows =
          subst (λ q. FollowByRup i.given (length (weighted_cnf q).clauses) [] (lines_seen new))
          (sym same.problem)
          (subst (FollowByRup i.given n []) (sym lines)
          (follow_axioms i.given n (lines_seen old) made h.follows));
    }

-- Solvers.

-- the search goes on with the lines
pub goes_on : (s : SolverState) → ((s.log).book).failed ≡ false → s.refuted ≡ false
    → Runs s.search s.input (lines_seen s.log) → IsWorking s
goes_on s works going runs = record {
  works = works;
  refuted_is =
      not_refuted (lines_seen s.log) (runs.running.recorded.log).unrefuted ∙ sym going;
  runs = λ _. runs;
}

-- its lines are open then
pub open_runs : (s : SolverState) → Runs s.search s.input (lines_seen s.log)
    → FollowByRup (s.input).given (base_of s) [] (lines_seen s.log)
    → HasOpenLines s.input s.log
open_runs s runs follows = record {
  stays = (runs.running.recorded.log).stays;
  follows = follows;
}

-- before the first line
pub begun : (s : SolverState) (p : Problem) (origin : Option (List ℕ)) → HasBegun p origin s.log
    → IsInstance p → IsInput s.input → (s.input).given ≡ given_of (weighted_cnf p).clauses
    → length ((s.input).frozen).items ≡ (weighted_cnf p).variables → Runs s.search s.input []
    → s.refuted ≡ false → IsSolver s
begun s p origin h fine input given variables runs going =
    let is : instance_of s ≡ p = ap (λ (b : BookState). (b.seen).problem) h.book in
    let none : lines_seen s.log ≡ [] =
    ap (λ (b : BookState). take b.lines (log_lines b)) h.book in
    let here = subst (Runs s.search s.input) (sym none) runs in
    record {
      instance = subst IsInstance (sym is) fine;
      input = input;
      given = given ∙ ap (λ q. given_of (weighted_cnf q).clauses) (sym is);
      variables = variables ∙ ap (λ q. (weighted_cnf q).variables) (sym is);
      least = λ e. absurd (false≢true (sym going ∙ e));
      lines = open_runs s here (subst (FollowByRup (s.input).given (base_of s) []) (sym none) tt);
      working = λ _. goes_on s (ap (λ (b : BookState). b.failed) h.book) going here;
    }

-- behind what was judged before
pub resumed : (s : SolverState) (p : Problem) (t : CutsState) (origin : Option (List ℕ))
    → HasResumed p t origin s.log → IsInstance p → IsInput s.input
    → (s.input).given ≡ given_of (weighted_cnf p).clauses
    → length ((s.input).frozen).items ≡ (weighted_cnf p).variables
    → Runs s.search s.input (earlier_lines (length (weighted_cnf p).clauses) t)
    → s.refuted ≡ false → IsSolver s
resumed s p t origin h fine input given variables runs going =
    let n = length (weighted_cnf p).clauses in
    let before = earlier_lines n t in
    let is : instance_of s ≡ p = ap (λ (b : BookState). (b.seen).problem) h.book in
    let seen : lines_seen s.log ≡ before =
    ap (λ (b : BookState). take b.lines (log_lines b)) h.book
    ∙ ap (take (length before)) (append-nil before) ∙ take_all (length before) before (omega arith)
    in
    let here = subst (Runs s.search s.input) (sym seen) runs in
    record {
      instance = subst IsInstance (sym is) fine;
      input = input;
      given = given ∙ ap (λ q. given_of (weighted_cnf q).clauses) (sym is);
      variables = variables ∙ ap (λ q. (weighted_cnf q).variables) (sym is);
      least = λ e. absurd (false≢true (sym going ∙ e));
      lines = open_runs s here (subst (FollowByRup (s.input).given (base_of s) []) (sym seen)
          (earlier_follow (s.input).given (base_of s) (added_at n t) (t.last - n)));
      working = λ _. goes_on s (ap (λ (b : BookState). b.failed) h.book) going here;
    }

-- the instance, the cost and the clauses given stay
pub stays_solver : (old new : SolverState) → IsSolver old → SameLog old.log new.log
    → new.input ≡ old.input → new.refuted ≡ old.refuted → HasOpenLines new.input new.log
    → (new.failed ≡ false → IsWorking new) → IsSolver new
stays_solver old new h same input refuted lines working = record {
  instance = subst IsInstance (sym same.problem) h.instance;
  input = subst IsInput (sym input) h.input;
  given =
      ap (λ i. i.given) input ∙ h.given
      ∙ ap (λ q. given_of (weighted_cnf q).clauses) (sym same.problem);
  variables =
      ap (λ i. length (i.frozen).items) input ∙ h.variables
      ∙ ap (λ q. (weighted_cnf q).variables) (sym same.problem);
  least =
      λ e. subst (λ q. (u : Assignment) → IsFeasible q u → (new.log).cost ≤ cost_under q u)
      (sym same.problem)
      (subst (λ k. (u : Assignment) → IsFeasible (instance_of old) u
      → k ≤ cost_under (instance_of old) u) (sym same.cost) (h.least (sym refuted ∙ e)));
  lines = lines;
  working = working;
}

-- so they do where the solver fails
pub fails_solver : (old new : SolverState) → IsSolver old → SameLog old.log new.log
    → new.input ≡ old.input → new.refuted ≡ old.refuted → HasOpenLines new.input new.log
    → new.failed ≡ true → IsSolver new
fails_solver old new h same input refuted lines failed =
    stays_solver old new h same input refuted lines
    (λ e. absurd (true≢false (sym failed ∙ e)))

-- also where no line came
pub fails_same : (old new : SolverState) → IsSolver old → SameLog old.log new.log
    → lines_seen new.log ≡ lines_seen old.log → new.input ≡ old.input
    → new.refuted ≡ old.refuted → new.failed ≡ true → IsSolver new
fails_same old new h same lines input refuted failed =
    fails_solver old new h same input refuted
    (subst (λ i. HasOpenLines i new.log) (sym input)
    (open_same old.input old.log new.log h.lines same lines)) failed

-- and where lines from outside did
pub fails_brings : (old new : SolverState) (made : List (List Literal)) → IsSolver old
    → SameLog old.log new.log → lines_seen new.log ≡ lines_seen old.log ++ map axiom_line made
    → StaysOpenLogOver (length ((old.input).frozen).items) (old.input).given
    (lines_seen old.log ++ map axiom_line made)
    → new.input ≡ old.input → new.refuted ≡ old.refuted → new.failed ≡ true → IsSolver new
fails_brings old new made h same lines stays input refuted failed =
    fails_solver old new h same input refuted
    (subst (λ i. HasOpenLines i new.log) (sym input)
    (open_brings old.input old.log new.log made h.lines same lines stays)) failed

-- lines from outside came, and the search goes on with them
pub brings_solver : (old new : SolverState) (made : List (List Literal)) → IsSolver old
    → old.failed ≡ false → SameLog old.log new.log → Brings (map axiom_line made) old.log new.log
    → new.input ≡ old.input → new.refuted ≡ old.refuted → new.refuted ≡ false
    → Runs new.search new.input (lines_seen new.log) → IsSolver new
brings_solver old new made h works same b input refuted going runs =
    let variables = length ((old.input).frozen).items in
    let stays : StaysOpenLogOver variables (old.input).given (lines_seen old.log ++ map axiom_line
    made) =
    subst (StaysOpenLogOver variables (old.input).given) b.lines
    (subst (λ (i : Input). StaysOpenLogOver (length (i.frozen).items) i.given
    (lines_seen new.log)) input (runs.running.recorded.log).stays) in
    stays_solver old new h same input refuted
    (subst (λ i. HasOpenLines i new.log) (sym input)
    (open_brings old.input old.log new.log made h.lines same b.lines stays))
    (λ _. goes_on new b.works going runs)

-- nothing came
pub stays_open : (old : SolverState) (l : LogState) → IsSolver old → old.failed ≡ false
    → l ≡ old.log → IsSolver (record old { log = l; failed = false })
stays_open old l h works same =
    subst (λ (x : LogState). IsSolver (record old { log = x; failed = false })) (sym same)
    (subst (λ (f : Bool). IsSolver (record old { failed = f })) works h)

-- a line without clauses came, or was refused
pub takes_plain : (old : SolverState) (l : LogState) (taken : Bool) → IsSolver old
    → old.failed ≡ false → old.refuted ≡ false → SameLog old.log l
    → (taken ≡ true → Brings [] old.log l) → (taken ≡ false → l ≡ old.log)
    → IsSolver (record old { log = l; failed = false })
takes_plain old l true h works going same brings none =
    let b = brings refl in
    brings_solver old (record old { log = l; failed = false }) [] h works same b refl refl going
    (subst (Runs old.search old.input) (sym (b.lines ∙ append-nil (lines_seen old.log)))
    ((h.working works).runs going))
takes_plain old l false h works going same brings none = stays_open old l h works (none refl)

-- cuts have to hold for less
pub cheaper_solver : (old : SolverState) (l : LogState) (cost : ℕ) → IsSolver old
    → l ≡ record old.log { cost = min cost (old.log).cost } → IsSolver (record old { log = l })
cheaper_solver old l cost h is =
    subst (λ (x : LogState). IsSolver (record old { log = x })) (sym is) (record {
      instance = h.instance;
      input = h.input;
      given = h.given;
      variables = h.variables;
      least = λ e u f.
          let low = min-le_right cost (old.log).cost in
          let least = h.least e u f in
          omega (arith, low, least);
      lines = record { stays = (h.lines).stays; follows = (h.lines).follows };
      working = λ e.
          let w = h.working e in
          record { works = w.works; refuted_is = w.refuted_is; runs = w.runs };
    })

-- the search moves
pub moves_solver : (old : SolverState) (n : Search) → IsSolver old → old.failed ≡ false
    → old.refuted ≡ false → KeepsRunning old.search n → IsSolver (record old { search = n })
moves_solver old n h works going keeps =
    let w = h.working works in
    stays_solver old (record old { search = n }) h
    (record { problem = refl; start = refl; origin = refl; cost = refl }) refl refl h.lines
    (λ _. goes_on (record old { search = n }) w.works going
    (keeps old.input (lines_seen old.log) (w.runs going)))

-- all lines were written, or not, and nothing else has changed
pub flushed_solver : (old : SolverState) (l : LogState) (whole : Bool) → IsSolver old
    → SameLog old.log l → lines_seen l ≡ lines_seen old.log
    → (whole ≡ true → (old.failed ≡ false) × ((l.book).failed ≡ false))
    → IsSolver (record old { log = l; failed = not whole })
flushed_solver old l whole h same lines works =
    stays_solver old (record old { log = l; failed = not whole }) h same refl refl
    (open_same old.input old.log l h.lines same lines)
    (λ e.
    let on = works (true_from_ne_false whole
    (λ none. true≢false (sym (not_from_false whole none) ∙ e))) in
    let w = h.working on.0 in
    record {
      works = on.1;
      refuted_is = ap is_refuted lines ∙ w.refuted_is;
      runs = λ going. subst (Runs old.search old.input) (sym lines) (w.runs going);
    })
