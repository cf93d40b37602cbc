-- What the improving search finds.
use Rattle.std.specs.Prelude.{◌≡◌, ◌+◌, ◌<◌, [], ◌∷◌, ◌++◌, ⊤, ℕ, Bool, List, length, map, All}
use Rattle.std.specs.Prelude.{Result, Ok, Err, IfOk, OnOk}
use Rattle.std.specs.List.{flat_map}
use Rattle.cnf.specs.Literal.{Literal, Assignment}
use Rattle.cnf.specs.Bits.{Extends}
use Rattle.cnf.specs.Problem.{Problem, IsOptimal, IsInconsistent}
use Rattle.cnf.specs.Refute.{IsRefutedByHints}
use Rattle.cnf.specs.Lrat.{start_of, Accepts}
use Rattle.cnf.specs.declared.limits.TheConstants.{CLAUSE_LIMIT}
use Rattle.lrat_log.specs.declared.lines.Name.TheVariants.{Formula}
use Rattle.lrat_log.specs.declared.lines.Hint.TheVariants.{Plain}
use Rattle.lrat_log.specs.declared.lines.Kind.TheVariants.{Empty}
use Rattle.lrat_log.specs.Log.{LogLine, numbered_lines}
use Rattle.lrat_log.specs.Steps.{AreSteps, AddsNoEmptyClause, LearnsNew, nothing_exempt, is_later}
use Rattle.lrat_log.specs.Steps.{given_of, learned_count}
use Rattle.lrat_log.specs.Rebase.{WeakerList, weaker_line}
use Rattle.adder.specs.declared.profiles.Profile.{Profile}
use Rattle.bound.specs.Bound.{hard_cnf, bound_as, fixed_clauses, comparator_for}
use Rattle.cdcl_order.specs.Budgets.{BudgetState, left_of}
use Rattle.improve_found.specs.Progress.{Telling, AreFalling, EndsWith, TellsOf}
use Rattle.improve_found.specs.Solutions.{IsSolution, IsCostOfSome}
use Rattle.improve.specs.Weaker.{weaker_among}
use Rattle.improve_found.specs.declared.found.Work.{Work}
use Rattle.improve_found.specs.declared.found.Found.{Found}
use Rattle.improve_found.specs.declared.found.Found.TheVariants.{Optimum, Unsat, Best, Nothing}
use Rattle.improve_found.specs.declared.found.ImproveFault.{ImproveFault}
use Rattle.improve_found.specs.declared.found.ImproveFault.TheVariants.{Progress}

abbrev pub but_last : List ℕ → List ℕ
but_last [] = []
but_last (c ∷ []) = []
but_last (c ∷ d ∷ cs) = c ∷ but_last (d ∷ cs)

-- the comparator clauses of these bounds
abbrev pub comparators_for : Profile → Problem → List ℕ → List (List Literal)
comparators_for profile p costs = flat_map (comparator_for profile p) costs

-- the comparator clauses of the bounds before, each with the number of one for the last
abbrev pub weaker_before : Profile → Problem → List ℕ → ℕ → WeakerList
weaker_before profile p before last =
    weaker_among (length (fixed_clauses profile p) + 1) (comparator_for profile p last)
    (comparators_for profile p before)

-- the same, where the last bound is the last cost
abbrev pub weaker_for : Profile → Problem → List ℕ → ℕ → WeakerList
weaker_for profile p costs last = weaker_before profile p (but_last costs) last

-- the log begins with a line for each of those
abbrev pub BeginsWithWeaker : Profile → Problem → List ℕ → ℕ → List LogLine → Type 0
BeginsWithWeaker profile p costs last ls =
    (rest : List LogLine) × (ls ≡ map weaker_line (weaker_for profile p costs last) ++ rest)

-- the empty clause has this number in the formula, and the one line of the log adds it again
abbrev pub repeats_empty : ℕ → List LogLine
repeats_empty number =
    record { kind = Empty; clause = []; hints = Plain (Formula number) ∷ [] } ∷ []

-- the log is accepted over these clauses
abbrev pub IsAcceptedOver : List (List Literal) → List LogLine → Type 0
IsAcceptedOver cs ls = Accepts cs (numbered_lines (length cs) ls)

-- the number of these clauses, which are few
abbrev pub IsClauseCount : ℕ → List (List Literal) → Type 0
IsClauseCount n cs = (n ≡ length cs) × (n < CLAUSE_LIMIT)

-- steps from these clauses that don't reach the empty one
pub record IsWorkOver (cs : List (List Literal)) (ls : List LogLine) : Type 0 where
  pub steps : AreSteps (start_of cs) (numbered_lines (length cs) ls)
  pub open_end : AddsNoEmptyClause ls

-- no learned line has a subset that is live at its place, and each follows by propagation
abbrev pub IsNewWork : List (List Literal) → List LogLine → Type 0
IsNewWork cs ls = LearnsNew nothing_exempt (given_of cs) (length cs) [] ls

abbrev pub IsHardLog : Problem → List LogLine → Type 0
IsHardLog p ls = IsWorkOver (hard_cnf p).clauses ls × IsNewWork (hard_cnf p).clauses ls

abbrev pub IsHardWork : Problem → Work → Type 0
IsHardWork p w = IsHardLog p w.hard

-- the ids of the last bound's clauses, and of `lines` lines for those of the bounds before
abbrev pub is_of_bounds : Profile → Problem → ℕ → ℕ → ℕ → Bool
is_of_bounds profile p c lines =
    is_later (length (fixed_clauses profile p)) (length (bound_as profile p c).clauses + lines)

-- but for those, no learned line has a subset that is live at its place, and each follows by
-- propagation
abbrev pub IsNewOver : Profile → Problem → ℕ → ℕ → List LogLine → Type 0
IsNewOver profile p c lines ls =
    LearnsNew (is_of_bounds profile p c lines) (given_of (bound_as profile p c).clauses)
    (length (bound_as profile p c).clauses) [] ls

abbrev pub IsNewBoundWork : Profile → Problem → List ℕ → ℕ → List LogLine → Type 0
IsNewBoundWork profile p costs c ls =
    IsNewOver profile p c (length (weaker_for profile p costs c)) ls

-- the log over the formula for the last bound
pub record IsBoundWork (profile : Profile) (p : Problem) (costs : List ℕ) (c : ℕ) (w : Work)
    : Type 0 where
  pub work : IsWorkOver (bound_as profile p c).clauses w.bound
  pub begins : BeginsWithWeaker profile p costs c w.bound
  pub new : IsNewBoundWork profile p costs c w.bound

-- What was found is right, where these costs were told.

-- the log refutes the formula for the last bound, which has `clauses` clauses
pub record IsRefutation (profile : Profile) (p : Problem) (costs : List ℕ) (c : ℕ)
    (log : List LogLine) (clauses : ℕ) : Type 0 where
  pub accepted : IsAcceptedOver (bound_as profile p c).clauses log
  pub begins : BeginsWithWeaker profile p costs c log
  pub counted : IsClauseCount clauses (bound_as profile p c).clauses

pub record IsRightOptimum (profile : Profile) (p : Problem) (costs : List ℕ) (c : ℕ)
    (bits : List Bool) (log : List LogLine) (clauses : ℕ) : Type 0 where
  pub solution : IsSolution p bits c
  pub told : EndsWith costs c
  pub optimal : (t : Assignment) → Extends bits t → IsOptimal p t c
  pub refutation : IsRefutation profile p costs c log clauses

pub record IsRightUnsat (p : Problem) (costs : List ℕ) (log : List LogLine) (clauses : ℕ)
    : Type 0 where
  pub none_told : costs ≡ []
  pub inconsistent : IsInconsistent p
  pub accepted : IsAcceptedOver (hard_cnf p).clauses log
  pub counted : IsClauseCount clauses (hard_cnf p).clauses

pub record IsRightBest (profile : Profile) (p : Problem) (costs : List ℕ) (c : ℕ)
    (bits : List Bool) (work : Work) : Type 0 where
  pub solution : IsSolution p bits c
  pub told : EndsWith costs c
  pub above_zero : 0 < c
  pub hard : IsHardWork p work
  pub bound : IsBoundWork profile p costs c work

pub record IsRightNothing (p : Problem) (costs : List ℕ) (work : Work) : Type 0 where
  pub none_told : costs ≡ []
  -- propagation alone does not refute the hard clauses
  pub not_refuted : IsRefutedByHints (hard_cnf p).clauses → ⊥
  pub hard : IsHardWork p work
  pub no_bound : work.bound ≡ []

abbrev pub IsRightFound : Profile → Problem → List ℕ → Found → Type 0
IsRightFound profile p costs (Optimum c bits log clauses) =
    IsRightOptimum profile p costs c bits.items log clauses
IsRightFound profile p costs (Unsat log clauses) = IsRightUnsat p costs log clauses
IsRightFound profile p costs (Best c bits work) = IsRightBest profile p costs c bits.items work
IsRightFound profile p costs (Nothing work) = IsRightNothing p costs work

-- for the answers with work
abbrev pub OnWork : Result Found ImproveFault → (Work → Type 0) → Type 0
OnWork (Ok (Best c bits work)) P = P work
OnWork (Ok (Nothing work)) P = P work
OnWork (Ok (Optimum c bits log clauses)) P = ⊤
OnWork (Ok (Unsat log clauses)) P = ⊤
OnWork (Err e) P = ⊤

-- the learned lines of both logs
abbrev pub work_count : Work → ℕ
work_count w = learned_count w.hard + learned_count w.bound

-- the budget before the search over the hard clauses, of which this is left: its one solution and
-- its learned lines were counted
pub record PaysForHard (before left : BudgetState) (hard : List LogLine) : Type 0 where
  pub limit : before.limit ≡ left.limit
  pub answers : before.answers + 1 ≡ left.answers
  pub learned : before.learned + learned_count hard ≡ left.learned

-- what a search answers, tells and spends
pub record Improves (profile : Profile) (p : Problem) (result : Result Found ImproveFault)
    (old new : Telling) (budget left : BudgetState) : Type 0 where
  -- the costs fall, and each is that of a solution, also before a fault
  pub tried : List ℕ
  pub told : List ℕ
  pub tells : new.told ≡ old.told ++ told
  pub falling : AreFalling tried
  pub honest : All (IsCostOfSome p) tried
  pub tells_of : TellsOf result tried told new.failed
  pub progress : result ≡ Err Progress → new.failures ≡ old.failures + 1
  pub no_failure : (result ≡ Err Progress → ⊥) → new.failures ≡ old.failures
  pub found : IfOk result (IsRightFound profile p told)
  -- the effort
  pub same_limit : left.limit ≡ budget.limit
  pub answers : OnOk result (left.answers ≡ budget.answers + length told)
  pub learned : OnWork result (λ work. left.learned ≡ budget.learned + work_count work)
  pub spent : OnWork result (λ work. left_of left ≡ 0)
