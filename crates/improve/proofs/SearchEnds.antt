-- How a search may end: what it told, and what it found.
use Rattle.std.proofs.Common.{◌≡◌, ℕ, ◌+◌, List, [], ◌∷◌, ◌++◌, length, Some, Result, Ok, Err, refl}
use Rattle.std.proofs.Common.{sym, subst, All}
use Rattle.std.specs.Prelude.{IfOk, IfErr}
use Rattle.cnf.specs.Problem.{Problem}
use Rattle.adder.specs.declared.profiles.Profile.{Profile}
use Rattle.cdcl_order.specs.Budgets.{BudgetState, left_of}
use Rattle.improve_found.specs.declared.found.Found.{Found}
use Rattle.improve_found.specs.declared.found.Found.TheVariants.{Optimum, Unsat, Best, Nothing}
use Rattle.improve_found.specs.declared.found.Work.{Work}
use Rattle.improve_found.specs.declared.found.ImproveFault.{ImproveFault}
use Rattle.improve_found.specs.declared.found.ImproveFault.TheVariants.{Memory, Progress}
use Rattle.improve_found.specs.Progress.{Telling, AreFalling}
use Rattle.improve_found.specs.Solutions.{IsCostOfSome}
use Rattle.improve.specs.Improving.{IsRightFound, Improves, OnWork, work_count}

module _ (profile : Profile) (p : Problem) (old new : Telling) (before left : BudgetState)
    (limit : left.limit ≡ before.limit) (costs : List ℕ) (tells : new.told ≡ old.told ++ costs)
  where
    pub memory_end : AreFalling costs → All (IsCostOfSome p) costs → new.failures ≡ old.failures
        → Improves profile p (Err Memory) old new before left
    memory_end falling honest same = record {
      tried = costs;
      told = costs;
      tells = tells;
      falling = falling;
      honest = honest;
      tells_of = refl;
      progress = λ e. absurd (let x : Memory ≡ Progress = cc in cc);
      no_failure = λ e. same;
      found = tt;
      same_limit = limit;
      answers = tt;
      learned = tt;
      spent = tt;
    }

    pub progress_end : (c : ℕ) → AreFalling (costs ++ c ∷ [])
        → All (IsCostOfSome p) (costs ++ c ∷ [])
        → new.failed ≡ Some c → new.failures ≡ old.failures + 1
        → Improves profile p (Err Progress) old new before left
    progress_end c falling honest failed more = record {
      tried = costs ++ c ∷ [];
      told = costs;
      tells = tells;
      falling = falling;
      honest = honest;
      tells_of = record { last = c; last_failed = failed; tried_is = refl };
      progress = λ e. more;
      no_failure = λ e. absurd (e refl);
      found = tt;
      same_limit = limit;
      answers = tt;
      learned = tt;
      spent = tt;
    }

    pub found_end : (result : Result Found ImproveFault) → AreFalling costs
        → All (IsCostOfSome p) costs → new.failures ≡ old.failures → IfErr result (λ e. e ≡ Memory)
        → IfOk result (IsRightFound profile p costs) → left.answers ≡ before.answers + length costs
        → OnWork result (λ work. left.learned ≡ before.learned + work_count work)
        → OnWork result (λ work. left_of left ≡ 0) → Improves profile p result old new before left
    found_end (Ok found) falling honest same fault right answers learned spent = record {
      tried = costs;
      told = costs;
      tells = tells;
      falling = falling;
      honest = honest;
      tells_of = refl;
      progress = λ e. absurd (cc);
      no_failure = λ e. same;
      found = right;
      same_limit = limit;
      answers = answers;
      learned = learned;
      spent = spent;
    }
    found_end (Err e) falling honest same fault right answers learned spent =
        subst (λ x. Improves profile p (Err x) old new before left) (sym fault)
        (memory_end falling honest same)

-- what holds of the work of an answer, and implies something else of it
pub on_work_weaker : (r : Result Found ImproveFault) (P Q : Work → Type 0)
    → ((w : Work) → P w → Q w) → OnWork r P → OnWork r Q
on_work_weaker (Ok (Optimum c bits log clauses)) P Q f h = tt
on_work_weaker (Ok (Unsat log clauses)) P Q f h = tt
on_work_weaker (Ok (Best c bits work)) P Q f h = f work h
on_work_weaker (Ok (Nothing work)) P Q f h = f work h
on_work_weaker (Err e) P Q f h = tt
