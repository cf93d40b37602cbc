-- How a search begins, and how one ends that has come so far.
use Rattle.std.proofs.Common.{◌≡◌, ℕ, Bool, List, [], ◌∷◌, ◌++◌, Option, Some, None, Ok, Err, refl}
use Rattle.std.proofs.Common.{sym, ◌∙◌, ap, subst, arith, append-nil, false, ◌≤◌}
use Rattle.std.specs.Prelude.{All, IfSome, IfNone, Result, IfOk, IfErr}
use Rattle.std.proofs.lemmas.List.{map-append, length-map}
use Rattle.std.proofs.lemmas.List.Elements.{All-nil, All-push, All-pop, All-map, All-weaker}
use Rattle.cnf.specs.Problem.{Problem}
use Rattle.cnf.specs.declared.limits.TheConstants.{NUMBER_LIMIT}
use Rattle.cdcl_order.specs.Budgets.{BudgetState, left_of}
use Rattle.cdcl_order.proofs.Laws.{with_seen_none}
use Rattle.cuts_cores.specs.declared.desk.DeskFault.{DeskFault}
use Rattle.cuts_cores.specs.declared.desk.DeskFault.TheVariants.{Memory, Progress}
use Rattle.improve_found.specs.Solutions.{IsSolution, IsCostOfSome}
use Rattle.improve_found.specs.Progress.{Telling}
use Rattle.improve_found.specs.Watch.{AreShown, costs_shown}
use Rattle.improve_found.specs.declared.found.ImproveFault.{ImproveFault}
use Rattle.improve_found.specs.declared.found.ImproveFault.TheVariants.{Memory as NoMemory}
use Rattle.improve_found.specs.declared.found.ImproveFault.TheVariants.{Progress as CannotTell}
use Rattle.improve_found.specs.declared.solutions.Solution.{Solution}
use Rattle.improve_found.proofs.Laws.{cost_of_solution}
use Rattle.improve_cuts.specs.ByCuts.{BeginsWith, FindsByCuts, IsBestOf, HasNone}
use Rattle.improve_cuts.specs.Sessions.{SessionState, HasCome, HasMet, HasKept, HasFailedToTell}
use Rattle.improve_cuts.specs.Sessions.{IsLastOf, IsFaultOf, EndsWithout, cost_of, found_by}

-- nothing was met yet
pub begins : (p : Problem) (s : SessionState) → s.best ≡ None → s.fault ≡ None
    → ((s.solver).log).cost ≡ NUMBER_LIMIT → HasCome p s s
begins p s none works cuts = record {
  solutions = [];
  each = All-nil (λ (z : ℕ × List Bool). IsSolution p z.1 z.0);
  falling = tt;
  met = subst (HasMet p s s []) (sym works) (record {
    telling = ap (λ told. record s.telling { told = told }) (sym (append-nil (s.telling).told));
    seen = sym (with_seen_none s.seen);
    answers = omega arith;
    best = subst (IsLastOf []) (sym none) refl;
    cuts = subst (λ b. ((s.solver).log).cost ≡ cost_of b) (sym none) cuts;
  });
  search = record {
    origin = record { instance = refl; start = refl; origin = refl };
    held = omega arith;
    limit = refl;
    waives = refl;
  };
}

module _ (p : Problem) (start now : SessionState) (h : HasCome p start now) where
  costs : List ℕ
  costs = costs_shown h.solutions

  honest : All (IsCostOfSome p) (costs_shown h.solutions)
  honest =
      All-map (IsCostOfSome p) (λ (z : ℕ × List Bool). z.0) h.solutions
      (All-weaker (λ (z : ℕ × List Bool). IsSolution p z.1 z.0)
      (λ (z : ℕ × List Bool). IsCostOfSome p z.0) (λ z s. cost_of_solution p z.1 z.0 s) h.solutions
      h.each)

  -- where nothing has failed to be told
  shown_kept : HasKept p start now h.solutions
      → AreShown p start.telling now.telling start.seen now.seen
  shown_kept k = record {
    solutions = h.solutions;
    each = h.each;
    seen = k.seen;
    told = λ e. ap (λ t. t.told) k.telling;
    failed = λ e. absurd (omega (arith, e, ap (λ t. t.failures) k.telling));
  }

  shown_failed : HasFailedToTell p start now h.solutions
      → AreShown p start.telling now.telling start.seen now.seen
  shown_failed f = record {
    solutions = h.solutions ++ f.last ∷ [];
    each =
        All-push (λ (z : ℕ × List Bool). IsSolution p z.1 z.0) h.solutions f.last h.each
        f.solution;
    seen = f.seen;
    told = λ e. absurd (omega (arith, e, ap (λ t. t.failures) f.telling));
    failed = λ e. (
      costs_shown h.solutions,
      ap (λ t. t.told) f.telling,
      record {
        last = (f.last).0;
        last_failed = ap (λ t. t.failed) f.telling;
        tried_is = map-append (λ (z : ℕ × List Bool). z.0) h.solutions (f.last ∷ []);
      },
    );
  }

  shown_met : (fault : Option DeskFault) → HasMet p start now h.solutions fault
      → AreShown p start.telling now.telling start.seen now.seen
  shown_met None m = shown_kept m
  shown_met (Some Memory) m = shown_kept m
  shown_met (Some Progress) m = shown_failed m

  -- what was shown
  pub shown_come : AreShown p start.telling now.telling start.seen now.seen
  shown_come = shown_met now.fault h.met

  kept_of : (fault : Option DeskFault) → (fault ≡ Some Progress → ⊥)
      → HasMet p start now h.solutions fault → HasKept p start now h.solutions
  kept_of None none m = m
  kept_of (Some Memory) none m = m
  kept_of (Some Progress) none m = absurd (none refl)

  best_of : HasKept p start now h.solutions → (best : Option Solution) → IsLastOf h.solutions best
      → ((now.solver).log).cost ≡ cost_of best
      → IfSome best (IsBestOf p (costs_shown h.solutions) ((now.solver).log).cost)
  best_of k None last cuts = tt
  best_of k (Some b) last cuts = record {
    solution =
        (All-pop (λ (z : ℕ × List Bool). IsSolution p z.1 z.0) h.solutions last.0
        (Some (b.cost, (b.bits).items)) last.1 h.each).1;
    told_last = (
      costs_shown last.0,
      ap costs_shown last.1
          ∙ map-append (λ (z : ℕ × List Bool). z.0) last.0 ((b.cost, (b.bits).items) ∷ []),
    );
    cost = cuts;
  }

  none_of : ((start.solver).log).cost ≤ NUMBER_LIMIT → (best : Option Solution)
      → IsLastOf h.solutions best → ((now.solver).log).cost ≡ cost_of best
      → IfNone best (HasNone ((start.solver).log).cost (costs_shown h.solutions)
      ((now.solver).log).cost)
  none_of most None last cuts = record {
    none_told = ap costs_shown last;
    cost = omega (arith, most, cuts, (h.search).held);
  }
  none_of most (Some b) last cuts = tt

  unbounded : ((start.solver).log).cost ≤ NUMBER_LIMIT → (best : Option Solution)
      → ((now.solver).log).cost ≡ cost_of best
      → IfNone best (((start.solver).log).cost ≡ NUMBER_LIMIT)
  unbounded most None cuts = omega (arith, most, cuts, (h.search).held)
  unbounded most (Some b) cuts = tt

  -- an end without a fault
  pub found_come : ((start.solver).log).cost ≤ NUMBER_LIMIT → (is_proved : Bool)
      → EndsWithout p is_proved now
      → FindsByCuts p ((start.solver).log).cost
      (Ok (record { best = now.best; is_proved = is_proved }))
      (now.solver).refuted ((now.solver).log).cost
      start.telling now.telling start.budget now.budget
  found_come most is_proved e =
      let k : HasKept p start now h.solutions =
      subst (HasMet p start now h.solutions) e.fault h.met in
      record {
        tried = costs_shown h.solutions;
        told = costs_shown h.solutions;
        tells = ap (λ t. t.told) k.telling;
        falling = h.falling;
        honest = honest;
        tells_of = refl;
        progress = λ z. absurd (cc);
        no_failure = λ z. ap (λ t. t.failures) k.telling;
        found = record {
          best = best_of k now.best k.best k.cuts;
          none = none_of most now.best k.best k.cuts;
          proved = e.proved;
          unbounded = λ z. unbounded most now.best k.cuts;
          spent = e.spent;
        };
        same_limit = (h.search).limit;
        answers = omega (
          arith,
          k.answers,
          length-map h.solutions (λ (z : ℕ × List Bool). z.0),
        );
      }

  memory_come : HasKept p start now h.solutions
      → FindsByCuts p ((start.solver).log).cost (Err NoMemory) (now.solver).refuted
      ((now.solver).log).cost
      start.telling now.telling start.budget now.budget
  memory_come k = record {
    tried = costs_shown h.solutions;
    told = costs_shown h.solutions;
    tells = ap (λ t. t.told) k.telling;
    falling = h.falling;
    honest = honest;
    tells_of = refl;
    progress = λ z. absurd (let x : NoMemory ≡ CannotTell = cc in cc);
    no_failure = λ z. ap (λ t. t.failures) k.telling;
    found = tt;
    same_limit = (h.search).limit;
    answers = tt;
  }

  progress_come : HasFailedToTell p start now h.solutions
      → FindsByCuts p ((start.solver).log).cost (Err CannotTell) (now.solver).refuted
      ((now.solver).log).cost
      start.telling now.telling start.budget now.budget
  progress_come f = record {
    tried = costs_shown (h.solutions ++ f.last ∷ []);
    told = costs_shown h.solutions;
    tells = ap (λ t. t.told) f.telling;
    falling = f.falling;
    honest =
        All-map (IsCostOfSome p) (λ (z : ℕ × List Bool). z.0) (h.solutions ++ f.last ∷ [])
        (All-weaker (λ (z : ℕ × List Bool). IsSolution p z.1 z.0)
        (λ (z : ℕ × List Bool). IsCostOfSome p z.0) (λ z s. cost_of_solution p z.1 z.0 s)
        (h.solutions ++ f.last ∷ [])
        (All-push (λ (z : ℕ × List Bool). IsSolution p z.1 z.0) h.solutions f.last h.each
        f.solution));
    tells_of = record {
      last = (f.last).0;
      last_failed = ap (λ t. t.failed) f.telling;
      tried_is = map-append (λ (z : ℕ × List Bool). z.0) h.solutions (f.last ∷ []);
    };
    progress = λ z. ap (λ t. t.failures) f.telling;
    no_failure = λ z. absurd (z refl);
    found = tt;
    same_limit = (h.search).limit;
    answers = tt;
  }

  -- an end with one
  pub fault_come : (e : ImproveFault) → IsFaultOf e now.fault
      → FindsByCuts p ((start.solver).log).cost (Err e) (now.solver).refuted
      ((now.solver).log).cost
      start.telling now.telling start.budget now.budget
  fault_come NoMemory e = memory_come (kept_of now.fault e h.met)
  fault_come CannotTell e = progress_come (subst (HasMet p start now h.solutions) e h.met)

  -- either end
  pub end_come : ((start.solver).log).cost ≤ NUMBER_LIMIT → (q : Problem) → q ≡ p
      → (result : Result Bool ImproveFault)
      → IfOk result (λ is_proved. EndsWithout q is_proved now)
      → IfErr result (λ e. IsFaultOf e now.fault)
      → FindsByCuts p ((start.solver).log).cost (found_by result now.best)
      (now.solver).refuted ((now.solver).log).cost
      start.telling now.telling start.budget now.budget
  end_come most q same (Ok is_proved) ok err =
      found_come most is_proved (subst (λ z. EndsWithout z is_proved now) same ok)
  end_come most q same (Err e) ok err = fault_come e err

-- cuts never hold for more than 2^62
pub most_held : (p : Problem) (held : ℕ) (first : Option Solution) → BeginsWith p held first
    → held ≤ NUMBER_LIMIT
most_held p held None h = omega (arith, h)
most_held p held (Some b) h = h.2

-- no search was made
pub finds_nothing : (p : Problem) (refuted : Bool) (held : ℕ) (t : Telling) (b : BudgetState)
    → left_of b ≡ 0
    → FindsByCuts p held (Ok (record { best = None; is_proved = false })) refuted held t t b b
finds_nothing p refuted held t b spent = record {
  tried = [];
  told = [];
  tells = sym (append-nil t.told);
  falling = tt;
  honest = All-nil (IsCostOfSome p);
  tells_of = refl;
  progress = λ z. absurd (cc);
  no_failure = λ z. refl;
  found = record {
    best = tt;
    none = record { none_told = refl; cost = refl };
    proved = λ z. absurd (cc);
    unbounded = λ z. absurd (cc);
    spent = λ z. spent;
  };
  same_limit = refl;
  answers = omega arith;
}
