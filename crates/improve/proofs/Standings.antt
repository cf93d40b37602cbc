-- From one standing to the next, and how a search ends that came to one.
use Rattle.std.proofs.Common.{◌≡◌, ℕ, ◌+◌, ◌<◌, List, [], ◌∷◌, ◌++◌, Bool, Result, Err, length}
use Rattle.std.proofs.Common.{append_assoc, length-append, refl, sym, ◌∙◌, ap, subst, arith}
use Rattle.std.specs.Prelude.{All, IfOk, IfErr}
use Rattle.std.proofs.lemmas.List.Elements.{All-nil, All-push}
use Rattle.std.specs.declared.vec.Vec.{Vec}
use Rattle.std.specs.declared.alloc.Global.{Global}
use Rattle.cnf.specs.Problem.{Problem}
use Rattle.lrat_log.specs.Steps.{learned_count}
use Rattle.adder.specs.declared.profiles.Profile.{Profile}
use Rattle.cdcl_order.specs.Budgets.{BudgetState, left_of}
use Rattle.improve_found.specs.declared.found.Found.{Found}
use Rattle.improve_found.specs.declared.found.ImproveFault.{ImproveFault}
use Rattle.improve_found.specs.declared.found.ImproveFault.TheVariants.{Memory, Progress}
use Rattle.improve_found.specs.Progress.{Telling, with_told, with_failed, AreFalling}
use Rattle.improve_found.specs.Solutions.{IsSolution, IsCostOfSome}
use Rattle.improve.specs.Improving.{IsRightFound, OnWork, work_count}
use Rattle.improve.specs.Standing.{Standing, starting_with, costs_of, IsStanding, MovesStanding}
use Rattle.improve.specs.Standing.{Descends, Ends, Fails}
use Rattle.improve.specs.Bounds.{HasLast, HasNoBound}
use Rattle.improve.specs.declared.bounds.Bounds.{Bounds}
use Rattle.improve_found.specs.declared.solutions.Solution.{Solution}
use Rattle.improve.proofs.SearchEnds.{memory_end, progress_end, found_end, on_work_weaker}
use Rattle.improve_found.proofs.Laws.{cost_of_solution, falling_more}

-- the costs told, with the best one, are costs of solutions
pub honest_costs : (p : Problem) (s : Standing) → IsStanding p s → All (IsCostOfSome p) (costs_of s)
honest_costs p s h =
    All-push (IsCostOfSome p) s.earlier (s.best).cost h.honest
    (cost_of_solution p ((s.best).bits).items (s.best).cost h.solution)

pub first_standing : (p : Problem) (first : Solution) → IsSolution p (first.bits).items first.cost
    → IsStanding p (starting_with first)
first_standing p first solution =
    record { solution = solution; falling = tt; honest = All-nil (IsCostOfSome p) }

-- nothing was told
pub goes_spent : (p : Problem) (now : Telling) (had left : BudgetState) (s : Standing) (x y : ℕ)
    → IsStanding p s → left.limit ≡ had.limit → left.answers ≡ had.answers
    → left.learned + x ≡ had.learned + y → MovesStanding p now now had left s s x y
goes_spent p now had left s x y h limit answers learned = record {
  standing = h;
  told = λ earlier z. z;
  failures = refl;
  limit = limit;
  answers = ap (λ n. n + length (costs_of s)) answers;
  learned = learned;
}

module _ (p : Problem) (old mid new : Telling) (had between left : BudgetState) (s t u : Standing)
  where
    pub goes_further : (x y z : ℕ) → MovesStanding p old mid had between s t x y
        → MovesStanding p mid new between left t u y z → MovesStanding p old new had left s u x z
    goes_further x y z a b = record {
      standing = b.standing;
      told = λ earlier h. b.told earlier (a.told earlier h);
      failures = b.failures ∙ a.failures;
      limit = b.limit ∙ a.limit;
      answers = omega (arith, a.answers, b.answers);
      learned = omega (arith, a.learned, b.learned);
    }

module _ (p : Problem) (old mid new : Telling) (had between left : BudgetState) (s t : Standing)
    (x y : ℕ) (a : MovesStanding p old mid had between s t x y) where
  pub fails_after : (e : ImproveFault) → Fails p e mid new between left t
      → Fails p e old new had left s
  fails_after e b =
      λ profile earlier before told limit. b profile earlier before (a.told earlier told)
      (a.limit ∙ limit)

  pub ends_after : (profile : Profile) (result : Result Found ImproveFault) (m n : ℕ)
      → n + x ≡ m + y → Ends profile p result mid new between left t n
      → Ends profile p result old new had left s m
  ends_after profile result m n e b =
      λ earlier before told spent. b earlier before (a.told earlier told) (record {
        limit = a.limit ∙ spent.limit;
        answers = omega (arith, a.answers, spent.answers);
        learned = omega (arith, a.learned, spent.learned, e);
      })

-- before the first bound
pub goes_first : (p : Problem) (now : Telling) (had : BudgetState) (first : Solution) (b : Bounds)
    → IsSolution p (first.bits).items first.cost → HasNoBound b
    → MovesStanding p now now had had (starting_with first)
    (record { best = first; earlier = (b.costs).items }) 0 (learned_count (b.solver).sink)
goes_first p now had first b solution none =
    subst (λ cs. MovesStanding p now now had had (starting_with first)
    (record { best = first; earlier = cs }) 0 (learned_count (b.solver).sink)) (sym none.none)
    (goes_spent p now had had (starting_with first) 0 (learned_count (b.solver).sink)
    (first_standing p first solution) refl refl (omega (arith, none.learned)))

-- a cheaper solution was told
pub goes_cheaper : (p : Problem) (old new : Telling) (had left : BudgetState) (s t : Standing)
    → IsStanding p s → t.earlier ≡ costs_of s → (t.best).cost < (s.best).cost
    → IsSolution p ((t.best).bits).items (t.best).cost → new ≡ with_told (t.best).cost old
    → left.answers ≡ had.answers + 1 → left.limit ≡ had.limit → (x y : ℕ)
    → left.learned + x ≡ had.learned + y → MovesStanding p old new had left s t x y
goes_cheaper p old new had left s t h more less solution tells answers limit x y learned = record {
  standing = record {
    solution = solution;
    falling = subst (λ cs. AreFalling (cs ++ (t.best).cost ∷ [])) (sym more)
        (falling_more s.earlier (s.best).cost (t.best).cost h.falling less);
    honest = subst (All (IsCostOfSome p)) (sym more) (honest_costs p s h);
  };
  told = λ earlier z. record {
    told = ap (λ n. n.told) tells ∙ ap (λ cs. cs ++ (t.best).cost ∷ []) z.told
        ∙ append_assoc earlier.told (costs_of s) ((t.best).cost ∷ [])
        ∙ ap (λ cs. earlier.told ++ (cs ++ (t.best).cost ∷ [])) (sym more);
    failures = ap (λ n. n.failures) tells ∙ z.failures;
  };
  failures = ap (λ n. n.failures) tells;
  limit = limit;
  answers =
      omega (
        arith,
        answers,
        ap length more,
        length-append t.earlier ((t.best).cost ∷ []),
      );
  learned = learned;
}

module _ (p : Problem) (old new : Telling) (had left : BudgetState) (s : Standing)
    (h : IsStanding p s) (same : left.limit ≡ had.limit) where
  -- memory was refused
  pub fails_memory : new ≡ old → Fails p Memory old new had left s
  fails_memory e =
      λ profile earlier before told limit. memory_end profile p earlier new before left
      (same ∙ limit) (costs_of s) (ap (λ n. n.told) e ∙ told.told) h.falling (honest_costs p s h)
      (ap (λ n. n.failures) e ∙ told.failures)

  -- a cheaper solution could not be told
  pub fails_progress : (c : ℕ) (bits : List Bool) → IsSolution p bits c → c < (s.best).cost
      → new ≡ with_failed c old → Fails p Progress old new had left s
  fails_progress c bits solution less e =
      λ profile earlier before told limit. progress_end profile p earlier new before left
      (same ∙ limit) (costs_of s) (ap (λ n. n.told) e ∙ told.told) c
      (falling_more s.earlier (s.best).cost c h.falling less)
      (All-push (IsCostOfSome p) (costs_of s) c (honest_costs p s h)
      (cost_of_solution p bits c solution)) (ap (λ n. n.failed) e)
      (ap (λ n. n.failures) e ∙ ap (λ n. n + 1) told.failures)

pub ends_failing : (profile : Profile) (p : Problem) (e : ImproveFault) (old new : Telling)
    (had left : BudgetState) (s : Standing) (n : ℕ) → Fails p e old new had left s
    → Ends profile p (Err e) old new had left s n
ends_failing profile p e old new had left s n f =
    λ earlier before told spent. f profile earlier before told spent.limit

-- something was found
pub ends_found : (profile used : Profile) (p : Problem) (result : Result Found ImproveFault)
    (now : Telling) (had left : BudgetState) (s : Standing) (costs : List ℕ) (n x y : ℕ)
    → IsStanding p s → left.limit ≡ had.limit → left.answers ≡ had.answers
    → left.learned + x ≡ had.learned + y → IfErr result (λ e. e ≡ Memory) → used ≡ profile
    → costs ≡ costs_of s → IfOk result (IsRightFound used p costs)
    → OnWork result (λ w. work_count w + x ≡ n + y) → OnWork result (λ w. left_of left ≡ 0)
    → Ends profile p result now now had left s n
ends_found profile used p result now had left s costs n x y h limit answers learned fault same told
    right work spent =
    λ earlier before tells paid. found_end profile p earlier now before left (limit ∙ paid.limit)
    (costs_of s) tells.told result h.falling (honest_costs p s h) tells.failures fault
    (subst (λ q. IfOk result (IsRightFound q p (costs_of s))) same
    (subst (λ cs. IfOk result (IsRightFound used p cs)) told right))
    (omega (arith, answers, paid.answers))
    (on_work_weaker result (λ w. work_count w + x ≡ n + y)
    (λ w. left.learned ≡ before.learned + work_count w)
    (λ w e. omega (arith, e, learned, paid.learned)) work) spent

-- the solver answered that nothing is below the best solution, or that the budget is spent
pub descends_last : (p : Problem) (old now : Telling) (had between left : BudgetState)
    (s : Standing) (best : Solution) (costs : List ℕ) (was : ℕ) (given b : Bounds)
    → MovesStanding p old now had between s (record { best = best; earlier = costs }) 0 was
    → HasLast given costs best.cost → learned_count (given.solver).sink ≡ was
    → b.costs ≡ given.costs → left.limit ≡ between.limit → left.answers ≡ between.answers
    → left.learned + learned_count (given.solver).sink
    ≡ between.learned + learned_count (b.solver).sink
    → Descends p old now had left s best b
descends_last p old now had between left s best costs was given b a last none same limit answers
    learned =
    let t : Standing = record { best = best; earlier = costs } in
    let more = learned_count (b.solver).sink in
    record {
      earlier = costs;
      last = ap (λ (v : Vec ℕ Global). v.items) same ∙ last;
      goes_on =
          goes_further p old now now had between left s t t 0 was more a
          (goes_spent p now between left t was more a.standing limit answers
          (omega (arith, learned, none)));
    }

-- and what was found then
pub ends_descended : (profile used : Profile) (p : Problem) (result : Result Found ImproveFault)
    (old now : Telling) (had left : BudgetState) (s : Standing) (best : Solution) (b : Bounds)
    (lines : ℕ) → Descends p old now had left s best b → IfErr result (λ e. e ≡ Memory)
    → used ≡ profile → IfOk result (IsRightFound used p (b.costs).items)
    → OnWork result (λ w. work_count w ≡ lines + learned_count (b.solver).sink)
    → OnWork result (λ w. left_of left ≡ 0) → Ends profile p result old now had left s lines
ends_descended profile used p result old now had left s best b lines d fault same right work spent =
    let t : Standing = record { best = best; earlier = d.earlier } in
    let more = learned_count (b.solver).sink in
    ends_after p old now now had left left s t 0 more d.goes_on profile result lines (lines + more)
    (omega arith)
    (ends_found profile used p result now left left t (b.costs).items (lines + more) more more
    d.goes_on.standing refl refl refl fault same d.last right
    (on_work_weaker result (λ w. work_count w ≡ lines + more)
    (λ w. work_count w + more ≡ lines + more + more) (λ w e. omega (arith, e)) work) spent)
