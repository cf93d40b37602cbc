-- What is found at once, where nothing costs less than cuts have held for.
use Rattle.std.proofs.Common.{◌≡◌, ℕ, ◌+◌, ◌<◌, ◌^◌, Bool, true, false, List, [], ◌∷◌, Option, Some}
use Rattle.std.proofs.Common.{None, Ok, Err, refl, sym, ◌∙◌, ap, arith, append-nil}
use Rattle.std.specs.Prelude.{All}
use Rattle.std.proofs.KnownBytes.{Appends-nil}
use Rattle.std.proofs.lemmas.List.Elements.{All-nil, All-push}
use Rattle.cnf.specs.Problem.{Problem}
use Rattle.cdcl_order.specs.Budgets.{BudgetState, left_of}
use Rattle.cdcl_order.specs.Watch.{Sight, Better, with_seen}
use Rattle.cdcl_order.proofs.Laws.{with_seen_none}
use Rattle.improve_found.specs.Solutions.{IsCostOfSome, IsSolution}
use Rattle.improve_found.specs.Progress.{Telling, with_failed, with_told}
use Rattle.improve_found.specs.Watch.{AreShown}
use Rattle.improve_found.specs.declared.found.ImproveFault.TheVariants.{Progress}
use Rattle.improve_found.specs.declared.solutions.Solution.{Solution}
use Rattle.improve_found.proofs.Laws.{cost_of_solution}
use Rattle.improve_cuts.specs.ByCuts.{FindsByCuts, IsCutsFound}
use Rattle.improve_found.specs.declared.found.CutsFound.{CutsFound}
use Rattle.report.specs.ByCuts.{IsShownByCuts, SearchesByCuts}
use Rattle.report.specs.Earlier.{EndsAt}

-- one solution is shown, told and paid for
module _ (p : Problem) (limit : ℕ) (b : Solution) (e : EndsAt p limit (Some b))
    (old new : Telling) (budget left : BudgetState)
    (paid : left ≡ record budget { answers = budget.answers + 1 }) where
  one_honest : All (IsCostOfSome p) (b.cost ∷ [])
  one_honest =
      All-push (IsCostOfSome p) [] b.cost (All-nil (IsCostOfSome p))
      (cost_of_solution p (b.bits).items b.cost e.begins.0)

  pub told_one : new ≡ with_told b.cost old
      → FindsByCuts p limit (Ok (record { best = Some b; is_proved = true })) true b.cost
      old new budget left
  told_one t = record {
    tried = b.cost ∷ [];
    told = b.cost ∷ [];
    tells = ap (λ z. z.told) t;
    falling = tt;
    honest = one_honest;
    tells_of = refl;
    progress = λ z. absurd (cc);
    no_failure = λ z. ap (λ z. z.failures) t;
    found = record {
      best = record { solution = e.begins.0; told_last = ([], refl); cost = refl };
      none = tt;
      proved = λ z. record {
        refuted_is = refl;
        least = λ u f. let enough = e.least u f in
            let less = e.begins.1 in omega (arith, enough, less);
      };
      unbounded = λ z. tt;
      spent = λ z. absurd (cc);
    };
    same_limit = ap (λ z. z.limit) paid;
    answers = ap (λ z. z.answers) paid;
  }

  pub failed_one : new ≡ with_failed b.cost old
      → FindsByCuts p limit (Err Progress) true limit old new budget left
  failed_one t = record {
    tried = b.cost ∷ [];
    told = [];
    tells = ap (λ z. z.told) t ∙ sym (append-nil old.told);
    falling = tt;
    honest = one_honest;
    tells_of = record {
      last = b.cost;
      last_failed = ap (λ z. z.failed) t;
      tried_is = refl;
    };
    progress = λ z. ap (λ z. z.failures) t;
    no_failure = λ z. absurd (z refl);
    found = tt;
    same_limit = ap (λ z. z.limit) paid;
    answers = tt;
  }

  pub one_shown : (before after : Option (List Sight))
      → after ≡ with_seen (Better p b.cost (b.bits).items ∷ []) before
      → new ≡ with_told b.cost old → AreShown p old new before after
  one_shown before after seen t = record {
    solutions = (b.cost, (b.bits).items) ∷ [];
    each = All-push (λ (z : ℕ × List Bool). IsSolution p z.1 z.0) [] (b.cost, (b.bits).items)
        (All-nil (λ (z : ℕ × List Bool). IsSolution p z.1 z.0)) e.begins.0;
    seen = seen;
    told = λ z. ap (λ z. z.told) t;
    failed = λ z. absurd (omega (arith, z, ap (λ z. z.failures) t));
  }

-- nothing is told
module _ (p : Problem) (limit : ℕ) (found : CutsFound) (budget : BudgetState)
    (right : IsCutsFound p limit [] found true limit budget) (out : Option (List ℕ)) where
  pub finds_none : SearchesByCuts p limit (Ok found) true limit out out budget budget
  finds_none = record {
    tried = [];
    falling = tt;
    honest = All-nil (IsCostOfSome p);
    small = All-nil (λ c. c < 2 ^ 62);
    lines = Appends-nil out;
    found = right;
    same_limit = refl;
    answers = omega arith;
  }

  pub none_shown : (seen : Option (List Sight))
      → IsShownByCuts p limit found true limit out out budget seen seen
  none_shown seen = record {
    solutions = [];
    each = All-nil (λ (z : ℕ × List Bool). IsSolution p z.1 z.0);
    seen = sym (with_seen_none seen);
    falling = tt;
    small = All-nil (λ c. c < 2 ^ 62);
    lines = Appends-nil out;
    right = right;
  }

-- there is no solution
pub none_right : (p : Problem) (limit : ℕ) (budget : BudgetState) → EndsAt p limit None
    → IsCutsFound p limit [] (record { best = None; is_proved = true }) true limit budget
none_right p limit budget e = record {
  best = tt;
  none = record { none_told = refl; cost = refl };
  proved = λ z. record { refuted_is = refl; least = e.least };
  unbounded = λ z. e.begins;
  spent = λ z. absurd (cc);
}

-- or nothing is left to pay for one
pub unpaid_right : (p : Problem) (limit : ℕ) (budget : BudgetState) → left_of budget ≡ 0
    → IsCutsFound p limit [] (record { best = None; is_proved = false }) true limit budget
unpaid_right p limit budget spent = record {
  best = tt;
  none = record { none_told = refl; cost = refl };
  proved = λ z. absurd (cc);
  unbounded = λ z. absurd (cc);
  spent = λ z. spent;
}
