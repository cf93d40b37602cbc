-- From one state of a session to the next.
use Rattle.std.proofs.Common.{◌≡◌, ℕ, ◌<◌, ◌≤◌, Bool, List, [], ◌∷◌, ◌++◌, Option, Some, None, map}
use Rattle.std.proofs.Common.{refl, sym, ◌∙◌, ap, subst, arith, append_assoc, append-nil}
use Rattle.std.proofs.Common.{length-append}
use Rattle.std.proofs.lemmas.List.{map-append}
use Rattle.std.proofs.lemmas.List.Elements.{All-nil, All-push}
use Rattle.cnf.specs.Problem.{Problem}
use Rattle.cdcl_order.specs.Budgets.{BudgetState, WaivesAs}
use Rattle.cdcl_order.specs.Watch.{Sight, Better, with_seen}
use Rattle.cdcl_order.proofs.Laws.{with_seen_more}
use Rattle.cuts_cores.specs.declared.desk.DeskFault.{DeskFault}
use Rattle.cuts_cores.specs.declared.desk.DeskFault.TheVariants.{Memory, Progress}
use Rattle.cuts_solver.specs.Solving.{SolverState, SameSolver}
use Rattle.improve_found.specs.Progress.{Telling, with_told, with_failed, AreFalling}
use Rattle.improve_found.specs.Solutions.{IsSolution}
use Rattle.improve_found.specs.Watch.{better_of, costs_shown}
use Rattle.improve_found.specs.declared.solutions.Solution.{Solution}
use Rattle.improve_found.proofs.Laws.{falling_more}
use Rattle.improve_cuts.specs.Sessions.{SessionState, HasCome, HasMet, HasKept, HasFailedToTell}
use Rattle.improve_cuts.specs.Sessions.{IsSameSearch, LeadsTo, WorksOn, Meets, Keeps, FailsToTell}
use Rattle.improve_cuts.specs.Sessions.{IsLastOf, cost_of, with_all_told}

same_search : (a b c : SessionState) → IsSameSearch a b → IsSameSearch b c → IsSameSearch a c
same_search a b c g h = record {
  origin = record {
    instance = (h.origin).instance ∙ (g.origin).instance;
    start = (h.origin).start ∙ (g.origin).start;
    origin = (h.origin).origin ∙ (g.origin).origin;
  };
  held = omega (arith, g.held, h.held);
  limit = h.limit ∙ g.limit;
  waives = omega (arith, g.waives, h.waives);
}

module _ (p : Problem) (start old new : SessionState) (w : WorksOn old new)
    (solutions : List (ℕ × List Bool)) where
  kept_on : HasKept p start old solutions → HasKept p start new solutions
  kept_on h = record {
    telling = w.telling ∙ h.telling;
    seen = w.seen ∙ h.seen;
    answers = w.answers ∙ h.answers;
    best = subst (IsLastOf solutions) (sym w.best) h.best;
    cuts = w.cuts ∙ h.cuts ∙ ap cost_of (sym w.best);
  }

  failed_on : HasFailedToTell p start old solutions → HasFailedToTell p start new solutions
  failed_on h = record {
    last = h.last;
    solution = h.solution;
    falling = h.falling;
    telling = w.telling ∙ h.telling;
    seen = w.seen ∙ h.seen;
  }

  met_on : (fault : Option DeskFault) → HasMet p start old solutions fault
      → HasMet p start new solutions fault
  met_on None h = kept_on h
  met_on (Some Memory) h = kept_on h
  met_on (Some Progress) h = failed_on h

-- the solver has worked
pub works_on : (p : Problem) (old new : SessionState) → WorksOn old new → LeadsTo p old new
works_on p old new w start h = record {
  solutions = h.solutions;
  each = h.each;
  falling = h.falling;
  met = subst (HasMet p start new h.solutions) (sym w.fault)
      (met_on p start old new w h.solutions old.fault h.met);
  search = same_search start old new h.search w.search;
}

-- one more solution that is cheaper than the last one
falls : (solutions : List (ℕ × List Bool)) (best : Option Solution) (next : ℕ × List Bool)
    → IsLastOf solutions best → next.0 < cost_of best → AreFalling (costs_shown solutions)
    → AreFalling (costs_shown (solutions ++ next ∷ []))
falls solutions None next h lt fall =
    subst (λ s. AreFalling (costs_shown (s ++ next ∷ []))) (sym h) tt
falls solutions (Some b) next h lt fall =
    let before = costs_shown h.0 in
    let all : costs_shown solutions ≡ before ++ b.cost ∷ [] =
    ap costs_shown h.1
    ∙ map-append (λ (s : ℕ × List Bool). s.0) h.0 ((b.cost, (b.bits).items) ∷ []) in
    subst AreFalling
    (sym (map-append (λ (s : ℕ × List Bool). s.0) solutions (next ∷ [])
    ∙ ap (λ cs. cs ++ next.0 ∷ []) all))
    (falling_more before b.cost next.0 (subst AreFalling all fall) lt)

-- what was told with one more
told_next : (costs : List ℕ) (c : ℕ) (t : Telling)
    → with_told c (with_all_told costs t) ≡ with_all_told (costs ++ c ∷ []) t
told_next costs c t =
    ap (λ told. record t { told = told }) (append_assoc t.told costs (c ∷ []))

module _ (p : Problem) (old new : SessionState) (s : Solution) (start : SessionState)
    (h : HasCome p start old) where
  before : Meets p old new s → HasKept p start old h.solutions
  before m = subst (HasMet p start old h.solutions) m.worked h.met

  seen_next : (m : Meets p old new s)
      → new.seen ≡ with_seen (map (better_of p) (h.solutions ++ (s.cost, (s.bits).items) ∷ []))
      start.seen
  seen_next m =
      let shown = map (better_of p) h.solutions in
      let one = Better p s.cost (s.bits).items ∷ [] in
      m.seen ∙ ap (with_seen one) (before m).seen ∙ with_seen_more shown one start.seen
      ∙ ap (λ z. with_seen z start.seen)
      (sym (map-append (better_of p) h.solutions ((s.cost, (s.bits).items) ∷ [])))

  keeps_next : Keeps p old new s
      → HasKept p start new (h.solutions ++ (s.cost, (s.bits).items) ∷ [])
  keeps_next k = record {
    telling = k.telling ∙ ap (with_told s.cost) (before k.meets).telling
        ∙ told_next (costs_shown h.solutions) s.cost start.telling
        ∙ ap (λ costs. with_all_told costs start.telling)
        (sym (map-append (λ (z : ℕ × List Bool). z.0) h.solutions ((s.cost, (s.bits).items) ∷ [])));
    seen = seen_next k.meets;
    answers = omega (
      arith,
      k.answers,
      (before k.meets).answers,
      length-append h.solutions ((s.cost, (s.bits).items) ∷ []),
    );
    best = subst (IsLastOf (h.solutions ++ (s.cost, (s.bits).items) ∷ [])) (sym k.best)
        (h.solutions, refl);
    cuts = omega (
      arith,
      k.cuts,
      (before k.meets).cuts,
      (k.meets).cheaper,
      ap cost_of k.best,
    );
  }

  pub come_kept : Keeps p old new s → HasCome p start new
  come_kept k = record {
    solutions = h.solutions ++ (s.cost, (s.bits).items) ∷ [];
    each = All-push (λ (z : ℕ × List Bool). IsSolution p z.1 z.0) h.solutions
        (s.cost, (s.bits).items) h.each (k.meets).solution;
    falling = falls h.solutions old.best (s.cost, (s.bits).items) (before k.meets).best
        (k.meets).cheaper h.falling;
    met = subst (HasMet p start new (h.solutions ++ (s.cost, (s.bits).items) ∷ [])) (sym k.fault)
        (keeps_next k);
    search = same_search start old new h.search (k.meets).search;
  }

  pub come_failed : FailsToTell p old new s → HasCome p start new
  come_failed f = record {
    solutions = h.solutions;
    each = h.each;
    falling = h.falling;
    met = subst (HasMet p start new h.solutions) (sym f.fault) (record {
      last = (s.cost, (s.bits).items);
      solution = (f.meets).solution;
      falling = falls h.solutions old.best (s.cost, (s.bits).items) (before f.meets).best
          (f.meets).cheaper h.falling;
      telling = f.telling ∙ ap (with_failed s.cost) (before f.meets).telling;
      seen = seen_next f.meets;
    });
    search = same_search start old new h.search (f.meets).search;
  }

-- a cheaper solution was kept
pub keeps_it : (p : Problem) (old new : SessionState) (s : Solution) → Keeps p old new s
    → LeadsTo p old new
keeps_it p old new s k start h = come_kept p old new s start h k

-- or could not be told
pub fails_to_tell : (p : Problem) (old new : SessionState) (s : Solution)
    → FailsToTell p old new s → LeadsTo p old new
fails_to_tell p old new s f start h = come_failed p old new s start h f

-- the first solution was kept, or could not be told: it costs no more than cuts hold for
module _ (p : Problem) (old new : SessionState) (s : Solution) (none : old.best ≡ None)
    (le : s.cost ≤ ((old.solver).log).cost) where
  pub first_kept : Keeps p old new s → HasCome p old new
  first_kept k =
      let one : List (ℕ × List Bool) = (s.cost, (s.bits).items) ∷ [] in
      record {
        solutions = one;
        each = All-push (λ (z : ℕ × List Bool). IsSolution p z.1 z.0) [] (s.cost, (s.bits).items)
            (All-nil (λ (z : ℕ × List Bool). IsSolution p z.1 z.0)) (k.meets).solution;
        falling = tt;
        met = subst (HasMet p old new one) (sym k.fault) (record {
          telling = k.telling;
          seen = (k.meets).seen;
          answers = k.answers;
          best = subst (IsLastOf one) (sym k.best) ([], refl);
          cuts = omega (arith, k.cuts, le, ap cost_of k.best);
        });
        search = (k.meets).search;
      }

  pub first_failed : FailsToTell p old new s → HasCome p old new
  first_failed f = record {
    solutions = [];
    each = All-nil (λ (z : ℕ × List Bool). IsSolution p z.1 z.0);
    falling = tt;
    met = subst (HasMet p old new []) (sym f.fault) (record {
      last = (s.cost, (s.bits).items);
      solution = (f.meets).solution;
      falling = tt;
      telling = f.telling
          ∙ ap (λ told. with_failed s.cost (record old.telling { told = told }))
          (sym (append-nil (old.telling).told));
      seen = (f.meets).seen;
    });
    search = (f.meets).search;
  }

-- the solver has worked, for units of the budget
pub search_on : {p : Problem} {old : SessionState} {s : SolverState} {b : BudgetState}
    {seen : Option (List Sight)} {waived learned : ℕ} → SameSolver old.solver s
    → b ≡ record old.budget { learned = learned; waived = b.waived }
    → WaivesAs old.budget b old.waived waived → seen ≡ old.seen
    → LeadsTo p old (record old { solver = s; budget = b; seen = seen; waived = waived })
search_on {p} {old} {s} {b} {seen} {waived} {learned} same pays waives shown =
    works_on p old (record old { solver = s; budget = b; seen = seen; waived = waived }) (record {
      telling = refl;
      seen = shown;
      answers = ap (λ z. z.answers) pays;
      best = refl;
      cuts = same.cost;
      fault = refl;
      search = record {
        origin = record {
          instance = same.problem;
          start = same.start;
          origin = same.origin;
        };
        held = omega (arith, same.cost);
        limit = ap (λ z. z.limit) pays;
        waives = waives;
      };
    })

-- the solver has worked, for nothing
pub solver_on : {p : Problem} {old : SessionState} {s : SolverState} → SameSolver old.solver s
    → LeadsTo p old (record old { solver = s })
solver_on same = search_on same refl refl refl

-- what is the same stays so, and one way leads on from the other
pub goes_on : {A B C D E F G : Type 0} {p : Problem} {a b c : SessionState}
    → A × B × C × D × E × F × G × LeadsTo p a b → LeadsTo p b c
    → A × B × C × D × E × F × G × LeadsTo p a c
goes_on f g = (f.0, f.1, f.2, f.3, f.4, f.5, f.6, λ start h. g start (f.7 start h))

-- so it does where the instance is known to be the same
pub leads_on : (p q : Problem) (a b c : SessionState) → q ≡ p → LeadsTo p a b → LeadsTo q b c
    → LeadsTo p a c
leads_on p q a b c e f g start h = (subst (λ z. LeadsTo z b c) e g) start (f start h)

-- from where a session has come to, it goes on
pub comes_on : (p q : Problem) (a b c : SessionState) → q ≡ p → HasCome p a b → LeadsTo q b c
    → HasCome p a c
comes_on p q a b c e h g = (subst (λ z. LeadsTo z b c) e g) a h
