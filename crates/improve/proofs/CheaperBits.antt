-- Bits that satisfy all that was given are a solution that is cheaper than the last bound.
use Rattle.std.proofs.Common.{◌≡◌, ℕ, zero, suc, ◌+◌, ◌^◌, ◌<◌, ◌≤◌, Bool, true, List, [], ◌∷◌}
use Rattle.std.proofs.Common.{◌++◌, length, inr, append_assoc, refl, sym, ◌∙◌, ap, subst, arith}
use Rattle.std.proofs.Common.{All}
use Rattle.std.specs.List.{AllByRecursion, flat_map}
use Rattle.std.proofs.lemmas.List.Elements.{recursion_from_All, All-from_recursion, All-map}
use Rattle.std.proofs.lemmas.List.Elements.{Contains-push}
use Rattle.cnf.specs.Literal.{Literal, Assignment}
use Rattle.cnf.specs.Clause.{Satisfies}
use Rattle.cnf.specs.Bits.{Extends, assignment_of}
use Rattle.cnf.specs.Problem.{Problem, IsFeasible, cost_under}
use Rattle.lrat_log.specs.declared.lines.Name.{Name}
use Rattle.adder.specs.Network.{adders_as}
use Rattle.bound.specs.Bound.{bound_as, fixed_clauses, comparator_for}
use Rattle.bound.proofs.Laws.{says_cheaper}
use Rattle.std.specs.Prelude.{Contains, if◌then◌else◌}
use Rattle.std.proofs.lemmas.Bool.{false_from_ne_true}
use Rattle.std.proofs.lemmas.List.Sums.{sum_by-append}
use Rattle.lrat_log.specs.Log.{LogLine, is_learned, clauses_in}
use Rattle.lrat_log.specs.Steps.{IsLogOver, IsBaseOf, LearnsNew, is_later, nothing_exempt}
use Rattle.lrat_log.specs.Steps.{learned_count, given_of}
use Rattle.lrat_log.proofs.Laws.{base_of, new_searched}
use Rattle.improve.specs.Frozen.{AreFrozen}
use Rattle.cdcl.specs.Solving.{given_to, SatisfyGiven, SameGiven, IsPlainlyRefuted, lines_since}
use Rattle.improve.specs.Bounds.{LogSolver, IsOver}
use Rattle.cnf.specs.Formula.{Cnf}
use Rattle.std.proofs.lemmas.List.{length-map}
use Rattle.improve.specs.declared.bounds.Bounds.{Bounds}
use Rattle.cnf.proofs.Laws.{extends_own, all_left, all_right, all_append}
use Rattle.improve.proofs.Comparators.{variables_within}
use Rattle.improve.proofs.GivenParts.{given_split}

-- all clauses given hold, so those of the formula for the last bound do
pub last_satisfied : (p : Problem) (b : Bounds) (before : List ℕ) (c : ℕ) (t : Assignment)
    → IsOver p b → (b.costs).items ≡ before ++ c ∷ []
    → All (λ (g : Name × List Literal). Satisfies t g.1) (given_to b.solver)
    → All (Satisfies t) (bound_as b.profile p c).clauses
last_satisfied p b before c t h e s =
    let A = fixed_clauses b.profile p in
    let B = flat_map (comparator_for b.profile p) before in
    let C = comparator_for b.profile p c in
    let all =
    subst (AllByRecursion (Satisfies t)) (given_split p b before c h e)
    (recursion_from_All (Satisfies t) (clauses_in (given_to b.solver))
    (All-map (Satisfies t) (λ (g : Name × List Literal). g.1) (given_to b.solver) s)) in
    All-from_recursion (Satisfies t) (A ++ C)
    (all_append (Satisfies t) A C (all_left (Satisfies t) A (B ++ C) all)
    (all_right (Satisfies t) B C (all_right (Satisfies t) A (B ++ C) all)))

pub bits_cheaper : (p : Problem) (b : Bounds) (before : List ℕ) (c : ℕ) (bits : List Bool)
    → IsOver p b → (b.costs).items ≡ before ++ c ∷ []
    → SatisfyGiven bits (given_to b.solver) → (t : Assignment) → Extends bits t
    → IsFeasible p t × (cost_under p t < c)
bits_cheaper p b before c bits h e s t x =
    (says_cheaper b.profile p c h.instance).to t (last_satisfied p b before c t h e (s t x))

pub cost_cheaper : (p : Problem) (b : Bounds) (before : List ℕ) (c cost : ℕ) (bits : List Bool)
    → IsOver p b → (b.costs).items ≡ before ++ c ∷ []
    → SatisfyGiven bits (given_to b.solver)
    → ((t : Assignment) → Extends bits t → cost_under p t ≡ cost) → cost < c
cost_cheaper p b before c cost bits h e s same =
    let t = assignment_of bits in
    subst (λ n. n < c) (same t (extends_own bits))
    ((bits_cheaper p b before c bits h e s t (extends_own bits)).1)

-- the bits are as many as the formula's variables, so those of the instance are among them
pub bits_long : (p : Problem) (b : Bounds) (bits : List Bool) → IsOver p b
    → length bits ≡ ((b.solver).formula).variables → p.variables ≤ length bits
bits_long p b bits h e =
    omega (arith, ap (λ f. f.variables) h.formula, variables_within b.profile p (2 ^ 62))

-- after a search the same clauses are given
pub solved_over : (p : Problem) (b : Bounds) (s : LogSolver) → IsOver p b → SameGiven b.solver s
    → (s.failed ≡ true → ⊥) → IsLogOver (given_to s) s.sink
    → s.sink ≡ (b.solver).sink ++ lines_since (b.solver).sink s.sink
    → ((base : ℕ) → IsBaseOf (given_to b.solver) base
    → LearnsNew nothing_exempt (given_to b.solver) base (b.solver).sink
    (lines_since (b.solver).sink s.sink))
    → IsOver p (record {
      solver = s;
      network = b.network;
      profile = b.profile;
      costs = b.costs;
      fixed = b.fixed;
      last = b.last;
    })
solved_over p b s h same works log grows fresh =
    let given : given_to s ≡ given_to b.solver =
    ap (λ x. given_of x.clauses ++ s.added) same.0
    ∙ ap (λ x. given_of (b.solver).formula.clauses ++ x) same.1 in
    record {
      instance = h.instance;
      usable =
          record {
            works = false_from_ne_true s.failed works;
            numbered = given ∙ (h.usable).numbered
                ∙ ap (λ g. given_of (clauses_in g)) (sym given);
            log = log;
            new = new given;
          };
      formula = same.0 ∙ h.formula;
      clauses = ap clauses_in given ∙ h.clauses;
      network = h.network;
      frozen = subst (λ x. AreFrozen x (adders_as b.profile p).outputs) (sym same.2) h.frozen;
      fixed = h.fixed;
      last = h.last;
    }
  where
    numbers : (base : ℕ) → length (given_to b.solver) ≤ base → IsBaseOf (given_to b.solver) base
    numbers base l =
        subst (λ g. IsBaseOf g base) (sym (h.usable).numbered)
        (base_of (clauses_in (given_to b.solver)) base
        (omega (arith, l, length-map (given_to b.solver) (λ (g : Name × List Literal). g.1))))

    new : given_to s ≡ given_to b.solver → (base : ℕ) → length (given_to s) ≤ base
        → LearnsNew (is_later (length s.formula.clauses) base) (given_to s) base [] s.sink
    new given base l =
        let m : length (given_to b.solver) ≤ base = omega (arith, l, ap length given) in
        subst
        (λ (f : Cnf). LearnsNew (is_later (length f.clauses) base) (given_to s) base [] s.sink)
        (sym same.0)
        (subst (λ g. LearnsNew (is_later (length (b.solver).formula.clauses) base) g base [] s.sink)
        (sym given)
        (subst (LearnsNew (is_later (length (b.solver).formula.clauses) base) (given_to b.solver)
        base []) (sym grows)
        (new_searched (is_later (length (b.solver).formula.clauses) base) (given_to b.solver) base
        (b.solver).sink (lines_since (b.solver).sink s.sink) ((h.usable).new base m)
        (fresh base (numbers base m)))))

pub same_given : (old new : LogSolver) → SameGiven old new → given_to old ≡ given_to new
same_given old new same =
    sym (ap (λ x. given_of x.clauses ++ new.added) same.0
    ∙ ap (λ x. given_of old.formula.clauses ++ x) same.1)

pub learned_more : (old new : List LogLine) (before after : ℕ) → new ≡ old ++ lines_since old new
    → after ≡ before + learned_count (lines_since old new)
    → after + learned_count old ≡ before + learned_count new
learned_more old new before after e h =
    omega (
      arith,
      h,
      ap learned_count e,
      sum_by-append (λ (l : LogLine). if is_learned l.kind then 1 else 0) old
          (lines_since old new),
    )

-- the bound 0 is refuted at once
pub zero_refuted : (p : Problem) (b : Bounds) (before : List ℕ) (c : ℕ) → IsOver p b
    → (b.costs).items ≡ before ++ c ∷ [] → c ≡ 0 → IsPlainlyRefuted b.solver
zero_refuted p b before c h e none =
    let A = fixed_clauses b.profile p in
    let B = flat_map (comparator_for b.profile p) before in
    let parts : clauses_in (given_to b.solver)
    ≡ (fixed_clauses b.profile p ++ flat_map (comparator_for b.profile p) before) ++ [] ∷ [] =
    given_split p b before c h e
    ∙ ap (λ k. A ++ (B ++ comparator_for b.profile p k)) none
    ∙ sym (append_assoc A B ([] ∷ [])) in
    inr (subst (λ x. Contains x []) (sym parts) (Contains-push (A ++ B) []))

pub above_zero : (n : ℕ) → (n ≡ 0 → ⊥) → 0 < n
above_zero zero h = absurd (h refl)
above_zero (suc n) h = omega arith
