-- The formula says that there is a cheaper solution.
use Rattle.std.proofs.Common.{◌≡◌, ℕ, ◌+◌, ◌^◌, ◌<◌, ◌≤◌, Bool, true, false, not, ◌&&◌, ◌||◌, List}
use Rattle.std.proofs.Common.{[], ◌∷◌, ◌++◌, map, filter, sum_by, nat_lt, if◌then◌else◌}
use Rattle.std.proofs.Common.{All, refl}
use Rattle.std.proofs.Common.{sym, ◌∙◌, ap, subst, arith}
use Rattle.std.specs.List.{AllByRecursion, flat_map}
use Rattle.std.proofs.lemmas.Bool.{false≢true, and_parts, and_from, lt-ltb, ltb-true}
use Rattle.std.proofs.lemmas.List.Folds.{list_all-append, list_any-append}
use Rattle.std.proofs.lemmas.List.Sums.{sum_by-cons, sum_by-le-sum_by}
use Rattle.std.proofs.lemmas.List.Elements.{recursion_from_All, All-from_recursion, All-weaker}
use Rattle.cnf.specs.Literal.{Assignment, Literal, negation, literal_value, positive}
use Rattle.cnf.specs.Clause.{Satisfies, clause_value, greatest_variable}
use Rattle.cnf.specs.Problem.{Problem, SoftClause, IsFeasible, cost_under, cost_of, AreWithin}
use Rattle.cnf.specs.Instance.{IsInstance, IsClauseWithin}
use Rattle.adder.specs.declared.cells.Cell.{Cell}
use Rattle.adder.specs.declared.profiles.Profile.{Profile}
use Rattle.adder.specs.declared.profiles.Relaxing.{Relaxing}
use Rattle.adder.specs.Network.{relaxing_of}
use Rattle.adder.specs.Network.{Relaxed, relaxed_one, relaxed_from, relaxed_as, relaxed_variables}
use Rattle.adder.specs.Network.{adders_as, total_weight, value_of, IsCellOf, SameUpTo}
use Rattle.adder.proofs.Laws.{relaxed_cases, relaxed_soft}
use Rattle.adder.proofs.Laws.{AreRelaxedBelow, IsRelaxedTightly, relaxed_below}
use Rattle.adder.proofs.Laws.{relaxed_choice, clause_same, literal_same, outputs_sum, cells_extend}
use Rattle.bound.specs.Bound.{kept, cell_clauses, relaxed_clauses, comparator_of, bound_as}
use Rattle.bound.specs.Bound.{SaysCheaper}
use Rattle.bound.proofs.Clauses.{all_true, all_true-from, from_all_true, all_true-kept, value-no}
use Rattle.bound.proofs.Adders.{cell_holds, holds_cell}
use Rattle.bound.proofs.Comparator.{comparator_true}
use Rattle.bound.proofs.Relaxations.{with_variables}

cells_hold : (t : Assignment) (cells : List Cell) → all_true t (flat_map cell_clauses cells) ≡ true
    → AllByRecursion (IsCellOf t) cells
cells_hold t [] h = tt
cells_hold t (cell ∷ cells) h =
    let parts =
    and_parts (all_true t (cell_clauses cell)) (all_true t (flat_map cell_clauses cells))
    (sym (list_all-append (clause_value t) (cell_clauses cell) (flat_map cell_clauses cells))
    ∙ h) in
    (cell_holds t cell parts.0, cells_hold t cells parts.1)

hold_cells : (t : Assignment) (cells : List Cell) → AllByRecursion (IsCellOf t) cells
    → all_true t (flat_map cell_clauses cells) ≡ true
hold_cells t [] h = refl
hold_cells t (cell ∷ cells) h =
    list_all-append (clause_value t) (cell_clauses cell) (flat_map cell_clauses cells)
    ∙ and_from (all_true t (cell_clauses cell)) (all_true t (flat_map cell_clauses cells))
    (holds_cell t cell h.0) (hold_cells t cells h.1)

-- the parts of a formula
parts_true : (t : Assignment) (a b c d : List (List Literal)) → all_true t (a ++ b ++ c ++ d)
    ≡ (all_true t a && all_true t b && all_true t c && all_true t d)
parts_true t a b c d = list_all-append (clause_value t) (a ++ b ++ c) d
    ∙ ap (λ x. x && all_true t d) (list_all-append (clause_value t) (a ++ b) c
    ∙ ap (λ x. x && all_true t c) (list_all-append (clause_value t) a b))

formula_true : (profile : Profile) (p : Problem) (k : ℕ) (t : Assignment)
    → all_true t (bound_as profile p k).clauses
    ≡ (all_true t p.hard && all_true t (relaxed_clauses profile p) && all_true t
    (flat_map cell_clauses (adders_as profile p).cells) && nat_lt
    (value_of t (adders_as profile p).outputs) k)
formula_true profile p k t =
    parts_true t (kept p.hard) (kept (relaxed_clauses profile p))
    (kept (flat_map cell_clauses (adders_as profile p).cells))
    (comparator_of (adders_as profile p).outputs k)
    ∙ (λ i. all_true-kept t p.hard i && all_true-kept t (relaxed_clauses profile p) i &&
    all_true-kept t (flat_map cell_clauses (adders_as profile p).cells) i && comparator_true t
    (adders_as profile p).outputs k i)

-- what is given up for a soft clause, and what it costs
abbrev pub given_up : Assignment → Relaxed → ℕ
given_up t e = if literal_value t e.literal then (e.soft).weight else 0

value_with : (t : Assignment) (c : List Literal) (l : Literal)
    → clause_value t (c ++ l ∷ []) ≡ (clause_value t c || literal_value t l)
value_with t c l = list_any-append (literal_value t) c (l ∷ [])
    ∙ ap (λ b. clause_value t c || b) (or_false (literal_value t l))
  where
    or_false : (b : Bool) → (b || false) ≡ b
    or_false true = refl
    or_false false = refl

one_cost : (c l : Bool) (w : ℕ) → (c || l) ≡ true → (if c then 0 else w) ≤ (if l then w else 0)
one_cost true l w h = omega arith
one_cost false true w h = omega arith
one_cost false false w h = absurd (false≢true h)

own_cost : (t : Assignment) (l : Literal) (w : ℕ) → (if literal_value t l || false then 0 else w)
    ≤ (if literal_value t (negation l) then w else 0)
own_cost t l w = subst (λ b. (if literal_value t l || false then 0 else w) ≤ (if b then w else 0))
    (sym (value-no t l)) (by (literal_value t l))
  where
    by : (b : Bool) → (if b || false then 0 else w) ≤ (if not b then w else 0)
    by true = omega arith
    by false = omega arith

-- no more costs than is given up
cost_le : (t : Assignment) (relaxing : Relaxing) (v : ℕ) (ss : List SoftClause)
    → all_true t (with_variables (relaxed_from relaxing v ss)) ≡ true
    → sum_by (cost_of t) ss ≤ sum_by (given_up t) (relaxed_from relaxing v ss)
cost_le t relaxing v [] = λ h. omega arith
cost_le t relaxing v (s ∷ ss) =
    relaxed_cases relaxing v s
    (λ e. all_true t (with_variables
    (e ∷ relaxed_from relaxing (if e.is_fresh then v + 1 else v) ss)) ≡ true
    → sum_by (cost_of t) (s ∷ ss) ≤ sum_by (given_up t)
    (e ∷ relaxed_from relaxing (if e.is_fresh then v + 1 else v) ss))
    (λ h.
    let e : Relaxed = record { literal = positive v; soft = s; is_fresh = true } in
    let parts =
    and_parts (clause_value t (s.clause ++ positive v ∷ []))
    (all_true t (with_variables (relaxed_from relaxing (v + 1) ss))) h in
    omega (
      arith,
      sum_by-cons (cost_of t) s ss,
      sum_by-cons (given_up t) e (relaxed_from relaxing (v + 1) ss),
      cost_le t relaxing (v + 1) ss parts.1,
      one_cost (clause_value t s.clause) (t v) s.weight (sym (value_with t s.clause (positive v))
          ∙ parts.0),
    ))
    (λ l same h.
    let e : Relaxed = record { literal = negation l; soft = s; is_fresh = false } in
    omega (
      arith,
      sum_by-cons (cost_of t) s ss,
      sum_by-cons (given_up t) e (relaxed_from relaxing v ss),
      cost_le t relaxing v ss h,
      subst (λ c. (if clause_value t c then 0 else s.weight) ≤ (if literal_value t (negation l)
          then s.weight else 0)) (sym same) (own_cost t l s.weight),
    ))

-- where the relaxation literals are tight, their clauses hold and what is given up is the cost
pub tight_clauses : (t : Assignment) (es : List Relaxed) → AllByRecursion (IsRelaxedTightly t) es
    → all_true t (with_variables es) ≡ true
tight_clauses t [] h = refl
tight_clauses t (e ∷ es) h =
    elim e.is_fresh as (λ b. all_true t
    (map (λ e. (e.soft).clause ++ e.literal ∷ []) (if b then e ∷ filter (λ e. e.is_fresh) es
    else filter (λ e. e.is_fresh) es)) ≡ true) [
      | true ↦ and_from (clause_value t ((e.soft).clause ++ e.literal ∷ []))
          (all_true t (with_variables es)) (value_with t (e.soft).clause e.literal
          ∙ ap (λ b. clause_value t (e.soft).clause || b) h.0
          ∙ either (clause_value t (e.soft).clause)) (tight_clauses t es h.1)
      | false ↦ tight_clauses t es h.1
    ]
  where
    either : (b : Bool) → (b || not b) ≡ true
    either true = refl
    either false = refl

pub tight_cost : (t : Assignment) (relaxing : Relaxing) (v : ℕ) (ss : List SoftClause)
    → AllByRecursion (IsRelaxedTightly t) (relaxed_from relaxing v ss)
    → sum_by (given_up t) (relaxed_from relaxing v ss) ≡ sum_by (cost_of t) ss
tight_cost t relaxing v [] h = refl
tight_cost t relaxing v (s ∷ ss) h =
    let e = relaxed_one relaxing v s in
    let w = if e.is_fresh then v + 1 else v in
    let here : given_up t e ≡ cost_of t s = ap (λ b. if b then (e.soft).weight else 0) h.0
    ∙ turned (clause_value t (e.soft).clause) (e.soft).weight
    ∙ ap (cost_of t) (relaxed_soft relaxing v s) in
    sum_by-cons (given_up t) e (relaxed_from relaxing w ss)
    ∙ omega (arith, here, tight_cost t relaxing w ss h.1, sum_by-cons (cost_of t) s ss)
  where
    turned : (b : Bool) (n : ℕ) → (if not b then n else 0) ≡ (if b then 0 else n)
    turned true n = refl
    turned false n = refl

pub soft_within : (n : ℕ) (relaxing : Relaxing) (v : ℕ) (ss : List SoftClause) → AreWithin n ss
    → AllByRecursion (λ e. greatest_variable (e.soft).clause ≤ n) (relaxed_from relaxing v ss)
soft_within n relaxing v [] h = tt
soft_within n relaxing v (s ∷ ss) h = (
  subst (λ x. greatest_variable x.clause ≤ n) (sym (relaxed_soft relaxing v s)) h.0,
  soft_within n relaxing (if (relaxed_one relaxing v s).is_fresh then v + 1 else v) ss h.1,
)

pub tight_same : (n m : ℕ) (t u : Assignment) (es : List Relaxed) → n ≤ m → SameUpTo m t u
    → AreRelaxedBelow (m + 1) es → AllByRecursion (λ e. greatest_variable (e.soft).clause ≤ n) es
    → AllByRecursion (IsRelaxedTightly t) es → AllByRecursion (IsRelaxedTightly u) es
tight_same n m t u [] le same low within h = tt
tight_same n m t u (e ∷ es) le same low within h = (
  literal_same t u e.literal (same _ (omega (arith, low.0))) ∙ h.0
      ∙ ap not (sym (clause_same t u (e.soft).clause (λ v k. same v (omega (arith, within.0))))),
  tight_same n m t u es le same low.1 within.1 h.1,
)

pub cost_same : (n : ℕ) (t u : Assignment) (ss : List SoftClause) → SameUpTo n t u → AreWithin n ss
    → sum_by (cost_of u) ss ≡ sum_by (cost_of t) ss
cost_same n t u [] same h = refl
cost_same n t u (s ∷ ss) same h =
    let here : cost_of u s ≡ cost_of t s =
    ap (λ b. if b then 0 else s.weight)
    (clause_same t u s.clause (λ v k. same v (omega (arith, h.0)))) in
    sum_by-cons (cost_of u) s ss ∙ omega (
      arith,
      here,
      cost_same n t u ss same h.1,
      sum_by-cons (cost_of t) s ss,
    )

pub clauses_same : (n : ℕ) (t u : Assignment) (cs : List (List Literal)) → SameUpTo n t u
    → AllByRecursion (λ c. greatest_variable c ≤ n) cs → all_true u cs ≡ all_true t cs
clauses_same n t u [] same h = refl
clauses_same n t u (c ∷ cs) same h =
    λ i. clause_same t u c (λ v k. same v (omega (arith, h.0))) i && clauses_same n t u
    cs same h.1 i

module _ (profile : Profile) (p : Problem) (k : ℕ) (small : total_weight p < 2 ^ 63) where
  cheaper_to : (t : Assignment) → All (Satisfies t) (bound_as profile p k).clauses
      → IsFeasible p t × (cost_under p t < k)
  cheaper_to t h =
      let whole = sym (formula_true profile p k t)
      ∙ all_true-from t (bound_as profile p k).clauses h in
      let hard = all_true t p.hard in
      let relaxed = all_true t (relaxed_clauses profile p) in
      let cells = all_true t (flat_map cell_clauses (adders_as profile p).cells) in
      let below = nat_lt (value_of t (adders_as profile p).outputs) k in
      let last = and_parts (hard && relaxed && cells) below whole in
      let third = and_parts (hard && relaxed) cells last.0 in
      let first = and_parts hard relaxed third.0 in
      let sum =
      outputs_sum profile p t small (All-from_recursion (IsCellOf t) (adders_as profile p).cells
      (cells_hold t (adders_as profile p).cells third.1)) in (
        from_all_true t p.hard first.0,
        lower (cost_le t (relaxing_of profile) (p.variables + 1) p.soft first.1) sum
            (ltb-true _ k last.1),
      )
    where
      lower : {a b c : ℕ} → a ≤ b → c ≡ b → c < k → a < k
      lower le e lt = omega arith

  cheaper_from : AreWithin p.variables p.soft
      → AllByRecursion (λ c. greatest_variable c ≤ p.variables) p.hard → (u : Assignment)
      → IsFeasible p u → cost_under p u < k
      → (t : Assignment) × SameUpTo p.variables u t
      × All (Satisfies t) (bound_as profile p k).clauses
  cheaper_from soft hard u feasible lt =
      let n = p.variables in
      let m = relaxed_variables profile p in
      let es = relaxed_as profile p in
      let r = relaxed_choice n (relaxing_of profile) (n + 1) p.soft u soft (omega arith) in
      let c = cells_extend profile p r.0 soft in
      let t = c.0 in
      let tight =
      tight_same n m r.0 t es (omega arith) c.1
      (relaxed_below n (relaxing_of profile) (n + 1) p.soft (m + 1) soft (omega arith)
      (omega arith))
      (soft_within n (relaxing_of profile) (n + 1) p.soft soft) r.2 in
      let same : SameUpTo n u t = λ v l. c.1 v (omega arith) ∙ r.1 v (omega arith) in
      let sum = outputs_sum profile p t small c.2
      ∙ tight_cost t (relaxing_of profile) (n + 1) p.soft tight
      ∙ cost_same n u t p.soft same soft in
      let below : nat_lt (value_of t (adders_as profile p).outputs) k ≡ true =
      lt-ltb _ k (subst (λ x. x < k) (sym sum) lt) in (
        t,
        same,
        from_all_true t (bound_as profile p k).clauses (formula_true profile p k t
            ∙ and_from _ _ (and_from _ _ (and_from _ _
            (clauses_same n u t p.hard same hard ∙ all_true-from u p.hard feasible)
            (tight_clauses t es tight))
            (hold_cells t (adders_as profile p).cells
            (recursion_from_All (IsCellOf t) (adders_as profile p).cells c.2))) below),
      )

-- no assignment costs more than all weights
pub cost_below : (p : Problem) (t : Assignment) → cost_under p t ≤ total_weight p
cost_below p t =
    sum_by-le-sum_by (λ (s : SoftClause). if clause_value t s.clause then 0 else s.weight)
    (λ (s : SoftClause). s.weight) p.soft (λ s. part (clause_value t s.clause) s.weight)
  where
    part : (b : Bool) (w : ℕ) → (if b then 0 else w) ≤ w
    part true w = omega arith
    part false w = omega arith

-- the law of `formula_as`, for each bound
pub says_cheaper : (profile : Profile) (p : Problem) (k : ℕ) → IsInstance p
    → SaysCheaper profile p k
says_cheaper profile p k h =
    let small : total_weight p < 2 ^ 63 = omega (arith, h.weight_sum) in
    let soft : AreWithin p.variables p.soft =
    recursion_from_All _ p.soft
    (All-weaker (λ (s : SoftClause). IsClauseWithin p.variables s.clause)
    (λ s. greatest_variable s.clause ≤ p.variables) (λ s w. w.2) p.soft h.soft_clauses) in
    let hard : AllByRecursion (λ c. greatest_variable c ≤ p.variables) p.hard =
    recursion_from_All _ p.hard
    (All-weaker (IsClauseWithin p.variables) (λ c. greatest_variable c ≤ p.variables)
    (λ c w. w.2) p.hard h.hard_clauses) in
    record {
      to = cheaper_to profile p k small;
      from = cheaper_from profile p k small soft hard;
    }
