-- The formulas have clauses with no repeat, no complementary literals and variables within their
-- number.
use Rattle.std.proofs.Common.{◌≡◌, ℕ, zero, suc, ◌+◌, ◌*◌, ◌^◌, ◌<◌, ◌≤◌, true, false, not}
use Rattle.std.proofs.Common.{List, [], ◌∷◌, ◌++◌, length, map, filter, reverse, Option, Some, None}
use Rattle.std.proofs.Common.{if◌then◌else◌, refl, All, arith}
use Rattle.std.specs.List.{AllByRecursion, flat_map}
use Rattle.std.proofs.lemmas.List.Elements.{recursion_from_All, All-from_recursion, All-append}
use Rattle.cnf.specs.Literal.{Literal}
use Rattle.cnf.specs.Clause.{distinct, has_repeat, is_tautology, greatest_variable}
use Rattle.cnf.specs.Formula.{IsFormula, IsFormulaClause}
use Rattle.cnf.specs.Problem.{Problem, SoftClause}
use Rattle.cnf.specs.Instance.{IsInstance, IsClauseWithin}
use Rattle.cnf.proofs.Laws.{all_append, repeat_distinct}
use Rattle.adder.specs.declared.cells.Cell.{Cell}
use Rattle.adder.specs.declared.profiles.Profile.{Profile}
use Rattle.adder.specs.Network.{relaxing_of, Relaxed, relaxed_as, relaxed_variables, adders_as}
use Rattle.adder.proofs.Laws.{adders_with, adds_up, AreOf, IsOutputOf, IsCellWith, relaxed_with}
use Rattle.bound.specs.Adding.{HasVariables}
use Rattle.bound.specs.Bound.{kept, hard_cnf, cell_clauses, relaxed_clauses, rising_clauses}
use Rattle.bound.specs.Bound.{comparator_of, fixed_clauses, comparator_for, bound_as}
use Rattle.bound.proofs.Subsets.{all_reverse}
use Rattle.bound.proofs.Compared.{distinct_of, rising_of}

-- a variable from 1 to v
abbrev pub IsVariable : ℕ → ℕ → Type 0
IsVariable v n = (0 < n) × (n ≤ v)

abbrev IsPlain : ℕ → List Literal → Type 0
IsPlain v c = AreOf (IsVariable v) c

plain_greatest : (v : ℕ) (c : List Literal) → IsPlain v c → greatest_variable c ≤ v
plain_greatest v [] h = omega arith
plain_greatest v (l ∷ c) h = omega (arith, h.0, plain_greatest v c h.1)

plain_positive : (v : ℕ) (c : List Literal) → IsPlain v c → AllByRecursion (λ l. 0 < l.variable) c
plain_positive v [] h = tt
plain_positive v (l ∷ c) h = (h.0.0, plain_positive v c h.1)

within_plain : (n v : ℕ) (c : List Literal) → n ≤ v → AllByRecursion (λ l. 0 < l.variable) c
    → greatest_variable c ≤ n → IsPlain v c
within_plain n v [] le h g = tt
within_plain n v (l ∷ c) le h g = ((h.0, omega arith), within_plain n v c le h.1 (omega arith))

-- clauses of such variables are clauses of a formula, as they are kept
kept_formula : (v : ℕ) (cs : List (List Literal)) → AllByRecursion (IsPlain v) cs
    → AllByRecursion (IsFormulaClause v) (kept cs)
kept_formula v [] h = tt
kept_formula v (c ∷ cs) h =
    elim (is_tautology (distinct c)) as (λ b. is_tautology (distinct c) ≡ b
    → AllByRecursion (IsFormulaClause v) (if not b then distinct c ∷ kept cs else kept cs)) [
      | true ↦ λ e. kept_formula v cs h.1
      | false ↦ λ e.
          let plain = distinct_of (IsVariable v) c h.0 in (
            record {
              no_repeat = repeat_distinct c;
              no_tautology = e;
              from_one =
                  All-from_recursion (λ l. 0 < l.variable) (distinct c)
                  (plain_positive v (distinct c) plain);
              small = plain_greatest v (distinct c) plain;
            },
            kept_formula v cs h.1,
          )
    ] refl

-- the clauses of a cell
cell_plain : (v : ℕ) (cell : Cell) → IsCellWith (IsVariable v) cell
    → AllByRecursion (IsPlain v) (cell_clauses cell)
cell_plain v cell h = by cell.third h.third
  where
    by : (o : Option Literal) → IsOutputOf (IsVariable v) o
        → AllByRecursion (IsPlain v) (cell_clauses (record cell { third = o }))
    by None q =
        let a = h.a in
        let b = h.b in
        let s = h.sum in
        let c = h.carry in (
          (a, (b, (s, tt))),
          (
            (a, (b, (s, tt))),
            (
              (a, (b, (s, tt))),
              ((a, (b, (s, tt))), ((a, (c, tt)), ((b, (c, tt)), ((a, (b, (c, tt))), tt)))),
            ),
          ),
        )
    by (Some l) d =
        let a = h.a in
        let b = h.b in
        let s = h.sum in
        let c = h.carry in (
          (a, (b, (d, (s, tt)))),
          (
            (a, (b, (d, (s, tt)))),
            (
              (a, (b, (d, (s, tt)))),
              (
                (a, (b, (d, (s, tt)))),
                (
                  (a, (b, (d, (s, tt)))),
                  (
                    (a, (b, (d, (s, tt)))),
                    (
                      (a, (b, (d, (s, tt)))),
                      (
                        (a, (b, (d, (s, tt)))),
                        (
                          (a, (b, (c, tt))),
                          (
                            (a, (d, (c, tt))),
                            (
                              (b, (d, (c, tt))),
                              ((a, (b, (c, tt))), ((a, (d, (c, tt))), ((b, (d, (c, tt))), tt))),
                            ),
                          ),
                        ),
                      ),
                    ),
                  ),
                ),
              ),
            ),
          ),
        )

cells_plain : (v : ℕ) (cells : List Cell) → AllByRecursion (IsCellWith (IsVariable v)) cells
    → AllByRecursion (IsPlain v) (flat_map cell_clauses cells)
cells_plain v [] h = tt
cells_plain v (cell ∷ cells) h =
    all_append (IsPlain v) (cell_clauses cell) (flat_map cell_clauses cells) (cell_plain v cell h.0)
    (cells_plain v cells h.1)

relaxed_plain : (v : ℕ) (es : List Relaxed)
    → AllByRecursion (λ e. IsPlain v (e.soft).clause × IsVariable v (e.literal).variable) es
    → AllByRecursion (IsPlain v)
    (map (λ e. (e.soft).clause ++ e.literal ∷ []) (filter (λ e. e.is_fresh) es))
relaxed_plain v [] h = tt
relaxed_plain v (e ∷ es) h =
    elim e.is_fresh as (λ b. AllByRecursion (IsPlain v)
    (map (λ e. (e.soft).clause ++ e.literal ∷ []) (if b then e ∷ filter (λ e. e.is_fresh) es
    else filter (λ e. e.is_fresh) es))) [
      | true ↦ (
        all_append (λ l. IsVariable v l.variable) (e.soft).clause (e.literal ∷ []) h.0.0
            (h.0.1, tt),
        relaxed_plain v es h.1,
      )
      | false ↦ relaxed_plain v es h.1
    ]

-- the comparator's clauses, where the outputs are such variables
comparator_formula : (v : ℕ) (outputs : List (Option Literal)) (k : ℕ)
    → AllByRecursion (IsOutputOf (IsVariable v)) outputs
    → AllByRecursion (IsFormulaClause v) (comparator_of outputs k)
comparator_formula v outputs zero h = (
  record {
    no_repeat = refl;
    no_tautology = refl;
    from_one = λ i d l. absurd (omega arith);
    small = omega arith;
  },
  tt,
)
comparator_formula v outputs (suc limit) h =
    kept_formula v (reverse (rising_clauses outputs limit 0))
    (all_reverse (IsPlain v) (rising_clauses outputs limit 0)
    (rising_of (IsVariable v) outputs limit 0 h))

abbrev IsOnce : List Literal → Type 0
IsOnce c = has_repeat c ≡ false

once_kept : (cs : List (List Literal)) → AllByRecursion IsOnce (kept cs)
once_kept [] = tt
once_kept (c ∷ cs) =
    elim (is_tautology (distinct c))
    as (λ b. AllByRecursion IsOnce (if not b then distinct c ∷ kept cs else kept cs)) [
      | true ↦ once_kept cs
      | false ↦ (repeat_distinct c, once_kept cs)
    ]

pub kept_once : (cs : List (List Literal)) → All (λ c. has_repeat c ≡ false) (kept cs)
kept_once cs = All-from_recursion IsOnce (kept cs) (once_kept cs)

-- the comparator's clauses, whatever the outputs are
pub comparator_once : (outputs : List (Option Literal)) (k : ℕ)
    → All (λ c. has_repeat c ≡ false) (comparator_of outputs k)
comparator_once outputs zero = All-from_recursion IsOnce ([] ∷ []) (refl, tt)
comparator_once outputs (suc limit) = kept_once (reverse (rising_clauses outputs limit 0))

plain_of : (n v : ℕ) (c : List Literal) → n ≤ v → IsClauseWithin n c → IsPlain v c
plain_of n v c le h = within_plain n v c le (recursion_from_All (λ l. 0 < l.variable) c h.1) h.2

plain_each : (n v : ℕ) (cs : List (List Literal)) → n ≤ v → AllByRecursion (IsClauseWithin n) cs
    → AllByRecursion (IsPlain v) cs
plain_each n v [] le h = tt
plain_each n v (c ∷ cs) le h = (plain_of n v c le h.0, plain_each n v cs le h.1)

pub plain_soft : (n v : ℕ) (ss : List SoftClause) → n ≤ v
    → AllByRecursion (λ s. IsClauseWithin n s.clause) ss
    → AllByRecursion (λ s. IsPlain v s.clause) ss
plain_soft n v [] le h = tt
plain_soft n v (s ∷ ss) le h = (plain_of n v s.clause le h.0, plain_soft n v ss le h.1)

pub are_variables : (v : ℕ) (es : List Relaxed)
    → AllByRecursion (λ e. IsPlain v (e.soft).clause × IsVariable v (e.literal).variable) es
    → AllByRecursion (λ e. IsVariable v (e.literal).variable) es
are_variables v [] h = tt
are_variables v (e ∷ es) h = (h.0.1, are_variables v es h.1)

pub hard_is_formula : (p : Problem) → IsInstance p → IsFormula (hard_cnf p)
hard_is_formula p h = record {
  few = omega (arith, h.variables);
  clauses = All-from_recursion (IsFormulaClause p.variables) (kept p.hard)
      (kept_formula p.variables p.hard (plain_each p.variables p.variables p.hard (omega arith)
      (recursion_from_All (IsClauseWithin p.variables) p.hard h.hard_clauses)));
}

-- the variables of the cells and of the outputs
network_variables : (profile : Profile) (p : Problem) → IsInstance p
    → (let v = relaxed_variables profile p + 2 * length (adders_as profile p).cells in
    AllByRecursion (IsCellWith (IsVariable v)) (adders_as profile p).cells
    × AllByRecursion (IsOutputOf (IsVariable v)) (adders_as profile p).outputs)
network_variables profile p h =
    let n = p.variables in
    let v = relaxed_variables profile p + 2 * length (adders_as profile p).cells in
    let es = relaxed_as profile p in
    let soft =
    plain_soft n v p.soft (omega arith)
    (recursion_from_All (λ s. IsClauseWithin n s.clause) p.soft h.soft_clauses) in
    let relaxed =
    relaxed_with (IsVariable v) (relaxing_of profile) (n + 1) p.soft soft
    (λ x l u. (omega arith, omega arith)) in
    adders_with profile p (IsVariable v) (are_variables v es relaxed)
    (λ x l u. (omega arith, omega arith))

-- the hard clauses and the soft ones
pub given_formula : (profile : Profile) (p : Problem) (v : ℕ) → IsInstance p
    → relaxed_variables profile p ≤ v
    → AllByRecursion (IsFormulaClause v) (kept p.hard ++ kept (relaxed_clauses profile p))
given_formula profile p v h le =
    let n = p.variables in
    let soft =
    plain_soft n v p.soft (omega arith)
    (recursion_from_All (λ s. IsClauseWithin n s.clause) p.soft h.soft_clauses) in
    let relaxed =
    relaxed_with (IsVariable v) (relaxing_of profile) (n + 1) p.soft soft
    (λ x l u. (omega arith, omega arith)) in
    all_append (IsFormulaClause v) (kept p.hard) (kept (relaxed_clauses profile p))
    (kept_formula v p.hard
    (plain_each n v p.hard (omega arith)
    (recursion_from_All (IsClauseWithin n) p.hard h.hard_clauses)))
    (kept_formula v (relaxed_clauses profile p) (relaxed_plain v (relaxed_as profile p) relaxed))

-- what `Formula::new` asks of the formula
pub bound_is_formula : (profile : Profile) (p : Problem) (k : ℕ) → IsInstance p
    → IsFormula (bound_as profile p k)
bound_is_formula profile p k h =
    let adders = adders_as profile p in
    let v = relaxed_variables profile p + 2 * length adders.cells in
    let network = network_variables profile p h in
    let P = IsFormulaClause v in
    let given = kept p.hard ++ kept (relaxed_clauses profile p) in
    let fixed =
    all_append P given (kept (flat_map cell_clauses adders.cells))
    (given_formula profile p v h (omega arith))
    (kept_formula v (flat_map cell_clauses adders.cells) (cells_plain v adders.cells network.0))
    in
    record {
      few = (adds_up profile p h).small.0;
      clauses =
          All-from_recursion P (bound_as profile p k).clauses
          (all_append P (fixed_clauses profile p) (comparator_for profile p k) fixed
          (comparator_formula v adders.outputs k network.1));
    }

-- the sums and the carries of the cells are variables
pub cells_variables : (profile : Profile) (p : Problem) → IsInstance p
    → All HasVariables (adders_as profile p).cells
cells_variables profile p h =
    let v = relaxed_variables profile p + 2 * length (adders_as profile p).cells in
    All-from_recursion HasVariables (adders_as profile p).cells
    (each v (adders_as profile p).cells (omega (arith, (adds_up profile p h).small.0))
    (network_variables profile p h).0)
  where
    each : (v : ℕ) (cells : List Cell) → v < 2 ^ 26
        → AllByRecursion (IsCellWith (IsVariable v)) cells → AllByRecursion HasVariables cells
    each v [] small a = tt
    each v (cell ∷ cells) small a = (
      (a.0.sum.0, omega (arith, a.0.sum.1), a.0.carry.0, omega (arith, a.0.carry.1)),
      each v cells small a.1,
    )

-- the outputs have such variables
pub outputs_variables : (profile : Profile) (p : Problem) → IsInstance p
    → AllByRecursion (IsOutputOf
    (IsVariable (relaxed_variables profile p + 2 * length (adders_as profile p).cells)))
    (adders_as profile p).outputs
outputs_variables profile p h = (network_variables profile p h).1

-- no clause has a repeat
pub bound_once : (profile : Profile) (p : Problem) (k : ℕ)
    → All (λ c. has_repeat c ≡ false) (bound_as profile p k).clauses
bound_once profile p k =
    join (hard ++ relaxed ++ cells) (comparator_for profile p k)
    (join (hard ++ relaxed) cells
    (join hard relaxed (kept_once p.hard) (kept_once (relaxed_clauses profile p)))
    (kept_once (flat_map cell_clauses (adders_as profile p).cells)))
    (comparator_once (adders_as profile p).outputs k)
  where
    join : (xs ys : List (List Literal)) → All (λ c. has_repeat c ≡ false) xs
        → All (λ c. has_repeat c ≡ false) ys → All (λ c. has_repeat c ≡ false) (xs ++ ys)
    join xs ys h g i = All-append (λ c. has_repeat c ≡ false) xs ys h g i

    hard : List (List Literal)
    hard = kept p.hard

    relaxed : List (List Literal)
    relaxed = kept (relaxed_clauses profile p)

    cells : List (List Literal)
    cells = kept (flat_map cell_clauses (adders_as profile p).cells)
