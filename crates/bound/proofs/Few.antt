-- How many clauses there are, and none without a bound.
use Rattle.std.proofs.Common.{◌≡◌, ℕ, zero, suc, ◌+◌, ◌-◌, ◌*◌, ◌/◌, ◌%◌, ◌^◌, ◌<◌, ◌≤◌, true}
use Rattle.std.proofs.Common.{false, not, List, [], ◌∷◌, ◌++◌, length, map, filter, reverse, Option}
use Rattle.std.proofs.Common.{Some, None, refl, sym, ap, subst, arith}
use Rattle.std.specs.List.{flat_map}
use Rattle.std.proofs.lemmas.Bool.{eq-eqb}
use Rattle.std.proofs.lemmas.List.{length-append, length-map, length-reverse}
use Rattle.std.proofs.lemmas.Nat.Bits.{bit_at_ones}
use Rattle.cnf.specs.Literal.{Literal}
use Rattle.cnf.specs.Clause.{distinct, is_tautology}
use Rattle.cnf.specs.Problem.{Problem}
use Rattle.cnf.specs.Instance.{IsInstance}
use Rattle.adder.specs.declared.cells.Cell.{Cell}
use Rattle.adder.specs.declared.profiles.Profile.{Profile}
use Rattle.adder.specs.Network.{Relaxed, bit, relaxed_as, adders_as}
use Rattle.adder.proofs.Laws.{filter_le, fresh_few, outputs_few, cells_few}
use Rattle.bound.specs.Bound.{kept, hard_cnf, cell_clauses, relaxed_clauses, above, rising_clauses}
use Rattle.bound.specs.Bound.{comparator_of, comparator_for, bound_as}

pub kept_le : (cs : List (List Literal)) → length (kept cs) ≤ length cs
kept_le cs =
    subst (λ n. length (kept cs) ≤ n) (length-map cs distinct)
    (filter_le (λ c. not (is_tautology c)) (map distinct cs))

pub cells_le : (cells : List Cell) → length (flat_map cell_clauses cells) ≤ 14 * length cells
cells_le [] = omega arith
cells_le (cell ∷ cells) =
    omega (
      arith,
      length-append (cell_clauses cell) (flat_map cell_clauses cells),
      cells_le cells,
      by cell.third,
    )
  where
    by : (o : Option Literal) → length (cell_clauses (record cell { third = o })) ≤ 14
    by None = omega arith
    by (Some d) = omega arith

rising_le : (outputs : List (Option Literal)) (limit j : ℕ)
    → length (rising_clauses outputs limit j) ≤ length outputs
rising_le [] limit j = omega arith
rising_le (o ∷ outputs) limit j =
    elim (bit limit j) as (λ b. bit limit j ≡ b → length (rising_clauses (o ∷ outputs) limit j)
    ≤ suc (length outputs)) [
      | true ↦ λ e. rw e (omega (arith, rising_le outputs limit (j + 1)))
      | false ↦ λ e. clear o e (rising_le outputs limit (j + 1))
    ] refl
  where
    clear : (o : Option Literal) → bit limit j ≡ false
        → length (rising_clauses outputs limit (j + 1)) ≤ length outputs
        → length (rising_clauses (o ∷ outputs) limit j) ≤ suc (length outputs)
    clear None e rest = rw e (omega (arith, rest))
    clear (Some v) e rest =
        elim (above outputs limit (j + 1)) as (λ x. above outputs limit (j + 1) ≡ x
        → length (rising_clauses (Some v ∷ outputs) limit j) ≤ suc (length outputs)) [
          | None ↦ λ f. rw (e, f) (omega (arith, rest))
          | Some c ↦ λ f. rw (e, f) (omega (arith, rest))
        ] refl

comparator_le : (outputs : List (Option Literal)) (k : ℕ)
    → length (comparator_of outputs k) ≤ 1 + length outputs
comparator_le outputs zero = omega arith
comparator_le outputs (suc limit) =
    omega (
      arith,
      kept_le (reverse (rising_clauses outputs limit 0)),
      length-reverse (rising_clauses outputs limit 0),
      rising_le outputs limit 0,
    )

pub hard_few : (p : Problem) → IsInstance p → length (hard_cnf p).clauses < 2 ^ 28
hard_few p h = omega (arith, kept_le p.hard, h.hard_count)

pub clauses_few : (profile : Profile) (p : Problem) (k : ℕ) → IsInstance p
    → length (bound_as profile p k).clauses < 2 ^ 28
clauses_few profile p k h =
    let hard = kept p.hard in
    let relaxed = kept (relaxed_clauses profile p) in
    let cells = kept (flat_map cell_clauses (adders_as profile p).cells) in
    let last = comparator_for profile p k in
    room (length hard) (length relaxed) (length cells) (length last) (length p.soft)
    (length (adders_as profile p).cells) (length (bound_as profile p k).clauses)
    (omega (arith, kept_le p.hard, h.hard_count))
    (omega (
      arith,
      kept_le (relaxed_clauses profile p),
      length-map (filter (λ (e : Relaxed). e.is_fresh) (relaxed_as profile p))
          (λ e. (e.soft).clause ++ e.literal ∷ []),
      fresh_few profile p,
    ))
    (omega (
      arith,
      kept_le (flat_map cell_clauses (adders_as profile p).cells),
      cells_le (adders_as profile p).cells,
    ))
    (omega (
      arith,
      comparator_le (adders_as profile p).outputs k,
      outputs_few profile p h.weight_sum,
    ))
    h.soft_count (cells_few profile p)
    (omega (
      arith,
      length-append (hard ++ relaxed ++ cells) last,
      length-append (hard ++ relaxed) cells,
      length-append hard relaxed,
    ))
  where
    room : (a b c d n m w : ℕ) → a ≤ 2 ^ 22 → b ≤ n → c ≤ 14 * m → d ≤ 63 → n ≤ 2 ^ 18 → m ≤ 63 * n
        → w ≡ a + b + c + d → w < 2 ^ 28
    room a b c d n m w h i j k l o e = omega arith

-- a limit of ones has no clause
rising_none : (w : ℕ) (outputs : List (Option Literal)) (j : ℕ) → j + length outputs ≤ w
    → rising_clauses outputs (2 ^ w - 1) j ≡ []
rising_none w [] j h = refl
rising_none w (o ∷ outputs) j h =
    let e : bit (2 ^ w - 1) j ≡ true =
    eq-eqb ((2 ^ w - 1) / 2 ^ j % 2) 1 (bit_at_ones w j (omega arith)) in
    rw e (rising_none w outputs (j + 1) (omega arith))

comparator_none : (outputs : List (Option Literal)) (limit k : ℕ) → k ≡ suc limit
    → rising_clauses outputs limit 0 ≡ [] → comparator_of outputs k ≡ []
comparator_none outputs limit k e h =
    subst (λ n. comparator_of outputs n ≡ []) (sym e) (ap (λ cs. kept (reverse cs)) h)

pub without_bound : (profile : Profile) (p : Problem) → IsInstance p
    → comparator_for profile p (2 ^ 62) ≡ []
without_bound profile p h =
    let os = (adders_as profile p).outputs in
    comparator_none os (2 ^ 62 - 1) (2 ^ 62) refl
    (rising_none 62 os 0 (omega (arith, outputs_few profile p h.weight_sum)))
