-- The laws of the network in each profile.
use Rattle.std.proofs.Common.{◌≡◌, ℕ, ◌+◌, ◌*◌, ◌^◌, ◌<◌, ◌≤◌, List, [], length}
use Rattle.std.proofs.Common.{filter, sum_by, All, sym, subst, arith}
use Rattle.std.proofs.Common.{mul-le-mul_right}
use Rattle.std.specs.List.{AllByRecursion}
use Rattle.std.proofs.lemmas.List.Elements.{recursion_from_All, All-weaker}
use Rattle.cnf.specs.Literal.{Assignment}
use Rattle.cnf.specs.Clause.{greatest_variable}
use Rattle.cnf.specs.Problem.{Problem, SoftClause, AreWithin}
use Rattle.cnf.specs.Instance.{IsInstance, IsClauseWithin}
use Rattle.adder.specs.declared.networks.TheConstants.{CELL_LIMIT}
use Rattle.adder.specs.declared.profiles.Profile.{Profile}
use Rattle.adder.specs.Network.{relaxing_of, Relaxed, binary_length, total_weight, relaxed_as}
use Rattle.adder.specs.Network.{relaxed_variables, column_of, adders_as}
use Rattle.adder.specs.Network.{value_of, relaxed_weight, IsCellOf, SameUpTo, AddsUp}
use Rattle.adder.proofs.Sums.{binary_length_le, relaxed_weights, along_columns_sum}
use Rattle.adder.proofs.Choice.{AreRelaxedBelow, column_below, columns_chain}
use Rattle.adder.proofs.Choice.{chain_extends, relaxed_below}
use Rattle.adder.proofs.Small.{column_le, columns_cells, columns_outputs, binary_length_few}
use Rattle.adder.proofs.Small.{relaxed_length, fresh_few}
use Rattle.adder.proofs.Variables.{IsOutputOf, IsCellWith, columns_with, column_of_with}

module _ (profile : Profile) (p : Problem) where
  abbrev es : List Relaxed
  es = relaxed_as profile p

  abbrev n : ℕ
  n = relaxed_variables profile p + 1

  pub weights : sum_by (λ e. (e.soft).weight) es ≡ total_weight p
  weights = relaxed_weights (relaxing_of profile) (p.variables + 1) p.soft

  -- the field `sum` of `AddsUp`
  pub outputs_sum : (t : Assignment) → total_weight p < 2 ^ 63
      → All (IsCellOf t) (adders_as profile p).cells → value_of t (adders_as profile p).outputs
      ≡ relaxed_weight profile p t
  outputs_sum t small all =
      along_columns_sum t es (total_weight p) n weights small
      (recursion_from_All (IsCellOf t) (adders_as profile p).cells all)

  -- the field `choice` of `AddsUp`
  pub cells_extend : (t : Assignment) → AreWithin p.variables p.soft
      → (u : Assignment) × SameUpTo (relaxed_variables profile p) t u
      × All (IsCellOf u) (adders_as profile p).cells
  cells_extend t h =
      let below : AreRelaxedBelow n es =
      relaxed_below p.variables (relaxing_of profile) (p.variables + 1) p.soft n h (omega arith)
      (omega arith) in
      chain_extends (relaxed_variables profile p) (adders_as profile p).cells t
      (columns_chain (column_of es) (binary_length (total_weight p)) 0 n []
      (λ j. column_below n es j below) tt)

  pub outputs_few : total_weight p < 2 ^ 62 → length (adders_as profile p).outputs ≤ 62
  outputs_few h =
      subst (λ k. k ≤ 62)
      (sym (columns_outputs (column_of es) (binary_length (total_weight p)) 0 n []))
      (binary_length_few (total_weight p) h)

  pub cells_few : length (adders_as profile p).cells ≤ 63 * length p.soft
  cells_few =
      of (binary_length (total_weight p)) (length (adders_as profile p).cells) (length es)
      (binary_length_le (total_weight p))
      (columns_cells (column_of es) (length es) (length es) (column_le es) (omega arith)
      (binary_length (total_weight p)) 0 n [] (omega arith))
      (relaxed_length (relaxing_of profile) (p.variables + 1) p.soft)
    where
      of : (b c k : ℕ) → b ≤ 63 → c ≤ b * k → k ≡ length p.soft → c ≤ 63 * length p.soft
      of b c k h l e = omega (arith, mul-le-mul_right k h)

  -- Q holds of the variables that the cells and the outputs name
  pub adders_with : (Q : ℕ → Type 0) → AllByRecursion (λ e. Q (e.literal).variable) es
      → ((v : ℕ) → n ≤ v → v < n + 2 * length (adders_as profile p).cells → Q v)
      → AllByRecursion (IsCellWith Q) (adders_as profile p).cells
      × AllByRecursion (IsOutputOf Q) (adders_as profile p).outputs
  adders_with Q h =
      columns_with Q (column_of es) (binary_length (total_weight p)) 0 n []
      (λ j. column_of_with Q es j h) tt

-- the law of `network_as`
pub adds_up : (profile : Profile) (p : Problem) → IsInstance p
    → AddsUp profile p (adders_as profile p)
adds_up profile p h =
    let soft : AreWithin p.variables p.soft =
    recursion_from_All _ p.soft
    (All-weaker (λ (s : SoftClause). IsClauseWithin p.variables s.clause)
    (λ s. greatest_variable s.clause ≤ p.variables) (λ s w. w.2) p.soft h.soft_clauses) in
    record {
      sum = λ t all. outputs_sum profile p t (omega (arith, h.weight_sum)) all;
      choice = λ t. cells_extend profile p t soft;
      small =
          room p.variables (length (filter (λ e. e.is_fresh) (relaxed_as profile p)))
          (length (adders_as profile p).cells) (length p.soft) h.variables h.soft_count
          (fresh_few profile p) (cells_few profile p);
    }
  where
    room : (v f c n : ℕ) → v ≤ 2 ^ 22 → n ≤ 2 ^ 18 → f ≤ n → c ≤ 63 * n → (v + f + 2 * c < 2 ^ 26)
        × (c < CELL_LIMIT)
    room v f c n a b d e = (omega arith, omega arith)
