-- The columns one by one.
use Rattle.std.proofs.Common.{◌≡◌, ℕ, suc, ◌+◌, ◌*◌, ◌≤◌, ◌^◌, true, false, List, [], ◌∷◌}
use Rattle.std.proofs.Common.{◌++◌, length, map, filter, Option, Result, Ok, Err, if◌then◌else◌}
use Rattle.std.proofs.Common.{refl, sym, ◌∙◌, ap, subst, arith, append_assoc}
use Rattle.std.proofs.lemmas.List.{length-append}
use Rattle.cnf.specs.Literal.{Literal}
use Rattle.adder.specs.declared.cells.Cell.{Cell}
use Rattle.adder.specs.declared.relaxations.Relaxation.{Relaxation}
use Rattle.std.specs.Result.{IfOk}
use Rattle.adder.specs.Network.{Adders, Relaxed, bit, binary_length, column_of, columns_from}
use Rattle.adder.specs.Network.{along_columns}
use Rattle.adder.specs.Parts.{relaxation_of, literals_with, column_from}
use Rattle.adder.proofs.Variables.{column_fresh}

-- the relaxations make the columns of the soft clauses
column_kept : (es : List Relaxed) (j : ℕ) → literals_with j (map relaxation_of es) ≡ column_of es j
column_kept [] j = refl
column_kept (e ∷ es) j =
    let fs = map relaxation_of es in
    elim (bit (e.soft).weight j)
    as (λ b. map (λ r. r.lit) (if b then relaxation_of e ∷ filter (λ r. bit r.weight j) fs
    else filter (λ r. bit r.weight j) fs)
    ≡ map (λ e. e.literal) (if b then e ∷ filter (λ e. bit (e.soft).weight j) es
    else filter (λ e. bit (e.soft).weight j) es)) [
      | true ↦ ap (λ (ls : List Literal). e.literal ∷ ls) (column_kept es j)
      | false ↦ column_kept es j
    ]

pub columns_are : (es : List Relaxed) (total : ℕ) {rs : List Relaxation} {digits fresh n : ℕ}
    → rs ≡ map relaxation_of es → digits ≡ binary_length total → fresh ≡ n
    → columns_from (λ j. literals_with j rs) digits 0 fresh [] ≡ along_columns es total n
columns_are es total each_is digits_is fresh_is =
    at (binary_length total) each_is digits_is fresh_is
  where
    at : (m : ℕ) {rs : List Relaxation} {digits fresh n : ℕ} → rs ≡ map relaxation_of es
        → digits ≡ m → fresh ≡ n → columns_from (λ j. literals_with j rs) digits 0 fresh []
        ≡ columns_from (column_of es) m 0 n []
    at m {n = n} e f g =
        rw (e, f, g) (ap (λ (column : ℕ → List Literal). columns_from column m 0 n [])
        (λ i j. column_kept es j i))

pub filled_is : (rs : List Relaxation) (j : ℕ) {rs_read : List Relaxation}
    {emptied filled : List Literal} → emptied ≡ [] → rs_read ≡ rs
    → filled ≡ emptied ++ literals_with j rs_read → filled ≡ literals_with j rs
filled_is rs j none read filled = filled ∙ rw (none, read) refl

-- what was built, with what the columns that are left give, is the whole, and the variables before
-- end are enough
pub record IsBuilding (whole : Adders) (end : ℕ) (column : ℕ → List Literal) (cells : List Cell)
    (outputs : List (Option Literal)) (more j n : ℕ) (carries : List Literal) : Type 0 where
  pub cells_are : cells ++ (columns_from column more j n carries).cells ≡ whole.cells
  pub outputs_are : outputs ++ (columns_from column more j n carries).outputs ≡ whole.outputs
  pub end_is : n + 2 * length (columns_from column more j n carries).cells ≡ end

-- the next column
module _ {whole : Adders} {end : ℕ} {column : ℕ → List Literal} {cells : List Cell}
    {outputs : List (Option Literal)} {more j n : ℕ} {carries : List Literal} where
  next_end : (k : ℕ) → more ≡ suc k → IsBuilding whole end column cells outputs more j n carries
      → (column_from n (column j ++ carries)).fresh + 2 * length
      (columns_from column k (j + 1) (column_from n (column j ++ carries)).fresh
      (column_from n (column j ++ carries)).carries).cells ≡ end
  next_end k e h =
      let ls = column j ++ carries in
      let sum = column_from n ls in
      let rest = columns_from column k (j + 1) sum.fresh sum.carries in
      let here = rw e at h.end_is in
      omega (arith, here, column_fresh (length ls) n ls, length-append sum.cells rest.cells)

  pub column_room : (k : ℕ) → more ≡ suc k
      → IsBuilding whole end column cells outputs more j n carries → end ≤ 2 ^ 26
      → (column_from n (column j ++ carries)).fresh ≤ 2 ^ 26
  column_room k e h room = omega (arith, next_end k e h)

  pub builds_column : (k : ℕ) → more ≡ suc k
      → IsBuilding whole end column cells outputs more j n carries
      → {cells_then : List Cell} {outputs_then : List (Option Literal)} {n_then : ℕ}
      {carries_then : List Literal} {more_then : ℕ} (ls : List Literal) → ls ≡ column j ++ carries
      → cells_then ≡ cells ++ (column_from n ls).cells
      → outputs_then ≡ outputs ++ (column_from n ls).output ∷ [] → n_then ≡ (column_from n ls).fresh
      → carries_then ≡ (column_from n ls).carries → more_then ≡ k
      → IsBuilding whole end column cells_then outputs_then more_then (j + 1) n_then carries_then
  builds_column k e h ls ls_is cells_are outputs_are n_is carries_are more_is =
      let sum = column_from n (column j ++ carries) in
      let rest = columns_from column k (j + 1) sum.fresh sum.carries in
      rw (cells_are, outputs_are, n_is, carries_are, more_is, ls_is) (record {
        cells_are = append_assoc cells sum.cells rest.cells ∙ rw e at h.cells_are;
        outputs_are = append_assoc outputs (sum.output ∷ []) rest.outputs ∙ rw e at h.outputs_are;
        end_is = next_end k e h;
      })

-- what holds of the one answer that is Ok
pub if_ok_from : {X E : Type 0} (P : X → Type 0) {x : X} (r : Result X E) → IfOk r (λ y. y ≡ x)
    → P x → IfOk r P
if_ok_from P (Ok y) e h = subst P (sym e) h
if_ok_from P (Err k) e h = tt
