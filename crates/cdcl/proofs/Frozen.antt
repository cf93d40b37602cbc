-- The bits of frozen variables are those of the trail.
use Rattle.std.proofs.Common.{◌≡◌, ℕ, ◌+◌, ◌-◌, ◌<◌, ◌≤◌, Bool, true, false, not, List, length}
use Rattle.std.proofs.Common.{take}
use Rattle.std.proofs.Common.{get_or, Some, inl, inr, sym, ◌∙◌, ap, subst, arith}
use Rattle.std.specs.Prelude.{All}
use Rattle.std.proofs.lemmas.List.{get_or-take, length-take-le}
use Rattle.std.proofs.lemmas.Option.{same_Some, slice_get-get_or, slice_get_within}
use Rattle.cnf.specs.Literal.{Literal, positive, negative}
use Rattle.cnf.specs.Clause.{contains_literal}
use Rattle.propagate.specs.Trail.{Assigned, literals_of, value_in}
use Rattle.propagate.proofs.Laws.{NoTautology}
use Rattle.reconstruction.specs.Stack.{IsFree}
use Rattle.reconstruction.specs.Removals.{Removed, extended}
use Rattle.reconstruction.proofs.Laws.{length-extended}
use Rattle.cdcl_search.specs.Giving.{IsFrozen}
use Rattle.cdcl.specs.Outcomes.{IsTrueUnder}
use Rattle.cdcl.specs.Outcomes.{AreValues}
use Rattle.cdcl_search.proofs.Laws.{extended_frozen}
use Rattle.cdcl.proofs.Satisfied.{value_by}

-- a true literal tells the value of its variable
value_bit : (T : List Assigned) (v : ℕ) (s b : Bool) → NoTautology (literals_of T)
    → value_in T (record { variable = v; negated = s }) ≡ Some true
    → value_in T (positive v) ≡ Some b → b ≡ not s
value_bit T v false b apart e f = same_Some b true (sym f ∙ e)
value_bit T v true b apart e f =
    elim (value_by (contains_literal (negative v) (literals_of T))
    (contains_literal (positive v) (literals_of T)) true e) [
      | inr h ↦ absurd (let z = h.0 in cc)
      | inl h ↦ elim (value_by (contains_literal (positive v) (literals_of T))
          (contains_literal (negative v) (literals_of T)) b f) [
            | inl g ↦ absurd (apart (positive v) g.1 h.1)
            | inr g ↦ g.0
          ]
    ]

pub frozen_true : (T : List Assigned) (read frozen : List Bool) (removed : List Removed)
    (l : Literal) → NoTautology (literals_of T) → AreValues T read
    → All (λ r. IsFree frozen r.variable) removed → length frozen ≤ length read
    → 0 < l.variable → IsFrozen frozen l → value_in T l ≡ Some true
    → IsTrueUnder (take (length frozen) (extended removed read)) l
frozen_true T read frozen removed l apart values free wide one fixed e =
    let v = l.variable - 1 in
    let n = length frozen in
    let up : v + 1 ≡ l.variable = omega arith in
    let low : v < n = slice_get_within frozen v true fixed in
    let all = extended removed read in
    let long = length-extended removed read in
    let many : length (take n all) ≡ n = length-take-le n all (omega arith) in
    let bit : value_in T (positive l.variable) ≡ Some (get_or read v false) =
    subst (λ k. value_in T (positive k) ≡ Some (get_or read v false)) up
    (values v (omega arith)) in
    slice_get-get_or (take n all) v false (omega arith)
    ∙ ap Some (get_or-take n all v false low ∙ extended_frozen frozen removed read v free fixed
    ∙ value_bit T l.variable l.negated (get_or read v false) apart e bit)
