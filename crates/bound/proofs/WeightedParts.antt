-- The relaxed clauses of an instance, units by their negations, are a formula.
use Rattle.std.proofs.Common.{◌≡◌, ℕ, ◌+◌, ◌≤◌, List, [], ◌++◌, length, ◌∙◌, ap, arith}
use Rattle.std.proofs.lemmas.List.Elements.{All-from_recursion}
use Rattle.cnf.specs.Literal.{Literal}
use Rattle.cnf.specs.Formula.{Cnf, IsFormula, IsFormulaClause}
use Rattle.cnf.specs.Problem.{Problem}
use Rattle.cnf.specs.Instance.{IsInstance}
use Rattle.adder.specs.declared.profiles.Profile.TheVariants.{Two}
use Rattle.adder.specs.Network.{relaxed_variables}
use Rattle.bound.specs.Weighted.{weighted_cnf}
use Rattle.bound.proofs.Fits.{given_formula}

pub weighted_is_formula : (p : Problem) → IsInstance p
    → relaxed_variables Two p ≤ p.variables + length p.soft → IsFormula (weighted_cnf p)
weighted_is_formula p h few = record {
  few = omega (arith, h.variables, h.soft_count, few);
  clauses =
      let v = relaxed_variables Two p in
      All-from_recursion (IsFormulaClause v) (weighted_cnf p).clauses
      (given_formula Two p v h (omega arith));
}

pub weighted_parts : (p : Problem) (last : ℕ) (a b : List (List Literal)) → a ≡ []
    → b ≡ a ++ (weighted_cnf p).clauses → last ≡ relaxed_variables Two p
    → (let f : Cnf = record { variables = last; clauses = b } in f ≡ weighted_cnf p)
weighted_parts p last a b none given counted =
    let whole : b ≡ (weighted_cnf p).clauses = given
    ∙ ap (λ z. z ++ (weighted_cnf p).clauses) none in
    λ i. record { variables = counted i; clauses = whole i }
