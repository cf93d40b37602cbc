-- The formula from its parts.
use Rattle.std.proofs.Common.{◌≡◌, ℕ, ◌+◌, ◌*◌, List, [], ◌++◌, length, Option, ◌∙◌, ap}
use Rattle.std.specs.List.{flat_map}
use Rattle.cnf.specs.Literal.{Literal}
use Rattle.cnf.specs.Problem.{Problem}
use Rattle.cnf.specs.Formula.{Cnf}
use Rattle.adder.specs.declared.cells.Cell.{Cell}
use Rattle.adder.specs.declared.profiles.Profile.{Profile}
use Rattle.adder.specs.Network.{relaxed_variables, adders_as}
use Rattle.bound.specs.Bound.{kept, cell_clauses, relaxed_clauses, comparator_of, bound_as}
use Rattle.bound.specs.Adding.{Adds}

pub formula_parts : (profile : Profile) (p : Problem) (k last : ℕ) (a b c d : List (List Literal))
    (cells : List Cell) (outputs : List (Option Literal)) → a ≡ []
    → b ≡ a ++ (kept p.hard ++ kept (relaxed_clauses profile p))
    → Adds b c (flat_map cell_clauses cells) → d ≡ c ++ comparator_of outputs k
    → last ≡ relaxed_variables profile p → cells ≡ (adders_as profile p).cells
    → outputs ≡ (adders_as profile p).outputs
    → (let f : Cnf = record { variables = last + 2 * length cells; clauses = d } in
    f ≡ bound_as profile p k)
formula_parts profile p k last a b c d cells outputs none given added compared counted same ends =
    let items : d ≡ kept p.hard ++ kept (relaxed_clauses profile p) ++ kept
    (flat_map cell_clauses cells) ++ comparator_of outputs k =
    compared ∙ ap (λ x. x ++ comparator_of outputs k) (added.items
    ∙ ap (λ x. x ++ kept (flat_map cell_clauses cells)) (given
    ∙ ap (λ x. x ++ (kept p.hard ++ kept (relaxed_clauses profile p))) none)) in
    let whole : d ≡ (bound_as profile p k).clauses =
    items ∙ (λ i. kept p.hard ++ kept (relaxed_clauses profile p) ++ kept
    (flat_map cell_clauses (same i)) ++ comparator_of (ends i) k) in
    λ i. record { variables = counted i + 2 * length (same i); clauses = whole i }
