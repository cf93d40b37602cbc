-- An instance whose soft clauses are relaxed, with the weights of their relaxation literals: those
-- of unit clauses are relaxed by their negations.
use Rattle.std.specs.Prelude.{ℕ, not, List, [], ◌∷◌, ◌++◌, map, filter, if◌then◌else◌}
use Rattle.cnf.specs.Literal.{Literal}
use Rattle.cnf.specs.Clause.{is_tautology}
use Rattle.cnf.specs.Formula.{Cnf}
use Rattle.cnf.specs.Problem.{Problem, SoftClause}
use Rattle.adder.specs.declared.profiles.Profile.TheVariants.{Two}
use Rattle.adder.specs.Network.{Relaxed, relaxed_as, relaxed_variables}
use Rattle.bound.specs.Bound.{kept, relaxed_clauses}

-- the hard clauses, and the soft ones with their relaxation variables
abbrev pub weighted_cnf : Problem → Cnf
weighted_cnf p = record {
  variables = relaxed_variables Two p;
  clauses = kept p.hard ++ kept (relaxed_clauses Two p);
}

-- what each soft clause costs, and the literal that is true where it may be false; a tautology
-- costs nothing
abbrev pub weights_in : List Relaxed → List (ℕ × Literal)
weights_in es =
    map (λ e. ((e.soft).weight, e.literal)) (filter (λ e. not (is_tautology (e.soft).clause)) es)

abbrev pub weights_of : Problem → List (ℕ × Literal)
weights_of p = weights_in (relaxed_as Two p)

-- the weight of a soft clause that this literal relaxes; none of a tautology
abbrev pub weight_unless_true : SoftClause → Literal → List (ℕ × Literal)
weight_unless_true s l = if is_tautology s.clause then [] else (s.weight, l) ∷ []
