-- Which clauses of an instance bits make false.
use Rattle.std.specs.Prelude.{ℕ, ◌+◌, ◌-◌, Bool, List, [], ◌∷◌, if◌then◌else◌}
use Rattle.cnf.specs.Literal.{Assignment, Literal}
use Rattle.cnf.specs.Clause.{clause_value}
use Rattle.cnf.specs.Problem.{Problem, SoftClause}
use Rattle.cnf.specs.Bits.{assignment_of}
use Rattle.cnf.specs.declared.limits.TheConstants.{NUMBER_LIMIT}
use Rattle.explain.specs.declared.falsified.GivenUp.{GivenUp}

-- no weight is greater
abbrev pub most_weight : ℕ
most_weight = NUMBER_LIMIT - 1

-- the false ones among soft clauses, of which the first has place i
abbrev pub false_soft_from : Assignment → ℕ → List SoftClause → List GivenUp
false_soft_from t i [] = []
false_soft_from t i (s ∷ more) =
    if clause_value t s.clause then false_soft_from t (i + 1) more
    else record { place = i; weight = s.weight } ∷ false_soft_from t (i + 1) more

abbrev pub false_soft : Problem → List Bool → List GivenUp
false_soft p bits = false_soft_from (assignment_of bits) 0 p.soft

-- the places of the false ones among hard clauses, of which the first has place i
abbrev pub false_hard_from : Assignment → ℕ → List (List Literal) → List ℕ
false_hard_from t i [] = []
false_hard_from t i (c ∷ more) =
    if clause_value t c then false_hard_from t (i + 1) more else i ∷ false_hard_from t (i + 1) more

abbrev pub false_hard : Problem → List Bool → List ℕ
false_hard p bits = false_hard_from (assignment_of bits) 0 p.hard
