-- Worked totalizers.
use Rattle.std.specs.Prelude.{◌≡◌, ℕ, zero, suc, List, [], ◌∷◌, refl, nat_le}
use Rattle.std.proofs.Common.{ap, sym, ◌∙◌}
use Rattle.std.proofs.lemmas.Option.{none-some, same_Some}
use Rattle.cnf.specs.Literal.{Literal, Assignment, literal_value, positive as p, negative as n}
use Rattle.totalizer.specs.Stages.{Leaf, Node, Staged, stage, totalizer_of, true_leaves}
use Rattle.totalizer.specs.Grown.{AreUnary, HasStages, MeansRight}

abbrev three : List Literal
three = p 1 ∷ n 2 ∷ p 3 ∷ []

-- one output: the right half has two leaves
one : totalizer_of 1 4 three ≡ record {
  tree = Node (Leaf (p 1)) (Node (Leaf (n 2)) (Leaf (p 3)) (p 4 ∷ [])) (p 5 ∷ []);
  clauses =
      (n 3 ∷ p 4 ∷ []) ∷ (p 2 ∷ p 4 ∷ [])
      ∷ (n 4 ∷ p 5 ∷ []) ∷ (n 1 ∷ p 5 ∷ []) ∷ [];
  fresh = 6;
}
one = refl

-- the second one, later
two : stage 2 6 (Staged.tree (totalizer_of 1 4 three)) ≡ record {
  tree = Node (Leaf (p 1)) (Node (Leaf (n 2)) (Leaf (p 3)) (p 4 ∷ p 6 ∷ [])) (p 5 ∷ p 7 ∷ []);
  clauses =
      (p 2 ∷ n 3 ∷ p 6 ∷ []) ∷ (n 6 ∷ p 4 ∷ [])
      ∷ (n 6 ∷ p 7 ∷ []) ∷ (n 1 ∷ n 4 ∷ p 7 ∷ []) ∷ (n 7 ∷ p 5 ∷ []) ∷ [];
  fresh = 8;
}
two = refl

-- one literal is its own output
single : totalizer_of 1 4 (p 3 ∷ []) ≡ record { tree = Leaf (p 3); clauses = []; fresh = 4 }
single = refl

-- variables from 2 on are true: of the three literals only the last one is
abbrev from_two : Assignment
from_two v = nat_le 2 v

leaves : true_leaves from_two (Staged.tree (totalizer_of 1 4 three)) ≡ 1
leaves = refl

has : HasStages 1 (Staged.tree (totalizer_of 1 4 three))
has = (tt, (tt, tt, refl), refl)

one_output : (x : Literal) (count : ℕ) → literal_value from_two x ≡ nat_le 1 count
    → AreUnary from_two (x ∷ []) count
one_output x count value zero l e = ap (literal_value from_two) (sym (same_Some x l e)) ∙ value
one_output x count value (suc i) l e = absurd (none-some l e)

means : MeansRight from_two (Staged.tree (totalizer_of 1 4 three))
means = (tt, (tt, tt, one_output (p 4) 1 refl), one_output (p 5) 1 refl)
