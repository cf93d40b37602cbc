-- Worked values: variable 7 stands for the pair 1 2 in 1 2 3; which clauses count for a pair.
use Rattle.std.specs.Prelude.{◌≡◌, [], ◌∷◌, Some, None, map, refl}
use Rattle.cnf.specs.Literal.{positive as p, negative as n}
use Rattle.lrat_log.specs.declared.lines.Name.TheVariants.{Added}
use Rattle.lrat_log.specs.Log.{LogLine}
use Rattle.eliminate_pairs.specs.Pairs.{whole_clause, side_clause, replaced, meetings}
use Rattle.eliminate_pairs.specs.Pairs.{definition_lines}

first_clause : whole_clause 7 (p 1) (p 2) ≡ n 7 ∷ p 1 ∷ p 2 ∷ []
first_clause = refl

second_clause : side_clause 7 (p 1) ≡ p 7 ∷ n 1 ∷ []
second_clause = refl

three_lines : map (λ (l : LogLine). l.clause) (definition_lines 7 (p 1) (p 2) (Added 4) (Added 4))
    ≡ (n 7 ∷ p 1 ∷ p 2 ∷ []) ∷ (p 7 ∷ n 1 ∷ []) ∷ (p 7 ∷ n 2 ∷ []) ∷ []
three_lines = refl

fourth_clause : replaced 7 (p 1) (p 2) (p 1 ∷ p 2 ∷ p 3 ∷ []) ≡ p 7 ∷ p 3 ∷ []
fourth_clause = refl

-- a clause of two literals, a deleted one and one with another sign are not counted
two_meetings : meetings (p 1) (p 2) (Some (p 3 ∷ p 2 ∷ p 1 ∷ []) ∷ Some (p 1 ∷ p 2 ∷ []) ∷ None
    ∷ Some (n 1 ∷ p 2 ∷ p 3 ∷ []) ∷ Some (p 1 ∷ p 2 ∷ n 4 ∷ []) ∷ []) ≡ 2
two_meetings = refl
