-- Worked certificates over a formula, computed from the definitions.
use Rattle.std.specs.Prelude.{◌≡◌, ℕ, ◌++◌, List, [], ◌∷◌, refl}
use lib.Chars.{codes}
use Rattle.cnf.specs.Literal.{Literal, positive as p, negative as n}
use Rattle.lrat_machine.specs.declared.verdicts.Cause.TheVariants.{LineForm, IdOrder, DeadId}
use Rattle.lrat_machine.specs.declared.verdicts.Cause.TheVariants.{HintNotUnit, HintAfterConflict}
use Rattle.lrat_machine.specs.declared.verdicts.Cause.TheVariants.{NoConflict, Candidates}
use Rattle.lrat_machine.specs.declared.verdicts.Cause.TheVariants.{NoEmptyClause, TrailingLine}
use Rattle.lrat_machine.specs.declared.verdicts.Cause.TheVariants.{ClauseForm}
use Rattle.lrat_machine.specs.declared.verdicts.Verdict.TheVariants.{Yes, No}
use Rattle.lrat_machine.specs.Verdict.{proof_verdict}

abbrev four : List (List Literal)
four = (p 1 ∷ p 2 ∷ []) ∷ (n 1 ∷ p 2 ∷ []) ∷ (p 1 ∷ n 2 ∷ []) ∷ (n 1 ∷ n 2 ∷ []) ∷ []

abbrev nl : List ℕ
nl = 10 ∷ []

v1 : proof_verdict four (codes "5 2 0 1 2") ≡ No LineForm 1
v1 = refl

v2 : proof_verdict four (codes "4 2 0 1 2 0") ≡ No IdOrder 1
v2 = refl

v3 : proof_verdict four (codes "5 2 2 0 1 2 0") ≡ No ClauseForm 1
v3 = refl

v4 : proof_verdict four (codes "5 2 0 1 9 0") ≡ No DeadId 1
v4 = refl

v5 : proof_verdict four (codes "5 d 1 1 0") ≡ No DeadId 1
v5 = refl

v6 : proof_verdict four (codes "5 0 1 0") ≡ No HintNotUnit 1
v6 = refl

v7 : proof_verdict four (codes "5 2 0 1 2 3 0") ≡ No HintAfterConflict 1
v7 = refl

v8 : proof_verdict four (codes "5 0 0") ≡ No NoConflict 1
v8 = refl

v9 : proof_verdict four (codes "5 2 0 1 0") ≡ No Candidates 1
v9 = refl

v10 : proof_verdict four (codes "5 3 1 0 0" ++ nl ++ codes "6 -3 2 0 -5 0") ≡ No NoConflict 2
v10 = refl

v11 : proof_verdict four (codes "5 3 1 0 0" ++ nl ++ codes "6 -3 -1 0 -5 1 3 0")
    ≡ No HintAfterConflict 2
v11 = refl

v12 : proof_verdict four (codes "5 d 4 0" ++ nl ++ codes "4 2 0 1 2 0") ≡ No IdOrder 2
v12 = refl

v13 : proof_verdict four (codes "5 3 1 0 0" ++ nl ++ codes "6 -3 -1 0 -5 0") ≡ No NoEmptyClause 0
v13 = refl

v14 : proof_verdict four (codes "5 2 0 1 2 0" ++ nl ++ codes "6 0 5 3 4 0" ++ nl ++ codes "7 1 0 0")
    ≡ No TrailingLine 3
v14 = refl

v15 : proof_verdict four [] ≡ No NoEmptyClause 0
v15 = refl

v16 : proof_verdict four
    (codes "5 3 1 0 0" ++ nl ++ codes "6 -3 2 0 -5 1 0" ++ nl ++ codes "7 2 0 1 2 0" ++ nl
    ++ codes "8 0 7 3 4 0" ++ nl) ≡ Yes
v16 = refl

v17 : proof_verdict four (codes "5 2 0 1 2 0" ++ nl ++ codes "6 0 5 3 4 0" ++ nl) ≡ Yes
v17 = refl

v18 : proof_verdict four (codes "5 134217728 0 0") ≡ No ClauseForm 1
v18 = refl

v19 : proof_verdict four (codes "5 134217727 0 0") ≡ No NoEmptyClause 0
v19 = refl

v20 : proof_verdict four (codes "4611686018427387904 1 0 0") ≡ No LineForm 1
v20 = refl
