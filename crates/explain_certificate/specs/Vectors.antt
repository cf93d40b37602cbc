-- What is shown of facts, and what a certificate holds.
use Rattle.std.specs.Prelude.{◌≡◌, [], ◌∷◌, true, false, refl}
use Rattle.std.specs.Fmt.{digits}
use Rattle.cnf.specs.Literal.{positive as p}
use lib.Chars.{codes}
use Rattle.lrat_live.specs.Listed.{listed_at}
use Rattle.explain_certificate.specs.Holdings.{counts_of, live_up_to, no_lines}
use Rattle.explain_certificate.specs.Reasons.{fact_text, facts_text}

-- a clause three times, a count twice, and a group once
three_times : fact_text false (record { weight = 3; is_numbered = false; number = 1 })
    ≡ codes "less clause 1, 3 times"
unfolding digits
three_times = refl

twice : fact_text false (record { weight = 2; is_numbered = true; number = 4 })
    ≡ codes "less count 4, 2 times"
unfolding digits
twice = refl

once : facts_text (record { weight = 1; is_numbered = true; number = 5 } ∷ [])
    (record { is_group = true; details = codes "!" } ∷ []) ≡ codes "less group 5, once!"
unfolding digits
once = refl

-- three clauses, one of which goes, and a count; of a cut that no line feed ends nothing
lines_of_four :
    counts_of (codes "7 1 0 3 0\n8 -1 0 2 0\n\n9 2 0 1 0\n9 d 7 0\ncount 1 1 2 0\ncut 0")
    ≡ record no_lines { additions = 3; deletions = 1; counts = 1 }
lines_of_four = refl

-- a clause under the id 2 alone
one_of_three : live_up_to (listed_at ((2, p 1 ∷ []) ∷ [])) 3 ≡ 1
one_of_three = refl
