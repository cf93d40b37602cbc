-- Whether a variable is worth eliminating: by how many resolvents its clauses have, and how long.
use Rattle.std.specs.Prelude.{ℕ, ◌+◌, nat_le, ◌==◌, Bool, not, ◌&&◌, ◌||◌, List, length, filter}
use Rattle.std.specs.Prelude.{count_by, sum_by}
use Rattle.std.specs.List.{list_all, list_any}
use Rattle.cnf.specs.Literal.{Literal, negation}
use Rattle.cnf.specs.Clause.{contains_literal, without_literal}
use Rattle.eliminate_tables.specs.declared.worthwhile.TheConstants.{LONGEST_PARENT}
use Rattle.eliminate_tables.specs.declared.worthwhile.TheConstants.{LONGEST_RESOLVENT}
use Rattle.eliminate_tables.specs.declared.worthwhile.TheConstants.{MOST_OF_A_SIGN}

-- the literals that a resolvent has from its second clause alone
abbrev pub rest_of : Literal → List Literal → List Literal → List Literal
rest_of p c d =
    filter (λ k. not (contains_literal k (without_literal p c))) (without_literal (negation p) d)

-- the first clause has the negation of one of these: the resolvent is always true
abbrev pub give_tautology : Literal → List Literal → List Literal → Bool
give_tautology p c d =
    list_any (λ k. contains_literal (negation k) (without_literal p c)) (rest_of p c d)

-- the resolvent is not too long; the first clause has the pivot beside those that it gives
abbrev pub is_short : Literal → List Literal → List Literal → Bool
is_short p c d = nat_le (length (rest_of p c d) + length c) (LONGEST_RESOLVENT + 1)

-- no resolvent of c with these is long
abbrev pub are_short : Literal → List Literal → List (List Literal) → Bool
are_short p c ds = list_all (λ d. give_tautology p c d || is_short p c d) ds

-- how many resolvents c has with these, but for those that are always true
abbrev pub resolvent_count : Literal → List Literal → List (List Literal) → ℕ
resolvent_count p c ds = count_by (λ d. not (give_tautology p c d)) ds

-- few clauses, and none that is long
abbrev pub are_few_and_short : List (List Literal) → Bool
are_few_and_short cs =
    list_all (λ c. nat_le (length c) LONGEST_PARENT) cs && nat_le (length cs) MOST_OF_A_SIGN

-- the clauses with a literal and those with its negation have no more resolvents than they are, of
-- which none is long
abbrev pub is_worthwhile : Literal → List (List Literal) → List (List Literal) → Bool
is_worthwhile p cs ds = (length cs == 0) || (length ds == 0)
    || (are_few_and_short cs && are_few_and_short ds && list_all (λ c. are_short p c ds) cs
    && nat_le (sum_by (λ c. resolvent_count p c ds) cs) (length cs + length ds))
