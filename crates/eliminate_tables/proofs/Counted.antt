-- Resolvents that are counted against marks.
use Rattle.std.proofs.Common.{◌≡◌, ℕ, ◌<◌, ◌≤◌, Bool, true, ◌||◌, List, [], ◌∷◌, length, not}
use Rattle.std.proofs.Common.{get_or, Some, refl, sym, ◌∙◌, ap}
use Rattle.std.specs.Prelude.{All, unwrap_or, nat_le}
use Rattle.std.specs.List.{list_any, list_all}
use Rattle.std.proofs.lemmas.Bool.{leb-true, and_parts}
use Rattle.std.proofs.lemmas.List.{get_or-map}
use Rattle.std.proofs.lemmas.List.Elements.{All-head, All-tail, All-filter}
use Rattle.cnf.specs.Literal.{Literal, negation, literal_eq}
use Rattle.cnf.specs.Clause.{contains_literal, without_literal}
use Rattle.clauses.specs.Slots.{Slots, clause_at}
use Rattle.cnf.specs.Marks.{IsMarked, HasPlace}
use Rattle.eliminate_tables.specs.Resolvents.{unmarked_rest, clashes}
use Rattle.clauses.specs.Slots.{clause_under, clauses_under}
use Rattle.eliminate_tables.specs.Worthwhile.{rest_of, give_tautology, are_few_and_short}
use Rattle.eliminate_tables.proofs.Built.{rest_is}

-- two tests that agree on the literals of a clause find the same
any_same : (p q : Literal → Bool) (c : List Literal) → All (λ k. p k ≡ q k) c
    → list_any p c ≡ list_any q c
any_same p q [] all = refl
any_same p q (k ∷ c) all =
    let here : p k ≡ q k = All-head (λ x. p x ≡ q x) k c all in
    let rest : list_any p c ≡ list_any q c =
    any_same p q c (All-tail (λ x. p x ≡ q x) k c all) in
    ap (λ b. b || list_any p c) here ∙ ap (λ b. q k || b) rest

module _ (marks : List Bool) (p : Literal) (c d : List Literal)
    (m : IsMarked marks (without_literal p c)) (placed : All (HasPlace (length marks)) d) where
  -- what is not marked of the second clause is the rest of the resolvent
  pub rest_marked : unmarked_rest marks (negation p) d ≡ rest_of p c d
  rest_marked =
      rest_is marks (without_literal p c) (negation p) d m (λ k z lt. (placed k z lt).0)

  -- and its negations are marked where the two clauses are complementary
  pub clash_marked : list_any (clashes marks) (unmarked_rest marks (negation p) d)
      ≡ give_tautology p c d
  clash_marked =
      let q : Literal → Bool = λ k. contains_literal (negation k) (without_literal p c) in
      let agree : All (λ k. clashes marks k ≡ q k) d =
      λ k z lt. m.marked (negation (get_or d k z)) (placed k z lt).0 in
      let left : All (λ k. clashes marks k ≡ q k) (without_literal (negation p) d) =
      All-filter (λ k. not (literal_eq (negation p) k)) (λ k. clashes marks k ≡ q k) d agree in
      ap (list_any (clashes marks)) rest_marked
      ∙ any_same (clashes marks) q (rest_of p c d)
      (All-filter (λ k. not (contains_literal k (without_literal p c)))
      (λ k. clashes marks k ≡ q k) (without_literal (negation p) d) left)

-- the clause under a reference that is looked at
pub under_live : (slots : Slots) (r : ℕ) (c : List Literal) → clause_at slots r ≡ Some c
    → clause_under slots r ≡ c
under_live slots r c e = ap (λ o. unwrap_or o []) e

pub under_item : (slots : Slots) (rs : List ℕ) (i r : ℕ) → i < length rs → r ≡ get_or rs i r
    → get_or (clauses_under slots rs) i [] ≡ clause_under slots r
under_item slots rs i r lt is =
    get_or-map (clause_under slots) rs i r [] lt ∙ ap (clause_under slots) (sym is)

pub under_at : (slots : Slots) (rs : List ℕ) (i r : ℕ) (c : List Literal) → i < length rs
    → r ≡ get_or rs i r → clause_at slots r ≡ Some c → get_or (clauses_under slots rs) i [] ≡ c
under_at slots rs i r c lt is e = under_item slots rs i r lt is ∙ under_live slots r c e

-- there are at most ten
pub few_length : (cs : List (List Literal)) → are_few_and_short cs ≡ true → length cs ≤ 10
few_length cs e =
    leb-true (length cs) 10 (and_parts (list_all (λ c. nat_le (length c) 100) cs)
    (nat_le (length cs) 10) e).1
