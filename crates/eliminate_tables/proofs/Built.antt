-- A resolvent that is built against marks.
use Rattle.std.proofs.Common.{◌≡◌, ℕ, ◌<◌, Bool, true, false, not, List, [], ◌∷◌, ◌++◌, length}
use Rattle.std.proofs.Common.{◌+◌, get_or, take, filter, inl, inr, refl, sym, ◌∙◌, ap, subst}
use Rattle.std.specs.Prelude.{All, if◌then◌else◌}
use Rattle.std.specs.List.{list_any}
use Rattle.std.proofs.lemmas.Bool.{or_cases, or_parts, or_left, or_right, or_from, both_ways}
use Rattle.std.proofs.lemmas.Bool.{false_from_ne_true, false≢true}
use Rattle.std.proofs.lemmas.List.{take_more}
use Rattle.std.proofs.lemmas.List.Elements.{All-head, All-tail, filter-append}
use Rattle.cnf.specs.Literal.{Literal, negation, literal_eq}
use Rattle.cnf.specs.Clause.{contains_literal, without_literal, is_tautology}
use Rattle.cnf.proofs.Laws.{literal_eq-true, contains_front, contains_back}
use Rattle.cnf.specs.Marks.{IsMarked, mark_of}
use Rattle.eliminate_tables.specs.Resolvents.{resolvent, unmarked_rest, clashes}
use Rattle.cnf.proofs.Laws.{literal_eq-refl}
use Rattle.cnf.proofs.Laws.{negation_twice, contains-filter, filter-contains}
use Rattle.eliminate_tables.proofs.Resolve.{contains-either}
use Rattle.cnf.proofs.Laws.{not-complement}
use Rattle.cnf.proofs.Laws.{is_tautology-filter, literal_eq-sides}
use Rattle.cnf.proofs.Laws.{any_member}
use Rattle.cnf.proofs.Laws.{at_contains}

-- what holds of each literal holds of one
pub member_has : (P : Literal → Type 0) (c : List Literal) (k : Literal) → All P c
    → contains_literal k c ≡ true → P k
member_has P [] k all e = absurd (false≢true e)
member_has P (l ∷ c) k all e =
    elim (or_cases (literal_eq k l) (contains_literal k c) e) [
      | inl same ↦ subst P (sym (literal_eq-true k l same)) (All-head P l c all)
      | inr more ↦ member_has P c k (All-tail P l c all) more
    ]

-- the negation of this literal is marked
pub clash_at : (marks : List Bool) (q : Literal) (c : List Literal) (i : ℕ) (l : Literal)
    → i < length c → l ≡ get_or c i l → literal_eq l q ≡ false → mark_of marks l ≡ false
    → mark_of marks (negation l) ≡ true
    → list_any (clashes marks) (unmarked_rest marks q c) ≡ true
clash_at marks q c i l h is other unmarked clash =
    let apart : literal_eq q l ≡ false = literal_eq-sides l q other in
    let in_rest : contains_literal l (without_literal q c) ≡ true =
    contains-filter (λ k. not (literal_eq q k)) l c (at_contains c i l h is) (ap not apart) in
    any_member (clashes marks) l (unmarked_rest marks q c)
    (contains-filter (λ k. not (mark_of marks k)) l (without_literal q c) in_rest
    (ap not unmarked)) clash

-- one literal more
pub rest_more : (marks : List Bool) (q : Literal) (c : List Literal) (i : ℕ) (l : Literal)
    → i < length c → l ≡ get_or c i l → unmarked_rest marks q (take (i + 1) c)
    ≡ unmarked_rest marks q (take i c) ++ unmarked_rest marks q (l ∷ [])
rest_more marks q c i l lt is =
    ap (unmarked_rest marks q) (take_more c i l lt ∙ ap (λ x. take i c ++ x ∷ []) (sym is))
    ∙ ap (filter (λ k. not (mark_of marks k)))
    (filter-append (λ k. not (literal_eq q k)) (take i c) (l ∷ []))
    ∙ filter-append (λ k. not (mark_of marks k)) (without_literal q (take i c))
    (without_literal q (l ∷ []))

-- which is not marked, or is left out
pub rest_one : (marks : List Bool) (q l : Literal) → literal_eq q l ≡ false
    → mark_of marks l ≡ false → unmarked_rest marks q (l ∷ []) ≡ l ∷ []
rest_one marks q l other unmarked = rw (other, unmarked)

pub rest_none : (marks : List Bool) (q l : Literal) → literal_eq q l ≡ true
    → unmarked_rest marks q (l ∷ []) ≡ []
rest_none marks q l same = rw same

pub rest_marked : (marks : List Bool) (q l : Literal) → mark_of marks l ≡ true
    → unmarked_rest marks q (l ∷ []) ≡ []
rest_marked marks q l marked =
    elim (literal_eq q l) as (λ b. filter (λ k. not (mark_of marks k))
    (if not b then l ∷ [] else []) ≡ []) [
      | true ↦ refl
      | false ↦ rw marked
    ]

-- where the literals of a are marked, what is not marked is not in a
pub rest_is : (marks : List Bool) (a : List Literal) (q : Literal) (c : List Literal)
    → IsMarked marks a → All (λ l. 0 < l.variable) c
    → unmarked_rest marks q c ≡ filter (λ k. not (contains_literal k a)) (without_literal q c)
rest_is marks a q [] m some = refl
rest_is marks a q (k ∷ c) m some =
    let rest = rest_is marks a q c m (All-tail (λ (l : Literal). 0 < l.variable) k c some) in
    let same : mark_of marks k ≡ contains_literal k a =
    m.marked k (All-head (λ (l : Literal). 0 < l.variable) k c some) in
    elim (literal_eq q k) as (λ b. filter (λ l. not (mark_of marks l))
    (if not b then k ∷ without_literal q c else without_literal q c)
    ≡ filter (λ l. not (contains_literal l a)) (if not b then k ∷ without_literal q c
    else without_literal q c)) [
      | true ↦ rest
      | false ↦ λ i. if not (same i) then k ∷ rest i else rest i
    ]

no_tautology-append : (c d : List Literal) → is_tautology c ≡ false → is_tautology d ≡ false
    → ((k : Literal) → contains_literal k d ≡ true → contains_literal (negation k) c ≡ false)
    → is_tautology (c ++ d) ≡ false
no_tautology-append [] d oc od apart = od
no_tautology-append (l ∷ c) d oc od apart =
    let h = or_parts (contains_literal (negation l) c) (is_tautology c) oc in
    or_from (contains_literal (negation l) (c ++ d)) (is_tautology (c ++ d))
    (false_from_ne_true (contains_literal (negation l) (c ++ d))
    (λ e. elim (contains-either (negation l) c d e) [
      | inl m ↦ both_ways (contains_literal (negation l) c) h.0 m
      | inr m ↦ both_ways (contains_literal (negation (negation l)) (l ∷ c)) (apart (negation l) m)
          (subst (λ x. contains_literal x (l ∷ c) ≡ true) (sym (negation_twice l))
          (or_left (literal_eq l l) (contains_literal l c) (literal_eq-refl l)))
    ]))
    (no_tautology-append c d h.1 od
    (λ k e. (or_parts (literal_eq (negation k) l) (contains_literal (negation k) c)
    (apart k e)).1))

-- a literal and its negation
tautologies_both : (c : List Literal) (k : Literal) → contains_literal k c ≡ true
    → contains_literal (negation k) c ≡ true → is_tautology c ≡ true
tautologies_both c k e f = elim (is_tautology c) as (λ b. is_tautology c ≡ b → b ≡ true) [
  | true ↦ λ h. refl
  | false ↦ λ h. absurd (both_ways (contains_literal (negation k) c) (not-complement k c h e) f)
] refl

some_member : (q : Literal → Bool) (c : List Literal) → list_any q c ≡ true
    → (k : Literal) × (contains_literal k c ≡ true) × (q k ≡ true)
some_member q [] e = absurd (false≢true e)
some_member q (l ∷ c) e =
    elim (or_cases (q l) (list_any q c) e) [
      | inl h ↦ (l, or_left (literal_eq l l) (contains_literal l c) (literal_eq-refl l), h)
      | inr h ↦ let w = some_member q c h in
          (w.0, or_right (literal_eq w.0 l) (contains_literal w.0 c) w.1, w.2)
    ]

-- the resolvent has complementary literals just where the negation of some literal of the rest is
-- marked
pub clash_is : (marks : List Bool) (p : Literal) (c d : List Literal)
    → IsMarked marks (without_literal p c) → All (λ l. 0 < l.variable) d → is_tautology c ≡ false
    → is_tautology d ≡ false
    → list_any (clashes marks) (unmarked_rest marks (negation p) d) ≡ is_tautology
    (resolvent p c d)
clash_is marks p c d m some oc od =
    let a : List Literal = without_literal p c in
    let rest : List Literal = unmarked_rest marks (negation p) d in
    let is : rest ≡ filter (λ k. not (contains_literal k a)) (without_literal (negation p) d) =
    rest_is marks a (negation p) d m some in
    let from_one : (k : Literal) → contains_literal k rest ≡ true → 0 < k.variable =
    λ k e. member_has (λ l. 0 < l.variable) d k some
    (filter-contains (λ l. not (literal_eq (negation p) l)) k d
    (filter-contains (λ l. not (mark_of marks l)) k (without_literal (negation p) d) e).0).0 in
    let o_rest : is_tautology rest ≡ false =
    is_tautology-filter (λ k. not (mark_of marks k)) (without_literal (negation p) d)
    (is_tautology-filter (λ k. not (literal_eq (negation p) k)) d od) in
    let o_a : is_tautology a ≡ false = is_tautology-filter (λ k. not (literal_eq p k)) c oc in
    elim (list_any (clashes marks) rest) as (λ b. list_any (clashes marks) rest ≡ b
    → b ≡ is_tautology (resolvent p c d)) [
      | true ↦ λ e.
          let w = some_member (clashes marks) rest e in
          let k : Literal = w.0 in
          let in_a : contains_literal (negation k) a ≡ true =
          sym (m.marked (negation k) (from_one k w.1)) ∙ w.2 in
          sym (ap (λ x. is_tautology (a ++ x)) (sym is)
          ∙ tautologies_both (a ++ rest) k (contains_back k a rest w.1)
          (contains_front (negation k) a rest in_a))
      | false ↦ λ e.
          sym (ap (λ x. is_tautology (a ++ x)) (sym is)
          ∙ no_tautology-append a rest o_a o_rest (λ k h.
          sym (m.marked (negation k) (from_one k h))
          ∙ false_from_ne_true (mark_of marks (negation k))
          (λ f. both_ways (list_any (clashes marks) rest) e
          (any_member (clashes marks) k rest h f))))
    ] refl
