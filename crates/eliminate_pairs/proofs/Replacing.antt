-- A clause with a and b becomes one with z, where z is defined as 'a or b'.
use Rattle.std.proofs.Common.{◌≡◌, ℕ, Bool, true, false, not, ◌||◌, ◌<◌, ◌≤◌, ◌^◌, List, [], ◌∷◌}
use Rattle.std.proofs.Common.{map, Some, ◌⊎◌, inl, inr, refl, sym, ◌∙◌, ap, subst, arith}
use Rattle.std.specs.Prelude.{◌==◌}
use Rattle.std.proofs.lemmas.Bool.{or_cases, or_left, or_right, or_from, both_ways}
use Rattle.std.proofs.lemmas.Bool.{false_from_ne_true, eq-eqb, false≢true, true≢false, and_from}
use Rattle.cnf.specs.Literal.{Literal, Assignment, negation, literal_value, literal_eq, same_bool}
use Rattle.cnf.specs.Clause.{Satisfies, clause_value, contains_literal, without_literal}
use Rattle.cnf.specs.Clause.{has_repeat, is_tautology, greatest_variable}
use Rattle.cnf.specs.Formula.{IsFormulaClause}
use Rattle.cnf.specs.Refute.{Clauses, Refutes}
use Rattle.cnf.proofs.Laws.{literal_eq-true, all_from, absent_own, contained_true}
use Rattle.lrat_log.specs.declared.lines.Name.{Name}
use Rattle.lrat_log.specs.declared.lines.Kind.{Kind}
use Rattle.lrat_log.specs.declared.lines.Hint.TheVariants.{Plain}
use Rattle.lrat_log.specs.Log.{LogLine, Given, is_delete, id_of}
use Rattle.lrat_log.specs.Steps.{IsBaseOf, log_live}
use Rattle.eliminate_pairs.specs.Pairs.{positive, whole_clause, side_clause, replaced}
use Rattle.eliminate_names.specs.Work.{IsRupLine}
use Rattle.cnf.proofs.Laws.{literal_eq-refl}
use Rattle.cnf.proofs.Laws.{negation_twice, contains-negations}
use Rattle.cnf.proofs.Laws.{without-contains, not-complement, Covers}
use Rattle.cnf.proofs.Laws.{covered_unit}
use Rattle.cnf.proofs.Laws.{literal_eq-sides, apart-filter, has_repeat-filter}
use Rattle.cnf.proofs.Laws.{is_tautology-filter, value-filter}
use Rattle.cnf.proofs.Laws.{greatest-filter}

-- a clause with two literals and without z
pub record HasPair (z : ℕ) (a b : Literal) (c : List Literal) : Type 0 where
  pub has_a : contains_literal a c ≡ true
  pub has_b : contains_literal b c ≡ true
  pub two : literal_eq a b ≡ false
  pub no_z : (contains_literal (positive z) c ≡ false)
      × (contains_literal (negation (positive z)) c ≡ false)
  pub plain : is_tautology c ≡ false

-- what is in c is not what is not in c
not_same : (k l : Literal) (c : List Literal) → contains_literal k c ≡ true
    → contains_literal l c ≡ false → literal_eq l k ≡ false
not_same k l c h n =
    false_from_ne_true (literal_eq l k)
    (λ e. both_ways (contains_literal l c) n
    (subst (λ x. contains_literal x c ≡ true) (sym (literal_eq-true l k e)) h))

-- the negation of what is in c is not z
not_z : (z : ℕ) (a : Literal) (c : List Literal) → contains_literal a c ≡ true
    → contains_literal (negation (positive z)) c ≡ false
    → literal_eq (negation a) (positive z) ≡ false
not_z z a c h n = false_from_ne_true (literal_eq (negation a) (positive z)) (λ e.
    both_ways (contains_literal (negation (positive z)) c) n
    (subst (λ x. contains_literal x c ≡ true) (sym (negation_twice a)
    ∙ ap negation (literal_eq-true (negation a) (positive z) e)) h))

replaced-lacks : (z : ℕ) (a b l : Literal) (c : List Literal) → literal_eq l (positive z) ≡ false
    → contains_literal l (without_literal b (without_literal a c)) ≡ false
    → contains_literal l (replaced z a b c) ≡ false
replaced-lacks z a b l c n m =
    or_from (literal_eq l (positive z))
    (contains_literal l (without_literal b (without_literal a c))) n m

less_two : (a b l : Literal) (c : List Literal) → contains_literal l c ≡ false
    → contains_literal l (without_literal b (without_literal a c)) ≡ false
less_two a b l c n =
    apart-filter (λ k. not (literal_eq b k)) l (without_literal a c)
    (apart-filter (λ k. not (literal_eq a k)) l c n)

-- each literal of c is a, b or one of the others
replaced-parts : (a b k : Literal) (c : List Literal) → contains_literal k c ≡ true
    → (k ≡ b) ⊎ (k ≡ a) ⊎ (contains_literal k (without_literal b (without_literal a c)) ≡ true)
replaced-parts a b k c e = elim (without-contains a k c e) [
  | inl h ↦ inr (inl h)
  | inr h ↦ elim (without-contains b k (without_literal a c) h) [
    | inl m ↦ inl m
    | inr m ↦ inr (inr m)
  ]
]

same_in : (k l : Literal) (c : List Literal) → k ≡ l → contains_literal k (l ∷ c) ≡ true
same_in k l c e =
    or_left (literal_eq k l) (contains_literal k c)
    (subst (λ x. literal_eq x l ≡ true) (sym e) (literal_eq-refl l))

side_covers : (z : ℕ) (a : Literal) (r : List Literal) → contains_literal (positive z) r ≡ true
    → Covers (negation a) r (side_clause z a)
side_covers z a r e = (inr e, (inl refl, tt))

side_has : (z : ℕ) (a : Literal) → contains_literal (negation a) (side_clause z a) ≡ true
side_has z a =
    or_right (literal_eq (negation a) (positive z))
    (contains_literal (negation a) (negation a ∷ [])) (same_in (negation a) (negation a) [] refl)

-- the clause with z is a RUP line by the second and third line of the definition and the clause
pub replaced_refutes : (at : Clauses) (z : ℕ) (a b : Literal) (c : List Literal) (j k i : ℕ)
    → at j ≡ Some (side_clause z a) → at k ≡ Some (side_clause z b) → at i ≡ Some c
    → HasPair z a b c → Refutes at (map negation (replaced z a b c)) (j ∷ k ∷ i ∷ [])
replaced_refutes at z a b c j k i live_a live_b live h =
    let r : List Literal = replaced z a b c in
    let z_in : contains_literal (positive z) r ≡ true =
    same_in (positive z) (positive z) (without_literal b (without_literal a c)) refl in
    let lacks_na : contains_literal (negation a) r ≡ false =
    replaced-lacks z a b (negation a) c (not_z z a c h.has_a h.no_z.1)
    (less_two a b (negation a) c (not-complement a c h.plain h.has_a)) in
    let lacks_nb : contains_literal (negation b) r ≡ false =
    replaced-lacks z a b (negation b) c (not_z z b c h.has_b h.no_z.1)
    (less_two a b (negation b) c (not-complement b c h.plain h.has_b)) in
    let lacks_a : contains_literal a r ≡ false =
    replaced-lacks z a b a c
    (literal_eq-sides (positive z) a (not_same a (positive z) c h.has_a h.no_z.0))
    (apart-filter (λ k. not (literal_eq b k)) a (without_literal a c) (absent_own a c)) in
    let lacks_b : contains_literal b r ≡ false =
    replaced-lacks z a b b c
    (literal_eq-sides (positive z) b (not_same b (positive z) c h.has_b h.no_z.0))
    (absent_own b (without_literal a c)) in
    record {
      front = j ∷ k ∷ [];
      final = i;
      split = refl;
      reached = map negation (b ∷ a ∷ r);
      leads = (
        side_clause z a,
        negation a,
        live_a,
        covered_unit (negation a) r (side_clause z a) (side_has z a) (side_covers z a r z_in)
            lacks_na (subst (λ x. contains_literal x r ≡ false) (sym (negation_twice a)) lacks_a),
        (
          side_clause z b,
          negation b,
          live_b,
          covered_unit (negation b) (a ∷ r) (side_clause z b) (side_has z b)
              (side_covers z b (a ∷ r)
              (or_right (literal_eq (positive z) a) (contains_literal (positive z) r) z_in))
              (or_from (literal_eq (negation b) a) (contains_literal (negation b) r)
              (not_same a (negation b) c h.has_a (not-complement b c h.plain h.has_b)) lacks_nb)
              (subst (λ x. contains_literal x (a ∷ r) ≡ false) (sym (negation_twice b))
              (or_from (literal_eq b a) (contains_literal b r)
              (literal_eq-sides a b h.two) lacks_b)),
          refl,
        ),
      );
      clause = c;
      live = live;
      conflict =
          all_from (λ l. contains_literal (negation l) (map negation (b ∷ a ∷ r)) ≡ true) c
          (λ l e. contains-negations l (b ∷ a ∷ r) ∙ elim (replaced-parts a b l c e) [
            | inl s ↦ same_in l b (a ∷ r) s
            | inr more ↦ or_right (literal_eq l b) (contains_literal l (a ∷ r)) (elim more [
              | inl s ↦ same_in l a r s
              | inr m ↦ or_right (literal_eq l a) (contains_literal l r)
                  (or_right (literal_eq l (positive z))
                  (contains_literal l (without_literal b (without_literal a c))) m)
            ])
          ]);
    }

pub replaced-no_repeat : (z : ℕ) (a b : Literal) (c : List Literal) → HasPair z a b c
    → has_repeat c ≡ false → has_repeat (replaced z a b c) ≡ false
replaced-no_repeat z a b c h once =
    or_from (contains_literal (positive z) (without_literal b (without_literal a c)))
    (has_repeat (without_literal b (without_literal a c))) (less_two a b (positive z) c h.no_z.0)
    (has_repeat-filter (λ k. not (literal_eq b k)) (without_literal a c)
    (has_repeat-filter (λ k. not (literal_eq a k)) c once))

pub replaced-no_tautology : (z : ℕ) (a b : Literal) (c : List Literal) → HasPair z a b c
    → is_tautology c ≡ false → is_tautology (replaced z a b c) ≡ false
replaced-no_tautology z a b c h plain =
    or_from (contains_literal (negation (positive z)) (without_literal b (without_literal a c)))
    (is_tautology (without_literal b (without_literal a c)))
    (less_two a b (negation (positive z)) c h.no_z.1)
    (is_tautology-filter (λ k. not (literal_eq b k)) (without_literal a c)
    (is_tautology-filter (λ k. not (literal_eq a k)) c plain))

replaced-small : (n z : ℕ) (a b : Literal) (c : List Literal) → n < 2 ^ 27 → z < 2 ^ 27
    → greatest_variable c ≤ n → greatest_variable (replaced z a b c) < 2 ^ 27
replaced-small n z a b c few few_z small =
    omega (
      arith,
      greatest-filter (λ k. not (literal_eq b k)) (without_literal a c),
      greatest-filter (λ k. not (literal_eq a k)) c,
    )

-- two literals of a clause are on two variables
pub pair_variables : (a b : Literal) (c : List Literal) → contains_literal a c ≡ true
    → contains_literal b c ≡ true → literal_eq a b ≡ false → is_tautology c ≡ false
    → a.variable ≡ b.variable → ⊥
pair_variables a b c has_a has_b two plain e =
    elim (same_bool a.negated b.negated) as (λ s. same_bool a.negated b.negated ≡ s → ⊥) [
      | true ↦ λ s. both_ways (literal_eq a b) two
          (and_from (a.variable == b.variable) (same_bool a.negated b.negated)
          (eq-eqb a.variable b.variable e) s)
      | false ↦ λ s. both_ways (literal_eq (negation a) b)
          (literal_eq-sides b (negation a)
          (literal_eq-sides (negation a) b
          (not_same b (negation a) c has_b (not-complement a c plain has_a))))
          (and_from (a.variable == b.variable) (same_bool (not a.negated) b.negated)
          (eq-eqb a.variable b.variable e) (other a.negated b.negated s))
    ] refl
  where
    other : (x y : Bool) → same_bool x y ≡ false → same_bool (not x) y ≡ true
    other true true s = absurd (true≢false s)
    other true false s = refl
    other false true s = refl
    other false false s = absurd (true≢false s)

-- z and its definition give the pair back
pub replaced_back : (t : Assignment) (z : ℕ) (a b : Literal) (c : List Literal)
    → contains_literal a c ≡ true → contains_literal b c ≡ true
    → Satisfies t (whole_clause z a b) → Satisfies t (replaced z a b c) → Satisfies t c
replaced_back t z a b c has_a has_b first second =
    elim (or_cases (t z) (clause_value t (without_literal b (without_literal a c))) second) [
      | inr h ↦ value-filter t (λ k. not (literal_eq a k)) c
          (value-filter t (λ k. not (literal_eq b k)) (without_literal a c) h)
      | inl on ↦ elim (or_cases (literal_value t a) (clause_value t (b ∷ []))
          (subst (λ v. (not v || clause_value t (a ∷ b ∷ [])) ≡ true) on first)) [
            | inl h ↦ contained_true t a c has_a h
            | inr h ↦ elim (or_cases (literal_value t b) false h) [
              | inl m ↦ contained_true t b c has_b m
              | inr m ↦ absurd (false≢true m)
            ]
          ]
    ]

-- and a line of a log, where the two lines of the definition and the clause are live under their
-- names
pub replaced_line : (given : Given) (ls : List LogLine) (kind : Kind) (n z : ℕ) (a b : Literal)
    (c : List Literal) (first second third : Name) → is_delete kind ≡ false → n < 2 ^ 27
    → z < 2 ^ 27
    → IsFormulaClause n c → HasPair z a b c
    → ((base : ℕ) → IsBaseOf given base
    → (log_live given base ls (id_of base first) ≡ Some (side_clause z a))
    × (log_live given base ls (id_of base second) ≡ Some (side_clause z b))
    × (log_live given base ls (id_of base third) ≡ Some c))
    → IsRupLine given ls (record {
      kind = kind;
      clause = replaced z a b c;
      hints = Plain first ∷ Plain second ∷ Plain third ∷ [];
    })
replaced_line given ls kind n z a b c first second third adds few few_z f h live = record {
  adds = adds;
  no_repeat = replaced-no_repeat z a b c h f.no_repeat;
  no_tautology = replaced-no_tautology z a b c h f.no_tautology;
  small = replaced-small n z a b c few few_z f.small;
  plain = λ base. refl;
  refutes = λ base above. let l = live base above in
      replaced_refutes (log_live given base ls) z a b c (id_of base first) (id_of base second)
      (id_of base third) l.0 l.1 l.2 h;
}
