-- What may be added: a resolvent of two clauses of a formula, as a step.
use Rattle.std.proofs.Common.{◌≡◌, ℕ, true, false, not, List, [], ◌∷◌, ◌++◌, map, filter, Some, inl}
use Rattle.std.proofs.Common.{inr, refl, sym, ap, subst, arith, ◌<◌, ◌≤◌, ◌^◌}
use Rattle.std.proofs.lemmas.Bool.{not-true, or_parts, or_left, or_from, both_ways}
use Rattle.std.proofs.lemmas.Bool.{false_from_ne_true}
use Rattle.cnf.specs.Literal.{Literal, negation, literal_eq}
use Rattle.cnf.specs.Clause.{contains_literal, without_literal, has_repeat, is_tautology}
use Rattle.cnf.specs.Clause.{greatest_variable}
use Rattle.cnf.specs.Formula.{IsFormulaClause}
use Rattle.cnf.specs.Refute.{Refutes}
use Rattle.lrat_log.specs.declared.lines.Name.{Name}
use Rattle.lrat_log.specs.declared.lines.Kind.{Kind}
use Rattle.lrat_log.specs.declared.lines.Hint.TheVariants.{Plain}
use Rattle.lrat_log.specs.Log.{LogLine, Given, is_delete, id_of, leading_ids, group_ids}
use Rattle.lrat_log.specs.Steps.{IsBaseOf, log_live}
use Rattle.eliminate_names.specs.Work.{IsRupLine}
use Rattle.eliminate_tables.specs.Resolvents.{resolvent}
use Rattle.cnf.proofs.Laws.{literal_eq-refl}
use Rattle.eliminate_tables.proofs.Laws.{contains-either, resolvent_refutes}
use Rattle.cnf.proofs.Laws.{filter-contains}
use Rattle.eliminate.proofs.Falsified.{has_repeat-filter, AreFalseByUnits, unit_refutes}
use Rattle.eliminate.proofs.Falsified.{empty_refutes}
pub use Rattle.cnf.proofs.Laws.{greatest-filter, member-small}

has_repeat-append : (c d : List Literal) → has_repeat c ≡ false → has_repeat d ≡ false
    → ((k : Literal) → contains_literal k d ≡ true → contains_literal k c ≡ false)
    → has_repeat (c ++ d) ≡ false
has_repeat-append [] d rc rd apart = rd
has_repeat-append (l ∷ c) d rc rd apart =
    let h = or_parts (contains_literal l c) (has_repeat c) rc in
    or_from (contains_literal l (c ++ d)) (has_repeat (c ++ d))
    (false_from_ne_true (contains_literal l (c ++ d)) (λ e. elim (contains-either l c d e) [
      | inl m ↦ both_ways (contains_literal l c) h.0 m
      | inr m ↦ both_ways (contains_literal l (l ∷ c)) (apart l m)
          (or_left (literal_eq l l) (contains_literal l c) (literal_eq-refl l))
    ]))
    (has_repeat-append c d h.1 rd
    (λ k e. (or_parts (literal_eq k l) (contains_literal k c) (apart k e)).1))

pub resolvent-no_repeat : (p : Literal) (c d : List Literal) → has_repeat c ≡ false
    → has_repeat d ≡ false → has_repeat (resolvent p c d) ≡ false
resolvent-no_repeat p c d rc rd =
    let a : List Literal = without_literal p c in
    has_repeat-append a (filter (λ k. not (contains_literal k a)) (without_literal (negation p) d))
    (has_repeat-filter (λ k. not (literal_eq p k)) c rc)
    (has_repeat-filter (λ k. not (contains_literal k a)) (without_literal (negation p) d)
    (has_repeat-filter (λ k. not (literal_eq (negation p) k)) d rd))
    (λ k e. not-true (contains_literal k a) (filter-contains (λ k. not (contains_literal k a)) k
    (without_literal (negation p) d) e).1)

greatest-append : (c d : List Literal) (n : ℕ) → greatest_variable c ≤ n → greatest_variable d ≤ n
    → greatest_variable (c ++ d) ≤ n
greatest-append [] d n a b = b
greatest-append (k ∷ c) d n a b = let h : greatest_variable (c ++ d) ≤ n =
    greatest-append c d n (omega arith) b in omega arith

pub resolvent-small : (p : Literal) (c d : List Literal) (n : ℕ) → greatest_variable c ≤ n
    → greatest_variable d ≤ n → greatest_variable (resolvent p c d) ≤ n
resolvent-small p c d n a b =
    let w : List Literal = without_literal p c in
    let v : List Literal = without_literal (negation p) d in
    greatest-append w (filter (λ k. not (contains_literal k w)) v) n
    (omega (arith, greatest-filter (λ k. not (literal_eq p k)) c))
    (omega (
      arith,
      greatest-filter (λ k. not (contains_literal k w)) v,
      greatest-filter (λ k. not (literal_eq (negation p) k)) d,
    ))

-- and its line one of a log, where the parents are live under their names
pub resolvent_line : (given : Given) (ls : List LogLine) (kind : Kind) (n : ℕ) (p : Literal)
    (c d : List Literal) (first second : Name) → is_delete kind ≡ false → n < 2 ^ 27
    → IsFormulaClause n c → IsFormulaClause n d
    → contains_literal p c ≡ true → contains_literal (negation p) d ≡ true
    → is_tautology (resolvent p c d) ≡ false
    → ((base : ℕ) → IsBaseOf given base → (log_live given base ls (id_of base first) ≡ Some c)
    × (log_live given base ls (id_of base second) ≡ Some d))
    → IsRupLine given ls (record {
      kind = kind;
      clause = resolvent p c d;
      hints = Plain first ∷ Plain second ∷ [];
    })
resolvent_line given ls kind n p c d first second adds few fc fd has has_not plain live = record {
  adds = adds;
  no_repeat = resolvent-no_repeat p c d fc.no_repeat fd.no_repeat;
  no_tautology = plain;
  small = omega (arith, resolvent-small p c d n fc.small fd.small);
  plain = λ base. refl;
  refutes = λ base above. let l = live base above in
      resolvent_refutes (log_live given base ls) p c d (id_of base first) (id_of base second)
      (record {
        first = l.0;
        second = l.1;
        has = has;
        has_not = has_not;
        plain = fc.no_tautology;
        plain_too = fd.no_tautology;
      });
}

plain_ids : (base : ℕ) (f : Literal → Name) (ks : List Literal) (m : Name)
    → leading_ids base (map (λ k. Plain (f k)) ks ++ Plain m ∷ []) ≡ map (λ k. id_of base (f k)) ks
    ++ id_of base m ∷ []
plain_ids base f [] m = refl
plain_ids base f (k ∷ ks) m = ap (λ x. id_of base (f k) ∷ x) (plain_ids base f ks m)

no_groups : (base : ℕ) (f : Literal → Name) (ks : List Literal) (m : Name)
    → group_ids base (map (λ k. Plain (f k)) ks ++ Plain m ∷ []) ≡ []
no_groups base f [] m = refl
no_groups base f (k ∷ ks) m = no_groups base f ks m

-- the line of a unit: the names of the unit clauses that make the others false, and then the
-- clause's
pub unit_line : (given : Given) (ls : List LogLine) (kind : Kind) (n : ℕ) (l : Literal)
    (c : List Literal) (unit_name : Literal → Name) (name : Name) → is_delete kind ≡ false
    → n < 2 ^ 27 → IsFormulaClause n c
    → contains_literal l c ≡ true
    → ((base : ℕ) → IsBaseOf given base → (log_live given base ls (id_of base name) ≡ Some c)
    × AreFalseByUnits (log_live given base ls) (λ k. id_of base (unit_name k))
    (without_literal l c))
    → IsRupLine given ls
    (record {
      kind = kind;
      clause = l ∷ [];
      hints = map (λ k. Plain (unit_name k)) (without_literal l c) ++ Plain name ∷ [];
    })
unit_line given ls kind n l c unit_name name adds few f has live = record {
  adds = adds;
  no_repeat = refl;
  no_tautology = refl;
  small = omega (arith, f.small, member-small l c has);
  plain = λ base. no_groups base unit_name (without_literal l c) name;
  refutes = λ base above. let w = live base above in
      subst (λ x. Refutes (log_live given base ls) (map negation (l ∷ [])) x)
      (sym (plain_ids base unit_name (without_literal l c) name))
      (unit_refutes (log_live given base ls) (λ k. id_of base (unit_name k)) l c (id_of base name)
      w.0 has f.no_repeat f.no_tautology w.1);
}

-- the line of the empty clause, where unit clauses make all literals false
pub empty_line : (given : Given) (ls : List LogLine) (kind : Kind) (n : ℕ) (c : List Literal)
    (unit_name : Literal → Name) (name : Name) → is_delete kind ≡ false → IsFormulaClause n c
    → ((base : ℕ) → IsBaseOf given base → (log_live given base ls (id_of base name) ≡ Some c)
    × AreFalseByUnits (log_live given base ls) (λ k. id_of base (unit_name k)) c)
    → IsRupLine given ls
    (record {
      kind = kind;
      clause = [];
      hints = map (λ k. Plain (unit_name k)) c ++ Plain name ∷ [];
    })
empty_line given ls kind n c unit_name name adds f live = record {
  adds = adds;
  no_repeat = refl;
  no_tautology = refl;
  small = omega arith;
  plain = λ base. no_groups base unit_name c name;
  refutes = λ base above. let w = live base above in
      subst (λ x. Refutes (log_live given base ls) (map negation []) x)
      (sym (plain_ids base unit_name c name))
      (empty_refutes (log_live given base ls) (λ k. id_of base (unit_name k)) c (id_of base name)
      w.0 f.no_repeat f.no_tautology w.1);
}
