-- A learned line: it is a step, what it adds is new, and it follows by hints alone.
use Rattle.std.proofs.Common.{◌≡◌, ℕ, ◌<◌, true, false, List, [], ◌∷◌, ◌++◌, map, Some, inl, inr}
use Rattle.std.proofs.Common.{refl, sym, ◌∙◌, ap, subst}
use Rattle.std.proofs.lemmas.Bool.{cases_Bool, both_ways, or_left, or_right, or_cases, or_from}
use Rattle.std.proofs.lemmas.Bool.{or_parts}
use Rattle.std.proofs.lemmas.List.Elements.{recursion_from_All}
use Rattle.cnf.specs.Literal.{Literal, negation, literal_eq}
use Rattle.cnf.specs.Clause.{contains_literal, has_repeat, is_tautology, is_subset}
use Rattle.cnf.specs.Refute.{Clauses, Refutes, IsFalseUnder}
use Rattle.cnf.proofs.Laws.{literal_eq-true, contains-append, contains_front, contains_back}
use Rattle.clauses.specs.Slots.{Slots, clause_at}
use Rattle.propagate.specs.Trail.{Assigned, literals_of, depth_of, kept_to, HasReasons, level_of}
use Rattle.propagate.proofs.Laws.{negation_twice}
use Rattle.cnf.proofs.Laws.{literal_eq-refl, all_at, contains_negation}
use Rattle.propagate.proofs.Laws.{kept_prefix, literals-append}
use Rattle.propagate.proofs.Laws.{NoTautology, no_tautology}
use Rattle.lrat_log.specs.declared.lines.Name.{Name}
use Rattle.lrat_log.specs.Log.{LogLine, Given, is_delete, id_of, leading_ids, group_ids}
use Rattle.lrat_log.specs.Steps.{log_live, IsNewTo, IsByRup, nothing_exempt}
use Rattle.analyze.specs.Analyzer.{IsAsserting, IsRefutedBy}
use Rattle.clauses.specs.Within.{Within}
use Rattle.cdcl_search.specs.Invariant.{NamesWhatIsLive, NamesStore, name_at, zero_of}
use Rattle.lrat_log.specs.Axioms.{IsNewClause}
use Rattle.cdcl_search.proofs.LogLines.{AddsByHints, leading-plain, groups-plain}
use Rattle.cdcl_search.proofs.Named.{refutes_named}
use Rattle.cdcl_search.specs.Hinting.{plain_hints, Serves, AreUnits}
use Rattle.cdcl_search.proofs.Zero.{AreOpen, refutes_served, refutes_after_units}
use Rattle.analyze.proofs.Laws.{open_below}

pub new_to_log : (slots : Slots) (names : List Name) (base : ℕ) (at : Clauses) (c : List Literal)
    → NamesWhatIsLive slots names base at
    → ((r : ℕ) (d : List Literal) → clause_at slots r ≡ Some d → is_subset d c ≡ false)
    → IsNewTo nothing_exempt at c
new_to_log slots names base at c n new i d none e = let w = n.only i d e in new w.0 d w.1

pub by_rup : (base : ℕ) (at : Clauses) (l : LogLine) (ns : List Name) → l.hints ≡ plain_hints ns
    → Refutes at (map negation l.clause) (map (id_of base) ns) → IsByRup base at l
by_rup base at l ns e r = (
  ap (group_ids base) e ∙ groups-plain base ns,
  subst (Refutes at (map negation l.clause))
      (sym (ap (leading_ids base) e ∙ leading-plain base ns)) r,
)

-- the clause has no complementary literals, since all of it is false
pub no_tautology_false : (c A : List Literal) → NoTautology A → IsFalseUnder c A
    → is_tautology c ≡ false
no_tautology_false [] A n f = refl
no_tautology_false (l ∷ c) A n f =
    or_from (contains_literal (negation l) c) (is_tautology c)
    (elim (cases_Bool (contains_literal (negation l) c))
    as (λ _. contains_literal (negation l) c ≡ false) [
      | inl t ↦ absurd (n (negation l) f.0 (all_at (λ k. contains_literal (negation k) A ≡ true) c
          (negation l) f.1 t))
      | inr e ↦ e
    ])
    (no_tautology_false c A n f.1)

-- all of what is learned is above level 0
above_zero : (T : List Assigned) (c : List Literal) (back : ℕ) (k : Literal) → IsAsserting T c back
    → 0 < depth_of T → contains_literal k c ≡ true → 0 < level_of T k
above_zero T c back k w deep m =
    elim (or_cases (literal_eq k w.first) (contains_literal k w.others)
    (sym (ap (contains_literal k) w.split) ∙ m)) [
      | inl s ↦
          subst (λ x. 0 < x) (sym (ap (level_of T) (literal_eq-true k w.first s) ∙ w.current)) deep
      | inr o ↦
          all_at (λ l. 0 < level_of T l) w.others k
          (recursion_from_All (λ l. 0 < level_of T l) w.others w.above_zero) o
    ]

pub kept_in : (T : List Assigned) (z : Literal) → contains_literal z (zero_of T) ≡ true
    → contains_literal z (literals_of T) ≡ true
kept_in T z m =
    let w = kept_prefix 0 T in
    ap (contains_literal z) (ap literals_of w.1 ∙ literals-append (kept_to 0 T) w.0)
    ∙ contains_front z (zero_of T) (literals_of w.0) m

-- what is true at level 0 is open under the negation of what is learned
pub zero_open : (T : List Assigned) (c : List Literal) (back : ℕ) (z : Literal)
    → NoTautology (literals_of T) → IsAsserting T c back → 0 < depth_of T
    → contains_literal z (zero_of T) ≡ true
    → (contains_literal z (map negation c) ≡ false)
    × (contains_literal (negation z) (map negation c) ≡ false)
zero_open T c back z apart w deep at_zero =
    let wrong : (k : Literal) → contains_literal k c ≡ true
    → contains_literal (negation k) (literals_of T) ≡ true =
    λ k m. all_at (λ l. contains_literal (negation l) (literals_of T) ≡ true) c k w.falsified m in (
      contains_negation z c
          ∙ elim (cases_Bool (contains_literal (negation z) c))
          as (λ _. contains_literal (negation z) c ≡ false) [
            | inr e ↦ e
            | inl t ↦
                let o =
                open_below T (negation z) 0 (wrong (negation z) t)
                (above_zero T c back (negation z) w deep t) in
                absurd (both_ways _ o.1 (ap (λ x. contains_literal x (zero_of T)) (negation_twice z)
                ∙ at_zero))
          ],
      contains_negation (negation z) c
          ∙ elim (cases_Bool (contains_literal (negation (negation z)) c))
          as (λ _. contains_literal (negation (negation z)) c ≡ false) [
            | inr e ↦ e
            | inl t ↦
                let z_in : contains_literal z c ≡ true =
                ap (λ x. contains_literal x c) (sym (negation_twice z)) ∙ t in
                absurd (apart z (kept_in T z at_zero) (wrong z z_in))
          ],
    )

-- literals that are open one by one, apart and without complementary literals, are open one after
-- another
pub open_all : (A zs : List Literal)
    → ((z : Literal) → contains_literal z zs ≡ true → (contains_literal z A ≡ false)
    × (contains_literal (negation z) A ≡ false))
    → has_repeat zs ≡ false → NoTautology zs → AreOpen A zs
open_all A [] each once apart = tt
open_all A (z ∷ zs) each once apart =
    let parts = or_parts (contains_literal z zs) (has_repeat zs) once in
    let here = each z (or_left (literal_eq z z) (contains_literal z zs) (literal_eq-refl z)) in (
      here.0,
      here.1,
      open_all (z ∷ A) zs
          (λ y m.
          let o = each y (or_right (literal_eq y z) (contains_literal y zs) m) in (
            or_from (literal_eq y z) (contains_literal y A)
                (elim (cases_Bool (literal_eq y z)) as (λ _. literal_eq y z ≡ false) [
                  | inr e ↦ e
                  | inl t ↦ absurd (both_ways _ parts.0
                      (ap (λ x. contains_literal x zs) (sym (literal_eq-true y z t)) ∙ m))
                ]) o.0,
            or_from (literal_eq (negation y) z) (contains_literal (negation y) A)
                (elim (cases_Bool (literal_eq (negation y) z))
                as (λ _. literal_eq (negation y) z ≡ false) [
                  | inr e ↦ e
                  | inl t ↦ absurd (apart y (or_right (literal_eq y z) (contains_literal y zs) m)
                      (or_left (literal_eq (negation y) z) (contains_literal (negation y) zs) t))
                ]) o.1,
          ))
          parts.1
          (λ y m n. apart y (or_right (literal_eq y z) (contains_literal y zs) m)
          (or_right (literal_eq (negation y) z) (contains_literal (negation y) zs) n)),
    )

within_front : (A B C : List Literal) → Within B C → Within (A ++ B) (A ++ C)
within_front A B C w l m =
    elim (or_cases (contains_literal l A) (contains_literal l B)
    (sym (contains-append l A B) ∙ m)) [
      | inl a ↦ contains_front l A C a
      | inr b ↦ contains_back l A C (w l b)
    ]

-- the hints of an analysis, after the unit clauses of the literals of level 0 that they need
pub refutes_alone : (slots : Slots) (T : List Assigned) (c : List Literal) (back : ℕ)
    (hints us : List ℕ) (zs : List Literal)
    → HasReasons (clause_at slots) [] T → IsAsserting T c back → 0 < depth_of T
    → IsRefutedBy slots T c hints → Within zs (zero_of T) → has_repeat zs ≡ false
    → AreUnits (clause_at slots) us zs
    → Serves (clause_at slots) (map negation c ++ zero_of T) (map negation c ++ zs) hints
    → Refutes (clause_at slots) (map negation c) (us ++ hints)
refutes_alone slots T c back hints us zs reasons w deep refutes within once units serves =
    let apart = no_tautology (clause_at slots) T reasons in
    let A : List Literal = map negation c in
    refutes_after_units (clause_at slots) A us zs hints units
    (open_all A zs (λ z m. zero_open T c back z apart w deep (within z m)) once
    (λ z m n. apart z (kept_in T z (within z m))
    (kept_in T (negation z) (within (negation z) n))))
    (refutes_served (clause_at slots) (A ++ zero_of T) (A ++ zs) hints
    (within_front A zs (zero_of T) within) serves refutes)

-- so the line is a step
pub adds_learned : (slots : Slots) (names : List Name) (given : Given) (ls : List LogLine)
    (l : LogLine) (hints : List ℕ)
    → NamesStore slots names given ls
    → is_delete l.kind ≡ false → l.hints ≡ plain_hints (map (name_at names) hints)
    → IsNewClause l.clause → Refutes (clause_at slots) (map negation l.clause) hints
    → AddsByHints given ls l
adds_learned slots names given ls l hints n adds plain new r = record {
  names = map (name_at names) hints;
  adds = adds;
  plain = plain;
  clause = new;
  refutes =
      λ base above. refutes_named slots names base (log_live given base ls) (n.live base above)
      (map negation l.clause) hints r;
}
