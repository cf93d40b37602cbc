-- One more clause is given to a log that stands.
use Rattle.std.proofs.Common.{◌≡◌, ◌≢◌, ℕ, zero, suc, ◌+◌, ◌<◌, ◌≤◌, false, List, [], ◌∷◌, ◌++◌}
use Rattle.std.proofs.Common.{length, Some, None, inl, inr, refl, sym, ◌∙◌, ap, subst, arith}
use Rattle.std.proofs.Common.{append_assoc}
use Rattle.std.specs.Prelude.{◌==◌, nat_eq, if◌then◌else◌, All}
use Rattle.std.specs.List.{AllByRecursion, list_any}
use Rattle.std.proofs.lemmas.Bool.{cases_Bool, cases_eq, eqb-true, eq-eqb, ne_eqb, cond-false}
use Rattle.std.proofs.lemmas.Bool.{cond-true, or_from, both_ways}
use Rattle.std.proofs.lemmas.List.{append-nil, get_or_append_left, get_or_at, length_push}
use Rattle.std.proofs.lemmas.List.Elements.{All-cons, All-nil}
use Rattle.std.proofs.lemmas.Option.{none-some, same_Some}
use Rattle.cnf.specs.Literal.{Literal}
use Rattle.cnf.specs.Clause.{greatest_variable}
use Rattle.cnf.specs.Refute.{Clauses}
use Rattle.cnf.specs.Lrat.{ProofLine, Addition, Deletion, Live, with_clause, without_ids}
use Rattle.clauses.specs.Slots.{Slots, clause_at}
use Rattle.lrat_log.specs.declared.lines.Name.{Name}
use Rattle.lrat_log.specs.declared.lines.Name.TheVariants.{Formula, Added}
use Rattle.lrat_log.specs.Log.{LogLine, Given, given_at, start_over, id_of, numbered_lines}
use Rattle.lrat_log.specs.Steps.{live_after, log_live, IsBaseOf, IsLogOver, StaysLogOver}
use Rattle.lrat_log.specs.Axioms.{OpenChain, IsOpenLogOver, StaysOpenLogOver}
use Rattle.cdcl_search.specs.Invariant.{name_at, NamesWhatIsLive, NamesStore}
use Rattle.lrat_log.proofs.Laws.{base_more}
use Rattle.lrat_log.proofs.Laws.{base_front, LiveChain, live_chain}
use Rattle.cdcl_search.proofs.Places.{live_within, clause_kept, clause_cases}
use Rattle.clauses.proofs.Laws.{clause_new}

-- what stays where clauses are given later
stays_given : (P : Given → Type 0) (variables : ℕ) (given : Given) (n : Name) (c : List Literal)
    → greatest_variable c ≤ variables
    → ((more : Given) → All (λ g. greatest_variable g.1 ≤ variables) more → P (given ++ more))
    → (more : Given) → All (λ g. greatest_variable g.1 ≤ variables) more
    → P ((given ++ (n, c) ∷ []) ++ more)
stays_given P variables given n c small stays more later =
    subst P (sym (append_assoc given ((n, c) ∷ []) more))
    (stays ((n, c) ∷ more) (All-cons (λ g. greatest_variable g.1 ≤ variables) (
      n,
      c,
    ) more small later))

-- a log, and one that takes clauses from outside
pub log_given : (variables : ℕ) (given : Given) (n : Name) (c : List Literal) (ls : List LogLine)
    → greatest_variable c ≤ variables → StaysLogOver variables given ls
    → StaysLogOver variables (given ++ (n, c) ∷ []) ls
log_given variables given n c ls small stays =
    stays_given (λ g. IsLogOver g ls) variables given n c small stays

pub open_given : (variables : ℕ) (given : Given) (n : Name) (c : List Literal) (ls : List LogLine)
    → greatest_variable c ≤ variables → StaysOpenLogOver variables given ls
    → StaysOpenLogOver variables (given ++ (n, c) ∷ []) ls
open_given variables given n c ls small stays =
    stays_given (λ g. IsOpenLogOver g ls) variables given n c small stays

pub base_last : (given : Given) (i : ℕ) (c : List Literal) (base : ℕ)
    → IsBaseOf (given ++ (Formula i, c) ∷ []) base → i ≤ base
base_last [] i c base h = h 0 (Formula i, c) (omega arith)
base_last (g ∷ given) i c base h = base_last given i c base (λ k d lt. h (suc k) d (omega arith))

-- a base of what was given, and of one more
base_push : (given : Given) (i : ℕ) (c : List Literal) (a : ℕ) → i ≤ a → IsBaseOf given a
    → IsBaseOf (given ++ (Formula i, c) ∷ []) a
base_push [] i c a h b zero d lt = h
base_push [] i c a h b (suc k) d lt = absurd (omega arith)
base_push (g ∷ given) i c a h b zero d lt = b 0 d (omega arith)
base_push (g ∷ given) i c a h b (suc k) d lt =
    base_push given i c a h (λ j x l. b (suc j) x (omega arith)) k d (omega arith)

pub based_given : (given : Given) (i : ℕ) (c : List Literal) → (base : ℕ) × IsBaseOf given base
    → (base : ℕ) × IsBaseOf (given ++ (Formula i, c) ∷ []) base
based_given given i c (base, b) = (
  base + i,
  base_push given i c (base + i) (omega arith)
      (base_more given base (base + i) (omega arith) b),
)

-- the clauses given
abbrev and_one : ℕ → List Literal → Clauses → Clauses
and_one i c at j = if j == i then Some c else at j

given_one : (given : Given) (i : ℕ) (c : List Literal) → given_at given i ≡ None → (j : ℕ)
    → given_at (given ++ (Formula i, c) ∷ []) j ≡ and_one i c (given_at given) j
given_one [] i c e j = elim (cases_eq i j) [
  | inl s ↦
      cond-true (i == j) (Some c) None (eq-eqb i j s) ∙ sym
      (cond-true (j == i) (Some c) None (eq-eqb j i (sym s)))
  | inr s ↦
      cond-false (i == j) (Some c) None (ne_eqb i j s) ∙ sym
      (cond-false (j == i) (Some c) None (ne_eqb j i (λ t. s (sym t))))
]
given_one ((Formula n, d) ∷ given) i c e j = elim (cases_Bool (n == i)) [
  | inl s ↦ absurd (none-some d (sym (rw s at e)))
  | inr s ↦
      let rest = given_one given i c (rw s at e) j in
      elim (cases_Bool (n == j)) [
        | inl t ↦
            let other : (j == i) ≡ false =
            ne_eqb j i (λ u. both_ways _ s (eq-eqb n i (eqb-true n j t ∙ u))) in
            rw (t, other) refl
        | inr t ↦ rw t rest
      ]
]
given_one ((Added n, d) ∷ given) i c e j = given_one given i c e j

-- no line speaks of a clause that was not given yet
not_named : (at : Clauses) (i : ℕ) (ids : List ℕ) → at i ≡ None
    → AllByRecursion (λ k. (c : List Literal) × (at k ≡ Some c)) ids
    → list_any (nat_eq i) ids ≡ false
not_named at i [] e h = refl
not_named at i (k ∷ ids) e h =
    or_from (nat_eq i k) (list_any (nat_eq i) ids)
    (ne_eqb i k (λ s. none-some h.0.0 (sym e ∙ ap at s ∙ h.0.1))) (not_named at i ids e h.1)

abbrev HasOneMore : ℕ → List Literal → Clauses → Clauses → Type 0
HasOneMore i c at bt = (at i ≡ None) × ((j : ℕ) → bt j ≡ and_one i c at j)

one_with : (i : ℕ) (c : List Literal) (old new : Live) (id : ℕ) (d : List Literal) → i < id
    → HasOneMore i c old.clause_at new.clause_at
    → HasOneMore i c (with_clause old id d).clause_at (with_clause new id d).clause_at
one_with i c old new id d below h = (
  cond-false (i == id) (Some d) (old.clause_at i) (ne_eqb i id (λ s. absurd (omega arith))) ∙ h.0,
  λ j. elim (cases_Bool (j == id)) [
    | inl t ↦
        let other : (j == i) ≡ false =
        (let s = eqb-true j id t in ne_eqb j i (λ u. absurd (omega arith))) in
        rw (t, other) refl
    | inr t ↦ rw t (h.1 j)
  ],
)

one_without : (i : ℕ) (c : List Literal) (old new : Live) (ids : List ℕ)
    → list_any (nat_eq i) ids ≡ false → HasOneMore i c old.clause_at new.clause_at
    → HasOneMore i c (without_ids old ids).clause_at (without_ids new ids).clause_at
one_without i c old new ids out h = (
  cond-false (list_any (nat_eq i) ids) None (old.clause_at i) out ∙ h.0,
  λ j. elim (cases_Bool (list_any (nat_eq j) ids)) [
    | inl t ↦
        let other : (j == i) ≡ false =
        ne_eqb j i (λ u. both_ways _ out (ap (λ k. list_any (nat_eq k) ids) (sym u) ∙ t)) in
        rw (t, other) refl
    | inr t ↦ rw t (h.1 j)
  ],
)

one_after : (i : ℕ) (c : List Literal) (ls : List ProofLine) (old new left : Live)
    → LiveChain old ls left → i ≤ old.last → HasOneMore i c old.clause_at new.clause_at
    → HasOneMore i c (live_after old ls).clause_at (live_after new ls).clause_at
one_after i c [] old new left w low h = h
one_after i c (Addition id d hints groups ∷ ls) old new left w low h =
    let above = w.1.0.rising in
    one_after i c ls (with_clause old id d) (with_clause new id d) left
    (subst (λ x. LiveChain x ls left) w.1.1 w.2) (omega arith)
    (one_with i c old new id d (omega arith) h)
one_after i c (Deletion lead ids ∷ ls) old new left w low h =
    one_after i c ls (without_ids old ids) (without_ids new ids) left
    (subst (λ x. LiveChain x ls left) w.1.2 w.2) low
    (one_without i c old new ids (not_named old.clause_at i ids h.0 w.1.1) h)

pub live_given : (given : Given) (i : ℕ) (c : List Literal) (base : ℕ) (ls : List LogLine)
    → given_at given i ≡ None → i ≤ base
    → OpenChain base 0 (start_over given base) ls
    (live_after (start_over given base) (numbered_lines base ls))
    → HasOneMore i c (log_live given base ls) (log_live (given ++ (Formula i, c) ∷ []) base ls)
live_given given i c base ls fresh low steps =
    one_after i c (numbered_lines base ls) (start_over given base)
    (start_over (given ++ (Formula i, c) ∷ []) base)
    (live_after (start_over given base) (numbered_lines base ls))
    (live_chain base 0 (start_over given base)
    (live_after (start_over given base) (numbered_lines base ls)) ls steps) low
    (fresh, given_one given i c fresh)

-- the clause comes to the store under its name
module _ (slots : Slots) (names : List Name) (given : Given) (ls : List LogLine) (i : ℕ)
    (c : List Literal) (variables : ℕ)
    (fresh : given_at given i ≡ None) (stays : StaysOpenLogOver variables given ls)
    (old : NamesStore slots names given ls) where
  abbrev more : Given
  more = given ++ (Formula i, c) ∷ []

  abbrev all_names : List Name
  all_names = names ++ Formula i ∷ []

  first_names : (r : ℕ) (d : List Literal) → clause_at slots r ≡ Some d
      → name_at all_names r ≡ name_at names r
  first_names r d e =
      let k = live_within slots r d e in
      get_or_append_left names (Formula i ∷ []) (Formula 0) r (omega (arith, old.as_many))

  name_here : (r : ℕ) → r ≡ length slots → name_at all_names r ≡ Formula i
  name_here r e = get_or_at names (Formula i) [] (Formula 0) r (omega (arith, old.as_many))

  module _ (base : ℕ) (above : IsBaseOf more base) where
    front : IsBaseOf given base
    front = base_front given ((Formula i, c) ∷ []) base above

    one : HasOneMore i c (log_live given base ls) (log_live more base ls)
    one =
        let same : given ++ [] ≡ given = append-nil given in
        let log : IsOpenLogOver given ls =
        subst (λ g. IsOpenLogOver g ls) same
        (stays [] (All-nil (λ g. greatest_variable g.1 ≤ variables))) in
        live_given given i c base ls fresh (base_last given i c base above) (log.steps base front)

    n : NamesWhatIsLive slots names base (log_live given base ls)
    n = old.live base front

    other_id : (r : ℕ) (d : List Literal) → clause_at slots r ≡ Some d
        → id_of base (name_at names r) ≢ i
    other_id r d e s = none-some d (sym one.0 ∙ ap (log_live given base ls) (sym s) ∙ n.named r d e)

    id_first : (r : ℕ) (d : List Literal) → clause_at slots r ≡ Some d
        → id_of base (name_at all_names r) ≡ id_of base (name_at names r)
    id_first r d e = ap (id_of base) (first_names r d e)

    id_here : (r : ℕ) → r ≡ length slots → id_of base (name_at all_names r) ≡ i
    id_here r e = ap (id_of base) (name_here r e)

    live_more_given : NamesWhatIsLive (slots ++ Some c ∷ []) all_names base (log_live more base ls)
    live_more_given = record {
      named =
          λ r d e. elim (clause_cases slots c r d e)
          as (λ _. log_live more base ls (id_of base (name_at all_names r)) ≡ Some d) [
            | inl h ↦
                ap (log_live more base ls) (id_first r d h) ∙ one.1 (id_of base (name_at names r))
                ∙ cond-false (id_of base (name_at names r) == i) (Some c)
                (log_live given base ls (id_of base (name_at names r)))
                (ne_eqb _ i (other_id r d h))
                ∙ n.named r d h
            | inr h ↦
                ap (log_live more base ls) (id_here r h.0) ∙ one.1 i ∙ cond-true (i == i) (Some c)
                (log_live given base ls i) (eq-eqb i i refl) ∙ ap Some (sym h.1)
          ];
      only =
          λ j d e. elim (cases_Bool (j == i)) as (λ _. (r : ℕ)
          × (clause_at (slots ++ Some c ∷ []) r ≡ Some d)
          × (id_of base (name_at all_names r) ≡ j)) [
            | inl t ↦
                let same : c ≡ d =
                same_Some c d (sym (cond-true (j == i) (Some c) (log_live given base ls j) t)
                ∙ sym (one.1 j) ∙ e) in (
                  length slots,
                  clause_new slots c ∙ ap Some same,
                  id_here (length slots) refl
                      ∙ sym (eqb-true j i t),
                )
            | inr t ↦
                let w = n.only j d (sym (cond-false (j == i) (Some c) (log_live given base ls j) t)
                ∙ sym (one.1 j) ∙ e) in
                (w.0, clause_kept slots c d w.0 w.1, id_first w.0 d w.1 ∙ w.2)
          ];
      apart = λ q r h k e. elim (clause_cases slots c q h.0 h.1) as (λ _. q ≡ r) [
        | inl a ↦ elim (clause_cases slots c r k.0 k.1) as (λ _. q ≡ r) [
          | inl b ↦ n.apart q r (h.0, a) (k.0, b) (sym (id_first q h.0 a) ∙ e ∙ id_first r k.0 b)
          | inr b ↦ absurd (other_id q h.0 a (sym (id_first q h.0 a) ∙ e ∙ id_here r b.0))
        ]
        | inr a ↦ elim (clause_cases slots c r k.0 k.1) as (λ _. q ≡ r) [
          | inl b ↦ absurd (other_id r k.0 b (sym (id_first r k.0 b) ∙ sym e ∙ id_here q a.0))
          | inr b ↦ a.0 ∙ sym b.0
        ]
      ];
    }

  pub names_given : NamesStore (slots ++ Some c ∷ []) (names ++ Formula i ∷ [])
      (given ++ (Formula i, c) ∷ []) ls
  names_given = record {
    as_many = length_push names (Formula i) ∙ ap (λ k. k + 1) old.as_many ∙ sym
        (length_push slots (Some c));
    live = live_more_given;
  }
