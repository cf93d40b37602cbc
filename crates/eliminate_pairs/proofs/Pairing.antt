-- The moves by which a pair gets a fresh variable: each keeps what is right of the work in hand.
use Rattle.std.proofs.Common.{◌≡◌, ◌≢◌, ℕ, ◌+◌, ◌<◌, ◌≤◌, ◌^◌, true, false, List, [], ◌∷◌, ◌++◌}
use Rattle.std.proofs.Common.{Some, None, ◌⊎◌, ◌==◌, inl, inr, refl, sym, ◌∙◌, ap, subst, arith}
use Rattle.std.specs.Prelude.{if◌then◌else◌, nat_eq, All}
use Rattle.std.specs.List.{list_any}
use Rattle.std.proofs.lemmas.Bool.{both_ways}
use Rattle.std.proofs.lemmas.List.Elements.{All-nil, All-cons, All-head, All-tail, All-push}
use Rattle.std.proofs.lemmas.Option.{same_Some, none-some}
use Rattle.cnf.specs.Literal.{Literal, negation}
use Rattle.cnf.specs.Clause.{contains_literal, greatest_variable}
use Rattle.cnf.specs.Lrat.{ProofLine, Addition, Deletion, Live, with_clause, without_ids}
use Rattle.cnf.proofs.Laws.{absent_above}
use Rattle.clauses.specs.Slots.{Slots, clause_at}
use Rattle.lrat_log.specs.declared.lines.Name.{Name}
use Rattle.lrat_log.specs.declared.lines.Name.TheVariants.{Formula, Added}
use Rattle.lrat_log.specs.declared.lines.Hint.TheVariants.{Group}
use Rattle.lrat_log.specs.Log.{LogLine, Given, id_of, given_at, start_over, numbered_lines}
use Rattle.lrat_log.specs.Steps.{live_after, log_live, IsBaseOf, StaysLogOver, AddsNoEmptyClause}
use Rattle.lrat_log.specs.Steps.{IsOwnGroup}
use Rattle.lrat_log.specs.Steps.{added_count}
use Rattle.eliminate_names.specs.Work.{name_at, IsNamed}
use Rattle.eliminate_pairs.specs.Pairs.{positive, whole_clause, side_clause, whole_line, side_line}
use Rattle.lrat_log.proofs.Laws.{live_more, base_front, stops_push}
use Rattle.lrat_log.proofs.Laws.{last_numbered}
use Rattle.eliminate_names.proofs.Laws.{log_steps_more}
use Rattle.eliminate_pairs.proofs.Definitions.{IsFreshIn, IsPairFor, first_addable, side_addable}
use Rattle.eliminate_pairs.proofs.Definitions.{first_rat}
use Rattle.eliminate_pairs.proofs.Definitions.{side_rat}

-- what is live where more is given is live without, or is something of P
from_start : (P : List Literal → Type 0) (one two : Live) (ls : List ProofLine)
    → ((i : ℕ) (d : List Literal) → two.clause_at i ≡ Some d → (one.clause_at i ≡ Some d) ⊎ P d)
    → (i : ℕ) (d : List Literal) → (live_after two ls).clause_at i ≡ Some d
    → ((live_after one ls).clause_at i ≡ Some d) ⊎ P d
from_start P one two [] h = h
from_start P one two (Addition id c hints groups ∷ ls) h =
    from_start P (with_clause one id c) (with_clause two id c) ls (λ i d e.
    elim (i == id) as (λ b. (if b then Some c else two.clause_at i) ≡ Some d
    → ((if b then Some c else one.clause_at i) ≡ Some d) ⊎ P d) [
      | true ↦ λ x. inl x
      | false ↦
          λ x. h i d x
    ] e)
from_start P one two (Deletion lead ids ∷ ls) h =
    from_start P (without_ids one ids) (without_ids two ids) ls (λ i d e.
    elim (list_any (nat_eq i) ids) as (λ b. (if b then None else two.clause_at i) ≡ Some d
    → ((if b then None else one.clause_at i) ≡ Some d) ⊎ P d) [
      | true ↦ λ x. inl x
      | false ↦
          λ x. h i d x
    ] e)

from_given : (P : List Literal → Type 0) (more : Given) → All (λ g. P g.1) more
    → (i : ℕ) (d : List Literal) → given_at more i ≡ Some d → P d
from_given P [] all i d e = absurd (none-some d e)
from_given P ((Formula n, c) ∷ more) all i d e =
    elim (n == i) as (λ b. (if b then Some c else given_at more i) ≡ Some d → P d) [
      | true ↦ λ x. subst P (same_Some c d x) (All-head (λ g. P g.1) (Formula n, c) more all)
      | false ↦ λ x. from_given P more (All-tail (λ g. P g.1) (Formula n, c) more all) i d x
    ] e
from_given P ((Added n, c) ∷ more) all i d e =
    from_given P more (All-tail (λ g. P g.1) (Added n, c) more all) i d e

given_either : (P : List Literal → Type 0) (given more : Given) → All (λ g. P g.1) more
    → (i : ℕ) (d : List Literal) → given_at (given ++ more) i ≡ Some d
    → (given_at given i ≡ Some d) ⊎ P d
given_either P [] more all i d e = inr (from_given P more all i d e)
given_either P ((Formula n, c) ∷ given) more all i d e =
    elim (n == i) as (λ b. (if b then Some c else given_at (given ++ more) i) ≡ Some d
    → ((if b then Some c else given_at given i) ≡ Some d) ⊎ P d) [
      | true ↦ λ x. inl x
      | false ↦ λ x. given_either P given more all i d x
    ] e
given_either P ((Added n, c) ∷ given) more all i d e = given_either P given more all i d e

-- so what is live after a log, where more clauses on few variables are given, is live in the store
-- or has few variables
live_either : (first : ℕ) (given more : Given) (base : ℕ) (ls : List LogLine)
    → All (λ g. greatest_variable g.1 ≤ first) more
    → (i : ℕ) (d : List Literal) → log_live (given ++ more) base ls i ≡ Some d
    → (log_live given base ls i ≡ Some d) ⊎ (greatest_variable d ≤ first)
live_either first given more base ls all =
    from_start (λ d. greatest_variable d ≤ first) (start_over given base)
    (start_over (given ++ more) base) (numbered_lines base ls)
    (given_either (λ d. greatest_variable d ≤ first) given more all)

-- a clause of few variables lacks the fresh one
pub lacks_both : (z : ℕ) (d : List Literal) → greatest_variable d < z
    → (contains_literal (positive z) d ≡ false)
    × (contains_literal (negation (positive z)) d ≡ false)
lacks_both z d h = (absent_above (positive z) d h, absent_above (negation (positive z)) d h)

module _ (first : ℕ) (given : Given) (slots : Slots) (names : List Name) (ls : List LogLine)
    (n : IsNamed given slots names ls) where
  -- the clause of a place, whatever more is given
  pub live_named : (more : Given) (base r : ℕ) (c : List Literal) → IsBaseOf (given ++ more) base
      → clause_at slots r ≡ Some c → log_live (given ++ more) base ls (id_of base (name_at names r))
      ≡ Some c
  live_named more base r c above live =
      live_more given more base ls (id_of base (name_at names r)) c
      ((n.live base (base_front given more base above)).named r c live)

  -- no clause of the log or of more that is given has the fresh variable
  fresh_more : (v z : ℕ) (more : Given) (base : ℕ) → first < z → v < z
      → ((r : ℕ) (c : List Literal) → clause_at slots r ≡ Some c → greatest_variable c ≤ v)
      → All (λ g. greatest_variable g.1 ≤ first) more → IsBaseOf (given ++ more) base
      → IsFreshIn z (log_live (given ++ more) base ls)
  fresh_more v z more base few above small all is_base i d e =
      elim (live_either first given more base ls all i d e) [
        | inl here ↦
            let o = (n.live base (base_front given more base is_base)).only i d here in
            let s : greatest_variable d ≤ v = small o.0 d o.1 in
            lacks_both z d (omega arith)
        | inr other ↦ lacks_both z d (omega arith)
      ]

  -- where one place has a literal of the fresh variable, its clause alone has it in the log
  only_more : (l : Literal) (f : ℕ) (more : Given) (base : ℕ) → first < l.variable
      → ((r : ℕ) (c : List Literal) → clause_at slots r ≡ Some c → contains_literal l c ≡ true
      → r ≡ f)
      → All (λ g. greatest_variable g.1 ≤ first) more → IsBaseOf (given ++ more) base
      → (i : ℕ) (d : List Literal) → log_live (given ++ more) base ls i ≡ Some d
      → contains_literal l d ≡ true → i ≡ id_of base (name_at names f)
  only_more l f more base few only all is_base i d e has =
      elim (live_either first given more base ls all i d e) [
        | inl here ↦
            let o = (n.live base (base_front given more base is_base)).only i d here in
            sym o.2 ∙ ap (λ r. id_of base (name_at names r)) (only o.0 d o.1 has)
        | inr other ↦ absurd (both_ways (contains_literal l d) (absent_above l d (omega arith)) has)
      ]

  -- the first line of a definition
  pub stays_whole : (v z : ℕ) (a b : Literal) → StaysLogOver first given ls → AddsNoEmptyClause ls
      → first < z → v < z → ((r : ℕ) (c : List Literal) → clause_at slots r ≡ Some c
      → greatest_variable c ≤ v)
      → IsPairFor z a b → StaysLogOver first given (ls ++ whole_line z a b ∷ [])
  stays_whole v z a b log going few above small p more all = record {
    steps =
        log_steps_more (given ++ more) ls (whole_line z a b) (log more all).steps (λ base is_base.
        let old : Live = live_after (start_over (given ++ more) base) (numbered_lines base ls) in
        let id : ℕ = base + added_count ls + 1 in
        let last : old.last ≡ base + (0 + added_count ls) =
        last_numbered base 0 ls (start_over (given ++ more) base)
        (let e : base ≡ base + 0 = omega arith in e) in (
          with_clause old id (whole_clause z a b),
          (
            first_addable old id z a b (omega (arith, last)) p,
            inr (first_rat old.clause_at z a b
                (fresh_more v z more base few above small all is_base)),
            refl,
          ),
        ));
    stops = stops_push ls (whole_line z a b) going;
    groups =
        All-push (λ (k : LogLine). All IsOwnGroup k.hints) ls (whole_line z a b)
        (log more all).groups
        (All-nil IsOwnGroup);
  }

  -- and the others
  pub stays_side : (z f : ℕ) (a : Literal) (c : List Literal) (j : ℕ) → StaysLogOver first given ls
      → AddsNoEmptyClause ls → first < z → z < 2 ^ 27 → a.variable < 2 ^ 27 → z ≢ a.variable
      → name_at names f ≡ Added j → clause_at slots f ≡ Some c
      → contains_literal (negation (positive z)) c ≡ true → contains_literal a c ≡ true
      → ((r : ℕ) (d : List Literal) → clause_at slots r ≡ Some d
      → contains_literal (negation (positive z)) d ≡ true → r ≡ f)
      → StaysLogOver first given (ls ++ side_line z a (name_at names f) ∷ [])
  stays_side z f a c j log going few small small_a other named live has has_a only more all =
      record {
        steps =
            log_steps_more (given ++ more) ls (side_line z a (name_at names f)) (log more all).steps
            (λ base is_base.
            let old : Live =
            live_after (start_over (given ++ more) base) (numbered_lines base ls) in
            let id : ℕ = base + added_count ls + 1 in
            let last : old.last ≡ base + (0 + added_count ls) =
            last_numbered base 0 ls (start_over (given ++ more) base)
            (let e : base ≡ base + 0 = omega arith in e) in (
              with_clause old id (side_clause z a),
              (
                side_addable old id z a (omega (arith, last)) other small small_a,
                inr (side_rat old.clause_at z a (id_of base (name_at names f)) c
                    (live_named more base f c is_base live) has has_a other
                    (only_more (negation (positive z)) f more base few only all is_base)),
                refl,
              ),
            ));
        stops = stops_push ls (side_line z a (name_at names f)) going;
        groups =
            All-push (λ (k : LogLine). All IsOwnGroup k.hints) ls (side_line z a (name_at names f))
            (log more all).groups
            (All-cons IsOwnGroup (Group (name_at names f)) [] (rw named tt) (All-nil IsOwnGroup));
      }
