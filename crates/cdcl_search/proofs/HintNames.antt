-- The names in hints have numbers.
use Rattle.std.proofs.Common.{◌≡◌, ℕ, List, [], ◌∷◌, ◌++◌, length, map, sym, subst, arith}
use Rattle.std.specs.Prelude.{All}
use Rattle.std.specs.List.{AllByRecursion}
use Rattle.std.proofs.lemmas.List.Elements.{All-from_recursion}
use Rattle.cnf.specs.Literal.{Literal}
use Rattle.cnf.specs.Lrat.{IsId}
use Rattle.cnf.proofs.Laws.{all_append}
use Rattle.clauses.specs.Slots.{Slots, clause_at, IsLive}
use Rattle.propagate.specs.Trail.{Assigned}
use Rattle.lrat_log.specs.declared.lines.Name.{Name}
use Rattle.lrat_log.specs.declared.lines.Name.TheVariants.{Formula}
use Rattle.lrat_log.specs.declared.lines.Hint.{Hint}
use Rattle.lrat_log.specs.Log.{name_of, number_in}
use Rattle.cdcl_search.specs.Invariant.{name_at}
use Rattle.cdcl_search.specs.Hinting.{plain_hints, AreUnits, AreHintsOf}
use Rattle.cdcl_search.proofs.Places.{live_within}

units_live : (slots : Slots) (us : List ℕ) (zs : List Literal) → AreUnits (clause_at slots) us zs
    → AllByRecursion (IsLive slots) us
units_live slots [] zs u = tt
units_live slots (r ∷ us) [] u = absurd u
units_live slots (r ∷ us) (z ∷ zs) u = ((z ∷ [], u.0), units_live slots us zs u.1)

plain_ids : (slots : Slots) (names : List Name) (rs : List ℕ) → length names ≡ length slots
    → All (λ n. IsId (number_in n)) names → AllByRecursion (IsLive slots) rs
    → AllByRecursion (λ h. IsId (number_in (name_of h))) (plain_hints (map (name_at names) rs))
plain_ids slots names [] long ids live = tt
plain_ids slots names (r ∷ rs) long ids live =
    let within = live_within slots r live.0.0 live.0.1 in
    (ids r (Formula 0) (omega arith), plain_ids slots names rs long ids live.1)

pub hint_ids : (slots : Slots) (names : List Name) (T : List Assigned) (rs : List ℕ)
    (hints : List Hint) → AreHintsOf slots names T rs hints → length names ≡ length slots
    → All (λ n. IsId (number_in n)) names
    → AllByRecursion (IsLive slots) rs → All (λ h. IsId (number_in (name_of h))) hints
hint_ids slots names T rs hints h long ids live =
    subst (All (λ x. IsId (number_in (name_of x)))) (sym h.spelled)
    (All-from_recursion (λ x. IsId (number_in (name_of x)))
    (plain_hints (map (name_at names) (h.units ++ rs)))
    (plain_ids slots names (h.units ++ rs) long ids
    (all_append (IsLive slots) h.units rs (units_live slots h.units h.zeros h.are_units) live)))
