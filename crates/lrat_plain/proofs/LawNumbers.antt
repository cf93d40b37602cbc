-- What number an id has.
use Rattle.std.proofs.Common.{◌≡◌, ℕ, ◌+◌, ◌-◌, ◌<◌, ◌≤◌, Option, Some, None, ◌⊎◌, inl, inr, refl}
use Rattle.std.proofs.Common.{◌∙◌, ap}
use Rattle.std.specs.Prelude.{nat_le, if◌then◌else◌}
use Rattle.std.proofs.lemmas.Bool.{cases_lt, cond-false, cond-true, le-leb, lt-leb}
use Rattle.lrat_plain.specs.Names.{Names, renumbered}
use Rattle.lrat_plain.proofs.LawPlaces.{place_at}

-- by how many clauses the formula of the instance has, how many there are in all, and the place
abbrev by_place : ℕ → ℕ → ℕ → Option ℕ → ℕ
by_place given all id None = all + (id - given)
by_place given all id (Some place) = place

abbrev number_by : ℕ → ℕ → ℕ → Option ℕ → ℕ
number_by given all id o = if nat_le id given then id else by_place given all id o

pub given_number : (n : Names) (id : ℕ) → id ≤ n.given → renumbered n id ≡ id
given_number n id h =
    cond-true (nat_le id n.given) id (by_place n.given n.all id (place_at n.places id))
    (le-leb id n.given h)

other_number : (n : Names) (id : ℕ) (o : Option ℕ) → n.given < id → place_at n.places id ≡ o
    → renumbered n id ≡ by_place n.given n.all id o
other_number n id o h e =
    cond-false (nat_le id n.given) id (by_place n.given n.all id (place_at n.places id))
    (lt-leb id n.given h)
    ∙ ap (by_place n.given n.all id) e

pub placed_number : (n : Names) (id place : ℕ) → n.given < id → place_at n.places id ≡ Some place
    → renumbered n id ≡ place
placed_number n id place h e = other_number n id (Some place) h e

pub added_number : (n : Names) (id : ℕ) → n.given < id → place_at n.places id ≡ None
    → renumbered n id ≡ n.all + (id - n.given)
added_number n id h e = other_number n id None h e

-- it depends on the place alone
pub same_number : (n m : Names) (id : ℕ) → m.given ≡ n.given → m.all ≡ n.all
    → place_at m.places id ≡ place_at n.places id → renumbered m id ≡ renumbered n id
same_number n m id given all place =
    ap (λ g. number_by g m.all id (place_at m.places id)) given
    ∙ ap (λ a. number_by n.given a id (place_at m.places id)) all
    ∙ ap (number_by n.given n.all id) place

-- that of the formula, that of its place, or that of an addition
abbrev pub Numbered : Names → ℕ → Type 0
Numbered n i =
    ((i ≤ n.given) × (renumbered n i ≡ i))
    ⊎ (((k : ℕ) × (n.given < i) × (place_at n.places i ≡ Some k) × (renumbered n i ≡ k))
    ⊎ ((n.given < i) × (place_at n.places i ≡ None)
    × (renumbered n i ≡ n.all + (i - n.given))))

pub number_of : (n : Names) (i : ℕ) → Numbered n i
number_of n i = by (cases_lt n.given i)
  where
    by : (n.given < i) ⊎ (i ≤ n.given) → Numbered n i
    by (inr le) = inl (le, given_number n i le)
    by (inl lt) =
        elim (place_at n.places i) as (λ o. place_at n.places i ≡ o → Numbered n i) [
          | None ↦ λ q. inr (inr (lt, q, added_number n i lt q))
          | Some k ↦ λ q. inr (inl (k, lt, q, placed_number n i k lt q))
        ] refl
