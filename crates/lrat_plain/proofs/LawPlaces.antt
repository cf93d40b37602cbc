-- Places by id: one that comes, and ids that go.
use Rattle.std.proofs.Common.{◌≡◌, ℕ, true, false, List, [], ◌∷◌, Option, Some, None, refl, sym}
use Rattle.std.proofs.Common.{◌∙◌, ap, cond, Less, Equal, Greater}
use Rattle.std.specs.Prelude.{nat_eq}
use Rattle.std.specs.BTreeMap.{insert_entry, is_at}
use Rattle.std.specs.List.{list_any}
use Rattle.std.specs.Map.{lookup, remove_entry}
use Rattle.std.specs.Ordering.{is_eq, match_ordering, nat_cmp}
use Rattle.std.proofs.lemmas.Bool.{eqb-false, or_parts}
use Rattle.std.proofs.lemmas.Cmp.{nat_cmp_total, tied_itself}
use Rattle.std.proofs.lemmas.Map.Lookups.{exact_unsigned}
use Rattle.lrat_plain.specs.Names.{Names, forgotten}

abbrev pub place_at : List (ℕ × ℕ) → ℕ → Option ℕ
place_at ps id = lookup (is_at (nat_cmp id)) ps

at_own : (id : ℕ) → is_at (nat_cmp id) id ≡ true
at_own id = ap is_eq (tied_itself nat_cmp_total id)

at_other : (i j : ℕ) → (i ≡ j → ⊥) → is_at (nat_cmp i) j ≡ false
at_other i j apart =
    elim (nat_cmp i j) as (λ o. nat_cmp i j ≡ o → is_eq o ≡ false) [
      | Less ↦ λ q. refl
      | Equal ↦ λ q. absurd (apart (exact_unsigned i j q))
      | Greater ↦ λ q. refl
    ] refl

-- an id gets a place
pub place_here : (ps : List (ℕ × ℕ)) (id place : ℕ)
    → place_at (insert_entry nat_cmp ps id place) id ≡ Some place
place_here [] id place = ap (λ b. cond b (Some place) None) (at_own id)
place_here (e ∷ ps) id place =
    elim (nat_cmp id e.0) as (λ o. nat_cmp id e.0 ≡ o
    → place_at (match_ordering o ((id, place) ∷ e ∷ ps) ((e.0, place) ∷ ps)
    (e ∷ insert_entry nat_cmp ps id place)) id ≡ Some place) [
      | Less ↦ λ q. ap (λ b. cond b (Some place) (place_at (e ∷ ps) id)) (at_own id)
      | Equal ↦ λ q. ap (λ o. cond (is_eq o) (Some place) (place_at ps id)) q
      | Greater ↦ λ q.
          ap (λ o. cond (is_eq o) (Some e.1) (place_at (insert_entry nat_cmp ps id place) id)) q
          ∙ place_here ps id place
    ] refl

pub place_there : (ps : List (ℕ × ℕ)) (id place j : ℕ) → (j ≡ id → ⊥)
    → place_at (insert_entry nat_cmp ps id place) j ≡ place_at ps j
place_there [] id place j apart = ap (λ b. cond b (Some place) None) (at_other j id apart)
place_there (e ∷ ps) id place j apart =
    elim (nat_cmp id e.0) as (λ o. nat_cmp id e.0 ≡ o
    → place_at (match_ordering o ((id, place) ∷ e ∷ ps) ((e.0, place) ∷ ps)
    (e ∷ insert_entry nat_cmp ps id place)) j ≡ place_at (e ∷ ps) j) [
      | Less ↦ λ q. ap (λ b. cond b (Some place) (place_at (e ∷ ps) j)) (at_other j id apart)
      | Equal ↦ λ q.
          let same : id ≡ e.0 = exact_unsigned id e.0 q in
          let other = at_other j e.0 (λ z. apart (z ∙ sym same)) in
          ap (λ b. cond b (Some place) (place_at ps j)) other
          ∙ sym (ap (λ b. cond b (Some e.1) (place_at ps j)) other)
      | Greater ↦ λ q.
          ap (cond (is_at (nat_cmp j) e.0) (Some e.1)) (place_there ps id place j apart)
    ] refl

-- ids go
place_left : (ps : List (ℕ × ℕ)) (id j : ℕ) → (j ≡ id → ⊥)
    → place_at (remove_entry (is_at (nat_cmp id)) ps) j ≡ place_at ps j
place_left [] id j apart = refl
place_left (e ∷ ps) id j apart =
    elim (nat_cmp id e.0) as (λ o. nat_cmp id e.0 ≡ o
    → place_at (cond (is_eq o) ps (e ∷ remove_entry (is_at (nat_cmp id)) ps)) j
    ≡ place_at (e ∷ ps) j) [
      | Less ↦ λ q. ap (cond (is_at (nat_cmp j) e.0) (Some e.1)) (place_left ps id j apart)
      | Equal ↦ λ q.
          let same : id ≡ e.0 = exact_unsigned id e.0 q in
          sym (ap (λ b. cond b (Some e.1) (place_at ps j))
          (at_other j e.0 (λ z. apart (z ∙ sym same))))
      | Greater ↦ λ q. ap (cond (is_at (nat_cmp j) e.0) (Some e.1)) (place_left ps id j apart)
    ] refl

pub place_forgotten : (ids : List ℕ) (n : Names) (j : ℕ) → list_any (nat_eq j) ids ≡ false
    → place_at (forgotten ids n).places j ≡ place_at n.places j
place_forgotten [] n j h = refl
place_forgotten (id ∷ ids) n j h =
    let apart = or_parts (nat_eq j id) (list_any (nat_eq j) ids) h in
    place_forgotten ids (record n { places = remove_entry (is_at (nat_cmp id)) n.places }) j apart.1
    ∙ place_left n.places id j (eqb-false j id apart.0)
