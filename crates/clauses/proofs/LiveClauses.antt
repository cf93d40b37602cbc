-- What holds of each clause of a store holds of the live ones in order, and back.
use Rattle.std.proofs.Common.{◌≡◌, ℕ, zero, suc, List, [], ◌∷◌, map, Some, None, refl, ap, subst}
use Rattle.std.specs.Prelude.{All, Contains}
use Rattle.std.proofs.lemmas.List.Elements.{All-nil, All-cons, All-head, All-tail, Contains-get_or}
use Rattle.std.proofs.lemmas.Option.{same_Some, none-some}
use Rattle.cnf.specs.Literal.{Literal}
use Rattle.clauses.specs.Slots.{Slots, clause_at, live_clauses}

pub all_live : (P : List Literal → Type 0) (slots : Slots)
    → ((r : ℕ) (c : List Literal) → clause_at slots r ≡ Some c → P c) → All P (live_clauses slots)
all_live P [] h = All-nil P
all_live P (None ∷ slots) h = all_live P slots (λ r c e. h (suc r) c e)
all_live P (Some c ∷ slots) h =
    All-cons P c (live_clauses slots) (h 0 c refl) (all_live P slots (λ r d e. h (suc r) d e))

pub live_all : (P : List Literal → Type 0) (slots : Slots) → All P (live_clauses slots)
    → (r : ℕ) (c : List Literal) → clause_at slots r ≡ Some c → P c
live_all P [] all r c e = absurd (none-some c e)
live_all P (None ∷ slots) all zero c e = absurd (none-some c e)
live_all P (None ∷ slots) all (suc r) c e = live_all P slots all r c e
live_all P (Some d ∷ slots) all zero c e =
    subst P (same_Some d c e) (All-head P d (live_clauses slots) all)
live_all P (Some d ∷ slots) all (suc r) c e =
    live_all P slots (All-tail P d (live_clauses slots) all) r c e

pub contains_live : (slots : Slots) (r : ℕ) (c : List Literal) → clause_at slots r ≡ Some c
    → Contains (live_clauses slots) c
contains_live slots r c e =
    live_all (Contains (live_clauses slots)) slots
    (λ k d lt. Contains-get_or (live_clauses slots) k d lt) r c e

-- a store without gaps has just the clauses that it was made of
pub live_map : (cs : List (List Literal)) → live_clauses (map Some cs) ≡ cs
live_map [] = refl
live_map (c ∷ cs) = ap (λ ds. c ∷ ds) (live_map cs)
