-- Clauses that are named one after the other, and ids with their dashes.
use Rattle.std.proofs.Common.{◌≡◌, ℕ, suc, ◌+◌, ◌-◌, ◌<◌, Bool, List, [], ◌∷◌, map, refl, sym, ◌∙◌}
use Rattle.std.proofs.Common.{ap, arith}
use Rattle.lrat_plain.specs.Names.{Names, named, named_all}

pub one_named : (id count place : ℕ) (s t : Names) → place < count → t ≡ named (id + 1) s
    → named_all (id + 1) (count - (place + 1)) t ≡ named_all id (count - place) s
one_named id count place s t lt e =
    let k : count - place ≡ suc (count - (place + 1)) = omega (arith, lt) in
    ap (named_all (id + 1) (count - (place + 1))) e ∙ sym (ap (λ j. named_all id j s) k)

pub map_ids : (f : ℕ → ℕ) (hs : List (Bool × ℕ)) → map (λ h. f h.1) hs ≡ map f (map (λ h. h.1) hs)
map_ids f [] = refl
map_ids f (h ∷ hs) = ap (λ z. f h.1 ∷ z) (map_ids f hs)
