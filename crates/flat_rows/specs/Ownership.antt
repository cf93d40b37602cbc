-- What the owner of a row of places owns and lends, and what the right to free it is.
use Rattle.std.specs.Prelude.{ℕ, zero, suc, List, [], ◌∷◌, Bool, length}
use base.Fml.{Lft, Fml, ftrue}
use mir.Syntax.{Ty}
use denote.RattleType.{RattleType}
use denote.RawPtr.{Ptr}
use denote.Sharing.{nothing}
use Rattle.core.specs.Mem.Slots.Ownership.{owned, lent, leased}

-- no place needs no memory
abbrev pub places_own : (R : RattleType) → Ptr → List R.Denot → List Bool → Fml
places_own R p [] fs = ftrue
places_own R p (x ∷ xs) fs = owned R p (length (x ∷ xs)) (x ∷ xs) fs

abbrev pub places_lent : (R : RattleType) → Ptr → List R.Denot → List Bool → Lft → Fml
places_lent R p [] fs = nothing
places_lent R p (x ∷ xs) fs = lent R p (length (x ∷ xs)) (x ∷ xs) fs

-- t is the right to free a block of a type
abbrev pub deed_own : (R : RattleType) → (Ty → Ptr → Fml) → Ptr → ℕ → Fml
deed_own R t p zero = ftrue
deed_own R t p (suc n) = leased t R p (suc n)
