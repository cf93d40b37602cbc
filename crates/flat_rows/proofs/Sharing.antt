-- What a `&` to the places holds is made of what their owner has, place by place.
use Rattle.std.proofs.Common.{◌*◌, ◌^◌, List, [], ◌∷◌, Bool, true, false, length}
use seplogic.Ra.Ura.{Ura}
use base.Fml.{Lft, ftrue, flt}
use types.Logic.{Logic}
use denote.RattleType.{RattleType, RowLaws}
use denote.RawPtr.{Ptr, block_ptr, null_ptr, in_block, ◌+ₚ◌}
use denote.Shares.{Shares}
use denote.Sharing.{ShrLaws, said}
use denote.SharingLaws.{nothing_shr_laws, said_shr_laws, beside_shr_laws}
use denote.Struct.Lending.{lent_at_shr_laws, Lends, Lends-false, Lends-lies, Lends-said}
use denote.Struct.Lending.{Lends-nothing, Lends-both}
use Rattle.core.specs.Mem.Slots.Ownership.{bytes_of, slot, slots, slot_lent, slots_lent}
use Rattle.flat_rows.specs.Ownership.{places_own, places_lent}

module _ (R : RattleType) (L : RowLaws R) where
  one_law : (f : Bool) (p : Ptr) (x : R.Denot) → ShrLaws (slot_lent R f p x)
  one_law false p x = nothing_shr_laws
  one_law true p x = lent_at_shr_laws R L p x

  row_law : (xs : List R.Denot) (fs : List Bool) (p : Ptr) → ShrLaws (slots_lent R p xs fs)
  row_law [] fs p = nothing_shr_laws
  row_law (x ∷ xs) [] p = nothing_shr_laws
  row_law (x ∷ xs) (f ∷ fs) p = beside_shr_laws _ _ (one_law f p x)
      (row_law xs fs (p +ₚ bytes_of R))

  pub places_law : (p : Ptr) (xs : List R.Denot) (fs : List Bool) → ShrLaws (places_lent R p xs fs)
  places_law p [] fs = nothing_shr_laws
  places_law p (x ∷ xs) fs = beside_shr_laws _ _ (said_shr_laws _ tt) (row_law (x ∷ xs) fs p)

module _ {M : Type 1} {𝓤 : Ura M} (𝓛 : Logic 𝓤) (R : RattleType) (l : Lft) (s : Shares 𝓛 R l) where
  lends_one : (f : Bool) (p : Ptr) (x : R.Denot) → Lends 𝓛 (slot R f p x) (slot_lent R f p x) l
  lends_one false p x = Lends-nothing 𝓛 (slot R false p x) l
  lends_one true p x = Lends-lies 𝓛 R l p x (s x)

  lends_row : (xs : List R.Denot) (fs : List Bool) (p : Ptr) → Lends 𝓛 (slots R p xs fs)
      (slots_lent R p xs fs) l
  lends_row [] fs p = Lends-nothing 𝓛 ftrue l
  lends_row (x ∷ xs) [] p = Lends-nothing 𝓛 ftrue l
  lends_row (x ∷ xs) (f ∷ fs) p =
      Lends-both 𝓛 (slot R f p x) (slots R (p +ₚ bytes_of R) xs fs) (slot_lent R f p x)
      (slots_lent R (p +ₚ bytes_of R) xs fs) l
      (lends_one f p x) (lends_row xs fs (p +ₚ bytes_of R))

  lends_at : (p : Ptr) (xs : List R.Denot) (fs : List Bool) → Lends 𝓛 (in_block p (slots R p xs fs))
      (slots_lent R p xs fs) l
  lends_at (block_ptr b o) xs fs = lends_row xs fs (block_ptr b o)
  lends_at null_ptr xs fs = Lends-false 𝓛 (slots_lent R null_ptr xs fs) l

  pub lends_places : (p : Ptr) (xs : List R.Denot) (fs : List Bool) → Lends 𝓛 (places_own R p xs fs)
      (places_lent R p xs fs) l
  lends_places p [] fs = Lends-nothing 𝓛 ftrue l
  lends_places p (x ∷ xs) fs =
      let ys : List R.Denot = x ∷ xs in let small = flt (length ys * bytes_of R) (2 ^ 63) in
      Lends-both 𝓛 small (in_block p (slots R p ys fs)) (said small) (slots_lent R p ys fs) l
      (Lends-said 𝓛 small tt l) (lends_at p ys fs)
