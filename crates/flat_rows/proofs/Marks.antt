-- The machine value of a struct without bytes, and what its owner has where there are places.
use Rattle.std.proofs.Common.{◌≡◌, ℕ, zero, suc, ◌<◌, List, [], ◌∷◌, ◌++◌, Bool, length, refl, ap}
use Rattle.std.proofs.Common.{◌∙◌, arith}
use seplogic.Ra.Ura.{Ura}
use mir.Syntax.{Ty}
use mir.Val.{Val, vstruct, vcons, vnil, of_list}
use base.Fml.{Fml, Lft}
use base.Logic.{ent, emp}
use types.Logic.{Logic, sem}
use denote.RattleType.{RattleType}
use denote.RawPtr.{Ptr}
use denote.Laws.{Is}
use denote.Shadow.{makes_shadow}
use denote.Struct.Struct.{Struct}
use denote.Struct.Owning.{shape}
use Rattle.core.specs.declared.alloc.Allocator.{Ghosts}
use Rattle.core.specs.Mem.Slots.Ownership.{owned, lent, leased}
use Rattle.flat_rows.specs.Ownership.{places_own, places_lent, deed_own}
use Rattle.flat_rows.specs.contracts.places.Places as P
use Rattle.flat_rows.specs.contracts.places.Deed as D

abbrev pub mark : Val
mark = vstruct (vcons (vstruct vnil) vnil)

module _ (R : RattleType) where
  abbrev pub PlacesMark : RattleType
  PlacesMark = Struct (shape (P.the_type R))

  pub places_told : (vs : List Val) → Is PlacesMark (tt, tt) vs → vs ≡ mark ∷ []
  places_told vs is = is.1.0 ∙ ap (λ (ws : List Val). vstruct (of_list (ws ++ [])) ∷ [])
      is.1.1.0.1.0

  pub places_marked : {M : Type 1} {𝓤 : Ura M} (𝓛 : Logic 𝓤) → ent 𝓤 (emp 𝓤)
      (sem 𝓛 (PlacesMark.own_val (tt, tt) (mark ∷ [])))
  places_marked 𝓛 = makes_shadow 𝓛 (PlacesMark.own_val (tt, tt) (mark ∷ []))
      (λ vss. (tt, ((λ uss. (tt, tt)), tt)))
      ((vstruct vnil ∷ [], tt), (refl, ((tt, (refl, tt)), tt)))

  -- where there is a place, its owner has memory
  pub owned_is : (p : Ptr) (xs : List R.Denot) (fs : List Bool) → 0 < length xs → places_own R p xs
      fs ≡ owned R p (length xs) xs fs
  owned_is p [] fs lt = absurd (omega arith)
  owned_is p (x ∷ xs) fs lt = refl

  pub lent_is : (p : Ptr) (xs : List R.Denot) (fs : List Bool) (κ : Lft) → 0 < length xs →
      places_lent R p xs fs κ ≡ lent R p (length xs) xs fs κ
  lent_is p [] fs κ lt = absurd (omega arith)
  lent_is p (x ∷ xs) fs κ lt = refl

  pub leased_is : (t : Ty → Ptr → Fml) (p : Ptr) (n : ℕ) → 0 < n → deed_own R t p n ≡ leased t R p n
  leased_is t p zero lt = absurd (omega arith)
  leased_is t p (suc n) lt = refl

module _ (R W : RattleType) (g : Ghosts W.Denot) where
  abbrev pub DeedMark : RattleType
  DeedMark = Struct (shape (D.the_type R W g))

  pub deed_told : (vs : List Val) → Is DeedMark (tt, tt) vs → vs ≡ mark ∷ []
  deed_told vs is = is.1.0 ∙ ap (λ (ws : List Val). vstruct (of_list (ws ++ [])) ∷ []) is.1.1.0.1.0

  pub deed_marked : {M : Type 1} {𝓤 : Ura M} (𝓛 : Logic 𝓤) → ent 𝓤 (emp 𝓤)
      (sem 𝓛 (DeedMark.own_val (tt, tt) (mark ∷ [])))
  deed_marked 𝓛 = makes_shadow 𝓛 (DeedMark.own_val (tt, tt) (mark ∷ []))
      (λ vss. (tt, ((λ uss. (tt, tt)), tt)))
      ((vstruct vnil ∷ [], tt), (refl, ((tt, (refl, tt)), tt)))
