-- A `&` to the places is a `&` to each value that they hold.
use mathlib.Core.List.{[], ◌++◌}
use base.Fml.{Incl-trans}
use contract.BorrowLft.{meet_⊑_left}
use denote.RattleType.{RattleType}
use denote.RawPtr.{RawPtr}
use denote.Shares.{Shares-less}
use denote.Param.Laws.{Laws}
use denote.Param.Shared.{copy_shared}
use denote.Struct.Laws.{field_copy}
use denote.Struct.Lending.{of_Lends}
use Rattle.core.specs.contracts.marker.PhantomData as marker
use Rattle.flat_rows.specs.contracts.places.Places as C
use Rattle.flat_rows.proofs.places.Places.TheLaw.Statement.{statement}
use Rattle.flat_rows.proofs.Sharing.{places_law, lends_places}

pub shares : (R : RattleType) (L : Laws R) → statement R L
shares R L = of_Lends (C.struct R) (C.the_codes R.Denot R.coded (marker.the_row RawPtr).coded)
    (C.the_heap R) (C.the_lent R)
    (λ d p. places_law R L.shr_laws d.at d.items d.filled)
    (copy_shared (marker.the_field RawPtr) (field_copy (marker.the_type RawPtr) tt), tt)
    (λ M 𝓤 𝓛 d p. let l = (C.the_row R).lives in
    lends_places 𝓛 R l (Shares-less 𝓛 R R.lives l
    (Incl-trans (meet_⊑_left (R.lives ++ []) _) (meet_⊑_left R.lives [])) (L.shares 𝓛)) d.at d.items
    d.filled)
