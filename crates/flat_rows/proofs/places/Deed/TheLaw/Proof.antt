-- A `&` to a deed holds nothing.
use denote.RattleType.{RattleType}
use denote.RawPtr.{RawPtr}
use denote.Param.Laws.{Laws}
use denote.Param.Shared.{copy_shared}
use denote.SharingLaws.{nothing_shr_laws}
use denote.Struct.Laws.{field_copy}
use denote.Struct.Lending.{of_Lends, Lends-nothing}
use Rattle.core.specs.declared.alloc.Allocator.{Ghosts}
use Rattle.core.specs.contracts.marker.PhantomData as marker
use Rattle.flat_rows.specs.contracts.places.Deed as C
use Rattle.flat_rows.proofs.places.Deed.TheLaw.Statement.{statement}

pub shares : (R W : RattleType) (g : Ghosts W.Denot) (L : Laws R) (P : Laws W) → statement R W g L P
shares R W g L P =
    of_Lends (C.struct R W g)
    (C.the_codes R.Denot W.Denot R.coded W.coded (marker.the_row RawPtr).coded) (C.the_heap R W g)
    (C.the_lent R W g)
    (λ d p. nothing_shr_laws)
    (copy_shared (marker.the_field RawPtr) (field_copy (marker.the_type RawPtr) tt), tt)
    (λ M 𝓤 𝓛 d p. Lends-nothing 𝓛 (C.the_heap R W g d) (C.the_row R W g).lives)
