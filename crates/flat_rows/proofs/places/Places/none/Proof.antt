-- No place takes no memory.
use Rattle.std.proofs.Common.{◌≡◌, List, [], ◌∷◌, refl}
use mir.MapTy.{inst_fn}
use base.Logic.{emp}
use contract.Monad.{fact, fact_i}
use contract.Running.{tables}
use types.Kit.{‵, raw, ◌⊛◌, ◌$◌, ◌∵◌, !, qed, by, move, keep, split, use0, fjoin}
use types.Part.{agg}
use types.Run.{no_more, and_then, returns, enter}
use types.ByLocal.{alloc_all, pass_all, free_all, look_at, get, sets}
use denote.RattleType.{RattleType, owns}
use denote.RawPtr.{null_ptr}
use denote.Signature.{types_at}
use denote.Steps.{nothing}
use denote.Triple.Entry.{alive}
use denote.Triple.Walked.{Stays, walk_of}
use Rattle.std.proofs.raw_atomic.Walks.{proved, leaves}
use Rattle.core.proofs.mem.Param.{El, R, args}
use Rattle.flat_rows.proofs.Marks.{mark, PlacesMark, places_marked}
use Rattle.flat_rows.specs.contracts.places.Places.{the_row}
use Rattle.flat_rows.specs.contracts.places.Places.none.{ended, clauses}
use Rattle.flat_rows.specs.contracts.places.Places.none.Key.{name as #self}
use Rattle.flat_rows.proofs.places.Places.none.Statement.{statement}
use Rattle.flat_rows.proofs.places.Places.none.Code as code

pub none_spec : {M : Type 1} → statement M
none_spec 𝓤 𝓛 𝓜 𝓡 wired X L =
    let H = 𝓛.H in let 𝓣 = tables 𝓤 H 𝓜 𝓡 𝓡.env in let E : El = record { row = X; laws = L } in
    let Row : RattleType = the_row (R E) in
    let fn = inst_fn (args E) code.function in let En = ended X in
    let c = clauses X 𝓛 𝓜.mem 𝓡.returns in
    let hs : Stays En.signature.params En.kept = tt in let W = walk_of 𝓛 En hs c in
    proved 𝓛 En hs c 𝓜 𝓡 tt (#self (args E)) fn (code.unfolded 𝓤 H 𝓜 𝓡 wired (X, tt)) (λ κs. tt)
    (λ κs. tt) (λ κs qs bounds a g are.
    let y : W.Ghost = ((κs, qs, bounds, a, tt), g) in
    let new : Row.Denot = record
    { mark = record {}; at = null_ptr; items = []; filled = []; even = refl } in
    let none : List X.Denot = [] in let Told : Type 0 = (none ≡ []) × (null_ptr ≡ null_ptr) in
    qed 𝓛 ((raw (alive 𝓛 En.signature κs qs) ⊛ ‵ (owns (types_at En.signature.params κs) a y.0.4)) ∷
    raw ((c κs a).requires g) ∷ []) ∵ split ! $ keep ! (0 ∷ []) $
    enter ! 𝓣.C 𝓣.Λ fn [] (W.post y) $ alloc_all ! (λ l. pass_all ! refl tt $
    sets ! (agg ! (no_more !)) refl (tt, tt) $
    sets ! (agg ! (and_then ! (get ! refl) (no_more !))) refl (tt, (tt, tt)) $
    returns ! (look_at ! 0 refl) $ free_all ! refl $
    use0 𝓛 (raw (fact 𝓤 Told)) (fact_i 𝓤 Told (emp 𝓤) (refl, refl)) $
    nothing ! $ use0 𝓛 (‵ ((PlacesMark (R E)).own_val (tt, tt) (mark ∷ []))) (places_marked (R E) 𝓛)
    $ fjoin ! $
    nothing ! $ move ! (3 ∷ 0 ∷ 1 ∷ 2 ∷ []) $ by ! (leaves 𝓛 En hs c y mark new tt tt)))
