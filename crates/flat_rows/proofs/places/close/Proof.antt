-- What has no place and no block has nothing to give back.
use Rattle.std.proofs.Common.{List, [], ◌∷◌, refl}
use mir.Val.{Val, vunit}
use mir.MapTy.{inst_fn}
use contract.Running.{tables}
use types.Kit.{‵, raw, ◌⊛◌, ◌$◌, ◌∵◌, !, qed, by, move, keep, split, fjoin, feq_i}
use types.Run.{of_opd, unit_lit, returns, enter}
use types.ByLocal.{alloc_all, pass_all, free_all, look_at, sets}
use denote.Exit.{no}
use denote.Param.{param}
use denote.RattleType.{RattleType, owns}
use denote.Signature.{plain, types_at}
use denote.Steps.{nothing}
use denote.Triple.Entry.{alive}
use denote.Triple.Walked.{Stays, stay_dropped, walk_of, Goes-dropped}
use Rattle.std.proofs.raw_atomic.Walks.{proved, leaves}
use Rattle.core.proofs.alloc.Calls.{Al}
use Rattle.core.proofs.mem.Param.{El, R}
use Rattle.core.proofs.slots.Leases.{args}
use Rattle.flat_rows.proofs.Marks.{mark, places_told, deed_told}
use Rattle.flat_rows.specs.contracts.places.Places as P-type
use Rattle.flat_rows.specs.contracts.places.Deed as D-type
use Rattle.flat_rows.specs.contracts.places.close.{ended, clauses}
use Rattle.flat_rows.specs.contracts.places.close.Key.{name as #self}
use Rattle.flat_rows.proofs.places.close.Statement.{statement}
use Rattle.flat_rows.proofs.places.close.Code as code

pub close_spec : {M : Type 1} → statement M
close_spec 𝓤 𝓛 𝓜 𝓡 wired X U L LU gs d dd met _ =
    let H = 𝓛.H in let 𝓣 = tables 𝓤 H 𝓜 𝓡 𝓡.env in let W : RattleType = param 1 U in
    let E : El = record { row = X; laws = L } in
    let Z : Al = record { row = U; laws = LU; g = gs; d = d; drops = dd } in
    let Row : RattleType = P-type.the_row (R E) in
    let Dd : RattleType = D-type.the_row (R E) W gs in
    let fn = inst_fn (args E Z) code.function in let En = ended X U gs d dd in
    let c = clauses X U gs d dd 𝓛 𝓜.mem 𝓡.returns in
    let hs : Stays En.signature.params En.kept =
    (stay_dropped (plain (λ _. Row)) no, (stay_dropped (plain (λ _. Dd)) no, tt)) in
    let Walk = walk_of 𝓛 En hs c in
    proved 𝓛 En hs c 𝓜 𝓡 (
      Goes-dropped 𝓛 2 (plain (λ _. Row)) no (λ κs x f. refl),
      (Goes-dropped 𝓛 2 (plain (λ _. Dd)) no (λ κs x f. refl), tt),
    )
    (#self (args E Z)) fn (code.unfolded 𝓤 H 𝓜 𝓡 wired (X, (U, tt)) d dd)
    (λ κs. ((λ x. mark ∷ []), ((λ x. mark ∷ []), tt)))
    (λ κs. (
      (λ x vs is. places_told (R E) vs is.0),
      ((λ x vs is. deed_told (R E) W gs vs is.0), tt),
    )) (λ κs qs bounds a g are.
    let y : Walk.Ghost = ((κs, qs, bounds, a, (mark ∷ [], (mark ∷ [], tt))), g) in
    qed 𝓛 ((raw (alive 𝓛 En.signature κs qs) ⊛ ‵ (owns (types_at En.signature.params κs) a y.0.4)) ∷
    raw ((c κs a).requires g) ∷ []) ∵ split ! $ keep ! (0 ∷ []) $
    enter ! 𝓣.C 𝓣.Λ fn (mark ∷ mark ∷ []) (Walk.post y) $
    alloc_all ! (λ l. pass_all ! refl ((tt, (tt, tt)), ((tt, (tt, tt)), tt)) $
    sets ! (of_opd ! (unit_lit !)) refl (tt, tt) $ returns ! (look_at ! 0 refl) $ free_all ! refl $
    nothing ! $ feq_i ! (List Val) (vunit ∷ []) (vunit ∷ []) refl $ nothing ! $ nothing ! $
    fjoin ! $ nothing ! $ fjoin ! $ move ! (3 ∷ 0 ∷ 1 ∷ 2 ∷ []) $
    by ! (leaves 𝓛 En hs c y vunit tt (tt, (tt, tt)) (tt, (tt, tt)))))
