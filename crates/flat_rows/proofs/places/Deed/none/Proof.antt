-- The right to no block takes nothing.
use Rattle.std.proofs.Common.{◌≡◌, ℕ, [], ◌∷◌, refl}
use mir.Syntax.{named}
use mir.Val.{vptr}
use mir.MapTy.{inst_fn}
use base.Logic.{emp}
use contract.Monad.{fact, fact_i}
use contract.Running.{tables}
use types.Kit.{‵, raw, ◌⊛◌, ◌$◌, ◌∵◌, !, qed, by, move, keep, split, use0, fjoin}
use types.Part.{agg}
use types.Run.{no_more, and_then, returns, enter}
use types.ByLocal.{alloc_all, pass_all, free_all, look_at, get, sets}
use denote.Builtin.{RefOf}
use denote.Exit.{yes}
use denote.Param.{param}
use denote.RattleType.{RattleType, owns}
use denote.RawPtr.{null_ptr}
use denote.Ref.{shr_vals, shr_Tells}
use denote.Signature.{plain, types_at}
use denote.Steps.{nothing}
use denote.Triple.Entry.{alive}
use denote.Triple.Walked.{Stays, stay_dropped, walk_of, Goes-dropped}
use Rattle.std.proofs.raw_atomic.Walks.{proved, leaves}
use Rattle.core.proofs.alloc.Calls.{Al}
use Rattle.core.proofs.mem.Param.{El, R}
use Rattle.core.proofs.slots.Leases.{args}
use Rattle.flat_rows.proofs.Marks.{mark, DeedMark, deed_marked}
use Rattle.flat_rows.specs.contracts.places.Deed.{the_row}
use Rattle.flat_rows.specs.contracts.places.Deed.none.{ended, clauses}
use Rattle.flat_rows.specs.contracts.places.Deed.none.Key.{name as #self}
use Rattle.flat_rows.proofs.places.Deed.none.Statement.{statement}
use Rattle.flat_rows.proofs.places.Deed.none.Code as code

pub none_spec : {M : Type 1} → statement M
none_spec 𝓤 𝓛 𝓜 𝓡 wired X U L LU gs d dd met _ =
    let H = 𝓛.H in let 𝓣 = tables 𝓤 H 𝓜 𝓡 𝓡.env in let W : RattleType = param 1 U in
    let E : El = record { row = X; laws = L } in
    let Z : Al = record { row = U; laws = LU; g = gs; d = d; drops = dd } in
    let Row : RattleType = the_row (R E) W gs in
    let fn = inst_fn (args E Z) code.function in let En = ended X U gs d dd in
    let c = clauses X U gs d dd 𝓛 𝓜.mem 𝓡.returns in
    let heap = RefOf (0 ∷ []) tt (plain (λ _. W)) (λ _. tt) in
    let hs : Stays En.signature.params En.kept = (stay_dropped heap yes, tt) in
    let Walk = walk_of 𝓛 En hs c in
    proved 𝓛 En hs c 𝓜 𝓡 (Goes-dropped 𝓛 3 heap yes (λ κs x f. refl), tt) (#self (args E Z)) fn
    (code.unfolded 𝓤 H 𝓜 𝓡 wired (X, (U, tt)) d dd)
    (λ κs. (shr_vals, tt)) (λ κs. (shr_Tells (named 0) κs.0 W, tt)) (λ κs qs bounds a g are.
    let hp : ℕ × ℕ = a.0.ref_ptr in let y : Walk.Ghost =
    ((κs, qs, bounds, a, (vptr hp.0 hp.1 ∷ [], tt)), g) in
    let new : Row.Denot = record { mark = record {}; at = null_ptr; len = 0; heap = a.0.now } in
    let none : ℕ = 0 in let Told : Type 0 = (none ≡ 0) × (null_ptr ≡ null_ptr) × (a.0.now ≡ a.0.now)
    in
    qed 𝓛 ((raw (alive 𝓛 En.signature κs qs) ⊛ ‵ (owns (types_at En.signature.params κs) a y.0.4)) ∷
    raw ((c κs a).requires g) ∷ []) ∵ split ! $ keep ! (0 ∷ []) $
    enter ! 𝓣.C 𝓣.Λ fn (vptr hp.0 hp.1 ∷ []) (Walk.post y) $
    alloc_all ! (λ l. pass_all ! refl ((tt, tt), tt) $
    sets ! (agg ! (no_more !)) refl (tt, tt) $
    sets ! (agg ! (and_then ! (get ! refl) (no_more !))) refl (tt, (tt, tt)) $
    returns ! (look_at ! 0 refl) $ free_all ! refl $
    use0 𝓛 (raw (fact 𝓤 Told)) (fact_i 𝓤 Told (emp 𝓤) (refl, refl, refl)) $
    nothing ! $ use0 𝓛 (‵ ((DeedMark (R E) W gs).own_val (tt, tt) (mark ∷ [])))
    (deed_marked (R E) W gs 𝓛) $ fjoin ! $
    nothing ! $ nothing ! $ fjoin ! $ move ! (3 ∷ 0 ∷ 1 ∷ 2 ∷ []) $
    by ! (leaves 𝓛 En hs c y mark new (tt, tt) (tt, tt))))
