-- What stands for a state takes no memory, and only proofs know the state.
use Rattle.std.proofs.Common.{◌≡◌, ℕ, [], ◌∷◌, refl}
use seplogic.Ra.Ura.{Ura}
use mir.Syntax.{named, a_type, dcons, dnil}
use mir.Val.{Val, vptr, vstruct, vcons, vnil}
use mir.MapTy.{inst_fn}
use base.Logic.{emp, ent}
use contract.Monad.{fact, fact_i}
use contract.Running.{tables}
use types.Kit.{‵, raw, ◌⊛◌, ◌$◌, ◌∵◌, !, qed, by, move, keep, split, use0, fjoin}
use types.Logic.{Logic, sem}
use types.Part.{agg}
use types.Run.{no_more, and_then, returns, enter}
use types.ByLocal.{alloc_all, pass_all, free_all, look_at, get, sets}
use denote.Builtin.{RefOf}
use denote.Exit.{yes}
use denote.Param.{bounded, param}
use denote.RattleType.{RattleType, owns}
use denote.Ref.{shr_vals, shr_Tells}
use denote.Shadow.{makes_shadow}
use denote.Signature.{plain, types_at}
use denote.Steps.{nothing}
use denote.Struct.Struct.{Struct}
use denote.Struct.Owning.{shape}
use denote.Triple.Entry.{alive}
use denote.Triple.Walked.{Stays, stay_dropped, walk_of, Goes-dropped}
use Rattle.std.proofs.raw_atomic.Walks.{proved, leaves}
use Rattle.cuts_log.specs.contracts.trace.Trace.{the_row, the_type}
use Rattle.cuts_log.specs.contracts.trace.seen.{ended, clauses}
use Rattle.cuts_log.specs.contracts.trace.seen.Key.{name as #self}
use Rattle.cuts_log.proofs.trace.seen.Statement.{statement}
use Rattle.cuts_log.proofs.trace.seen.Code as code

-- the machine value of a struct without bytes
abbrev mark : Val
mark = vstruct (vcons (vstruct vnil) vnil)

abbrev Mark : RattleType
Mark = Struct (shape the_type)

marked : {M : Type 1} {𝓤 : Ura M} (𝓛 : Logic 𝓤) → ent 𝓤 (emp 𝓤)
    (sem 𝓛 (Mark.own_val (tt, tt) (mark ∷ [])))
marked 𝓛 = makes_shadow 𝓛 (Mark.own_val (tt, tt) (mark ∷ []))
    (λ vss. (tt, ((λ uss. (tt, tt)), tt)))
    ((vstruct vnil ∷ [], tt), (refl, ((tt, (refl, tt)), tt)))

pub seen_spec : {M : Type 1} → statement M
seen_spec 𝓤 𝓛 𝓜 𝓡 wired U LU gs d met =
    let H = 𝓛.H in let 𝓣 = tables 𝓤 H 𝓜 𝓡 𝓡.env in let W : RattleType = param 0 U in
    let generics = bounded (a_type ∷ []) (U, tt) (dcons d dnil) in
    let fn = inst_fn generics code.function in let En = ended U gs d in
    let c = clauses U gs d 𝓛 𝓜.mem 𝓡.returns in
    let what = RefOf (0 ∷ []) tt (plain (λ _. W)) (λ _. tt) in
    let hs : Stays En.signature.params En.kept = (stay_dropped what yes, tt) in
    let Walk = walk_of 𝓛 En hs c in
    proved 𝓛 En hs c 𝓜 𝓡 (Goes-dropped 𝓛 2 what yes (λ κs x f. refl), tt) (#self generics) fn
    (code.unfolded 𝓤 H 𝓜 𝓡 wired (U, tt) d)
    (λ κs. (shr_vals, tt)) (λ κs. (shr_Tells (named 0) κs.0 W, tt)) (λ κs qs bounds a g are.
    let hp : ℕ × ℕ = a.0.ref_ptr in
    let y : Walk.Ghost = ((κs, qs, bounds, a, (vptr hp.0 hp.1 ∷ [], tt)), g) in
    let new : the_row.Denot = record { mark = record {}; state = gs.shown a.0.now } in
    let Told : Type 0 = gs.shown a.0.now ≡ gs.shown a.0.now in
    qed 𝓛 ((raw (alive 𝓛 En.signature κs qs) ⊛ ‵ (owns (types_at En.signature.params κs) a y.0.4)) ∷
    raw ((c κs a).requires g) ∷ []) ∵ split ! $ keep ! (0 ∷ []) $
    enter ! 𝓣.C 𝓣.Λ fn (vptr hp.0 hp.1 ∷ []) (Walk.post y) $
    alloc_all ! (λ l. pass_all ! refl ((tt, tt), tt) $
    sets ! (agg ! (no_more !)) refl (tt, tt) $
    sets ! (agg ! (and_then ! (get ! refl) (no_more !))) refl (tt, (tt, tt)) $
    returns ! (look_at ! 0 refl) $ free_all ! refl $
    use0 𝓛 (raw (fact 𝓤 Told)) (fact_i 𝓤 Told (emp 𝓤) refl) $
    nothing ! $ use0 𝓛 (‵ (Mark.own_val (tt, tt) (mark ∷ []))) (marked 𝓛) $ fjoin ! $
    nothing ! $ nothing ! $ fjoin ! $ move ! (3 ∷ 0 ∷ 1 ∷ 2 ∷ []) $
    by ! (leaves 𝓛 En hs c y mark new (tt, tt) (tt, tt))))
