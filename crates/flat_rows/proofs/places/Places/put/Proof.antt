-- `put` makes room of one place and writes it.
use Rattle.std.proofs.Common.{◌≡◌, ℕ, ◌+◌, ◌*◌, ◌^◌, ◌<◌, List, [], ◌∷◌, true, length, refl, sym}
use Rattle.std.proofs.Common.{subst, ◌∙◌, arith, w64, slice_set}
use mir.Syntax.{ty_ptr}
use mir.Val.{Val, vint, vptr, vunit}
use mir.MapTy.{inst_fn}
use base.Fraction.{full_share}
use base.Fml.{Fml, ftrue, fat, froom, flft}
use base.Logic.{ent, never, id⊢, emp}
use prog.Wp.{WpFn}
use contract.BorrowLft.{◌⊑◌}
use contract.Monad.{fact, fact_i}
use contract.Running.{tables}
use types.Kit.{‵, raw, ◌⊛◌, at_ret, ◌$◌, ◌∵◌, !, qed, by, move, keep, drop, use0, use1, use3, split}
use types.Kit.{join, rewrite, fsplit, fsplit3, fjoin, fjoin3, feq_i, flt_l, flt_i}
use types.Run.{init, stop, of_opd, bin, size_lit, unit_lit, assigns_last, first, blocks, exec}
use types.Run.{returns, enter}
use types.ByLocal.{alloc_all, pass_all, free_all, look_at, get, through, sets, take_at, give_at}
use types.ByLocal.{env}
use denote.Builtin.{usize}
use denote.Exit.{yes, no}
use denote.RattleType.{RattleType, owns}
use denote.RawPtr.{Ptr, RawPtr, block_ptr, ptr_val, rawptr_Lawful, in_block, in_a_block}
use denote.Signature.{plain, types_at}
use denote.Steps.{heard, nothing, opens, closes}
use denote.Triple.Entry.{Vals}
use denote.Triple.Walked.{Stays, stay_dropped, stay_ref, walk_of, Goes-dropped, Goes-ref}
use Rattle.std.proofs.raw_atomic.Walks.{proved_at, leaves}
use Rattle.std_alloc.proofs.VecSteps.Shapes.{after}
use Rattle.std.proofs.lemmas.List.{length-set}
use Rattle.core.proofs.mem.Param.{El, R, args, elτ, lawful, one}
use Rattle.core.proofs.ptr.Rows.{times_below, one_below}
use Rattle.core.proofs.slots.Places.{sz, besides, room_out, value_in}
use Rattle.core.specs.Mem.Slots.Ownership.{slots}
use Rattle.flat_rows.proofs.Marks.{owned_is}
use Rattle.flat_rows.specs.contracts.places.Places.{the_row}
use Rattle.flat_rows.specs.contracts.places.Places.put.{ended, clauses}
use Rattle.flat_rows.specs.contracts.places.Places.put.Key.{name as #self}
use Rattle.flat_rows.proofs.places.Places.put.Statement.{statement}
use Rattle.flat_rows.proofs.places.Places.put.Code as code

pub put_spec : {M : Type 1} → statement M
put_spec 𝓤 𝓛 𝓜 𝓡 wired X L =
    let H = 𝓛.H in let 𝓣 = tables 𝓤 H 𝓜 𝓡 𝓡.env in let E : El = record { row = X; laws = L } in
    let Row : RattleType = the_row (R E) in
    let fn = inst_fn (args E) code.function in let En = ended X in
    let c = clauses X 𝓛 𝓜.mem 𝓡.returns in
    let hs : Stays En.signature.params En.kept = (
      stay_ref (0 ∷ []) tt (plain (λ _. Row)),
      (
        stay_dropped (plain (λ _. RawPtr)) yes,
        (stay_dropped (plain (λ _. usize)) yes, (stay_dropped (plain (λ _. R E)) no, tt)),
      ),
    ) in
    let W = walk_of 𝓛 En hs c in
    proved_at 𝓛 En hs c 𝓜 𝓡 (
      Goes-ref 𝓛 2 0 tt (plain (λ _. Row)),
      (
        Goes-dropped 𝓛 2 (plain (λ _. RawPtr)) yes (λ κs x f. refl),
        (
          Goes-dropped 𝓛 2 (plain (λ _. usize)) yes (λ κs x f. refl),
          (Goes-dropped 𝓛 2 (plain (λ _. R E)) no (λ κs x f. refl), tt),
        ),
      ),
    )
    (#self (args E)) fn (code.unfolded 𝓤 H 𝓜 𝓡 wired (X, tt)) (λ z are.
    let κ = z.0.0.0 in let κ₁ = z.0.0.1.0 in let q = z.0.1.0 in let q₁ = z.0.1.1.0 in
    let a = z.0.3 in let vss = z.0.4 in
    let rb : ℕ = a.0.ref_ptr.0 in let ro : ℕ = a.0.ref_ptr.1 in let d : Row.Denot = a.0.now in
    let base : Ptr = a.1.0 in let i : ℕ = a.1.1.0 in let x : X.Denot = a.1.1.1.0 in
    let got = one E vss.1.1.1.0 ((lawful E 𝓛).typed x vss.1.1.1.0 are.1.1.1.0) in
    let v : Val = got.0 in let fits : i < 2 ^ 64 = are.1.1.0.1 in
    let spelled : Vals En.signature z.0.0 =
    (vptr rb ro ∷ [], (ptr_val base ∷ [], (vint w64 i ∷ [], (v ∷ [], tt)))) in
    let at : Vals En.signature z.0.0 → W.Ghost = λ us. ((z.0.0, z.0.1, z.0.2, a, us), z.1) in
    let y : W.Ghost = at spelled in
    let Goes : W.Ghost → Type 1 = λ t. ent 𝓤 (W.pre t) (WpFn 𝓤 H 𝓣.C 𝓣.Λ fn (W.args t) (W.post t))
    in
    let Asks : Type 0 = (base ≡ d.at) × (i < length d.items) in
    subst (λ (us : Vals En.signature z.0.0). Goes (at us))
    (sym (λ k. (are.0.0 k, (are.1.0 k, (are.1.1.0.0 k, (got.1 k, tt)))))) (
    qed 𝓛 (((‵ (flft κ q) ⊛ ‵ (flft κ₁ q₁) ⊛ ‵ ftrue) ⊛ ‵
    (owns (types_at En.signature.params z.0.0) a spelled)) ∷
    (raw (fact 𝓤 (κ₁ ⊑ X.lives)) ⊛ raw (fact 𝓤 Asks)) ∷ []) ∵
    move ! (1 ∷ []) $ split ! $ drop ! $ heard ! Asks (λ asked.
    let ix : i < length d.items = asked.1 in
    let same : length d.filled ≡ length d.items = d.even in
    let fx : i < length d.filled = omega arith in
    let items : List X.Denot = slice_set d.items i x in let filled = slice_set d.filled i true in
    let new : Row.Denot = record {
      mark = d.mark;
      at = d.at;
      items = items;
      filled = filled;
      even = length-set d.filled i true ∙
          same ∙ sym (length-set d.items i x);
    } in
    split ! $ split ! $ move ! (2 ∷ []) $ fsplit ! $ fsplit3 ! $ move ! (3 ∷ []) $ fsplit ! $
    move ! (1 ∷ []) $ fsplit ! $ move ! (1 ∷ []) $ fsplit ! $ keep ! (5 ∷ 6 ∷ 7 ∷ 0 ∷ 8 ∷ []) $
    enter ! 𝓣.C 𝓣.Λ fn (vptr rb ro ∷ ptr_val base ∷ vint w64 i ∷ v ∷ []) (W.post y) $
    alloc_all ! (λ l. pass_all ! refl (
      (tt, tt),
      (
        ((rawptr_Lawful 𝓛).typed base (ptr_val base ∷ []) refl).0,
        ((tt, record { fits = fits }), (got.2, tt)),
      ),
    ) $ let Ev = env fn.locals l in
    opens ! tt Row {h = d} rb ro (λ us. move ! (1 ∷ []) $ fsplit ! $ move ! (1 ∷ []) $
    rewrite ! 0 (λ (F : Fml). ‵ F) (owned_is (R E) d.at d.items d.filled (omega arith)) refl $
    fsplit ! $ flt_l ! (λ small.
    in_a_block ! d.at (λ p. in_block p (slots (R E) p d.items d.filled)) (id⊢ 𝓤 (never 𝓤)) (λ b o e.
    let s = sz E in let tiny : s < 2 ^ 64 = omega
    (arith, one_below (length d.items) s (2 ^ 63) (omega arith) small) in
    let far : i * s < 2 ^ 64 = omega
    (arith, times_below i (length d.items) s (2 ^ 63) (omega arith) small) in
    take_at ! 2 $ rewrite ! 0 (λ (p : Ptr). ‵ (fat full_share ty_ptr (l 2) 0 (ptr_val p)))
    (asked.0 ∙ e) refl $ give_at ! 2 $ first ! $ blocks ! $
    sets ! (bin ! (get ! refl) (size_lit ! (record { fits = tiny })) (record { fits = far })) refl
    (tt, record { fits = far }) $
    sets ! (bin ! (get ! refl) (get ! refl) tt) refl (tt, tt) $
    use1 𝓛 (‵ (froom (elτ E) b (i * s + o)) ⊛ ‵ (besides E b o d.items d.filled i))
    (room_out E 𝓛 b o d.items d.filled i ix fx x) $ split ! $
    -- [the room; the other places; the mark; its cell; the open borrow; obs; auth;
    -- what the item owns; the other token]
    sets ! (of_opd ! (get ! refl)) refl got.2 $
    assigns_last ! (of_opd ! (get ! refl)) (through ! refl (stop !)) (init ! 0 refl got.2) $
    exec ! 𝓣.C 𝓣.Λ Ev (after 1 fn.body) (at_ret Ev (W.post y)) $
    sets ! (of_opd ! (unit_lit !)) refl (tt, tt) $
    move ! (0 ∷ 7 ∷ []) $ use3 𝓛 (‵ (slots (R E) (block_ptr b o) items filled))
    (value_in E 𝓛 b o d.items d.filled i ix fx x v) $
    rewrite ! 0 (λ (p : Ptr). ‵ (in_block p (slots (R E) p items filled))) (sym e) refl $
    flt_i ! (length items * s) (2 ^ 63)
    (subst (λ (k : ℕ). k * s < 2 ^ 63) (sym (length-set d.items i x)) small) $ fjoin ! $
    rewrite ! 0 (λ (F : Fml). ‵ F)
    (sym (owned_is (R E) d.at items filled (omega (arith, length-set d.items i x)))) refl $
    move ! (1 ∷ 0 ∷ []) $ fjoin ! $ move ! (1 ∷ 0 ∷ []) $ closes ! tt Row new us rb ro $
    returns ! (look_at ! 0 refl) $ free_all ! refl $
    -- [self's parts; its token; the other token]
    use0 𝓛 (raw (fact 𝓤 ((d.at ≡ d.at) × (items ≡ items) × (filled ≡ filled))))
    (fact_i 𝓤 ((d.at ≡ d.at) × (items ≡ items) × (filled ≡ filled)) (emp 𝓤) (refl, refl, refl)) $
    feq_i ! (List Val) (vunit ∷ []) (vunit ∷ []) refl $
    move ! (2 ∷ 3 ∷ []) $ feq_i ! (List Val) (vptr rb ro ∷ []) (vptr rb ro ∷ []) refl $ fjoin3 ! $
    nothing ! $ nothing ! $ fjoin ! $ nothing ! $ fjoin ! $ nothing ! $ fjoin ! $
    move ! (1 ∷ 0 ∷ []) $ fjoin ! $
    move ! (3 ∷ 4 ∷ []) $ join ! $ by !
    (leaves 𝓛 En hs c y vunit tt (new, (tt, (tt, (tt, tt)))) (tt, (tt, (tt, (tt, tt))))))))))))
