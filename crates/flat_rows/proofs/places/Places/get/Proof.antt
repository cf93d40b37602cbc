-- `get` hands on the `&` to a value that a `&` to the places holds.
use Rattle.std.proofs.Common.{◌≡◌, ℕ, ◌+◌, ◌*◌, ◌^◌, ◌<◌, List, [], ◌∷◌, true, false, length}
use Rattle.std.proofs.Common.{get_or, refl, ◌∙◌, arith, w64}
use mir.Syntax.{named}
use mir.Val.{Val, vint, vptr}
use mir.MapTy.{inst_fn}
use base.Fml.{Fml, ftrue, flft}
use base.Logic.{emp}
use prog.Wp.{WpFn}
use contract.BorrowLft.{◌⊑◌}
use contract.Monad.{fact, fact_i}
use contract.Running.{tables}
use types.Kit.{‵, raw, ◌⊛◌, at_ret, prop, ◌$◌, ◌∵◌, !, qed, by, move, keep, drop, use0, use1, split}
use types.Kit.{join, rewrite, regoal, fsplit, fjoin, feq_i, flt_l}
use types.Run.{stop, of_opd, addr, bin, size_lit, first, blocks, exec, returns, enter}
use types.ByLocal.{alloc_all, pass_all, free_all, look_at, get, through, sets, sets_last, env}
use denote.Builtin.{usize, RefOf}
use denote.Exit.{yes}
use denote.Memory.{hidden_shr}
use denote.Opens.{unhide}
use denote.Plain.{uint_vals, uint_Tells}
use denote.RattleType.{RattleType, owns}
use denote.RawPtr.{Ptr, RawPtr, ptr_val, rawptr_vals, rawptr_Tells, in_a_block}
use denote.Ref.{Bor, shr_vals, shr_Tells}
use denote.Signature.{plain, types_at}
use denote.Steps.{heard, nothing}
use denote.Triple.Walked.{Stays, stay_dropped, walk_of, Goes-dropped}
use Rattle.std.proofs.raw_atomic.Walks.{proved, leaves}
use Rattle.std_alloc.proofs.VecSteps.Shapes.{after}
use Rattle.core.proofs.mem.Param.{El, R, args}
use Rattle.core.proofs.ptr.Rows.{times_below, one_below}
use Rattle.core.proofs.slice.Lists.{hd, any-default}
use Rattle.core.proofs.slots.Places.{sz}
use Rattle.core.proofs.slots.Lent.{none_at_null, value_lent}
use Rattle.core.specs.Mem.Slots.Ownership.{slots_lent}
use Rattle.flat_rows.proofs.Marks.{lent_is}
use Rattle.flat_rows.specs.contracts.places.Places.{the_row}
use Rattle.flat_rows.specs.contracts.places.Places.get.{ended, clauses}
use Rattle.flat_rows.specs.contracts.places.Places.get.Key.{name as #self}
use Rattle.flat_rows.proofs.places.Places.get.Statement.{statement}
use Rattle.flat_rows.proofs.places.Places.get.Code as code

pub get_spec : {M : Type 1} → statement M
get_spec 𝓤 𝓛 𝓜 𝓡 wired X L =
    let H = 𝓛.H in let 𝓣 = tables 𝓤 H 𝓜 𝓡 𝓡.env in let E : El = record { row = X; laws = L } in
    let Row : RattleType = the_row (R E) in
    let fn = inst_fn (args E) code.function in let En = ended X in
    let c = clauses X 𝓛 𝓜.mem 𝓡.returns in
    let self = RefOf (0 ∷ []) tt (plain (λ _. Row)) (λ _. tt) in
    let hs : Stays En.signature.params En.kept = (
      stay_dropped self yes,
      (
        stay_dropped (plain (λ _. RawPtr)) yes,
        (stay_dropped (plain (λ _. usize)) yes, tt),
      ),
    ) in
    let W = walk_of 𝓛 En hs c in
    proved 𝓛 En hs c 𝓜 𝓡 (
      Goes-dropped 𝓛 2 self yes (λ κs x f. refl),
      (
        Goes-dropped 𝓛 2 (plain (λ _. RawPtr)) yes (λ κs x f. refl),
        (Goes-dropped 𝓛 2 (plain (λ _. usize)) yes (λ κs x f. refl), tt),
      ),
    )
    (#self (args E)) fn (code.unfolded 𝓤 H 𝓜 𝓡 wired (X, tt))
    (λ κs. (shr_vals, (rawptr_vals, (uint_vals w64, tt))))
    (λ κs. (shr_Tells (named 0) κs.0 Row, (rawptr_Tells, (uint_Tells w64, tt))))
    (λ κs qs bounds a g are.
    let κ = κs.0 in let κ₁ = κs.1.0 in let q = qs.0 in let q₁ = qs.1.0 in
    let rb : ℕ = a.0.ref_ptr.0 in let ro : ℕ = a.0.ref_ptr.1 in
    let d : Row.Denot = a.0.now in let base : Ptr = a.1.0 in let i : ℕ = a.1.1.0 in
    let y : W.Ghost = (
      (
        κs,
        qs,
        bounds,
        a,
        (vptr rb ro ∷ [], (ptr_val base ∷ [], (vint w64 i ∷ [], tt))),
      ),
      g,
    ) in
    let Asks : Type 0 = (base ≡ d.at) × (i < length d.items) × (get_or d.filled i false ≡ true) in
    qed 𝓛 (((‵ (flft κ q) ⊛ ‵ (flft κ₁ q₁) ⊛ ‵ ftrue) ⊛ ‵
    (owns (types_at En.signature.params κs) a y.0.4)) ∷
    (raw (fact 𝓤 (κ₁ ⊑ X.lives)) ⊛ raw (fact 𝓤 Asks)) ∷ []) ∵
    move ! (1 ∷ []) $ split ! $ drop ! $ heard ! Asks (λ asked.
    let ix : i < length d.items = asked.1 in
    let same : length d.filled ≡ length d.items = d.even in
    let fx : i < length d.filled = omega arith in
    let other : X.Denot = hd d.items (omega arith) in let x : X.Denot = get_or d.items i other in
    split ! $ split ! $ move ! (2 ∷ []) $ fsplit ! $ fsplit ! $ drop ! $ keep ! (0 ∷ 2 ∷ 3 ∷ []) $
    unhide ! $ fsplit ! $ drop ! $
    rewrite ! 0 (λ (F : Fml). ‵ F) (lent_is (R E) d.at d.items d.filled κ (omega arith)) refl $
    fsplit ! $ flt_l ! (λ small.
    in_a_block ! d.at (λ p. slots_lent (R E) p d.items d.filled κ)
    (none_at_null E 𝓛 κ d.items d.filled i ix fx asked.2) (λ b o e.
    let s = sz E in let tiny : s < 2 ^ 64 = omega
    (arith, one_below (length d.items) s (2 ^ 63) (omega arith) small) in
    let far : i * s < 2 ^ 64 = omega
    (arith, times_below i (length d.items) s (2 ^ 63) (omega arith) small) in
    use1 𝓛 (‵ (hidden_shr (R E) κ x b (i * s + o)))
    (value_lent E 𝓛 κ b o d.items d.filled i other ix fx asked.2) $
    regoal ! (λ (p : Ptr). prop
    (WpFn 𝓤 H 𝓣.C 𝓣.Λ fn (vptr rb ro ∷ ptr_val p ∷ vint w64 i ∷ []) (W.post y))) (asked.0 ∙ e) refl
    $
    enter ! 𝓣.C 𝓣.Λ fn (vptr rb ro ∷ vptr b o ∷ vint w64 i ∷ []) (W.post y) $
    alloc_all ! (λ l. pass_all ! refl
    ((tt, tt), ((tt, tt), ((tt, record { fits = are.1.1.0.1 }), tt))) $
    let Ev = env fn.locals l in first ! $ blocks ! $
    sets ! (bin ! (get ! refl) (size_lit ! (record { fits = tiny })) (record { fits = far })) refl
    (tt, record { fits = far }) $
    sets ! (bin ! (get ! refl) (get ! refl) tt) refl (tt, tt) $
    sets_last ! (addr ! (through ! refl (stop !))) refl (tt, tt) $
    exec ! 𝓣.C 𝓣.Λ Ev (after 1 fn.body) (at_ret Ev (W.post y)) $
    sets ! (of_opd ! (get ! refl)) refl (tt, tt) $
    returns ! (look_at ! 0 refl) $ free_all ! refl $
    -- [a `&` to the value; self's token; the other token]
    let r : Bor X.Denot = record { ref_ptr = (b, i * s + o); now = x } in
    let Told : Type 0 = x ≡ get_or d.items i x in
    feq_i ! (List Val) (vptr b (i * s + o) ∷ []) (vptr b (i * s + o) ∷ []) refl $ fjoin ! $
    move ! (1 ∷ 2 ∷ []) $ join ! $ use0 𝓛 (raw (fact 𝓤 Told))
    (fact_i 𝓤 Told (emp 𝓤) (any-default d.items i other x ix)) $
    nothing ! $ nothing ! $ fjoin ! $ nothing ! $ fjoin ! $ nothing ! $ fjoin ! $
    move ! (2 ∷ 0 ∷ 3 ∷ 1 ∷ []) $
    by ! (leaves 𝓛 En hs c y (vptr b (i * s + o)) r (tt, (tt, (tt, tt))) (tt, (tt, (tt, tt)))))))))
