-- `deallocate` makes room of the places, and hands it back with the right to free it.
use Rattle.std.proofs.Common.{◌≡◌, ℕ, ◌*◌, ◌^◌, ◌<◌, T, List, [], ◌∷◌, length, refl, sym, ap, subst}
use Rattle.std.proofs.Common.{◌∙◌, arith, w64}
use mir.Syntax.{Ty, named, ty_unit, ty_array}
use mir.Val.{Val, vint, vptr, vunit, has_ty, WT}
use mir.MapTy.{inst_fn}
use base.Fml.{Fml, ftrue, froom, flft, Incl-trans}
use base.Logic.{SProp, never, id⊢}
use prog.Capped.{capped_fits}
use prog.Memory.{align, capped}
use prog.Wp.{WpFn}
use contract.BorrowLft.{◌⊑◌}
use contract.Monad.{fact}
use contract.Running.{tables}
use types.Kit.{‵, raw, ◌⊛◌, given, later, at_ret, prop, ◌$◌, ◌∵◌, !, qed, by, move, keep, drop}
use types.Kit.{use1, use3, split, join, learn, rewrite, regoal, fsplit, fjoin, feq_i, flt_l, await}
use types.Run.{size_word, align_word, unit_lit, no_more, and_then, of_opd, bin, first, blocks, exec}
use types.Run.{returns, enter}
use types.ByLocal.{alloc_all, pass_all, free_all, look_at, get, is, sets, lands_last, env}
use denote.Builtin.{usize, RefOf}
use denote.Exit.{yes, no}
use denote.Param.{param}
use denote.Plain.{uint_vals, uint_Tells}
use denote.RattleType.{RattleType, owns}
use denote.RawPtr.{Ptr, RawPtr, block_ptr, ptr_val, rawptr_vals, rawptr_Tells, in_block, in_a_block}
use denote.Ref.{shr_vals, shr_Tells}
use denote.Signature.{plain, types_at}
use denote.Steps.{heard, nothing}
use denote.Triple.Call.{calls_at_last}
use denote.Triple.Table.{framed}
use denote.Triple.Walked.{Stays, stay_dropped, walk_of, Goes-dropped}
use Rattle.std.proofs.raw_atomic.Walks.{proved, leaves}
use Rattle.std_alloc.proofs.VecSteps.Shapes.{after}
use Rattle.core.proofs.alloc.Calls.{Al, token, Gives, at_gives, Gives-goes, Gives-Gives}
use Rattle.core.proofs.mem.Param.{El, R, elτ}
use Rattle.core.proofs.slots.Leases.{uncapped, block_ty, block_size, block_align, args}
use Rattle.core.proofs.slots.Places.{sz, to_room}
use Rattle.core.specs.Mem.Slots.Ownership.{slots}
use Rattle.flat_rows.specs.Ownership.{deed_own}
use Rattle.flat_rows.proofs.Marks.{mark, places_told, deed_told, owned_is, leased_is}
use Rattle.flat_rows.specs.contracts.places.Places as P-type
use Rattle.flat_rows.specs.contracts.places.Deed as D-type
use Rattle.flat_rows.specs.contracts.places.deallocate.{ended, clauses}
use Rattle.flat_rows.specs.contracts.places.deallocate.Key.{name as #self}
use Rattle.flat_rows.proofs.places.deallocate.Statement.{statement}
use Rattle.flat_rows.proofs.places.deallocate.Code as code

pub deallocate_spec : {M : Type 1} → statement M
deallocate_spec 𝓤 𝓛 𝓜 𝓡 wired X U L LU g d dd met _ =
    let H = 𝓛.H in let 𝓣 = tables 𝓤 H 𝓜 𝓡 𝓡.env in let fm = framed 𝓤 H 𝓜 𝓣 in
    let W : RattleType = param 1 U in
    let E : El = record { row = X; laws = L } in
    let Z : Al = record { row = U; laws = LU; g = g; d = d; drops = dd } in
    let Row : RattleType = P-type.the_row (R E) in let Dd : RattleType = D-type.the_row (R E) W g in
    let fn = inst_fn (args E Z) code.function in let En = ended X U g d dd in
    let c = clauses X U g d dd 𝓛 𝓜.mem 𝓡.returns in
    let heap = RefOf (0 ∷ []) tt (plain (λ _. W)) (λ _. tt) in
    let hs : Stays En.signature.params En.kept = (
      stay_dropped heap yes,
      (
        stay_dropped (plain (λ _. RawPtr)) yes,
        (
          stay_dropped (plain (λ _. usize)) yes,
          (stay_dropped (plain (λ _. Row)) no, (stay_dropped (plain (λ _. Dd)) no, tt)),
        ),
      ),
    ) in
    let Walk = walk_of 𝓛 En hs c in
    proved 𝓛 En hs c 𝓜 𝓡 (
      Goes-dropped 𝓛 3 heap yes (λ κs x f. refl),
      (
        Goes-dropped 𝓛 3 (plain (λ _. RawPtr)) yes (λ κs x f. refl),
        (
          Goes-dropped 𝓛 3 (plain (λ _. usize)) yes (λ κs x f. refl),
          (
            Goes-dropped 𝓛 3 (plain (λ _. Row)) no (λ κs x f. refl),
            (Goes-dropped 𝓛 3 (plain (λ _. Dd)) no (λ κs x f. refl), tt),
          ),
        ),
      ),
    )
    (#self (args E Z)) fn (code.unfolded 𝓤 H 𝓜 𝓡 wired (X, (U, tt)) d dd)
    (λ κs. (shr_vals, (rawptr_vals, (uint_vals w64, ((λ x. mark ∷ []), ((λ x. mark ∷ []), tt))))))
    (λ κs. (
      shr_Tells (named 0) κs.0 W,
      (
        rawptr_Tells,
        (
          uint_Tells w64,
          ((λ x vs is. places_told (R E) vs is.0), ((λ x vs is. deed_told (R E) W g vs is.0), tt)),
        ),
      ),
    ))
    (λ κs qs bounds a gh are.
    let κ = κs.0 in let κ₁ = κs.1.0 in let κ₂ = κs.1.1.0 in let q = qs.0 in let q₁ = qs.1.0 in
    let q₂ = qs.1.1.0 in
    let hp : ℕ × ℕ = a.0.ref_ptr in let h : U.Denot = a.0.now in let base : Ptr = a.1.0 in
    let n : ℕ = a.1.1.0 in let p : Row.Denot = a.1.1.1.0 in let r : Dd.Denot = a.1.1.1.1.0 in
    let s : ℕ = sz E in let al : ℕ = capped (align (elτ E)) in let τ : Ty = block_ty E n in
    let y : Walk.Ghost = (
      (
        κs,
        qs,
        bounds,
        a,
        (vptr hp.0 hp.1 ∷ [], (ptr_val base ∷ [], (vint w64 n ∷ [], (mark ∷ [], (mark ∷ [], tt))))),
      ),
      gh,
    ) in let Post : Val → SProp 𝓤 = Walk.post y in
    let Asks : Type 0 = (0 < n) × (p.at ≡ base) × (length p.items ≡ n) × (r.at ≡ base) × (r.len ≡ n)
    × (r.heap ≡ h) in
    qed 𝓛 (((‵ (flft κ q) ⊛ ‵ (flft κ₁ q₁) ⊛ ‵ (flft κ₂ q₂) ⊛ ‵ ftrue) ⊛ ‵
    (owns (types_at En.signature.params κs) a y.0.4)) ∷
    (raw (fact 𝓤 (κ₁ ⊑ X.lives)) ⊛ raw (fact 𝓤 (κ₂ ⊑ U.lives)) ⊛ raw (fact 𝓤 Asks)) ∷ []) ∵
    move ! (1 ∷ []) $ split ! $ drop ! $ split ! $
    heard ! (κ₂ ⊑ U.lives) (λ within. heard ! Asks (λ ok.
    let some : 0 < n = ok.0 in let long : length p.items ≡ n = ok.2 in
    split ! $ split ! $ move ! (2 ∷ []) $ fsplit ! $ fsplit ! $ move ! (2 ∷ []) $ fsplit ! $
    move ! (1 ∷ []) $ fsplit ! $ move ! (1 ∷ []) $ fsplit ! $ fsplit ! $ move ! (2 ∷ []) $
    fsplit ! $ fsplit ! $
    -- [the deed; the places; the handle; its token; the other tokens]
    keep ! (1 ∷ 4 ∷ 8 ∷ 9 ∷ 10 ∷ []) $ move ! (1 ∷ []) $
    rewrite ! 0 (λ (F : Fml). ‵ F) (owned_is (R E) p.at p.items p.filled (omega arith)) refl $
    fsplit ! $ flt_l ! (λ fit.
    in_a_block ! p.at (λ z. in_block z (slots (R E) z p.items p.filled)) (id⊢ 𝓤 (never 𝓤)) (λ b o e.
    let at : base ≡ block_ptr b o = sym ok.1 ∙ e in
    let small : n * s < 2 ^ 63 = subst (λ (k : ℕ). k * s < 2 ^ 63) long fit in
    let bytes : n * s < 2 ^ 64 = omega arith in
    use1 𝓛 (‵ (froom (ty_array (elτ E) (length p.items)) b o))
    (to_room E 𝓛 b p.items p.filled o p.even) $
    rewrite ! 0 (λ (k : ℕ). ‵ (froom (ty_array (elτ E) k) b o)) long refl $
    use1 𝓛 (‵ (froom τ b o)) (𝓛.laws.room-raw (ty_array (elτ E) n) b o) $
    rewrite ! 1 (λ (w : U.Denot × Ptr × ℕ). ‵ (deed_own (R E) (token Z w.0) w.1 w.2))
    {x = (h, block_ptr b o, n)} {y = (r.heap, r.at, r.len)} (λ k. (ok.5 k, (ok.3 ∙ at) k, ok.4 k))
    refl $
    rewrite ! 1 (λ (F : Fml). ‵ F) (leased_is (R E) (token Z h) (block_ptr b o) n some) refl $
    regoal ! (λ (z : Ptr). prop
    (WpFn 𝓤 H 𝓣.C 𝓣.Λ fn (vptr hp.0 hp.1 ∷ ptr_val z ∷ vint w64 n ∷ mark ∷ mark ∷ []) Post)) at refl
    $
    enter ! 𝓣.C 𝓣.Λ fn (vptr hp.0 hp.1 ∷ vptr b o ∷ vint w64 n ∷ mark ∷ mark ∷ []) Post $
    alloc_all ! (λ l. pass_all ! refl (
      (tt, tt),
      (
        (tt, tt),
        (
          (tt, record { fits = are.1.1.0.1 }),
          ((tt, (tt, tt)), ((tt, (tt, tt)), tt)),
        ),
      ),
    ) $ let Ev = env fn.locals l in
    let t : (Gives Z 𝓛 𝓜.mem 𝓡.returns).Ghost = at_gives Z 𝓛 𝓜.mem 𝓡.returns κ q hp h b o (n * s) al
    τ in
    first ! $ blocks ! $ sets ! (of_opd ! (get ! refl)) refl (tt, tt) $
    sets ! (is ! (bin ! (get ! refl) (size_word !)
    (record { fits = subst (λ (k : ℕ). k < 2 ^ 64) (sym (uncapped n s bytes)) bytes }))
    (ap (vint w64) (uncapped n s bytes))) refl (tt, record { fits = bytes }) $
    move ! (2 ∷ 3 ∷ []) $ join ! $ move ! (1 ∷ 2 ∷ 0 ∷ []) $
    use3 𝓛 (raw ((Gives Z 𝓛 𝓜.mem 𝓡.returns).pre t))
    (Gives-goes Z 𝓛 𝓜.mem 𝓡.returns κ q hp h (Incl-trans bounds.0 within) b o (n * s) al τ
    (block_size E n bytes) (block_align E n) bytes (capped_fits (align (elτ E)))) $
    calls_at_last ! fm (Gives Z 𝓛 𝓜.mem 𝓡.returns) (met.deallocate dd) t
    (and_then ! (get ! refl) (and_then ! (get ! refl)
    (and_then ! (get ! refl) (and_then ! (align_word !) (no_more !))))) (λ v.
    use1 𝓛 (later (given (v ≡ vunit) (‵ (flft κ q))))
    (Gives-Gives Z 𝓛 𝓜.mem 𝓡.returns κ q hp h b o (n * s) al τ v) $ await ! tt $ learn ! (λ e₀.
    lands_last ! refl (subst (λ (u : Val). T (has_ty ty_unit u) × WT u) (sym e₀) (tt, tt)) $
    exec ! 𝓣.C 𝓣.Λ Ev (after 1 fn.body) (at_ret Ev Post) $
    sets ! (of_opd ! (unit_lit !)) refl (tt, tt) $ returns ! (look_at ! 0 refl) $ free_all ! refl $
    join ! $ nothing ! $ feq_i ! (List Val) (vunit ∷ []) (vunit ∷ []) refl $
    nothing ! $ nothing ! $ fjoin ! $ nothing ! $ fjoin ! $ nothing ! $ fjoin ! $ nothing ! $
    fjoin ! $ nothing ! $ fjoin ! $ keep ! (3 ∷ 0 ∷ 1 ∷ 2 ∷ []) $
    by ! (leaves 𝓛 En hs c y vunit tt (tt, (tt, (tt, (tt, (tt, tt)))))
    (tt, (tt, (tt, (tt, (tt, tt))))))))))))))
