-- `allocate` asks the allocator for a block, and cuts it into empty places.
use Rattle.std.proofs.Common.{◌≡◌, ℕ, ◌*◌, ◌^◌, ◌<◌, List, [], ◌∷◌, Bool, true, false, length}
use Rattle.std.proofs.Common.{replicate, refl, sym, ap, subst, arith, lit<, w64, IfOk, Ok, Err}
use mir.Syntax.{Ty, Body, named, ty_array}
use mir.Val.{Val, vint, vptr, vstruct, vcons, vnil, WT}
use mir.MapTy.{inst_fn}
use base.Fml.{Fml, ftrue, froom, flft, Incl-trans}
use base.Logic.{SProp, emp}
use prog.Capped.{capped_fits}
use prog.Memory.{align, capped}
use prog.Wp.{Wp, after_seq, at_return}
use contract.BorrowLft.{◌⊑◌}
use contract.Monad.{fact, fact_i}
use contract.Running.{tables}
use types.Kit.{Post as After, any_q, ‵, raw, ◌⊛◌, later, at_ret, ◌$◌, ◌∵◌, !, qed, by, move, keep}
use types.Kit.{drop, use0, use1, use2, split, join, rewrite, fsplit, fjoin, fpack, feq_i, flt_i}
use types.Kit.{await}
use types.Match.{live, vrt, in_variant}
use types.Part.{whole, agg}
use types.Run.{stop, fld, lit, size_word, align_word, no_more, and_then, of_opd, bin, first}
use types.Run.{switches_on, exec, returns, enter}
use types.ByLocal.{alloc_all, pass_all, free_all, look_at, get, get_in, get_tag, is, sets}
use types.ByLocal.{sets_last, lands_as, env}
use denote.Builtin.{usize, RefOf}
use denote.Exit.{yes}
use denote.Laws.{Is}
use denote.Param.{param}
use denote.Plain.{uint_vals, uint_Tells}
use denote.RattleType.{RattleType, Valss, owns}
use denote.RawPtr.{Ptr, RawPtr, block_ptr, ptr_val}
use denote.Ref.{shr_vals, shr_Tells}
use denote.Signature.{plain, types_at}
use denote.Steps.{heard, nothing, owned}
use denote.Struct.Declared as Declared
use denote.Struct.Struct.{Struct, Struct-Makes, within}
use denote.Struct.Tuple.{Tuple, tuple_type}
use denote.Triple.Call.{calls_at}
use denote.Triple.Table.{framed}
use denote.Triple.Walked.{Stays, stay_dropped, walk_of, Goes-dropped}
use Rattle.std.proofs.lemmas.List.{length-replicate}
use Rattle.std.proofs.raw_atomic.Walks.{proved, leaves}
use Rattle.std_alloc.proofs.ResultValues.{ok_of, err_of}
use Rattle.std_alloc.proofs.VecSteps.Shapes.{after, head, arm_body}
use Rattle.std.specs.Vec.Ownership.{FitsInBlock}
use Rattle.core.proofs.alloc.Calls.{Al, token, Answer-typed, Takes, at_takes, Answered, Takes-goes}
use Rattle.core.proofs.alloc.Calls.{Takes-gives, answers}
use Rattle.core.proofs.mem.Param.{El, R, elτ}
use Rattle.core.proofs.slots.Leases.{uncapped, block_ty, block_size, block_align, args}
use Rattle.core.proofs.slots.Places.{sz, of_room}
use Rattle.core.specs.Mem.Slots.Ownership.{slots}
use Rattle.core.specs.contracts.alloc.AllocError as AE
use Rattle.core.specs.contracts.result.Result as RS
use Rattle.flat_rows.proofs.Marks.{mark, PlacesMark, places_marked, DeedMark, deed_marked}
use Rattle.flat_rows.proofs.Marks.{owned_is, leased_is}
use Rattle.flat_rows.specs.contracts.places.Places as P-type
use Rattle.flat_rows.specs.contracts.places.Deed as D-type
use Rattle.flat_rows.specs.contracts.places.allocate.{ended, clauses}
use Rattle.flat_rows.specs.contracts.places.allocate.Key.{name as #self}
use Rattle.flat_rows.proofs.places.allocate.Statement.{statement}
use Rattle.flat_rows.proofs.places.allocate.Code as code

pub allocate_spec : {M : Type 1} → statement M
allocate_spec 𝓤 𝓛 𝓜 𝓡 wired X U L LU g d dd met _ =
    let H = 𝓛.H in let 𝓣 = tables 𝓤 H 𝓜 𝓡 𝓡.env in let fm = framed 𝓤 H 𝓜 𝓣 in
    let W : RattleType = param 1 U in
    let E : El = record { row = X; laws = L } in
    let Z : Al = record { row = U; laws = LU; g = g; d = d; drops = dd } in
    let Row : RattleType = P-type.the_row (R E) in let Dd : RattleType = D-type.the_row (R E) W g in
    let Three : RattleType = Tuple (RawPtr ∷ Row ∷ Dd ∷ []) in
    let Out : RattleType = RS.the_row Three AE.the_row in
    let fn = inst_fn (args E Z) code.function in let En = ended X U g d dd in
    let c = clauses X U g d dd 𝓛 𝓜.mem 𝓡.returns in
    let heap = RefOf (0 ∷ []) tt (plain (λ _. W)) (λ _. tt) in
    let like = RefOf (1 ∷ []) tt (plain (λ _. R E)) (λ _. tt) in
    let hs : Stays En.signature.params En.kept =
    (stay_dropped heap yes, (stay_dropped (plain (λ _. usize)) yes, (stay_dropped like yes, tt))) in
    let Walk = walk_of 𝓛 En hs c in
    proved 𝓛 En hs c 𝓜 𝓡 (
      Goes-dropped 𝓛 4 heap yes (λ κs x f. refl),
      (
        Goes-dropped 𝓛 4 (plain (λ _. usize)) yes (λ κs x f. refl),
        (Goes-dropped 𝓛 4 like yes (λ κs x f. refl), tt),
      ),
    )
    (#self (args E Z)) fn (code.unfolded 𝓤 H 𝓜 𝓡 wired (X, (U, tt)) d dd)
    (λ κs. (shr_vals, (uint_vals w64, (shr_vals, tt))))
    (λ κs. (shr_Tells (named 0) κs.0 W, (uint_Tells w64, (shr_Tells (named 1) κs.1.0 (R E), tt))))
    (λ κs qs bounds a gh are.
    let κ = κs.0 in let κ₁ = κs.1.0 in let κ₂ = κs.1.1.0 in let κ₃ = κs.1.1.1.0 in
    let q = qs.0 in let q₁ = qs.1.0 in let q₂ = qs.1.1.0 in let q₃ = qs.1.1.1.0 in
    let hp : ℕ × ℕ = a.0.ref_ptr in let h : U.Denot = a.0.now in let n : ℕ = a.1.0 in
    let fp : ℕ × ℕ = a.1.1.0.ref_ptr in let x : X.Denot = a.1.1.0.now in
    let s : ℕ = sz E in let al : ℕ = capped (align (elτ E)) in let τ : Ty = block_ty E n in
    let y : Walk.Ghost = (
      (
        κs,
        qs,
        bounds,
        a,
        (vptr hp.0 hp.1 ∷ [], (vint w64 n ∷ [], (vptr fp.0 fp.1 ∷ [], tt))),
      ),
      gh,
    ) in
    let Post : Val → SProp 𝓤 = Walk.post y in
    let Asks : Type 0 = (0 < n) × FitsInBlock (R E) n in
    let Told : Out.Denot → Type 0 = λ r. IfOk r
    (λ k. (k.1.at ≡ k.0) × (k.1.items ≡ replicate n x) × (k.2.at ≡ k.0) × (k.2.len ≡ n) ×
    (k.2.heap ≡ h)) in
    qed 𝓛 (((‵ (flft κ q) ⊛ ‵ (flft κ₁ q₁) ⊛ ‵ (flft κ₂ q₂) ⊛ ‵ (flft κ₃ q₃) ⊛ ‵ ftrue) ⊛ ‵
    (owns (types_at En.signature.params κs) a y.0.4)) ∷
    (raw (fact 𝓤 (κ₂ ⊑ X.lives)) ⊛ raw (fact 𝓤 (κ₃ ⊑ U.lives)) ⊛ raw (fact 𝓤 Asks)) ∷ []) ∵
    move ! (1 ∷ []) $ split ! $ drop ! $ split ! $
    heard ! (κ₃ ⊑ U.lives) (λ lives. heard ! Asks (λ ok.
    let some : 0 < n = ok.0 in let small : n * s < 2 ^ 63 = ok.1.0 in
    let bytes : n * s < 2 ^ 64 = omega arith in
    split ! $ split ! $ move ! (2 ∷ []) $ fsplit ! $ fsplit ! $ keep ! (1 ∷ 3 ∷ 4 ∷ []) $
    enter ! 𝓣.C 𝓣.Λ fn (vptr hp.0 hp.1 ∷ vint w64 n ∷ vptr fp.0 fp.1 ∷ []) Post $
    alloc_all ! (λ l. pass_all ! refl
    ((tt, tt), ((tt, record { fits = are.1.0.1 }), ((tt, tt), tt))) $ let Ev = env fn.locals l in
    let both : Body = head (after 2 fn.body) in
    let Then : After 𝓤 H = any_q
    (after_seq 𝓤 H (Wp 𝓤 H 𝓣.C 𝓣.Λ Ev (after 3 fn.body) (at_return 𝓤 H Ev Post))
    (at_return 𝓤 H Ev Post)) in
    let t : (Takes Z 𝓛 𝓜.mem 𝓡.returns).Ghost = at_takes Z 𝓛 𝓜.mem 𝓡.returns κ q hp h (n * s) al τ
    in
    sets ! (is ! (bin ! (get ! refl) (size_word !)
    (record { fits = subst (λ (k : ℕ). k < 2 ^ 64) (sym (uncapped n s bytes)) bytes }))
    (ap (vint w64) (uncapped n s bytes))) refl (tt, record { fits = bytes }) $
    use2 𝓛 (raw ((Takes Z 𝓛 𝓜.mem 𝓡.returns).pre t))
    (Takes-goes Z 𝓛 𝓜.mem 𝓡.returns κ q hp h (Incl-trans bounds.0 lives) (n * s) al τ
    (block_size E n bytes) (block_align E n) bytes (capped_fits (align (elτ E)))) $
    calls_at ! fm (Takes Z 𝓛 𝓜.mem 𝓡.returns) (met.allocate dd) t
    (and_then ! (get ! refl) (and_then ! (get ! refl) (and_then ! (align_word !) (no_more !))))
    (λ v.
    use1 𝓛 (later (raw (Answered Z 𝓛 𝓜.mem 𝓡.returns h τ v) ⊛ ‵ (flft κ q)))
    (Takes-gives Z 𝓛 𝓜.mem 𝓡.returns κ q hp h (n * s) al τ v) $ await ! tt $ split ! $
    move ! (1 ∷ 2 ∷ []) $ join ! $ move ! (1 ∷ []) $ answers Z ! 𝓜.mem 𝓡.returns h τ v
    (λ b o e.
    let p : Ptr = block_ptr b o in let xs : List X.Denot = replicate n x in
    let fs : List Bool = replicate (length xs) false in
    let long : length xs ≡ n = length-replicate n x in
    let new : Row.Denot = record
    { mark = record {}; at = p; items = xs; filled = fs; even = length-replicate (length xs) false }
    in
    let deed : Dd.Denot = record { mark = record {}; at = p; len = n; heap = h } in
    let three : Val = vstruct (vcons (vptr b o) (vcons mark (vcons mark vnil))) in
    let typed : WT three = (tt, ((tt, tt), ((tt, tt), tt))) in
    let r : Val = live 0 (vcons three vnil) in
    let all : WT r = (record { fits = lit< tt }, (typed, tt)) in
    lands_as ! e refl (Answer-typed true b o) $ first ! $
    switches_on ! (get_tag ! (vrt ! refl (fld ! refl (stop !))) (whole !)) $
    exec ! 𝓣.C 𝓣.Λ Ev (arm_body 0 both) Then $
    sets ! (of_opd ! (get_in ! (vrt ! refl (fld ! refl (stop !)))
    (in_variant ! 0 0 refl refl (whole !)))) refl (tt, tt) $
    sets ! (of_opd ! (get ! refl)) refl (tt, tt) $
    sets ! (agg ! (no_more !)) refl (tt, tt) $
    sets ! (agg ! (and_then ! (get ! refl) (no_more !))) refl (tt, (tt, tt)) $
    sets ! (agg ! (no_more !)) refl (tt, tt) $
    sets ! (agg ! (and_then ! (get ! refl) (no_more !))) refl (tt, (tt, tt)) $
    sets ! (agg ! (and_then ! (get ! refl)
    (and_then ! (get ! refl) (and_then ! (get ! refl) (no_more !))))) refl (tt, typed) $
    sets_last ! (agg ! (and_then ! (lit ! tt) (and_then ! (get ! refl) (no_more !)))) refl (tt, all)
    $
    exec ! 𝓣.C 𝓣.Λ Ev (after 3 fn.body) (at_ret Ev Post) $
    sets ! (of_opd ! (get ! refl)) refl (tt, all) $
    -- [the room; the right to free it; the tokens]
    use1 𝓛 (‵ (froom (ty_array (elτ E) n) b o)) (𝓛.laws.raw-room (ty_array (elτ E) n) b o) $
    rewrite ! 0 (λ (k : ℕ). ‵ (froom (ty_array (elτ E) k) b o)) (sym long) refl $
    use1 𝓛 (‵ (slots (R E) p xs fs)) (of_room E 𝓛 b xs o) $
    flt_i ! (length xs * s) (2 ^ 63) (subst (λ (k : ℕ). k * s < 2 ^ 63) (sym long) small) $
    fjoin ! $
    rewrite ! 0 (λ (F : Fml). ‵ F)
    (sym (owned_is (R E) p xs fs (subst (λ (k : ℕ). 0 < k) (sym long) some))) refl $
    use0 𝓛 (‵ ((PlacesMark (R E)).own_val (tt, tt) (mark ∷ []))) (places_marked (R E) 𝓛) $
    fjoin ! $ move ! (1 ∷ []) $
    rewrite ! 0 (λ (F : Fml). ‵ F) (sym (leased_is (R E) (token Z h) p n some)) refl $
    use0 𝓛 (‵ ((DeedMark (R E) W g).own_val (tt, tt) (mark ∷ []))) (deed_marked (R E) W g 𝓛) $
    fjoin ! $
    nothing ! $ move ! (1 ∷ 0 ∷ []) $ fjoin ! $ move ! (1 ∷ 0 ∷ []) $ fjoin ! $
    feq_i ! (List Val) (vptr b o ∷ []) (ptr_val p ∷ []) refl $ fjoin ! $
    feq_i ! (List Val) (three ∷ []) (three ∷ []) refl $ fjoin ! $
    fpack ! (Valss (RawPtr ∷ Row ∷ Dd ∷ []))
    (within (Declared.shape (tuple_type (RawPtr ∷ Row ∷ Dd ∷ []))) (p, (new, (deed, tt)))
    (three ∷ [])) (vptr b o ∷ [], (mark ∷ [], (mark ∷ [], tt))) $
    use1 𝓛 (‵ (Out.own_val (Ok (p, new, deed)) (r ∷ [])))
    (ok_of 𝓛 Three AE.the_row (p, new, deed) three) $
    use0 𝓛 (raw (fact 𝓤 (Told (Ok (p, new, deed)))))
    (fact_i 𝓤 (Told (Ok (p, new, deed))) (emp 𝓤) (refl, refl, refl, refl, refl)) $
    nothing ! $ nothing ! $ fjoin ! $ nothing ! $ fjoin ! $ nothing ! $ fjoin ! $
    returns ! (look_at ! 0 refl) $ free_all ! refl $ keep ! (3 ∷ 0 ∷ 2 ∷ 1 ∷ []) $
    by ! (leaves 𝓛 En hs c y r (Ok (p, new, deed)) (tt, (tt, (tt, tt))) (tt, (tt, (tt, tt)))))
    (λ e.
    let u : Val = vstruct vnil in let r : Val = live 1 (vcons u vnil) in
    let all : WT r = (record { fits = lit< tt }, (tt, tt)) in
    let Refused : RattleType = Struct (Declared.shape AE.the_type) in
    lands_as ! e refl (Answer-typed false 0 0) $ first ! $
    switches_on ! (get_tag ! (vrt ! refl (fld ! refl (stop !))) (whole !)) $
    exec ! 𝓣.C 𝓣.Λ Ev (arm_body 1 both) Then $
    sets ! (of_opd ! (get_in ! (vrt ! refl (fld ! refl (stop !)))
    (in_variant ! 1 0 refl refl (whole !)))) refl (tt, tt) $
    sets_last ! (agg ! (and_then ! (lit ! tt) (and_then ! (get ! refl) (no_more !)))) refl (tt, all)
    $
    exec ! 𝓣.C 𝓣.Λ Ev (after 3 fn.body) (at_ret Ev Post) $
    sets ! (of_opd ! (get ! refl)) refl (tt, all) $
    owned ! Refused (Is Refused) (Struct-Makes 𝓛 (Declared.shape AE.the_type) tt) tt (u ∷ [])
    (tt, (refl, tt)) $
    use1 𝓛 (‵ (Out.own_val (Err (record {})) (r ∷ []))) (err_of 𝓛 Three AE.the_row (record {}) u) $
    use0 𝓛 (raw (fact 𝓤 (Told (Err (record {}))))) (fact_i 𝓤 (Told (Err (record {}))) (emp 𝓤) tt) $
    nothing ! $ nothing ! $ fjoin ! $ nothing ! $ fjoin ! $ nothing ! $ fjoin ! $
    returns ! (look_at ! 0 refl) $ free_all ! refl $ keep ! (3 ∷ 0 ∷ 2 ∷ 1 ∷ []) $
    by ! (leaves 𝓛 En hs c y r (Err (record {})) (tt, (tt, (tt, tt))) (tt, (tt, (tt, tt))))))))))
