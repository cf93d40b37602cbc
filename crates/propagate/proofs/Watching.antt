-- A waiting clause finds its place.
use Rattle.std.proofs.Common.{◌≡◌, ◌≢◌, ℕ, ◌+◌, ◌<◌, Bool, true, false, List, [], ◌∷◌, ◌++◌, take}
use Rattle.std.proofs.Common.{length, set, Option, Some, None, ◌⊎◌, inl, inr, refl, sym, ◌∙◌, ap}
use Rattle.std.proofs.Common.{subst, arith}
use Rattle.std.specs.Prelude.{All, Contains}
use Rattle.std.specs.List.{AllByRecursion}
use Rattle.std.proofs.lemmas.Bool.{cases_eq, false_from_ne_true}
use Rattle.std.proofs.lemmas.List.{get_or-set_same, get_or-set_other, length-set, set-set}
use Rattle.std.proofs.lemmas.List.{set-get_or, take_at}
use Rattle.cnf.specs.Literal.{Literal, negation, index_of}
use Rattle.cnf.specs.Clause.{contains_literal}
use Rattle.cnf.proofs.Laws.{all_append}
use Rattle.clauses.specs.Slots.{Slots, clause_at}
use Rattle.propagate_watches.specs.declared.pool.WatchEntry.{WatchEntry}
use Rattle.propagate_watches.specs.declared.table.Rest.{Rest}
use Rattle.propagate_watches.specs.declared.table.Attachment.TheVariants.{Waiting, Satisfied}
use Rattle.propagate_watches.specs.declared.table.Attachment.TheVariants.{Watching}
use Rattle.propagate_watches.specs.Pool.{row_at, with_row}
use Rattle.propagate_watches.specs.Table.{is_kept, attachment_in, grown_table, IsWatching}
use Rattle.propagate_watches.proofs.Laws.{attachment_set_other, attachment_set_same}
use Rattle.propagate_trail.specs.Trail.{literals_of, depth_of, level_in, value_in, kept_to}
use Rattle.propagate.specs.Watches.{EngineState, IsEngine, is_attached, watches_at, one_at}
use Rattle.propagate.specs.Watches.{count_in}
use Rattle.propagate.specs.Fits.{Fits, FitsAttachment, IsRest, IsWatch, IsWithin, HasBlocker}
use Rattle.propagate.specs.Fits.{HasTrue}
use Rattle.propagate.specs.Steps.{entry_of, pushed, watched, with_attachment, with_trail, Continues}
use Rattle.propagate.specs.Steps.{IsMadeTrue, with_room}
use Rattle.propagate_trail.proofs.Laws.{index-within, kept_all, contains_take, in_kept}
use Rattle.propagate_trail.proofs.Laws.{no_tautology, made}
use Rattle.propagate.proofs.Attachments.{fits_attachment, blockers_kept, count-cons, one-same}
use Rattle.propagate.proofs.Attachments.{one-other, watch_same, with_watches}
use Rattle.propagate.proofs.Attaching.{kept_within, fits_attach, engine_change, engine_set}
use Rattle.propagate.proofs.Attaching.{attachment_grown, length-grown}
use Rattle.propagate.proofs.Waiting.{fits_listed}
use Rattle.propagate.proofs.Looking.{within_variable, unit_left, one_left, true_value}
use Rattle.propagate.proofs.Stepping.{count-append, open_watch, last_true}
use Rattle.propagate.proofs.Continuing.{continues_unit, continues_same}
use Rattle.propagate.proofs.Fitting.{fits_grow}

-- a literal of the current level, beside a true one
pub level_watch : (e : EngineState) (c : List Literal) (one other : Literal)
    → contains_literal one c ≡ true → contains_literal one (literals_of e.trail) ≡ true
    → contains_literal other c ≡ true → level_in e.trail other.variable ≡ Some (depth_of e.trail)
    → IsWatch e c other
level_watch e c one other m t n at = record {
  member = n;
  covered = λ _. (one, m, t);
  stays = λ to k.
      let here =
      in_kept to e.trail (negation other) (depth_of e.trail)
      (contains_take (negation other) e.watches.stable_qhead
      (literals_of (kept_to to e.trail)) k) at in
      subst (λ X. HasTrue c (literals_of X)) (sym (kept_all to e.trail here)) (one, m, t);
}

pub true_watch : (e : EngineState) (slots : Slots) (c : List Literal) (one : Literal) → Fits e slots
    → contains_literal one c ≡ true → contains_literal one (literals_of e.trail) ≡ true
    → IsWatch e c one
true_watch e slots c one fits m t =
    open_watch e c one m (false_from_ne_true (contains_literal (negation one) (literals_of e.trail))
    (λ f. no_tautology (clause_at slots) e.trail fits.reasons one t f))

count_pushed : (R : List (List WatchEntry)) (l : Literal) (w : WatchEntry) (q k : ℕ)
    → index_of l < length R
    → w.reference ≡ q → count_in q (row_at (pushed R l w) k) ≡ count_in q (row_at R k) + one_at
    (index_of l) k
count_pushed R l w q k lt same = elim (cases_eq k (index_of l)) [
  | inl at ↦ subst (λ z. count_in q (row_at (pushed R l w) z) ≡ count_in q (row_at R z) + one_at
      (index_of l) z) (sym at)
      (let a = ap (count_in q) (get_or-set_same R (index_of l) (row_at R (index_of l) ++ w ∷ []) []
      lt) ∙ count-append q (row_at R (index_of l)) (w ∷ []) in
      let b = count-cons q w [] in let d = one-same w.reference q same in
      let g = one-same (index_of l) (index_of l) refl in omega arith)
  | inr ne ↦ ap (count_in q) (get_or-set_other R (index_of l) k (row_at R (index_of l) ++ w ∷ []) []
      ne) ∙ (let g = one-other (index_of l) k (λ h. ne (sym h)) in omega arith)
]

count_pushed_other : (R : List (List WatchEntry)) (l : Literal) (w : WatchEntry) (q k : ℕ)
    → index_of l < length R → w.reference ≢ q
    → count_in q (row_at (pushed R l w) k) ≡ count_in q (row_at R k)
count_pushed_other R l w q k lt other = elim (cases_eq k (index_of l)) [
  | inl at ↦ subst (λ z. count_in q (row_at (pushed R l w) z) ≡ count_in q (row_at R z)) (sym at)
      (let a = ap (count_in q) (get_or-set_same R (index_of l) (row_at R (index_of l) ++ w ∷ []) []
      lt) ∙ count-append q (row_at R (index_of l)) (w ∷ []) in
      let b = count-cons q w [] in let d = one-other w.reference q other in omega arith)
  | inr ne ↦ ap (count_in q)
      (get_or-set_other R (index_of l) k (row_at R (index_of l) ++ w ∷ []) [] ne)
]

all_pushed : (P : WatchEntry → Type 0) (R : List (List WatchEntry)) (l : Literal) (w : WatchEntry)
    → index_of l < length R → P w → ((k : ℕ) → AllByRecursion P (row_at R k)) → (k : ℕ)
    → AllByRecursion P (row_at (pushed R l w) k)
all_pushed P R l w lt h all k = elim (cases_eq k (index_of l)) [
  | inl at ↦ subst (λ z. AllByRecursion P (row_at (pushed R l w) z)) (sym at)
      (subst (AllByRecursion P)
      (sym (get_or-set_same R (index_of l) (row_at R (index_of l) ++ w ∷ []) [] lt))
      (all_append P (row_at R (index_of l)) (w ∷ []) (all (index_of l)) (h, tt)))
  | inr ne ↦ subst (AllByRecursion P)
      (sym (get_or-set_other R (index_of l) k (row_at R (index_of l) ++ w ∷ []) [] ne)) (all k)
]

pub fits_watch : (e : EngineState) (slots : Slots) (r : ℕ) (c : List Literal) (one other : Literal)
    (rest : Rest) → IsEngine e → Fits e slots → attachment_in e.watches.table r ≡ Waiting
    → clause_at slots r ≡ Some c → one ≢ other → IsWatch e c one → IsWatch e c other
    → IsRest c one other rest → Fits (watched e r one other rest) slots
fits_watch e slots r c one other rest inv fits at live apart a b d =
    let R = e.watches.rows in
    let w = entry_of r other in
    let v = entry_of r one in
    let Ri = pushed R one w in
    let Rj = pushed Ri other v in
    let t = set e.watches.table r (Watching one other rest) in
    let was : is_attached e r ≡ true = ap is_kept at in
    let f = fits.attached r was in
    let same : f.0 ≡ c = cc (f.1, live) in
    let within : IsWithin e.variables c = subst (IsWithin e.variables) same f.2.0 in
    let l1 : index_of one < length R = let h = inv.rows in
    let g = index-within e.variables one (within_variable e.variables c one within a.member) in
    omega arith in
    let l2 : index_of other < length Ri = let h = inv.rows in
    let g =
    index-within e.variables other (within_variable e.variables c other within b.member) in
    let k = length-set R (index_of one) (row_at R (index_of one) ++ w ∷ []) in omega arith in
    let here : attachment_in t r ≡ Watching one other rest =
    attachment_set_same e.watches.table r (Watching one other rest)
    (kept_within e.watches.table r was) in
    let elsewhere : (q : ℕ) → q ≢ r → attachment_in t q ≡ attachment_in e.watches.table q =
    λ q h. attachment_set_other e.watches.table r q (Watching one other rest) h in
    let kept : is_kept (attachment_in t r) ≡ true = ap is_kept here in
    fits_attachment e slots r t Rj e.watches.waiting fits elsewhere
    (λ k. (c, live, (within, subst (λ z. FitsAttachment e c z) (sym here) (apart, a, b, d))))
    (inl kept)
    (λ k q. elim (cases_eq r q) [
      | inl is ↦ subst (λ z. count_in z (row_at Rj k) ≡ watches_at (attachment_in t z) k) is
          (let g1 = count_pushed Ri other v r k l2 refl in
          let g2 = count_pushed R one w r k l1 refl in
          let g3 = fits.rows k r ∙ ap (λ z. watches_at z k) at in let g4 =
          ap (λ z. watches_at z k) here in omega arith)
      | inr ne ↦ count_pushed_other Ri other v q k l2 ne ∙ count_pushed_other R one w q k l1 ne
          ∙ fits.rows k q ∙ sym (ap (λ z. watches_at z k) (elsewhere q (λ h. ne (sym h))))
    ])
    (λ q h. elim (cases_eq q r) [
      | inl is ↦ absurd (let h' = sym (ap (attachment_in t) is ∙ here) ∙ h in cc)
      | inr nq ↦ fits.waiting q (sym (elsewhere q nq) ∙ h)
    ])
    (λ k. blockers_kept e slots r t Rj e.watches.waiting (row_at Rj k) elsewhere kept
    (all_pushed (HasBlocker e slots) Ri other v l2 (c, was, live, a.member)
    (all_pushed (HasBlocker e slots) R one w l1 (c, was, live, b.member) fits.blockers) k))

-- a clause that is attached and watches two literals at once: it waits, and then does so no more
pub fits_watch_new : (e : EngineState) (slots : Slots) (r : ℕ) (c : List Literal)
    (one other : Literal) (rest : Rest) → IsEngine e → Fits e slots → is_attached e r ≡ false
    → clause_at slots r ≡ Some c → IsWithin e.variables c → one ≢ other → IsWatch e c one
    → IsWatch e c other → IsRest c one other rest
    → Fits (watched (with_room e r) r one other rest) slots
fits_watch_new e slots r c one other rest inv fits out live within apart a b d =
    let g = grown_table e.watches.table r in
    let t = set g r Waiting in
    let R = e.watches.rows in
    let w = e.watches.waiting in
    let at : attachment_in t r ≡ Waiting =
    attachment_set_same g r Waiting (length-grown e.watches.table r) in
    let waits : Fits (with_watches e t R (w ++ r ∷ [])) slots =
    fits_attach e slots r c out live within fits in
    let is : IsEngine (with_watches e t R (w ++ r ∷ [])) =
    engine_set (with_watches e g R w) r Waiting R (w ++ r ∷ [])
    (engine_change e g R w inv refl
    (λ q l m h. inv.watching q l m
    (subst (λ x. IsWatching x l m) (attachment_grown e.watches.table r q) h)))
    refl (length-grown e.watches.table r) (λ l m h. absurd (cc)) in
    let watches : Fits (watched (with_watches e t R (w ++ r ∷ [])) r one other rest) slots =
    fits_watch (with_watches e t R (w ++ r ∷ [])) slots r c one other rest is waits at live apart
    (watch_same e t R (w ++ r ∷ []) c one a) (watch_same e t R (w ++ r ∷ []) c other b) d in
    let p = Watching one other rest in
    let rows = pushed (pushed R one (entry_of r other)) other (entry_of r one) in
    let once : set t r p ≡ set g r p = set-set g r Waiting p in
    let listed : (q : ℕ) → attachment_in (set t r p) q ≡ Waiting → Contains w q =
    λ q h. elim (cases_eq q r) [
      | inl same ↦ absurd (let h' = sym (ap (attachment_in (set t r p)) same
          ∙ attachment_set_same t r p (omega (
            arith,
            length-set g r Waiting,
            length-grown e.watches.table r,
          ))) ∙ h in cc)
      | inr ne ↦ fits.waiting q (sym (attachment_set_other t r q p ne
          ∙ attachment_set_other g r q Waiting ne ∙ attachment_grown e.watches.table r q) ∙ h)
    ] in
    subst (λ table. Fits (with_watches e table rows w) slots) once
    (fits_listed (watched (with_watches e t R (w ++ r ∷ [])) r one other rest) slots w watches
    listed)

pub fits_satisfied : (e : EngineState) (slots : Slots) (r : ℕ) (c : List Literal) → Fits e slots
    → attachment_in e.watches.table r ≡ Waiting → clause_at slots r ≡ Some c → depth_of e.trail ≡ 0
    → HasTrue c (literals_of e.trail) → Fits (with_attachment e r Satisfied) slots
fits_satisfied e slots r c fits at live zero is_true =
    let t = set e.watches.table r Satisfied in
    let was : is_attached e r ≡ true = ap is_kept at in
    let f = fits.attached r was in
    let same : f.0 ≡ c = cc (f.1, live) in
    let here : attachment_in t r ≡ Satisfied =
    attachment_set_same e.watches.table r Satisfied (kept_within e.watches.table r was) in
    let elsewhere : (q : ℕ) → q ≢ r → attachment_in t q ≡ attachment_in e.watches.table q =
    λ q h. attachment_set_other e.watches.table r q Satisfied h in
    let kept : is_kept (attachment_in t r) ≡ true = ap is_kept here in
    fits_attachment e slots r t e.watches.rows e.watches.waiting fits elsewhere
    (λ k. (
      c,
      live,
      (
        subst (IsWithin e.variables) same f.2.0,
        subst (λ z. FitsAttachment e c z) (sym here)
            (subst (λ X. HasTrue c (literals_of X)) (sym (kept_all 0 e.trail (omega arith)))
            is_true),
      ),
    ))
    (inl kept)
    (λ k q. elim (cases_eq q r) [
      | inl is ↦ fits.rows k q ∙ ap (λ z. watches_at (attachment_in e.watches.table z) k) is
          ∙ ap (λ z. watches_at z k) at ∙ sym (ap (λ z. watches_at (attachment_in t z) k) is
          ∙ ap (λ z. watches_at z k) here)
      | inr ne ↦ fits.rows k q ∙ sym (ap (λ z. watches_at z k) (elsewhere q ne))
    ])
    (λ q h. elim (cases_eq q r) [
      | inl is ↦ absurd (let h' = sym (ap (attachment_in t) is ∙ here) ∙ h in cc)
      | inr nq ↦ fits.waiting q (sym (elsewhere q nq) ∙ h)
    ])
    (λ k. blockers_kept e slots r t e.watches.rows e.watches.waiting (row_at e.watches.rows k)
    elsewhere kept (fits.blockers k))

-- a pushed entry goes again
pub unpushed : (R Ri : List (List WatchEntry)) (i n : ℕ) (w : WatchEntry) → i < length R
    → n ≡ length (row_at R i) → Ri ≡ with_row R i (row_at R i ++ w ∷ [])
    → with_row Ri i (take n (row_at Ri i)) ≡ R
unpushed R Ri i n w lt len e =
    rw (e, get_or-set_same R i (row_at R i ++ w ∷ []) [] lt, len)
    (set-set R i (row_at R i ++ w ∷ []) (take (length (row_at R i)) (row_at R i ++ w ∷ []))
    ∙ ap (set R i) (take_at (row_at R i) (w ∷ []) (length (row_at R i)) refl) ∙ set-get_or R i [])

value_left : (o : Option Bool) → o ≢ None → o ≢ Some false → o ≡ Some true
value_left None n f = absurd (n refl)
value_left (Some true) n f = refl
value_left (Some false) n f = absurd (f refl)

-- the one literal that is left becomes true
pub made_true : (e e1 : EngineState) (slots : Slots) (r : ℕ) (c : List Literal) (l : Literal)
    → IsEngine e → Fits e slots → is_attached e r ≡ true → clause_at slots r ≡ Some c
    → IsWithin e.variables c
    → contains_literal l c ≡ true → value_in e.trail l ≢ Some false
    → All (λ k. (k ≡ l) ⊎ (value_in e.trail k ≡ Some false)) c → IsMadeTrue e e1 l r
    → Fits e1 slots × (contains_literal l (literals_of e1.trail) ≡ true) × Continues e e1
    × (e1.watches ≡ e.watches)
made_true e e1 slots r c l inv fits was live within member ne all h = elim h [
  | inl new ↦
      let T = e.trail ++ made l (Some r) ∷ [] in
      let unit = unit_left e.trail c l member new.0 (one_left e.trail c l all) in
      let f : Fits (with_trail e T) slots =
      fits_grow e slots (made l (Some r)) inv.stable_qhead inv.qhead (c, live, unit) was
      (within_variable e.variables c l within member) fits in (
        subst (λ x. Fits x slots) (sym new.2) f,
        subst (λ (x : EngineState). contains_literal l (literals_of x.trail) ≡ true) (sym new.2)
            (last_true e.trail (made l (Some r))),
        subst (Continues e) (sym new.2) (continues_unit e l r),
        ap (λ (x : EngineState). x.watches) new.2,
      )
  | inr old ↦ (
    subst (λ x. Fits x slots) (sym old.1) fits,
    subst (λ (x : EngineState). contains_literal l (literals_of x.trail) ≡ true) (sym old.1)
        (true_value e.trail l (value_left (value_in e.trail l) old.0 ne)),
    subst (Continues e) (sym old.1) (continues_same e),
    ap (λ (x : EngineState). x.watches) old.1,
  )
]
