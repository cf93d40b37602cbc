use Rattle.std.proofs.Common.{rules, ◌≡◌, ◌≢◌, ◌<◌, ◌+◌, ◌++◌, ◌∷◌, [], Bool, sym, ◌∙◌, ap}
use Rattle.std.proofs.Common.{ℕ, ◌≤◌, List, length, get_or, take, inl, inr, arith, None, subst}
use Rattle.std.proofs.Common.{vec_capacity}
use Rattle.std.proofs.lemmas.Result.{IfOk-from_err}
use Rattle.std.proofs.lemmas.List.{take_more, append-nil, get_or_default, length-map, length_push}
use Rattle.cnf.specs.Literal.{Literal, negation}
use Rattle.clauses.specs.Slots.{clause_at}
use Rattle.propagate.specs.Trail.{Assigned, literals_of, reason_in}
use Rattle.propagate.specs.Watches.{EngineState}
use Rattle.analyze.specs.Analyzer.{chosen_reasons}
use Rattle.analyze.specs.declared.marks.Mark.{Mark}
use Rattle.analyze.specs.declared.marks.Mark.TheVariants.{Kept, Resolved}
use Rattle.analyze.specs.Marks.{mark_at, is_resolved, others_in, resolved_of}
use Rattle.analyze.specs.Met.{nowhere, variable_at, GoesAlong}
use Rattle.analyze.proofs.Reasoning.{reason_at}
use Rattle.analyze.proofs.Listing.{sweep_first, sweep_next}
use Rattle.analyze.proofs.Walking.{literal_here}
use Rattle.analyze.proofs.Collecting.{passes_is, passes_not, others_yes, others_no, others_pass}
use Rattle.analyze.proofs.Collecting.{chosen_push, chosen_yes, chosen_none, chosen_no, chosen_pass}
use Rattle.analyze.proofs.Collecting.{not_resolved}
use Rattle.analyze.proofs.collect.collect.Goals as goal
use Rattle.analyze.proofs.collect.collect.Goals.{then-eq+then-variable+in_ok-push-2, else-eq}
use Rattle.analyze.proofs.collect.collect.Goals.{else-eq-via-then-eq+else-variable}
use Rattle.analyze.proofs.collect.collect.Goals.{else-eq-via-else-eq, then-eq-2+in-Some, else-eq-2}
use Rattle.analyze.proofs.collect.collect.Goals.{else-eq-2-via-else-eq-2}
use Rattle.analyze.proofs.collect.collect.Goals.{else-eq-2-via-then-eq-2+in-None-1}

-- the positions that were met are places of the trail
here : (e : EngineState) (M : List Mark) (met now : List ℕ) (q : ℕ) → GoesAlong e M met → now ≡ met
    → q < length now → get_or now q 0 < length e.trail
here e M met now q along same lt =
    subst (λ (x : List ℕ). q < length x → get_or x q 0 < length e.trail) (sym same)
    (along.listed.within q 0) lt

-- whose variables the engine has
named : (e : EngineState) (M : List Mark) {met : List ℕ} (v : ℕ) (l : Literal) {p : ℕ}
    → GoesAlong e M met → v ≡ l.variable → l ≡ (get_or e.trail p nowhere).literal
    → p < length e.trail → v ≤ e.variables
named e M v l {p} along is at lt =
    subst (λ (x : ℕ). x ≤ e.variables) (sym (is ∙ ap (λ (k : Literal). k.variable) at))
    (along.fits.small p nowhere lt).1

pub loop-position-init : goal.loop-position-init
loop-position-init c =
    let M = c.deref-marks.result.now in
    let u = c.args.derivation.now.asserting in
    let e = c.args.engine.now in
    let T = e.trail in
    let met = c.deref-met.result.now in
    let chosen : Literal → Bool = λ k. resolved_of M k.variable in
    let along : GoesAlong e M met =
    rw (c.deref-marks.ensures.value, c.deref-met.ensures.value) c.requires.along in
    let first = sweep_first (others_in M u) (literals_of T) e M met along
    (others_pass T M u) in
    record {
      lits = c.in_ok-push.ensures.items ∙ ap (λ x. x ++ c.negation.result ∷ []) c.requires.none
          ∙ ap (λ x. x ∷ []) c.negation.ensures ∙ ap (λ x. negation u ∷ x) (sym first);
      hints = c.requires.no_hints
          ∙ sym (sweep_first (chosen_reasons chosen) T e M met along (chosen_pass T M));
      few = (let none = ap length c.requires.no_hints in omega arith);
      room = rw (c.deref-met.ensures.value) c.requires.room;
    }

pub loop-position-preserved : goal.loop-position-preserved
loop-position-preserved c =
    let M = c.deref-marks.result.now in
    let u = c.args.derivation.now.asserting in
    let e = c.args.engine.now in
    let T = e.trail in
    let L = literals_of T in
    let met = c.deref-met.result.now in
    let q = c.loop-position.position-index in
    let p = get_or met q 0 in
    let lt : q < length met = c.loop-position-test.true in
    let along : GoesAlong e M met =
    rw (c.deref-marks.ensures.value, c.deref-met.ensures.value) c.requires.along in
    let i = c.loop-position.invariant in
    let within : p < length T = along.listed.within q 0 lt in
    let k = c.literal_at-lit.result in
    let here : get_or L p k ≡ k = literal_here T p k within ∙ sym c.literal_at-lit.ensures in
    let long = length-map T (λ (x : Assigned). x.literal) in
    let in_list : p < length L = omega arith in
    let more : others_in M u (take (get_or met (q + 1) (length T)) L) ≡ others_in M u
    (take p L ++ k ∷ []) =
    sweep_next (others_in M u) L e M met q along lt (others_pass T M u)
    ∙ ap (others_in M u) (take_more L p k in_list)
    ∙ ap (λ x. others_in M u (take p L ++ x ∷ [])) here in
    let same : get_or met q (length T) ≡ p = get_or_default met q (length T) 0 lt in
    let lits : c.loop-position.lits.items ≡ negation u ∷ others_in M u (take p L) =
    i.lits ∙ ap (λ x. negation u ∷ others_in M u (take x L)) same in
    let named : c.variable-variable.result ≡ k.variable = c.variable-variable.ensures.variable in
    let v : c.variable-variable.result ≡ variable_at T p =
    named ∙ ap (λ (l : Literal). l.variable) c.literal_at-lit.ensures in
    let chosen : Literal → Bool = λ k. resolved_of M k.variable in
    let a = get_or T p nowhere in
    let next : chosen_reasons chosen (take (get_or met (q + 1) (length T)) T)
    ≡ chosen_reasons chosen (take p T ++ a ∷ []) =
    sweep_next (chosen_reasons chosen) T e M met q along lt (chosen_pass T M)
    ∙ ap (chosen_reasons chosen) (take_more T p nowhere within) in
    let reason : reason_in T c.variable-variable.result ≡ a.reason =
    ap (reason_in T) v
    ∙ reason_at (clause_at along.slots) T p nowhere along.fits.reasons within in
    let hints : c.loop-position.hints.items ≡ chosen_reasons chosen (take p T) =
    i.hints ∙ ap (λ x. chosen_reasons chosen (take x T)) same in
    record {
      lits = elim c.if-eq.branch [
        | then-eq+then-variable+in_ok-push-2 w ↦
            let kept : mark_at M c.variable-variable.result ≡ Kept = search rules in
            let ne : c.variable-variable.result ≢ u.variable = search rules in
            let yes =
            others_yes M u (take p L) k
            (passes_is M u k c.variable-variable.result named kept ne) in
            ap (λ h. h.items) w.lits-is ∙ w.in_ok-push-2.ensures.items
            ∙ ap (λ x. c.loop-position.lits.items ++ x ∷ []) w.negation-then-variable.ensures
            ∙ ap (λ x. x ++ negation k ∷ []) lits ∙ ap (λ x. negation u ∷ x) (sym yes ∙ sym more)
        | else-eq w ↦
            let no' : others_in M u (take p L ++ k ∷ []) ≡ others_in M u (take p L) =
            (elim w.else-eq.branch as (λ _. others_in M u (take p L ++ k ∷ []) ≡ others_in M u
            (take p L)) [
              | else-eq-via-then-eq+else-variable y ↦
                  let same' : c.variable-variable.result ≡ u.variable = search rules in
                  others_no M u (take p L) k
                  (passes_not M u k c.variable-variable.result named (inr same'))
              | else-eq-via-else-eq y ↦
                  let other : mark_at M c.variable-variable.result ≢ Kept = search rules in
                  others_no M u (take p L) k
                  (passes_not M u k c.variable-variable.result named (inl other))
            ]) in
            ap (λ h. h.items) w.lits-is ∙ lits ∙ ap (λ x. negation u ∷ x) (sym no' ∙ sym more)
      ];
      hints = elim c.if-eq-2.branch [
        | then-eq-2+in-Some w ↦
            let mark : mark_at M c.variable-variable.result ≡ Resolved = search rules in
            let one =
            chosen_yes chosen a w.in-Some.reason
            (ap (resolved_of M) (sym v) ∙ ap is_resolved mark)
            (sym reason ∙ sym w.reason.ensures ∙ w.in-Some.is) in
            ap (λ h. h.items) w.hints-is ∙ w.push_reserved.ensures.items
            ∙ ap (λ h. h ++ w.in-Some.reason ∷ []) hints
            ∙ sym (chosen_push chosen (take p T) a (w.in-Some.reason ∷ []) one) ∙ sym next
        | else-eq-2 w ↦
            let none : chosen_reasons chosen (a ∷ []) ≡ [] =
            (elim w.else-eq-2.branch as (λ _. chosen_reasons chosen (a ∷ []) ≡ []) [
              | else-eq-2-via-else-eq-2 y ↦
                  let other : mark_at M c.variable-variable.result ≢ Resolved = search rules in
                  chosen_no chosen a
                  (not_resolved (mark_at M (variable_at T p)) (λ s. other (ap (mark_at M) v ∙ s)))
              | else-eq-2-via-then-eq-2+in-None-1 y ↦
                  chosen_none chosen a (let none : y.reason.result ≡ None = search rules in
                  sym reason ∙ sym y.reason.ensures ∙ none)
            ]) in
            ap (λ h. h.items) w.hints-is ∙ hints
            ∙ sym (append-nil (chosen_reasons chosen (take p T)))
            ∙ sym (chosen_push chosen (take p T) a [] none) ∙ sym next
      ];
      few = elim c.if-eq-2.branch [
        | then-eq-2+in-Some w ↦
            let few = i.few in
            let long = length_push c.loop-position.hints.items w.in-Some.reason in
            let is = ap length (ap (λ h. h.items) w.hints-is ∙ w.push_reserved.ensures.items) in
            omega arith
        | else-eq-2 w ↦
            let few = i.few in let is = ap (λ h. length h.items) w.hints-is in omega arith
      ];
      room = elim c.if-eq-2.branch [
        | then-eq-2+in-Some w ↦
            let room = i.room in let is = ap vec_capacity w.hints-is in
            let same' = w.push_reserved.ensures.capacity in omega arith
        | else-eq-2 w ↦ let room = i.room in let is = ap vec_capacity w.hints-is in omega arith
      ];
    }

pub returns-in_err-push-clause-lits : goal.returns-in_err-push-clause-lits
returns-in_err-push-clause-lits c =
    IfOk-from_err c.from_residual.result _ c.from_residual.ensures.0

pub returns-in_err-push-clause-hints : goal.returns-in_err-push-clause-hints
returns-in_err-push-clause-hints c =
    IfOk-from_err c.from_residual.result _ c.from_residual.ensures.0

pub returns-in_err-push-2-clause-lits : goal.returns-in_err-push-2-clause-lits
returns-in_err-push-2-clause-lits c =
    IfOk-from_err c.from_residual-in_err-push-2.result _ c.from_residual-in_err-push-2.ensures.0

pub returns-in_err-push-2-clause-hints : goal.returns-in_err-push-2-clause-hints
returns-in_err-push-2-clause-hints c =
    IfOk-from_err c.from_residual-in_err-push-2.result _ c.from_residual-in_err-push-2.ensures.0

pub literal_at-lit-requires : goal.literal_at-lit-requires
literal_at-lit-requires c = here c.args.engine.now c.args.marking.now.marks.items
    c.args.marking.now.met.items c.deref-met.result.now c.loop-position.position-index
    c.requires.along c.deref-met.ensures.value c.loop-position-test.true

pub bounds-marks-variable : goal.bounds-marks-variable
bounds-marks-variable c =
    let e = c.args.engine.now in
    let M = c.args.marking.now.marks.items in
    let q = c.loop-position.position-index in
    let lt =
    here e M c.args.marking.now.met.items c.deref-met.result.now q c.requires.along
    c.deref-met.ensures.value c.loop-position-test.true in
    let s = named e M _ _ c.requires.along c.variable-variable.ensures.variable
    c.literal_at-lit.ensures lt in
    let room = c.requires.along.room in
    let long = ap length c.deref-marks.ensures.value in
    omega arith

pub reason-requires : goal.reason-requires
reason-requires c =
    let e = c.args.engine.now in
    let M = c.args.marking.now.marks.items in
    let q = c.loop-position.position-index in
    let lt =
    here e M c.args.marking.now.met.items c.deref-met.result.now q c.requires.along
    c.deref-met.ensures.value c.loop-position-test.true in
    named e M _ _ c.requires.along c.variable-variable.ensures.variable c.literal_at-lit.ensures lt
