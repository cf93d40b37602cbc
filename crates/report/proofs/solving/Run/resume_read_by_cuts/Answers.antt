-- The run is one behind the lines that were judged, or has ended with them.
use Rattle.std.proofs.Common.{◌≡◌, ℕ, ◌<◌, ◌≤◌, ◌∙◌, Err, arith, false, inl, inr, sym, subst}
use Rattle.std.specs.Prelude.{IfNone, IfSome, Result}
use Rattle.cnf.specs.declared.limits.TheConstants.{NUMBER_LIMIT}
use Rattle.cuts_log.specs.Logs.{start_of}
use Rattle.cuts_solver.specs.Solving.{CanResume, instance_of}
use Rattle.improve_cuts.specs.ByCuts.{BeginsWith}
use Rattle.cuts_earlier.specs.declared.earlier.CannotResume.{CannotResume}
use Rattle.cuts_earlier.specs.declared.earlier.CannotResume.TheVariants.{Lacking, Unfit}
use Rattle.report.specs.Earlier.{EndsAt, IsDearer}
use Rattle.report.proofs.CutsTexts.{earlier_before, ends_as, least_where_ended, leaves_as}
use Rattle.report.proofs.CutsTexts.{right_where_ended}
use Rattle.report.proofs.Dearer.{start_dearer}
use Rattle.report.proofs.solving.Run.resume_read_by_cuts.Goals as goal

pub run_at_once-requires : goal.run_at_once-requires
run_at_once-requires g c =
    let p = c.args.instance.now in
    let s = c.args.earlier.machine.state in
    let w = c.worth.ensures in
    let b = c.in-Ok.ensures in
    let some = subst (λ z. 0 < z) w.worth b.some in
    let begins = subst (λ z. BeginsWith p z c.in-Ok.start) w.worth
    (b.begins p c.first_solution-start.ensures.solution) in
    let most = subst (λ z. z ≤ NUMBER_LIMIT) w.worth w.most in
    let ended = sym c.has_ended.ensures ∙ c.if-has_ended.true in
    let at : EndsAt p s.worth c.in-Ok.start = record {
      begins = begins;
      least = least_where_ended p s some ended c.limits.ensures most c.requires;
    } in
    (s.worth, at)

pub returns-then-has_ended-clause-ok : goal.returns-then-has_ended-clause-ok
returns-then-has_ended-clause-ok g c text r front e =
    let p = c.args.instance.now in
    let s = c.args.earlier.machine.state in
    let w = c.worth.ensures in
    let b = c.in-Ok.ensures in
    let some = subst (λ z. 0 < z) w.worth b.some in
    let begins = subst (λ z. BeginsWith p z c.in-Ok.start) w.worth
    (b.begins p c.first_solution-start.ensures.solution) in
    let most = subst (λ z. z ≤ NUMBER_LIMIT) w.worth w.most in
    let ended = sym c.has_ended.ensures ∙ c.if-has_ended.true in
    let at : EndsAt p s.worth c.in-Ok.start = record {
      begins = begins;
      least = least_where_ended p s some ended c.limits.ensures most c.requires;
    } in
    c.run_at_once.ensures.ok s.worth at text r front (right_where_ended p s some ended front e)

pub returns-then-has_ended-clause-fault : goal.returns-then-has_ended-clause-fault
returns-then-has_ended-clause-fault g c text r front e =
    let p = c.args.instance.now in
    let s = c.args.earlier.machine.state in
    let w = c.worth.ensures in
    let b = c.in-Ok.ensures in
    let some = subst (λ z. 0 < z) w.worth b.some in
    let begins = subst (λ z. BeginsWith p z c.in-Ok.start) w.worth
    (b.begins p c.first_solution-start.ensures.solution) in
    let most = subst (λ z. z ≤ NUMBER_LIMIT) w.worth w.most in
    let ended = sym c.has_ended.ensures ∙ c.if-has_ended.true in
    let at : EndsAt p s.worth c.in-Ok.start = record {
      begins = begins;
      least = least_where_ended p s some ended c.limits.ensures most c.requires;
    } in
    c.run_at_once.ensures.fault s.worth at text r front (right_where_ended p s some ended front e)

pub returns-then-has_ended-clause-seen : goal.returns-then-has_ended-clause-seen
returns-then-has_ended-clause-seen g c text r =
    let p = c.args.instance.now in
    let s = c.args.earlier.machine.state in
    let w = c.worth.ensures in
    let b = c.in-Ok.ensures in
    let some = subst (λ z. 0 < z) w.worth b.some in
    let begins = subst (λ z. BeginsWith p z c.in-Ok.start) w.worth
    (b.begins p c.first_solution-start.ensures.solution) in
    let most = subst (λ z. z ≤ NUMBER_LIMIT) w.worth w.most in
    let ended = sym c.has_ended.ensures ∙ c.if-has_ended.true in
    let at : EndsAt p s.worth c.in-Ok.start = record {
      begins = begins;
      least = least_where_ended p s some ended c.limits.ensures most c.requires;
    } in
    c.run_at_once.ensures.seen s.worth at text r

pub run_by_cuts-requires : goal.run_by_cuts-requires
run_by_cuts-requires g c =
    let p = c.args.instance.now in
    let n = c.in-Ok-Some.ensures in
    let is = c.in-Ok-Some.field-0-is in
    let problem = subst (λ x. IfSome x (λ z. instance_of z ≡ p)) is n.problem in
    let cost = subst (λ x. IfSome x (λ z. (z.log).cost ≡ c.args.earlier.machine.state.worth)) is
    n.cost in
    let works = subst (λ x. IfSome x (λ z. (z.refuted ≡ false) × (z.failed ≡ false))) is
    n.works in
    let b = c.in-Ok.ensures in
    record {
      instance = problem;
      first_is = subst (λ z. BeginsWith p z c.in-Ok.start) (c.worth.ensures.worth ∙ sym cost)
          (b.begins p c.first_solution-start.ensures.solution);
      open_end = works.0;
      works = works.1;
    }

pub returns-in-Ok-Some-clause-ok : goal.returns-in-Ok-Some-clause-ok
returns-in-Ok-Some-clause-ok g c text r front b =
    let p = c.args.instance.now in
    let n = c.in-Ok-Some.ensures in
    let is = c.in-Ok-Some.field-0-is in
    let problem = subst (λ x. IfSome x (λ z. instance_of z ≡ p)) is n.problem in
    let start = subst (λ x. IfSome x (λ z. start_of z.log ≡ c.args.earlier.machine.state)) is
    n.start in
    let origin = subst (λ x. IfSome x (λ z. (((z.log).book).seen).origin
    ≡ g.P.Write.contents c.args.proof)) is n.origin in
    let cost = subst (λ x. IfSome x (λ z. (z.log).cost ≡ c.args.earlier.machine.state.worth)) is
    n.cost in
    let e = c.run_by_cuts in
    ends_as g.P.Write.contents e.result.proof e.result.ended front text
    (g.O.Write.contents c.args.self.now.out.now) (g.O.Write.contents e.new.self.out.now)
    e.new.self.budget.now _ _ origin c.args.self.now.budget.now _ _ cost
    (e.ensures.ok text r front (earlier_before c.in-Ok-Some.solver.log p
    c.args.earlier.machine.state front problem start b))

pub returns-in-Ok-Some-clause-fault : goal.returns-in-Ok-Some-clause-fault
returns-in-Ok-Some-clause-fault g c text r front b =
    let p = c.args.instance.now in
    let n = c.in-Ok-Some.ensures in
    let is = c.in-Ok-Some.field-0-is in
    let problem = subst (λ x. IfSome x (λ z. instance_of z ≡ p)) is n.problem in
    let start = subst (λ x. IfSome x (λ z. start_of z.log ≡ c.args.earlier.machine.state)) is
    n.start in
    let origin = subst (λ x. IfSome x (λ z. (((z.log).book).seen).origin
    ≡ g.P.Write.contents c.args.proof)) is n.origin in
    let e = c.run_by_cuts in
    leaves_as g.P.Write.contents e.result.proof e.result.ended front text
    (g.O.Write.contents c.args.self.now.out.now) (g.O.Write.contents e.new.self.out.now)
    e.new.self.budget.now _ _ origin
    (e.ensures.fault text r front (earlier_before c.in-Ok-Some.solver.log p
    c.args.earlier.machine.state front problem start b))

-- where no cut holds for any cost, no solution is asked for
never : {T : Type 0} (r : Result T CannotResume) (a : CannotResume) (cost : ℕ) → r ≡ Err a
    → r ≡ Err Unfit → a ≡ Lacking cost → ⊥
never r a cost made unfit lacking = absurd (cc)

pub returns-in-Err-clause-dear : goal.returns-in-Err-clause-dear
returns-in-Err-clause-dear g c = λ cost is.
    let p = c.args.instance.now in
    let first = c.first_solution-start.result in
    let at : cost ≡ c.worth.result = c.in-Err.ensures.lacking cost is in
    let dear : IfSome first (λ b. cost < b.cost) =
    elim (c.in-Err.ensures.refused) [
      | inl zero ↦ absurd (never c.begin_below.result c.in-Err.refusal cost c.in-Err.is
          (c.begin_below.ensures.worthless zero) is)
      | inr h ↦ subst (λ w. IfSome first (λ b. w < b.cost)) (sym at) h.2
    ] in
    subst (λ o. IfSome o (λ bits. IsDearer p cost bits.items)) c.take.ensures.value
    (start_dearer p cost c.take.result first (λ v. v.items) c.first_solution-start.ensures.cost
    dear)

-- what a search cannot go on with
other : (a : CannotResume) (cost : ℕ) → a ≡ Lacking cost → a ≡ Unfit → ⊥
other a cost lacking unfit = absurd (cc)

pub returns-in-Err-clause-unfit : goal.returns-in-Err-clause-unfit
returns-in-Err-clause-unfit g c = λ is can.
    let some = subst (λ z. 0 < z) (sym c.worth.ensures.worth) (can.start).some in
    elim (c.in-Err.ensures.refused) [
      | inl zero ↦ absurd (omega (arith, some, zero))
      | inr h ↦ absurd (other c.in-Err.refusal c.worth.result h.1 is)
    ]

pub returns-in-Ok-None-clause-unfit : goal.returns-in-Ok-None-clause-unfit
returns-in-Ok-None-clause-unfit g c = λ is can.
    let p = c.args.instance.now in
    let refused = subst (λ o. IfNone o (CanResume p c.args.earlier.machine c.count_room.result → ⊥))
    c.in-Ok-None.field-0-is c.in-Ok-None.ensures.refused in
    refused (subst (CanResume p c.args.earlier.machine) (sym c.count_room.ensures) can)
