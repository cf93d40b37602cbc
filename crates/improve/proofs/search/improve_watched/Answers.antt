-- The ends of the search over the hard clauses, and what goes on from its bits.
use Rattle.std.proofs.Common.{◌≡◌, ℕ, length, Ok, [], refl, sym, ◌∙◌, ap, subst, arith, append-nil}
use Rattle.std.proofs.lemmas.List.Elements.{All-nil}
use Rattle.lrat_log.specs.Steps.{IsAcceptedLog, learned_count}
use Rattle.cdcl.specs.Solving.{given_to}
use Rattle.cdcl_order.specs.Budgets.{left_of}
use Rattle.improve_found.specs.declared.found.Found.TheVariants.{Unsat}
use Rattle.improve_found.specs.Solutions.{IsCostOfSome}
use Rattle.improve.specs.Improving.{IsHardLog}
use Rattle.improve.proofs.CheaperBits.{same_given}
use Rattle.improve.proofs.SearchEnds.{memory_end, found_end, on_work_weaker}
use Rattle.improve.proofs.HardEnds.{hard_feasible, hard_log, hard_learned, right_unsat}
use Rattle.improve.proofs.HardEnds.{plainly_open}
use Rattle.improve_found.proofs.Laws.{shown_none, shown_after, shown_same}
use Rattle.improve.proofs.search.improve_watched.Goals as goal

pub price_polished-first-requires-clause-feasible :
    goal.price_polished-first-requires-clause-feasible
price_polished-first-requires-clause-feasible g c =
    let sat = rw c.in-Ok-Sat.field-0-is at c.in-Ok-Sat.ensures.solves.sat in
    hard_feasible c.args.instance.now c.in-Ok.solver c.in-Ok.ensures c.in-Ok-Sat.bits.items sat.1

pub lower-requires-clause-hard : goal.lower-requires-clause-hard
lower-requires-clause-hard g c =
    let free = rw c.in-Ok-Sat.field-0-is at c.in-Ok-Sat.ensures.solves.stays_open in
    subst (IsHardLog c.args.instance.now) (sym c.into_sink-hard.ensures)
    (hard_log c.args.instance.now c.in-Ok.solver c.in-Ok.ensures c.solve_watched.new.self
    c.solve_watched.ensures.solves.given c.solve_watched.ensures.solves.lines (free (λ e. cc))
    c.solve_watched.ensures.solves.grows c.solve_watched.ensures.solves.new)

pub returns-in-Ok-Sat-clause-improves : goal.returns-in-Ok-Sat-clause-improves
returns-in-Ok-Sat-clause-improves g c =
    let answers = rw c.in-Ok-Sat.field-0-is at c.in-Ok-Sat.ensures.solves.answers in
    let learned =
    hard_learned c.args.instance.now c.in-Ok.solver c.in-Ok.ensures c.solve_watched.new.self.sink
    c.args.budget.now.learned c.solve_watched.new.budget.learned
    c.solve_watched.ensures.solves.grows c.solve_watched.ensures.solves.learned in
    c.lower.ensures.improves c.args.budget.now (record {
      limit = sym c.solve_watched.ensures.solves.same_limit;
      answers = sym answers;
      learned = omega (arith, learned, ap learned_count c.into_sink-hard.ensures);
    })

pub returns-in-Ok-Unsat-clause-improves : goal.returns-in-Ok-Unsat-clause-improves
returns-in-Ok-Unsat-clause-improves g c =
    let p = c.args.instance.now in
    let log = c.into_sink-log.result in
    let count : ℕ = c.len-clauses.result in
    let accepted = rw c.in-Ok-Unsat.field-0-is at c.in-Ok-Unsat.ensures.solves.unsat in
    let answers = rw c.in-Ok-Unsat.field-0-is at c.in-Ok-Unsat.ensures.solves.answers in
    found_end c.args.profile p _ _ c.args.budget.now c.solve_watched.new.budget
    c.solve_watched.ensures.solves.same_limit [] (sym (append-nil _)) (Ok (Unsat log count)) tt
    (All-nil (IsCostOfSome p)) refl tt
    (right_unsat p c.in-Ok.solver c.in-Ok.ensures c.args.profile log count
    (subst (IsAcceptedLog (given_to c.in-Ok.solver)) (sym c.into_sink-log.ensures) accepted)
    (c.len-clauses.ensures.len ∙ ap length (c.given.ensures
    ∙ sym (same_given c.in-Ok.solver c.solve_watched.new.self
    c.solve_watched.ensures.solves.given))))
    (omega (arith, answers)) tt tt

pub conclude_nothing-requires-clause-hard : goal.conclude_nothing-requires-clause-hard
conclude_nothing-requires-clause-hard g c =
    let free = rw c.in-Ok-Limit.field-0-is at c.in-Ok-Limit.ensures.solves.stays_open in
    subst (IsHardLog c.args.instance.now) (sym c.into_sink.ensures)
    (hard_log c.args.instance.now c.in-Ok.solver c.in-Ok.ensures c.solve_watched.new.self
    c.solve_watched.ensures.solves.given c.solve_watched.ensures.solves.lines (free (λ e. cc))
    c.solve_watched.ensures.solves.grows c.solve_watched.ensures.solves.new)

pub conclude_nothing-requires-clause-open : goal.conclude_nothing-requires-clause-open
conclude_nothing-requires-clause-open g c =
    let refuted = rw c.in-Ok-Limit.field-0-is at c.in-Ok-Limit.ensures.solves.refuted in
    plainly_open c.args.instance.now c.in-Ok.solver c.in-Ok.ensures (λ r. let x = refuted r in cc)

pub returns-in-Ok-Limit-clause-improves : goal.returns-in-Ok-Limit-clause-improves
returns-in-Ok-Limit-clause-improves g c =
    let p = c.args.instance.now in
    let left = rw c.in-Ok-Limit.field-0-is at c.in-Ok-Limit.ensures.solves.limit in
    let answers = rw c.in-Ok-Limit.field-0-is at c.in-Ok-Limit.ensures.solves.answers in
    let work = c.conclude_nothing.ensures.work in
    let learned =
    hard_learned p c.in-Ok.solver c.in-Ok.ensures c.solve_watched.new.self.sink
    c.args.budget.now.learned c.solve_watched.new.budget.learned
    c.solve_watched.ensures.solves.grows c.solve_watched.ensures.solves.learned in
    found_end c.args.profile p _ _ c.args.budget.now c.solve_watched.new.budget
    c.solve_watched.ensures.solves.same_limit [] (sym (append-nil _))
    (Ok c.conclude_nothing.result) tt (All-nil (IsCostOfSome p)) refl tt
    (c.conclude_nothing.ensures.found c.args.profile) (omega (arith, answers))
    (on_work_weaker (Ok c.conclude_nothing.result) _ _
    (λ w x. omega (arith, x, learned, ap learned_count c.into_sink.ensures)) work)
    (on_work_weaker (Ok c.conclude_nothing.result) _ (λ w. left_of c.solve_watched.new.budget ≡ 0)
    (λ w x. left) work)

pub returns-in-Err-clause-improves : goal.returns-in-Err-clause-improves
returns-in-Err-clause-improves g c =
    memory_end c.args.profile c.args.instance.now _ _ c.args.budget.now c.solve_watched.new.budget
    c.solve_watched.ensures.solves.same_limit [] (sym (append-nil _)) tt
    (All-nil (IsCostOfSome c.args.instance.now)) refl

pub returns-in_default-clause-shown : goal.returns-in_default-clause-shown
returns-in_default-clause-shown g c =
    shown_none c.args.instance.now (g.T.Progress.state c.args.progress.now)
    (g.W.SearchWatch.seen c.args.watch.now)

pub returns-in-Ok-Sat-clause-shown : goal.returns-in-Ok-Sat-clause-shown
returns-in-Ok-Sat-clause-shown g c =
    shown_after c.args.instance.now _ _ _ _ _ c.solve_watched.ensures.same_seen
    c.lower.ensures.shown

pub returns-in-Ok-Unsat-clause-shown : goal.returns-in-Ok-Unsat-clause-shown
returns-in-Ok-Unsat-clause-shown g c =
    shown_same c.args.instance.now (g.T.Progress.state c.args.progress.now) _ _
    c.solve_watched.ensures.same_seen

pub returns-in-Ok-Limit-clause-shown : goal.returns-in-Ok-Limit-clause-shown
returns-in-Ok-Limit-clause-shown g c =
    shown_same c.args.instance.now (g.T.Progress.state c.args.progress.now) _ _
    c.solve_watched.ensures.same_seen

pub returns-in-Err-clause-shown : goal.returns-in-Err-clause-shown
returns-in-Err-clause-shown g c =
    shown_same c.args.instance.now (g.T.Progress.state c.args.progress.now) _ _
    c.solve_watched.ensures.same_seen
