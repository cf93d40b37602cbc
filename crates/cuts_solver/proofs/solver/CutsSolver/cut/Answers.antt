use Rattle.std.proofs.Common.{◌≡◌, true, false, [], ◌∷◌, length, refl, sym, ◌∙◌, rules, subst}
use Rattle.std.proofs.lemmas.Bool.{eqb-true}
use Rattle.std.proofs.lemmas.List.{nil_from_length}
use Rattle.std.proofs.lemmas.Result.{IfOk-from_err}
use Rattle.cuts_log.specs.Logs.{LogState, lines_seen}
use Rattle.cdcl.specs.Guiding.{PaysOpen}
use Rattle.cdcl.proofs.Laws.{paid_axiom, paid_nothing}
use Rattle.cuts_solver.specs.Solving.{SolverState}
use Rattle.cuts_solver.proofs.Searching.{cut_ends}
use Rattle.cuts_solver.proofs.MadeLines.{fails_cut}
use Rattle.cuts_solver.proofs.Working.{brings_solver, fails_same, same_log, stays_open}
use Rattle.cuts_solver.proofs.solver.CutsSolver.cut.Goals as goal

pub returns-in_err-is_open-clause-pays : goal.returns-in_err-is_open-clause-pays
returns-in_err-is_open-clause-pays g c =
    let s = c.args.self.now in paid_nothing (s.input).given (lines_seen s.log) c.args.budget.now

pub returns-then-not-branch-clause-pays : goal.returns-then-not-branch-clause-pays
returns-then-not-branch-clause-pays g c =
    let s = c.args.self.now in paid_nothing (s.input).given (lines_seen s.log) c.args.budget.now

pub returns-in_err-make_room-clause-pays : goal.returns-in_err-make_room-clause-pays
returns-in_err-make_room-clause-pays g c =
    let given = c.self.inside.input.given in
    let ls = lines_seen c.self.inside.log in
    let b = c.args.budget.now in
    subst (λ (s : SolverState). PaysOpen given (lines_seen s.log) ls b b)
    c.self.view_is (paid_nothing given ls b)

pub returns-then-not-are_apart-clause-pays : goal.returns-then-not-are_apart-clause-pays
returns-then-not-are_apart-clause-pays g c =
    let given = c.self.inside.input.given in
    let ls = lines_seen c.self.inside.log in
    let b = c.args.budget.now in
    subst (λ (s : SolverState). PaysOpen given (lines_seen s.log) ls b b)
    c.self.view_is (paid_nothing given ls b)

pub returns-in_err-is_taken-clause-pays : goal.returns-in_err-is_taken-clause-pays
returns-in_err-is_taken-clause-pays g c =
    let given = c.self.inside.input.given in
    let ls = lines_seen c.self.inside.log in
    let b = c.args.budget.now in
    let now = lines_seen c.take_cut.new.self in
    subst (λ (s : SolverState). PaysOpen given (lines_seen s.log) now b b)
    c.self.view_is (subst (λ x. PaysOpen given ls x b b)
    (sym c.in_err-is_taken.ensures.err) (paid_nothing given ls b))

pub returns-then-not-is_taken-clause-pays : goal.returns-then-not-is_taken-clause-pays
returns-then-not-is_taken-clause-pays g c =
    let given = c.self.inside.input.given in
    let ls = lines_seen c.self.inside.log in
    let b = c.args.budget.now in
    let now = lines_seen c.take_cut.new.self in
    subst (λ (s : SolverState). PaysOpen given (lines_seen s.log) now b b)
    c.self.view_is (subst (λ (l : LogState). PaysOpen given ls (lines_seen l) b b)
    (sym (c.in_ok-is_taken.ensures.refused c.if-not-is_taken.true)) (paid_nothing given ls b))

pub invariant_of-self : goal.invariant_of-self
invariant_of-self g c =
    fails_same _ _ c.self.invariant (same_log c.self.inside.log) refl refl refl refl

pub invariant_of-self-then-not-are_apart : goal.invariant_of-self-then-not-are_apart
invariant_of-self-then-not-are_apart g c =
    let works : c.self.inside.failed ≡ false = search rules in
    stays_open _ _ c.self.invariant works refl

pub invariant_of-self-in_err-is_taken : goal.invariant_of-self-in_err-is_taken
invariant_of-self-in_err-is_taken g c =
    let e = c.in_err-is_taken.ensures in
    fails_same _ _ c.self.invariant e.same e.err refl refl refl

pub invariant_of-self-then-not-is_taken : goal.invariant_of-self-then-not-is_taken
invariant_of-self-then-not-is_taken g c =
    let works : c.self.inside.failed ≡ false = search rules in
    stays_open _ _ c.self.invariant works (c.in_ok-is_taken.ensures.refused c.if-not-is_taken.true)

pub invariant_of-self-then-is_empty : goal.invariant_of-self-then-is_empty
invariant_of-self-then-is_empty g c =
    let old : SolverState = record {
      search = c.self.inside.search;
      input = c.self.inside.input;
      log = c.self.inside.log;
      refuted = c.self.inside.refuted;
      failed = c.self.inside.failed;
    } in
    let new : SolverState = record {
      search = c.self.inside.search;
      input = c.self.inside.input;
      log = c.take_cut.new.self;
      refuted = true;
      failed = false;
    } in
    let works : old.failed ≡ false = search rules in
    let going : old.refuted ≡ false = search rules in
    let lits = c.args.lits.now in
    let none : lits ≡ [] =
    nil_from_length lits
    (eqb-true (length lits) 0 (sym c.is_empty.ensures ∙ c.if-is_empty.true)) in
    let e = c.in_ok-is_taken.ensures in
    let l = c.limits.ensures in
    let law = c.texts_are_right.ensures in
    cut_ends old new lits c.args.budget.now c.count_learned.new.self c.self.invariant works going
    e.same refl (e.taken c.if-not-is_taken.false) c.count_learned.ensures none
    (c.are_apart.ensures.new c.if-not-are_apart.false) refl l.kept l.book law.end law.cost

pub returns-then-is_empty-clause-pays : goal.returns-then-is_empty-clause-pays
returns-then-is_empty-clause-pays g c =
    let given = c.self.inside.input.given in
    let ls = lines_seen c.self.inside.log in
    let b = c.args.budget.now in
    let now = lines_seen c.take_cut.new.self in
    let left = c.count_learned.new.self in
    let lines = (c.in_ok-is_taken.ensures.taken c.if-not-is_taken.false).lines in
    subst (λ (s : SolverState). PaysOpen given (lines_seen s.log) now b left) c.self.view_is
    (paid_axiom given ls now c.args.lits.now b left lines c.count_learned.ensures)

pub invariant_of-self-in_err-give_cut : goal.invariant_of-self-in_err-give_cut
invariant_of-self-in_err-give_cut g c =
    let old : SolverState = record {
      search = c.self.inside.search;
      input = c.self.inside.input;
      log = c.self.inside.log;
      refuted = c.self.inside.refuted;
      failed = c.self.inside.failed;
    } in
    let new : SolverState = record {
      search = c.give_cut.new.search;
      input = c.self.inside.input;
      log = c.take_cut.new.self;
      refuted = c.self.inside.refuted;
      failed = true;
    } in
    let works : old.failed ≡ false = search rules in
    let going : old.refuted ≡ false = search rules in
    let e = c.in_ok-is_taken.ensures in
    fails_cut old new c.self.invariant works going e.same refl refl refl c.args.lits.now
    (e.taken c.if-not-is_taken.false) (c.are_apart.ensures.new c.if-not-are_apart.false)

pub returns-in_err-give_cut-clause-pays : goal.returns-in_err-give_cut-clause-pays
returns-in_err-give_cut-clause-pays g c =
    let given = c.self.inside.input.given in
    let ls = lines_seen c.self.inside.log in
    let b = c.args.budget.now in
    let now = lines_seen c.take_cut.new.self in
    let left = c.count_learned.new.self in
    let lines = (c.in_ok-is_taken.ensures.taken c.if-not-is_taken.false).lines in
    subst (λ (s : SolverState). PaysOpen given (lines_seen s.log) now b left) c.self.view_is
    (paid_axiom given ls now c.args.lits.now b left lines c.count_learned.ensures)

pub invariant_of-self-2 : goal.invariant_of-self-2
invariant_of-self-2 g c =
    let old : SolverState = record {
      search = c.self.inside.search;
      input = c.self.inside.input;
      log = c.self.inside.log;
      refuted = c.self.inside.refuted;
      failed = c.self.inside.failed;
    } in
    let new : SolverState = record {
      search = c.give_cut.new.search;
      input = c.self.inside.input;
      log = c.take_cut.new.self;
      refuted = c.self.inside.refuted;
      failed = false;
    } in
    let works : old.failed ≡ false = search rules in
    let going : old.refuted ≡ false = search rules in
    let e = c.in_ok-is_taken.ensures in
    brings_solver old new (c.args.lits.now ∷ []) c.self.invariant works e.same
    (e.taken c.if-not-is_taken.false) refl refl going c.in_ok-give_cut.ensures

pub returns-clause-pays : goal.returns-clause-pays
returns-clause-pays g c =
    let given = c.self.inside.input.given in
    let ls = lines_seen c.self.inside.log in
    let b = c.args.budget.now in
    let now = lines_seen c.take_cut.new.self in
    let left = c.count_learned.new.self in
    let lines = (c.in_ok-is_taken.ensures.taken c.if-not-is_taken.false).lines in
    subst (λ (s : SolverState). PaysOpen given (lines_seen s.log) now b left) c.self.view_is
    (paid_axiom given ls now c.args.lits.now b left lines c.count_learned.ensures)

pub returns-in_err-is_taken-clause-taken : goal.returns-in_err-is_taken-clause-taken
returns-in_err-is_taken-clause-taken g c =
    IfOk-from_err c.from_residual-in_err-is_taken.result _ c.from_residual-in_err-is_taken.ensures.0

pub returns-in_err-is_taken-clause-paid : goal.returns-in_err-is_taken-clause-paid
returns-in_err-is_taken-clause-paid g c =
    IfOk-from_err c.from_residual-in_err-is_taken.result _ c.from_residual-in_err-is_taken.ensures.0

pub returns-in_err-is_taken-clause-refused : goal.returns-in_err-is_taken-clause-refused
returns-in_err-is_taken-clause-refused g c =
    IfOk-from_err c.from_residual-in_err-is_taken.result _ c.from_residual-in_err-is_taken.ensures.0

pub returns-in_err-is_taken-clause-unpaid : goal.returns-in_err-is_taken-clause-unpaid
returns-in_err-is_taken-clause-unpaid g c =
    IfOk-from_err c.from_residual-in_err-is_taken.result _ c.from_residual-in_err-is_taken.ensures.0

pub returns-in_err-give_cut-clause-taken : goal.returns-in_err-give_cut-clause-taken
returns-in_err-give_cut-clause-taken g c =
    IfOk-from_err c.from_residual-in_err-give_cut.result _ c.from_residual-in_err-give_cut.ensures.0

pub returns-in_err-give_cut-clause-paid : goal.returns-in_err-give_cut-clause-paid
returns-in_err-give_cut-clause-paid g c =
    IfOk-from_err c.from_residual-in_err-give_cut.result _ c.from_residual-in_err-give_cut.ensures.0

pub returns-in_err-give_cut-clause-refused : goal.returns-in_err-give_cut-clause-refused
returns-in_err-give_cut-clause-refused g c =
    IfOk-from_err c.from_residual-in_err-give_cut.result _ c.from_residual-in_err-give_cut.ensures.0

pub returns-in_err-give_cut-clause-unpaid : goal.returns-in_err-give_cut-clause-unpaid
returns-in_err-give_cut-clause-unpaid g c =
    IfOk-from_err c.from_residual-in_err-give_cut.result _ c.from_residual-in_err-give_cut.ensures.0
