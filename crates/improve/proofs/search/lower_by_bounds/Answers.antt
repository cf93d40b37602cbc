-- The bounds begin with none.
use Rattle.std.proofs.Common.{refl, subst}
use Rattle.lrat_log.specs.Steps.{learned_count}
use Rattle.improve_found.specs.declared.found.ImproveFault.TheVariants.{Memory}
use Rattle.improve.specs.Standing.{starting_with, Ends}
use Rattle.improve.proofs.Standings.{ends_failing, fails_memory, first_standing}
use Rattle.improve_found.proofs.Laws.{shown_none}
use Rattle.improve.proofs.search.lower_by_bounds.Goals as goal

pub returns-in_default-clause-ends : goal.returns-in_default-clause-ends
returns-in_default-clause-ends g c =
    let p = c.args.instance.now in
    let told = g.T.Progress.state c.args.progress.now in
    let left = c.args.budget.now in
    let first = c.args.start.first in
    ends_failing c.args.start.profile p Memory told told left left (starting_with first)
    (learned_count c.args.start.hard)
    (fails_memory p told told left left (starting_with first)
    (first_standing p first c.requires.solution) refl refl)

pub tighten-requires-clause-over : goal.tighten-requires-clause-over
tighten-requires-clause-over g c = rw c.suggest_given.ensures c.in-Ok.ensures.over

pub tighten-requires-clause-none : goal.tighten-requires-clause-none
tighten-requires-clause-none g c = rw c.suggest_given.ensures c.in-Ok.ensures.none

pub returns-clause-ends : goal.returns-clause-ends
returns-clause-ends g c =
    subst (λ q. Ends q c.args.instance.now c.tighten.result
    (g.T.Progress.state c.args.progress.now) (g.T.Progress.state c.tighten.new.progress)
    c.args.budget.now c.tighten.new.budget (starting_with c.args.start.first)
    (learned_count c.args.start.hard)) c.in-Ok.ensures.profile
    (rw c.suggest_given.ensures at c.tighten.ensures.ends)

pub returns-in_default-clause-shown : goal.returns-in_default-clause-shown
returns-in_default-clause-shown g c =
    shown_none c.args.instance.now (g.T.Progress.state c.args.progress.now)
    (g.W.SearchWatch.seen c.args.watch.now)
