use Rattle.std.proofs.Common.{◌≡◌, true, refl, sym, ◌∙◌, ap, subst}
use Rattle.std.specs.Prelude.{All}
use Rattle.lrat_log.specs.declared.lines.Name.TheVariants.{Formula}
use Rattle.cdcl.specs.Solving.{given_to}
use Rattle.cdcl_search.specs.Giving.{IsFrozen, IsFreshName}
use Rattle.cdcl.specs.Outcomes.{IsSolver}
use Rattle.cdcl.proofs.Answered.{given_seen, log_now, seen_log, same_grows, same_learned}
use Rattle.cdcl.proofs.Answered.{same_short}
use Rattle.cdcl.proofs.GivenClause.{gives_solver, fails_solver, frozen_within}
use Rattle.cdcl.proofs.solver.Solver.add_clause.Goals as goal
use Rattle.cdcl.proofs.solver.Solver.add_clause.Goals.{In-Ok, In-Err}

-- the clause was given
gives : (g : _) (c : In-Ok g)
    → IsSolver c.give.new.search c.give.new.input (g.S.Sink.lines c.self.inside.tally.sink)
    c.self.inside.failed
gives g c =
    let p = c.self.inside.input in
    let seen =
    subst (λ s. IsFreshName (given_to s) c.args.name) (sym c.self.view_is) c.requires.fresh in
    let free =
    subst (λ x. IsFreshName x c.args.name) (given_seen p c.self.invariant.input) seen in
    let name : c.args.name ≡ Formula c.get-number.result =
    c.in-Formula.is ∙ ap Formula (sym c.get-number.ensures.value) in
    let fresh = subst (IsFreshName p.given) name free in
    let fixed =
    subst (λ s. All (IsFrozen s.frozen) c.args.lits.now) (sym c.self.view_is) c.requires.frozen in
    gives_solver c.self.inside.search c.give.new.search p c.give.new.input
    (Formula c.get-number.result) c.args.lits.now (g.S.Sink.lines c.self.inside.tally.sink)
    c.self.inside.failed c.self.invariant c.if-self.false c.in-Ok.ensures.given fresh (
      c.get-number.ensures.from_one,
      c.get-number.ensures.small,
    ) fixed c.requires.no_repeat
    c.requires.no_tautology c.ask_variables.ensures
    (λ u. c.in-Ok.ensures.takes (c.self.inside.tally.told ∙ u))

-- memory was refused
fails : (g : _) (c : In-Err g)
    → IsSolver c.give.new.search c.give.new.input (g.S.Sink.lines c.self.inside.tally.sink) true
fails g c =
    fails_solver c.self.inside.search c.give.new.search c.self.inside.input c.give.new.input
    (g.S.Sink.lines c.self.inside.tally.sink) c.self.inside.failed
    c.self.invariant c.in-Err.ensures.unchanged

pub returns-then-self-clause-lines : goal.returns-then-self-clause-lines
returns-then-self-clause-lines g c =
    seen_log g.S.Sink.lines c.self.invariant.input c.self.view_is c.self.invariant.lines

pub give-requires-clause-can : goal.give-requires-clause-can
give-requires-clause-can g c = λ u.
    let runs = c.self.invariant.running c.if-self.false (sym c.self.inside.tally.told ∙ u) in
    let fixed =
    subst (λ s. All (IsFrozen s.frozen) c.args.lits.now) (sym c.self.view_is) c.requires.frozen in
    record {
      ready = record {
        searches = runs.running.searches;
        room = runs.room;
        named = runs.running.recorded.names.as_many;
      };
      within = frozen_within c.self.inside.search c.self.inside.input
          (g.S.Sink.lines c.self.inside.tally.sink) c.args.lits.now c.self.invariant.input runs
          fixed c.ask_variables.ensures;
    }

pub invariant_of-self : goal.invariant_of-self
invariant_of-self g c = gives g (goal.at.invariant_of-self g c).In-Ok

pub invariant_of-self-in-Err : goal.invariant_of-self-in-Err
invariant_of-self-in-Err g c = fails g (goal.at.invariant_of-self-in-Err g c).In-Err

pub returns-in-Ok-clause-lines : goal.returns-in-Ok-clause-lines
returns-in-Ok-clause-lines g c =
    let ok = gives g (goal.at.returns-in-Ok-clause-lines g c).In-Ok in
    log_now c.give.new.input (g.S.Sink.lines c.self.inside.tally.sink) ok.input ok.lines

pub returns-in-Err-clause-lines : goal.returns-in-Err-clause-lines
returns-in-Err-clause-lines g c =
    let bad = fails g (goal.at.returns-in-Err-clause-lines g c).In-Err in
    log_now c.give.new.input (g.S.Sink.lines c.self.inside.tally.sink) bad.input bad.lines

pub returns-then-self-clause-grows : goal.returns-then-self-clause-grows
returns-then-self-clause-grows g c = same_grows (g.S.Sink.lines c.args.self.now.sink) refl

pub returns-then-self-clause-none_learned : goal.returns-then-self-clause-none_learned
returns-then-self-clause-none_learned g c = same_learned (g.S.Sink.lines c.args.self.now.sink) refl

pub returns-then-self-clause-short : goal.returns-then-self-clause-short
returns-then-self-clause-short g c = same_short (g.S.Sink.lines c.args.self.now.sink) refl

pub returns-in-Ok-clause-grows : goal.returns-in-Ok-clause-grows
returns-in-Ok-clause-grows g c =
    same_grows (g.S.Sink.lines c.args.self.now.sink)
    (ap (λ s. g.S.Sink.lines s.sink) c.self.view_is)

pub returns-in-Ok-clause-none_learned : goal.returns-in-Ok-clause-none_learned
returns-in-Ok-clause-none_learned g c =
    same_learned (g.S.Sink.lines c.args.self.now.sink)
    (ap (λ s. g.S.Sink.lines s.sink) c.self.view_is)

pub returns-in-Ok-clause-short : goal.returns-in-Ok-clause-short
returns-in-Ok-clause-short g c =
    same_short (g.S.Sink.lines c.args.self.now.sink)
    (ap (λ s. g.S.Sink.lines s.sink) c.self.view_is)

pub returns-in-Err-clause-grows : goal.returns-in-Err-clause-grows
returns-in-Err-clause-grows g c =
    same_grows (g.S.Sink.lines c.args.self.now.sink)
    (ap (λ s. g.S.Sink.lines s.sink) c.self.view_is)

pub returns-in-Err-clause-none_learned : goal.returns-in-Err-clause-none_learned
returns-in-Err-clause-none_learned g c =
    same_learned (g.S.Sink.lines c.args.self.now.sink)
    (ap (λ s. g.S.Sink.lines s.sink) c.self.view_is)

pub returns-in-Err-clause-short : goal.returns-in-Err-clause-short
returns-in-Err-clause-short g c =
    same_short (g.S.Sink.lines c.args.self.now.sink)
    (ap (λ s. g.S.Sink.lines s.sink) c.self.view_is)
