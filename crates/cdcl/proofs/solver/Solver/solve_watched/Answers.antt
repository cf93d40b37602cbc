use Rattle.std.proofs.Common.{length, sym, ◌∙◌}
use Rattle.std.proofs.lemmas.Bool.{true≢false}
use Rattle.cdcl_search.proofs.Laws.{stays_written}
use Rattle.cdcl.proofs.Answered.{answered_open, answered_runs}
use Rattle.cdcl.proofs.Guiding.{plain_writes}
use Rattle.cdcl.proofs.Solved.{has_answered, has_refused, has_failed, was_refuted}
use Rattle.cdcl.proofs.solver.Solver.solve_watched.Goals as goal

pub returns-then-self-clause-solves : goal.returns-then-self-clause-solves
returns-then-self-clause-solves g c =
    has_failed g.S.Sink.lines c.self.invariant.input c.self.view_is c.args.budget.now
    c.if-self.true c.self.invariant.lines

pub returns-then-self-2-clause-solves : goal.returns-then-self-2-clause-solves
returns-then-self-2-clause-solves g c =
    was_refuted g.S.Sink.lines c.self.invariant.input c.self.view_is c.args.budget.now
    c.if-self.false c.self.invariant.lines (sym c.self.inside.tally.told ∙ c.if-self-2.true)

pub returns-in-Ok-clause-solves : goal.returns-in-Ok-clause-solves
returns-in-Ok-clause-solves g c =
    has_answered g.S.Sink.lines c.self.invariant.input c.self.view_is c.answer.new.search
    c.answer.new.tally.sink c.args.budget.now c.answer.new.budget c.in-Ok.outcome
    c.if-self.false (sym c.self.inside.tally.told ∙ c.if-self-2.false) c.self.invariant.lines
    c.in-Ok.ensures.answers c.in-Ok.ensures.at_once c.answer.new.tally.own c.in-Ok.ensures.pays

pub returns-in-Err-clause-solves : goal.returns-in-Err-clause-solves
returns-in-Err-clause-solves g c =
    has_refused g.S.Sink.lines c.self.invariant.input c.self.view_is c.answer.new.tally.sink
    c.args.budget.now c.answer.new.budget c.if-self.false
    (sym c.self.inside.tally.told ∙ c.if-self-2.false) c.self.invariant.lines
    c.in-Err.ensures.err c.answer.new.tally.own c.in-Err.ensures.pays

pub invariant_of-self : goal.invariant_of-self
invariant_of-self g c =
    let p = c.self.inside.input in
    let ls = g.S.Sink.lines c.answer.new.tally.sink in
    let s = c.answer.new.search in
    let b = c.answer.new.budget in
    let before = g.S.Sink.lines c.self.inside.tally.sink in
    let is = c.in-Ok.ensures.answers in
    let pays = c.in-Ok.ensures.pays in
    record {
      input = c.self.invariant.input;
      lines =
          stays_written (length (p.frozen).items) p.given before ls pays.0 c.self.invariant.lines
          (plain_writes p.given before ls pays.0 c.answer.new.tally.own pays.1)
          (answered_open s p ls b c.in-Ok.outcome is);
      running = λ works. answered_runs s p ls b c.in-Ok.outcome is;
    }

pub invariant_of-self-in-Err : goal.invariant_of-self-in-Err
invariant_of-self-in-Err g c =
    let p = c.self.inside.input in
    let ls = g.S.Sink.lines c.answer.new.tally.sink in
    let before = g.S.Sink.lines c.self.inside.tally.sink in
    let pays = c.in-Err.ensures.pays in
    record {
      input = c.self.invariant.input;
      lines =
          stays_written (length (p.frozen).items) p.given before ls pays.0 c.self.invariant.lines
          (plain_writes p.given before ls pays.0 c.answer.new.tally.own pays.1)
          c.in-Err.ensures.err.stays;
      running = λ works. absurd (true≢false works);
    }
