use Rattle.std.proofs.Common.{subst, sym, ◌∙◌, ap, arith}
use Rattle.clauses.specs.Slots.{StoreState}
use Rattle.propagate.specs.Trail.{literals_of}
use Rattle.propagate.specs.Watches.{EngineState}
use Rattle.analyze.specs.Analyzer.{IsFixpoint}
use Rattle.cdcl_order.specs.Orders.{AreClosed}
use Rattle.cdcl_order.specs.Policies.{PolicyState}
use Rattle.cdcl_search.specs.declared.search.Search.{Search}
use Rattle.cdcl.specs.declared.guided.GuidedEnd.TheVariants.{Satisfied}
use Rattle.cdcl.proofs.Rounds.{goes_decided}
use Rattle.cdcl.proofs.Guiding.{guided_breaks, guided_ends, guided_goes, paid_none, paid_nothing}
use Rattle.cdcl.proofs.guided.turns.Course.branch.Goals as goal

pub returns-then-not-branch-clause-turns : goal.returns-then-not-branch-clause-turns
returns-then-not-branch-clause-turns g c =
    let o = c.args.self.now in
    let p = o.input.now in
    let s = o.search.now in
    let b = o.budget.now in
    let ls = g.S.Sink.lines o.sink.now in
    let e = c.branch-self.ensures in
    let f = c.branch-self.new.self in
    let stays = e.stays c.if-not-branch.true in
    guided_ends s f p ls ls b b Satisfied
    (record {
      runs = e.runs p ls c.requires.runs;
      fixpoint = subst (λ (x : EngineState). IsFixpoint f.store.slots (literals_of x.trail))
          (sym stays) (subst (λ (t : StoreState). IsFixpoint t.slots (literals_of s.engine.trail))
          (sym (ap (λ (x : Search). x.store) e.engine.rest)) c.requires.fixpoint);
      closed =
          subst (λ (x : EngineState). AreClosed x.trail x.variables) (sym stays)
          (e.closed c.if-not-branch.true);
      left = c.requires.left;
    })
    (paid_nothing p.given ls b)

pub thin_out-requires : goal.thin_out-requires
thin_out-requires g c =
    let o = c.args.self.now in
    record {
      runs = c.branch-self.ensures.runs o.input.now (g.S.Sink.lines o.sink.now)
          c.requires.runs;
    }

pub returns-in_err-thin_out-clause-turns : goal.returns-in_err-thin_out-clause-turns
returns-in_err-thin_out-clause-turns g c =
    let o = c.args.self.now in
    let p = o.input.now in
    let b = o.budget.now in
    let ls = g.S.Sink.lines o.sink.now in
    let more = g.S.Sink.lines c.thin_out.new.sink in
    guided_breaks c.from_residual.result o.search.now c.thin_out.new.search p ls more b b
    c.from_residual.ensures.0 c.in_err-thin_out.ensures.reduces.err
    (paid_none p.given ls more b c.thin_out.ensures.reduces.writes)

pub returns-clause-turns : goal.returns-clause-turns
returns-clause-turns g c =
    let o = c.args.self.now in
    let s = o.search.now in
    let p = o.input.now in
    let b = o.budget.now in
    let ls = g.S.Sink.lines o.sink.now in
    let more = g.S.Sink.lines c.thin_out.new.sink in
    let e = c.branch-self.ensures in
    let r = c.in_ok-thin_out.ensures.reduces.leaves in
    let longer = e.longer c.if-not-branch.false in
    let policy = ap (λ (x : Search). x.policy) e.engine.rest in
    guided_goes s c.thin_out.new.search p ls more b b
    (goes_decided s c.thin_out.new.search p more b r.runs (r.variables ∙ e.engine.variables)
    (ap (λ (x : PolicyState). x.has_learned) (r.policy ∙ policy))
    (let l = r.long in omega arith) e.within)
    (paid_none p.given ls more b c.thin_out.ensures.reduces.writes)
