use Rattle.std.proofs.Common.{◌∙◌, ap, arith}
use Rattle.cdcl_order.specs.Policies.{PolicyState}
use Rattle.cdcl_search.specs.declared.search.Search.{Search}
use Rattle.cdcl.proofs.Rounds.{goes_decided}
use Rattle.cdcl.proofs.Guiding.{guided_breaks, guided_goes, paid_none, stopped_same}
use Rattle.cdcl.proofs.Guiding.{turns_same}
use Rattle.cdcl.proofs.guided.turns.Course.decide.Goals as goal

pub branch-self-requires : goal.branch-self-requires
branch-self-requires g c =
    let r = c.requires in
    let same = c.decide_open.ensures.stays c.if-not-decide_open.true in
    let s = stopped_same same c.args.self.now.budget.now r.runs r.fixpoint r.noted r.left in
    record { runs = s.runs; fixpoint = s.fixpoint; noted = s.noted; left = s.left }

pub returns-then-not-decide_open-clause-turns : goal.returns-then-not-decide_open-clause-turns
returns-then-not-decide_open-clause-turns g c =
    turns_same (c.decide_open.ensures.stays c.if-not-decide_open.true)
    c.branch-self.ensures.turns

pub thin_out-requires : goal.thin_out-requires
thin_out-requires g c =
    let o = c.args.self.now in
    record {
      runs = c.decide_open.ensures.runs o.input.now (g.S.Sink.lines o.sink.now)
          c.requires.runs;
    }

pub returns-in_err-thin_out-clause-turns : goal.returns-in_err-thin_out-clause-turns
returns-in_err-thin_out-clause-turns g c =
    let o = c.args.self.now in
    let p = o.input.now in
    let b = o.budget.now in
    let ls = g.S.Sink.lines o.sink.now in
    let more = g.S.Sink.lines c.thin_out.new.sink in
    guided_breaks c.from_residual.result o.search.now c.thin_out.new.search p ls more b b
    c.from_residual.ensures.0 c.in_err-thin_out.ensures.reduces.err
    (paid_none p.given ls more b c.thin_out.ensures.reduces.writes)

pub returns-clause-turns : goal.returns-clause-turns
returns-clause-turns g c =
    let o = c.args.self.now in
    let s = o.search.now in
    let p = o.input.now in
    let b = o.budget.now in
    let ls = g.S.Sink.lines o.sink.now in
    let more = g.S.Sink.lines c.thin_out.new.sink in
    let e = c.decide_open.ensures in
    let r = c.in_ok-thin_out.ensures.reduces.leaves in
    let longer = e.longer c.if-not-decide_open.false in
    let policy = ap (λ (x : Search). x.policy) e.engine.rest in
    guided_goes s c.thin_out.new.search p ls more b b
    (goes_decided s c.thin_out.new.search p more b r.runs (r.variables ∙ e.engine.variables)
    (ap (λ (x : PolicyState). x.has_learned) (r.policy ∙ policy))
    (let l = r.long in omega arith) e.within)
    (paid_none p.given ls more b c.thin_out.ensures.reduces.writes)
