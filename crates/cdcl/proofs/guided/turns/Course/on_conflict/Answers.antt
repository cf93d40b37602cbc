use Rattle.std.proofs.Common.{refl, sym, ◌∙◌, subst, arith}
use Rattle.std.proofs.lemmas.Result.{IfOk-from_err}
use Rattle.cdcl.specs.declared.guided.GuidedEnd.TheVariants.{Refuted, Spent}
use Rattle.cdcl_search.specs.Running.{StaysOpen, Writes}
use Rattle.cdcl_search.proofs.Laws.{writes_none}
use Rattle.cdcl.proofs.Rounds.{goes_learned, open_log}
use Rattle.cdcl.proofs.Guiding.{guided_breaks, guided_ends, guided_goes, paid_none, paid_nothing}
use Rattle.cdcl.proofs.Guiding.{open_writes}
use Rattle.cdcl.proofs.guided.turns.Course.on_conflict.Goals as goal

pub returns-in_err-write_empty-clause-turns : goal.returns-in_err-write_empty-clause-turns
returns-in_err-write_empty-clause-turns g c =
    let o = c.args.self.now in
    let p = o.input.now in
    let b = o.budget.now in
    let ls = g.S.Sink.lines o.sink.now in
    let more = g.S.Sink.lines c.write_empty.new.sink in
    guided_breaks c.from_residual.result o.search.now c.write_empty.new.search p ls more b b
    c.from_residual.ensures.0 c.in_err-write_empty.ensures.refutes.err
    (paid_none p.given ls more b c.write_empty.ensures.refutes.writes)

pub returns-then-depth-eq0-clause-turns : goal.returns-then-depth-eq0-clause-turns
returns-then-depth-eq0-clause-turns g c =
    let o = c.args.self.now in
    let p = o.input.now in
    let b = o.budget.now in
    let ls = g.S.Sink.lines o.sink.now in
    let more = g.S.Sink.lines c.write_empty.new.sink in
    guided_ends o.search.now c.write_empty.new.search p ls more b b Refuted
    c.in_ok-write_empty.ensures.refutes.leaves
    (paid_none p.given ls more b c.write_empty.ensures.refutes.writes)

pub returns-then-left-eq0-clause-turns : goal.returns-then-left-eq0-clause-turns
returns-then-left-eq0-clause-turns g c =
    let o = c.args.self.now in
    let s = o.search.now in
    let p = o.input.now in
    let b = o.budget.now in
    let ls = g.S.Sink.lines o.sink.now in
    guided_ends s s p ls ls b b Spent
    (c.requires.runs, sym c.left.ensures.left ∙ c.if-left-eq0.true) (paid_nothing p.given ls b)

pub returns-in_err-learn-clause-turns : goal.returns-in_err-learn-clause-turns
returns-in_err-learn-clause-turns g c =
    let o = c.args.self.now in
    let p = o.input.now in
    let b = o.budget.now in
    let ls = g.S.Sink.lines o.sink.now in
    let more = g.S.Sink.lines c.learn.new.sink in
    let same = c.in_err-learn.ensures.err in
    guided_breaks c.from_residual-in_err-learn.result o.search.now c.learn.new.search p ls
    more b b c.from_residual-in_err-learn.ensures.0
    (subst (StaysOpen p) (sym same) (open_log o.search.now p ls c.requires.runs))
    (paid_none p.given ls more b
    (subst (λ x. Writes p.given ls x 0) (sym same) (writes_none p.given ls)))

pub returns-clause-turns : goal.returns-clause-turns
returns-clause-turns g c =
    let o = c.args.self.now in
    let p = o.input.now in
    let b = o.budget.now in
    let ls = g.S.Sink.lines o.sink.now in
    let more = g.S.Sink.lines c.learn.new.sink in
    let learns = c.in_ok-learn.ensures.learns in
    let paid = c.pay_learned.new.budget in
    let e = c.pay_learned.ensures in
    guided_goes o.search.now c.learn.new.search p ls more b paid
    (goes_learned o.search.now c.learn.new.search p more b paid learns.runs learns.variables
    e.pays e.more (omega (arith, c.left.ensures.left, c.if-left-eq0.false)))
    (1, open_writes p.given ls more 1 learns.writes, e.pays)

pub returns-in_err-write_empty-clause-flat : goal.returns-in_err-write_empty-clause-flat
returns-in_err-write_empty-clause-flat g c =
    λ flat. IfOk-from_err c.from_residual.result _ c.from_residual.ensures.0

pub returns-then-depth-eq0-clause-flat : goal.returns-then-depth-eq0-clause-flat
returns-then-depth-eq0-clause-flat g c = λ flat. refl

pub returns-then-left-eq0-clause-flat : goal.returns-then-left-eq0-clause-flat
returns-then-left-eq0-clause-flat g c =
    λ flat. absurd (omega (arith, c.depth.ensures, c.if-depth-eq0.false, flat))

pub returns-in_err-learn-clause-flat : goal.returns-in_err-learn-clause-flat
returns-in_err-learn-clause-flat g c =
    λ flat. absurd (omega (arith, c.depth.ensures, c.if-depth-eq0.false, flat))

pub returns-clause-flat : goal.returns-clause-flat
returns-clause-flat g c =
    λ flat. absurd (omega (arith, c.depth.ensures, c.if-depth-eq0.false, flat))
