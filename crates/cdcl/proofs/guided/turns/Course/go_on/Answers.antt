use Rattle.cdcl.specs.declared.guided.GuidedEnd.TheVariants.{Stopped}
use Rattle.cdcl.proofs.Rounds.{open_log}
use Rattle.cdcl.proofs.Guiding.{guided_breaks, guided_ends, paid_nothing, stopped_same}
use Rattle.cdcl.proofs.Guiding.{turns_same}
use Rattle.cdcl.proofs.guided.turns.Course.go_on.Goals as goal

pub returns-in_err-advice-clause-turns : goal.returns-in_err-advice-clause-turns
returns-in_err-advice-clause-turns g c =
    let o = c.args.self.now in
    let p = o.input.now in
    let b = o.budget.now in
    let ls = g.S.Sink.lines o.sink.now in
    guided_breaks c.from_residual.result o.search.now c.ask.new.search p ls ls b b
    c.from_residual.ensures.0 (open_log o.search.now p ls c.requires.runs)
    (paid_nothing p.given ls b)

pub returns-in-Stop-clause-turns : goal.returns-in-Stop-clause-turns
returns-in-Stop-clause-turns g c =
    let o = c.args.self.now in
    let p = o.input.now in
    let b = o.budget.now in
    let ls = g.S.Sink.lines o.sink.now in
    let s = o.search.now in
    guided_ends s c.ask.new.search p ls ls b b Stopped
    (stopped_same c.in_ok-advice.ensures.unchanged b c.requires.runs c.requires.fixpoint
    c.requires.noted c.requires.left) (paid_nothing p.given ls b)

pub decide-requires : goal.decide-requires
decide-requires g c =
    let r = c.requires in
    let b = c.args.self.now.budget.now in
    let s = stopped_same c.ask.ensures.unchanged b r.runs r.fixpoint r.noted r.left in
    record { runs = s.runs; fixpoint = s.fixpoint; noted = s.noted; left = s.left }

pub cut-requires : goal.cut-requires
cut-requires g c =
    let r = c.requires in
    let b = c.args.self.now.budget.now in
    let s = stopped_same c.ask.ensures.unchanged b r.runs r.fixpoint r.noted r.left in
    record { runs = s.runs; fixpoint = s.fixpoint; noted = s.noted; left = s.left }

pub branch-self-requires : goal.branch-self-requires
branch-self-requires g c =
    let r = c.requires in
    let b = c.args.self.now.budget.now in
    let s = stopped_same c.ask.ensures.unchanged b r.runs r.fixpoint r.noted r.left in
    record { runs = s.runs; fixpoint = s.fixpoint; noted = s.noted; left = s.left }

pub returns-in-Decide-clause-turns : goal.returns-in-Decide-clause-turns
returns-in-Decide-clause-turns g c = turns_same c.ask.ensures.unchanged c.decide.ensures.turns

pub returns-in-Cut-clause-turns : goal.returns-in-Cut-clause-turns
returns-in-Cut-clause-turns g c = turns_same c.ask.ensures.unchanged c.cut.ensures.turns

pub returns-in-Explain-clause-turns : goal.returns-in-Explain-clause-turns
returns-in-Explain-clause-turns g c = turns_same c.ask.ensures.unchanged c.branch-self.ensures.turns
