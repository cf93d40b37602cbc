-- The parts of what was given, and the log over the last bound.
use Rattle.std.proofs.Common.{◌≡◌, ◌<◌, ◌^◌, true, List, length, ◌∙◌, ap, arith}
use Rattle.cdcl.specs.Solving.{given_to}
use Rattle.lrat_log.specs.Log.{Given, LogLine, clauses_in}
use Rattle.improve.specs.Bounds.{LogSolver}
use Rattle.improve.proofs.GivenParts.{given_length, entries_are, entries_count, entries_fit}
use Rattle.improve.proofs.GivenParts.{solver_ids, if_ok_both}
use Rattle.improve.proofs.LastBound.{entries_spelled, bound_log}
use Rattle.improve.proofs.bounds.Bounds.rebase_log.Goals as goal

-- a solver that retired was given the same, and has the same lines
given_same : {g : Given} {t : LogSolver} (s : LogSolver) → g ≡ given_to t
    → t ≡ record s { failed = true } → g ≡ given_to s
given_same s e r = e ∙ ap given_to r

sink_same : {ls : List LogLine} {t : LogSolver} (s : LogSolver) → ls ≡ t.sink
    → t ≡ record s { failed = true } → ls ≡ s.sink
sink_same s e r = e ∙ ap (λ (x : LogSolver). x.sink) r

pub collect_weaker-requires : goal.collect_weaker-requires
collect_weaker-requires c =
    let given =
    given_same c.args.self.now.solver c.given-given.ensures c.retire.ensures in
    let b = c.requires.bounded in
    let n = given_length c.args.instance.now c.args.self.now b.1.0 b.0 c.requires.over b.1.1 in
    omega (arith, n, ap length given)

pub rebase-requires-clause-numbers : goal.rebase-requires-clause-numbers
rebase-requires-clause-numbers c =
    let given =
    given_same c.args.self.now.solver c.given-given.ensures c.retire.ensures in
    let b = c.requires.bounded in
    let w = c.in_ok-weaker in
    rw c.deref.ensures.value
    (entries_fit c.args.instance.now c.args.self.now b.1.0 b.0 c.requires.over b.1.1 _
    given w.weaker.items w.ensures.weaker (omega (arith, w.ensures.few)))

pub rebase-requires-clause-literals : goal.rebase-requires-clause-literals
rebase-requires-clause-literals c =
    let given =
    given_same c.args.self.now.solver c.given-given.ensures c.retire.ensures in
    let s = c.args.self.now in
    let b = c.requires.bounded in
    let w = c.in_ok-weaker in
    let are =
    entries_are c.args.instance.now s b.1.0 b.0 c.requires.over b.1.1 _ given
    w.weaker.items w.ensures.weaker in
    rw c.deref.ensures.value (entries_spelled c.args.instance.now s b.1.0 b.0 c.requires.over b.1.1
    c.requires.falling w.weaker.items are)

pub rebase-requires-clause-room : goal.rebase-requires-clause-room
rebase-requires-clause-room c =
    let given =
    given_same c.args.self.now.solver c.given-given.ensures c.retire.ensures in
    let b = c.requires.bounded in
    let w = c.in_ok-weaker in
    let count =
    entries_count c.args.instance.now c.args.self.now b.1.0 b.0 c.requires.over b.1.1 _
    given w.weaker.items w.ensures.weaker in
    omega (arith, count, w.ensures.few, ap length c.deref.ensures.value)

pub rebase-requires-clause-ids : goal.rebase-requires-clause-ids
rebase-requires-clause-ids c =
    let given =
    given_same c.args.self.now.solver c.given-given.ensures c.retire.ensures in
    let sink =
    sink_same c.args.self.now.solver c.sink-sink.ensures c.retire.ensures in
    let s = c.args.self.now in
    let b = c.requires.bounded in
    let w = c.in_ok-weaker in
    let count =
    entries_count c.args.instance.now s b.1.0 b.0 c.requires.over b.1.1 _ given
    w.weaker.items w.ensures.weaker in
    let same = ap length given in
    let few : length (given_to s.solver) < 2 ^ 58 = omega (arith, same, w.ensures.few) in
    let short : length (s.solver).sink < 2 ^ 61 =
    omega (arith, ap length sink, c.is_short.ensures) in
    rw (c.deref.ensures.value, sink)
    (solver_ids s.solver (length w.weaker.items) c.requires.over.usable few short
    (omega (arith, count, same)))

pub returns : goal.returns
returns c =
    let given =
    given_same c.args.self.now.solver c.given-given.ensures c.retire.ensures in
    let sink =
    sink_same c.args.self.now.solver c.sink-sink.ensures c.retire.ensures in
    let w = c.in_ok-weaker in
    let lines = rw (c.deref.ensures.value, sink) at c.rebase.ensures.lines in
    let keeps = rw (c.deref.ensures.value, sink) at c.rebase.ensures.keeps in
    if_ok_both c.rebase.result _ _ _ lines keeps (λ log e k.
    bound_log c.args.instance.now c.args.self.now w.weaker.items log c.requires.over
    (λ x y z u f g. w.ensures.weaker x y z (ap clauses_in given ∙ u) f g) e k)
