-- The first solution is given, and was not searched for.
use Rattle.std.proofs.Common.{Ok, [], refl, sym, ap, arith, append-nil, ◌≡◌, ◌+◌}
use Rattle.std.proofs.lemmas.List.Elements.{All-nil}
use Rattle.lrat_log.specs.Steps.{learned_count}
use Rattle.cdcl_order.specs.Budgets.{left_of}
use Rattle.improve_found.specs.Solutions.{IsCostOfSome}
use Rattle.improve.specs.Improving.{work_count}
use Rattle.improve.proofs.SearchEnds.{found_end, on_work_weaker}
use Rattle.improve.proofs.HardEnds.{hard_none, solved_open}
use Rattle.improve_found.proofs.Laws.{shown_none}
use Rattle.improve.proofs.search.improve_from.Goals as goal

pub conclude_nothing-requires-clause-hard : goal.conclude_nothing-requires-clause-hard
conclude_nothing-requires-clause-hard g c =
    hard_none c.args.instance.now c.new-hard.result c.new-hard.ensures

pub conclude_nothing-requires-clause-open : goal.conclude_nothing-requires-clause-open
conclude_nothing-requires-clause-open g c =
    solved_open c.args.instance.now c.args.beginning.bits.items c.requires.solution

pub lower-requires-clause-hard : goal.lower-requires-clause-hard
lower-requires-clause-hard g c =
    hard_none c.args.instance.now c.new-hard.result c.new-hard.ensures

pub returns-then-left-eq0-clause-improves : goal.returns-then-left-eq0-clause-improves
returns-then-left-eq0-clause-improves g c =
    let p = c.args.instance.now in
    let now = c.args.budget.now in
    let r = c.conclude_nothing in
    let empty = ap learned_count c.new-hard.ensures in
    let none : left_of now ≡ 0 = omega (arith, c.left.ensures.left) in
    found_end c.args.beginning.profile p _ _ now now refl [] (sym (append-nil _)) (Ok r.result) tt
    (All-nil (IsCostOfSome p)) refl tt (r.ensures.found c.args.beginning.profile) (omega arith)
    (on_work_weaker (Ok r.result) _ (λ w. now.learned ≡ now.learned + work_count w)
    (λ w x. omega (arith, x, empty)) r.ensures.work)
    (on_work_weaker (Ok r.result) _ (λ w. left_of now ≡ 0) (λ w x. none) r.ensures.work)

pub returns-clause-improves : goal.returns-clause-improves
returns-clause-improves g c =
    let paid = c.count_answer.ensures in
    c.lower.ensures.improves c.args.budget.now (record {
      limit = sym (ap (λ b. b.limit) paid);
      answers = sym (ap (λ b. b.answers) paid);
      learned = omega (arith, ap (λ b. b.learned) paid, ap learned_count c.new-hard.ensures);
    })

pub returns-then-left-eq0-clause-shown : goal.returns-then-left-eq0-clause-shown
returns-then-left-eq0-clause-shown g c =
    shown_none c.args.instance.now (g.T.Progress.state c.args.progress.now)
    (g.W.SearchWatch.seen c.args.watch.now)
