use Rattle.std.proofs.Common.{◌≡◌, map, ap, sym, ◌∙◌, subst}
use Rattle.std.proofs.lemmas.Bool.{cond-true, cond-false}
use Rattle.std.specs.Prelude.{IfOk}
use Rattle.cnf.specs.Literal.{negation}
use Rattle.lrat_read.specs.Form.{groups_of}
use Rattle.lrat_live.specs.Listed.{listed_at, ids_listed, same_ids}
use Rattle.lrat_machine.specs.Verdict.{ids_with, groups_fault}
use Rattle.lrat_machine.proofs.Base.{ids_with-listed}
use Rattle.lrat_machine.proofs.rat.rat_fault.Goals as goal
use Rattle.lrat_machine.proofs.rat.rat_fault.Goals.{In_ok-named_all}

-- the candidates named are all there are, or they are not
test : (c : In_ok-named_all) → same_ids (map (λ g. g.candidate) (groups_of c.args.hints.now))
    (ids_with (listed_at c.args.base.now.live) (negation c.args.pivot) c.args.base.now.last)
    ≡ c.in_ok-named_all.named_all
test c =
    let es = c.args.base.now.live in
    let named = map (λ g. g.candidate) (groups_of c.args.hints.now) in
    ap (same_ids named) (ids_with-listed _ c.args.base.now.last es (negation c.args.pivot)
    c.requires.base ∙ sym (ap (λ l. ids_listed l es) c.negation.ensures))
    ∙ ap (λ ids. same_ids ids (ids_listed c.negation.result es))
    (sym (c.deref.ensures.value ∙ c.in_ok-candidates_of.ensures))
    ∙ sym c.in_ok-named_all.ensures.all

pub returns-then-not-named_all-clause-fault : goal.returns-then-not-named_all-clause-fault
returns-then-not-named_all-clause-fault c =
    sym (cond-false _ _ _ (test (goal.at.returns-then-not-named_all-clause-fault c).In_ok-named_all
    ∙ c.if-not-named_all.true))

pub returns-clause-fault : goal.returns-clause-fault
returns-clause-fault c =
    let gs = groups_of c.args.hints.now in
    subst (λ z. IfOk c.groups_fault.result (λ f. f ≡ z))
    (ap (λ xs. groups_fault (listed_at xs) c.args.pivot c.args.scratch.now.assumed.literals gs)
    c.in_ok-named_all.ensures.unchanged
    ∙ sym (cond-true _ _ _ (test (goal.at.returns-clause-fault c).In_ok-named_all
    ∙ c.if-not-named_all.false)))
    c.groups_fault.ensures.fault
