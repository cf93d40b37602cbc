use Rattle.std.proofs.Common.{◌≡◌, map, length, ap, sym, ◌∙◌, subst, arith}
use Rattle.std.specs.Prelude.{IfOk}
use Rattle.lrat_read.specs.Form.{leading, groups_of}
use Rattle.lrat_machine.specs.Verdict.{clause_fault}
use Rattle.lrat_machine.specs.Steps.{live_of, walked_as}
use Rattle.lrat_machine.proofs.Negations.{clause_end, length_first, refuted_all, refuted_more}
use Rattle.lrat_machine.proofs.Negations.{open_pivot}
use Rattle.lrat_machine.proofs.additions.hints_fault.Goals as goal

pub returns-in-Refuted-clause-fault : goal.returns-in-Refuted-clause-fault
returns-in-Refuted-clause-fault c =
    let live = live_of c.args.base.now.last c.args.base.now.live in
    let d = c.args.clause.now in
    let hs = c.args.hints.now in
    let T = c.walk.new.assumed.literals in
    let long : length c.leading-first.result.now ≡ length (leading hs) =
    length_first c.leading-first.result.now hs c.leading-first.ensures in
    sym (clause_end live d hs c.args.scratch.now.assumed.literals
    (map (λ h. h.1) c.leading-first.result.now) c.in_ok-cause.field-0 T c.requires.negated
    c.leading-first.ensures c.in_ok-cause.ensures.walked
    ∙ ap (λ r. clause_fault live d (walked_as r T) (groups_of hs)) c.in-Refuted.is
    ∙ refuted_more live d hs (omega arith))

pub returns-in-Refuted-2-clause-fault : goal.returns-in-Refuted-2-clause-fault
returns-in-Refuted-2-clause-fault c =
    let live = live_of c.args.base.now.last c.args.base.now.live in
    let d = c.args.clause.now in
    let hs = c.args.hints.now in
    let T = c.walk.new.assumed.literals in
    let long : length c.leading-first.result.now ≡ length (leading hs) =
    length_first c.leading-first.result.now hs c.leading-first.ensures in
    sym (clause_end live d hs c.args.scratch.now.assumed.literals
    (map (λ h. h.1) c.leading-first.result.now) c.in_ok-cause.field-0 T c.requires.negated
    c.leading-first.ensures c.in_ok-cause.ensures.walked
    ∙ ap (λ r. clause_fault live d (walked_as r T) (groups_of hs)) c.in-Refuted-2.is
    ∙ refuted_all live d hs (omega arith))

pub returns-in-Some-clause-fault : goal.returns-in-Some-clause-fault
returns-in-Some-clause-fault c =
    let live = live_of c.args.base.now.last c.args.base.now.live in
    let d = c.args.clause.now in
    let hs = c.args.hints.now in
    let T = c.walk.new.assumed.literals in
    let opens =
    clause_end live d hs c.args.scratch.now.assumed.literals
    (map (λ h. h.1) c.leading-first.result.now) c.in_ok-cause.field-0 T c.requires.negated
    c.leading-first.ensures c.in_ok-cause.ensures.walked
    ∙ ap (λ r. clause_fault live d (walked_as r T) (groups_of hs)) c.in-Open.is
    ∙ open_pivot live d c.in-Some.pivot.now T (groups_of hs) (sym c.in-Some.ensures.value) in
    subst (λ z. IfOk c.rat_fault.result (λ f. f ≡ z)) (sym opens) c.rat_fault.ensures.fault
