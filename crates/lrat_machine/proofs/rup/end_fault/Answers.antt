-- A conflict, with hints after it or without.
use Rattle.std.proofs.Common.{◌≡◌, ap, arith, length, map, sym, ◌∙◌}
use Rattle.lrat_live.specs.Listed.{listed_at}
use Rattle.lrat_read.specs.Form.{groups_of, leading}
use Rattle.lrat_machine.specs.Rup.{end_fault}
use Rattle.lrat_machine.specs.Steps.{walked_as}
use Rattle.lrat_machine.proofs.Negations.{length_first}
use Rattle.lrat_machine.proofs.RupLaws.{hints_end, none_after, some_after}
use Rattle.lrat_machine.proofs.rup.end_fault.Goals as goal

pub returns-in-Refuted-clause-fault : goal.returns-in-Refuted-clause-fault
returns-in-Refuted-clause-fault c =
    let hs = c.args.hints.now in
    let T = c.walk.new.assumed.literals in
    let first = c.leading-first.result.now in
    let long : length first ≡ length (leading hs) = length_first first hs c.leading-first.ensures in
    sym (hints_end (listed_at c.args.live.now) c.args.assumed.now.literals hs
    (map (λ h. h.1) first) c.in_ok-cause.field-0 T c.leading-first.ensures
    c.in_ok-cause.ensures.walked
    ∙ ap (λ r. end_fault (walked_as r T) (groups_of hs)) c.in-Refuted.is
    ∙ some_after hs (omega arith))

pub returns-in-Refuted-2-clause-fault : goal.returns-in-Refuted-2-clause-fault
returns-in-Refuted-2-clause-fault c =
    let hs = c.args.hints.now in
    let T = c.walk.new.assumed.literals in
    let first = c.leading-first.result.now in
    let long : length first ≡ length (leading hs) = length_first first hs c.leading-first.ensures in
    sym (hints_end (listed_at c.args.live.now) c.args.assumed.now.literals hs
    (map (λ h. h.1) first) c.in_ok-cause.field-0 T c.leading-first.ensures
    c.in_ok-cause.ensures.walked
    ∙ ap (λ r. end_fault (walked_as r T) (groups_of hs)) c.in-Refuted-2.is
    ∙ none_after hs (omega arith))
