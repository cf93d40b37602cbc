use Rattle.std.proofs.Common.{◌+◌, ◌∙◌, ap, sym, subst}
use Rattle.std.specs.Prelude.{IfSome}
use Rattle.std.specs.Option.{option_copied}
use Rattle.cnf.specs.Clause.{IsClauseWithin}
use Rattle.lrat_machine.specs.Verdict.{walk, Fault}
use Rattle.lrat_machine.specs.Steps.{EndAlike}
use Rattle.lrat_machine.specs.declared.verdicts.Cause.TheVariants.{HintAfterConflict}
use Rattle.lrat_machine.proofs.Alike.{EndAlike-refl}
use Rattle.lrat_machine.proofs.Effects.{ids_from, makes_within, walk_past_conflict, walk_makes}
use Rattle.lrat_machine.proofs.hints.follow.Goals as goal

pub assume-requires-clause-within : goal.assume-requires-clause-within
assume-requires-clause-within c =
    let n = c.args.assumed.now.variables in
    makes_within n c.args.assumed.now.literals c.in-Some.clause.now c.in-Makes.lit
    (subst (λ o. IfSome (option_copied o) (λ k. IsClauseWithin n k)) c.in-Some.is c.requires.within)
    (sym c.in-Makes.ensures)

pub returns-in-Conflict-clause-followed : goal.returns-in-Conflict-clause-followed
returns-in-Conflict-clause-followed c = λ at found.
    let hs = c.args.hints.now in
    let i = c.args.i in
    let T = c.args.assumed.now.literals in
    let there = sym found ∙ ap option_copied c.in-Some.is in
    subst (λ w. EndAlike w (Fault HintAfterConflict))
    (sym (walk_past_conflict at T hs i c.in-Some.clause.now c.requires.place there
    (sym c.in-Conflict.ensures) c.if-i-hints.true))
    (EndAlike-refl (Fault HintAfterConflict))

pub returns-in_ok-assume-in-Makes-clause-followed :
    goal.returns-in_ok-assume-in-Makes-clause-followed
returns-in_ok-assume-in-Makes-clause-followed c = λ at found.
    let hs = c.args.hints.now in
    let i = c.args.i in
    let T = c.args.assumed.now.literals in
    let there = sym found ∙ ap option_copied c.in-Some.is in
    subst (λ B. EndAlike (walk at T (ids_from hs i)) (walk at B (ids_from hs (i + 1))))
    (sym (ap (λ a. a.literals) c.in_ok-assume-in-Makes.ensures.ok))
    (walk_makes at T hs i c.in-Some.clause.now c.in-Makes.lit c.requires.place there
    (sym c.in-Makes.ensures))
