use Rattle.std.proofs.Common.{◌∙◌, ap, sym, subst}
use Rattle.std.specs.Prelude.{All}
use Rattle.lrat_live.specs.Listed.{listed_at}
use Rattle.cnf.specs.Clause.{IsClauseWithin}
use Rattle.lrat_machine.specs.Steps.{IsFollowed}
use Rattle.lrat_machine.proofs.Alike.{EndAlike-step}
use Rattle.lrat_machine.proofs.Effects.{id_here, found_within}
use Rattle.lrat_machine.proofs.hints.walk.Goals as goal

pub follow-requires-clause-within : goal.follow-requires-clause-within
follow-requires-clause-within c =
    let es = c.args.live.now in
    let within =
    subst (λ n. All (λ e. IsClauseWithin n e.1) es) (sym c.loop-i.invariant.variables) c.requires in
    found_within c.loop-i.assumed.variables es c.id.result _ within c.find-clause.ensures

pub returns-in-Some-clause-walked : goal.returns-in-Some-clause-walked
returns-in-Some-clause-walked c =
    let at = listed_at c.args.live.now in
    let hs = c.args.hints.now in
    let i = c.loop-i.i in
    let here = id_here hs i c.index-hints-i.result c.loop-i-test.true c.index-hints-i.is in
    let found = c.find-clause.ensures ∙ ap at (c.id.ensures.id ∙ here) in
    EndAlike-step _ _ _ c.loop-i.invariant.walked
    (subst (IsFollowed at hs i c.loop-i.assumed.literals c.follow.new.assumed.literals) c.in-Some.is
    (c.in_ok-end.ensures.followed at found))

pub loop-i-preserved : goal.loop-i-preserved
loop-i-preserved c =
    let at = listed_at c.args.live.now in
    let hs = c.args.hints.now in
    let i = c.loop-i.i in
    let here = id_here hs i c.index-hints-i.result c.loop-i-test.true c.index-hints-i.is in
    let found = c.find-clause.ensures ∙ ap at (c.id.ensures.id ∙ here) in
    record {
      walked = EndAlike-step _ _ _ c.loop-i.invariant.walked
          (subst (IsFollowed at hs i c.loop-i.assumed.literals c.follow.new.assumed.literals)
          c.in_default.is (c.in_ok-end.ensures.followed at found));
      kept = c.in_ok-end.ensures.kept c.args.assumed.now.literals c.loop-i.invariant.kept;
      variables = c.in_ok-end.ensures.variables ∙ c.loop-i.invariant.variables;
    }
