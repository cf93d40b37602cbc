-- A log has no more additions than lines.
use Rattle.std.proofs.Common.{◌+◌, ◌<◌, arith, length}
use Rattle.cnf.specs.declared.limits.TheConstants.{NUMBER_LIMIT}
use Rattle.lrat_log.proofs.Laws.{additions_few}
use Rattle.contradiction.proofs.trials.spell_refutation.Goals as goal

pub render-text-requires-clause-room : goal.render-text-requires-clause-room
render-text-requires-clause-room c =
    omega (arith, additions_few c.args.log, c.is_short.ensures, c.requires.few)

pub render-text-requires-clause-ids : goal.render-text-requires-clause-ids
render-text-requires-clause-ids c =
    let room : c.args.clauses + length c.args.log < NUMBER_LIMIT =
    omega (arith, c.is_short.ensures, c.requires.few) in c.requires.ids room
