-- Count after count, each over what the one before left.
use Rattle.std.proofs.Common.{arith}
use Rattle.std.proofs.lemmas.Result.{MatchResult-from_err}
use Rattle.eliminate_pairs.proofs.Defining.{replaces_none, replaces_on, leaves_on}
use Rattle.eliminate_pairs.proofs.Together.{replaces_together}
use Rattle.eliminate_pairs.proofs.pairs.define_pairs.Goals as goal

pub loop-round-init : goal.loop-round-init
loop-round-init g c = replaces_none _ _ _ _ _ c.requires.room c.requires.fit

pub loop-round-preserved : goal.loop-round-preserved
loop-round-preserved g c =
    let more = c.in_ok-last.ensures.more in
    replaces_together _ _ _ _ _ _ _ _ (record {
      slots_are = c.move_together.ensures.slots;
      names_are = c.move_together.ensures.names;
    }) (omega (arith, c.loop-round.invariant.more, more))
    (replaces_on _ _ _ _ _ _ c.loop-round.invariant _ _ _ _ _ (omega arith) c.in_ok-last.ensures)

pub returns-in_err-last : goal.returns-in_err-last
returns-in_err-last g c =
    MatchResult-from_err _ _ _ c.from_residual.ensures.0
    (λ _. leaves_on _ _ _ _ _ _ c.loop-round.invariant _ c.in_err-last.ensures)

pub returns-then-last-before : goal.returns-then-last-before
returns-then-last-before g c =
    replaces_on _ _ _ _ _ _ c.loop-round.invariant _ _ _ _ _ (omega arith) c.in_ok-last.ensures
