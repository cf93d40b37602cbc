-- Literal after literal of the trail is visited.
use Rattle.std.proofs.Common.{arith}
use Rattle.std.proofs.lemmas.Result.{MatchResult-from_err}
use Rattle.eliminate.proofs.Propagating.{propagates_nothing, still_propagating, propagates_more}
use Rattle.eliminate.proofs.Propagating.{leaves_later}
use Rattle.eliminate.proofs.units.Units.follow.Goals as goal

pub loop-visits-init : goal.loop-visits-init
loop-visits-init g c = record {
  propagated = propagates_nothing _ _ _ _ c.requires.units;
  going = c.requires.is_open.going;
}

pub visit-requires-clause-propagating : goal.visit-requires-clause-propagating
visit-requires-clause-propagating g c =
    still_propagating _ _ _ _ _ _ _ _ c.loop-visits.invariant.propagated c.requires
    c.loop-visits.invariant.going

pub returns-in_err-visit : goal.returns-in_err-visit
returns-in_err-visit g c =
    MatchResult-from_err _ _ _ c.from_residual.ensures.0 (λ _.
    leaves_later _ _ _ _ _ _ _ _ c.loop-visits.invariant.propagated _ c.in_err-visit.ensures.moves)

pub returns-then-simplifier : goal.returns-then-simplifier
returns-then-simplifier g c =
    propagates_more _ _ _ _ _ _ _ _ c.loop-visits.invariant.propagated c.loop-visits.invariant.going
    _ _ _ _ c.in_ok-visit.ensures.moves

pub loop-visits-preserved : goal.loop-visits-preserved
loop-visits-preserved g c = record {
  propagated =
      propagates_more _ _ _ _ _ _ _ _ c.loop-visits.invariant.propagated
      c.loop-visits.invariant.going
      _ _ _ _ c.in_ok-visit.ensures.moves;
  going = c.if-simplifier.false;
}

pub loop-visits-smaller : goal.loop-visits-smaller
loop-visits-smaller g c =
    let made = c.in_ok-visit.ensures.moves.units c.if-simplifier.false in
    let paid = made.paid in
    let longer = made.longer in
    let next = c.in_ok-visit.ensures.next in
    omega arith

pub returns : goal.returns
returns g c = c.loop-visits.invariant.propagated
