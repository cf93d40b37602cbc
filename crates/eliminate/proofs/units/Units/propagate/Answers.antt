-- A sweep that finds nothing leaves no clause that is false or unit.
use Rattle.std.proofs.Common.{arith}
use Rattle.std.proofs.lemmas.Bool.{both_ways}
use Rattle.std.proofs.lemmas.Result.{MatchResult-from_err}
use Rattle.eliminate.proofs.Propagating.{still_propagating}
use Rattle.eliminate.proofs.Settled.{settled_not_refuted}
use Rattle.eliminate.proofs.units.Units.propagate.Goals as goal

pub sweeps-init : goal.sweeps-init
sweeps-init g c = record {
  simplified = λ start h. h;
  propagating = c.requires;
  grows = λ r d e. e;
}

pub sweep-requires : goal.sweep-requires
sweep-requires g c = c.sweeps.invariant.propagating

pub follow-requires : goal.follow-requires
follow-requires g c =
    still_propagating _ _ _ _ _ _ _ _ c.in_ok-found.ensures.moves
    c.sweeps.invariant.propagating c.if-simplifier.false

pub returns-in_err-found-clause-passes : goal.returns-in_err-found-clause-passes
returns-in_err-found-clause-passes g c =
    MatchResult-from_err _ _ _ c.from_residual.ensures.0
    (λ _ start h. c.in_err-found.ensures.moves start (c.sweeps.invariant.simplified start h))

pub returns-in_err-follow-clause-passes : goal.returns-in_err-follow-clause-passes
returns-in_err-follow-clause-passes g c =
    MatchResult-from_err _ _ _ c.from_residual-in_err-follow.ensures.0
    (λ _ start h. c.in_err-follow.ensures start
    (c.in_ok-found.ensures.moves.simplified start (c.sweeps.invariant.simplified start h)))

pub returns-then-simplifier-clause-passes : goal.returns-then-simplifier-clause-passes
returns-then-simplifier-clause-passes g c start h =
    c.in_ok-found.ensures.moves.simplified start (c.sweeps.invariant.simplified start h)

pub returns-then-simplifier-clause-refuted : goal.returns-then-simplifier-clause-refuted
returns-then-simplifier-clause-refuted g c works = absurd (both_ways _ works c.if-simplifier.true)

pub returns-then-not-found-clause-passes : goal.returns-then-not-found-clause-passes
returns-then-not-found-clause-passes g c start h =
    c.in_ok-found.ensures.moves.simplified start (c.sweeps.invariant.simplified start h)

pub returns-then-not-found-clause-refuted : goal.returns-then-not-found-clause-refuted
returns-then-not-found-clause-refuted g c works =
    settled_not_refuted c.sweeps.self.trail.items c.args.store.now.slots c.sweeps.store.slots
    (c.in_ok-found.ensures.settled c.if-not-found.true).1 c.sweeps.invariant.grows

pub returns-then-simplifier-2-clause-passes : goal.returns-then-simplifier-2-clause-passes
returns-then-simplifier-2-clause-passes g c start h =
    c.in_ok-follow.ensures.simplified start
    (c.in_ok-found.ensures.moves.simplified start (c.sweeps.invariant.simplified start h))

pub returns-then-simplifier-2-clause-refuted : goal.returns-then-simplifier-2-clause-refuted
returns-then-simplifier-2-clause-refuted g c works =
    absurd (both_ways _ works c.if-simplifier-2.true)

pub sweeps-preserved : goal.sweeps-preserved
sweeps-preserved g c =
    let swept = c.in_ok-found.ensures.moves.units c.if-simplifier.false in
    let followed = c.in_ok-follow.ensures.units c.if-simplifier-2.false in
    record {
      simplified =
          λ start h. c.in_ok-follow.ensures.simplified start
          (c.in_ok-found.ensures.moves.simplified start
          (c.sweeps.invariant.simplified start h));
      propagating = still_propagating _ _ _ _ _ _ _ _ c.in_ok-follow.ensures
          (still_propagating _ _ _ _ _ _ _ _ c.in_ok-found.ensures.moves
          c.sweeps.invariant.propagating c.if-simplifier.false)
          c.if-simplifier-2.false;
      grows = λ r d e. followed.grows r d (swept.grows r d (c.sweeps.invariant.grows r d e));
    }

pub sweeps-smaller : goal.sweeps-smaller
sweeps-smaller g c =
    let less = c.in_ok-found.ensures.progress c.if-not-found.false c.if-simplifier.false in
    let followed = c.in_ok-follow.ensures.units c.if-simplifier-2.false in
    let few = followed.fewer in
    omega arith
