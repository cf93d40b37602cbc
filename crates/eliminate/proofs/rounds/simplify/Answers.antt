-- Round after round, as long as the empty clause is not there.
use Rattle.std.proofs.lemmas.Bool.{both_ways}
use Rattle.std.proofs.lemmas.Result.{MatchResult-from_err}
use Rattle.eliminate.proofs.rounds.simplify.Goals as goal

pub returns-in_err-is_shorter-clause-passes : goal.returns-in_err-is_shorter-clause-passes
returns-in_err-is_shorter-clause-passes g c =
    MatchResult-from_err _ _ _ c.from_residual.ensures.0 (λ _ start same h.
    c.in_err-is_shorter.ensures start (c.loop-round.invariant.simplified start same h))

pub returns-in_err-is_gone-clause-passes : goal.returns-in_err-is_gone-clause-passes
returns-in_err-is_gone-clause-passes g c =
    MatchResult-from_err _ _ _ c.from_residual-in_err-is_gone.ensures.0 (λ _ start same h.
    c.in_err-is_gone.ensures start same
    (c.in_ok-is_shorter.ensures start (c.loop-round.invariant.simplified start same h)))

pub loop-round-preserved : goal.loop-round-preserved
loop-round-preserved g c = record {
  simplified = λ start same h. c.in_ok-is_gone.ensures start same
      (c.in_ok-is_shorter.ensures start (c.loop-round.invariant.simplified start same h));
  refuted = λ e. absurd (both_ways _ c.if-simplifier.false (c.loop-round.invariant.refuted e));
}

pub loop-round-init : goal.loop-round-init
loop-round-init g c = record { simplified = λ _ _ h. h; refuted = λ e. e }

pub returns-then-simplifier-clause-passes : goal.returns-then-simplifier-clause-passes
returns-then-simplifier-clause-passes g c = c.loop-round.invariant.simplified

pub returns-then-simplifier-clause-refuted : goal.returns-then-simplifier-clause-refuted
returns-then-simplifier-clause-refuted g c = c.loop-round.invariant.refuted

pub subsume-requires : goal.subsume-requires
subsume-requires g c =
    let h = c.requires in
    record {
      simplified = (h.0, c.loop-round.invariant.simplified h.0 h.1 h.2);
      going = c.if-simplifier.false;
    }

pub returns-then-simplifier-2-clause-passes : goal.returns-then-simplifier-2-clause-passes
returns-then-simplifier-2-clause-passes g c start same h =
    c.in_ok-is_shorter.ensures start (c.loop-round.invariant.simplified start same h)

pub returns-then-simplifier-2-clause-refuted : goal.returns-then-simplifier-2-clause-refuted
returns-then-simplifier-2-clause-refuted g c _ = c.if-simplifier-2.true

pub eliminate_variables-requires : goal.eliminate_variables-requires
eliminate_variables-requires g c =
    let h = c.requires in
    record {
      simplified = (
        h.0,
        h.1,
        c.in_ok-is_shorter.ensures h.0 (c.loop-round.invariant.simplified h.0 h.1 h.2),
      );
      going = c.if-simplifier-2.false;
    }

pub returns-then-not-is_gone-clause-passes : goal.returns-then-not-is_gone-clause-passes
returns-then-not-is_gone-clause-passes g c start same h =
    c.in_ok-is_gone.ensures start same
    (c.in_ok-is_shorter.ensures start (c.loop-round.invariant.simplified start same h))

pub returns-then-not-is_gone-clause-refuted : goal.returns-then-not-is_gone-clause-refuted
returns-then-not-is_gone-clause-refuted g c e =
    absurd (both_ways _ c.if-simplifier.false (c.loop-round.invariant.refuted e))

pub returns-clause-passes : goal.returns-clause-passes
returns-clause-passes g c = c.loop-round.invariant.simplified

pub returns-clause-refuted : goal.returns-clause-refuted
returns-clause-refuted g c = c.loop-round.invariant.refuted
