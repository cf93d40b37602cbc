-- A line of the piece, its last bytes, and a fault.
use Rattle.std.proofs.Common.{rules, [], ◌∷◌, ◌++◌, arith, refl}
use Rattle.std.specs.Prelude.{IfErr}
use Rattle.text.proofs.Laws.{line_lengths}
use Rattle.lrat_plain.specs.Runs.{FaultAfter}
use Rattle.lrat_plain.specs.declared.faults.PlainFault.{PlainFault}
use Rattle.lrat_plain.proofs.Running.{all_taken_of, fault_taken, kept_runs, more_taken, none_taken}
use Rattle.lrat_plain.proofs.Texts.{if_err_weaker}
use Rattle.lrat_plain.proofs.streams.Run.take_piece.Goals as goal

pub loop-end-init : goal.loop-end-init
loop-end-init g c = record {
  taken = none_taken c.args.self.now c.args.piece.now _ _ c.requires.kept;
  steady = c.requires.steady;
}

pub end_line-requires-clause-steady : goal.end_line-requires-clause-steady
end_line-requires-clause-steady g c = c.loop-end.invariant.steady

pub end_line-requires-clause-kept : goal.end_line-requires-clause-kept
end_line-requires-clause-kept g c = c.loop-end.invariant.taken.runs.reads.no_feed

pub returns-in_err-end_line-clause-fault : goal.returns-in_err-end_line-clause-fault
returns-in_err-end_line-clause-fault g c =
    let text = c.in-Some.end.now ++ 10 ∷ [] in
    let h : IfErr c.from_residual.result (FaultAfter c.loop-end.self text) = search rules in
    if_err_weaker (FaultAfter c.loop-end.self text) (FaultAfter c.args.self.now c.args.piece.now)
    c.from_residual.result
    (λ (f : PlainFault) k. fault_taken _ _ _ _ _ _ _ _ c.loop-end.invariant.taken text
    c.in-Some.after.now f c.in-Some.ensures.split k) h

pub loop-end-smaller : goal.loop-end-smaller
loop-end-smaller g c =
    let n = line_lengths c.loop-end.left.now c.in-Some.end.now c.in-Some.after.now
    c.in-Some.ensures in
    omega (arith, n)

pub loop-end-preserved : goal.loop-end-preserved
loop-end-preserved g c = record {
  taken =
      more_taken _ _ _ _ _ _ _ _ c.loop-end.invariant.taken c.end_line.new.self
      (c.in-Some.end.now ++ 10 ∷ []) c.in-Some.after.now _ _ c.in-Some.ensures.split
      c.in_ok-end_line.ensures.runs;
  steady = c.in_ok-end_line.ensures.steady;
}

pub returns-clause-runs : goal.returns-clause-runs
returns-clause-runs g c =
    let t = c.loop-end.invariant.taken in
    all_taken_of _ _ _ _ _ _ _ _ t _ _ _
    (kept_runs c.loop-end.self _ c.loop-end.left.now _ _ c.in_default.ensures
    t.runs.reads.no_feed refl c.in_ok-keep.ensures.kept)

pub returns-clause-steady : goal.returns-clause-steady
returns-clause-steady g c = c.loop-end.invariant.steady
