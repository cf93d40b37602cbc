-- A piece more, the end of the reader, and a fault.
use Rattle.std.proofs.Common.{rules, ◌≡◌, [], arith}
use Rattle.std.specs.Io.KnownBytes.{Consumes, IsAtEnd}
use Rattle.std.proofs.KnownBytes.{Consumes-nil}
use Rattle.text.specs.Text.{token_lines}
use Rattle.text.proofs.Laws.{read_nothing}
use Rattle.lrat_plain.specs.Runs.{FaultWithin}
use Rattle.lrat_plain.specs.Steps.{FaultOf}
use Rattle.lrat_plain.specs.declared.faults.PlainFault.{PlainFault}
use Rattle.lrat_plain.proofs.Running.{fault_all, fault_read, more_read, nothing_read, runs_all}
use Rattle.lrat_plain.proofs.Texts.{if_err_weaker, ok_weaker}
use Rattle.lrat_plain.proofs.streams.Run.take_all.Goals as goal

pub loop-init : goal.loop-init
loop-init g c = record {
  read = nothing_read c.args.self.now _ _ _ c.requires.kept;
  steady = c.requires.steady;
}

pub take_rest-requires-clause-steady : goal.take_rest-requires-clause-steady
take_rest-requires-clause-steady g c = c.loop.invariant.steady

pub take_rest-requires-clause-kept : goal.take_rest-requires-clause-kept
take_rest-requires-clause-kept g c = c.loop.invariant.read.runs.reads.no_feed

pub returns-in-Ok-eq0-clause-runs : goal.returns-in-Ok-eq0-clause-runs
returns-in-Ok-eq0-clause-runs g c =
    let i = c.loop.invariant.read in
    let left = g.R.Read.remaining c.loop.proof in
    let now = g.R.Read.remaining c.read.new.self in
    let zero : c.in-Ok-eq0.field-0 ≡ 0 = first_of (omega arith, search rules, cc) in
    let nothing : Consumes left now [] = read_nothing left left now [] _ c.in-Ok-eq0.field-0
    (Consumes-nil left) c.in-Ok-eq0.ensures.bytes.0 zero in
    let end : IsAtEnd now = search rules in
    ok_weaker _ _ c.take_rest.result c.take_rest.ensures.goes
    (λ q. runs_all _ _ _ _ _ _ _ _ i now nothing end c.take_rest.new.self _ _ q)

pub returns-in-Ok-eq0-clause-fault : goal.returns-in-Ok-eq0-clause-fault
returns-in-Ok-eq0-clause-fault g c =
    let s = c.args.self.now in
    let i = c.loop.invariant.read in
    let left = g.R.Read.remaining c.loop.proof in
    let now = g.R.Read.remaining c.read.new.self in
    let zero : c.in-Ok-eq0.field-0 ≡ 0 = first_of (omega arith, search rules, cc) in
    let nothing : Consumes left now [] = read_nothing left left now [] _ c.in-Ok-eq0.field-0
    (Consumes-nil left) c.in-Ok-eq0.ensures.bytes.0 zero in
    let end : IsAtEnd now = search rules in
    if_err_weaker (FaultOf (c.loop.self.steps).machine (token_lines c.loop.self.rest))
    (FaultWithin (s.steps).machine s.rest (g.R.Read.remaining c.args.proof.now) now)
    c.take_rest.result
    (λ (f : PlainFault) k. fault_all _ _ _ _ _ _ _ _ i now nothing end f k)
    c.take_rest.ensures.fault

pub take_piece-requires-clause-steady : goal.take_piece-requires-clause-steady
take_piece-requires-clause-steady g c = c.loop.invariant.steady

pub take_piece-requires-clause-kept : goal.take_piece-requires-clause-kept
take_piece-requires-clause-kept g c = c.loop.invariant.read.runs.reads.no_feed

pub returns-in_err-take_piece-clause-fault : goal.returns-in_err-take_piece-clause-fault
returns-in_err-take_piece-clause-fault g c =
    let s = c.args.self.now in
    let k : FaultWithin (s.steps).machine s.rest (g.R.Read.remaining c.args.proof.now)
    (g.R.Read.remaining c.read.new.self) c.in_err-take_piece.field-0.0 =
    fault_read _ _ _ _ _ _ _ _ c.loop.invariant.read _ _ c.in_err-take_piece.field-0.0
    c.in-Ok.ensures.bytes.0 c.in_err-take_piece.ensures.fault in
    search (rules, k)

pub loop-preserved : goal.loop-preserved
loop-preserved g c = record {
  read =
      more_read _ _ _ _ _ _ _ _ c.loop.invariant.read c.take_piece.new.self _ _ _ _
      c.in-Ok.ensures.bytes.0 c.in_ok-take_piece.ensures.runs;
  steady = c.in_ok-take_piece.ensures.steady;
}
