-- The line that was ended is what was kept and these bytes.
use Rattle.std.proofs.Common.{rules, ◌≡◌, [], ◌∷◌, ◌++◌, subst}
use Rattle.std.specs.Prelude.{IfErr}
use Rattle.std.specs.Str.Lines.{strip_carriage_return}
use Rattle.text.specs.Text.{tokens_of}
use Rattle.lrat_plain.specs.Runs.{FaultAfter}
use Rattle.lrat_plain.specs.Steps.{FaultOf, WritesSteps}
use Rattle.lrat_plain.specs.declared.faults.PlainFault.{PlainFault}
use Rattle.lrat_plain.proofs.Running.{line_fault, line_runs}
use Rattle.lrat_plain.proofs.Texts.{if_err_weaker}
use Rattle.lrat_plain.proofs.streams.Run.end_line.Goals as goal

pub returns-in_err-take_line-clause-fault : goal.returns-in_err-take_line-clause-fault
returns-in_err-take_line-clause-fault g c =
    let s = c.args.self.now in
    let end = c.args.end.now in
    let is : c.in_ok-line.line.now ≡ strip_carriage_return (s.rest ++ end) = c.in_ok-line.ensures in
    let m = (s.steps).machine in
    let h : IfErr c.from_residual-in_err-take_line.result
    (FaultOf m (tokens_of c.in_ok-line.line.now ∷ [])) = search rules in
    if_err_weaker (FaultOf m (tokens_of c.in_ok-line.line.now ∷ []))
    (FaultAfter s (end ++ 10 ∷ [])) c.from_residual-in_err-take_line.result
    (λ (f : PlainFault) k. line_fault s s end c.requires.no_feed c.requires.kept f
    (subst (λ l. FaultOf m (tokens_of l ∷ []) f) is k)) h

pub returns-clause-runs : goal.returns-clause-runs
returns-clause-runs g c =
    let s = c.args.self.now in
    let end = c.args.end.now in
    let is : c.in_ok-line.line.now ≡ strip_carriage_return (s.rest ++ end) = c.in_ok-line.ensures in
    line_runs s _ end c.requires.no_feed c.requires.kept _ _ _ _ c.clear.ensures
    (subst (λ l. WritesSteps s.steps c.take_line.new.self (tokens_of l ∷ [])
    (g.F.Write.contents c.args.formula.now) (g.F.Write.contents c.take_line.new.formula)
    (g.C.Write.contents c.args.certificate.now) (g.C.Write.contents c.take_line.new.certificate))
    is c.in_ok-take_line.ensures.goes)
