-- A line of either kind.
use Rattle.std.proofs.Common.{◌+◌, subst, sym}
use Rattle.text.specs.Text.{tokens_of}
use Rattle.lrat_read.specs.Reader.{IsReadAs}
use Rattle.lrat_read.specs.WordReader.{IsWordRead}
use Rattle.lrat_cuts.specs.Machine.{MachineState, StepsTo}
use Rattle.lrat_cuts.proofs.Judging.{steps_plain, steps_word}
use Rattle.lrat_cuts.proofs.machine.CutsMachine.step.Goals as goal

pub returns-in_ok-fault-in-NoWord-clause-steps : goal.returns-in_ok-fault-in-NoWord-clause-steps
returns-in_ok-fault-in-NoWord-clause-steps c =
    let s = c.self.inside in
    let old : MachineState =
    record { state = s.base; cost = s.cost; lines = s.lines; made = s.made } in
    let new : MachineState = record {
      state = c.judge_plain.new.base;
      cost = s.cost;
      lines = s.lines + 1;
      made = c.clear.new.self;
    } in
    let ts = tokens_of c.args.line.now in
    let fault = c.in_ok-fault-in-NoWord.fault in
    let none =
    subst (λ f. IsWordRead ts f c.read.new.self) c.in-NoWord.is c.in_ok-form.ensures in
    subst (λ (m : MachineState). StepsTo m ts fault new) c.self.view_is
    (steps_plain old ts fault new.state new.made none c.clear.ensures
    (c.in_ok-fault-in-NoWord.ensures ts s.cost none
    (subst (IsReadAs ts c.in_ok-form-in-NoWord.form) (sym c.line.ensures)
    c.in_ok-form-in-NoWord.ensures)))

pub returns-in_ok-fault-in_default-clause-steps : goal.returns-in_ok-fault-in_default-clause-steps
returns-in_ok-fault-in_default-clause-steps c =
    let s = c.self.inside in
    let old : MachineState =
    record { state = s.base; cost = s.cost; lines = s.lines; made = s.made } in
    let new : MachineState = record {
      state = c.judge_word.new.base;
      cost = s.cost;
      lines = s.lines + 1;
      made = c.judge_word.new.made;
    } in
    let ts = tokens_of c.args.line.now in
    let fault = c.in_ok-fault-in_default.fault in
    let ensures = c.in_ok-fault-in_default.ensures in
    let read = c.in_ok-form.ensures in
    subst (λ (m : MachineState). StepsTo m ts fault new) c.self.view_is
    (steps_word old ts fault new.state new.made c.in_ok-form.form c.read.new.self
    c.in_default.not-NoWord read ensures.puts (ensures.judged ts read))
