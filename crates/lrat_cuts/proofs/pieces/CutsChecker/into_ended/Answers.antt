-- What the lines up to the last line feed leave.
use Rattle.std.proofs.Common.{ap, subst, sym, ◌∙◌, None, Ok}
use Rattle.lrat_cuts.specs.Machine.{MachineState}
use Rattle.lrat_cuts.specs.Pieces.{CheckerState, HasJudged}
use Rattle.lrat_cuts.proofs.EndedParts.{ended_open}
use Rattle.lrat_cuts.proofs.pieces.CutsChecker.into_ended.Goals as goal

pub returns-in-None-clause-state : goal.returns-in-None-clause-state
returns-in-None-clause-state c = λ p bytes s.
    let inside = subst (λ (x : CheckerState). HasJudged x None p bytes) (sym c.self.view_is) s in
    ended_open _ p bytes None inside.holds c.in-None.is
    ∙ ap (λ (x : CheckerState). Ok ((x.reading).machine).state) c.self.view_is
    ∙ ap (λ (m : MachineState). Ok m.state) (sym c.into_machine.ensures)
