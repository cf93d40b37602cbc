-- What was made, and the greatest variable.
use Rattle.std.proofs.Common.{◌∙◌, ap}
use Rattle.forms.specs.Forms.{Forms}
use Rattle.lrat_plain.proofs.Wholes.{sizes_are}
use Rattle.lrat_plain.proofs.streams.Run.measure.Goals as goal

pub returns-clause-sizes : goal.returns-clause-sizes
returns-clause-sizes g c = λ cost p given all b.
    sizes_are cost given all p c.args.self.now c.take_all.new.self _ _ _ _ _ _ b.machine b.names
    b.rest c.in_ok-take_all.ensures.runs _ c.made.ensures.made
    (c.variables.ensures.variables ∙ ap (λ (f : Forms). f.variables) c.forms.ensures)
