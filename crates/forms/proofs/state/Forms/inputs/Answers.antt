-- In the list that is kept.
use Rattle.std.proofs.Common.{◌∙◌, ap}
use Rattle.std.specs.Option.{option_map}
use Rattle.forms.specs.Forms.{Forms, at_number, inputs_of}
use Rattle.forms.specs.Stamped.{numbered_in}
use Rattle.forms.proofs.state.Forms.inputs.Goals as goal

pub returns : goal.returns
returns c =
    let f = c.self.inside in
    c.inputs_at.ensures f.present
    ∙ ap (λ x. option_map inputs_of (at_number x c.args.number))
    (ap (numbered_in f.present) c.deref.ensures.value
    ∙ ap (λ (s : Forms). s.numbered) c.self.view_is)
