-- In the list that is kept.
use Rattle.std.proofs.Common.{◌∙◌, ap}
use Rattle.forms.specs.Forms.{Forms, outputs_at}
use Rattle.forms.specs.Stamped.{numbered_in}
use Rattle.forms.proofs.state.Forms.outputs.Goals as goal

pub returns : goal.returns
returns c =
    let f = c.self.inside in
    c.outputs_at.ensures f.present
    ∙ ap (λ x. outputs_at x c.args.number)
    (ap (numbered_in f.present) c.deref.ensures.value
    ∙ ap (λ (s : Forms). s.numbered) c.self.view_is)
