-- By what was found.
use Rattle.std.proofs.Common.{Some, ◌∙◌, ap, sym}
use Rattle.forms.specs.Forms.{count_outputs}
use Rattle.forms.specs.Stamped.{numbered_at}
use Rattle.forms.proofs.numbered.outputs_at.Goals as goal

pub returns-in_default : goal.returns-in_default
returns-in_default c = λ present. ap count_outputs (sym (c.in_default.ensures present))

pub returns-in-Count : goal.returns-in-Count
returns-in-Count c = λ present.
    ap Some c.outputs.ensures
    ∙ ap count_outputs
    (sym (c.in-Some.ensures present
    ∙ ap (λ n. Some (numbered_at present n)) c.in-Count.is))

pub returns-in-Group : goal.returns-in-Group
returns-in-Group c = λ present.
    ap count_outputs
    (sym (c.in-Some.ensures present
    ∙ ap (λ n. Some (numbered_at present n)) c.in-Group.is))
