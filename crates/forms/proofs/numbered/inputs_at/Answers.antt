-- By what was found.
use Rattle.std.proofs.Common.{Some, ◌∙◌, ap, sym}
use Rattle.std.specs.Option.{option_map}
use Rattle.forms.specs.Forms.{inputs_of}
use Rattle.forms.specs.Stamped.{numbered_at}
use Rattle.forms.proofs.numbered.inputs_at.Goals as goal

pub returns-in_default : goal.returns-in_default
returns-in_default c = λ present. ap (option_map inputs_of) (sym (c.in_default.ensures present))

pub returns-in-Count : goal.returns-in-Count
returns-in-Count c = λ present.
    ap Some c.deref.ensures.value
    ∙ ap (option_map inputs_of)
    (sym (c.in-Some.ensures present
    ∙ ap (λ n. Some (numbered_at present n)) c.in-Count.is))

pub returns-in-Group : goal.returns-in-Group
returns-in-Group c = λ present.
    ap Some c.deref-in-Group.ensures.value
    ∙ ap (option_map inputs_of)
    (sym (c.in-Some.ensures present
    ∙ ap (λ n. Some (numbered_at present n)) c.in-Group.is))
