-- The token is the 0 alone.
use Rattle.std.proofs.Common.{◌∙◌, Some, sym, ap, refl}
use Rattle.text.proofs.Zeros.{zero_word}
use Rattle.text.proofs.words.read_word.Goals as goal

pub returns-in-Some-eq0 : goal.returns-in-Some-eq0
returns-in-Some-eq0 c =
    rw (zero_word c.args.token.now (sym c.in-Some-eq0.ensures ∙ ap Some c.in-Some-eq0.field-0-test))
    refl
