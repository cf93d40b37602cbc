-- The dash, where there is one, is the first byte.
use Rattle.text.proofs.AheadLaws.{begins_signed}
use Rattle.text.proofs.words.literal_at.Goals as goal

pub returns : goal.returns
returns c =
    rw (c.new.ensures) (begins_signed c.args.bytes.now c.begins_with-negated.result
    c.from-dash.result c.in_ok-variable.variable c.in_ok-variable.count
    c.begins_with-negated.ensures.first c.begins_with-negated.ensures.some c.from-dash.ensures
    c.in_ok-variable.ensures)
