-- The first byte is no 0.
use Rattle.std.proofs.Common.{arith, sym, ◌∙◌}
use Rattle.std.proofs.lemmas.Bool.{eqb-false}
use Rattle.text.proofs.AheadLaws.{begins_variable}
use Rattle.text.proofs.words.variable_at.Goals as goal

pub returns : goal.returns
returns c =
    begins_variable c.args.bytes.now c.leading_digits-value.result.0 c.leading_digits-value.result.1
    c.leading_digits-value.ensures (omega arith) (omega arith)
    (c.ends_at.ensures c.if-not-ends_at.false)
    (eqb-false _ 48 (sym c.begins_with.ensures.first ∙ c.if-begins_with.false))
