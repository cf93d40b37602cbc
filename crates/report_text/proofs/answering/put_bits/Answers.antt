-- Where a fault came, a beginning of the digits was put.
use Rattle.std.proofs.Common.{◌∷◌, [], false, get_or, rules}
use Rattle.std.proofs.lemmas.Result.{err_from_is_err_and}
use Rattle.std.proofs.lemmas.List.{get_or_default}
use Rattle.text.proofs.Laws.{items_more}
use Rattle.lrat_result.specs.Result.{digit_of}
use Rattle.lrat_log.proofs.Laws.{item_fault}
use Rattle.report_text.proofs.answering.put_bits.Goals as goal

pub returns-in_err-put : goal.returns-in_err-put
returns-in_err-put g c =
    let p = err_from_is_err_and c.from_residual.result c.from_residual.ensures.1 in
    rw (p.1) (item_fault (λ b. digit_of b ∷ []) _ _ _ _ _ c.args.bits.now c.loop-bit.bit-index
    (get_or c.args.bits.now c.loop-bit.bit-index false) (search rules)
    (get_or_default c.args.bits.now c.loop-bit.bit-index false
    (get_or c.args.bits.now c.loop-bit.bit-index false) (search rules)) c.loop-bit.invariant
    (rw c.spell_digit.ensures at c.in_err-put.ensures.puts))

pub loop-bit-preserved : goal.loop-bit-preserved
loop-bit-preserved g c =
    items_more (λ b. digit_of b ∷ []) _ _ _ _ _ _ [] c.args.bits.now c.loop-bit.bit-index
    (get_or c.args.bits.now c.loop-bit.bit-index false) (search rules)
    (get_or_default c.args.bits.now c.loop-bit.bit-index false
    (get_or c.args.bits.now c.loop-bit.bit-index false) (search rules)) c.loop-bit.invariant
    (rw c.spell_digit.ensures at c.in_ok-put.ensures.puts)
