-- A log has no more additions than lines, and a log that was written whole stays so where the flush
-- after it fails.
use Rattle.std.proofs.Common.{arith}
use Rattle.std.proofs.lemmas.Result.{err_from_is_err_and}
use Rattle.text.proofs.Laws.{writes_kept}
use Rattle.lrat_log.specs.Log.{text_of}
use Rattle.lrat_log.proofs.Laws.{additions_few}
use Rattle.report_text.proofs.Answered.{all_written, part_written}
use Rattle.report_text.proofs.answering.deliver_proof.Goals as goal

pub write_to-requires-clause-room : goal.write_to-requires-clause-room
write_to-requires-clause-room g c =
    omega (arith, additions_few c.args.log.now, c.is_short.ensures, c.requires.few)

pub returns-in_err-map_err-clause-writes : goal.returns-in_err-map_err-clause-writes
returns-in_err-map_err-clause-writes g c =
    let p = err_from_is_err_and c.from_residual.result c.from_residual.ensures.1 in
    rw (p.1) (part_written c.write_to.result _ _ _ c.in_err-map_err.ensures.variant
    c.write_to.ensures.writes)

pub returns-clause-writes : goal.returns-clause-writes
returns-clause-writes g c =
    writes_kept c.map_err-2.result _ _ _ (text_of c.args.clauses c.args.log.now)
    (all_written c.write_to.result _ _ _ c.in_ok-map_err.ensures.variant
    c.write_to.ensures.writes) c.flush.ensures.bytes
