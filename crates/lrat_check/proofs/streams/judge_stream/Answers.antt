-- The verdict is that on all bytes of the reader, and no more of them were read than it takes.
use Rattle.lrat_check.proofs.PieceLaws.{over_judged}
use Rattle.lrat_check.proofs.streams.judge_stream.Goals as goal

pub returns-in_ok-finish-in-Ok : goal.returns-in_ok-finish-in-Ok
returns-in_ok-finish-in-Ok g c = λ formula s.
    let m = c.in-Ok.ensures.judges in
    let j = m.judged formula s in
    let verdict = c.in_ok-finish-in-Ok.ensures.verdict formula m.bytes j in
    record {
      bytes = m.bytes;
      read = m.read;
      in_time = m.in_time formula s;
      verdict = verdict;
      all =
          over_judged c.judge_pieces.new.checker formula m.bytes
          (g.R.Read.remaining c.args.proof.now) (g.R.Read.remaining c.judge_pieces.new.proof)
          _ j m.read c.in-Ok.ensures.whole verdict;
    }
