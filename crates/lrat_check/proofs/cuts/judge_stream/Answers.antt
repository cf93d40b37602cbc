-- The verdict is that on all bytes of the reader.
use Rattle.std.proofs.Common.{[]}
use Rattle.lrat_check.proofs.CutsLaws.{over_cuts}
use Rattle.lrat_check.proofs.cuts.judge_stream.Goals as goal

pub returns-in_ok-finish-in-Ok : goal.returns-in_ok-finish-in-Ok
returns-in_ok-finish-in-Ok g c = λ cost p s.
    let m = c.in-Ok.ensures.judges in
    let j = m.judged cost p [] s in
    let verdict = c.in_ok-finish-in-Ok.ensures.verdict cost p m.bytes j in
    record {
      bytes = m.bytes;
      read = m.read;
      verdict = verdict;
      all =
          over_cuts c.judge.new.checker cost p m.bytes (g.R.Read.remaining c.args.proof.now)
          (g.R.Read.remaining c.judge.new.proof) _ j m.read c.in-Ok.ensures.whole verdict;
    }
