-- One byte more.
use Rattle.std.proofs.Common.{arith, ap, sym, not}
use Rattle.text.specs.Text.{is_blank}
use Rattle.lrat_read.proofs.Scan.{run_push}
use Rattle.lrat_read.proofs.words.token_end.Goals as goal

pub loop-end-preserved : goal.loop-end-preserved
loop-end-preserved c =
    let inv = c.loop-end.invariant in
    record {
      from = omega (arith, inv.from);
      within = omega arith;
      solid =
          run_push (λ b. not (is_blank b)) c.args.line.now c.args.start c.loop-end.end inv.from
          c.loop-end-test.true inv.solid (ap not (sym c.if-not-is_blank_byte.ensures));
    }
