-- A line more.
use Rattle.std.proofs.Common.{replicate, take, arith, subst}
use Rattle.std.proofs.lemmas.List.{replicate-append-replicate}
use Rattle.lrat_read.specs.Batch.{AreRead}
use Rattle.lrat_read.specs.Blanks.{no_tokens}
use Rattle.lrat_read.proofs.BatchLaws.{are_read-next}
use Rattle.lrat_read.proofs.blanks.blank_lines.Goals as goal

pub loop-end-preserved : goal.loop-end-preserved
loop-end-preserved c =
    let old = c.loop-end in
    let end = c.in-Some.end in
    let found = c.in-Some.ensures in
    record {
      within = found.within;
      few = omega (arith, old.invariant.few, found.order);
      read =
          subst (AreRead (take end c.args.text.now))
          (replicate-append-replicate old.count 1 no_tokens)
          (are_read-next c.args.text.now old.bytes end (replicate old.count no_tokens) no_tokens
          old.invariant.within found.within old.invariant.read found.read);
    }
