use Rattle.std.proofs.Common.{subst, drop}
use Rattle.text.specs.Text.{tokens_of}
use Rattle.lrat_read.specs.Blocks.{IsLastRead}
use Rattle.lrat_read.proofs.Lines.{breaks_in_ids}
use Rattle.lrat_read.proofs.reader.LineReader.read_deletion.Goals as goal

pub returns-then-not-branch : goal.returns-then-not-branch
returns-then-not-branch c t n e = (
  λ z. absurd (cc),
  breaks_in_ids t (tokens_of (drop c.args.at c.args.line.now)) n e
      (subst (IsLastRead c.args.line.now c.args.at c.read_last.new.hints.items) c.if-not-branch.true
      c.in_ok-read_last.ensures),
)
