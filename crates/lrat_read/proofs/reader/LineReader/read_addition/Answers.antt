use Rattle.std.proofs.Common.{subst, drop}
use Rattle.text.specs.Text.{tokens_of}
use Rattle.lrat_read.specs.Blocks.{IsLitsRead, IsLastRead}
use Rattle.lrat_read.proofs.Lines.{breaks_in_hints}
use Rattle.lrat_read.proofs.reader.LineReader.read_addition.Goals as goal

pub returns-then-not-branch : goal.returns-then-not-branch
returns-then-not-branch c t e other =
    let first =
    subst (IsLitsRead c.args.line.now c.args.at c.read_lits.new.lits.items) c.in-Some.is
    c.in_ok-clause.ensures in (
      λ z. absurd (cc),
      breaks_in_hints t (tokens_of (drop c.args.at c.args.line.now)) c.args.self.now.id first.0
          (tokens_of (drop c.in-Some.clause.end c.args.line.now)) e (λ l. other l.0 l.1) first.1
          (subst (IsLastRead c.args.line.now c.in-Some.clause.end c.read_last.new.hints.items)
          c.if-not-branch.true c.in_ok-read_last.ensures),
    )
