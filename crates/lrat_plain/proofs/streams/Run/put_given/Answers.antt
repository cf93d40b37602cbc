-- The first line, and the clauses.
use Rattle.std.proofs.Common.{◌≡◌}
use Rattle.text.proofs.Laws.{passed-more}
use Rattle.lrat_plain.proofs.streams.Run.put_given.Goals as goal

pub returns-clause-text : goal.returns-clause-text
returns-clause-text g c =
    let all : c.all-all.result ≡ c.args.self.now.steps.names.all = c.all-all.ensures in
    passed-more _ _ _ _ _ _ _ _ (rw all at c.in_ok-put_header.ensures)
    (rw c.clauses.ensures at c.in_ok-put_clauses.ensures)
