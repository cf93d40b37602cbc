use Rattle.std.proofs.Common.{arith}
use Rattle.std.proofs.lemmas.List.{length-map}
use Rattle.lrat_live.specs.Table.{entry_span, entry_spans}
use Rattle.lrat_live.proofs.Clauses.{clauses-le}
use Rattle.lrat_live.proofs.added.Added.entries.Goals as goal

pub returns-clause-all : goal.returns-clause-all
returns-clause-all c =
    let s = c.self.inside in
    rw (← c.self.view_is) (omega (
      arith,
      clauses-le s.lits.items (entry_spans s.entries.items),
      length-map s.entries.items entry_span,
    ))
