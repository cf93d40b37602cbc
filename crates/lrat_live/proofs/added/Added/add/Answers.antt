use Rattle.std.proofs.Common.{◌<◌, List, ℕ}
use Rattle.std.specs.Prelude.{All}
use Rattle.cnf.specs.Literal.{Literal}
use Rattle.lrat_live.specs.Table.{entry_spans, keys_of, clauses_in, IsAboveLast}
use Rattle.lrat_live.proofs.Tables.{live_above}
use Rattle.lrat_live.proofs.added.Added.add.Goals as goal
use Rattle.lrat_live.proofs.added.Added.add.Goals.{then-not-is_above}
use Rattle.lrat_live.proofs.added.Added.add.Goals.{else-not-is_above+else-is_mostly_dead}

pub append-requires-clause-above : goal.append-requires-clause-above
append-requires-clause-above c =
    let s = c.self.inside in
    let old : All (λ (e : ℕ × List Literal). e.0 < c.args.id)
    (clauses_in s.lits.items (entry_spans s.entries.items)) = rw c.self.view_is c.requires.rising in
    elim c.if-not-is_above.branch [
      | then-not-is_above w ↦
          let h : All (λ (e : ℕ × List Literal). e.0 < c.args.id)
          (clauses_in w.reclaim.new.lits.items (entry_spans w.reclaim.new.entries.items)) =
          rw w.reclaim.ensures.clauses old in
          rw w.self-inside-is
          (live_above w.reclaim.new.lits.items (entry_spans w.reclaim.new.entries.items) c.args.id
          w.reclaim.ensures.live h)
      | else-not-is_above+else-is_mostly_dead w ↦
          let h : IsAboveLast c.args.id (keys_of (entry_spans s.entries.items)) =
          rw (← c.deref.ensures.value) (c.is_above.ensures.0 w.if-not-is_above.false) in
          rw w.self-inside-is h
    ]
