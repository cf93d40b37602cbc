use Rattle.std.proofs.Common.{◌≡◌, ◌≤◌, ◌++◌, ap, arith, drop, length, take, ◌∙◌}
use Rattle.std.proofs.lemmas.List.{take_at}
use Rattle.lrat_live.specs.Table.{entry_spans}
use Rattle.lrat_live.proofs.Tables.{table_reclaimed}
use Rattle.lrat_live.proofs.reclaim.reclaim.Goals as goal

pub returns-clause-table : goal.returns-clause-table
returns-clause-table c =
    let es = c.link.new.entries in
    let hs = c.link.new.heads in
    let fewer = c.truncate.new.self in
    let all : take c.compact.new.entries.len (es ++ drop (length es) c.compact.new.entries.items)
    ≡ es = take_at es (drop (length es) c.compact.new.entries.items) c.compact.new.entries.len
    (omega arith) in
    let heads : take fewer.len (hs ++ drop (length hs) fewer.items) ≡ hs =
    take_at hs (drop (length hs) fewer.items) fewer.len (omega arith) in
    let room : length es ≤ length hs =
    omega (
      arith,
      c.requires.room,
      c.compact.ensures.fewer_entries,
      c.truncate.ensures.len,
      c.next_power_of_two.ensures.lower_bound,
      fewer.ok.0,
      c.args.heads.now.ok.0,
      c.compact.new.entries.ok.0,
    ) in
    rw (all, heads) (table_reclaimed c.args.lits.now.items c.compact.new.lits.items
    c.args.entries.now.items c.compact.new.entries.items es c.args.heads.now.items hs c.requires
    c.compact.ensures.laid c.compact.ensures.live c.compact.ensures.clauses
    c.compact.ensures.fewer_entries c.compact.ensures.fewer_literals (c.link.ensures.spans
    ∙ ap entry_spans c.deref_mut-2.ensures.value) (omega arith) room c.link.ensures.chained)
