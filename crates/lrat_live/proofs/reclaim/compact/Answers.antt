use Rattle.std.proofs.Common.{◌+◌, ◌<◌, ◌≤◌, ◌^◌, arith, ◌∙◌, length, refl, rules, length-set}
use Rattle.std.proofs.lemmas.Bool.{not-true, not-false}
use Rattle.std.proofs.lemmas.List.{take-map, length-map}
use Rattle.lrat_live.specs.Table.{entry_span, entry_spans}
use Rattle.lrat_live.proofs.Clauses.{compacting_all}
use Rattle.lrat_live.proofs.Moves.{entry_moves_down, dead_entry, live_entry}
use Rattle.lrat_live.proofs.reclaim.compact.Goals as goal
use Rattle.lrat_live.proofs.reclaim.compact.Goals.{After-index-entry, Else-not-entry}

down : (c : After-index-entry) → (c.loop-i.end ≤ c.index-entry.result.now.start)
    × (c.index-entry.result.now.start + c.index-entry.result.now.length
    ≤ length c.loop-i.lits.items)
down c =
    entry_moves_down c.loop-i.lits.items c.loop-i.entries.items c.loop-i.kept c.loop-i.end
    c.loop-i.i _ c.loop-i.invariant.moving c.index-entry.result.now (omega arith)
    c.index-entry.ensures

pub move_down-requires : goal.move_down-requires
move_down-requires c = let h = down (goal.at.move_down-requires c).After-index-entry in
    record { down = h.0; within = h.1 }

pub overflow_cast-end : goal.overflow_cast-end
overflow_cast-end c =
    let h = down (goal.at.overflow_cast-end c).After-index-entry in
    let small : c.loop-i.end < 2 ^ 32 =
    omega (arith, h.0, h.1, c.requires.few, c.loop-i.invariant.literals) in
    search rules

pub overflow_add-end : goal.overflow_add-end
overflow_add-end c =
    let h = down (goal.at.overflow_add-end c).After-index-entry in
    let small : c.loop-i.end + c.index-entry.result.now.length < 2 ^ 64 =
    omega (arith, h.0, h.1, c.requires.few, c.loop-i.invariant.literals) in
    search rules

pub loop-i-preserved-then-not-entry : goal.loop-i-preserved-then-not-entry
loop-i-preserved-then-not-entry c = record {
  moving =
      dead_entry c.loop-i.lits.items c.loop-i.entries.items c.loop-i.kept c.loop-i.end c.loop-i.i _
      c.loop-i.invariant.moving c.index-entry.result.now (omega (arith, c.loop-i.entries.ok.0))
      c.index-entry.ensures (not-true _ c.if-not-entry.true);
  entries = c.loop-i.invariant.entries;
  literals = c.loop-i.invariant.literals;
}

pub loop-i-preserved : goal.loop-i-preserved
loop-i-preserved c =
    let x = c.index-entry.result.now in
    let more =
    live_entry c.loop-i.lits.items c.loop-i.entries.items c.loop-i.kept c.loop-i.end c.loop-i.i _
    c.loop-i.invariant.moving x (omega (arith, c.loop-i.entries.ok.0)) c.index-entry.ensures
    (not-false _ c.if-not-entry.false) x.length refl in
    record {
      moving = rw c.move_down.ensures.moved more;
      entries = length-set c.loop-i.entries.items c.loop-i.kept _ ∙ c.loop-i.invariant.entries;
      literals = c.move_down.ensures.kept ∙ c.loop-i.invariant.literals;
    }

pub returns-clause-laid : goal.returns-clause-laid
returns-clause-laid c =
    let all =
    compacting_all c.loop-i.lits.items (entry_spans c.loop-i.entries.items) c.loop-i.kept
    c.loop-i.end c.loop-i.i _ c.loop-i.invariant.moving
    (omega (arith, c.loop-i.entries.ok.0, length-map c.loop-i.entries.items entry_span)) in
    rw (
      c.truncate.ensures.items,
      c.truncate-2.ensures.items,
      ← take-map entry_span c.loop-i.kept c.loop-i.entries.items,
    ) all.1

pub returns-clause-live : goal.returns-clause-live
returns-clause-live c =
    rw (c.truncate.ensures.items, ← take-map entry_span c.loop-i.kept c.loop-i.entries.items)
    c.loop-i.invariant.moving.live

pub returns-clause-clauses : goal.returns-clause-clauses
returns-clause-clauses c =
    let all =
    compacting_all c.loop-i.lits.items (entry_spans c.loop-i.entries.items) c.loop-i.kept
    c.loop-i.end c.loop-i.i _ c.loop-i.invariant.moving
    (omega (arith, c.loop-i.entries.ok.0, length-map c.loop-i.entries.items entry_span)) in
    rw (
      c.truncate.ensures.items,
      c.truncate-2.ensures.items,
      ← take-map entry_span c.loop-i.kept c.loop-i.entries.items,
    ) all.2
