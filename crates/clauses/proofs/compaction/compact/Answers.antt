use Rattle.std.proofs.Common.{ℕ, ◌≡◌, ◌+◌, ◌-◌, ◌<◌, ◌≤◌, ◌^◌, arith, ◌∙◌, length, rules}
use Rattle.std.proofs.Common.{length-set}
use Rattle.cnf.proofs.Laws.{compacting_all}
use Rattle.clauses.proofs.Flat.{heads, moves_down, dead_head, live_head}
use Rattle.clauses.proofs.Reading.{span_at, flag_at}
use Rattle.clauses.proofs.compaction.compact.Goals as goal
use Rattle.clauses.proofs.compaction.compact.Goals.{After-is_live, After-span-span}

within : (c : After-is_live) → c.loop-i.i < length c.loop-i.heads
within c = omega (arith, c.loop-i.invariant.heads, c.len-i-end.ensures)

down : (c : After-span-span) → (c.loop-i.end ≤ c.span-span.result.start)
    × (c.span-span.result.start + c.span-span.result.length ≤ length c.loop-i.literals.items)
down c =
    let h : c.loop-i.i < length c.loop-i.heads =
    omega (arith, c.loop-i.invariant.heads, c.len-i-end.ensures) in
    moves_down c.loop-i.literals.items c.loop-i.heads c.loop-i.kept c.loop-i.end c.loop-i.i _
    c.loop-i.invariant.moving h c.span-span.result (span_at _ _ _ h c.span-span.ensures)

pub span-span-requires : goal.span-span-requires
span-span-requires c = within (goal.at.span-span-requires c).After-is_live

pub set-requires : goal.set-requires
set-requires c =
    omega (arith, within (goal.at.set-requires c).After-is_live, c.loop-i.invariant.moving.kept_le)

pub copy_within-requires-clause-in_bounds : goal.copy_within-requires-clause-in_bounds
copy_within-requires-clause-in_bounds c =
    omega (
      arith,
      (down (goal.at.copy_within-requires-clause-in_bounds c).After-span-span).1,
      c.loop-i.literals.ok.0,
    )

pub copy_within-requires-clause-dest_in_bounds : goal.copy_within-requires-clause-dest_in_bounds
copy_within-requires-clause-dest_in_bounds c =
    omega (
      arith,
      (down (goal.at.copy_within-requires-clause-dest_in_bounds c).After-span-span).0,
      (down (goal.at.copy_within-requires-clause-dest_in_bounds c).After-span-span).1,
      c.loop-i.literals.ok.0,
    )

pub overflow_cast-moved : goal.overflow_cast-moved
overflow_cast-moved c =
    let h = down (goal.at.overflow_cast-moved c).After-span-span in
    let small : c.loop-i.end < 2 ^ 32 =
    omega (arith, h.0, h.1, c.requires.few, c.loop-i.invariant.literals) in
    search rules

pub overflow_add-kept : goal.overflow_add-kept
overflow_add-kept c =
    let few : c.loop-i.kept + 1 < 2 ^ 64 = omega (arith, c.loop-i.invariant.moving.kept_le) in
    search rules

pub overflow_add-end : goal.overflow_add-end
overflow_add-end c =
    let h = down (goal.at.overflow_add-end c).After-span-span in
    let small : c.loop-i.end + c.span-span.result.length < 2 ^ 64 =
    omega (arith, h.0, h.1, c.requires.few, c.loop-i.invariant.literals) in
    search rules

pub loop-i-preserved-then-not-is_live : goal.loop-i-preserved-then-not-is_live
loop-i-preserved-then-not-is_live c =
    let h = within (goal.at.loop-i-preserved-then-not-is_live c).After-is_live in
    record {
      moving =
          dead_head c.loop-i.literals.items c.loop-i.heads c.loop-i.kept c.loop-i.end c.loop-i.i _
          c.loop-i.invariant.moving h (flag_at _ _ _ h c.is_live.ensures ∙ c.if-not-is_live.true);
      heads = c.loop-i.invariant.heads;
      literals = c.loop-i.invariant.literals;
    }

pub loop-i-preserved : goal.loop-i-preserved
loop-i-preserved c =
    let h = within (goal.at.loop-i-preserved c).After-is_live in
    let x = c.span-span.result in
    let n : ℕ = x.start + x.length - x.start in
    let long : n ≡ x.length = omega arith in
    let more =
    live_head c.loop-i.literals.items c.loop-i.heads c.loop-i.kept c.loop-i.end c.loop-i.i _
    c.loop-i.invariant.moving h x (span_at _ _ _ h c.span-span.ensures)
    (flag_at _ _ _ h c.is_live.ensures ∙ c.if-not-is_live.false) n long in
    record {
      moving = rw (c.copy_within.ensures.items, c.set.ensures) more;
      heads =
          rw c.set.ensures (length-set c.loop-i.heads c.loop-i.kept _ ∙ c.loop-i.invariant.heads);
      literals =
          omega (
            arith,
            c.copy_within.ensures.len,
            c.loop-i.literals.ok.0,
            c.copy_within.new.self.ok.0,
            c.loop-i.invariant.literals,
          );
    }

pub returns-clause-laid : goal.returns-clause-laid
returns-clause-laid c =
    let all =
    compacting_all heads c.loop-i.literals.items c.loop-i.heads c.loop-i.kept c.loop-i.end
    c.loop-i.i _ c.loop-i.invariant.moving
    (omega (arith, c.loop-i.invariant.heads, c.len-i-end.ensures)) in
    rw (c.truncate.ensures, c.truncate-2.ensures.items) all.1

pub returns-clause-live : goal.returns-clause-live
returns-clause-live c = rw c.truncate.ensures c.loop-i.invariant.moving.live

pub returns-clause-clauses : goal.returns-clause-clauses
returns-clause-clauses c =
    let all =
    compacting_all heads c.loop-i.literals.items c.loop-i.heads c.loop-i.kept c.loop-i.end
    c.loop-i.i _ c.loop-i.invariant.moving
    (omega (arith, c.loop-i.invariant.heads, c.len-i-end.ensures)) in
    rw (c.truncate.ensures, c.truncate-2.ensures.items) all.2
