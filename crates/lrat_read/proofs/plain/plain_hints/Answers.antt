-- A hint more, and the 0 that ends the line.
use Rattle.std.proofs.Common.{arith, ℕ, ◌+◌, ◌<◌, ◌≤◌, length}
use Rattle.std.proofs.Common.{Bool, inl, inr, ap, sym, ◌∙◌}
use Rattle.std.proofs.lemmas.Bool.{both_ways, eqb-true, not-true}
use Rattle.lrat_read.proofs.PlainLoops.{hints_next, hints_end, undashed_next, kept_set}
use Rattle.lrat_read.proofs.plain.plain_hints.Goals as goal
use Rattle.lrat_read.proofs.plain.plain_hints.Goals.{then-not-number, else-not-number}

pub returns-then-is_last-clause-read : goal.returns-then-is_last-clause-read
returns-then-is_last-clause-read c =
    let inv = c.loop-number.invariant in
    let n = c.in_ok-number.number in
    let h = c.in_ok-number.ensures in
    let size = c.requires.room in
    let room : c.loop-number.count ≤ length c.loop-number.hints =
    omega (arith, size, inv.kept, inv.order, inv.few, inv.within) in
    elim c.if-not-number.branch [
      | then-not-number w ↦
          hints_end c.args.line.now c.args.at c.loop-number.place c.args.is_deletion
          c.loop-number.hints c.args.from c.loop-number.count n.is_dashed n.digits inv.within
          h.digits c.if-digits-eq0.true (not-true n.is_dashed w.if-not-number.true)
          (eqb-true (n.digits.end + 1) (length c.args.line.now)
          (sym w.is_last-is ∙ c.if-is_last.true)) inv.order room inv.block inv.undashed
      | else-not-number w ↦
          absurd (both_ways _ w.if-not-number.false (sym w.is_last-is ∙ c.if-is_last.true))
    ]

pub loop-number-preserved : goal.loop-number-preserved
loop-number-preserved c =
    let inv = c.loop-number.invariant in
    let n = c.in_ok-number.number in
    let h = c.in_ok-number.ensures in
    let d = h.digits in
    let some = d.nonempty in
    let past = c.in_ok-place.ensures in
    let size = c.requires.room in
    let room : c.loop-number.count < length c.loop-number.hints =
    omega (arith, size, inv.kept, inv.order, inv.few, past.within, past.behind, some) in
    record {
      within = past.within;
      order = omega (arith, inv.order);
      few = omega (arith, inv.order, inv.few, past.behind, some);
      kept = kept_set c.args.hints.now c.loop-number.hints c.args.from c.loop-number.count
          c.new.result inv.order inv.kept;
      block = hints_next c.args.line.now c.args.at c.loop-number.place c.loop-number.hints
          c.args.from c.loop-number.count n.is_dashed n.digits c.in_ok-place.place c.new.result
          h.dash d past (omega arith) inv.order room c.new.ensures inv.block;
      undashed = λ e. undashed_next c.loop-number.hints c.args.from c.loop-number.count c.new.result
          inv.order room (inv.undashed e) (ap (λ (x : Bool × ℕ). x.0) c.new.ensures
          ∙ elim c.else-number.either [
            | inl q ↦ absurd (both_ways _ q.1 e)
            | inr q ↦ q
          ]);
    }
