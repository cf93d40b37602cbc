-- The clauses of one more column were added, or there are none below.
use Rattle.std.proofs.Common.{◌≡◌, ◌+◌, ◌-◌, ◌∷◌, false, true, arith, rules, ◌∙◌, refl, sym}
use Rattle.adder.specs.Network.{bit}
use Rattle.bound.specs.Bound.{no}
use Rattle.bound.proofs.Columns.{none_added, starts, bit_set, bit_clear, passes_none, passes_set}
use Rattle.bound.proofs.Columns.{passes_clear, ends_none, ends}
use Rattle.bound.proofs.comparators.keep_at_most.Goals as goal

pub returns-then-shift_down-ne0 : goal.returns-then-shift_down-ne0
returns-then-shift_down-ne0 c =
    none_added c.args.outputs.now c.args.limit c.args.clauses.now
    (λ e. c.if-shift_down-ne0.true (c.shift_down.ensures ∙ e))

pub loop-column-init : goal.loop-column-init
loop-column-init c = starts c.args.outputs.now c.args.limit _ _ _ refl (sym c.shift_down.ensures
    ∙ c.if-shift_down-ne0.false) c.new-clause.ensures.items

pub loop-column-preserved-then-not-is_set : goal.loop-column-preserved-then-not-is_set
loop-column-preserved-then-not-is_set c =
    let i = c.loop-column.column - 1 in
    let next : c.loop-column.column ≡ i + 1 = omega arith in
    let b : bit c.args.limit i ≡ false =
    bit_clear c.args.limit i c.shift_down-in-loop-column.result c.shift_down-in-loop-column.ensures
    c.if-not-is_set.true in
    let inserted : c.insert.new.self.items ≡ no c.in-Some.output ∷ c.loop-column.clause.items =
    cc (c.in_ok-insert-in-Some.ensures.items, c.negation.ensures) in
    let removed : c.remove.new.self.items ≡ c.loop-column.clause.items =
    rw (c.remove.ensures.items, inserted) refl in
    let text : c.deref.result.now ≡ no c.in-Some.output ∷ c.loop-column.clause.items =
    c.deref.ensures.value ∙ inserted in
    rw removed (passes_clear c.args.outputs.now c.args.limit i c.loop-column.column _
    c.loop-column.clauses c.loop-column.clause.items next (search rules) c.loop-column.invariant
    _ c.in-Some.output
    c.keep_short.new.clauses c.in-Some.is b (rw text at c.in_ok-keep_short-in-Some.ensures))

pub loop-column-preserved-else-not-is_set : goal.loop-column-preserved-else-not-is_set
loop-column-preserved-else-not-is_set c =
    let i = c.loop-column.column - 1 in
    let next : c.loop-column.column ≡ i + 1 = omega arith in
    let b : bit c.args.limit i ≡ true =
    bit_set c.args.limit i c.shift_down-in-loop-column.result c.shift_down-in-loop-column.ensures
    c.if-not-is_set.false in
    let inserted : c.insert.new.self.items ≡ no c.in-Some.output ∷ c.loop-column.clause.items =
    cc (c.in_ok-insert-in-Some.ensures.items, c.negation.ensures) in
    rw inserted (passes_set c.args.outputs.now c.args.limit i c.loop-column.column _
    c.loop-column.clauses c.loop-column.clause.items next (search rules) c.loop-column.invariant
    _ c.in-Some.output c.in-Some.is b)

pub returns-in-None : goal.returns-in-None
returns-in-None c =
    let i = c.loop-column.column - 1 in
    let next : c.loop-column.column ≡ i + 1 = omega arith in
    let b : bit c.args.limit i ≡ true =
    bit_set c.args.limit i c.shift_down-in-loop-column.result c.shift_down-in-loop-column.ensures
    c.if-is_set.true in
    ends_none c.args.outputs.now c.args.limit i c.loop-column.column _ c.loop-column.clauses
    c.loop-column.clause.items next (search rules) c.loop-column.invariant _ c.in-None.is b

pub loop-column-preserved : goal.loop-column-preserved
loop-column-preserved c =
    let i = c.loop-column.column - 1 in
    let next : c.loop-column.column ≡ i + 1 = omega arith in
    let b : bit c.args.limit i ≡ false =
    bit_clear c.args.limit i c.shift_down-in-loop-column.result c.shift_down-in-loop-column.ensures
    c.if-is_set.false in
    passes_none c.args.outputs.now c.args.limit i c.loop-column.column _ c.loop-column.clauses
    c.loop-column.clause.items next (search rules) c.loop-column.invariant _ c.in-None.is b

pub returns : goal.returns
returns c =
    ends c.args.outputs.now c.args.limit c.loop-column.column _ c.loop-column.clauses
    c.loop-column.clause.items (omega arith) c.loop-column.invariant
