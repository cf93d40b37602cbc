use Rattle.std.proofs.Common.{rules, arith, ◌≡◌}
use Rattle.clauses.specs.Slots.{clause_at}
use Rattle.analyze.specs.Met.{ListsMarked}
use Rattle.analyze.proofs.Fitting.{reason_live, reason_named}
use Rattle.analyze.proofs.Listing.{listed_none}
use Rattle.analyze.proofs.Resolving.{marked_start}
use Rattle.analyze.proofs.Finals.{before_start, final_from}
use Rattle.analyze.proofs.final_clause.learn_final.Goals as goal
use Rattle.analyze.proofs.final_clause.learn_final.Goals.{After-put_in_order}

-- what is marked is listed
lists : (c : After-put_in_order)
    → ListsMarked c.args.engine.now.trail c.args.marking.now c.put_in_order.new.marking
lists c = record {
  listed = (c.put_in_order.ensures.along c.args.store.now.slots c.requires.fits).listed;
  long = search rules;
  spare = search rules;
}

pub lits-requires : goal.lits-requires
lits-requires c =
    reason_live c.args.engine.now c.args.store.now.slots c.args.falsified.variable c.args.reason
    c.requires.fits c.requires.falsified.reason_is

pub mark_clause-requires-clause-named : goal.mark_clause-requires-clause-named
mark_clause-requires-clause-named c =
    reason_named c.args.engine.now c.args.store.now.slots c.args.falsified.variable c.args.reason
    c.lits.result.now c.requires.fits c.requires.falsified.reason_is c.lits.ensures

pub mark_clause-requires-clause-marking : goal.mark_clause-requires-clause-marking
mark_clause-requires-clause-marking c = record {
  room = c.requires.unmarked.room;
  spare = c.requires.unmarked.spare;
  listed = listed_none c.args.engine.now.trail c.args.marking.now.marks.items
      c.args.marking.now.met.items c.requires.unmarked.clear c.requires.unmarked.none;
}

pub resolve_before-requires-clause-before : goal.resolve_before-requires-clause-before
resolve_before-requires-clause-before c =
    before_start c.args.store.now.slots c.args.engine.now.trail c.args.falsified c.args.reason
    c.lits.result.now c.args.marking.now.marks.items c.mark_clause.new.marking.marks.items
    c.requires.fits.reasons c.requires.falsified c.lits.ensures c.requires.unmarked.clear
    c.mark_clause.ensures.marked

pub put_in_order-requires-clause-small : goal.put_in_order-requires-clause-small
put_in_order-requires-clause-small c = λ i d lt.
    let s = c.requires.fits.small i d lt in
    let room = c.resolve_before.ensures.marking.room in
    let low = s.0 in
    let high = s.1 in
    (omega arith, omega arith)

pub collect-requires-clause-along : goal.collect-requires-clause-along
collect-requires-clause-along c =
    c.put_in_order.ensures.along c.args.store.now.slots c.requires.fits

pub returns-in_err-collect-clause-lists : goal.returns-in_err-collect-clause-lists
returns-in_err-collect-clause-lists c =
    lists (goal.at.returns-in_err-collect-clause-lists c).After-put_in_order

pub returns-in_err-hints-clause-lists : goal.returns-in_err-hints-clause-lists
returns-in_err-hints-clause-lists c =
    lists (goal.at.returns-in_err-hints-clause-lists c).After-put_in_order

pub returns-clause-lists : goal.returns-clause-lists
returns-clause-lists c = lists (goal.at.returns-clause-lists c).After-put_in_order

pub returns-clause-learns : goal.returns-clause-learns
returns-clause-learns c =
    let T = c.args.engine.now.trail in
    let slots = c.args.store.now.slots in
    let at = clause_at slots in
    let wrong = c.lits.result.now in
    let M = c.resolve_before.new.marking.marks.items in
    let is : c.put_in_order.new.marking.marks.items ≡ M = c.put_in_order.ensures.same in
    let lits = rw is at c.in_ok-collect.ensures.lits in
    let hints = rw is at c.in_ok-collect.ensures.hints in
    let reduces = c.resolve_before.ensures.reduces in
    let first =
    marked_start at T wrong c.args.marking.now.marks.items
    c.mark_clause.new.marking.marks.items c.requires.unmarked.clear c.mark_clause.ensures.marked in
    final_from slots T c.args.falsified c.args.reason M c.requires.fits.reasons
    c.requires.falsified reduces.state wrong _ c.lits.ensures (reduces.known wrong first)
    lits hints
