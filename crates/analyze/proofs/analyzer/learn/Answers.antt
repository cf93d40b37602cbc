use Rattle.std.proofs.Common.{rules, arith, ◌≡◌, ◌≤◌, sym, ◌∙◌, ap, subst}
use Rattle.std.specs.Prelude.{All}
use Rattle.std.proofs.lemmas.Result.{IfOk-from_err}
use Rattle.cnf.specs.Literal.{Literal, negation}
use Rattle.clauses.specs.Slots.{clause_at}
use Rattle.propagate.specs.Trail.{literals_of}
use Rattle.analyze.specs.Analyzer.{IsAsserting, IsRefutedBy, greatest_level}
use Rattle.analyze.specs.Marks.{kept_of, resolved_of, others_in, learned_from}
use Rattle.analyze.specs.Met.{ListsMarked}
use Rattle.analyze.proofs.Counting.{current_clear}
use Rattle.analyze.proofs.Fitting.{false_within}
use Rattle.analyze.proofs.Listing.{listed_none}
use Rattle.analyze.proofs.Resolving.{marked_start}
use Rattle.analyze.proofs.Marked.{marked_refutes}
use Rattle.analyze.proofs.Collecting.{conflict_is, start_above, start_some, learned_asserting}
use Rattle.analyze.proofs.Collecting.{learned_collected, learned_within, tail_is}
use Rattle.analyze.proofs.analyzer.learn.Goals as goal
use Rattle.analyze.proofs.analyzer.learn.Goals.{After-clear}

-- what is marked is listed
lists : (c : After-clear)
    → ListsMarked c.args.engine.now.trail c.args.marking.now
    (record c.put_in_order.new.marking { list = c.clear.new.self })
lists c = record {
  listed = (c.put_in_order.ensures.along c.args.store.now.slots c.requires.can.fits).listed;
  long = search rules;
  spare = search rules;
}

pub mark_clause-count-requires-clause-named : goal.mark_clause-count-requires-clause-named
mark_clause-count-requires-clause-named c =
    let conflict =
    conflict_is c.args.engine.now.trail c.lits.result.now _ c.lits.ensures
    c.requires.can.falsified in
    false_within c.args.engine.now c.args.store.now.slots c.lits.result.now c.requires.can.fits
    conflict.falsified

pub resolve-asserting-requires : goal.resolve-asserting-requires
resolve-asserting-requires c =
    let T = c.args.engine.now.trail in
    let ls = c.lits.result.now in
    let old = c.args.marking.now.marks.items in
    let new = c.mark_clause-count.new.marking.marks.items in
    let marked = c.mark_clause-count.ensures.marked in
    let conflict = conflict_is T ls _ c.lits.ensures c.requires.can.falsified in
    let clear = c.requires.unmarked.clear in
    let some = start_some T ls old new clear marked c.requires.can.deep conflict in
    let zero = current_clear T old clear in
    let n = c.mark_clause-count.ensures.counted in
    record {
      fits = c.requires.can.fits;
      above = start_above T ls old new clear marked;
      counted = omega arith;
      some = omega arith;
      marking = c.mark_clause-count.ensures.marking;
    }

pub greatest-back_level-requires : goal.greatest-back_level-requires
greatest-back_level-requires c =
    let e = c.args.engine.now in
    let M = c.minimise.new.marking.marks.items in
    let u = c.resolve-asserting.result in
    let is : c.put_in_order.new.marking.marks.items ≡ M = c.put_in_order.ensures.same in
    let lits = rw is at c.in_ok-collect.ensures.lits in
    let tail = tail_is (negation u) (others_in M u (literals_of e.trail)) c.as_slice.result.now
    (c.as_slice.ensures.value ∙ lits) in
    subst (All (λ (l : Literal). l.variable ≤ e.variables)) (sym tail)
    (learned_within e c.args.store.now.slots M u c.requires.can.fits
    c.minimise.ensures.reduces.reduced)

pub returns-clause-learns : goal.returns-clause-learns
returns-clause-learns c =
    let T = c.args.engine.now.trail in
    let slots = c.args.store.now.slots in
    let at = clause_at slots in
    let reasons = c.requires.can.fits.reasons in
    let ls = c.lits.result.now in
    let M = c.minimise.new.marking.marks.items in
    let u = c.resolve-asserting.result in
    let back = c.greatest-back_level.result in
    let reduces = c.minimise.ensures.reduces in
    let is : c.put_in_order.new.marking.marks.items ≡ M = c.put_in_order.ensures.same in
    let lits = rw is at c.in_ok-collect.ensures.lits in
    let hints = rw is at c.in_ok-collect.ensures.hints in
    let tail =
    tail_is (negation u) (others_in M u (literals_of T)) c.as_slice.result.now
    (c.as_slice.ensures.value ∙ lits) in
    let greatest = c.greatest-back_level.ensures ∙ ap (greatest_level T) tail in
    let conflict = conflict_is T ls _ c.lits.ensures c.requires.can.falsified in
    let first =
    marked_start at T ls c.args.marking.now.marks.items
    c.mark_clause-count.new.marking.marks.items c.requires.unmarked.clear
    c.mark_clause-count.ensures.marked in
    let marked = reduces.known ls (c.resolve-asserting.ensures.reduces.known ls first) in
    let collected = learned_collected at T M u reasons reduces.reduced in
    let refuted =
    marked_refutes slots T c.args.conflict ls (learned_from T M u) (kept_of M) (resolved_of M)
    reasons c.lits.ensures conflict.falsified marked collected in
    record {
      asserting = subst (λ x. IsAsserting T x back) (sym lits)
          (learned_asserting at T M u back reasons reduces.reduced greatest);
      hints = subst (λ x. IsRefutedBy slots T x c.collect.new.hints.items)
          (sym lits)
          (subst (IsRefutedBy slots T (learned_from T M u)) (sym hints)
          refuted);
      order = record {
        chosen = λ l. resolved_of M l.variable;
        ordered = hints;
      };
    }

pub mark_clause-count-requires-clause-marking : goal.mark_clause-count-requires-clause-marking
mark_clause-count-requires-clause-marking c = record {
  room = c.requires.unmarked.room;
  spare = c.requires.unmarked.spare;
  listed = listed_none c.args.engine.now.trail c.args.marking.now.marks.items
      c.args.marking.now.met.items c.requires.unmarked.clear c.requires.unmarked.none;
}

pub put_in_order-requires-clause-small : goal.put_in_order-requires-clause-small
put_in_order-requires-clause-small c = λ i d lt.
    let s = c.requires.can.fits.small i d lt in
    let room = c.minimise.ensures.marking.room in
    let low = s.0 in
    let high = s.1 in
    (omega arith, omega arith)

pub collect-requires-clause-along : goal.collect-requires-clause-along
collect-requires-clause-along c =
    c.put_in_order.ensures.along c.args.store.now.slots c.requires.can.fits

pub returns-in_err-collect-clause-lists : goal.returns-in_err-collect-clause-lists
returns-in_err-collect-clause-lists c =
    lists (goal.at.returns-in_err-collect-clause-lists c).After-clear

pub returns-in_err-hints-clause-lists : goal.returns-in_err-hints-clause-lists
returns-in_err-hints-clause-lists c =
    lists (goal.at.returns-in_err-hints-clause-lists c).After-clear

pub returns-clause-lists : goal.returns-clause-lists
returns-clause-lists c =
    let l = lists (goal.at.returns-clause-lists c).After-clear in
    subst (ListsMarked c.args.engine.now.trail c.args.marking.now)
    (sym c.meet_reasons.ensures.rest)
    (record { listed = l.listed; long = l.long; spare = l.spare })

pub returns-in_err-hints-clause-learns : goal.returns-in_err-hints-clause-learns
returns-in_err-hints-clause-learns c =
    IfOk-from_err c.from_residual.result _ c.from_residual.ensures.0

pub returns-in_err-collect-clause-learns : goal.returns-in_err-collect-clause-learns
returns-in_err-collect-clause-learns c =
    IfOk-from_err c.from_residual-in_err-collect.result _ c.from_residual-in_err-collect.ensures.0
