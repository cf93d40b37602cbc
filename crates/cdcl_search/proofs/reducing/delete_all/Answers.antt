use Rattle.std.proofs.Common.{◌≡◌, List, true, refl, sym, ◌∙◌, ap, subst, get_or, length, arith}
use Rattle.std.proofs.lemmas.List.{get_or_default}
use Rattle.clauses.specs.Slots.{IsLive}
use Rattle.propagate.specs.Trail.{Assigned}
use Rattle.propagate.specs.Watches.{EngineState}
use Rattle.propagate.specs.Doomed.{is_doomed}
use Rattle.cdcl_search.specs.Deletions.{IsDeleting, AreMarked}
use Rattle.cdcl_search.proofs.Written.{writes_none, writes_join, refused, refused_at_once}
use Rattle.cdcl_search.proofs.Deleting.{reasons_stay, deleting_starts, deleting_ends, gone_more}
use Rattle.cdcl_search.proofs.Deleting.{all_gone}
use Rattle.cdcl_search.proofs.reducing.delete_all.Goals as goal

pub detach_all-requires : goal.detach_all-requires
detach_all-requires g c =
    let m = subst (AreMarked c.args.search.now c.args.chosen.now (length c.args.chosen.now))
    (sym c.deref.ensures.value) c.in_ok-doomed.ensures in
    record {
      no_reason = reasons_stay c.args.search.now c.args.chosen.now (length c.args.chosen.now)
          c.deref.result.now m;
    }

pub loop-reference-init : goal.loop-reference-init
loop-reference-init g c =
    let s = c.args.search.now in
    let m =
    subst (AreMarked s c.args.chosen.now (length c.args.chosen.now)) (sym c.deref.ensures.value)
    c.in_ok-doomed.ensures in
    let d = c.detach_all.ensures in
    let starts =
    deleting_starts s c.detach_all.new.self c.args.input.now (g.S.Sink.lines c.args.sink.now)
    c.args.chosen.now (length c.args.chosen.now) c.deref.result.now c.requires.runs m d.detached
    d.frame (d.fits s.store.slots c.requires.runs.running.searches.fits) in
    record {
      deleting =
          subst (IsDeleting (record s { engine = c.detach_all.new.self }) c.args.input.now
          (g.S.Sink.lines c.args.sink.now)) c.deref.ensures.value starts;
      gone = λ i below. absurd (omega arith);
      variables = d.frame.1;
      long = ap (λ (T : List Assigned). length T) d.frame.0;
      policy = refl;
      writes = writes_none c.args.input.now.given (g.S.Sink.lines c.args.sink.now);
      follows = λ first f. f;
    }

pub loop-reference-preserved : goal.loop-reference-preserved
loop-reference-preserved g c =
    let d = c.in_ok-delete.ensures.deletes in
    let l = c.loop-reference in
    let ms = c.args.chosen.now in
    let q = c.reference-item.result in
    let doomed = c.in_ok-doomed.doomed.items in
    let input = c.args.input.now in
    let before = g.S.Sink.lines c.args.sink.now in
    let at : get_or ms l.reference-index 0 ≡ q =
    sym (get_or_default ms l.reference-index q 0 c.loop-reference-test.true)
    ∙ sym c.reference-item.is in
    record {
      deleting =
          subst (IsDeleting c.delete.new.search input (g.S.Sink.lines c.delete.new.sink))
          c.deref-in-loop-reference.ensures.value d.deleting;
      gone =
          gone_more l.search.store.slots c.delete.new.search.store.slots ms l.reference-index doomed
          q
          l.invariant.gone d.fewer
          (subst (λ ds. is_doomed ds q ≡ true → IsLive c.delete.new.search.store.slots q
          → ⊥) c.deref-in-loop-reference.ensures.value d.gone) at;
      variables = ap (λ (e : EngineState). e.variables) d.engine ∙ l.invariant.variables;
      long = ap (λ (e : EngineState). length e.trail) d.engine ∙ l.invariant.long;
      policy = d.policy ∙ l.invariant.policy;
      writes =
          writes_join input.given before (g.S.Sink.lines l.sink)
          (g.S.Sink.lines c.delete.new.sink) 0 0 l.invariant.writes d.writes;
      follows = λ first f. c.delete.ensures.follows first (l.invariant.follows first f);
    }

pub delete-requires : goal.delete-requires
delete-requires g c =
    record {
      deleting = subst (IsDeleting c.loop-reference.search c.args.input.now
          (g.S.Sink.lines c.loop-reference.sink)) (sym c.deref-in-loop-reference.ensures.value)
          c.loop-reference.invariant.deleting;
    }

pub returns-in_err-doomed-clause-reduces : goal.returns-in_err-doomed-clause-reduces
returns-in_err-doomed-clause-reduces g c =
    refused_at_once c.from_residual.result c.args.input.now (g.S.Sink.lines c.args.sink.now)
    c.from_residual.ensures.0 c.requires.runs.running.recorded.log

pub returns-in_err-delete-clause-reduces : goal.returns-in_err-delete-clause-reduces
returns-in_err-delete-clause-reduces g c =
    let l = c.loop-reference in
    refused c.from_residual-in_err-delete.result c.args.input.now
    (g.S.Sink.lines c.args.sink.now) (g.S.Sink.lines l.sink) (g.S.Sink.lines c.delete.new.sink)
    c.from_residual-in_err-delete.ensures.0 l.invariant.deleting.recorded.log l.invariant.writes
    c.in_err-delete.ensures.err

pub returns-clause-reduces : goal.returns-clause-reduces
returns-clause-reduces g c =
    let l = c.loop-reference in
    record {
      leaves = record {
        runs =
            deleting_ends l.search c.args.input.now (g.S.Sink.lines l.sink)
            c.in_ok-doomed.doomed.items l.invariant.deleting
            (all_gone c.args.search.now l.search.store.slots c.args.chosen.now l.reference-index
            c.in_ok-doomed.doomed.items c.in_ok-doomed.ensures c.loop-reference-test.false
            l.invariant.gone);
        long = l.invariant.long;
        variables = l.invariant.variables;
        policy = l.invariant.policy;
      };
      writes = l.invariant.writes;
      err = tt;
    }
