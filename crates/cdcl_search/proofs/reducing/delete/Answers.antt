use Rattle.std.proofs.Common.{◌≡◌, ◌<◌, [], ◌∷◌, ◌++◌, Some, true, false, length, refl, subst, sym}
use Rattle.std.proofs.Common.{◌∙◌, ap, arith}
use Rattle.std.proofs.lemmas.Bool.{both_ways}
use Rattle.clauses.specs.Slots.{StoreState, clause_at}
use Rattle.propagate.specs.Doomed.{is_doomed}
use Rattle.lrat_log.specs.declared.lines.Name.TheVariants.{Formula}
use Rattle.lrat_log.specs.declared.lines.Hint.TheVariants.{Plain}
use Rattle.lrat_log.specs.declared.lines.Kind.TheVariants.{Delete}
use Rattle.lrat_log.specs.Log.{LogLine, number_in}
use Rattle.lrat_log.proofs.Laws.{when_err}
use Rattle.cnf.specs.Lrat.{IsId}
use Rattle.cdcl_search.specs.declared.search.Search.{Search}
use Rattle.cdcl_search.specs.Invariant.{name_at}
use Rattle.cdcl_search.specs.Deletions.{IsDeleting}
use Rattle.cdcl_search.proofs.Places.{live_within, clause_gone, clause_left}
use Rattle.cdcl_search.specs.Running.{Writes}
use Rattle.cdcl_search.proofs.Written.{writes_none, writes_deletion}
use Rattle.cdcl_search.proofs.Deleting.{named_at, deleting_line, deleting_more}
use Rattle.cdcl_search.proofs.reducing.delete.Goals as goal

pub returns-then-not-is_live-clause-deletes : goal.returns-then-not-is_live-clause-deletes
returns-then-not-is_live-clause-deletes g c = record {
  deleting = c.requires.deleting;
  gone = λ on live. both_ways c.is_live.result c.if-not-is_live.true (c.is_live.ensures.1 live);
  fewer = λ r live. live;
  engine = refl;
  policy = refl;
  writes = writes_none c.args.input.now.given (g.S.Sink.lines c.args.sink.now);
}

pub returns-then-not-doomed-index-clause-deletes : goal.returns-then-not-doomed-index-clause-deletes
returns-then-not-doomed-index-clause-deletes g c =
    let doomed = c.args.doomed.now in
    let r = c.args.reference in
    let off : is_doomed doomed r ≡ false =
    subst (λ k. is_doomed doomed k ≡ false) c.index.ensures c.if-not-doomed-index.true in
    record {
      deleting = c.requires.deleting;
      gone = λ on live. both_ways (is_doomed doomed r) off on;
      fewer = λ q live. live;
      engine = refl;
      policy = refl;
      writes = writes_none c.args.input.now.given (g.S.Sink.lines c.args.sink.now);
    }

pub append-requires : goal.append-requires
append-requires g c =
    let s : Search = c.args.search.now in
    let r = c.args.reference in
    let recorded = c.requires.deleting.recorded in
    let live = c.is_live.ensures.0 c.if-not-is_live.false in
    let inside = live_within s.store.slots r live.0 live.1 in
    let lt : r < length s.names.items = omega (arith, recorded.names.as_many) in
    let name : c.name.result ≡ name_at s.names.items r =
    c.name.ensures ∙ named_at s.names.items c.index-2.result r c.index-3.result.now
    c.index-2.ensures c.index-3.ensures lt in
    record {
      line = deleting_line [] (Plain c.name.result ∷ []) c.name.result refl refl
          (subst (λ n. IsId (number_in n)) (sym name) (recorded.numbers r (Formula 0) lt));
    }

pub returns-clause-deletes : goal.returns-clause-deletes
returns-clause-deletes g c =
    let s : Search = c.args.search.now in
    let p = c.args.input.now in
    let ls = g.S.Sink.lines c.args.sink.now in
    let r = c.args.reference in
    let doomed = c.args.doomed.now in
    let d = c.requires.deleting in
    let live = c.is_live.ensures.0 c.if-not-is_live.false in
    let inside = live_within s.store.slots r live.0 live.1 in
    let lt : r < length s.names.items = omega (arith, d.recorded.names.as_many) in
    let name : c.name.result ≡ name_at s.names.items r =
    c.name.ensures ∙ named_at s.names.items c.index-2.result r c.index-3.result.now
    c.index-2.ensures c.index-3.ensures lt in
    let hints = ap (λ n. Plain n ∷ []) name in
    let on : is_doomed doomed r ≡ true =
    subst (λ k. is_doomed doomed k ≡ true) c.index.ensures c.if-not-doomed-index.false in
    let l : LogLine =
    record { kind = Delete; clause = []; hints = Plain c.name.result ∷ [] } in
    let k = c.count_deleted.new.self in
    let more =
    deleting_more s k p ls l doomed r live.0 d live.1 on refl hints
    c.count_deleted.ensures.same_view in
    let written : g.S.Sink.lines c.append.new.self ≡ ls ++ l ∷ [] = c.in_ok-append.ensures.ok in
    let store = c.delete.ensures in
    record {
      deleting =
          subst (λ x. IsDeleting (record s { store = c.delete.new.self; policy = k }) p x doomed)
          (sym written)
          (subst (λ (x : StoreState). IsDeleting (record s { store = x; policy = k }) p
          (ls ++ l ∷ []) doomed) (sym store) more);
      gone =
          λ here still. clause_gone s.store.slots r still.0
          (subst (λ (x : StoreState). clause_at x.slots r ≡ Some still.0) store still.1);
      fewer =
          λ q still. (
            still.0,
            (clause_left s.store.slots r q still.0
                (subst (λ (x : StoreState). clause_at x.slots q ≡ Some still.0) store
                still.1)).1,
          );
      engine = refl;
      policy = c.count_deleted.ensures.same_view;
      writes =
          subst (λ x. Writes p.given ls x 0) (sym written)
          (writes_deletion p.given ls l refl (omega arith));
    }

pub bounds-doomed-index : goal.bounds-doomed-index
bounds-doomed-index g c =
    let live = c.is_live.ensures.0 c.if-not-is_live.false in
    let inside =
    live_within (c.args.search.now.store).slots c.args.reference live.0 live.1 in
    omega (arith, c.index.ensures, c.requires.deleting.long)

pub index-requires-3 : goal.index-requires-3
index-requires-3 g c =
    let live = c.is_live.ensures.0 c.if-not-is_live.false in
    let inside =
    live_within (c.args.search.now.store).slots c.args.reference live.0 live.1 in
    omega (arith, c.index-2.ensures, c.requires.deleting.recorded.names.as_many)

pub delete-requires : goal.delete-requires
delete-requires g c = c.is_live.ensures.0 c.if-not-is_live.false

pub returns-in_err-append-clause-err : goal.returns-in_err-append-clause-err
returns-in_err-append-clause-err g c = when_err _ c.in_err-append.ensures.err

pub returns-in_err-append-clause-follows : goal.returns-in_err-append-clause-follows
returns-in_err-append-clause-follows g c = c.append.ensures.follows

pub returns-clause-follows : goal.returns-clause-follows
returns-clause-follows g c = c.append.ensures.follows
