-- Pair after pair gets a variable.
use Rattle.std.proofs.Common.{◌+◌, ap, arith}
use Rattle.std.proofs.lemmas.Result.{MatchResult-from_err}
use Rattle.clauses.specs.Slots.{StoreState}
use Rattle.eliminate_pairs.specs.Pairs.{stage_of, Stage}
use Rattle.eliminate_pairs.proofs.Defining.{replaces_none, replaces_on, replaces_same}
use Rattle.eliminate_pairs.proofs.Defining.{leaves_on, leaves_now}
use Rattle.eliminate_pairs.proofs.pairs.define_counted.Goals as goal
use Rattle.eliminate_pairs.proofs.pairs.define_counted.Goals.{
  in-Some+in_ok-find+then-found-fewest+in_ok-last,
}
use Rattle.eliminate_pairs.proofs.pairs.define_counted.Goals.{in-Some+in_ok-find+else-found-fewest}
use Rattle.eliminate_pairs.proofs.pairs.define_counted.Goals.{in_default}

pub loop-k-init : goal.loop-k-init
loop-k-init g c = replaces_none _ _ _ _ _ c.requires.room c.requires.fit

pub returns-in_err-table : goal.returns-in_err-table
returns-in_err-table g c = MatchResult-from_err _ _ _ c.from_residual.ensures.0
    (λ _. leaves_now _ _ _ _ _ _ (replaces_none _ _ _ _ _ c.requires.room c.requires.fit))

pub returns-in_err-find : goal.returns-in_err-find
returns-in_err-find g c = MatchResult-from_err _ _ _ c.from_residual-in_err-find.ensures.0
    (λ _. leaves_now _ _ _ _ _ _ c.loop-k.invariant)

pub returns-in_err-last : goal.returns-in_err-last
returns-in_err-last g c = MatchResult-from_err _ _ _ c.from_residual-in_err-last.ensures.0
    (λ _. leaves_on _ _ _ _ _ _ c.loop-k.invariant _ c.in_err-last.ensures.passes)

pub loop-k-preserved : goal.loop-k-preserved
loop-k-preserved g c =
    let L = g.S.Sink.lines in
    let s : Stage =
    stage_of c.args.range.now.after c.args.store.now.slots c.args.names.now (L c.args.sink.now) in
    let was = c.loop-k.invariant in
    elim c.match-candidate.branch [
      | in-Some+in_ok-find+then-found-fewest+in_ok-last w ↦
          replaces_same s c.args.range.now.most w.in_ok-last.last w.define_found.new.store.slots
          w.define_found.new.names (L w.define_found.new.sink)
          (replaces_on s c.args.range.now.most c.loop-k.last c.loop-k.store.slots c.loop-k.names
          (L c.loop-k.sink) was (c.loop-k.last + 1) w.in_ok-last.last
          w.define_found.new.store.slots w.define_found.new.names (L w.define_found.new.sink)
          (omega (arith, c.if-last-range.false)) w.in_ok-last.ensures.passes)
          c.match-candidate.last c.match-candidate.store.slots c.match-candidate.names
          (L c.match-candidate.sink)
          w.last-is (ap (λ (x : StoreState). x.slots) w.store-is) w.names-is (ap L w.sink-is)
      | in-Some+in_ok-find+else-found-fewest w ↦
          replaces_same s c.args.range.now.most c.loop-k.last c.loop-k.store.slots c.loop-k.names
          (L c.loop-k.sink) was
          c.match-candidate.last c.match-candidate.store.slots c.match-candidate.names
          (L c.match-candidate.sink)
          w.last-is (ap (λ (x : StoreState). x.slots) w.store-is) w.names-is (ap L w.sink-is)
      | in_default w ↦
          replaces_same s c.args.range.now.most c.loop-k.last c.loop-k.store.slots c.loop-k.names
          (L c.loop-k.sink) was
          c.match-candidate.last c.match-candidate.store.slots c.match-candidate.names
          (L c.match-candidate.sink)
          w.last-is (ap (λ (x : StoreState). x.slots) w.store-is) w.names-is (ap L w.sink-is)
    ]
