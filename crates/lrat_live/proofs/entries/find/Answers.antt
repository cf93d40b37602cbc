use Rattle.std.proofs.Common.{length, ◌<◌}
use Rattle.lrat_live.specs.Chains.{bucket_of}
use Rattle.lrat_live.specs.Table.{entry_spans, keys_of, nexts_of}
use Rattle.lrat_live.proofs.Chains.{walk_start}
use Rattle.lrat_live.proofs.Table.{place_within, id_found, next_falls, next_on_walk}
use Rattle.lrat_live.proofs.entries.find.Goals as goal

pub loop-place-init : goal.loop-place-init
loop-place-init c =
    let keys = keys_of (entry_spans c.args.entries.now) in
    let m = length c.args.heads.now in
    let b : bucket_of m c.args.id < m = rw (← c.bucket.ensures.value) c.bucket.ensures.within in
    rw c.bucket.ensures.value
    (walk_start m c.args.id keys c.args.heads.now (nexts_of c.args.entries.now)
    c.requires.chained b)

pub bounds-entries-place : goal.bounds-entries-place
bounds-entries-place c =
    place_within (length c.args.heads.now) c.args.id c.args.entries.now c.loop-place.place
    c.loop-place.invariant c.loop-place-test.true

pub returns-then-entry-id : goal.returns-then-entry-id
returns-then-entry-id c =
    id_found (length c.args.heads.now) c.args.id c.args.heads.now c.args.entries.now
    c.loop-place.place _ c.loop-place.invariant c.loop-place-test.true c.if-entry-id.true

pub loop-place-smaller : goal.loop-place-smaller
loop-place-smaller c =
    next_falls (length c.args.heads.now) c.args.id c.args.heads.now c.args.entries.now
    c.loop-place.place _ c.loop-place.invariant c.loop-place-test.true c.requires.chained

pub loop-place-preserved : goal.loop-place-preserved
loop-place-preserved c =
    next_on_walk (length c.args.heads.now) c.args.id c.args.heads.now c.args.entries.now
    c.loop-place.place _ c.loop-place.invariant c.loop-place-test.true c.requires.chained
    c.if-entry-id.false
