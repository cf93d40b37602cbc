use Rattle.std.proofs.Common.{◌≡◌, ◌+◌, ◌<◌, ◌≤◌, ap, arith, drop, length, refl, true, ◌∙◌, List}
use Rattle.std.proofs.lemmas.List.{get_or_default, take_at}
use Rattle.std.specs.Prelude.{slice_index}
use Rattle.cnf.specs.Literal.{Literal}
use Rattle.lrat_live.specs.Chains.{IsChained, bucket_of}
use Rattle.lrat_live.specs.Table.{entry_spans, keys_of, nexts_of, IsTable}
use Rattle.lrat_live.specs.declared.entries.AddedEntry.{AddedEntry}
use Rattle.lrat_live.specs.declared.spans.TheConstants.{MOST_KEPT}
use Rattle.lrat_live.proofs.Tables.{table_clauses, table_linked, table_push}
use Rattle.lrat_live.proofs.append.append.Goals as goal
use Rattle.lrat_live.proofs.append.append.Goals.{After-reserve, In_ok-reserve}

grown_is : (c : In_ok-reserve) → c.reserve.new.self.items ≡ c.grow.new.entries
grown_is c = c.in_ok-reserve.ensures.items
    ∙ take_at c.grow.new.entries (drop (length c.grow.new.entries) c.args.entries.now.items)
    c.args.entries.now.len (omega arith)

grown_spans : (c : In_ok-reserve)
    → entry_spans c.reserve.new.self.items ≡ entry_spans c.args.entries.now.items
grown_spans c = ap entry_spans (grown_is c) ∙ c.in_ok-grow.ensures.spans
    ∙ ap entry_spans c.deref_mut.ensures.value

-- where room was refused, the entries may be linked anew
regrown : (c : After-reserve) (ms : List Literal) (ds : List AddedEntry)
    → ms ≡ c.args.lits.now.items → ds ≡ c.reserve.new.self.items
    → IsTable ms ds c.grow.new.heads.items
regrown c ms ds same is =
    table_linked c.args.lits.now.items ms c.args.entries.now.items c.grow.new.entries ds
    c.args.heads.now.items c.grow.new.heads.items c.requires.table same
    (is ∙ c.reserve.ensures.items
    ∙ take_at c.grow.new.entries (drop (length c.grow.new.entries) c.args.entries.now.items)
    c.args.entries.now.len (omega arith))
    (c.grow.ensures.spans ∙ ap entry_spans c.deref_mut.ensures.value) c.grow.ensures.kept_room
    c.grow.ensures.chained

pub returns-in_err-grow-clause-table : goal.returns-in_err-grow-clause-table
returns-in_err-grow-clause-table c =
    table_linked c.args.lits.now.items _ c.args.entries.now.items c.grow.new.entries _
    c.args.heads.now.items c.grow.new.heads.items c.requires.table refl
    (take_at c.grow.new.entries (drop (length c.grow.new.entries) c.args.entries.now.items)
    c.args.entries.now.len (omega arith))
    (c.grow.ensures.spans ∙ ap entry_spans c.deref_mut.ensures.value) c.grow.ensures.kept_room
    c.grow.ensures.chained

pub returns-in_err-reserve-clause-table : goal.returns-in_err-reserve-clause-table
returns-in_err-reserve-clause-table c =
    regrown (goal.at.returns-in_err-reserve-clause-table c).After-reserve _ _ refl refl

pub returns-in_err-extend_from_slice-clause-table :
    goal.returns-in_err-extend_from_slice-clause-table
returns-in_err-extend_from_slice-clause-table c =
    regrown (goal.at.returns-in_err-extend_from_slice-clause-table c).After-reserve _ _
    c.in_err-extend_from_slice.ensures.items refl

pub returns-clause-table : goal.returns-clause-table
returns-clause-table c =
    let at = (goal.at.returns-clause-table c).In_ok-reserve in
    let es = c.args.entries.now.items in
    let ls = c.args.lits.now.items in
    let hs = c.grow.new.heads.items in
    let grown = c.reserve.new.self.items in
    let count : length grown ≡ length c.grow.new.entries = ap length (grown_is at) in
    let e : AddedEntry =
    record {
      id = c.args.id;
      start = c.len-start.result;
      length = length c.args.clause.now;
      next = c.index.result.now;
      live = true;
    } in
    let chained : IsChained (length hs) hs (keys_of (entry_spans grown)) (nexts_of grown) =
    rw (grown_is at) c.in_ok-grow.ensures.chained in
    let start : c.len-start.result ≡ length ls = omega (arith, c.args.lits.now.ok.0) in
    let buckets : c.len-2.result ≡ length hs = omega (arith, c.grow.new.heads.ok.0) in
    let is : c.bucket-bucket.result ≡ bucket_of (length hs) c.args.id =
    c.bucket-bucket.ensures.value ∙ ap (λ n. bucket_of n c.args.id) buckets in
    let within : c.bucket-bucket.result < length hs =
    omega (arith, c.bucket-bucket.ensures.within) in
    let next : c.index.result.now ≡ slice_index hs c.bucket-bucket.result =
    c.index.ensures ∙ get_or_default hs c.bucket-bucket.result c.index.result.now 0 within in
    let room : length grown < length hs = omega (arith, c.in_ok-grow.ensures.room, count) in
    let few : length ls + length c.args.clause.now ≤ MOST_KEPT = omega arith in
    let fewer : length grown + 1 ≤ MOST_KEPT = omega arith in
    let place : c.len-3.result ≡ length grown + 1 =
    omega (arith, c.in_ok-push.ensures.len, c.reserve.new.self.ok.0) in
    rw (c.in_ok-push.ensures.items, c.in_ok-extend_from_slice.ensures.items)
    (table_push ls c.args.clause.now es grown c.args.heads.now.items hs e c.requires.table
    (grown_spans at) start refl refl c.bucket-bucket.result c.len-3.result c.requires.above
    chained room is within next place few fewer)

pub returns-clause-ok : goal.returns-clause-ok
returns-clause-ok c =
    let at = (goal.at.returns-clause-ok c).In_ok-reserve in
    let es = c.args.entries.now.items in
    let ls = c.args.lits.now.items in
    let hs = c.grow.new.heads.items in
    let grown = c.reserve.new.self.items in
    let e : AddedEntry =
    record {
      id = c.args.id;
      start = c.len-start.result;
      length = length c.args.clause.now;
      next = c.index.result.now;
      live = true;
    } in
    let start : c.len-start.result ≡ length ls = omega (arith, c.args.lits.now.ok.0) in
    rw (c.in_ok-push.ensures.items, c.in_ok-extend_from_slice.ensures.items)
    (table_clauses ls c.args.clause.now es grown c.args.heads.now.items hs e c.requires.table
    (grown_spans at) start refl refl)
