use Rattle.std.proofs.Common.{◌≡◌, ◌+◌, ◌<◌, ◌∙◌, ℕ, false, get_or, length, length-set, set, arith}
use Rattle.std.proofs.Common.{refl, subst, sym}
use Rattle.lrat_live.specs.Chains.{IsChained, bucket_of}
use Rattle.lrat_live.specs.Table.{entry_spans, keys_of, nexts_of}
use Rattle.std.proofs.Common.{take}
use Rattle.lrat_live.specs.declared.entries.AddedEntry.{AddedEntry}
use Rattle.lrat_live.proofs.Table.{spans-set_same, link_more}
use Rattle.lrat_live.proofs.entries.link.Goals as goal

pub loop-i-preserved : goal.loop-i-preserved
loop-i-preserved c =
    let d : AddedEntry = record { id = 0; start = 0; length = 0; next = 0; live = false } in
    let es = c.loop-i.entries in
    let hs = c.loop-i.heads in
    let i : ℕ = c.loop-i.i in
    let e : AddedEntry = record (get_or es i d) { next = get_or hs c.bucket-bucket.result 0 } in
    let m = length hs in
    let same : length c.fill.new.self ≡ m = c.loop-i.invariant.buckets in
    let within : c.bucket-bucket.result < m =
    subst (λ n. c.bucket-bucket.result < n) same c.bucket-bucket.ensures.within in
    let is : c.bucket-bucket.result ≡ bucket_of m (get_or es i d).id =
    subst (λ n. c.bucket-bucket.result ≡ bucket_of n (get_or es i d).id) same
    c.bucket-bucket.ensures.value in
    let kept : length (set hs c.bucket-bucket.result (i + 1)) ≡ m =
    length-set hs c.bucket-bucket.result (i + 1) in
    let more =
    link_more m hs es i c.bucket-bucket.result d e (omega arith) refl is within refl
    c.loop-i.invariant.chained in
    record {
      buckets = same ∙ sym kept;
      spans = spans-set_same es i d e refl (omega arith) ∙ c.loop-i.invariant.spans;
      chained =
          subst (λ n. IsChained n (set hs c.bucket-bucket.result (i + 1))
          (take (i + 1) (keys_of (entry_spans (set es i e)))) (nexts_of (set es i e))) (sym kept)
          more;
    }
