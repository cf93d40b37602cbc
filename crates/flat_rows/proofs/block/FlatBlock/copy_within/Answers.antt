use Rattle.std.proofs.Common.{◌≡◌, ◌+◌, ◌∙◌, length, get_or, ap, arith}
use Rattle.std.proofs.lemmas.List.{get_or-set_same, get_or-set_other, length-set}
use borrow.Author.Count.{below_more}
use Rattle.flat_rows.proofs.block.FlatBlock.copy_within.Goals as goal

-- one more value is copied
pub loop-moved-preserved : goal.loop-moved-preserved
loop-moved-preserved g c =
    let inv = c.loop-moved.invariant in
    let now = c.loop-moved.self in
    let n = c.loop-moved.moved in
    let p = c.args.to + n in
    let v = c.get-value.result in
    let long = inv.long in
    record {
      long = ap length c.set.ensures ∙ length-set now p v ∙ long;
      kept = λ k d lt.
          ap (λ x. get_or x k d) c.set.ensures
          ∙ get_or-set_other now p k v d (omega arith) ∙ inv.kept k d lt;
      behind = λ k d le.
          ap (λ x. get_or x k d) c.set.ensures
          ∙ get_or-set_other now p k v d (omega arith) ∙ inv.behind k d (omega arith);
      copied = λ k d lt.
          below_more
          (λ i. get_or c.set.new.self (c.args.to + i) d
          ≡ get_or c.args.self.now (c.args.from + i) d) n
          (λ i below.
          ap (λ x. get_or x (c.args.to + i) d) c.set.ensures
          ∙ get_or-set_other now p (c.args.to + i) v d (omega arith) ∙ inv.copied i d below)
          (ap (λ x. get_or x p d) c.set.ensures ∙ get_or-set_same now p v d (omega arith)
          ∙ c.get-value.ensures d ∙ inv.kept (c.args.from + n) d (omega arith)) k lt;
    }
