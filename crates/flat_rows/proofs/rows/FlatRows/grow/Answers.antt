use Rattle.std.proofs.Common.{◌≡◌, ◌∙◌, length, get_or, ap, arith}
use Rattle.std.proofs.lemmas.List.{get_or-set_same, get_or-set_other, length-set}
use borrow.Author.Count.{below_more}
use Rattle.flat_rows.proofs.RowsLaid.{roomed_as, rows_same, seen_rooms, seen_rows}
use Rattle.flat_rows.proofs.rows.FlatRows.grow.Goals as goal

pub returns : goal.returns
returns g c =
    let i = c.self.inside in let v = c.loop-place.invariant in
    record {
      unchanged = roomed_as _ _ _ _
          (rows_same i.block c.loop-place.next i.heads.items i.used c.self.invariant (omega arith)
          (λ k d lt. v.copied k d (omega arith)) ∙ seen_rows i.block i.heads.items _ c.self.view_is)
          (seen_rooms i.block i.heads.items _ c.self.view_is);
    }

-- one more value is copied
pub loop-place-preserved : goal.loop-place-preserved
loop-place-preserved g c =
    let inv = c.loop-place.invariant in
    let now = c.loop-place.next in
    let n = c.loop-place.place in
    let v = c.get.result in
    let long = inv.long in
    record {
      long = ap length c.set.ensures ∙ length-set now n v ∙ long;
      copied = λ k d lt.
          below_more (λ i. get_or c.set.new.self i d ≡ get_or c.self.inside.block i d) n
          (λ i below.
          ap (λ x. get_or x i d) c.set.ensures ∙ get_or-set_other now n i v d (omega arith)
          ∙ inv.copied i d below)
          (ap (λ x. get_or x n d) c.set.ensures ∙ get_or-set_same now n v d (omega arith)
          ∙ c.get.ensures d) k lt;
    }
