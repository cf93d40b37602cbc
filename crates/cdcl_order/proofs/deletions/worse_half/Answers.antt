use Rattle.std.proofs.Common.{◌≡◌, ◌/◌, length, take, rules}
use Rattle.std.proofs.lemmas.Fn.{always_returns_same}
use Rattle.cdcl_order.specs.Deletions.{is_worse}
use Rattle.cdcl_order.proofs.WorseHalf.{is_worse_half, worse_orders}
use Rattle.cdcl_order.proofs.deletions.worse_half.Goals as goal

pub returns : goal.returns
returns c =
    let all = c.sort_by.ensures in
    let sorted = c.sort_by.new.self.items in
    let by = always_returns_same _ _ _ (λ a r f' k. search rules) in
    let first : c.truncate.new.self.items ≡ take (length sorted / 2) sorted = search rules in
    record {
      half = is_worse_half c.args.clauses.now.items sorted c.truncate.new.self.items all.permutation
          (c.in_ok-sort_by.ensures.sorted is_worse worse_orders by)
          (all.stable is_worse worse_orders by) first;
    }
