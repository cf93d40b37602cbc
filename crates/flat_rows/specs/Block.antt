-- A block has its places, the right to free them, and a value in each.
use Rattle.std.specs.Prelude.{◌≡◌, ℕ, ◌<◌, ◌^◌, true, false, length, get_or}
use Rattle.flat_rows.specs.declared.block.FlatBlock.TheInside.{Inside}

pub record IsBlock {X : Type 0} (b : Inside X) : Type 0 where
  pub at : b.places.at ≡ b.base
  pub long : length b.places.items ≡ b.count
  pub small : b.count < 2 ^ 63
  pub full : (k : ℕ) → k < b.count → get_or b.places.filled k false ≡ true
  pub deed_at : b.deed.at ≡ b.base
  pub deed_len : b.deed.len ≡ b.count
  pub deed_heap : b.deed.heap ≡ b.alloc
