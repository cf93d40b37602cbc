-- Hash chains in vectors. A key's bucket has the newest of its keys at its head, and each key is
-- linked to the next older one of its bucket. Places count from 1, and 0 is none.
use Rattle.std.specs.Prelude.{◌≡◌, ℕ, zero, suc, ◌-◌, ◌/◌, ◌<◌, Bool, List, [], ◌∷◌, length, take}
use Rattle.std.specs.Prelude.{◌==◌, bit_and, bit_xor, slice_index, if◌then◌else◌}

-- all bits of a key, folded into its low ones
abbrev pub folded : ℕ → ℕ
folded key =
    bit_xor (bit_xor (bit_xor key (key / 65536)) (key / 4294967296)) (key / 281474976710656)

abbrev pub bucket_of : ℕ → ℕ → ℕ
bucket_of buckets key = bit_and (folded key) (buckets - 1)

abbrev pub is_in_bucket : ℕ → ℕ → ℕ → Bool
is_in_bucket buckets bucket key = bucket_of buckets key == bucket

-- the place of the last key that passes
abbrev pub newest : (ℕ → Bool) → List ℕ → ℕ
newest test [] = 0
newest test (k ∷ ks) = after (newest test ks)
  where
    after : ℕ → ℕ
    after zero = if test k then 1 else 0
    after (suc n) = suc (suc n)

-- the place of a key
abbrev pub place_of : ℕ → List ℕ → ℕ
place_of key keys = newest (λ k. k == key) keys

pub record IsChained (buckets : ℕ) (heads keys nexts : List ℕ) : Type 0 where
  pub all : length heads ≡ buckets
  pub heads_at : (b : ℕ) → b < buckets → slice_index heads b ≡ newest (is_in_bucket buckets b) keys
  pub nexts_at : (i : ℕ) → i < length keys
      → slice_index nexts i
      ≡ newest (is_in_bucket buckets (bucket_of buckets (slice_index keys i))) (take i keys)
