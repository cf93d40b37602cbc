-- Counts in pages of PAGE places, each of which is as long as it had to be.
use Rattle.std.specs.Prelude.{ℕ, ◌/◌, ◌%◌, List, [], slice_index, slice_index_or}
use Rattle.lrat_live.specs.declared.pages.TheConstants.{PAGE}

abbrev pub count_in : List (List ℕ) → ℕ → ℕ
count_in pages p = slice_index (slice_index_or pages (p / PAGE) []) (p % PAGE)
