-- Rows of entries, in the words of the block in which they lie.
pub use Rattle.flat_rows.specs.Rows.{row_at, with_row, closed_row}
