-- The parser has read those bytes, and no read has failed.
use Rattle.std.proofs.Common.{◌≡◌, ℕ, ◌-◌, ◌^◌, List, false}
use Rattle.std.specs.Io.KnownBytes.{Consumes}
use Rattle.wcnf.specs.Parsing.{HasRead}
use Rattle.wcnf.proofs.reading.read_watched.Given as goal

abbrev pub invariant-pieces : goal.invariant-pieces
invariant-pieces g l =
    (bytes : List ℕ) × HasRead l.parser bytes
    × Consumes (g.R.Read.remaining (l.fn.reader).reader.now)
    (g.R.Read.remaining (l.reader).reader.now) bytes × ((l.reader).has_failed ≡ false)
    × ((l.reader).reader.ghost_name ≡ (l.fn.reader).reader.ghost_name)

abbrev pub decreases-pieces : goal.decreases-pieces
decreases-pieces g l = 2 ^ 64 - (l.reader).reads
