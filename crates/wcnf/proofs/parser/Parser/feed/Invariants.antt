-- What is left of the piece, and what the lines before it make.
use Rattle.std.proofs.Common.{length}
use Rattle.text.specs.Pieces.{HasTaken}
use Rattle.wcnf.specs.Parsing.{HasRead}
use Rattle.wcnf.proofs.parser.Parser.feed.Given as goal

abbrev pub invariant-loop-end : goal.invariant-loop-end
invariant-loop-end l = HasTaken (HasRead l.fn.self) (HasRead l.self) l.piece l.left

abbrev pub decreases-loop-end : goal.decreases-loop-end
decreases-loop-end l = length l.left
