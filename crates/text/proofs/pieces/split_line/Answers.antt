use Rattle.std.proofs.Common.{refl}
use Rattle.text.proofs.Feeds.{first_line}
use Rattle.text.proofs.pieces.split_line.Goals as goal

pub returns : goal.returns
returns c = first_line c.args.text.now c.in_ok-end.end _ _ c.in_ok-end.ensures refl refl
