-- The stamps stay, and those that are new are no literal's.
use Rattle.std.proofs.Common.{◌*◌, arith}
use Rattle.cnf.proofs.Unstamped.{after_growth}
use Rattle.cnf.proofs.marks.Marks.grow.Goals as goal

pub returns : goal.returns
returns c =
    after_growth c.resize.result c.self.inside.present (2 * c.args.vars) c.self.inside.stamps.len
    c.self.inside.stamps.items c.resize.new.self.items c.args.self.now c.self.invariant.0
    (omega (arith, c.self.inside.stamps.ok.0)) c.self.view_is c.requires c.resize.ensures.items
