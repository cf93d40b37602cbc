-- The line of a head has its kind.
use Rattle.std.proofs.Common.{◌<◌, length, rules}
use Rattle.lrat_log.proofs.Flat.{kind-line_at, below_heads}
use Rattle.lrat_log.proofs.log.Log.kind.Goals as goal

pub get-requires : goal.get-requires
get-requires c =
    let h : c.args.line < length c.self.inside.heads =
    below_heads _ _ _ _ _ c.self.view_is c.requires in search rules

pub returns : goal.returns
returns c =
    let h : c.args.line < length c.self.inside.heads =
    below_heads _ _ _ _ _ c.self.view_is c.requires in
    rw (← c.self.view_is) (kind-line_at 0 0 c.self.inside.heads c.self.inside.lits.items
    c.self.inside.hints c.args.line c.get.result h c.get.ensures)
