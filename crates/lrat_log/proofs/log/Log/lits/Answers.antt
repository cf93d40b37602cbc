-- The literals of a line lie between the ends of two heads.
use Rattle.std.proofs.Common.{◌∙◌, arith}
use Rattle.lrat_log.specs.Log.{line_at}
use Rattle.lrat_log.specs.Flat.{lines_from}
use Rattle.lrat_log.proofs.Flat.{below_heads, clause-line_at, Placed}
use Rattle.lrat_log.proofs.log.Log.lits.Goals as goal
use Rattle.lrat_log.proofs.log.Log.lits.Goals.{After-find_ends-end}

pub find_ends-start-requires : goal.find_ends-start-requires
find_ends-start-requires c =
    omega (arith, below_heads _ _ _ _ _ c.self.view_is c.requires)

pub find_ends-end-requires : goal.find_ends-end-requires
find_ends-end-requires c =
    omega (arith, below_heads _ _ _ _ _ c.self.view_is c.requires)

placed : (c : After-find_ends-end)
    → Placed c.self.inside.lits.items c.find_ends-start.result.0 c.find_ends-end.result.0
    (line_at (lines_from 0 0 c.self.inside.heads c.self.inside.lits.items
    c.self.inside.hints) c.args.line).clause
placed c =
    let h = below_heads _ _ _ _ _ c.self.view_is c.requires in
    clause-line_at _ _ _ _ _ _ c.self.invariant.ends h c.find_ends-start.ensures.lits
    c.find_ends-end.ensures.lits

pub cut_out-requires : goal.cut_out-requires
cut_out-requires c =
    let p = placed (goal.at.cut_out-requires c).After-find_ends-end in
    rw c.deref.ensures.value (p.rising, p.within)

pub returns : goal.returns
returns c =
    let p = placed (goal.at.returns c).After-find_ends-end in
    rw (← c.self.view_is) (rw c.deref.ensures.value at c.cut_out.ensures ∙ p.part_is)
