-- The hints of a line lie between the ends of two heads.
use Rattle.std.proofs.Common.{◌∙◌, arith}
use Rattle.lrat_log.specs.Log.{line_at}
use Rattle.lrat_log.specs.Flat.{lines_from}
use Rattle.lrat_log.proofs.Flat.{below_heads, hints-line_at, Placed}
use Rattle.lrat_log.proofs.log.Log.packed_hints.Goals as goal
use Rattle.lrat_log.proofs.log.Log.packed_hints.Goals.{After-find_ends-end}

pub find_ends-start-requires : goal.find_ends-start-requires
find_ends-start-requires c =
    omega (arith, below_heads _ _ _ _ _ c.self.view_is c.requires)

pub find_ends-end-requires : goal.find_ends-end-requires
find_ends-end-requires c =
    omega (arith, below_heads _ _ _ _ _ c.self.view_is c.requires)

placed : (c : After-find_ends-end)
    → Placed c.self.inside.hints c.find_ends-start.result.1 c.find_ends-end.result.1
    (line_at (lines_from 0 0 c.self.inside.heads c.self.inside.lits.items
    c.self.inside.hints) c.args.line).hints
placed c =
    let h = below_heads _ _ _ _ _ c.self.view_is c.requires in
    hints-line_at _ _ _ _ _ _ c.self.invariant.ends h c.find_ends-start.ensures.hints
    c.find_ends-end.ensures.hints

pub part-requires : goal.part-requires
part-requires c =
    let p = placed (goal.at.part-requires c).After-find_ends-end in
    (p.rising, p.within)

pub returns-clause-hints : goal.returns-clause-hints
returns-clause-hints c =
    let p = placed (goal.at.returns-clause-hints c).After-find_ends-end in
    rw (← c.self.view_is) (c.part.ensures ∙ p.part_is)
