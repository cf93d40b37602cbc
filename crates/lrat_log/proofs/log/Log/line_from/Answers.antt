-- The line lies between the ends of the line before and its own.
use Rattle.std.proofs.Common.{◌∙◌, ◌<◌, length, ap, sym}
use Rattle.lrat_log.specs.Log.{line_at}
use Rattle.lrat_log.specs.Flat.{lines_from, lits_on, hints_on}
use Rattle.lrat_log.proofs.Flat.{Placed, below_heads, kind-line_at, lits_from, lits_to}
use Rattle.lrat_log.proofs.Flat.{hints_from, hints_to}
use Rattle.lrat_log.proofs.log.Log.line_from.Goals as goal
use Rattle.lrat_log.proofs.log.Log.line_from.Goals.{After-get-head}

below : (c : After-get-head) → c.args.line < length c.self.inside.heads
below c = below_heads _ _ _ _ _ c.self.view_is c.requires.line

lits : (c : After-get-head)
    → Placed c.self.inside.lits.items c.args.start.lits c.get-head.result.lits_end
    (line_at (lines_from 0 0 c.self.inside.heads c.self.inside.lits.items c.self.inside.hints)
    c.args.line).clause
lits c =
    lits_from _ _ _ c.args.line c.get-head.result c.self.invariant.ends (below c)
    c.get-head.ensures c.args.start.lits
    (c.requires.lits ∙ ap (λ ls. lits_on ls c.args.line) (sym c.self.view_is))

hints : (c : After-get-head)
    → Placed c.self.inside.hints c.args.start.hints c.get-head.result.hints_end
    (line_at (lines_from 0 0 c.self.inside.heads c.self.inside.lits.items c.self.inside.hints)
    c.args.line).hints
hints c =
    hints_from _ _ _ c.args.line c.get-head.result c.self.invariant.ends (below c)
    c.get-head.ensures c.args.start.hints
    (c.requires.hints ∙ ap (λ ls. hints_on ls c.args.line) (sym c.self.view_is))

pub get-head-requires : goal.get-head-requires
get-head-requires c = below_heads _ _ _ _ _ c.self.view_is c.requires.line

pub cut_out-requires : goal.cut_out-requires
cut_out-requires c =
    let p = lits (goal.at.cut_out-requires c).After-get-head in
    rw c.deref.ensures.value (p.rising, p.within)

pub part-requires : goal.part-requires
part-requires c =
    let p = hints (goal.at.part-requires c).After-get-head in (p.rising, p.within)

pub returns-clause-line : goal.returns-clause-line
returns-clause-line c =
    let at = (goal.at.returns-clause-line c).After-get-head in
    let kind =
    kind-line_at 0 0 c.self.inside.heads c.self.inside.lits.items c.self.inside.hints c.args.line
    c.get-head.result (below at) c.get-head.ensures in
    let clause = rw c.deref.ensures.value at c.cut_out.ensures ∙ (lits at).part_is in
    let hints = c.part.ensures ∙ (hints at).part_is in
    rw (← c.self.view_is)
    (λ i. record { kind = kind i; clause = clause i; hints = hints i })

pub returns-clause-lits : goal.returns-clause-lits
returns-clause-lits c =
    let at = (goal.at.returns-clause-lits c).After-get-head in
    rw (← c.self.view_is)
    (lits_to _ _ _ c.args.line c.get-head.result c.self.invariant.ends (below at)
    c.get-head.ensures)

pub returns-clause-hints : goal.returns-clause-hints
returns-clause-hints c =
    let at = (goal.at.returns-clause-hints c).After-get-head in
    rw (← c.self.view_is)
    (hints_to _ _ _ c.args.line c.get-head.result c.self.invariant.ends (below at)
    c.get-head.ensures)
