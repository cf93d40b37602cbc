-- A line more.
use Rattle.std.proofs.Common.{◌∙◌, ◌∷◌, ◌+◌, ap, sym, drop, rules}
use Rattle.std.proofs.lemmas.List.{drop_more}
use Rattle.explain.specs.Contradicting.{sources_text}
use Rattle.explain_text.proofs.Laws.{leads_on, leads_same}
use Rattle.explain.proofs.contradicting.put_sources.Goals as goal

pub loop-clause_line-preserved : goal.loop-clause_line-preserved
loop-clause_line-preserved g c =
    let i = c.loop-clause_line.clause_line-index in
    let e =
    drop_more c.args.hard.now i c.clause_line-item.result (search rules)
    ∙ ap (λ z. z ∷ drop (i + 1) c.args.hard.now) (sym c.clause_line-item.is) in
    leads_on c.put_source.ensures (leads_same c.loop-clause_line.invariant (ap sources_text e))
