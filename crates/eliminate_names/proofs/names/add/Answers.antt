-- A log of few lines has few additions.
use Rattle.std.proofs.Common.{◌≡◌, ap, ◌∙◌, arith}
use Rattle.lrat_log.specs.Steps.{added_count}
use Rattle.eliminate_names.specs.Work.{NamesState}
use Rattle.lrat_log.proofs.Laws.{additions_few}
use Rattle.eliminate_names.proofs.names.add.Goals as goal

pub overflow_add-names-inside : goal.overflow_add-names-inside
overflow_add-names-inside g c =
    let ls = g.S.Sink.lines c.args.sink.now in
    let counted : c.names.inside.additions ≡ added_count ls =
    ap (λ (n : NamesState). n.additions) c.names.view_is ∙ c.requires.counted in
    omega (arith, additions_few ls, c.is_short.ensures)

pub new-requires-clause-small : goal.new-requires-clause-small
new-requires-clause-small g c =
    let ls = g.S.Sink.lines c.args.sink.now in
    let counted : c.names.inside.additions ≡ added_count ls =
    ap (λ (n : NamesState). n.additions) c.names.view_is ∙ c.requires.counted in
    omega (arith, additions_few ls, c.is_short.ensures)
