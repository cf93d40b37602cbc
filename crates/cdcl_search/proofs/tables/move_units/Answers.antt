use Rattle.std.proofs.Common.{◌≡◌, map, None, get_or, rules, ap, ◌∙◌}
use Rattle.std.proofs.lemmas.List.{take_all, drop_all}
use Rattle.std.proofs.Math.ListN.{get_or-map}
use Rattle.std.proofs.lemmas.List.Edits.{map_over_more}
use Rattle.propagate.specs.Fits.{renamed_reason}
use Rattle.cdcl_search.proofs.tables.move_units.Goals as goal

pub loop-unit-preserved : goal.loop-unit-preserved
loop-unit-preserved c = search (map_over_more (renamed_reason c.args.moves.now), rules)

pub returns-clause-moved : goal.returns-clause-moved
returns-clause-moved c v =
    let all : c.loop-unit.units ≡ map (renamed_reason c.args.moves.now) c.args.units.now =
    search (take_all, drop_all, rules) in
    ap (λ us. get_or us v None) all
    ∙ get_or-map (renamed_reason c.args.moves.now) c.args.units.now v None
