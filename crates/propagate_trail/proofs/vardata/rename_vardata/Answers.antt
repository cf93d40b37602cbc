use Rattle.std.proofs.Common.{rules}
use Rattle.std.proofs.lemmas.List.{take_all, drop_all}
use Rattle.std.proofs.lemmas.List.Edits.{map_over_more}
use Rattle.propagate_trail.specs.Vardata.{named_var_data}
use Rattle.propagate_trail.proofs.vardata.rename_vardata.Goals as goal

pub loop-data-preserved : goal.loop-data-preserved
loop-data-preserved c = search (map_over_more (named_var_data c.args.moves.now), rules)

pub returns : goal.returns
returns c = search (take_all, drop_all, rules)
