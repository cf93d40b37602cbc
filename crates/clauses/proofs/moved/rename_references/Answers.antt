use Rattle.std.proofs.Common.{rules}
use Rattle.std.proofs.lemmas.List.{take_all, drop_all}
use Rattle.std.proofs.lemmas.List.Edits.{map_over_more}
use Rattle.clauses.specs.Moved.{named}
use Rattle.clauses.proofs.moved.rename_references.Goals as goal

pub loop-reference-preserved : goal.loop-reference-preserved
loop-reference-preserved c = search (map_over_more (named c.args.moves.now), rules)

pub returns : goal.returns
returns c = search (take_all, drop_all, rules)
