-- Whoever puts the names of the lines that are left has put all.
use Rattle.std.proofs.Common.{length}
use Rattle.std.specs.List.{flat_map}
use Rattle.text.specs.Text.{tokens_of}
use Rattle.explain.specs.Names.{name_text, names_text}
use Rattle.explain_text.proofs.Laws.{Leads}
use Rattle.explain.proofs.names.put_names.Given as goal

abbrev pub invariant-loop-numbered : goal.invariant-loop-numbered
invariant-loop-numbered g l =
    Leads (g.W.Write.contents l.initial.writer) l.initial.sheet (names_text l.bits l.text)
    (flat_map (λ n. name_text l.bits (tokens_of n.1)) l.rest) (g.W.Write.contents l.writer) l.sheet

abbrev pub decreases-loop-numbered : goal.decreases-loop-numbered
decreases-loop-numbered g l = length l.rest
