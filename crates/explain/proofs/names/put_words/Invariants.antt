-- Whoever puts the words that are left has put all.
use Rattle.std.proofs.Common.{length}
use Rattle.explain.specs.Names.{words_text}
use Rattle.explain_text.proofs.Laws.{Leads}
use Rattle.explain.proofs.names.put_words.Given as goal

abbrev pub invariant-loop-word : goal.invariant-loop-word
invariant-loop-word g l =
    Leads (g.W.Write.contents l.initial.writer) l.initial.sheet (words_text l.initial.rest)
    (words_text l.rest) (g.W.Write.contents l.writer) l.sheet

abbrev pub decreases-loop-word : goal.decreases-loop-word
decreases-loop-word g l = length l.rest
