-- The word has a byte.
use Rattle.std.proofs.Common.{sym, ◌∙◌}
use Rattle.explain_text.proofs.Words.{word_with}
use Rattle.explain_text.proofs.Sheets.{more}
use Rattle.explain_text.proofs.mending.put_word.Goals as goal

pub returns : goal.returns
returns g c =
    rw (word_with c.args.column c.args.word.now (sym c.is_empty.ensures ∙ c.if-is_empty.false))
    (more c.put_place.ensures (more c.put_cut.ensures c.put.ensures))
