-- The comment has a byte.
use Rattle.std.proofs.Common.{sym, ◌∙◌}
use Rattle.explain.proofs.Comments.{comment_with}
use Rattle.explain_text.proofs.Laws.{more}
use Rattle.explain.proofs.putting.put_comment.Goals as goal

pub returns : goal.returns
returns g c =
    rw (comment_with c.args.comment.now (sym c.is_empty.ensures ∙ c.if-is_empty.false))
    (more c.put.ensures (more c.put_shown.ensures c.put-2.ensures))
