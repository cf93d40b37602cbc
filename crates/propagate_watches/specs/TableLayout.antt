-- A list of attachments, kept as two lists: the tag of each, and the two literals that its
-- clause watches.
use Rattle.std.specs.Prelude.{List}
use Rattle.clauses.specs.Zipped.{zipped}
use Rattle.propagate_watches.specs.declared.table.Attachment.{Attachment}
use Rattle.propagate_watches.specs.declared.table.Tag.{Tag}
use Rattle.propagate_watches.specs.declared.table.Tag.TheVariants.{Detached, Waiting, Satisfied}
use Rattle.propagate_watches.specs.declared.table.Tag.TheVariants.{Watching}
use Rattle.propagate_watches.specs.declared.table.Pair.{Pair}

abbrev pub attachment_of : Tag → Pair → Attachment
attachment_of Detached p = Attachment.Detached
attachment_of Waiting p = Attachment.Waiting
attachment_of Satisfied p = Attachment.Satisfied
attachment_of Watching p = Attachment.Watching p.one p.other p.rest

abbrev pub attachments : List Tag → List Pair → List Attachment
attachments ks ps = zipped attachment_of ks ps
