-- The buffers with the lines in them are the vectors' own again.
use Rattle.std.proofs.Common.{◌++◌, ◌∙◌, IfOk, ap, drop, length, subst, sym, take}
use Rattle.lrat_read.specs.Batch.{AreRead}
use Rattle.lrat_read.specs.Plain.{lines_in}
use Rattle.lrat_read.proofs.BatchLaws.{written_back}
use Rattle.lrat_read.proofs.batch.Batch.read.Goals as goal

pub returns-clause-read : goal.returns-clause-read
returns-clause-read c =
    let room = c.make_room.new in
    let lits = c.read_lines.new.lits in
    let hints = c.read_lines.new.hints in
    let spans = c.read_lines.new.spans.items in
    let read = c.read_lines.ensures in
    let wl = written_back lits room.lits.items room.lits.len
    (sym (read.lits ∙ c.deref_mut.ensures.len)) in
    let wh = written_back hints room.hints.items room.hints.len
    (sym (read.hints ∙ c.deref_mut-2.ensures.len)) in
    subst (λ ls. IfOk c.read_lines.result (λ count. AreRead (take count c.args.text.now) ls))
    (ap (λ xs. lines_in xs hints spans) (sym wl)
    ∙ ap (λ xs. lines_in (take room.lits.len (lits ++ drop (length lits) room.lits.items)) xs spans)
    (sym wh)) read.read
