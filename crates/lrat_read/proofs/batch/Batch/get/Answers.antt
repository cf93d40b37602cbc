-- The line at the place, from its span.
use Rattle.std.proofs.Common.{◌+◌, ◌∷◌, ◌∙◌, ◌<◌, ap, arith, drop, length, sym}
use Rattle.std.proofs.lemmas.List.{length-map}
use Rattle.lrat_read.specs.Plain.{line_in, lines_in}
use Rattle.lrat_read.specs.Reader.{LineState}
use Rattle.lrat_read.proofs.BatchLaws.{line_at}
use Rattle.lrat_read.proofs.batch.Batch.get.Goals as goal

pub returns : goal.returns
returns c =
    let inside = c.self.inside in
    let place = c.args.place in
    let span = c.index-span.result.now in
    let lits = inside.lits.items in
    let hints = inside.hints.items in
    let ss = inside.spans.items in
    let whole = lines_in lits hints ss in
    let view = sym c.self.view_is in
    let within : place < length ss =
    omega (arith, c.requires, ap length view, length-map ss (line_in lits hints)) in
    let one = rw c.deref.ensures.value at c.new.ensures in
    let made = rw c.deref-2.ensures.value at one in
    ap (drop place) view ∙ line_at lits hints ss place span within
    ∙ ap (λ s. line_in lits hints s ∷ drop (place + 1) whole) (sym c.index-span.ensures)
    ∙ ap (λ (l : LineState). record { form = span.form; line = l } ∷ drop (place + 1) whole)
    (sym made)
    ∙ ap (λ vs. record { form = span.form; line = c.new.result } ∷ drop (place + 1) vs) (sym view)
