use Rattle.std.proofs.Common.{◌∙◌, ap, slice_range, subst, sym}
use Rattle.std.specs.Str.{bytes_eq}
use Rattle.lrat_read.specs.Words.{IsAfterPlus}
use Rattle.lrat_read.proofs.Ends.{plus_at}
use Rattle.lrat_read.proofs.words.after_plus.Goals as goal

pub returns : goal.returns
returns c =
    let line = c.args.line.now in
    let start = c.skip_blanks-start in
    let end = c.token_end-end in
    subst (IsAfterPlus line c.args.at) (sym c.then_some.ensures)
    (plus_at line c.args.at start.result end.result start.ensures.tokens start.ensures.within
    start.ensures.stops end.ensures.from end.ensures.within end.ensures.solid end.ensures.stops
    c.eq.result (c.eq.ensures
    ∙ ap (bytes_eq (slice_range line start.result end.result)) c.as_slice.ensures))
