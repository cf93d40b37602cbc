-- What the pieces so far say of all bytes of the reader.
use Rattle.std.proofs.Common.{rules, ◌≡◌, ◌∙◌, [], arith, refl}
use Rattle.std.specs.Io.KnownBytes.{IsAtEnd}
use Rattle.std.proofs.KnownBytes.{Consumes-nil, Consumes-trans}
use Rattle.text.proofs.Laws.{read_nothing}
use Rattle.wcnf.proofs.ParserLaws.{piece_refused, reader_read, reader_read_one}
use Rattle.wcnf.proofs.ParserLaws.{reader_refused, told_at_end}
use Rattle.wcnf.proofs.reading.read_watched.Goals as goal

pub pieces-init : goal.pieces-init
pieces-init g c = ([], c.new-parser.ensures, Consumes-nil _, c.requires, refl)

pub finish-requires : goal.finish-requires
finish-requires g c = let i = c.pieces.invariant in (i.0, i.1)

pub returns-in-Ok-eq0-clause-instance : goal.returns-in-Ok-eq0-clause-instance
returns-in-Ok-eq0-clause-instance g c =
    let i = c.pieces.invariant in
    let zero : c.in-Ok-eq0.field-0 ≡ 0 = first_of (omega arith, search rules, cc) in
    let end : IsAtEnd (g.R.Read.remaining (c.read.new.self).reader.now) = search rules in
    reader_read _ _ i.0 c.pieces.parser c.finish.result
    (read_nothing _ _ _ i.0 _ c.in-Ok-eq0.field-0 i.2 c.in-Ok-eq0.ensures.bytes.0 zero) end i.1
    c.finish.ensures.instance

pub returns-in-Ok-eq0-clause-only_one : goal.returns-in-Ok-eq0-clause-only_one
returns-in-Ok-eq0-clause-only_one g c =
    let i = c.pieces.invariant in
    let zero : c.in-Ok-eq0.field-0 ≡ 0 = first_of (omega arith, search rules, cc) in
    let end : IsAtEnd (g.R.Read.remaining (c.read.new.self).reader.now) = search rules in
    reader_read_one _ _ i.0 c.pieces.parser c.finish.result
    (read_nothing _ _ _ i.0 _ c.in-Ok-eq0.field-0 i.2 c.in-Ok-eq0.ensures.bytes.0 zero) end i.1
    c.finish.ensures.instance

pub returns-in-Ok-eq0-clause-fault : goal.returns-in-Ok-eq0-clause-fault
returns-in-Ok-eq0-clause-fault g c =
    let i = c.pieces.invariant in
    let zero : c.in-Ok-eq0.field-0 ≡ 0 = first_of (omega arith, search rules, cc) in
    let end : IsAtEnd (g.R.Read.remaining (c.read.new.self).reader.now) = search rules in
    reader_refused _ _ _ i.0 c.pieces.parser c.finish.result
    (read_nothing _ _ _ i.0 _ c.in-Ok-eq0.field-0 i.2 c.in-Ok-eq0.ensures.bytes.0 zero) end i.1
    c.finish.ensures.fault

pub returns-in-Ok-eq0-clause-whole : goal.returns-in-Ok-eq0-clause-whole
returns-in-Ok-eq0-clause-whole g c =
    let zero : c.in-Ok-eq0.field-0 ≡ 0 = first_of (omega arith, search rules, cc) in
    let end : IsAtEnd (g.R.Read.remaining (c.read.new.self).reader.now) = search rules in
    told_at_end _ c.finish.result end

pub returns-in-Err-feed-clause-fault : goal.returns-in-Err-feed-clause-fault
returns-in-Err-feed-clause-fault g c =
    let i = c.pieces.invariant in
    piece_refused _ _ _ _ i.0 _ c.pieces.parser _ i.2 c.in-Ok.ensures.bytes.0 i.1
    c.in-Err-feed.ensures.fault

pub pieces-preserved : goal.pieces-preserved
pieces-preserved g c =
    let i = c.pieces.invariant in (
      _,
      c.in_default.ensures.read i.0 i.1,
      Consumes-trans _ _ _ i.0 _ i.2 c.in-Ok.ensures.bytes.0,
      c.in-Ok.ensures.failed,
      c.in-Ok.ensures.reader ∙ i.4,
    )
