-- The parser has read the text.
use Rattle.std.proofs.lemmas.Result.{err_from_is_err_and, IfOk-weaker}
use Rattle.wcnf.proofs.Texts.{reads_one}
use Rattle.wcnf.proofs.ParserLaws.{text_refused, end_refused}
use Rattle.wcnf.proofs.reading.read.Goals as goal

pub returns-in_err-feed-clause-fault : goal.returns-in_err-feed-clause-fault
returns-in_err-feed-clause-fault c =
    let p = err_from_is_err_and c.from_residual.result c.from_residual.ensures.1 in
    rw (p.1, p.2) (text_refused c.new-parser.result c.args.text.now _ c.new-parser.ensures
    c.in_err-feed.ensures.fault)

pub finish-requires : goal.finish-requires
finish-requires c = (c.args.text.now, c.in_ok-feed.ensures.read _ c.new-parser.ensures)

pub returns-clause-instance : goal.returns-clause-instance
returns-clause-instance c =
    let s = c.in_ok-feed.ensures.read _ c.new-parser.ensures in
    IfOk-weaker c.finish.result _ _ (λ i h. h c.args.text.now s) c.finish.ensures.instance

pub returns-clause-only_one : goal.returns-clause-only_one
returns-clause-only_one c =
    let s = c.in_ok-feed.ensures.read _ c.new-parser.ensures in
    IfOk-weaker c.finish.result _ _
    (λ i h p r. reads_one c.args.text.now p i r (h c.args.text.now s)) c.finish.ensures.instance

pub returns-clause-fault : goal.returns-clause-fault
returns-clause-fault c =
    end_refused c.feed.new.self c.args.text.now c.finish.result
    (c.in_ok-feed.ensures.read _ c.new-parser.ensures) c.finish.ensures.fault
