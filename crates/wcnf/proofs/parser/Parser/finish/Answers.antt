-- The draft is that of all lines.
use Rattle.std.proofs.lemmas.Result.{err_from_is_err_and, IfOk-weaker}
use Rattle.wcnf.proofs.ParserLaws.{same_end}
use Rattle.wcnf.proofs.parser.Parser.finish.Goals as goal

pub returns-in_err-end_text-clause-fault : goal.returns-in_err-end_text-clause-fault
returns-in_err-end_text-clause-fault c =
    let p = err_from_is_err_and c.from_residual.result c.from_residual.ensures.1 in
    rw (p.1, p.2) (c.in_err-end_text.ensures.fault)

pub finish_draft-requires : goal.finish_draft-requires
finish_draft-requires c =
    let (bytes, s) = c.requires in (bytes, c.in_ok-end_text.ensures.ends bytes s)

pub returns-clause-instance : goal.returns-clause-instance
returns-clause-instance c =
    IfOk-weaker c.finish_draft.result _ _
    (λ i h bytes s. h bytes (c.in_ok-end_text.ensures.ends bytes s))
    c.finish_draft.ensures.instance

pub returns-clause-fault : goal.returns-clause-fault
returns-clause-fault c =
    same_end c.args.self _ c.finish_draft.result c.in_ok-end_text.ensures.ends
    c.finish_draft.ensures.fault
