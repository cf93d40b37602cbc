-- A line more, which begins a block or stands in one.
use Rattle.std.proofs.Common.{◌≡◌, ◌*◌, ◌<◌, length, rules, arith}
use Rattle.std.proofs.lemmas.Result.{IfOk-from_err}
use Rattle.lrat_log.specs.Heads.{near_head}
use Rattle.lrat_log.proofs.NearWords.{block_begun, block_more, same_head}
use Rattle.lrat_log.proofs.heads.push_near.Goals as goal

pub returns-then-block-len-clause-ok : goal.returns-then-block-len-clause-ok
returns-then-block-len-clause-ok c =
    let lines : c.len-block.result ≡ length c.args.near.now.items = search rules in
    let blocks : c.len.result ≡ length c.args.bases.now.items = search rules in
    let full : length c.args.near.now.items ≡ 32 * length c.args.bases.now.items =
    omega (arith, c.if-block-len.true) in
    rw (c.in_ok-push.ensures.items, c.in_ok-push-2.ensures.items, c.in_ok-reserve.ensures.items)
    (block_begun c.args.bases.now.items c.args.near.now.items c.args.head c.number.result full
    c.number.ensures.number c.number.ensures.small)

pub returns-clause-ok : goal.returns-clause-ok
returns-clause-ok c =
    let lines : c.len-block.result ≡ length c.args.near.now.items = search rules in
    let blocks : c.len.result ≡ length c.args.bases.now.items = search rules in
    let room : length c.args.near.now.items < 32 * length c.args.bases.now.items =
    omega (arith, c.if-block-len.false) in
    let base = rw lines at c.index.ensures in
    let head = same_head (near_head c.index.result.now c.in-Some.word) c.args.head
    c.in-Some.ensures.kind c.in-Some.ensures.lits c.in-Some.ensures.hints in
    rw c.in_ok-push-3.ensures.items
    (block_more c.args.bases.now.items c.args.near.now.items c.args.head c.index.result.now
    c.in-Some.word room base head)

pub returns-in_err-reserve-clause-ok : goal.returns-in_err-reserve-clause-ok
returns-in_err-reserve-clause-ok c =
    IfOk-from_err c.from_residual.result _ c.from_residual.ensures.0

pub returns-in_err-push-clause-ok : goal.returns-in_err-push-clause-ok
returns-in_err-push-clause-ok c =
    IfOk-from_err c.from_residual-in_err-push.result _ c.from_residual-in_err-push.ensures.0

pub returns-in_err-push-2-clause-ok : goal.returns-in_err-push-2-clause-ok
returns-in_err-push-2-clause-ok c =
    IfOk-from_err c.from_residual-in_err-push-2.result _ c.from_residual-in_err-push-2.ensures.0

pub returns-in_err-push-3-clause-ok : goal.returns-in_err-push-3-clause-ok
returns-in_err-push-3-clause-ok c =
    IfOk-from_err c.from_residual-in_err-push-3.result _ c.from_residual-in_err-push-3.ensures.0
