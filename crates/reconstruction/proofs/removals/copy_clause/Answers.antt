-- A refused growth leaves the pieces.
use Rattle.std.proofs.Common.{[]}
use Rattle.reconstruction.specs.Flat.{AddsClauses}
use Rattle.lrat_log.proofs.Laws.{when_err}
use Rattle.reconstruction.proofs.StackPieces.{adds_none, adds_longer}
use Rattle.reconstruction.proofs.removals.copy_clause.Goals as goal

pub returns-in_err-start-clause-err : goal.returns-in_err-start-clause-err
returns-in_err-start-clause-err c =
    when_err _ (adds_none c.args.pieces.now.items c.args.literals.now.items)

pub returns-in_err-extend_from_slice-clause-err : goal.returns-in_err-extend_from_slice-clause-err
returns-in_err-extend_from_slice-clause-err c =
    let same : AddsClauses c.args.pieces.now.items c.args.pieces.now.items c.args.literals.now.items
    c.extend_from_slice.new.self.items [] =
    rw c.in_err-extend_from_slice.ensures.items
    (adds_none c.args.pieces.now.items c.args.literals.now.items) in
    when_err _ same

pub returns-in_err-end-clause-err : goal.returns-in_err-end-clause-err
returns-in_err-end-clause-err c =
    let longer : AddsClauses c.args.pieces.now.items c.args.pieces.now.items
    c.args.literals.now.items c.extend_from_slice.new.self.items [] =
    rw c.in_ok-extend_from_slice.ensures.items
    (adds_longer c.args.pieces.now.items c.args.literals.now.items c.args.clause.now) in
    when_err _ longer

pub returns-in_err-push-clause-err : goal.returns-in_err-push-clause-err
returns-in_err-push-clause-err c =
    let longer : AddsClauses c.args.pieces.now.items c.push.new.self.items c.args.literals.now.items
    c.extend_from_slice.new.self.items [] =
    rw (c.in_err-push.ensures.items, c.in_ok-extend_from_slice.ensures.items)
    (adds_longer c.args.pieces.now.items c.args.literals.now.items c.args.clause.now) in
    when_err _ longer
