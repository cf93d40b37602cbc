-- What the piece leaves: after a line of it, after its last bytes, and at a fault.
use Rattle.std.proofs.Common.{refl, ◌++◌, ◌∷◌, []}
use Rattle.text.specs.Text.{IsNoFeed}
use Rattle.std.proofs.lemmas.Result.{err_from_is_err_and}
use Rattle.text.proofs.Laws.{taken-nothing, taken-on}
use Rattle.wcnf.specs.Parsing.{HasRead}
use Rattle.wcnf.proofs.ParserLaws.{rest_kept, refused_later}
use Rattle.wcnf.proofs.parser.Parser.feed.Goals as goal

pub loop-end-init : goal.loop-end-init
loop-end-init c = taken-nothing (HasRead c.args.self.now) c.args.piece.now

pub loop-end-preserved : goal.loop-end-preserved
loop-end-preserved c =
    taken-on (HasRead c.args.self.now) (HasRead c.loop-end.self) (HasRead c.end_line.new.self)
    c.args.piece.now c.loop-end.left.now (c.in-Some.end.now ++ 10 ∷ []) c.in-Some.after.now
    c.loop-end.invariant c.in-Some.ensures.split c.in_ok-end_line.ensures.read

pub returns-in_err-end_line-clause-fault : goal.returns-in_err-end_line-clause-fault
returns-in_err-end_line-clause-fault c =
    let p = err_from_is_err_and c.from_residual.result c.from_residual.ensures.1 in
    rw (p.1, p.2) (refused_later c.args.self.now c.loop-end.self c.args.piece.now
    c.loop-end.left.now (c.in-Some.end.now ++ 10 ∷ []) c.in-Some.after.now _
    c.loop-end.invariant c.in-Some.ensures.split c.in_err-end_line.ensures.fault)

pub returns-in-Ok-clause-read : goal.returns-in-Ok-clause-read
returns-in-Ok-clause-read c =
    let none : IsNoFeed c.loop-end.left.now = c.in_default.ensures in
    rest_kept c.args.self.now c.loop-end.self _ c.args.piece.now c.loop-end.left.now
    c.loop-end.invariant none refl refl c.in-Ok.ensures.kept
