-- This clause needs it.
use Rattle.std.proofs.Common.{◌≡◌, sym, true, get_or, subst}
use Rattle.cnf.specs.Literal.{Literal}
use Rattle.cnf.specs.Bits.{assignment_of}
use Rattle.reconstruction.specs.declared.removals.Piece.{Piece}
use Rattle.reconstruction.specs.Removals.{is_needed}
use Rattle.reconstruction.specs.Flat.{clause_in}
use Rattle.reconstruction.proofs.Needed.{needed_at}
use Rattle.reconstruction.proofs.removals.some_needed.Goals as goal

pub returns-then-is_needed : goal.returns-then-is_needed
returns-then-is_needed c =
    let none : Piece = record { start = 0; end = 0 } in
    let i = c.loop-piece.piece-index in
    sym (needed_at (assignment_of c.args.bits.now) c.args.variable c.args.literals.now
    c.args.pieces.now i none c.loop-piece-test.true
    (subst (λ (x : Literal). is_needed (assignment_of c.args.bits.now) x
    (clause_in c.args.literals.now (get_or c.args.pieces.now i none)) ≡ true)
    c.new-literal.ensures (sym c.if-is_needed.ensures)))
