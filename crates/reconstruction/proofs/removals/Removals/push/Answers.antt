-- One variable more, with its clauses.
use Rattle.std.proofs.Common.{◌∙◌, ◌++◌, ◌∷◌, [], sym, ap, subst, arith}
use Rattle.reconstruction.specs.declared.removals.Gone.{Gone}
use Rattle.reconstruction.specs.Flat.{removed_in, AreRemovals}
use Rattle.clauses.specs.Slots.{clauses_under}
use Rattle.reconstruction.proofs.StackPieces.{removed_in-push, removals_grown}
use Rattle.reconstruction.proofs.StackPieces.{removals_pushed}
use Rattle.reconstruction.proofs.removals.Removals.push.Goals as goal

pub returns : goal.returns
returns c =
    let s = c.self.inside in
    let ps = c.copy_clauses.new.pieces.items in
    let ls = c.copy_clauses.new.literals.items in
    let cs = clauses_under c.args.store.now.slots c.args.references.now in
    let g : Gone =
    record { variable = c.args.variable; start = c.in_ok-start.start; end = c.in_ok-end.end } in
    ap (λ gs. removed_in gs ps ls) c.in_ok-push.ensures.items
    ∙ removed_in-push s.gone.items s.pieces.items ps s.literals.items ls cs c.self.invariant
    c.in_ok-copy_clauses.ensures.ok g
    (omega (arith, c.in_ok-start.ensures, c.len.ensures, s.pieces.ok.0))
    (omega (arith, c.in_ok-end.ensures, c.len-2.ensures, c.copy_clauses.new.pieces.ok.0))
    ∙ ap (λ xs. xs ++ record { variable = c.args.variable; clauses = cs } ∷ []) c.self.view_is

pub invariant_of-self : goal.invariant_of-self
invariant_of-self c =
    let s = c.self.inside in
    removals_grown s.gone.items s.pieces.items c.copy_clauses.new.pieces.items s.literals.items
    c.copy_clauses.new.literals.items _ c.self.invariant (c.in_err-copy_clauses.ensures.err).1

pub invariant_of-self-in_err-end : goal.invariant_of-self-in_err-end
invariant_of-self-in_err-end c =
    let s = c.self.inside in
    removals_grown s.gone.items s.pieces.items c.copy_clauses.new.pieces.items s.literals.items
    c.copy_clauses.new.literals.items _ c.self.invariant c.in_ok-copy_clauses.ensures.ok

pub invariant_of-self-2 : goal.invariant_of-self-2
invariant_of-self-2 c =
    let s = c.self.inside in
    let ps = c.copy_clauses.new.pieces.items in
    let ls = c.copy_clauses.new.literals.items in
    let g : Gone =
    record { variable = c.args.variable; start = c.in_ok-start.start; end = c.in_ok-end.end } in
    subst (λ gs. AreRemovals gs ps ls) (sym c.in_ok-push.ensures.items)
    (removals_pushed s.gone.items s.pieces.items ps s.literals.items ls _ c.self.invariant
    c.in_ok-copy_clauses.ensures.ok g c.requires.from_one c.requires.small
    (omega (arith, c.in_ok-start.ensures, c.len.ensures, s.pieces.ok.0))
    (omega (arith, c.in_ok-end.ensures, c.len-2.ensures, c.copy_clauses.new.pieces.ok.0)))
