-- One clause more was copied.
use Rattle.std.proofs.Common.{◌≡◌, ◌+◌, ◌∙◌, ◌++◌, ◌∷◌, List, [], ap, sym, subst, take, unwrap_or}
use Rattle.cnf.specs.Literal.{Literal}
use Rattle.std.proofs.lemmas.List.{map-append, take_more}
use Rattle.clauses.specs.Slots.{IsLive}
use Rattle.reconstruction.specs.Flat.{AddsClauses}
use Rattle.clauses.specs.Slots.{clause_under, clauses_under}
use Rattle.lrat_log.proofs.Laws.{when_err}
use Rattle.reconstruction.proofs.StackPieces.{adds_none, adds_join}
use Rattle.reconstruction.proofs.removals.copy_clauses.Goals as goal

pub loop-reference-init : goal.loop-reference-init
loop-reference-init c = adds_none c.args.pieces.now.items c.args.literals.now.items

pub lits-requires : goal.lits-requires
lits-requires c =
    subst (IsLive c.args.store.now.slots) (sym c.reference-item.is)
    (c.requires c.loop-reference.reference-index c.reference-item.result
    c.loop-reference-test.true)

pub returns-in_err-copy_clause-clause-err : goal.returns-in_err-copy_clause-clause-err
returns-in_err-copy_clause-clause-err c =
    let so_far : List (List Literal) =
    clauses_under c.args.store.now.slots
    (take c.loop-reference.reference-index c.args.references.now) in
    let some : (cs : List (List Literal))
    × AddsClauses c.args.pieces.now.items c.copy_clause.new.pieces.items c.args.literals.now.items
    c.copy_clause.new.literals.items cs = (
      so_far ++ [],
      adds_join c.args.pieces.now.items c.loop-reference.pieces.items
          c.copy_clause.new.pieces.items c.args.literals.now.items c.loop-reference.literals.items
          c.copy_clause.new.literals.items so_far [] c.loop-reference.invariant
          c.in_err-copy_clause.ensures.err,
    ) in
    when_err _ some

pub loop-reference-preserved : goal.loop-reference-preserved
loop-reference-preserved c =
    let i = c.loop-reference.reference-index in
    let slots = c.args.store.now.slots in
    let refs = c.args.references.now in
    let r = c.reference-item.result in
    let here : clause_under slots r ≡ c.lits.result.now = ap (λ o. unwrap_or o []) c.lits.ensures in
    let last : clauses_under slots (r ∷ []) ≡ c.lits.result.now ∷ [] = ap (λ x. x ∷ []) here in
    let more : clauses_under slots (take (i + 1) refs) ≡ clauses_under slots (take i refs)
    ++ c.lits.result.now ∷ [] =
    ap (clauses_under slots) (take_more refs i r c.loop-reference-test.true
    ∙ ap (λ x. take i refs ++ x ∷ []) (sym c.reference-item.is))
    ∙ map-append (clause_under slots) (take i refs) (r ∷ [])
    ∙ ap (λ xs. clauses_under slots (take i refs) ++ xs) last in
    subst (λ (cs : List (List Literal)). AddsClauses c.args.pieces.now.items
    c.copy_clause.new.pieces.items c.args.literals.now.items c.copy_clause.new.literals.items cs)
    (sym more)
    (adds_join c.args.pieces.now.items c.loop-reference.pieces.items c.copy_clause.new.pieces.items
    c.args.literals.now.items c.loop-reference.literals.items c.copy_clause.new.literals.items _
    (c.lits.result.now ∷ []) c.loop-reference.invariant c.in_ok-copy_clause.ensures.ok)
