use Rattle.std.proofs.Common.{rules, sym}
use Rattle.std.proofs.lemmas.List.Sorted.{answers_always}
use Rattle.clauses.proofs.Lookup.{found, absent}
use Rattle.clauses.proofs.store.Moves.to.Goals as goal

-- the closure gives a pair's old reference, and the slice is the pairs
pub returns-in-Ok : goal.returns-in-Ok
returns-in-Ok c =
    let facts = c.in-Ok.ensures in
    let by_key =
    rw c.deref.ensures.value at
    (facts.position (λ m. m.0) (answers_always _ _ _ (λ f a r g called. search rules))) in
    let within = rw c.deref.ensures.value at facts.bound in
    rw (← c.self.view_is, ← c.reference.view_is)
    (sym (found c.self.inside.pairs.items c.self.invariant.0 c.reference.inside.place c.in-Ok.at
    c.index.result.now within by_key c.index.ensures))

pub returns-in-Err : goal.returns-in-Err
returns-in-Err c =
    let facts = c.in-Err.ensures in
    let by_key =
    rw c.deref.ensures.value at
    (facts.position (λ m. m.0) (answers_always _ _ _ (λ f a r g called. search rules))) in
    let within = rw c.deref.ensures.value at facts.bound in
    rw (← c.self.view_is, ← c.reference.view_is)
    (sym (absent c.self.inside.pairs.items c.self.invariant.0 c.reference.inside.place
    c.in-Err.field-0 within by_key))
