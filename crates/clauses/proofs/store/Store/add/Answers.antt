use Rattle.std.proofs.Common.{◌≡◌, ◌+◌, ◌<◌, ◌^◌, ◌++◌, ◌∙◌, refl, ap, length, rules, arith}
use Rattle.clauses.proofs.Stored.{state_added, store_added}
use Rattle.clauses.proofs.store.Store.add.Goals as goal

pub invariant_of-self-2 : goal.invariant_of-self-2
invariant_of-self-2 c =
    let ls : c.extend_from_slice.new.self.items ≡ c.self.inside.literals.items ++ c.args.lits.now =
    c.in_ok-extend_from_slice.ensures.items
    ∙ ap (λ xs. xs ++ c.args.lits.now) c.in_ok-reserve.ensures.items in
    let at : c.len-start.result ≡ length c.self.inside.literals.items = search rules in
    let literals : length c.self.inside.literals.items + length c.args.lits.now < 2 ^ 32 =
    omega arith in
    let heads : length c.self.inside.heads + 1 < 2 ^ 32 = omega (arith, c.len-place.ensures) in
    rw (c.in_ok-push.ensures.ok, ls)
    (store_added c.self.inside.literals.items c.args.lits.now c.self.inside.heads _ c.self.invariant
    at refl literals heads)

pub returns-clause-ok : goal.returns-clause-ok
returns-clause-ok c =
    let ls : c.extend_from_slice.new.self.items ≡ c.self.inside.literals.items ++ c.args.lits.now =
    c.in_ok-extend_from_slice.ensures.items
    ∙ ap (λ xs. xs ++ c.args.lits.now) c.in_ok-reserve.ensures.items in
    let at : c.len-start.result ≡ length c.self.inside.literals.items = search rules in
    rw (c.in_ok-push.ensures.ok, ls, ← c.self.view_is)
    (state_added c.self.inside.literals.items c.args.lits.now c.self.inside.heads _
    c.self.invariant.laid at refl refl)
