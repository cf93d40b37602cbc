-- One more literal is false, whose variable is of none before.
use Rattle.std.proofs.Common.{rules, arith, to_z, ◌≡◌, ℕ, ℤ, ◌+ℤ◌, ◌+◌, ◌<◌, ◌^◌, List, length}
use Rattle.std.proofs.Common.{take, Some, None, get_or, sym, ◌∙◌, subst}
use Rattle.std.specs.List.{All}
use Rattle.std.specs.Int.RustNames.{unsigned_abs}
use Rattle.std.proofs.lemmas.Int.{to_z-of_z}
use Rattle.std.proofs.lemmas.List.Elements.{All-get_or}
use mir.Syntax.{w128}
use mir.Val.{SFits}
use Rattle.cnf.specs.Literal.{Literal}
use Rattle.linear.specs.Linear.{coefficient}
use Rattle.linear.specs.Costs.{HasOneWidth, falsified, least_where, width_of}
use Rattle.linear.specs.Bounds.{BoundState, IsBounded}
use Rattle.linear.specs.declared.terms.Term.{Term}
use Rattle.linear.specs.declared.bounds.CostBound.TheInside.{Inside}
use Rattle.linear.specs.Kept.{state_in, IsBoundKept}
use Rattle.linear.proofs.Sums.{least_at}
use Rattle.linear.proofs.Moves.{where_small}
use Rattle.linear.proofs.Places.{StandsAt, within_width, stands_at, kept_small, cost_here}
use Rattle.linear.proofs.Places.{added_here, value_here}
use Rattle.linear.proofs.Falsified.{least_pushed}
use Rattle.linear.proofs.bounds.CostBound.least_where_false.Goals as goal

-- the least value so far is small
so_far : (b : Inside) (s : BoundState) (ls : List Literal) (n : ℤ) → state_in b ≡ s → IsBoundKept b
    → n ≡ least_where s.form (falsified ls (s.form).fixed) → unsigned_abs n < 2 ^ 126
so_far b s ls n e h d =
    let bounded = subst (λ (x : BoundState). IsBounded x) e (h.least).bounded in
    subst (λ x. unsigned_abs x < 2 ^ 126) (sym d)
    (where_small s (falsified ls (s.form).fixed) bounded)

-- a literal of the list stands within
stands : (b : Inside) (s : BoundState) (ls : List Literal) (i v : ℕ) (l : Literal) (old : Term)
    → state_in b ≡ s → All (λ k. k.variable < width_of s.form) ls → i < length ls
    → l ≡ get_or ls i l → v ≡ l.variable → old ≡ get_or b.terms.items v old
    → StandsAt b.terms.items l.variable old
stands b s ls i v l old e h lt is f o =
    let within = All-get_or (λ k. k.variable < width_of s.form) ls i l lt h in
    stands_at b s l.variable old e
    (subst (λ (k : Literal). k.variable < width_of s.form) (sym is) within)
    (subst (λ k. old ≡ get_or b.terms.items k old) f o)

pub where_false-total-requires-clause-least : goal.where_false-total-requires-clause-least
where_false-total-requires-clause-least c =
    so_far c.self.inside c.args.self.now (take c.loop-lit.lit-index c.args.lits.now)
    (to_z w128 c.loop-lit.total-bits) c.self.view_is c.self.invariant c.loop-lit.invariant

pub where_false-total-requires-clause-parts : goal.where_false-total-requires-clause-parts
where_false-total-requires-clause-parts c =
    let l = c.lit-item.result in
    let old = c.index-term.result.now in
    kept_small c.self.inside l.variable old c.self.invariant
    (stands c.self.inside c.args.self.now c.args.lits.now c.loop-lit.lit-index c.variable.result
    l old c.self.view_is c.requires.variables (omega arith) c.lit-item.is
    c.variable.ensures.variable c.index-term.ensures)

pub loop-lit-preserved : goal.loop-lit-preserved
loop-lit-preserved c =
    let b = c.self.inside in
    let ts = b.terms.items in
    let l = c.lit-item.result in
    let ls = c.args.lits.now in
    let i = c.loop-lit.lit-index in
    let n = c.where_false-total.result in
    let old = c.index-term.result.now in
    let f = (state_in b).form in
    let lt : i < length ls = omega arith in
    let at = stands b c.args.self.now ls i c.variable.result l old c.self.view_is
    c.requires.variables lt c.lit-item.is c.variable.ensures.variable c.index-term.ensures in
    let so : to_z w128 c.loop-lit.total-bits ≡ least_where f (falsified (take i ls) f.fixed)
    = subst (λ (s : BoundState). to_z w128 c.loop-lit.total-bits
    ≡ least_where s.form (falsified (take i ls) (s.form).fixed))
    (sym c.self.view_is) c.loop-lit.invariant in
    let ec = cost_here ts l.variable old at in
    let er = added_here b.present ts l.variable old at in
    let ev = value_here ts l.variable old at in
    let e : n +ℤ least_at f.scale (coefficient f.cost l.variable) (coefficient f.added l.variable)
    (get_or f.fixed l.variable None)
    ≡ least_where f (falsified (take i ls) f.fixed)
    +ℤ least_at f.scale (coefficient f.cost l.variable) (coefficient f.added l.variable)
    (Some l.negated)
    = cc (c.where_false-total.ensures, c.is_negated.ensures) in
    let p = least_pushed f ls i l n (((c.self.invariant).least).bounded).width
    c.requires.no_repeat c.requires.no_tautology lt c.lit-item.is
    (within_width ts l.variable at.within) e in
    let g : SFits w128 n = search rules in
    to_z-of_z w128 n g
    ∙ subst (λ (s : BoundState). n
    ≡ least_where s.form (falsified (take (i + 1) ls) (s.form).fixed))
    c.self.view_is p

pub returns-clause-small : goal.returns-clause-small
returns-clause-small c =
    so_far c.self.inside c.args.self.now (take c.loop-lit.lit-index c.args.lits.now)
    (to_z w128 c.loop-lit.total-bits) c.self.view_is c.self.invariant c.loop-lit.invariant

pub returns-clause-width : goal.returns-clause-width
returns-clause-width c =
    subst (λ (s : BoundState). HasOneWidth s.form) c.self.view_is
    (((c.self.invariant).least).bounded).width
