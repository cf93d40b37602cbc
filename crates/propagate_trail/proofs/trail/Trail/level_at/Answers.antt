use Rattle.std.proofs.Common.{◌≡◌, ◌<◌, ◌+◌, ℕ, Option, None, take, length, get_or, ◌∙◌, ap, sym}
use Rattle.std.proofs.Common.{subst, arith}
use Rattle.std.specs.Prelude.{unwrap_or}
use Rattle.std.proofs.lemmas.List.{length-map}
use Rattle.cnf.specs.Literal.{Literal}
use Rattle.propagate_trail.specs.Trail.{TrailState, depth_of}
use Rattle.propagate_trail.specs.Tables.{reason_at}
use Rattle.propagate_trail.proofs.Trails.{made}
use Rattle.propagate_trail.proofs.Undoing.{level_at_place}
use Rattle.propagate_trail.proofs.trail.Trail.level_at.Goals as goal

pub returns : goal.returns
returns c =
    let i = c.self.inside in
    let k = c.args.place in
    let A = i.literals.items in
    let l = c.index.result.now in
    let e : c.variable-variable.result ≡ (get_or A k l).variable =
    c.variable-variable.ensures.variable ∙ ap (λ (x : Literal). x.variable) c.index.ensures in
    let lt = subst (λ (t : TrailState). k < length t.assigned) (sym c.self.view_is) c.requires in
    let long = length-map A (λ (x : Literal). made x (reason_at i.vardata.reasons x.variable)) in
    c.unwrap_or.ensures
    ∙ ap (λ (o : Option ℕ). unwrap_or o 0) (c.level.ensures
    ∙ ap (λ v. get_or i.vardata.levels v None) e
    ∙ level_at_place i.variables A _ _ _ _ _ _ c.self.invariant k l (omega arith))
    ∙ ap (λ (t : TrailState). depth_of (take (k + 1) t.assigned)) c.self.view_is
