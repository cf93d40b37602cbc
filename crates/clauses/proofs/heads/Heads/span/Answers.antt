use Rattle.std.proofs.Common.{◌≡◌, Some, length, arith, refl}
use Rattle.std.specs.Prelude.{slice_get}
use Rattle.std.proofs.lemmas.Option.{slice_get_read}
use Rattle.clauses.specs.Heads.{head_of, span_of}
use Rattle.clauses.proofs.Zipped.{length-zipped, firsts-zipped}
use Rattle.clauses.proofs.heads.Heads.span.Goals as goal

pub index-requires : goal.index-requires
index-requires c =
    let within = rw (← c.self.view_is) at c.requires in
    omega (arith, within, length-zipped head_of _ _ c.self.invariant, c.self.inside.spans.ok.0)

pub returns : goal.returns
returns c =
    let within = rw (← c.self.view_is) at c.requires in
    let at : slice_get c.self.inside.spans.items c.args.at ≡ Some c.index.result.now =
    slice_get_read _ (length c.self.inside.spans.items) _ _ refl
    (omega (arith, within, length-zipped head_of _ _ c.self.invariant)) c.index.ensures in
    rw (← c.self.view_is, firsts-zipped head_of span_of (λ s b. refl) _ _ c.self.invariant) at
