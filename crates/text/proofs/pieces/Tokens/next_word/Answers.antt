-- What is left comes after the space and the literal.
use Rattle.std.proofs.Common.{refl, sym, ◌∙◌}
use Rattle.text.proofs.AheadLaws.{next_spaced}
use Rattle.text.proofs.pieces.Tokens.next_word.Goals as goal

pub returns-in-Some : goal.returns-in-Some
returns-in-Some c =
    let next =
    next_spaced c.self.inside.rest.now _ c.in-Some.found.0 c.in-Some.found.1
    (sym c.begins_with.ensures.first ∙ c.if-begins_with.true)
    (c.begins_with.ensures.some c.if-begins_with.true) c.in-Some.ensures refl in
    (next.0, sym c.self.view_is ∙ next.1, next.2)
