use Rattle.std.proofs.Common.{◌≡◌, ◌∙◌, sym, ap, true}
use Rattle.linear.specs.Costs.{width_of}
use Rattle.forms.specs.Forms.{are_known}
use Rattle.forms.specs.Kept.{forms_in}
use Rattle.forms.proofs.Knowing.{known_within}
use Rattle.forms.proofs.state.Forms.cut.Goals as goal

pub least_where_false-least-requires-clause-variables :
    goal.least_where_false-least-requires-clause-variables
least_where_false-least-requires-clause-variables c =
    let s = forms_in c.self-2.inside in
    let same : s ≡ c.args.self.now = c.self-2.view_is ∙ c.are_known.ensures.unchanged in
    let h : are_known s c.args.lits.now ≡ true =
    ap (λ x. are_known x c.args.lits.now) same ∙ sym c.if-not-are_known.ensures.known in
    known_within s (width_of (c.self-2.inside.bound).form) c.args.lits.now
    c.self-2.invariant.width h
