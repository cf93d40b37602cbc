use Rattle.std.proofs.Common.{◌∙◌, sym, ap, arith}
use Rattle.forms.specs.Forms.{facts_size}
use Rattle.forms.specs.Stamped.{numbered_in}
use Rattle.forms.proofs.state.Forms.size_fault.Goals as goal

pub returns-in-None : goal.returns-in-None
returns-in-None g c =
    let at = g.T.ClauseTable.at c.args.table.now in
    let facts = c.args.facts.now in
    let p = c.self.inside.present in
    ap (λ s. facts_size at s.numbered facts) (sym c.self.view_is)
    ∙ ap (λ x. facts_size at (numbered_in p x) facts) (sym c.deref.ensures.value)
    ∙ sym (c.in-None.ensures p)

pub returns-in-Some : goal.returns-in-Some
returns-in-Some g c =
    let at = g.T.ClauseTable.at c.args.table.now in
    let facts = c.args.facts.now in
    let p = c.self.inside.present in (
      c.in-Some.size,
      ap (λ s. facts_size at s.numbered facts) (sym c.self.view_is)
          ∙ ap (λ x. facts_size at (numbered_in p x) facts) (sym c.deref.ensures.value)
          ∙ sym (c.in-Some.ensures p),
      omega (arith, c.if-size-self.true, c.self.invariant.terms, ap (λ s. s.terms) c.self.view_is),
    )

pub returns-in-Some-2 : goal.returns-in-Some-2
returns-in-Some-2 g c =
    let at = g.T.ClauseTable.at c.args.table.now in
    let facts = c.args.facts.now in
    let p = c.self.inside.present in (
      c.in-Some.size,
      ap (λ s. facts_size at s.numbered facts) (sym c.self.view_is)
          ∙ ap (λ x. facts_size at (numbered_in p x) facts) (sym c.deref.ensures.value)
          ∙ sym (c.in-Some.ensures p),
      omega (arith, c.if-size-self.false, c.self.invariant.terms, ap (λ s. s.terms) c.self.view_is),
    )
