use Rattle.std.proofs.Common.{◌+◌, ◌*◌, ◌^◌, ap, arith}
use Rattle.linear.specs.Costs.{width_of}
use Rattle.forms.specs.Forms.{clause_size}
use Rattle.forms.specs.Kept.{most_mass}
use Rattle.forms.proofs.Knowing.{below_width}
use Rattle.forms.proofs.MassLaws.{more_mass, mass_room}
use Rattle.linear.proofs.Laws.{widened_more, widened_width}
use Rattle.forms.proofs.Withins.{within_more}
use Rattle.forms.proofs.state.Forms.subtract_clause.Goals as goal

pub subtract_clause-requires-clause-variables : goal.subtract_clause-requires-clause-variables
subtract_clause-requires-clause-variables c =
    below_width (width_of (c.widen.new.self).form) c.args.clause.now
    (omega (
      arith,
      c.greatest_variable.ensures.greatest,
      widened_width (c.greatest_variable.result + 1) (c.self.inside.bound).form,
      ap (λ b. width_of b.form) c.in_ok-widen.ensures,
    ))

pub subtract_clause-requires-clause-room : goal.subtract_clause-requires-clause-room
subtract_clause-requires-clause-room c =
    let size = clause_size c.args.clause.now in
    omega (
      arith,
      ap (λ b. b.mass) c.in_ok-widen.ensures,
      more_mass c.self.inside.terms size c.self.inside.made (c.self.inside.bound).mass
          (3 * 2 ^ 62 * size) c.self.invariant.mass (omega arith),
      mass_room (c.self.inside.terms + size) c.self.inside.made
          (omega (arith, c.requires.room, ap (λ s. s.terms) c.self.view_is)) c.self.invariant.made,
    )

pub invariant_of-self-2 : goal.invariant_of-self-2
invariant_of-self-2 c =
    let old = c.self.invariant in
    let size = clause_size c.args.clause.now in
    let wide = widened_more (c.greatest_variable.result + 1) (c.self.inside.bound).form in
    let same = ap (λ b. width_of b.form) c.in_ok-widen.ensures in
    record {
      width = omega (arith, old.width, wide, same, ap width_of c.subtract_clause.ensures.form);
      marks = old.marks;
      variables = old.variables;
      made = old.made;
      terms =
          omega (arith, c.requires.room, ap (λ s. s.terms) c.self.view_is, c.clause_size.ensures);
      mass =
          omega (
            arith,
            c.subtract_clause.ensures.mass,
            ap (λ b. b.mass) c.in_ok-widen.ensures,
            c.clause_size.ensures,
            more_mass c.self.inside.terms size c.self.inside.made (c.self.inside.bound).mass
                (3 * 2 ^ 62 * size) old.mass (omega arith),
            ap (λ n. most_mass (c.self.inside.terms + n) c.self.inside.made) c.clause_size.ensures,
          );
      within =
          within_more c.self.inside.variables c.self.inside.terms
          (c.self.inside.terms + c.clause_size.result) c.self.inside.numbered.items (omega arith)
          old.within;
      stamped = old.stamped;
    }
