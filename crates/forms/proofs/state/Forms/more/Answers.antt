-- One more output.
use Rattle.std.proofs.Common.{◌+◌, ◌-◌, ◌≤◌, length, ap, sym, ◌∙◌, arith}
use Rattle.std.proofs.Common.{subst, refl, pos, ◌∷◌, []}
use Rattle.std.proofs.lemmas.List.Elements.{All-set}
use Rattle.cnf.specs.Literal.{positive}
use Rattle.linear.specs.Costs.{width_of}
use Rattle.forms.specs.Forms.{more_line, plus}
use Rattle.forms.specs.Kept.{forms_in, most_mass}
use Rattle.forms.specs.Stamped.{IsStamped, numbered_in}
use Rattle.forms.specs.Within.{IsStampedWithin}
use Rattle.forms.proofs.NextOutput.{chosen_after, chosen_grows, chosen_line, chosen_multiplier}
use Rattle.forms.proofs.NextOutput.{chosen_place, chosen_stamped, chosen_within, refused}
use Rattle.forms.proofs.MassLaws.{mass_room, output_mass}
use Rattle.linear.proofs.Laws.{widened_width}
use Rattle.forms.proofs.Withins.{wider_one, within_wider}
use Rattle.forms.proofs.state.Forms.more.Goals as goal

pub returns-in-Some : goal.returns-in-Some
returns-in-Some c =
    let f = c.self.inside in
    let e =
    c.in-Some.ensures (forms_in f) f.present
    (ap (numbered_in f.present) (sym c.deref.ensures.value)) refl in (
      ap (more_line c.args.number) (sym c.self.view_is)
          ∙ refused (more_line c.args.number (forms_in f)) c.in-Some.fault e,
      refl,
      c.clear.ensures,
    )

pub overflow_sub-number : goal.overflow_sub-number
overflow_sub-number c =
    let f = c.self.inside in
    let none =
    c.in_default.ensures (forms_in f) f.present
    (ap (numbered_in f.present) (sym c.deref.ensures.value)) refl in
    let place = chosen_place c.args.number f c.self.invariant none in
    omega (arith, place.0)

pub index_mut-item-requires : goal.index_mut-item-requires
index_mut-item-requires c =
    let f = c.self.inside in
    let none =
    c.in_default.ensures (forms_in f) f.present
    (ap (numbered_in f.present) (sym c.deref.ensures.value)) refl in
    let place = chosen_place c.args.number f c.self.invariant none in
    omega (arith, place.1, c.deref.ensures.len, ap length c.deref.ensures.value)

pub grow_item-requires-clause-more : goal.grow_item-requires-clause-more
grow_item-requires-clause-more c =
    let f = c.self.inside in
    let none =
    c.in_default.ensures (forms_in f) f.present
    (ap (numbered_in f.present) (sym c.deref.ensures.value)) refl in
    let n = c.index_mut-item.result.now in
    let is = c.index_mut-item.ensures.value in
    chosen_grows c.args.number f c.self.invariant none n is

pub overflow_sub-self : goal.overflow_sub-self
overflow_sub-self c =
    let f = c.self.inside in
    let none =
    c.in_default.ensures (forms_in f) f.present
    (ap (numbered_in f.present) (sym c.deref.ensures.value)) refl in
    let n = c.index_mut-item.result.now in
    let is = c.index_mut-item.ensures.value in
    let after =
    chosen_after c.args.number f c.self.invariant none n is c.grow_item.new.item c.clear.new.self
    c.grow_item.new.clauses c.in-Ok.next c.clear.ensures c.in-Ok.ensures.grown in
    omega (arith, after.rises)

pub overflow_add-self : goal.overflow_add-self
overflow_add-self c =
    let f = c.self.inside in
    let none =
    c.in_default.ensures (forms_in f) f.present
    (ap (numbered_in f.present) (sym c.deref.ensures.value)) refl in
    let n = c.index_mut-item.result.now in
    let is = c.index_mut-item.ensures.value in
    let after =
    chosen_after c.args.number f c.self.invariant none n is c.grow_item.new.item c.clear.new.self
    c.grow_item.new.clauses c.in-Ok.next c.clear.ensures c.in-Ok.ensures.grown in
    omega (arith, after.room, c.len.ensures)

pub overflow_sub-next : goal.overflow_sub-next
overflow_sub-next c =
    let f = c.self.inside in
    let none =
    c.in_default.ensures (forms_in f) f.present
    (ap (numbered_in f.present) (sym c.deref.ensures.value)) refl in
    let n = c.index_mut-item.result.now in
    let is = c.index_mut-item.ensures.value in
    let after =
    chosen_after c.args.number f c.self.invariant none n is c.grow_item.new.item c.clear.new.self
    c.grow_item.new.clauses c.in-Ok.next c.clear.ensures c.in-Ok.ensures.grown in
    omega (arith, after.rises)

pub add_output-requires-clause-from_one : goal.add_output-requires-clause-from_one
add_output-requires-clause-from_one c =
    let f = c.self.inside in
    let none =
    c.in_default.ensures (forms_in f) f.present
    (ap (numbered_in f.present) (sym c.deref.ensures.value)) refl in
    let n = c.index_mut-item.result.now in
    let is = c.index_mut-item.ensures.value in
    let after =
    chosen_after c.args.number f c.self.invariant none n is c.grow_item.new.item c.clear.new.self
    c.grow_item.new.clauses c.in-Ok.next c.clear.ensures c.in-Ok.ensures.grown in
    omega (arith, after.rises)

pub add_output-requires-clause-small : goal.add_output-requires-clause-small
add_output-requires-clause-small c =
    let f = c.self.inside in
    let none =
    c.in_default.ensures (forms_in f) f.present
    (ap (numbered_in f.present) (sym c.deref.ensures.value)) refl in
    let n = c.index_mut-item.result.now in
    let is = c.index_mut-item.ensures.value in
    let after =
    chosen_after c.args.number f c.self.invariant none n is c.grow_item.new.item c.clear.new.self
    c.grow_item.new.clauses c.in-Ok.next c.clear.ensures c.in-Ok.ensures.grown in
    omega (arith, after.worth, after.room, c.self.invariant.variables)

pub add_output-requires-clause-few : goal.add_output-requires-clause-few
add_output-requires-clause-few c =
    let f = c.self.inside in
    let none =
    c.in_default.ensures (forms_in f) f.present
    (ap (numbered_in f.present) (sym c.deref.ensures.value)) refl in
    let n = c.index_mut-item.result.now in
    let is = c.index_mut-item.ensures.value in
    let often =
    c.multiplier_of-multiplier.ensures.small f.variables f.terms
    (chosen_within c.args.number f c.self.invariant none n is) in
    omega (arith, often, c.self.invariant.terms)

pub add_output-requires-clause-room : goal.add_output-requires-clause-room
add_output-requires-clause-room c =
    let f = c.self.inside in
    let none =
    c.in_default.ensures (forms_in f) f.present
    (ap (numbered_in f.present) (sym c.deref.ensures.value)) refl in
    let n = c.index_mut-item.result.now in
    let is = c.index_mut-item.ensures.value in
    let after =
    chosen_after c.args.number f c.self.invariant none n is c.grow_item.new.item c.clear.new.self
    c.grow_item.new.clauses c.in-Ok.next c.clear.ensures c.in-Ok.ensures.grown in
    let often =
    c.multiplier_of-multiplier.ensures.small f.variables f.terms
    (chosen_within c.args.number f c.self.invariant none n is) in
    omega (
      arith,
      c.in-Ok.ensures.mass,
      output_mass f.terms f.made (length c.grow_item.new.clauses) (f.bound).mass
          c.multiplier_of-multiplier.result c.self.invariant.mass
          (omega (arith, after.rises, after.worth)) often,
      mass_room f.terms (f.made + length c.grow_item.new.clauses) c.self.invariant.terms after.room,
    )

pub invariant_of-self : goal.invariant_of-self
invariant_of-self c =
    let f = c.self.inside in
    let none =
    c.in_default.ensures (forms_in f) f.present
    (ap (numbered_in f.present) (sym c.deref.ensures.value)) refl in
    let n = c.index_mut-item.result.now in
    let is = c.index_mut-item.ensures.value in
    let after =
    chosen_after c.args.number f c.self.invariant none n is c.grow_item.new.item c.clear.new.self
    c.grow_item.new.clauses c.in-Ok.next c.clear.ensures c.in-Ok.ensures.grown in
    let often =
    c.multiplier_of-multiplier.ensures.small f.variables f.terms
    (chosen_within c.args.number f c.self.invariant none n is) in
    let v = c.in-Ok.next in
    let wide = ap (λ b. width_of b.form) c.in-Ok.ensures.widened in
    let form = ap width_of c.add_output.ensures.form in
    let mass =
    output_mass f.terms f.made (length c.grow_item.new.clauses) (f.bound).mass
    c.multiplier_of-multiplier.result c.self.invariant.mass
    (omega (arith, after.rises, after.worth)) often in
    record {
      width = omega (arith, form, wide, widened_width v (f.bound).form, after.rises);
      marks = c.in-Ok.ensures.marks;
      variables =
          omega (arith, after.worth, after.rises, c.len.ensures, c.self.invariant.variables);
      made = omega (arith, after.room, c.len.ensures);
      terms = c.self.invariant.terms;
      mass =
          subst (λ k. (c.add_output.new.bound).mass ≤ most_mass f.terms (f.made + k))
          (sym c.len.ensures)
          (omega (arith, mass, c.add_output.ensures.mass, c.in-Ok.ensures.mass));
      within =
          All-set (IsStampedWithin (v - 1) f.terms) f.numbered.items (c.args.number - 1)
          c.grow_item.new.item
          (c.in-Ok.ensures.within f.terms
          (wider_one f.variables (f.variables + 1 - 1) f.terms n (omega arith)
          (chosen_within c.args.number f c.self.invariant none n is)))
          (within_wider f.variables (v - 1) f.terms f.numbered.items (omega (arith, after.rises))
          c.self.invariant.within);
      stamped =
          All-set (IsStamped f.present) f.numbered.items (c.args.number - 1)
          c.grow_item.new.item
          (c.in-Ok.ensures.stamped f.present
          (chosen_stamped c.args.number f c.self.invariant none n is))
          c.self.invariant.stamped;
    }

pub returns-in-Ok : goal.returns-in-Ok
returns-in-Ok c =
    let f = c.self.inside in
    let none =
    c.in_default.ensures (forms_in f) f.present
    (ap (numbered_in f.present) (sym c.deref.ensures.value)) refl in
    let n = c.index_mut-item.result.now in
    let is = c.index_mut-item.ensures.value in
    let v = c.in-Ok.next in
    let wide = ap (λ b. b.form) c.in-Ok.ensures.widened in
    let multiplier =
    chosen_multiplier c.args.number f c.self.invariant none n is
    c.multiplier_of-multiplier.result c.multiplier_of-multiplier.ensures.value in
    ap (more_line c.args.number) (sym c.self.view_is)
    ∙ chosen_line c.args.number f c.self.invariant none n is c.grow_item.new.item
    c.clear.new.self c.grow_item.new.clauses v c.clear.ensures c.in-Ok.ensures.grown
    (c.add_output.new.bound).form c.len.result c.len.ensures
    (c.add_output.ensures.form
    ∙ (λ i. plus (pos (multiplier i)) (positive (v - 1) ∷ []) (wide i)))
