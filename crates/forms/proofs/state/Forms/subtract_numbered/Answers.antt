use Rattle.std.proofs.Common.{◌≡◌, ◌+◌, ◌-◌, ◌*◌, ◌≤◌, ◌^◌, ◌∙◌, sym, ap, subst, set}
use Rattle.std.proofs.Common.{arith}
use Rattle.std.specs.Prelude.{IfSome}
use Rattle.std.proofs.lemmas.List.{map-set}
use Rattle.std.proofs.lemmas.List.Elements.{All-set}
use Rattle.linear.specs.Costs.{width_of}
use Rattle.forms.specs.declared.faults.TheConstants.{MOST_TERMS}
use Rattle.forms.specs.Forms.{at_number, cited, less_numbered, numbered_size}
use Rattle.forms.specs.Kept.{forms_in, most_mass}
use Rattle.forms.specs.Stamped.{IsStamped, numbered_at, numbered_in}
use Rattle.forms.specs.Within.{IsStampedWithin}
use Rattle.forms.proofs.MassLaws.{more_mass, mass_room}
use Rattle.forms.proofs.Stamps.{found, less_is}
use Rattle.forms.proofs.Widths.{item_width}
use Rattle.forms.proofs.Withins.{size_some, within_more, within_one}
use Rattle.forms.proofs.state.Forms.subtract_numbered.Goals as goal

pub subtract_item-requires-clause-room : goal.subtract_item-requires-clause-room
subtract_item-requires-clause-room c =
    let f = c.self.inside in
    let n = numbered_at f.present c.index_mut-item.result.now in
    let e =
    found f.numbered.items c.args.number c.index_mut-item.result.now (omega arith)
    (omega (arith, c.len.ensures, c.if-number-len.false)) c.index_mut-item.ensures.value
    f.present in
    let room : f.terms + numbered_size n ≤ MOST_TERMS =
    subst (λ o. IfSome o (λ m. f.terms + numbered_size m ≤ MOST_TERMS)) e
    (subst (λ s. IfSome (at_number s.numbered c.args.number)
    (λ m. s.terms + numbered_size m ≤ MOST_TERMS)) (sym c.self.view_is) c.requires.room) in
    omega (
      arith,
      more_mass f.terms (numbered_size n) f.made (f.bound).mass (3 * 2 ^ 62 * numbered_size n)
          c.self.invariant.mass (omega arith),
      mass_room (f.terms + numbered_size n) f.made room c.self.invariant.made,
    )

pub overflow_add-self : goal.overflow_add-self
overflow_add-self c =
    let f = c.self.inside in
    let n = numbered_at f.present c.index_mut-item.result.now in
    let e =
    found f.numbered.items c.args.number c.index_mut-item.result.now (omega arith)
    (omega (arith, c.len.ensures, c.if-number-len.false)) c.index_mut-item.ensures.value
    f.present in
    let room : f.terms + numbered_size n ≤ MOST_TERMS =
    subst (λ o. IfSome o (λ m. f.terms + numbered_size m ≤ MOST_TERMS)) e
    (subst (λ s. IfSome (at_number s.numbered c.args.number)
    (λ m. s.terms + numbered_size m ≤ MOST_TERMS)) (sym c.self.view_is) c.requires.room) in
    omega (arith, c.numbered_size.ensures f.present, room)

pub invariant_of-self : goal.invariant_of-self
invariant_of-self c =
    let f = c.self.inside in
    let old = c.self.invariant in
    let n = numbered_at f.present c.index_mut-item.result.now in
    let items = f.numbered.items in
    let place = c.args.number - 1 in
    let size : c.numbered_size.result ≡ numbered_size n = c.numbered_size.ensures f.present in
    let e =
    found items c.args.number c.index_mut-item.result.now (omega arith)
    (omega (arith, c.len.ensures, c.if-number-len.false)) c.index_mut-item.ensures.value
    f.present in
    let room : f.terms + numbered_size n ≤ MOST_TERMS =
    subst (λ o. IfSome o (λ m. f.terms + numbered_size m ≤ MOST_TERMS)) e
    (subst (λ s. IfSome (at_number s.numbered c.args.number)
    (λ m. s.terms + numbered_size m ≤ MOST_TERMS)) (sym c.self.view_is) c.requires.room) in
    let was : IsStampedWithin f.variables f.terms c.index_mut-item.result.now =
    subst (IsStampedWithin f.variables f.terms) (sym c.index_mut-item.ensures.value)
    (old.within place c.index_mut-item.result.now
    (omega (arith, c.len.ensures, c.if-number-len.false))) in
    let some = size_some f.variables f.terms f.present c.index_mut-item.result.now was in
    let now : IsStampedWithin f.variables (f.terms + c.numbered_size.result)
    c.subtract_item.new.item =
    within_one f.variables (f.terms + 1) (f.terms + c.numbered_size.result)
    c.subtract_item.new.item (omega (arith, some, size))
    (c.subtract_item.ensures.within f.variables f.terms was) in
    record {
      width = omega (
        arith,
        old.width,
        ap width_of c.subtract_item.ensures.form,
        item_width c.args.weight n (f.bound).form,
      );
      marks = old.marks;
      variables = old.variables;
      made = old.made;
      terms = omega (arith, room, size);
      mass =
          subst (λ k. c.subtract_item.new.bound.mass ≤ most_mass (f.terms + k) f.made) (sym size)
          (omega (
            arith,
            c.subtract_item.ensures.mass,
            more_mass f.terms (numbered_size n) f.made (f.bound).mass
                (3 * 2 ^ 62 * numbered_size n) old.mass (omega arith),
          ));
      within =
          All-set (IsStampedWithin f.variables (f.terms + c.numbered_size.result)) items place
          c.subtract_item.new.item now
          (within_more f.variables f.terms (f.terms + c.numbered_size.result) items (omega arith)
          old.within);
      stamped =
          All-set (IsStamped f.present) items place c.subtract_item.new.item
          c.subtract_item.ensures.stamped old.stamped;
    }

pub returns : goal.returns
returns c =
    let f = c.self.inside in
    let items = f.numbered.items in
    let item = c.index_mut-item.result.now in
    let n = numbered_at f.present item in
    let w = c.args.weight in
    let place = c.args.number - 1 in
    let e =
    found items c.args.number item (omega arith)
    (omega (arith, c.len.ensures, c.if-number-len.false)) c.index_mut-item.ensures.value
    f.present in
    let numbered : numbered_in f.present (set items place c.subtract_item.new.item)
    ≡ set (numbered_in f.present items) place (cited w n) =
    map-set (numbered_at f.present) items place c.subtract_item.new.item
    ∙ ap (set (numbered_in f.present items) place) c.subtract_item.ensures.item in
    (λ i. record (forms_in f) {
      form = c.subtract_item.ensures.form i;
      numbered = numbered i;
      terms = f.terms + c.numbered_size.ensures f.present i;
    })
    ∙ sym (less_is w c.args.number (forms_in f) n e)
    ∙ ap (less_numbered w c.args.number) c.self.view_is
