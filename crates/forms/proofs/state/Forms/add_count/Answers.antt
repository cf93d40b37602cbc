-- A count is made.
use Rattle.std.proofs.Common.{◌≡◌, ◌+◌, ◌-◌, true, refl, ap, sym, ◌∙◌, arith, subst}
use Rattle.std.proofs.lemmas.Result.{IfOk-from_err}
use Rattle.totalizer.specs.Stages.{stages}
use Rattle.linear.specs.Costs.{width_of}
use Rattle.forms.specs.declared.faults.TheConstants.{MOST_COUNT_CLAUSES}
use Rattle.forms.specs.Answers.{IsGrown}
use Rattle.forms.specs.Forms.{are_known, count_line}
use Rattle.forms.proofs.MassLaws.{mass_rises}
use Rattle.forms.proofs.NewCount.{new_bare, new_count, new_few, new_from, new_limit, new_line}
use Rattle.forms.proofs.NewCount.{new_room, new_size, new_worth}
use Rattle.linear.proofs.Laws.{widened_width}
use Rattle.forms.proofs.Withins.{within_wider}
use Rattle.forms.proofs.state.Forms.add_count.Goals as goal

pub add_stages-requires-clause-bare : goal.add_stages-requires-clause-bare
add_stages-requires-clause-bare c =
    let f = c.self.inside in
    let known =
    subst (λ s. are_known s c.args.inputs.now ≡ true) (sym c.self.view_is) c.requires.known in
    new_bare c.args.outputs c.args.inputs.now f c.self.invariant known c.requires.some
    c.requires.few
    c.in_ok-totalizer.totalizer c.in_ok-totalizer.ensures

pub add_stages-requires-clause-few : goal.add_stages-requires-clause-few
add_stages-requires-clause-few c =
    let f = c.self.inside in
    let known =
    subst (λ s. are_known s c.args.inputs.now ≡ true) (sym c.self.view_is) c.requires.known in
    omega (
      arith,
      c.requires.few,
      new_size c.args.outputs c.args.inputs.now f c.self.invariant known c.requires.some
          c.requires.few
          c.in_ok-totalizer.totalizer c.in_ok-totalizer.ensures,
    )

pub add_stages-requires-clause-variables : goal.add_stages-requires-clause-variables
add_stages-requires-clause-variables c =
    let f = c.self.inside in
    let known =
    subst (λ s. are_known s c.args.inputs.now ≡ true) (sym c.self.view_is) c.requires.known in
    new_room c.args.outputs c.args.inputs.now f c.self.invariant known c.requires.some
    c.requires.few
    c.in_ok-totalizer.totalizer c.in_ok-totalizer.ensures

pub widen-requires : goal.widen-requires
widen-requires c =
    let f = c.self.inside in
    let known =
    subst (λ s. are_known s c.args.inputs.now ≡ true) (sym c.self.view_is) c.requires.known in
    let has =
    subst (IsGrown (stages c.args.outputs 1 (f.variables + 1) c.in_ok-totalizer.totalizer)
    (MOST_COUNT_CLAUSES - f.made) c.add_stages.new.totalizer c.add_stages.new.clauses)
    c.in-Some.is c.in_ok-next.ensures in
    omega (
      arith,
      new_from c.args.outputs c.args.inputs.now f c.self.invariant known c.requires.some
          c.requires.few
          c.in_ok-totalizer.totalizer c.in_ok-totalizer.ensures
          c.add_stages.new.totalizer c.add_stages.new.clauses c.in-Some.fresh has,
    )

pub overflow_sub-self : goal.overflow_sub-self
overflow_sub-self c =
    let f = c.self.inside in
    let known =
    subst (λ s. are_known s c.args.inputs.now ≡ true) (sym c.self.view_is) c.requires.known in
    let has =
    subst (IsGrown (stages c.args.outputs 1 (f.variables + 1) c.in_ok-totalizer.totalizer)
    (MOST_COUNT_CLAUSES - f.made) c.add_stages.new.totalizer c.add_stages.new.clauses)
    c.in-Some.is c.in_ok-next.ensures in
    omega (
      arith,
      new_from c.args.outputs c.args.inputs.now f c.self.invariant known c.requires.some
          c.requires.few
          c.in_ok-totalizer.totalizer c.in_ok-totalizer.ensures
          c.add_stages.new.totalizer c.add_stages.new.clauses c.in-Some.fresh has,
    )

pub invariant_of-self-2 : goal.invariant_of-self-2
invariant_of-self-2 c =
    let f = c.self.inside in
    let known =
    subst (λ s. are_known s c.args.inputs.now ≡ true) (sym c.self.view_is) c.requires.known in
    let has =
    subst (IsGrown (stages c.args.outputs 1 (f.variables + 1) c.in_ok-totalizer.totalizer)
    (MOST_COUNT_CLAUSES - f.made) c.add_stages.new.totalizer c.add_stages.new.clauses)
    c.in-Some.is c.in_ok-next.ensures in
    let v = c.in-Some.fresh in
    let cs = c.add_stages.new.clauses in
    let from =
    new_from c.args.outputs c.args.inputs.now f c.self.invariant known c.requires.some
    c.requires.few
    c.in_ok-totalizer.totalizer c.in_ok-totalizer.ensures
    c.add_stages.new.totalizer c.add_stages.new.clauses c.in-Some.fresh has in
    let worth =
    new_worth c.args.outputs c.args.inputs.now f c.self.invariant known c.requires.some
    c.requires.few
    c.in_ok-totalizer.totalizer c.in_ok-totalizer.ensures
    c.add_stages.new.totalizer c.add_stages.new.clauses c.in-Some.fresh has in
    let few =
    new_few c.args.outputs c.args.inputs.now f c.self.invariant known c.requires.some
    c.requires.few
    c.in_ok-totalizer.totalizer c.in_ok-totalizer.ensures
    c.add_stages.new.totalizer c.add_stages.new.clauses c.in-Some.fresh has in
    let count =
    new_count c.args.outputs c.args.inputs.now f c.self.invariant known c.requires.some
    c.requires.few
    c.in_ok-totalizer.totalizer c.in_ok-totalizer.ensures
    c.add_stages.new.totalizer c.add_stages.new.clauses c.in-Some.fresh has in
    let wide = ap (λ b. width_of b.form) c.in_ok-widen.ensures.widened in
    record {
      width = omega (arith, wide, widened_width v (f.bound).form, from);
      marks = c.in_ok-widen.ensures.marks;
      variables = omega (arith, from, worth, c.len.ensures, c.self.invariant.variables);
      made = omega (arith, few, c.len.ensures);
      terms = c.self.invariant.terms;
      mass =
          omega (
            arith,
            c.in_ok-widen.ensures.mass,
            c.self.invariant.mass,
            mass_rises f.terms f.made c.len.result,
          );
      within =
          c.in_ok-push_count.ensures.within (v - 1) f.terms
          (within_wider f.variables (v - 1) f.terms f.numbered.items (omega (arith, from))
          c.self.invariant.within) count;
      stamped = c.in_ok-push_count.ensures.stamped f.present c.self.invariant.stamped;
    }

pub returns : goal.returns
returns c =
    let f = c.self.inside in
    let known =
    subst (λ s. are_known s c.args.inputs.now ≡ true) (sym c.self.view_is) c.requires.known in
    let has =
    subst (IsGrown (stages c.args.outputs 1 (f.variables + 1) c.in_ok-totalizer.totalizer)
    (MOST_COUNT_CLAUSES - f.made) c.add_stages.new.totalizer c.add_stages.new.clauses)
    c.in-Some.is c.in_ok-next.ensures in
    ap (count_line c.args.outputs c.args.inputs.now) (sym c.self.view_is)
    ∙ new_line c.args.outputs c.args.inputs.now f c.self.invariant known c.requires.some
    c.requires.few
    c.in_ok-totalizer.totalizer c.in_ok-totalizer.ensures
    c.add_stages.new.totalizer c.add_stages.new.clauses c.in-Some.fresh has
    (c.widen.new.bound).form c.len.result _ c.len.ensures
    (ap (λ b. b.form) c.in_ok-widen.ensures.widened)
    (c.in_ok-push_count.ensures.count f.present)

pub returns-in_default : goal.returns-in_default
returns-in_default c =
    let f = c.self.inside in
    let known =
    subst (λ s. are_known s c.args.inputs.now ≡ true) (sym c.self.view_is) c.requires.known in
    let many =
    subst (IsGrown (stages c.args.outputs 1 (f.variables + 1) c.in_ok-totalizer.totalizer)
    (MOST_COUNT_CLAUSES - f.made) c.add_stages.new.totalizer c.add_stages.new.clauses)
    c.in_default.is c.in_ok-next.ensures in (
      ap (count_line c.args.outputs c.args.inputs.now) (sym c.self.view_is)
          ∙ new_limit c.args.outputs c.args.inputs.now f c.self.invariant known c.requires.some
          c.requires.few c.in_ok-totalizer.totalizer c.in_ok-totalizer.ensures many,
      refl,
      c.clear.ensures,
    )

pub returns-in_err-totalizer : goal.returns-in_err-totalizer
returns-in_err-totalizer c = IfOk-from_err c.from_residual.result _ c.from_residual.ensures.0

pub returns-in_err-next : goal.returns-in_err-next
returns-in_err-next c =
    IfOk-from_err c.from_residual-in_err-next.result _ c.from_residual-in_err-next.ensures.0

pub returns-in_err-widen : goal.returns-in_err-widen
returns-in_err-widen c =
    IfOk-from_err c.from_residual-in_err-widen.result _ c.from_residual-in_err-widen.ensures.0

pub returns-in_err-push_count : goal.returns-in_err-push_count
returns-in_err-push_count c =
    IfOk-from_err c.from_residual-in_err-push_count.result _
    c.from_residual-in_err-push_count.ensures.0
