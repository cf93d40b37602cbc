use Rattle.std.proofs.Common.{◌≡◌, ◌≤◌, ◌++◌, ◌∷◌, [], ◌∙◌, sym, ap, true, subst, length, arith}
use Rattle.std.specs.Prelude.{All}
use Rattle.std.proofs.lemmas.List.Elements.{All-from_recursion, recursion_from_All}
use Rattle.std.proofs.lemmas.Result.{IfOk-from_err}
use Rattle.cnf.proofs.Laws.{all_push}
use Rattle.forms.specs.declared.numbered.Numbered.TheVariants.{Group as StampedGroup}
use Rattle.forms.specs.Forms.{are_known}
use Rattle.forms.specs.Kept.{forms_in}
use Rattle.forms.specs.Stamped.{IsStamped}
use Rattle.forms.specs.Within.{IsStampedWithin}
use Rattle.forms.proofs.Knowing.{each_within, known}
use Rattle.forms.proofs.state.Forms.group.Goals as goal

pub invariant_of-self-2 : goal.invariant_of-self-2
invariant_of-self-2 g c =
    let old = c.self.invariant in
    let f = c.self.inside in
    let lits = c.args.lits.now in
    let items = f.numbered.items in
    let item = StampedGroup c.in_ok-lits.lits in
    let same : forms_in f ≡ c.args.self.now = c.self.view_is ∙ c.are_known.ensures.unchanged in
    let h : are_known (forms_in f) lits ≡ true =
    ap (λ x. are_known x lits) same ∙ sym c.if-not-are_known.ensures.known in
    let all = each_within f.variables lits (known (forms_in f) lits h).below in
    let within : IsStampedWithin f.variables f.terms item = (
      omega (arith, c.if-lits-lt2.false, ap length c.in_ok-lits.ensures.items),
      subst (All (λ l. l.variable ≤ f.variables)) (sym c.in_ok-lits.ensures.items) all,
    ) in
    record {
      width = old.width;
      marks = old.marks;
      variables = old.variables;
      made = old.made;
      terms = old.terms;
      mass = old.mass;
      within =
          subst (All (IsStampedWithin f.variables f.terms)) (sym c.in_ok-push.ensures.items)
          (All-from_recursion (IsStampedWithin f.variables f.terms) (items ++ item ∷ [])
          (all_push (IsStampedWithin f.variables f.terms) items item
          (recursion_from_All (IsStampedWithin f.variables f.terms) items old.within) within));
      stamped =
          subst (All (IsStamped f.present)) (sym c.in_ok-push.ensures.items)
          (All-from_recursion (IsStamped f.present) (items ++ item ∷ [])
          (all_push (IsStamped f.present) items item
          (recursion_from_All (IsStamped f.present) items old.stamped) tt));
    }

pub returns-in_err-lits : goal.returns-in_err-lits
returns-in_err-lits g c = IfOk-from_err c.from_residual.result _ c.from_residual.ensures.0

pub returns-in_err-push : goal.returns-in_err-push
returns-in_err-push g c =
    IfOk-from_err c.from_residual-in_err-push.result _ c.from_residual-in_err-push.ensures.0
