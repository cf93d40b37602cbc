-- The removed variables are from 1 and have bits.
use Rattle.std.proofs.Common.{◌≡◌, ◌+◌, ◌<◌, ◌≤◌, ◌∙◌, length, arith, ap}
use Rattle.std.specs.Prelude.{All, slice_get}
use Rattle.std.proofs.lemmas.List.Elements.{All-weaker}
use Rattle.reconstruction.specs.Stack.{StackState, IsRemovedWithin}
use Rattle.reconstruction.specs.Removals.{Removed, extended}
use Rattle.reconstruction.specs.Removals.{is_eliminated}
use Rattle.reconstruction.proofs.Extended.{others_keep}
use Rattle.reconstruction.proofs.stack.Stack.extend.Goals as goal

pub extend-requires : goal.extend-requires
extend-requires c =
    let same : length c.args.bits.now ≡ c.self.inside.vars =
    omega (arith, c.requires, ap (λ (s : StackState). s.variables) c.self.view_is) in
    All-weaker (IsRemovedWithin c.self.inside.vars)
    (λ (r : Removed). r.variable ≤ length c.args.bits.now) (λ r h. omega (arith, h.1))
    c.self.inside.removed c.self.invariant

pub returns : goal.returns
returns c =
    let same : c.self.inside.removed ≡ c.args.self.now.removed =
    ap (λ (s : StackState). s.removed) c.self.view_is in
    let some : All (λ (r : Removed). 0 < r.variable) c.self.inside.removed =
    All-weaker (IsRemovedWithin c.self.inside.vars) (λ (r : Removed). 0 < r.variable) (λ r h. h.0)
    c.self.inside.removed c.self.invariant in
    record {
      set = c.extend.ensures ∙ ap (λ rs. extended rs c.args.bits.now) same;
      others = λ v e. ap (λ xs. slice_get xs v) c.extend.ensures
          ∙ others_keep c.self.inside.removed c.args.bits.now v some
          (ap (λ rs. is_eliminated rs (v + 1)) same ∙ e);
    }
