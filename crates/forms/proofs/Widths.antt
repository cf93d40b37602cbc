-- The widths of forms, which facts leave as they are.
use Rattle.std.proofs.Common.{◌≡◌, ℕ, refl}
use Rattle.linear.specs.Costs.{CostForm, width_of}
use Rattle.forms.specs.Forms.{Numbered, Count, Group, less_item}

pub item_width : (w : ℕ) (n : Numbered) (f : CostForm) → width_of (less_item w n f) ≡ width_of f
item_width w (Group inputs) f = refl
item_width w (Count inputs tree multiplier) f = refl
