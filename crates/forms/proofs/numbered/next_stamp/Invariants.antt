-- The counts so far are forgotten, and the others are as they were.
use Rattle.std.proofs.Common.{◌≡◌, ℕ, length, take, drop}
use Rattle.std.specs.Prelude.{All}
use Rattle.forms.specs.Forms.{cleared}
use Rattle.forms.specs.Stamped.{AreStamped, numbered_in}
use Rattle.forms.specs.Within.{IsStampedWithin}
use Rattle.forms.proofs.numbered.next_stamp.Given as goal

abbrev pub invariant-loop-place : goal.invariant-loop-place
invariant-loop-place l = record {
  long : length l.numbered.items ≡ length l.initial.numbered.items;
  cleared : numbered_in 1 (take l.place l.numbered.items)
      ≡ cleared (numbered_in l.present (take l.place l.initial.numbered.items));
  others : drop l.place l.numbered.items ≡ drop l.place l.initial.numbered.items;
  stamped : AreStamped 1 (take l.place l.numbered.items);
  within : (variables terms : ℕ) → All (IsStampedWithin variables terms) l.initial.numbered.items
      → All (IsStampedWithin variables terms) l.numbered.items;
}
