-- What is known of counts and groups, when there are more terms or variables.
use Rattle.std.proofs.Common.{ℕ, ◌+◌, ◌≤◌, List, arith}
use Rattle.std.specs.Prelude.{All}
use Rattle.std.proofs.lemmas.List.Elements.{All-weaker}
use Rattle.totalizer.proofs.Laws.{tree_below_more}
use Rattle.forms.specs.declared.numbered.Numbered.{Numbered as Stamped}
use Rattle.forms.specs.declared.numbered.Numbered.TheVariants.{Count as StampedCount}
use Rattle.forms.specs.declared.numbered.Numbered.TheVariants.{Group as StampedGroup}
use Rattle.forms.specs.Forms.{numbered_size}
use Rattle.forms.specs.Stamped.{numbered_at}
use Rattle.forms.specs.Within.{IsStampedWithin}

pub within_one : (variables m n : ℕ) (x : Stamped) → m ≤ n → IsStampedWithin variables m x
    → IsStampedWithin variables n x
within_one variables m n (StampedGroup lits) le h = h
within_one variables m n (StampedCount c) le h =
    record {
      some = h.some;
      known = h.known;
      below = h.below;
      stages = h.stages;
      halves = h.halves;
      small = h.small;
      often = omega (arith, h.often);
    }

pub within_more : (variables m n : ℕ) (xs : List Stamped) → m ≤ n → All
    (IsStampedWithin variables m) xs
    → All (IsStampedWithin variables n) xs
within_more variables m n xs le h k d lt = within_one variables m n _ le (h k d lt)

-- each fact has a term
pub size_some : (variables terms p : ℕ) (x : Stamped) → IsStampedWithin variables terms x
    → 1 ≤ numbered_size (numbered_at p x)
size_some variables terms p (StampedGroup lits) h = omega (arith, h.0)
size_some variables terms p (StampedCount c) h = omega (arith, h.some)

pub wider_one : (v w terms : ℕ) (n : Stamped) → v ≤ w → IsStampedWithin v terms n
    → IsStampedWithin w terms n
wider_one v w terms (StampedGroup lits) le h = (
  h.0,
  All-weaker (λ l. l.variable ≤ v) (λ l. l.variable ≤ w) (λ l p. omega (arith, p))
      lits.items h.1,
)
wider_one v w terms (StampedCount c) le h = record {
  some = h.some;
  known = All-weaker (λ l. l.variable ≤ v) (λ l. l.variable ≤ w) (λ l p. omega (arith, p))
      c.inputs.items h.known;
  below = tree_below_more (v + 1) (w + 1) c.totalizer (omega arith) h.below;
  stages = h.stages;
  halves = h.halves;
  small = h.small;
  often = h.often;
}

pub within_wider : (v w terms : ℕ) (xs : List Stamped) → v ≤ w → All (IsStampedWithin v terms) xs
    → All (IsStampedWithin w terms) xs
within_wider v w terms xs le h k d lt = wider_one v w terms _ le (h k d lt)
