-- What is known of counts and groups.
use Rattle.std.specs.Prelude.{ℕ, ◌+◌, ◌*◌, ◌<◌, ◌≤◌, ◌^◌, List, All, length}
use Rattle.cnf.specs.Literal.{Literal}
use Rattle.totalizer.specs.Stages.{Tree, outputs_of, size_of}
use Rattle.totalizer.specs.Grown.{HasHalvesApart, HasStages, IsTreeBelow}
use Rattle.forms.specs.declared.numbered.Numbered.{Numbered as Stamped}
use Rattle.forms.specs.declared.numbered.Numbered.TheVariants.{Count as StampedCount}
use Rattle.forms.specs.declared.numbered.Numbered.TheVariants.{Group as StampedGroup}

-- what is known of a count: its literals have variables up to a number
pub record IsCount (variables terms : ℕ) (inputs : List Literal) (tree : Tree) (multiplier : ℕ) :
    Type 0 where
  pub some : 0 < length inputs
  pub known : All (λ l. l.variable ≤ variables) inputs
  pub below : IsTreeBelow (variables + 1) tree
  pub stages : HasStages (length (outputs_of tree)) tree
  pub halves : HasHalvesApart tree
  pub small : size_of tree ≤ 2 ^ 26
  pub often : multiplier ≤ terms * 2 ^ 62

-- and of a count or group
abbrev pub IsStampedWithin : ℕ → ℕ → Stamped → Type 0
IsStampedWithin variables terms (StampedGroup lits) =
    (2 ≤ length lits.items) × All (λ l. l.variable ≤ variables) lits.items
IsStampedWithin variables terms (StampedCount c) =
    IsCount variables terms c.inputs.items c.totalizer c.multiplier

-- what it takes to have its fact in a form of some width
abbrev pub CanCite : ℕ → Stamped → Type 0
CanCite width (StampedGroup lits) =
    (0 < length lits.items) × All (λ l. l.variable < width) lits.items
CanCite width (StampedCount c) =
    (0 < length c.inputs.items) × All (λ l. l.variable < width) c.inputs.items
    × All (λ l. l.variable < width) (outputs_of c.totalizer) × (c.multiplier ≤ 2 ^ 120)

-- a count has fewer outputs than literals, and not too many
abbrev pub CanGrow : Stamped → Type 0
CanGrow (StampedGroup lits) = ⊥
CanGrow (StampedCount c) =
    (length (outputs_of c.totalizer) < size_of c.totalizer) × (size_of c.totalizer ≤ 2 ^ 26)
