-- What relaxation literals and counts mean, and what holds of the forms along the lines.
use Rattle.std.proofs.Common.{◌≡◌, ℕ, zero, suc, ℤ, pos, negsuc, ◌+ℤ◌, ◌*ℤ◌, ◌≤ℤ◌, ◌+◌, ◌-◌, ◌*◌}
use Rattle.std.proofs.Common.{◌/◌, ◌<◌, ◌≤◌, min, List, Some, sum_by, length, inl, inr, refl, ◌∙◌}
use Rattle.std.proofs.Common.{ap, arith, add-one}
use Rattle.std.proofs.lemmas.Int.{ints}
use Rattle.std.proofs.lemmas.Bool.{cases_lt}
use Rattle.std.proofs.lemmas.Option.{none-some, same_Some}
use Rattle.std.proofs.Math.Nat.{zero-mul, suc-mul, mul_comm, div-lt_iff_lt-mul}
use Rattle.std.specs.List.{AllByRecursion}
use Rattle.cnf.specs.Literal.{Assignment, Literal}
use Rattle.cnf.specs.Problem.{Problem, IsFeasible, cost_under}
use Rattle.cnf.specs.Instance.{IsInstance}
use Rattle.cnf.specs.declared.limits.TheConstants.{NUMBER_LIMIT}
use Rattle.adder.specs.declared.profiles.Profile.TheVariants.{Two}
use Rattle.adder.specs.Network.{relaxed_variables, SameUpTo}
use Rattle.totalizer.specs.Stages.{Tree, outputs_of, true_leaves}
use Rattle.cnf.specs.Clause.{AreBelow}
use Rattle.totalizer.specs.Grown.{HasStages, IsTreeBelow, MeansRight}
use Rattle.linear.specs.Linear.{true_count, value}
use Rattle.linear.specs.Costs.{AgreesWith, CostForm, HasOneWidth, form_value, width_of}
use Rattle.bound.proofs.Laws.{AreTight, feasible_same, solution_cost}
use Rattle.forms.specs.Forms.{Numbered, Count, Group, worth_of}

-- the outputs of a count mean what they should
abbrev pub Means : Assignment → Numbered → Type 0
Means t (Count inputs tree multiplier) = MeansRight t tree
Means t (Group inputs) = Unit {0}

-- relaxation literals and outputs of counts have their meaning
pub record IsMeant (p : Problem) (ns : List Numbered) (t : Assignment) : Type 0 where
  pub relaxed : AreTight t p
  pub counts : AllByRecursion (Means t) ns

-- a solution that costs less than k, in which they have their meaning
pub record IsCheap (p : Problem) (k : ℕ) (ns : List Numbered) (t : Assignment) : Type 0 where
  pub meant : IsMeant p ns t
  pub feasible : IsFeasible p t
  pub cost : cost_under p t < k

-- what the facts of a count in the form come to
abbrev pub slack : Assignment → Numbered → ℕ
slack t (Count inputs tree multiplier) =
    multiplier * (true_count t inputs - true_count t (outputs_of tree))
slack t (Group inputs) = 0

-- at most one literal of a group is true
abbrev pub IsLow : Assignment → Numbered → Type 0
IsLow t (Count inputs tree multiplier) = Unit {0}
IsLow t (Group inputs) = true_count t inputs ≤ 1

-- a count whose variables are below n
pub record IsCountBelow (n : ℕ) (inputs : List Literal) (tree : Tree) : Type 0 where
  pub known : AreBelow n inputs
  pub below : IsTreeBelow n tree
  pub stages : HasStages (length (outputs_of tree)) tree
  pub leaves : (t : Assignment) → true_leaves t tree ≡ true_count t inputs

abbrev pub IsItemBelow : ℕ → Numbered → Type 0
IsItemBelow n (Count inputs tree multiplier) = IsCountBelow n inputs tree
IsItemBelow n (Group inputs) = AreBelow n inputs

-- what holds of the variables up to v, the present form, and counts and groups, where the cuts have
-- to hold for costs below k
pub record FormHolds (p : Problem) (k v : ℕ) (f : CostForm) (ns : List Numbered) : Type 0 where
  pub choice : (u : Assignment) → (t : Assignment) × SameUpTo p.variables u t × IsMeant p ns t
  pub relaxed : relaxed_variables Two p ≤ v
  pub wide : HasOneWidth f
  pub width : v < width_of f
  pub items : AllByRecursion (IsItemBelow (v + 1)) ns
  pub cost : (t : Assignment) → AreTight t p → value f.cost t ≡ pos (cost_under p t)
  pub fixed : (t : Assignment) → IsCheap p k ns t → AgreesWith f.fixed t
  pub groups : (t : Assignment) → IsCheap p k ns t → AllByRecursion (IsLow t) ns
  pub facts : (t : Assignment) → IsCheap p k ns t
      → (value f.added t +ℤ pos (sum_by (slack t) ns)) ≤ℤ pos 0

-- where fewer solutions are cheap
pub cheap_more : (p : Problem) (k m : ℕ) (ns : List Numbered) (t : Assignment) → k ≤ m
    → IsCheap p k ns t → IsCheap p m ns t
cheap_more p k m ns t le c =
    record { meant = c.meant; feasible = c.feasible; cost = omega (arith, le, c.cost) }

pub holds_less : (p : Problem) (k m v : ℕ) (f : CostForm) (ns : List Numbered) → k ≤ m
    → FormHolds p m v f ns → FormHolds p k v f ns
holds_less p k m v f ns le h = record {
  choice = h.choice;
  relaxed = h.relaxed;
  wide = h.wide;
  width = h.width;
  items = h.items;
  cost = h.cost;
  fixed = λ t c. h.fixed t (cheap_more p k m ns t le c);
  groups = λ t c. h.groups t (cheap_more p k m ns t le c);
  facts = λ t c. h.facts t (cheap_more p k m ns t le c);
}

-- another form, over at least as many variables, that says no more beside the cost
pub holds_form : (p : Problem) (k v : ℕ) (f g : CostForm) (ns : List Numbered)
    → FormHolds p k v f ns → HasOneWidth g → width_of f ≤ width_of g
    → ((t : Assignment) → value g.cost t ≡ value f.cost t)
    → ((t : Assignment) → IsCheap p k ns t → AgreesWith g.fixed t)
    → ((t : Assignment) → IsCheap p k ns t → value g.added t ≤ℤ value f.added t)
    → FormHolds p k v g ns
holds_form p k v f g ns h wide width cost fixed rest = record {
  choice = h.choice;
  relaxed = h.relaxed;
  wide = wide;
  width = omega (arith, h.width, width);
  items = h.items;
  cost = λ t tight. cost t ∙ h.cost t tight;
  fixed = fixed;
  groups = h.groups;
  facts = λ t c. let a = h.facts t c in let b = rest t c in omega (arith, ints, a, b);
}

-- nothing costs less than k where no solution that does has all meanings
pub none_cheap : (p : Problem) → IsInstance p → (k v : ℕ) (f : CostForm) (ns : List Numbered)
    → FormHolds p k v f ns → ((t : Assignment) → IsCheap p k ns t → ⊥) → (u : Assignment)
    → IsFeasible p u → k ≤ cost_under p u
none_cheap p i k v f ns h none u feasible =
    let c = h.choice u in
    let same = solution_cost p i u c.0 c.1 in
    elim (cases_lt (cost_under p u) k) [
      | inl lt ↦ absurd (none c.0 (record {
        meant = c.2;
        feasible = feasible_same p i u c.0 c.1 feasible;
        cost = omega (arith, same, lt);
      }))
      | inr le ↦ le
    ]

-- the form is at most the scale times the cost
pub form_at_most : (p : Problem) (k v : ℕ) (f : CostForm) (ns : List Numbered) (t : Assignment)
    → FormHolds p k v f ns → IsCheap p k ns t
    → form_value f t ≤ℤ pos (f.scale * cost_under p t)
form_at_most p k v f ns t h c =
    let cost = h.cost t (c.meant).relaxed in
    let product : pos f.scale *ℤ value f.cost t ≡ pos (f.scale * cost_under p t)
    = ap (λ x. pos f.scale *ℤ x) cost in
    let facts = h.facts t c in
    omega (arith, ints, product, facts)

quotient_at_most : (n d c : ℕ) → n ≤ suc d * c + d → n / suc d ≤ c
quotient_at_most n d c le =
    let some : 0 < suc d = omega arith in
    let product : (c + 1) * suc d ≡ suc d * c + suc d
    = ap (λ x. x * suc d) (add-one c) ∙ suc-mul c (suc d)
    ∙ ap (λ x. x + suc d) (mul_comm c (suc d)) in
    let small : n < (c + 1) * suc d = omega (arith, le, product) in
    let less : n / suc d < c + 1 = (div-lt_iff_lt-mul some).1 small in
    omega (arith, less)

-- what a least value is worth is at most a cost that the form allows
pub worth_at_most : (d : ℕ) (low : ℤ) (w c : ℕ) → worth_of d low ≡ Some w
    → low ≤ℤ pos (d * c) → w ≤ c
worth_at_most zero (pos zero) w c e le = absurd (none-some w e)
worth_at_most zero (pos (suc n)) w c e le =
    let z = zero-mul c in
    absurd (omega (arith, ints, le, z))
worth_at_most zero (negsuc n) w c e le = absurd (none-some w e)
worth_at_most (suc d) low w c e le =
    elim (low +ℤ pos d) as (λ x. low +ℤ pos d ≡ x → w ≤ c) [
      | pos n ↦ λ s.
          let is : Some (min NUMBER_LIMIT (n / suc d)) ≡ Some w = rw s at e in
          let most : n ≤ suc d * c + d = omega (arith, ints, le, s) in
          let less = quotient_at_most n d c most in
          omega (arith, less, same_Some (min NUMBER_LIMIT (n / suc d)) w is)
      | negsuc n ↦ λ s. absurd (none-some w (rw s at e))
    ] refl
