-- New counts, and further outputs of counts, in what holds of the forms.
use Rattle.std.proofs.Common.{◌≡◌, ℕ, ◌+◌, ◌-◌, ◌≤◌, false, List, [], ◌∷◌, ◌++◌, length, refl}
use Rattle.std.proofs.Common.{sym, ◌∙◌, subst, arith}
use Rattle.std.proofs.lemmas.Int.{ints}
use Rattle.std.proofs.lemmas.List.Sums.{sum_by_push}
use Rattle.std.proofs.Math.Nat.{zero-mul}
use Rattle.std.specs.List.{AllByRecursion}
use Rattle.cnf.specs.Literal.{Assignment, Literal, SameBelow, literal_value}
use Rattle.cnf.specs.Clause.{Satisfies, greatest_variable, has_repeat, is_tautology, AreBelow}
use Rattle.cnf.specs.Problem.{Problem}
use Rattle.cnf.specs.Instance.{IsInstance}
use Rattle.cnf.proofs.Laws.{all_left, all_push, all_right, all_weaker}
use Rattle.adder.specs.Network.{SameUpTo}
use Rattle.totalizer.specs.Stages.{Staged, outputs_of, totalizer_of, tree_of}
use Rattle.totalizer.specs.Grown.{HasStages, IsTreeBelow}
use Rattle.cnf.proofs.Laws.{below_more}
use Rattle.totalizer.proofs.Laws.{count_steps, means_same, outputs_count, stages_below, stages_from}
use Rattle.totalizer.proofs.Laws.{stages_size, totalizer_extends, totalizer_has, totalizer_leaves}
use Rattle.totalizer.proofs.Laws.{totalizer_true, tree_below_more, tree_of_below, tree_of_size}
use Rattle.linear.specs.Linear.{true_count}
use Rattle.linear.specs.Costs.{CostForm, widened, width_of}
use Rattle.linear.proofs.Laws.{agrees_widened, value_widened, widened_wide, widened_width}
use Rattle.bound.proofs.Laws.{weighted_same}
use Rattle.forms.specs.Forms.{Numbered, Count, Group}
use Rattle.lrat_cuts.proofs.LawMeaning.{FormHolds, IsCheap, IsCountBelow, IsItemBelow, IsLow}
use Rattle.lrat_cuts.proofs.LawMeaning.{IsMeant, Means, slack}

pub same_count : (t : Assignment) (xs : List Literal)
    → true_count t xs ≡ Rattle.std.specs.List.count_by (literal_value t) xs
same_count t xs = count_steps t (true_count t) refl (λ l ls. refl) xs

pub item_more : (n m : ℕ) (x : Numbered) → n ≤ m → IsItemBelow n x → IsItemBelow m x
item_more n m (Count inputs tree multiplier) le h = record {
  known = below_more n m inputs le h.known;
  below = tree_below_more n m tree le h.below;
  stages = h.stages;
  leaves = h.leaves;
}
item_more n m (Group inputs) le h = below_more n m inputs le h

-- variables from n on may get any value
means_kept : (n : ℕ) (t u : Assignment) (x : Numbered) → SameBelow n t u → IsItemBelow n x
    → Means t x → Means u x
means_kept n t u (Count inputs tree multiplier) same h m = means_same n t u tree same h.below m
means_kept n t u (Group inputs) same h m = tt

pub all_kept : (n : ℕ) (t u : Assignment) (ns : List Numbered) → SameBelow n t u
    → AllByRecursion (IsItemBelow n) ns → AllByRecursion (Means t) ns → AllByRecursion (Means u) ns
all_kept n t u [] same h m = tt
all_kept n t u (x ∷ ns) same h m =
    (means_kept n t u x same h.0 m.0, all_kept n t u ns same h.1 m.1)

-- an assignment with all meanings, with other values from v + 1 on
pub meant_kept : (p : Problem) → IsInstance p → (k v : ℕ) (f : CostForm) (ns : List Numbered)
    (t u : Assignment) → FormHolds p k v f ns → SameBelow (v + 1) t u → IsMeant p ns t
    → IsMeant p ns u
meant_kept p i k v f ns t u h same m = record {
  relaxed = weighted_same p i v h.relaxed t u (λ x le. same x (omega (arith, le))) m.relaxed;
  counts = all_kept (v + 1) t u ns same h.items m.counts;
}

pub choice_kept : (p : Problem) (k v : ℕ) (f : CostForm) (ns : List Numbered) (u t w : Assignment)
    → FormHolds p k v f ns → SameUpTo p.variables u t → SameBelow (v + 1) t w
    → SameUpTo p.variables u w
choice_kept p k v f ns u t w h first second x le =
    let most = h.relaxed in
    second x (omega (arith, le, most)) ∙ first x le

-- literals of different variables up to v
pub record HasVariables (v : ℕ) (c : List Literal) : Type 0 where
  pub once : has_repeat c ≡ false
  pub open_one : is_tautology c ≡ false
  pub greatest : greatest_variable c ≤ v

pub greatest_below : (v : ℕ) (c : List Literal) → greatest_variable c ≤ v → AreBelow (v + 1) c
greatest_below v [] h = tt
greatest_below v (l ∷ c) h = (omega (arith, h), greatest_below v c (omega (arith, h)))

pub known_below : (v : ℕ) (c : List Literal) → HasVariables v c → AreBelow (v + 1) c
known_below v c h = greatest_below v c h.greatest

-- a count that is new
module _ (p : Problem) (i : IsInstance p) (k v : ℕ) (f : CostForm) (ns : List Numbered)
    (h : FormHolds p k v f ns) (outputs : ℕ) (inputs : List Literal)
    (known : HasVariables v inputs) (some : 1 ≤ outputs) (few : outputs ≤ length inputs) where
  abbrev made : Staged
  made = totalizer_of outputs (v + 1) inputs

  abbrev now : List Numbered
  now = ns ++ Count inputs made.tree 0 ∷ []

  from : v + 1 ≤ made.fresh
  from = stages_from outputs 1 (v + 1) (tree_of inputs)

  bare_below : IsTreeBelow (v + 1) (tree_of inputs)
  bare_below =
      tree_of_below (v + 1) inputs known.once known.open_one (omega (arith, known.greatest))

  new_item : IsCountBelow made.fresh inputs made.tree
  new_item =
      let has = totalizer_has outputs (v + 1) inputs in
      let size = stages_size outputs 1 (v + 1) (tree_of inputs)
      ∙ tree_of_size inputs (omega (arith, some, few)) in
      let count = outputs_count outputs made.tree has some (omega (arith, few, size)) in
      record {
        known = below_more (v + 1) made.fresh inputs from (known_below v inputs known);
        below = stages_below outputs 1 (v + 1) (tree_of inputs) bare_below;
        stages = subst (λ n. HasStages n made.tree) (sym count) has;
        leaves = λ t. totalizer_leaves t outputs (v + 1) inputs (omega (arith, some, few))
            ∙ sym (same_count t inputs);
      }

  pub count_back : (t : Assignment) → IsCheap p k now t → IsCheap p k ns t
  count_back t c = record {
    meant = record {
      relaxed = (c.meant).relaxed;
      counts = all_left (Means t) ns (Count inputs made.tree 0 ∷ []) (c.meant).counts;
    };
    feasible = c.feasible;
    cost = c.cost;
  }

  choice : (u : Assignment) → (t : Assignment) × SameUpTo p.variables u t × IsMeant p now t
  choice u =
      let c = h.choice u in
      let e = totalizer_extends c.0 outputs (v + 1) inputs bare_below in
      let m = meant_kept p i k v f ns c.0 e.extended h e.same c.2 in (
        e.extended,
        choice_kept p k v f ns u c.0 e.extended h c.1 e.same,
        record {
          relaxed = m.relaxed;
          counts = all_push (Means e.extended) ns (Count inputs made.tree 0) m.counts e.means;
        },
      )

  pub count_holds : FormHolds p k (made.fresh - 1) (widened made.fresh f) now
  count_holds =
      let next : made.fresh - 1 + 1 ≡ made.fresh = omega (arith, from) in
      record {
        choice = choice;
        relaxed = omega (arith, h.relaxed, from);
        wide = widened_wide made.fresh f h.wide;
        width = omega (arith, from, widened_width made.fresh f);
        items = subst (λ n. AllByRecursion (IsItemBelow n) now) (sym next)
            (all_push (IsItemBelow made.fresh) ns (Count inputs made.tree 0)
            (all_weaker (IsItemBelow (v + 1)) (IsItemBelow made.fresh) ns
            (λ x b. item_more (v + 1) made.fresh x from b) h.items) new_item);
        cost = λ t tight. value_widened (made.fresh - width_of f) f.cost t ∙ h.cost t tight;
        fixed = λ t c. agrees_widened made.fresh f t (h.fixed t (count_back t c));
        groups = λ t c. all_push (IsLow t) ns (Count inputs made.tree 0)
            (h.groups t (count_back t c)) tt;
        facts = λ t c.
            let e = value_widened (made.fresh - width_of f) f.added t in
            let s = sum_by_push (slack t) ns (Count inputs made.tree 0) in
            let z = zero-mul (true_count t inputs - true_count t (outputs_of made.tree)) in
            let b = h.facts t (count_back t c) in
            omega (arith, ints, e, s, z, b);
      }

  pub count_true : (t : Assignment) → IsCheap p k now t → AllByRecursion (Satisfies t) made.clauses
  count_true t c =
      totalizer_true t outputs (v + 1) inputs
      (all_right (Means t) ns (Count inputs made.tree 0 ∷ []) (c.meant).counts).0
