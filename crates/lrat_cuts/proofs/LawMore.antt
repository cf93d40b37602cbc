-- One more output of a count, in what holds of the forms.
use Rattle.std.proofs.Common.{◌≡◌, ℕ, zero, suc, pos, ◌+ℤ◌, ◌≤ℤ◌, ◌+◌, ◌-◌, ◌*◌, ◌<◌, ◌≤◌, List, []}
use Rattle.std.proofs.Common.{◌∷◌, ◌++◌, Some, length, sum_by, set, get_or, slice_get, sym, ◌∙◌, ap}
use Rattle.std.proofs.Common.{subst, arith}
use Rattle.std.proofs.lemmas.Int.{ints}
use Rattle.std.proofs.lemmas.List.Sums.{sum_by-set}
use Rattle.std.proofs.lemmas.Option.{none-some, same_Some, get_or_from_slice_get, slice_get_within}
use Rattle.std.proofs.Math.Nat.{mul-add}
use Rattle.std.specs.List.{AllByRecursion}
use Rattle.cnf.specs.Literal.{Assignment, Literal, positive}
use Rattle.cnf.specs.Clause.{Satisfies}
use Rattle.cnf.specs.Problem.{Problem}
use Rattle.cnf.specs.Instance.{IsInstance}
use Rattle.cnf.proofs.Laws.{all_weaker, below_more}
use Rattle.adder.specs.Network.{SameUpTo}
use Rattle.totalizer.specs.Stages.{Tree, Leaf, Node, Staged, outputs_of, size_of, stage}
use Rattle.totalizer.specs.Grown.{HasStages, MeansRight}
use Rattle.totalizer.proofs.Laws.{outputs_at_most, outputs_more, outputs_next, stage_below}
use Rattle.totalizer.proofs.Laws.{stage_extends, stage_has, stage_leaves, stage_means_back}
use Rattle.totalizer.proofs.Laws.{stage_takes, stage_true}
use Rattle.linear.specs.Linear.{true_count, value}
use Rattle.linear.specs.Costs.{CostForm, widened, width_of}
use Rattle.linear.proofs.Laws.{agrees_widened, literals_width, value_literals, value_widened}
use Rattle.linear.proofs.Laws.{widened_wide, widened_width}
use Rattle.forms.specs.Forms.{Numbered, Count, last_of, plus}
use Rattle.lrat_cuts.proofs.LawMeaning.{FormHolds, IsCheap, IsCountBelow, IsItemBelow, IsLow}
use Rattle.lrat_cuts.proofs.LawMeaning.{IsMeant, Means, slack}
use Rattle.forms.proofs.Laws.{last_push}
use Rattle.lrat_cuts.proofs.LawCounts.{choice_kept, item_more}
use Rattle.lrat_cuts.proofs.LawCounts.{meant_kept, same_count}

-- what holds of each element of a list in which one is changed
pub all_place : {X : Type 0} (P : X → Type 0) (xs : List X) (j : ℕ) (x : X)
    → slice_get xs j ≡ Some x → AllByRecursion P xs → P x
all_place P [] j x e h = absurd (none-some x e)
all_place P (y ∷ xs) zero x e h = subst P (same_Some y x e) h.0
all_place P (y ∷ xs) (suc j) x e h = all_place P xs j x e h.1

pub all_set : {X : Type 0} (P : X → Type 0) (xs : List X) (j : ℕ) (y : X) → AllByRecursion P xs
    → P y → AllByRecursion P (set xs j y)
all_set P [] j y h g = h
all_set P (x ∷ xs) zero y h g = (g, h.1)
all_set P (x ∷ xs) (suc j) y h g = (h.0, all_set P xs j y h.1 g)

pub all_here : {X : Type 0} (P : X → Type 0) (xs : List X) (j : ℕ) (x y : X)
    → slice_get xs j ≡ Some x → AllByRecursion P (set xs j y) → P y
all_here P [] j x y e h = absurd (none-some x e)
all_here P (z ∷ xs) zero x y e h = h.0
all_here P (z ∷ xs) (suc j) x y e h = all_here P xs j x y e h.1

pub all_back : {X : Type 0} (P : X → Type 0) (xs : List X) (j : ℕ) (x y : X)
    → slice_get xs j ≡ Some x → AllByRecursion P (set xs j y) → P x → AllByRecursion P xs
all_back P [] j x y e h g = h
all_back P (z ∷ xs) zero x y e h g = (subst P (sym (same_Some z x e)) g, h.1)
all_back P (z ∷ xs) (suc j) x y e h g = (h.0, all_back P xs j x y e h.1 g)

size_some : (tree : Tree) → 1 ≤ size_of tree
size_some (Leaf l) = omega arith
size_some (Node a b outputs) = omega (arith, size_some a, size_some b)

some_leaves : (tree : Tree) → length (outputs_of tree) < size_of tree → 1 < size_of tree
some_leaves (Leaf l) few = omega arith
some_leaves (Node a b outputs) few = omega (arith, size_some a, size_some b)

pub count_push : (t : Assignment) (c : List Literal) (l : Literal)
    → true_count t (c ++ l ∷ []) ≡ true_count t c + true_count t (l ∷ [])
count_push t [] l = omega arith
count_push t (m ∷ c) l = omega (arith, count_push t c l)

-- m times the difference, with one more output
less_slack : (m a b o : ℕ) → b + o ≤ a → m * (a - (b + o)) + m * o ≡ m * (a - b)
less_slack m a b o le =
    let e : (a - (b + o)) + o ≡ a - b = omega (arith, le) in
    sym (mul-add m (a - (b + o)) o) ∙ ap (λ x. m * x) e

module _ (p : Problem) (i : IsInstance p) (k v : ℕ) (f : CostForm) (ns : List Numbered)
    (h : FormHolds p k v f ns) (j : ℕ) (inputs : List Literal) (tree : Tree) (m : ℕ)
    (here : slice_get ns j ≡ Some (Count inputs tree m))
    (few : length (outputs_of tree) < size_of tree) where
  abbrev next : Staged
  next = stage (length (outputs_of tree) + 1) (v + 1) tree

  abbrev old : Numbered
  old = Count inputs tree m

  abbrev new : Numbered
  new = Count inputs next.tree m

  abbrev now : List Numbered
  now = set ns j new

  abbrev wide : CostForm
  wide = widened next.fresh f

  abbrev own : Literal
  own = positive (next.fresh - 1)

  item : IsCountBelow (v + 1) inputs tree
  item = all_place (IsItemBelow (v + 1)) ns j old here h.items

  from : v + 1 ≤ next.fresh
  from = (stage_takes (length (outputs_of tree) + 1) (v + 1) tree).from

  grown : outputs_of next.tree ≡ outputs_of tree ++ own ∷ []
  grown =
      outputs_next (length (outputs_of tree) + 1) (v + 1) tree (some_leaves tree few)
      (omega (arith, few))

  new_item : IsCountBelow next.fresh inputs next.tree
  new_item = record {
    known = below_more (v + 1) next.fresh inputs from item.known;
    below = stage_below (length (outputs_of tree) + 1) (v + 1) tree item.below;
    stages = subst (λ n. HasStages n next.tree) (sym (outputs_more (v + 1) tree few))
        (stage_has (length (outputs_of tree)) (v + 1) tree item.stages);
    leaves = λ t. stage_leaves t (length (outputs_of tree) + 1) (v + 1) tree ∙ item.leaves t;
  }

  means_new : (t : Assignment) → IsCheap p k now t → MeansRight t next.tree
  means_new t c = all_here (Means t) ns j old new here (c.meant).counts

  pub more_back : (t : Assignment) → IsCheap p k now t → IsCheap p k ns t
  more_back t c =
      let back = stage_means_back t (length (outputs_of tree) + 1) (v + 1) tree (means_new t c) in
      record {
        meant = record {
          relaxed = (c.meant).relaxed;
          counts = all_back (Means t) ns j old new here (c.meant).counts back;
        };
        feasible = c.feasible;
        cost = c.cost;
      }

  choice : (u : Assignment) → (t : Assignment) × SameUpTo p.variables u t × IsMeant p now t
  choice u =
      let c = h.choice u in
      let mean = all_place (Means c.0) ns j old here (c.2).counts in
      let e = stage_extends c.0 (length (outputs_of tree) + 1) (v + 1) tree item.below mean in
      let kept = meant_kept p i k v f ns c.0 e.extended h e.same c.2 in (
        e.extended,
        choice_kept p k v f ns u c.0 e.extended h c.1 e.same,
        record {
          relaxed = kept.relaxed;
          counts = all_set (Means e.extended) ns j new kept.counts e.means;
        },
      )

  facts : (t : Assignment) → IsCheap p k now t
      → (value (plus (pos m) (own ∷ []) wide).added t +ℤ pos (sum_by (slack t) now)) ≤ℤ pos 0
  facts t c =
      let n = next.fresh in
      let wider = widened_wide n f h.wide in
      let low : n ≤ width_of wide = widened_width n f in
      let a = true_count t inputs in
      let b = true_count t (outputs_of tree) in
      let o = true_count t (own ∷ []) in
      let outputs : true_count t (outputs_of next.tree) ≡ b + o
      = ap (true_count t) grown ∙ count_push t (outputs_of tree) own in
      let most : b + o ≤ a = omega (
        arith,
        outputs_at_most t next.tree (means_new t c),
        same_count t (outputs_of next.tree),
        outputs,
        new_item.leaves t,
      ) in
      let e = value_widened (n - width_of f) f.added t in
      let d = value_literals (pos m) (own ∷ []) wide.added (width_of wide) t (sym wider.added)
      (omega (arith, low, from), tt) in
      let within = slice_get_within ns j old here in
      let there : get_or ns j old ≡ old = get_or_from_slice_get ns j old old here in
      let s = sum_by-set (slack t) ns j new old within in
      let was : slack t (get_or ns j old) ≡ m * (a - b) = ap (slack t) there in
      let is : slack t new ≡ m * (a - (b + o)) = ap (λ x. m * (a - x)) outputs in
      let q = less_slack m a b o most in
      let z = h.facts t (more_back t c) in
      omega (arith, ints, e, d, s, was, is, q, z)

  pub more_holds : FormHolds p k (next.fresh - 1)
      (plus (pos m) (last_of (outputs_of next.tree)) wide) now
  more_holds =
      let n = next.fresh in
      let same : next.fresh - 1 + 1 ≡ next.fresh = omega (arith, from) in
      let wider = widened_wide n f h.wide in
      let last : last_of (outputs_of next.tree) ≡ own ∷ []
      = ap last_of grown ∙ last_push (outputs_of tree) own in
      subst (λ x. FormHolds p k (next.fresh - 1) (plus (pos m) x wide) now) (sym last) (record {
        choice = choice;
        relaxed = omega (arith, h.relaxed, from);
        wide = record {
          cost = wider.cost;
          added = literals_width (pos m) (own ∷ []) wide.added ∙ wider.added;
        };
        width = omega (arith, from, widened_width n f);
        items = subst (λ x. AllByRecursion (IsItemBelow x) now) (sym same)
            (all_set (IsItemBelow n) ns j new
            (all_weaker (IsItemBelow (v + 1)) (IsItemBelow n) ns
            (λ x b. item_more (v + 1) n x from b) h.items) new_item);
        cost = λ t tight. value_widened (n - width_of f) f.cost t ∙ h.cost t tight;
        fixed = λ t c. agrees_widened n f t (h.fixed t (more_back t c));
        groups = λ t c. all_set (IsLow t) ns j new (h.groups t (more_back t c)) tt;
        facts = facts;
      })

  pub more_true : (t : Assignment) → IsCheap p k now t → AllByRecursion (Satisfies t) next.clauses
  more_true t c =
      stage_true t (length (outputs_of tree)) (v + 1) tree item.stages (means_new t c)
