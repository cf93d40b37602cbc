-- Form lines, in what holds of the forms.
use Rattle.std.proofs.Common.{◌≡◌, ℕ, zero, suc, pos, negsuc, ◌+ℤ◌, ◌-ℤ◌, ◌*ℤ◌, ◌≤ℤ◌, ◌+◌, ◌-◌, ◌*◌}
use Rattle.std.proofs.Common.{◌<◌, ◌≤◌, true, false, nat_le, List, [], ◌∷◌}
use Rattle.std.proofs.Common.{Option, Some, None, Ok, length, sum_by, set, get_or, slice_get, inl}
use Rattle.std.proofs.Common.{inr, refl, sym, ◌∙◌, ap, subst, arith}
use Rattle.std.proofs.lemmas.Int.{ints}
use Rattle.std.proofs.lemmas.Bool.{or_cases, false≢true}
use Rattle.std.proofs.lemmas.List.Sums.{sum_by-cons, sum_by-set}
use Rattle.std.proofs.lemmas.Option.{get_or_from_slice_get, slice_get_within}
use Rattle.std.proofs.Math.Nat.{add-mul, mul-add, mul-le-mul, mul-one, zero-mul}
use Rattle.std.proofs.Math.IntN.{negsuc-*ℤ-pos}
use Rattle.std.specs.List.{AllByRecursion}
use Rattle.cnf.specs.Numbers.{one_if}
use Rattle.cnf.specs.Literal.{Assignment, Literal, literal_value}
use Rattle.cnf.specs.Clause.{Satisfies, clause_value, greatest_variable, AreBelow}
use Rattle.cnf.specs.Problem.{Problem}
use Rattle.cnf.specs.Refute.{Clauses}
use Rattle.cnf.proofs.Laws.{AllHold, below_more}
use Rattle.totalizer.specs.Stages.{outputs_of}
use Rattle.totalizer.proofs.Laws.{outputs_at_most, outputs_below}
use Rattle.linear.specs.Linear.{true_count, value}
use Rattle.linear.specs.Costs.{AgreesWith, CostForm, HasOneWidth, widened, width_of}
use Rattle.linear.proofs.Laws.{agrees_widened, literals_width, restarted_wide, value_literals}
use Rattle.linear.proofs.Laws.{value_widened, value_zero, widened_more, widened_wide, widened_width}
use Rattle.forms.specs.Forms.{Forms, Numbered, Count, Group, begun, cited, cleared, form_line}
use Rattle.forms.specs.Forms.{facts_size, less, less_clause, less_fact, less_facts, less_item}
use Rattle.forms.specs.Forms.{less_numbered, plus_number, without_multiplier}
use Rattle.forms.specs.declared.faults.TheConstants.{MOST_TERMS}
use Rattle.forms.specs.declared.types.NamedFact.{NamedFact}
use Rattle.lrat_cuts.proofs.LawMeaning.{FormHolds, IsCheap, IsItemBelow, IsLow, Means, holds_form}
use Rattle.lrat_cuts.proofs.LawMeaning.{slack}
use Rattle.lrat_cuts.proofs.LawForms.{Holds}
use Rattle.lrat_cuts.proofs.LawResults.{err_ok, ok_same}
use Rattle.lrat_cuts.proofs.LawCounts.{greatest_below, item_more, same_count}
use Rattle.lrat_cuts.proofs.LawMore.{all_here, all_place, all_set, all_back}

-- less w times a number
pub times_less : (w n : ℕ) → (pos 0 -ℤ pos w) *ℤ pos n ≡ pos 0 -ℤ pos (w * n)
times_less zero n =
    let z = zero-mul n in
    let e : (pos 0 -ℤ pos zero) *ℤ pos n ≡ pos (0 * n) = refl in
    omega (arith, ints, z, e)
times_less (suc w) n =
    let e : (pos 0 -ℤ pos (suc w)) ≡ negsuc w = omega (arith, ints) in
    let d = negsuc-*ℤ-pos w n in
    let k = ap (λ x. x *ℤ pos n) e in
    omega (arith, ints, d, k)

some_true : (t : Assignment) (c : List Literal) → Satisfies t c → 1 ≤ true_count t c
some_true t [] e = absurd (false≢true e)
some_true t (l ∷ c) e = elim (or_cases (literal_value t l) (clause_value t c) e) [
  | inl here ↦
      let one : one_if (literal_value t l) ≡ 1 = ap one_if here in
      omega (arith, one)
  | inr more ↦ omega (arith, some_true t c more)
]

-- what holds of the forms after a line, whose cheap solutions are among those before it
pub record Keeps (p : Problem) (k : ℕ) (old new : Forms) : Type 0 where
  pub holds : Holds p k new
  pub back : (t : Assignment) → IsCheap p k new.numbered t → IsCheap p k old.numbered t

-- the form less the fact of a clause that is true
less_clause_keeps : (p : Problem) (k : ℕ) (s : Forms) (w : ℕ) (c : List Literal) → Holds p k s
    → ((t : Assignment) → IsCheap p k s.numbered t → Satisfies t c)
    → Keeps p k s (less_clause w c s)
less_clause_keeps p k s w c h on =
    let n = greatest_variable c + 1 in
    let f = s.form in
    let wide = widened n f in
    let wider = widened_wide n f h.wide in
    let minus = pos 0 -ℤ pos w in
    let g = plus_number (pos w) (less w c wide) in
    let known : AreBelow (width_of wide) c
    = below_more n (width_of wide) c (widened_width n f)
    (greatest_below (greatest_variable c) c (omega arith)) in
    record {
      holds = holds_form p k s.variables f g s.numbered h
          (record {
            cost = wider.cost;
            added = literals_width minus c wide.added ∙ wider.added;
          })
          (widened_more n f) (λ t. value_widened (n - width_of f) f.cost t)
          (λ t x. agrees_widened n f t (h.fixed t x))
          (λ t x.
          let e = value_widened (n - width_of f) f.added t in
          let d = value_literals minus c wide.added (width_of wide) t (sym wider.added) known in
          let m = times_less w (true_count t c) in
          let some = some_true t c (on t x) in
          let product : w * 1 ≤ w * true_count t c = mul-le-mul (omega arith) some in
          let one = mul-one w in
          omega (arith, ints, e, d, m, product, one));
      back = λ t x. x;
    }

-- where the multiplier of a count is another one, it means the same
module _ (w : ℕ) where
  cited_means : (t : Assignment) (x : Numbered) → Means t x → Means t (cited w x)
  cited_means t (Count inputs tree m) h = h
  cited_means t (Group inputs) h = h

  means_cited : (t : Assignment) (x : Numbered) → Means t (cited w x) → Means t x
  means_cited t (Count inputs tree m) h = h
  means_cited t (Group inputs) h = h

  cited_below : (n : ℕ) (x : Numbered) → IsItemBelow n x → IsItemBelow n (cited w x)
  cited_below n (Count inputs tree m) h = h
  cited_below n (Group inputs) h = h

  cited_low : (t : Assignment) (x : Numbered) → IsLow t x → IsLow t (cited w x)
  cited_low t (Count inputs tree m) h = h
  cited_low t (Group inputs) h = h

  item_cost : (x : Numbered) (f : CostForm) → (less_item w x f).cost ≡ f.cost
  item_cost (Count inputs tree m) f = refl
  item_cost (Group inputs) f = refl

  item_fixed : (x : Numbered) (f : CostForm) → (less_item w x f).fixed ≡ f.fixed
  item_fixed (Count inputs tree m) f = refl
  item_fixed (Group inputs) f = refl

  item_width : (x : Numbered) (f : CostForm)
      → length ((less_item w x f).added).coefficients ≡ length (f.added).coefficients
  item_width (Count inputs tree m) f =
      literals_width (pos w) (outputs_of tree) (less w inputs f).added
      ∙ literals_width (pos 0 -ℤ pos w) inputs f.added
  item_width (Group inputs) f = literals_width (pos w) inputs f.added

  -- the fact is what it takes from the form, or there is some left
  item_rest : (t : Assignment) (x : Numbered) (f : CostForm) → HasOneWidth f
      → IsItemBelow (width_of f) x → Means t x → IsLow t x
      → (value (less_item w x f).added t +ℤ pos (slack t (cited w x)))
      ≤ℤ (value f.added t +ℤ pos (slack t x))
  item_rest t (Group inputs) f wide below means low =
      let d = value_literals (pos w) inputs f.added (width_of f) t (sym wide.added) below in
      let product : w * true_count t inputs ≤ w * 1 = mul-le-mul (omega arith) low in
      let one = mul-one w in
      omega (arith, ints, d, product, one)
  item_rest t (Count inputs tree m) f wide below means low =
      let a = true_count t inputs in
      let b = true_count t (outputs_of tree) in
      let g = less w inputs f in
      let minus = pos 0 -ℤ pos w in
      let e = value_literals minus inputs f.added (width_of f) t (sym wide.added) below.known in
      let d = value_literals (pos w) (outputs_of tree) g.added (width_of f) t
      (sym (literals_width minus inputs f.added ∙ wide.added))
      (outputs_below (width_of f) tree below.below) in
      let k = times_less w a in
      let most : b ≤ a = omega (
        arith,
        outputs_at_most t tree means,
        same_count t (outputs_of tree),
        below.leaves t,
      ) in
      let split : (a - b) + b ≡ a = omega (arith, most) in
      let q = add-mul m w (a - b) in
      let r : w * (a - b) + w * b ≡ w * a = sym (mul-add w (a - b) b) ∙ ap (λ x. w * x) split in
      omega (arith, ints, e, d, k, q, r)

-- the form less the fact of a count or group
module _ (p : Problem) (k v : ℕ) (f : CostForm) (ns : List Numbered) (w j : ℕ) (x : Numbered)
    (h : FormHolds p k v f ns) (here : slice_get ns j ≡ Some x) where
  abbrev item_now : List Numbered
  item_now = set ns j (cited w x)

  pub item_back : (t : Assignment) → IsCheap p k item_now t → IsCheap p k ns t
  item_back t c =
      let new = all_here (Means t) ns j x (cited w x) here (c.meant).counts in
      record {
        meant = record {
          relaxed = (c.meant).relaxed;
          counts = all_back (Means t) ns j x (cited w x) here (c.meant).counts
              (means_cited w t x new);
        };
        feasible = c.feasible;
        cost = c.cost;
      }

  pub item_holds : FormHolds p k v (less_item w x f) item_now
  item_holds = record {
    choice = λ u.
        let c = h.choice u in
        let m = all_place (Means c.0) ns j x here (c.2).counts in (
          c.0,
          c.1,
          record {
            relaxed = (c.2).relaxed;
            counts = all_set (Means c.0) ns j (cited w x) (c.2).counts (cited_means w c.0 x m);
          },
        );
    relaxed = h.relaxed;
    wide = record {
      cost = ap (λ y. length y.coefficients) (item_cost w x f) ∙ (h.wide).cost
          ∙ sym (ap length (item_fixed w x f));
      added = item_width w x f ∙ (h.wide).added ∙ sym (ap length (item_fixed w x f));
    };
    width = subst (λ y. v < length y) (sym (item_fixed w x f)) h.width;
    items = all_set (IsItemBelow (v + 1)) ns j (cited w x) h.items
        (cited_below w (v + 1) x (all_place (IsItemBelow (v + 1)) ns j x here h.items));
    cost = λ t tight. ap (λ y. value y t) (item_cost w x f) ∙ h.cost t tight;
    fixed = λ t c. subst (λ y. AgreesWith y t) (sym (item_fixed w x f))
        (h.fixed t (item_back t c));
    groups = λ t c.
        let low = h.groups t (item_back t c) in
        all_set (IsLow t) ns j (cited w x) low
        (cited_low w t x (all_place (IsLow t) ns j x here low));
    facts = λ t c.
        let b = item_back t c in
        let below = item_more (v + 1) (width_of f) x (omega (arith, h.width))
        (all_place (IsItemBelow (v + 1)) ns j x here h.items) in
        let r = item_rest w t x f h.wide below
        (all_place (Means t) ns j x here (b.meant).counts)
        (all_place (IsLow t) ns j x here (h.groups t b)) in
        let s = sum_by-set (slack t) ns j (cited w x) x (slice_get_within ns j x here) in
        let was : slack t (get_or ns j x) ≡ slack t x
        = ap (slack t) (get_or_from_slice_get ns j x x here) in
        let z = h.facts t b in
        omega (arith, ints, r, s, was, z);
  }

less_numbered_keeps : (p : Problem) (k w j : ℕ) (s : Forms) → Holds p k s
    → Keeps p k s (less_numbered w j s)
less_numbered_keeps p k w zero s h = record { holds = h; back = λ t c. c }
less_numbered_keeps p k w (suc i) s h =
    elim (slice_get s.numbered i) as (λ o. slice_get s.numbered i ≡ o
    → Keeps p k s (less_numbered w (suc i) s)) [
      | None ↦ λ e. rw e (record { holds = h; back = λ t c. c })
      | Some x ↦ λ e.
          let j : suc i - 1 ≡ i = omega arith in
          rw (e, j) (record {
            holds = item_holds p k s.variables s.form s.numbered w i x h e;
            back = item_back p k s.variables s.form s.numbered w i x h e;
          })
    ] refl

clause_fact_keeps : (p : Problem) (k : ℕ) (at : Clauses) (s : Forms) (w n : ℕ) → Holds p k s
    → ((t : Assignment) → IsCheap p k s.numbered t → AllHold t at)
    → Keeps p k s (less_fact at s (record { weight = w; is_numbered = false; number = n }))
clause_fact_keeps p k at s w n h all =
    elim (at n) as (λ o. at n ≡ o
    → Keeps p k s (less_fact at s (record { weight = w; is_numbered = false; number = n }))) [
      | None ↦ λ e. rw e (record { holds = h; back = λ t c. c })
      | Some c ↦ λ e. rw e (less_clause_keeps p k s w c h (λ t x. all t x n c e))
    ] refl

less_fact_keeps : (p : Problem) (k : ℕ) (at : Clauses) (s : Forms) (f : NamedFact) → Holds p k s
    → ((t : Assignment) → IsCheap p k s.numbered t → AllHold t at)
    → Keeps p k s (less_fact at s f)
less_fact_keeps p k at s f h all =
    elim f.is_numbered as (λ b. f.is_numbered ≡ b → Keeps p k s (less_fact at s f)) [
      | true ↦ λ e. rw e (less_numbered_keeps p k f.weight f.number s h)
      | false ↦ λ e. rw e (clause_fact_keeps p k at s f.weight f.number h all)
    ] refl

pub less_facts_keep : (p : Problem) (k : ℕ) (at : Clauses) (s : Forms) (fs : List NamedFact)
    → Holds p k s → ((t : Assignment) → IsCheap p k s.numbered t → AllHold t at)
    → Keeps p k s (less_facts at s fs)
less_facts_keep p k at s [] h all = record { holds = h; back = λ t c. c }
less_facts_keep p k at s (f ∷ fs) h all =
    let first = less_fact_keeps p k at s f h all in
    let rest = less_facts_keep p k at (less_fact at s f) fs first.holds
    (λ t c. all t (first.back t c)) in
    record { holds = rest.holds; back = λ t c. first.back t (rest.back t c) }

-- a new form
cleared_slack : (t : Assignment) (ns : List Numbered) → sum_by (slack t) (cleared ns) ≡ 0
cleared_slack t [] = refl
cleared_slack t (Count inputs tree m ∷ ns) =
    let c = sum_by-cons (slack t) (Count inputs tree 0) (cleared ns) in
    let z = zero-mul (true_count t inputs - true_count t (outputs_of tree)) in
    omega (arith, c, z, cleared_slack t ns)
cleared_slack t (Group inputs ∷ ns) =
    let c = sum_by-cons (slack t) (Group inputs) (cleared ns) in
    omega (arith, c, cleared_slack t ns)

-- what does not depend on multipliers
cleared_all : (P : Numbered → Type 0) (ns : List Numbered)
    → ((x : Numbered) → P x → P (without_multiplier x)) → AllByRecursion P ns
    → AllByRecursion P (cleared ns)
cleared_all P [] f h = tt
cleared_all P (x ∷ ns) f h = (f x h.0, cleared_all P ns f h.1)

all_cleared : (P : Numbered → Type 0) (ns : List Numbered)
    → ((x : Numbered) → P (without_multiplier x) → P x) → AllByRecursion P (cleared ns)
    → AllByRecursion P ns
all_cleared P [] f h = tt
all_cleared P (x ∷ ns) f h = (f x h.0, all_cleared P ns f h.1)

without_means : (t : Assignment) (x : Numbered) → Means t x → Means t (without_multiplier x)
without_means t (Count inputs tree m) h = h
without_means t (Group inputs) h = h

means_without : (t : Assignment) (x : Numbered) → Means t (without_multiplier x) → Means t x
means_without t (Count inputs tree m) h = h
means_without t (Group inputs) h = h

without_below : (n : ℕ) (x : Numbered) → IsItemBelow n x → IsItemBelow n (without_multiplier x)
without_below n (Count inputs tree m) h = h
without_below n (Group inputs) h = h

without_low : (t : Assignment) (x : Numbered) → IsLow t x → IsLow t (without_multiplier x)
without_low t (Count inputs tree m) h = h
without_low t (Group inputs) h = h

begun_keeps : (p : Problem) (k : ℕ) (scale : Option ℕ) (s : Forms) → Holds p k s
    → Keeps p k s (begun scale s)
begun_keeps p k None s h = record { holds = h; back = λ t c. c }
begun_keeps p k (Some d) s h =
    let ns = s.numbered in
    let f = s.form in
    let back : (t : Assignment) → IsCheap p k (cleared ns) t → IsCheap p k ns t = λ t c. record {
      meant = record {
        relaxed = (c.meant).relaxed;
        counts = all_cleared (Means t) ns (means_without t) (c.meant).counts;
      };
      feasible = c.feasible;
      cost = c.cost;
    } in
    record {
      holds = record {
        choice = λ u. let c = h.choice u in (
          c.0,
          c.1,
          record {
            relaxed = (c.2).relaxed;
            counts = cleared_all (Means c.0) ns (without_means c.0) (c.2).counts;
          },
        );
        relaxed = h.relaxed;
        wide = restarted_wide d f h.wide;
        width = h.width;
        items = cleared_all (IsItemBelow (s.variables + 1)) ns (without_below (s.variables + 1))
            h.items;
        cost = h.cost;
        fixed = λ t c. h.fixed t (back t c);
        groups = λ t c. cleared_all (IsLow t) ns (without_low t) (h.groups t (back t c));
        facts = λ t c.
            let z = value_zero (width_of f) t in
            let e = cleared_slack t ns in
            omega (arith, ints, z, e);
      };
      back = back;
    }

form_line_is : (at : Clauses) (scale : Option ℕ) (fs : List NamedFact) (s new : Forms)
    → form_line at scale fs s ≡ Ok new → new ≡ less_facts at (begun scale s) fs
form_line_is at None fs s new e =
    elim s.has_form as (λ b. s.has_form ≡ b → new ≡ less_facts at s fs) [
      | true ↦ λ q. elim (facts_size at s.numbered fs)
          as (λ o. facts_size at s.numbered fs ≡ o → new ≡ less_facts at s fs) [
            | None ↦ λ r. absurd (err_ok _ new (rw (q, r) at e))
            | Some n ↦ λ r. elim (nat_le (s.terms + n) MOST_TERMS)
                as (λ b. nat_le (s.terms + n) MOST_TERMS ≡ b → new ≡ less_facts at s fs) [
                  | true ↦ λ u. sym (ap (λ b. less_facts at (record s { has_form = b }) fs) q
                      ∙ ok_same _ new (rw (q, r, u) at e))
                  | false ↦ λ u. absurd (err_ok _ new (rw (q, r, u) at e))
                ] refl
          ] refl
      | false ↦ λ q. absurd (err_ok _ new (rw q at e))
    ] refl
form_line_is at (Some d) fs s new e =
    elim (facts_size at s.numbered fs)
    as (λ o. facts_size at s.numbered fs ≡ o → new ≡ less_facts at (begun (Some d) s) fs) [
      | None ↦ λ r. absurd (err_ok _ new (rw r at e))
      | Some n ↦ λ r. elim (nat_le (s.terms + n) MOST_TERMS)
          as (λ b. nat_le (s.terms + n) MOST_TERMS ≡ b
          → new ≡ less_facts at (begun (Some d) s) fs) [
            | true ↦ λ u. sym (ok_same _ new (rw (r, u) at e))
            | false ↦ λ u. absurd (err_ok _ new (rw (r, u) at e))
          ] refl
    ] refl

-- a form line
pub form_line_keeps : (p : Problem) (k : ℕ) (at : Clauses) (scale : Option ℕ)
    (fs : List NamedFact) (s new : Forms) → Holds p k s
    → ((t : Assignment) → IsCheap p k s.numbered t → AllHold t at)
    → form_line at scale fs s ≡ Ok new → Keeps p k s new
form_line_keeps p k at scale fs s new h all e =
    let first = begun_keeps p k scale s h in
    let rest = less_facts_keep p k at (begun scale s) fs first.holds
    (λ t c. all t (first.back t c)) in
    subst (Keeps p k s) (sym (form_line_is at scale fs s new e))
    (record { holds = rest.holds; back = λ t c. first.back t (rest.back t c) })
