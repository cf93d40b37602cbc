-- Counts with one more output.
use Rattle.std.proofs.Common.{◌≡◌, ℕ, ◌+◌, ◌-◌, ◌<◌, ◌≤◌, true, false, List, [], ◌∷◌, ◌++◌, length}
use Rattle.std.proofs.Common.{refl, sym, ◌∙◌, ap, subst, arith, rules, Some, None, Ok, nat_le, pos}
use Rattle.std.proofs.Common.{inl, inr, slice_set, set, get_or, zero, suc}
use Rattle.std.specs.Prelude.{Option, Result, Err}
use Rattle.std.proofs.lemmas.Bool.{cases_Bool, leb-true, leb-false}
use Rattle.std.proofs.lemmas.List.{length-map, map-set}
use Rattle.std.proofs.lemmas.List.Elements.{All-weaker}
use Rattle.std.proofs.lemmas.Option.{slice_get_within}
use Rattle.cnf.specs.Literal.{Literal, positive}
use Rattle.totalizer.specs.Stages.{Tree, Leaf, Node, Staged, size_of, outputs_of, stage}
use Rattle.totalizer.specs.Grown.{HasStages}
use Rattle.totalizer.proofs.Laws.{outputs_more, outputs_next, size_positive, stage_apart}
use Rattle.totalizer.proofs.Laws.{stage_below, stage_has, stage_takes, stage_worth, tree_below_more}
use Rattle.linear.specs.Costs.{CostForm, widened}
use Rattle.forms.specs.declared.numbered.Numbered.{Numbered as Stamped}
use Rattle.forms.specs.declared.numbered.Numbered.TheVariants.{Count as StampedCount}
use Rattle.forms.specs.declared.numbered.Numbered.TheVariants.{Group as StampedGroup}
use Rattle.forms.specs.declared.faults.LineFault.{LineFault}
use Rattle.forms.specs.declared.faults.LineFault.TheVariants.{Name, Limit}
use Rattle.forms.specs.declared.faults.TheConstants.{MOST_COUNT_CLAUSES}
use Rattle.forms.specs.Answers.{IsMore, fault_of}
use Rattle.forms.specs.Forms.{Forms, Made, Numbered, Count, Group, at_number, last_of, more_line}
use Rattle.forms.specs.Forms.{multiplier_of, next_stage, plus}
use Rattle.forms.specs.declared.state.Forms.TheInside.{Inside}
use Rattle.forms.specs.Kept.{AreFormsKept, forms_in}
use Rattle.forms.specs.Stamped.{IsStamped, numbered_at, numbered_in}
use Rattle.forms.specs.Within.{CanGrow, IsCount, IsStampedWithin}
use Rattle.forms.proofs.Stamps.{found}

pub count_grows : (v terms : ℕ) (inputs : List Literal) (tree : Tree) (multiplier : ℕ) → 0 < v
    → length (outputs_of tree) < size_of tree → IsCount (v - 1) terms inputs tree multiplier
    → IsCount ((next_stage v tree).fresh - 1) terms inputs (next_stage v tree).tree multiplier
count_grows v terms inputs tree multiplier some more h =
    let g = next_stage v tree in
    let height = length (outputs_of tree) + 1 in
    let takes = stage_takes height v tree in
    record {
      some = h.some;
      known = All-weaker (λ l. l.variable ≤ v - 1) (λ l. l.variable ≤ g.fresh - 1)
          (λ l p. omega (arith, takes.from, p)) inputs h.known;
      below = tree_below_more g.fresh (g.fresh - 1 + 1) g.tree (omega (arith, takes.from))
          (stage_below height v tree
          (tree_below_more (v - 1 + 1) v tree (omega arith) h.below));
      stages = subst (λ k. HasStages k g.tree) (sym (outputs_more v tree more))
          (stage_has (length (outputs_of tree)) v tree h.stages);
      halves = stage_apart height v tree
          (tree_below_more (v - 1 + 1) v tree (omega arith) h.below) h.halves;
      small = omega (arith, takes.same_size, h.small);
      often = h.often;
    }

-- why there is no further output
pub no_item : (number : ℕ) (s : Forms) → at_number s.numbered number ≡ None
    → Some Name ≡ fault_of (more_line number s)
no_item number s e = rw e refl

pub no_count : (number : ℕ) (s : Forms) (inputs : List Literal)
    → at_number s.numbered number ≡ Some (Group inputs)
    → Some Name ≡ fault_of (more_line number s)
no_count number s inputs e = rw e refl

module _ (number : ℕ) (s : Forms) (inputs : List Literal) (tree : Tree) (multiplier : ℕ)
    (is : at_number s.numbered number ≡ Some (Count inputs tree multiplier)) where
  pub all_there : size_of tree ≤ length (outputs_of tree)
      → Some Name ≡ fault_of (more_line number s)
  all_there h =
      let e : nat_le (size_of tree) (length (outputs_of tree)) ≡ true = search rules in
      rw (is, e) refl

  pub too_many : length (outputs_of tree) < size_of tree
      → MOST_COUNT_CLAUSES < s.made + length (next_stage (s.variables + 1) tree).clauses
      → Some Limit ≡ fault_of (more_line number s)
  too_many h many =
      let e : nat_le (size_of tree) (length (outputs_of tree)) ≡ false = search rules in
      let n = length (next_stage (s.variables + 1) tree).clauses in
      let f : nat_le (s.made + n) MOST_COUNT_CLAUSES ≡ false = search rules in
      rw (is, e, f) refl

  pub can_grow : length (outputs_of tree) < size_of tree
      → s.made + length (next_stage (s.variables + 1) tree).clauses ≤ MOST_COUNT_CLAUSES
      → None ≡ fault_of (more_line number s)
  can_grow h few =
      let e : nat_le (size_of tree) (length (outputs_of tree)) ≡ false = search rules in
      let n = length (next_stage (s.variables + 1) tree).clauses in
      let f : nat_le (s.made + n) MOST_COUNT_CLAUSES ≡ true = search rules in
      rw (is, e, f) refl

-- a stage that makes an output takes a variable, the output
pub stage_rises : (v : ℕ) (tree : Tree) → length (outputs_of tree) < size_of tree
    → v + 1 ≤ (next_stage v tree).fresh
stage_rises v (Leaf l) more = absurd (omega arith)
stage_rises v (Node a b own) more =
    let e : nat_le (length own + 1) (size_of a + size_of b) ≡ true = search rules in
    let left = stage_takes (length own + 1) v a in
    let right = stage_takes (length own + 1) (stage (length own + 1) v a).fresh b in
    rw e (omega (arith, left.from, right.from))

-- the last of a list to which one more has come
pub last_push : (ls : List Literal) (l : Literal) → last_of (ls ++ l ∷ []) ≡ l ∷ []
last_push [] l = refl
last_push (k ∷ []) l = refl
last_push (k ∷ j ∷ ls) l = last_push (j ∷ ls) l

pub latest_output : (v : ℕ) (tree : Tree) → length (outputs_of tree) < size_of tree
    → last_of (outputs_of (next_stage v tree).tree) ≡ positive ((next_stage v tree).fresh - 1) ∷ []
latest_output v (Leaf l) more = absurd (omega arith)
latest_output v (Node a b own) more =
    ap last_of (outputs_next (length own + 1) v (Node a b own)
    (omega (arith, size_positive a, size_positive b)) (omega arith))
    ∙ last_push own (positive ((next_stage v (Node a b own)).fresh - 1))

-- the count with a number has a further output
pub record IsOpen (number : ℕ) (s : Forms) (inputs : List Literal) (tree : Tree) (multiplier : ℕ) :
    Type 0 where
  pub is : at_number s.numbered number ≡ Some (Count inputs tree multiplier)
  pub more : length (outputs_of tree) < size_of tree
  pub room : s.made + length (next_stage (s.variables + 1) tree).clauses ≤ MOST_COUNT_CLAUSES

pub record OpenCount (number : ℕ) (s : Forms) : Type 0 where
  pub inputs : List Literal
  pub tree : Tree
  pub multiplier : ℕ
  pub open_one : IsOpen number s inputs tree multiplier

pub open_count : (number : ℕ) (s : Forms) → None ≡ fault_of (more_line number s)
    → OpenCount number s
open_count number s h = by (at_number s.numbered number) refl
  where
    by : (x : Option Numbered) → at_number s.numbered number ≡ x → OpenCount number s
    by None e =
        let z : None ≡ Some Name = h ∙ sym (no_item number s e) in
        absurd (cc)
    by (Some (Group inputs)) e =
        let z : None ≡ Some Name = h ∙ sym (no_count number s inputs e) in
        absurd (cc)
    by (Some (Count inputs tree multiplier)) e =
        let g = next_stage (s.variables + 1) tree in
        elim (cases_Bool (nat_le (size_of tree) (length (outputs_of tree)))) [
          | inl y ↦
              let le = leb-true (size_of tree) (length (outputs_of tree)) y in
              let z : None ≡ Some Name = h ∙ sym (all_there number s inputs tree multiplier e le) in
              absurd (cc)
          | inr n ↦
              let lt = leb-false (size_of tree) (length (outputs_of tree)) n in
              elim (cases_Bool (nat_le (s.made + length g.clauses) MOST_COUNT_CLAUSES)) [
                | inl y ↦
                    let le = leb-true (s.made + length g.clauses) MOST_COUNT_CLAUSES y in
                    record {
                      inputs = inputs;
                      tree = tree;
                      multiplier = multiplier;
                      open_one = record { is = e; more = omega arith; room = le };
                    }
                | inr m ↦
                    let gt = leb-false (s.made + length g.clauses) MOST_COUNT_CLAUSES m in
                    let z : None ≡ Some Limit =
                    h
                    ∙ sym (too_many number s inputs tree multiplier e (omega arith)
                    (omega arith)) in
                    absurd (cc)
              ]
        ]

pub refused : (line : Result Made LineFault) (fault : LineFault) → Some fault ≡ fault_of line
    → line ≡ Err fault
refused (Ok m) fault e = absurd (cc)
refused (Err g) fault e =
    let same : fault ≡ g = cc in
    ap (λ x. Err x) (sym same)

-- what the line leaves
pub more_made : (number : ℕ) (s : Forms) (inputs : List Literal) (tree : Tree) (multiplier : ℕ)
    → IsOpen number s inputs tree multiplier
    → (let g = next_stage (s.variables + 1) tree in
    more_line number s ≡ Ok (record {
      forms = record {
        variables = g.fresh - 1;
        form = plus (pos multiplier) (positive (g.fresh - 1) ∷ []) (widened g.fresh s.form);
        has_form = s.has_form;
        numbered = slice_set s.numbered (number - 1) (Count inputs g.tree multiplier);
        made = s.made + length g.clauses;
        terms = s.terms;
      };
      clauses = g.clauses;
    }))
more_made number s inputs tree multiplier h =
    let g = next_stage (s.variables + 1) tree in
    let more = h.more in
    let room = h.room in
    let e : nat_le (size_of tree) (length (outputs_of tree)) ≡ false = search rules in
    let f : nat_le (s.made + length g.clauses) MOST_COUNT_CLAUSES ≡ true = search rules in
    rw (h.is, e, f, latest_output (s.variables + 1) tree h.more) refl

-- a stage makes a variable, and a clause for each
pub record IsStep (variables made : ℕ) (g : Staged) : Type 0 where
  pub rises : variables + 2 ≤ g.fresh
  pub worth : g.fresh ≤ variables + 1 + length g.clauses
  pub room : made + length g.clauses ≤ MOST_COUNT_CLAUSES

-- of its clauses and the next new variable
pub record IsAfter (variables made : ℕ) (clauses : List (List Literal)) (next : ℕ) : Type 0 where
  pub rises : variables + 2 ≤ next
  pub worth : next ≤ variables + 1 + length clauses
  pub room : made + length clauses ≤ MOST_COUNT_CLAUSES

-- what is known of the count with a number that has a further output
module _ (number : ℕ) (f : Inside) (kept : AreFormsKept f)
    (none : None ≡ fault_of (more_line number (forms_in f))) where
  pub chosen_count : OpenCount number (forms_in f)
  chosen_count = open_count number (forms_in f) none

  place : (k : ℕ) → at_number (numbered_in f.present f.numbered.items) k
      ≡ Some (Count chosen_count.inputs chosen_count.tree chosen_count.multiplier)
      → (0 < k) × (k - 1 < length f.numbered.items)
  place zero e = absurd (cc)
  place (suc j) e =
      let lt = slice_get_within (numbered_in f.present f.numbered.items) j _ e in
      (omega arith, omega (arith, length-map f.numbered.items (numbered_at f.present), lt))

  pub chosen_place : (0 < number) × (number - 1 < length f.numbered.items)
  chosen_place = place number chosen_count.open_one.is

  module _ (n : Stamped) (is : n ≡ get_or f.numbered.items (number - 1) n) where
    pub chosen_item : numbered_at f.present n
        ≡ Count chosen_count.inputs chosen_count.tree chosen_count.multiplier
    chosen_item =
        let o = chosen_count in
        let e : Some (numbered_at f.present n) ≡ Some (Count o.inputs o.tree o.multiplier) =
        sym (found f.numbered.items number n chosen_place.0 (omega (arith, chosen_place)) is
        f.present)
        ∙ o.open_one.is in
        cc

    pub chosen_within : IsStampedWithin f.variables f.terms n
    chosen_within =
        subst (IsStampedWithin f.variables f.terms) (sym is)
        (kept.within (number - 1) n chosen_place.1)

    pub chosen_stamped : IsStamped f.present n
    chosen_stamped =
        subst (IsStamped f.present) (sym is) (kept.stamped (number - 1) n chosen_place.1)

    pub chosen_grows : CanGrow n
    chosen_grows = grows n chosen_item chosen_within
      where
        grows : (m : Stamped)
            → numbered_at f.present m
            ≡ Count chosen_count.inputs chosen_count.tree chosen_count.multiplier
            → IsStampedWithin f.variables f.terms m → CanGrow m
        grows (StampedGroup lits) e h = absurd (cc)
        grows (StampedCount c) e h =
            let t : c.totalizer ≡ chosen_count.tree = cc in
            let more = chosen_count.open_one.more in
            (subst (λ u. length (outputs_of u) < size_of u) (sym t) more, h.small)

    pub chosen_step : IsStep f.variables f.made (next_stage (f.variables + 1) chosen_count.tree)
    chosen_step = step n chosen_item chosen_within
      where
        step : (m : Stamped)
            → numbered_at f.present m
            ≡ Count chosen_count.inputs chosen_count.tree chosen_count.multiplier
            → IsStampedWithin f.variables f.terms m
            → IsStep f.variables f.made (next_stage (f.variables + 1) chosen_count.tree)
        step (StampedGroup lits) e h = absurd (cc)
        step (StampedCount c) e h =
            let t : c.totalizer ≡ chosen_count.tree = cc in
            let tree = chosen_count.tree in
            let has : HasStages (length (outputs_of tree)) tree =
            subst (λ u. HasStages (length (outputs_of u)) u) t h.stages in
            record {
              rises = omega (arith, stage_rises (f.variables + 1) tree chosen_count.open_one.more);
              worth = stage_worth (length (outputs_of tree)) (f.variables + 1) tree has;
              room = chosen_count.open_one.room;
            }

    pub chosen_multiplier : (multiplier : ℕ) → multiplier ≡ multiplier_of (numbered_at f.present n)
        → multiplier ≡ chosen_count.multiplier
    chosen_multiplier multiplier e = e ∙ ap multiplier_of chosen_item

    -- what the next stage leaves
    module _ (item : Stamped) (before clauses : List (List Literal)) (next : ℕ) (bare : before ≡ [])
        (grown : (present multiplier : ℕ) (inputs : List Literal) (tree : Tree)
        → numbered_at present n ≡ Count inputs tree multiplier
        → IsMore (next_stage (f.variables + 1) tree) inputs multiplier before
        (numbered_at present item) clauses next) where
      more : IsMore (next_stage (f.variables + 1) chosen_count.tree) chosen_count.inputs
          chosen_count.multiplier before (numbered_at f.present item) clauses next
      more =
          grown f.present chosen_count.multiplier chosen_count.inputs chosen_count.tree chosen_item

      same_clauses : clauses ≡ (next_stage (f.variables + 1) chosen_count.tree).clauses
      same_clauses =
          more.clauses
          ∙ ap (λ cs. cs ++ (next_stage (f.variables + 1) chosen_count.tree).clauses) bare

      pub chosen_after : IsAfter f.variables f.made clauses next
      chosen_after = record {
        rises = omega (arith, chosen_step.rises, more.fresh);
        worth = omega (arith, chosen_step.worth, more.fresh, ap length same_clauses);
        room = omega (arith, chosen_step.room, ap length same_clauses);
      }

      pub chosen_line : (form : CostForm) (count : ℕ) → count ≡ length clauses
          → form ≡ plus (pos chosen_count.multiplier) (positive (next - 1) ∷ [])
          (widened next (f.bound).form)
          → more_line number (forms_in f) ≡ Ok (record {
            forms = record {
              variables = next - 1;
              form = form;
              has_form = f.has_form;
              numbered = numbered_in f.present (set f.numbered.items (number - 1) item);
              made = f.made + count;
              terms = f.terms;
            };
            clauses = clauses;
          })
      chosen_line form count counts e =
          let g = next_stage (f.variables + 1) chosen_count.tree in
          let q : g.fresh ≡ next = sym more.fresh in
          let k : g.clauses ≡ clauses = sym same_clauses in
          let n : length g.clauses ≡ count = ap length k ∙ sym counts in
          let times = chosen_count.multiplier in
          let before = numbered_in f.present f.numbered.items in
          let ns : slice_set before (number - 1) (Count chosen_count.inputs g.tree times)
          ≡ numbered_in f.present (set f.numbered.items (number - 1) item) =
          ap (slice_set before (number - 1)) (sym more.item)
          ∙ sym (map-set (numbered_at f.present) f.numbered.items (number - 1) item) in
          let m : plus (pos times) (positive (g.fresh - 1) ∷ []) (widened g.fresh (f.bound).form)
          ≡ form =
          ap (λ x. plus (pos times) (positive (x - 1) ∷ []) (widened x (f.bound).form)) q
          ∙ sym e in
          more_made number (forms_in f) chosen_count.inputs chosen_count.tree
          chosen_count.multiplier chosen_count.open_one
          ∙ (λ i. Ok (record {
            forms = record {
              variables = q i - 1;
              form = m i;
              has_form = f.has_form;
              numbered = ns i;
              made = f.made + n i;
              terms = f.terms;
            };
            clauses = k i;
          }))
