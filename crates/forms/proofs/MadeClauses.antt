-- The clauses that counts and their further outputs make.
use Rattle.std.proofs.Common.{◌≡◌, ℕ, zero, suc, ◌+◌, ◌-◌, ◌≤◌, ◌&&◌, List, [], ◌∷◌}
use Rattle.std.proofs.Common.{◌++◌, length, map, refl, sym, ◌∙◌, subst, arith, inl, inr, Some}
use Rattle.std.proofs.Common.{None, Ok, nat_le, pos, slice_set}
use Rattle.std.specs.Prelude.{Option, Err, slice_get}
use Rattle.std.specs.List.{AllByRecursion}
use Rattle.std.proofs.lemmas.Bool.{and_parts, cases_Bool}
use Rattle.std.proofs.lemmas.List.Elements.{recursion_from_All}
use Rattle.cnf.specs.Literal.{Literal}
use Rattle.totalizer.specs.Grown.{HasHalvesApart, IsStageClause, IsTreeBelow}
use Rattle.totalizer.specs.Stages.{Staged, Tree, outputs_of, size_of, totalizer_of, tree_of}
use Rattle.totalizer.proofs.Laws.{stage_shape, stage_takes, stages_from, stages_shape}
use Rattle.totalizer.proofs.Laws.{tree_of_apart, tree_of_below}
use Rattle.linear.specs.Costs.{widened}
use Rattle.forms.specs.declared.faults.LineFault.TheVariants.{Name, Limit}
use Rattle.forms.specs.declared.faults.TheConstants.{MOST_COUNT_CLAUSES}
use Rattle.forms.specs.declared.numbered.Numbered.{Numbered as Stamped}
use Rattle.forms.specs.declared.numbered.Numbered.TheVariants.{Count as StampedCount}
use Rattle.forms.specs.declared.numbered.Numbered.TheVariants.{Group as StampedGroup}
use Rattle.forms.specs.declared.state.Forms.TheInside.{Inside}
use Rattle.forms.specs.Answers.{AreStageClauses, MakesStageClauses}
use Rattle.forms.specs.Forms.{Forms, Made, Numbered, Count, Group, are_known, at_number, count_line}
use Rattle.forms.specs.Forms.{last_of, more_grown, more_line, next_stage, plus, with_stage}
use Rattle.forms.specs.Kept.{AreFormsKept, forms_in}
use Rattle.forms.specs.Stamped.{numbered_at, numbered_in}
use Rattle.forms.specs.Within.{IsStampedWithin}
use Rattle.forms.proofs.Knowing.{known}

-- those of a stage, whatever becomes of the state apart from its variables
stage_made : (s : Forms) (g : Staged) (next : Forms → Forms) (m : Made)
    → ((t : Forms) → (next t).variables ≡ t.variables) → 1 ≤ g.fresh
    → AllByRecursion (IsStageClause g.fresh) g.clauses → with_stage s g next ≡ Ok m
    → AreStageClauses m
stage_made s g next m keeps some shape h =
    let wide : Forms = record s {
      variables = g.fresh - 1;
      form = widened g.fresh s.form;
      made = s.made + length g.clauses;
    } in
    let full : Made = record { forms = next wide; clauses = g.clauses } in
    elim (cases_Bool (nat_le (s.made + length g.clauses) MOST_COUNT_CLAUSES)) [
      | inl y ↦
          let e : with_stage s g next ≡ Ok full = rw y refl in
          let ok : Ok full ≡ Ok m = sym e ∙ h in
          let same : full ≡ m = cc in
          let fresh : g.fresh ≡ (next wide).variables + 1 = omega (arith, keeps wide) in
          subst AreStageClauses same
          (subst (λ n. AllByRecursion (IsStageClause n) g.clauses) fresh shape)
      | inr n ↦
          let e : with_stage s g next ≡ Err Limit = rw n refl in
          let bad : Err Limit ≡ Ok m = sym e ∙ h in
          absurd (cc)
    ]

count_shape : (s : Forms) (outputs : ℕ) (inputs : List Literal) (m : Made)
    → count_line outputs inputs s ≡ Ok m → AreStageClauses m
count_shape s outputs inputs m h =
    let v = s.variables + 1 in
    let first = are_known s inputs && nat_le 1 outputs in
    let last = nat_le outputs (length inputs) in
    let g = totalizer_of outputs v inputs in
    let next : Forms → Forms = λ t. record t {
      numbered = s.numbered ++ Count inputs g.tree 0 ∷ [];
    } in
    elim (cases_Bool (first && last)) [
      | inl y ↦
          let k = known s inputs
          (and_parts (are_known s inputs) (nat_le 1 outputs) (and_parts first last y).0).0 in
          let below = k.below in
          let e : count_line outputs inputs s ≡ with_stage s g next = rw y refl in
          stage_made s g next m (λ t. refl)
          (omega (arith, stages_from outputs 1 v (tree_of inputs)))
          (stages_shape outputs 1 v (tree_of inputs) (omega arith)
          (tree_of_below v inputs k.once k.open_one (omega arith))
          (tree_of_apart v inputs k.once k.open_one (omega arith)))
          (sym e ∙ h)
      | inr n ↦
          let e : count_line outputs inputs s ≡ Err Name = rw n refl in
          let bad : Err Name ≡ Ok m = sym e ∙ h in
          absurd (cc)
    ]

-- what is known of the tree of a count
item_tree : (v terms p : ℕ) (items : List Stamped) (j : ℕ) (inputs : List Literal) (tree : Tree)
    (multiplier : ℕ) → AllByRecursion (IsStampedWithin v terms) items
    → slice_get (map (numbered_at p) items) j ≡ Some (Count inputs tree multiplier)
    → IsTreeBelow (v + 1) tree × HasHalvesApart tree
item_tree v terms p [] j inputs tree multiplier h e = absurd (cc)
item_tree v terms p (StampedGroup lits ∷ items) zero inputs tree multiplier h e = absurd (cc)
item_tree v terms p (StampedCount c ∷ items) zero inputs tree multiplier h e =
    let same : c.totalizer ≡ tree = cc in
    subst (λ t. IsTreeBelow (v + 1) t × HasHalvesApart t) same (h.0.below, h.0.halves)
item_tree v terms p (n ∷ items) (suc j) inputs tree multiplier h e =
    item_tree v terms p items j inputs tree multiplier h.1 e

number_tree : (v terms p : ℕ) (items : List Stamped) (number : ℕ) (inputs : List Literal)
    (tree : Tree) (multiplier : ℕ) → AllByRecursion (IsStampedWithin v terms) items
    → at_number (numbered_in p items) number ≡ Some (Count inputs tree multiplier)
    → IsTreeBelow (v + 1) tree × HasHalvesApart tree
number_tree v terms p items zero inputs tree multiplier h e = absurd (cc)
number_tree v terms p items (suc j) inputs tree multiplier h e =
    item_tree v terms p items j inputs tree multiplier h e

more_shape : (f : Inside) → AreFormsKept f → (number : ℕ) (m : Made)
    → more_line number (forms_in f) ≡ Ok m → AreStageClauses m
more_shape f kept number m h = by (at_number s.numbered number) refl
  where
    s : Forms
    s = forms_in f

    by : (x : Option Numbered) → at_number s.numbered number ≡ x → AreStageClauses m
    by None e =
        let line : more_line number s ≡ Err Name = rw e refl in
        let bad : Err Name ≡ Ok m = sym line ∙ h in
        absurd (cc)
    by (Some (Group inputs)) e =
        let line : more_line number s ≡ Err Name = rw e refl in
        let bad : Err Name ≡ Ok m = sym line ∙ h in
        absurd (cc)
    by (Some (Count inputs tree multiplier)) e =
        let v = s.variables + 1 in
        let height = length (outputs_of tree) + 1 in
        let g = next_stage v tree in
        let own = number_tree f.variables f.terms f.present f.numbered.items number inputs tree
        multiplier
        (recursion_from_All (IsStampedWithin f.variables f.terms) f.numbered.items kept.within) e in
        elim (cases_Bool (nat_le (size_of tree) (length (outputs_of tree)))) [
          | inl y ↦
              let line : more_line number s ≡ Err Name = rw (e, y) refl in
              let bad : Err Name ≡ Ok m = sym line ∙ h in
              absurd (cc)
          | inr n ↦
              let line : more_line number s ≡ more_grown number inputs multiplier s g =
              rw (e, n) refl in
              let next : Forms → Forms = λ t. record t {
                form = plus (pos multiplier) (last_of (outputs_of g.tree)) t.form;
                numbered = slice_set s.numbered (number - 1) (Count inputs g.tree multiplier);
              } in
              stage_made s g next m (λ t. refl) (omega (arith, (stage_takes height v tree).from))
              (stage_shape height v tree (omega arith) own.0 own.1) (sym line ∙ h)
        ]

pub makes_clauses : (f : Inside) → AreFormsKept f → MakesStageClauses (forms_in f)
makes_clauses f kept =
    record { count = count_shape (forms_in f); more = more_shape f kept }
