-- Counts that are made.
use Rattle.std.proofs.Common.{◌≡◌, ℕ, ◌+◌, ◌-◌, ◌<◌, ◌≤◌, ◌^◌, true, false, List, [], ◌∷◌, ◌++◌}
use Rattle.std.proofs.Common.{length, refl, sym, ◌∙◌, ap, subst, arith, rules, Ok, nat_le}
use Rattle.std.specs.Prelude.{Err}
use Rattle.cnf.specs.Literal.{Literal}
use Rattle.totalizer.specs.Stages.{Tree, size_of, stages, totalizer_of, tree_of}
use Rattle.totalizer.specs.Grown.{HasStages}
use Rattle.totalizer.proofs.Laws.{bare_has, outputs_count, stages_apart, stages_below, stages_from}
use Rattle.totalizer.proofs.Laws.{stages_size, totalizer_has, totalizer_worth, tree_below_more}
use Rattle.totalizer.proofs.Laws.{tree_of_apart, tree_of_below, tree_of_size}
use Rattle.linear.specs.Costs.{CostForm, widened}
use Rattle.forms.specs.declared.faults.LineFault.TheVariants.{Limit}
use Rattle.forms.specs.declared.faults.TheConstants.{MOST_COUNT_CLAUSES}
use Rattle.forms.specs.declared.state.Forms.TheInside.{Inside}
use Rattle.forms.specs.Answers.{HasGrown}
use Rattle.forms.specs.Forms.{Numbered, Count, are_known, count_line}
use Rattle.forms.specs.Kept.{AreFormsKept, forms_in}
use Rattle.forms.specs.Stamped.{numbered_in}
use Rattle.forms.specs.Within.{IsCount}
use Rattle.forms.proofs.Knowing.{each_within, known, known_few}

-- a count of these literals is made
module _ (outputs : ℕ) (inputs : List Literal) (f : Inside) (kept : AreFormsKept f)
    (is_known : are_known (forms_in f) inputs ≡ true) (some : 1 ≤ outputs)
    (few : outputs ≤ length inputs) where
  size : size_of (tree_of inputs) ≡ length inputs
  size = tree_of_size inputs (omega arith)

  small : length inputs ≤ f.variables + 1
  small =
      let k = known (forms_in f) inputs is_known in
      known_few f.variables inputs k.below k.once k.open_one

  -- what its stages require
  module _ (t : Tree) (is : t ≡ tree_of inputs) where
    pub new_bare : HasStages 0 t
    new_bare = subst (HasStages 0) (sym is) (bare_has inputs)

    pub new_size : size_of t ≡ length inputs
    new_size = ap size_of is ∙ size

    pub new_room : f.variables + 1 + (MOST_COUNT_CLAUSES - f.made) + size_of t ≤ 2 ^ 27
    new_room = omega (arith, new_size, small, kept.variables, kept.made)

    pub new_limit : MOST_COUNT_CLAUSES - f.made
        < length (stages outputs 1 (f.variables + 1) t).clauses
        → count_line outputs inputs (forms_in f) ≡ Err Limit
    new_limit many =
        let g = totalizer_of outputs (f.variables + 1) inputs in
        let more : MOST_COUNT_CLAUSES - f.made < length g.clauses =
        omega (arith, many, ap (λ u. length (stages outputs 1 (f.variables + 1) u).clauses) is) in
        let a : nat_le 1 outputs ≡ true = search rules in
        let b : nat_le outputs (length inputs) ≡ true = search rules in
        let e : nat_le (f.made + length g.clauses) MOST_COUNT_CLAUSES ≡ false =
        search (rules, kept.made) in
        rw (is_known, a, b, e) refl

    -- once they are there
    module _ (grown : Tree) (clauses : List (List Literal)) (next : ℕ)
        (has : HasGrown (stages outputs 1 (f.variables + 1) t) (MOST_COUNT_CLAUSES - f.made) grown
        clauses next) where
      same : stages outputs 1 (f.variables + 1) t ≡ totalizer_of outputs (f.variables + 1) inputs
      same = ap (stages outputs 1 (f.variables + 1)) is

      tree : grown ≡ (totalizer_of outputs (f.variables + 1) inputs).tree
      tree = has.tree ∙ ap (λ g. g.tree) same

      made : clauses ≡ (totalizer_of outputs (f.variables + 1) inputs).clauses
      made = has.clauses ∙ ap (λ g. g.clauses) same

      fresh : next ≡ (totalizer_of outputs (f.variables + 1) inputs).fresh
      fresh = has.fresh ∙ ap (λ g. g.fresh) same

      pub new_from : f.variables + 1 ≤ next
      new_from = omega (arith, fresh, stages_from outputs 1 (f.variables + 1) (tree_of inputs))

      pub new_worth : next ≤ f.variables + 1 + length clauses
      new_worth =
          omega (arith, fresh, totalizer_worth outputs (f.variables + 1) inputs, ap length made)

      pub new_few : f.made + length clauses ≤ MOST_COUNT_CLAUSES
      new_few = omega (arith, has.few, kept.made)

      pub new_count : IsCount (next - 1) f.terms inputs grown 0
      new_count =
          let k = known (forms_in f) inputs is_known in
          let v = f.variables + 1 in
          let g = totalizer_of outputs v inputs in
          let from = new_from in
          let e : g.fresh ≤ next - 1 + 1 = omega (arith, fresh) in
          let all : size_of g.tree ≡ length inputs =
          stages_size outputs 1 v (tree_of inputs) ∙ size in
          let below = k.below in
          subst (λ u. IsCount (next - 1) f.terms inputs u 0) (sym tree) (record {
            some = omega arith;
            known = each_within (next - 1) inputs (omega arith);
            below = tree_below_more g.fresh (next - 1 + 1) g.tree e
                (stages_below outputs 1 v (tree_of inputs)
                (tree_of_below v inputs k.once k.open_one (omega arith)));
            stages = subst (λ n. HasStages n g.tree)
                (sym (outputs_count outputs g.tree (totalizer_has outputs v inputs) some
                (omega (arith, all))))
                (totalizer_has outputs v inputs);
            halves = stages_apart outputs 1 v (tree_of inputs)
                (tree_of_below v inputs k.once k.open_one (omega arith))
                (tree_of_apart v inputs k.once k.open_one (omega arith));
            small = omega (arith, all, small, kept.variables, kept.made);
            often = omega arith;
          })

      pub new_line : (form : CostForm) (count : ℕ) (ns : List Numbered) → count ≡ length clauses
          → form ≡ widened next (f.bound).form
          → ns ≡ numbered_in f.present f.numbered.items ++ Count inputs grown 0 ∷ []
          → count_line outputs inputs (forms_in f) ≡ Ok (record {
            forms = record {
              variables = next - 1;
              form = form;
              has_form = f.has_form;
              numbered = ns;
              made = f.made + count;
              terms = f.terms;
            };
            clauses = clauses;
          })
      new_line form count ns counts wide numbered =
          let g = totalizer_of outputs (f.variables + 1) inputs in
          let a : nat_le 1 outputs ≡ true = search rules in
          let b : nat_le outputs (length inputs) ≡ true = search rules in
          let room : f.made + length g.clauses ≤ MOST_COUNT_CLAUSES =
          omega (arith, new_few, ap length made) in
          let e : nat_le (f.made + length g.clauses) MOST_COUNT_CLAUSES ≡ true = search rules in
          let line : count_line outputs inputs (forms_in f) ≡ Ok (record {
            forms = record {
              variables = g.fresh - 1;
              form = widened g.fresh (f.bound).form;
              has_form = f.has_form;
              numbered = numbered_in f.present f.numbered.items ++ Count inputs g.tree 0 ∷ [];
              made = f.made + length g.clauses;
              terms = f.terms;
            };
            clauses = g.clauses;
          }) = rw (is_known, a, b, e) refl in
          let q : g.fresh ≡ next = sym fresh in
          let k : g.clauses ≡ clauses = sym made in
          let n : length g.clauses ≡ count = ap length k ∙ sym counts in
          let w : widened g.fresh (f.bound).form ≡ form =
          ap (λ x. widened x (f.bound).form) q ∙ sym wide in
          let m : numbered_in f.present f.numbered.items ++ Count inputs g.tree 0 ∷ [] ≡ ns =
          ap (λ u. numbered_in f.present f.numbered.items ++ Count inputs u 0 ∷ []) (sym tree)
          ∙ sym numbered in
          line ∙ (λ i. Ok (record {
            forms = record {
              variables = q i - 1;
              form = w i;
              has_form = f.has_form;
              numbered = m i;
              made = f.made + n i;
              terms = f.terms;
            };
            clauses = k i;
          }))
