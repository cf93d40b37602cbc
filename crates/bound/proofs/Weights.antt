-- The weights of the soft clauses, one after another.
use Rattle.std.proofs.Common.{◌≡◌, ℕ, ◌+◌, ◌<◌, true, false, List, ◌∷◌, ◌++◌, refl, inl, inr}
use Rattle.std.proofs.Common.{length, get_or, drop, sym, ◌∙◌, ap, append_assoc}
use Rattle.std.proofs.lemmas.List.{at_drop_more}
use Rattle.std.proofs.lemmas.Bool.{cases_Bool}
use Rattle.std.specs.Prelude.{if◌then◌else◌}
use Rattle.cnf.specs.Literal.{Literal, positive, negation}
use Rattle.cnf.specs.Clause.{is_tautology}
use Rattle.cnf.specs.Problem.{SoftClause}
use Rattle.adder.specs.declared.profiles.Relaxing.TheVariants.{UnitsByNegation}
use Rattle.adder.specs.Network.{Relaxed, relaxed_one, relaxed_from}
use Rattle.adder.proofs.Laws.{relaxed_cases}
use Rattle.bound.specs.Weighted.{weights_in, weight_unless_true}

keeps : (e : Relaxed) (es : List Relaxed)
    → weights_in (e ∷ es) ≡ weight_unless_true e.soft e.literal ++ weights_in es
keeps e es =
    elim (cases_Bool (is_tautology (e.soft).clause)) [
      | inl y ↦ rw y refl
      | inr n ↦ rw n refl
    ]

-- those of the first clause, and then those of the others
pub weights_next : (v : ℕ) (s : SoftClause) (more : List SoftClause)
    → weights_in (relaxed_from UnitsByNegation v (s ∷ more))
    ≡ weight_unless_true s (relaxed_one UnitsByNegation v s).literal
    ++ weights_in (relaxed_from UnitsByNegation
    (if (relaxed_one UnitsByNegation v s).is_fresh then v + 1 else v) more)
weights_next v s more =
    relaxed_cases UnitsByNegation v s
    (λ e. weights_in
    (e ∷ relaxed_from UnitsByNegation (if e.is_fresh then v + 1 else v) more)
    ≡ weight_unless_true s e.literal
    ++ weights_in (relaxed_from UnitsByNegation (if e.is_fresh then v + 1 else v) more))
    (keeps (record { literal = positive v; soft = s; is_fresh = true })
    (relaxed_from UnitsByNegation (v + 1) more))
    (λ l h. keeps (record { literal = negation l; soft = s; is_fresh = false })
    (relaxed_from UnitsByNegation v more))

-- with one clause more, what was pushed and what is left are the same together
pub weights_step : (v w : ℕ) (ss : List SoftClause) (i : ℕ) (s : SoftClause) (l : Literal)
    (before after : List (ℕ × Literal)) → i < length ss → s ≡ get_or ss i s
    → l ≡ (relaxed_one UnitsByNegation v s).literal
    → w ≡ (if (relaxed_one UnitsByNegation v s).is_fresh then v + 1 else v)
    → after ≡ before ++ weight_unless_true s l
    → after ++ weights_in (relaxed_from UnitsByNegation w (drop (i + 1) ss))
    ≡ before ++ weights_in (relaxed_from UnitsByNegation v (drop i ss))
weights_step v w ss i s l before after lt is lit next pushed =
    let more = drop (i + 1) ss in
    let one = relaxed_one UnitsByNegation v s in
    let left : List (ℕ × Literal) =
    weights_in (relaxed_from UnitsByNegation (if one.is_fresh then v + 1 else v) more) in
    (λ j. pushed j ++ weights_in (relaxed_from UnitsByNegation (next j) more))
    ∙ ap (λ k. (before ++ weight_unless_true s k) ++ left) lit
    ∙ append_assoc before (weight_unless_true s one.literal) left
    ∙ ap (λ x. before ++ x) (sym (weights_next v s more))
    ∙ ap (λ x. before ++ weights_in (relaxed_from UnitsByNegation v (x ∷ more))) is
    ∙ ap (λ x. before ++ x)
    (sym (at_drop_more (λ x. weights_in (relaxed_from UnitsByNegation v x)) ss i s lt))
