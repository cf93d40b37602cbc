-- The clauses of counts, as a search takes them.
use Rattle.std.proofs.Common.{◌≡◌, ℕ, ◌+◌, ◌<◌, ◌≤◌, false, List, [], ◌∷◌, Option, ◌∙◌, ap, arith}
use Rattle.std.proofs.Common.{refl}
use Rattle.std.specs.Prelude.{All, is_some}
use Rattle.std.specs.List.{AllByRecursion}
use Rattle.std.proofs.lemmas.List.Elements.{All-weaker}
use Rattle.cnf.specs.Clause.{AreBelow, greatest_variable}
use Rattle.cnf.specs.Literal.{Literal}
use Rattle.cnf.specs.Lrat.{IsId}
use Rattle.cnf.specs.declared.limits.TheConstants.{VARIABLE_LIMIT}
use Rattle.totalizer.specs.Grown.{IsStageClause}
use Rattle.forms.specs.declared.faults.LineFault.{LineFault}
use Rattle.forms.specs.Answers.{IsMade, MakesStageClauses}
use Rattle.forms.specs.Forms.{Forms, count_line, heard, more_line}
use Rattle.cuts_log.specs.declared.standing.Standing.{Standing}
use Rattle.cuts_log.specs.Made.{IsMadeClause}
use Rattle.cuts_log.specs.Stands.{with_clause, with_clauses}
use Rattle.cuts_log.proofs.Claims.{made_of}

-- clauses that are live bring no variable
heard-variables : (c : List Literal) (s : Forms) → (heard c s).variables ≡ s.variables
heard-variables [] s = refl
heard-variables (l ∷ []) s = refl
heard-variables (l ∷ k ∷ c) s = refl

with_clauses-variables : (cs : List (List Literal)) (s : Standing)
    → ((with_clauses cs s).forms).variables ≡ (s.forms).variables
with_clauses-variables [] s = refl
with_clauses-variables (c ∷ cs) s =
    with_clauses-variables cs (with_clause c s) ∙ heard-variables c s.forms

greatest_below : (n : ℕ) (c : List Literal) → AreBelow (n + 1) c → greatest_variable c ≤ n
greatest_below n [] h = omega arith
greatest_below n (l ∷ c) h = let rest = greatest_below n c h.1 in omega (arith, h.0, rest)

made_one : (n m : ℕ) (c : List Literal) → n ≡ m → n < VARIABLE_LIMIT → IsStageClause (m + 1) c
    → All (λ l. IsId l.variable) c → IsMadeClause n c
made_one n m c same small h ids =
    let greatest = greatest_below m c h.below in record {
      new = record {
        no_repeat = h.once;
        no_tautology = h.open_one;
        small = omega (arith, greatest);
      };
      some = omega (arith, h.long);
      within = (
        All-weaker (λ l. IsId l.variable) (λ l. 0 < l.variable) (λ l p. p.0) c ids,
        omega (arith, greatest),
      );
    }

made_all : (n m : ℕ) (cs : List (List Literal)) → n ≡ m → n < VARIABLE_LIMIT
    → AllByRecursion (IsStageClause (m + 1)) cs
    → AllByRecursion (λ c. All (λ l. IsId l.variable) c) cs → AllByRecursion (IsMadeClause n) cs
made_all n m [] same small h ids = tt
made_all n m (c ∷ cs) same small h ids =
    (made_one n m c same small h.0 ids.0, made_all n m cs same small h.1 ids.1)

-- of a line that is taken
module _ (old new : Standing) (made : List (List Literal)) (mid : Forms) (fault : Option LineFault)
    (makes : MakesStageClauses old.forms) (none : is_some fault ≡ false)
    (is : new ≡ with_clauses made (record old { forms = mid }))
    (small : (new.forms).variables < VARIABLE_LIMIT)
    (ids : AllByRecursion (λ c. All (λ l. IsId l.variable) c) made) where
  same : (new.forms).variables ≡ mid.variables
  same = ap (λ (s : Standing). (s.forms).variables) is
      ∙ with_clauses-variables made (record old { forms = mid })

  pub count_made : (outputs : ℕ) (inputs : List Literal)
      → IsMade (count_line outputs inputs old.forms) old.forms mid made fault
      → AllByRecursion (IsMadeClause (new.forms).variables) made
  count_made outputs inputs h =
      let line = made_of (count_line outputs inputs old.forms) old.forms mid made fault h none in
      made_all (new.forms).variables mid.variables made same small
      (makes.count outputs inputs (record { forms = mid; clauses = made }) line) ids

  pub more_made : (number : ℕ)
      → IsMade (more_line number old.forms) old.forms mid made fault
      → AllByRecursion (IsMadeClause (new.forms).variables) made
  more_made number h =
      let line = made_of (more_line number old.forms) old.forms mid made fault h none in
      made_all (new.forms).variables mid.variables made same small
      (makes.more number (record { forms = mid; clauses = made }) line) ids
