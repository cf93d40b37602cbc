-- Dropped repeats, clauses with complementary literals and the order change no value.
use Rattle.std.proofs.Common.{◌≡◌, Bool, true, false, not, ◌&&◌, ◌||◌, List, [], ◌∷◌, reverse}
use Rattle.std.proofs.Common.{if◌then◌else◌, All, ◌↔◌, refl, sym, ◌∙◌, ap, subst}
use Rattle.std.specs.List.{list_all, list_any}
use Rattle.std.proofs.lemmas.Grind.{reverse_onto}
use Rattle.std.proofs.lemmas.List.Folds.{list_all-append}
use Rattle.std.proofs.lemmas.List.Sums.{AllPass-from_list_all, list_all-from_AllPass}
use Rattle.cnf.specs.Literal.{Assignment, Literal, negation, literal_value, literal_eq}
use Rattle.cnf.specs.Clause.{Satisfies, clause_value, without_literal, distinct}
use Rattle.cnf.specs.Clause.{is_tautology}
use Rattle.cnf.specs.Problem.{Problem, IsFeasible}
use Rattle.cnf.proofs.Laws.{literal_eq-true, tautologies_true}
use Rattle.bound.specs.Bound.{kept, hard_cnf}

-- the clauses are all true
abbrev pub all_true : Assignment → List (List Literal) → Bool
all_true t cs = list_all (clause_value t) cs

pub all_true-from : (t : Assignment) (cs : List (List Literal)) → All (Satisfies t) cs
    → all_true t cs ≡ true
all_true-from t cs h = list_all-from_AllPass (clause_value t) cs h

pub from_all_true : (t : Assignment) (cs : List (List Literal)) → all_true t cs ≡ true
    → All (Satisfies t) cs
from_all_true t cs h = AllPass-from_list_all (clause_value t) cs h

pub value-no : (t : Assignment) (l : Literal)
    → literal_value t (negation l) ≡ not (literal_value t l)
value-no t l = by l.negated (t l.variable)
  where
    by : (n v : Bool) → (if not n then not v else v) ≡ not (if n then not v else v)
    by true true = refl
    by true false = refl
    by false true = refl
    by false false = refl

-- a literal that fails the test can be left out
any-without : (f : Literal → Bool) (l : Literal) (c : List Literal) → f l ≡ false
    → list_any f (without_literal l c) ≡ list_any f c
any-without f l [] e = refl
any-without f l (k ∷ c) e =
    elim (literal_eq l k) as (λ b. literal_eq l k ≡ b
    → list_any f (if not b then k ∷ without_literal l c else without_literal l c)
    ≡ list_any f (k ∷ c)) [
      | true ↦ λ h. any-without f l c e
          ∙ ap (λ b. b || list_any f c)
          (sym (subst (λ m. f m ≡ false) (literal_eq-true l k h) e))
      | false ↦ λ h. ap (λ b. f k || b) (any-without f l c e)
    ] refl

-- and so can repeats
pub any-distinct : (f : Literal → Bool) (c : List Literal)
    → list_any f (distinct c) ≡ list_any f c
any-distinct f [] = refl
any-distinct f (l ∷ c) =
    elim (f l) as (λ b. f l ≡ b
    → (b || list_any f (without_literal l (distinct c))) ≡ (b || list_any f c)) [
      | true ↦ λ e. refl
      | false ↦ λ e. any-without f l (distinct c) e ∙ any-distinct f c
    ] refl

pub all_true-kept : (t : Assignment) (cs : List (List Literal))
    → all_true t (kept cs) ≡ all_true t cs
all_true-kept t [] = refl
all_true-kept t (c ∷ cs) =
    elim (is_tautology (distinct c)) as (λ b. is_tautology (distinct c) ≡ b
    → all_true t (if not b then distinct c ∷ kept cs else kept cs) ≡ all_true t (c ∷ cs)) [
      | true ↦ λ h. all_true-kept t cs
          ∙ ap (λ b. b && all_true t cs)
          (sym (sym (any-distinct (literal_value t) c) ∙ tautologies_true t (distinct c) h))
      | false ↦ λ h. λ i. any-distinct (literal_value t) c i && all_true-kept t cs i
    ] refl

and_comm : (a b : Bool) → (a && b) ≡ (b && a)
and_comm true true = refl
and_comm true false = refl
and_comm false true = refl
and_comm false false = refl

pub all_true-reverse : (t : Assignment) (cs : List (List Literal))
    → all_true t (reverse cs) ≡ all_true t cs
all_true-reverse t [] = refl
all_true-reverse t (c ∷ cs) =
    ap (all_true t) (reverse_onto cs c []) ∙ list_all-append (clause_value t) (reverse cs) (c ∷ [])
    ∙ (λ i. all_true-reverse t cs i && and_comm (clause_value t c) true i)
    ∙ and_comm (all_true t cs) (clause_value t c)

-- the law of `hard_formula`
pub feasible : (p : Problem) (t : Assignment)
    → All (Satisfies t) (hard_cnf p).clauses ↔ IsFeasible p t
feasible p t = (
  λ h. from_all_true t p.hard (sym (all_true-kept t p.hard) ∙ all_true-from t (kept p.hard) h),
  λ h. from_all_true t (kept p.hard) (all_true-kept t p.hard ∙ all_true-from t p.hard h),
)
