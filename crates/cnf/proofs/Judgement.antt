-- What clauses within the variables of an instance are under bits.
use Rattle.std.proofs.Common.{◌≡◌, ℕ, ◌≤◌, ◌<◌, Bool, false, List, [], ◌∷◌, sym, ◌∙◌, ap, subst}
use Rattle.std.proofs.Common.{arith, length, get_or}
use Rattle.std.specs.Prelude.{All, IsTrue, ◌↔◌, unwrap_or}
use Rattle.std.specs.List.{list_all}
use Rattle.std.proofs.lemmas.List.Elements.{All-nil, All-cons, All-weaker}
use Rattle.std.proofs.lemmas.List.Sums.{AllPass-from_list_all, list_all-from_AllPass}
use Rattle.cnf.specs.Literal.{Literal, Assignment}
use Rattle.cnf.specs.Bits.{Extends, assignment_of}
use Rattle.cnf.specs.Clause.{clause_value, Satisfies, greatest_variable}
use Rattle.cnf.specs.Problem.{SoftClause}
use Rattle.cnf.specs.Instance.{IsClauseWithin}

abbrev pub IsWithin : ℕ → List Literal → Type 0
IsWithin n c = All (λ l. l.variable ≤ n) c

pub within_greatest : (n : ℕ) (c : List Literal) → greatest_variable c ≤ n → IsWithin n c
within_greatest n [] h = All-nil (λ l. l.variable ≤ n)
within_greatest n (l ∷ c) h =
    All-cons (λ l. l.variable ≤ n) l c (omega arith) (within_greatest n c (omega arith))

pub clauses_within : (n : ℕ) (cs : List (List Literal)) → All (IsClauseWithin n) cs
    → All (IsWithin n) cs
clauses_within n cs h =
    All-weaker (IsClauseWithin n) (IsWithin n) (λ c w. within_greatest n c w.2) cs h

pub all_satisfied : (t : Assignment) (cs : List (List Literal)) (r : Bool)
    → r ≡ list_all (clause_value t) cs → IsTrue r ↔ All (Satisfies t) cs
all_satisfied t cs r e = (
  λ h. AllPass-from_list_all (clause_value t) cs (sym e ∙ h),
  λ h. e
      ∙ list_all-from_AllPass (clause_value t) cs h,
)

-- the literals of one soft clause
pub soft_within : (n : ℕ) (ss : List SoftClause) → All (λ s. IsClauseWithin n s.clause) ss → (i : ℕ)
    → i < length ss → (s : SoftClause) → s ≡ get_or ss i s → (c : List Literal) → c ≡ s.clause
    → IsWithin n c
soft_within n ss all i l s at c e =
    let k : IsClauseWithin n s.clause =
    subst (λ (x : SoftClause). IsClauseWithin n x.clause) (sym at) (all i s l) in
    rw e (within_greatest n s.clause k.2)

-- bits agree with their own assignment
pub extends_own : (bits : List Bool) → Extends bits (assignment_of bits)
extends_own bits v b e = ap (λ o. unwrap_or o false) e
