-- What a result says is so, where its certificate was accepted.
use Rattle.std.proofs.Common.{◌≡◌, ℕ, ◌<◌, ◌≤◌, Bool, List, sym, ◌∙◌, ap, subst, arith}
use Rattle.std.specs.Prelude.{◌↔◌, All, Ok}
use Rattle.cnf.specs.Literal.{Assignment}
use Rattle.cnf.specs.Bits.{Extends}
use Rattle.cnf.specs.Clause.{Satisfies}
use Rattle.cnf.specs.Formula.{IsUnsatisfiable}
use Rattle.cnf.specs.Problem.{Problem, IsFeasible, cost_under, IsOptimal, IsInconsistent}
use Rattle.wcnf.specs.Wcnf.{Reads}
use Rattle.wcnf.proofs.Laws.{reads_one}
use Rattle.adder.specs.declared.profiles.Profile.{Profile}
use Rattle.bound.specs.Bound.{hard_cnf, bound_as, SaysCheaper}
use Rattle.lrat_result.specs.Result.{Said, Report, Says, report_of}
use Rattle.lrat_check.specs.Checks.{CostsAtLeast, HasCost, IsTrueOf, IsTrueResult}
use Rattle.lrat_result.proofs.Laws.{report_from_says}

pub not_cheaper : (profile : Profile) (p : Problem) (c : ℕ) → SaysCheaper profile p c
    → IsUnsatisfiable (bound_as profile p c).clauses → (u : Assignment) → IsFeasible p u
    → cost_under p u < c → ⊥
not_cheaper profile p c says none u f lower = let k = says.from u f lower in none k.0 k.2

pub at_least : (m c : ℕ) → (m < c → ⊥) → c ≤ m
at_least m c n = omega arith

pub optimal_by : (profile : Profile) (p : Problem) (c : ℕ) (bits : List Bool)
    → SaysCheaper profile p c → IsUnsatisfiable (bound_as profile p c).clauses → HasCost p bits c
    → (t : Assignment) → Extends bits t → IsOptimal p t c
optimal_by profile p c bits says none has t e =
    let h = has t e in
    record {
      feasible = h.0;
      exact = h.1;
      least = λ u f. at_least (cost_under p u) c (not_cheaper profile p c says none u f);
    }

pub optimal_least : (p : Problem) (c : ℕ) (bits : List Bool) → CostsAtLeast p c → HasCost p bits c
    → (t : Assignment) → Extends bits t → IsOptimal p t c
optimal_least p c bits least has t e =
    let h = has t e in record { feasible = h.0; exact = h.1; least = least }

pub inconsistent_by : (p : Problem)
    → ((t : Assignment) → All (Satisfies t) (hard_cnf p).clauses ↔ IsFeasible p t)
    → IsUnsatisfiable (hard_cnf p).clauses → IsInconsistent p
inconsistent_by p same none t f = none t ((same t).1 f)

-- a text says one thing at most
says_once : (text : List ℕ) (r : Report) → report_of text ≡ Ok r → (said : Said) → Says text said
    → r.said ≡ said
says_once text r e said says =
    let k = report_from_says text said says in
    let same : Ok r ≡ Ok k.0 = sym e ∙ k.1 in
    ap (λ (x : Report). x.said) (Rattle.wcnf.proofs.Laws.same_Ok r k.0 same) ∙ k.2

pub true_by : (text answer : List ℕ) (p : Problem) (r : Report) → Reads text p
    → report_of answer ≡ Ok r → IsTrueOf p r.said → IsTrueResult text answer
true_by text answer p r reads e is q said reads_q says =
    subst (λ x. IsTrueOf x said) (reads_one text p q reads reads_q)
    (subst (λ s. IsTrueOf p s) (says_once answer r e said says) is)
