-- What satisfies the clauses of the formula begins with a solution of the instance.
use Rattle.std.proofs.Common.{◌≡◌, ℕ, ◌+◌, ◌≤◌, List, [], ◌∷◌, length, map, arith, subst}
use Rattle.std.specs.Prelude.{All, Bool}
use Rattle.std.specs.List.{AllByRecursion, enumerate_from}
use Rattle.std.proofs.lemmas.List.Elements.{All-from_recursion, recursion_from_All}
use Rattle.cnf.specs.Literal.{Assignment, Literal}
use Rattle.cnf.specs.Bits.{Extends}
use Rattle.cnf.specs.Clause.{Satisfies}
use Rattle.cnf.specs.Problem.{Problem, IsFeasible}
use Rattle.cnf.proofs.Laws.{all_parts}
use Rattle.adder.specs.declared.profiles.Profile.TheVariants.{Two}
use Rattle.bound.specs.Bound.{kept, relaxed_clauses}
use Rattle.bound.specs.Weighted.{weighted_cnf}
use Rattle.bound.proofs.Laws.{feasible}
use Rattle.lrat_log.specs.declared.lines.Name.{Name}
use Rattle.lrat_log.specs.declared.lines.Name.TheVariants.{Formula}
use Rattle.lrat_log.specs.Log.{Given}
use Rattle.lrat_log.specs.Steps.{given_of}
use Rattle.cdcl.specs.Solving.{SatisfyGiven}

-- the clauses of a formula, without their names
without_names : (P : List Literal → Type 0) (n : ℕ) (cs : List (List Literal))
    → AllByRecursion (λ (g : Name × List Literal). P g.1)
    (map (λ e. (Formula e.0, e.1)) (enumerate_from n cs)) → AllByRecursion P cs
without_names P n [] h = tt
without_names P n (c ∷ cs) h = (h.0, without_names P (n + 1) cs h.1)

hold : (p : Problem) (t : Assignment)
    → All (λ (g : Name × List Literal). Satisfies t g.1) (given_of (weighted_cnf p).clauses)
    → IsFeasible p t
hold p t h =
    let cs = (weighted_cnf p).clauses in
    let each = without_names (Satisfies t) 1 cs
    (recursion_from_All (λ (g : Name × List Literal). Satisfies t g.1) (given_of cs) h) in
    let hard = all_parts (Satisfies t) (kept p.hard) (kept (relaxed_clauses Two p)) each in
    (feasible p t).0 (All-from_recursion (Satisfies t) (kept p.hard) hard.0)

pub begins_with : (p : Problem) (given : Given) (bits : List Bool)
    → given ≡ given_of (weighted_cnf p).clauses → length bits ≡ (weighted_cnf p).variables
    → SatisfyGiven bits given
    → (p.variables ≤ length bits) × ((t : Assignment) → Extends bits t → IsFeasible p t)
begins_with p given bits same long satisfied = (
  omega (arith, long),
  λ t extends.
      hold p t (subst (All (λ (g : Name × List Literal). Satisfies t g.1)) same
      (satisfied t extends)),
)
