-- Clauses over a number of variables, and stores that grow.
use Rattle.std.proofs.Common.{ℕ, ◌<◌, ◌≤◌, List, [], ◌∷◌, arith}
use Rattle.std.specs.List.{AllByRecursion}
use Rattle.std.proofs.lemmas.List.Elements.{All-from_recursion}
use Rattle.cnf.specs.Literal.{Literal}
use Rattle.cnf.specs.Clause.{greatest_variable}
use Rattle.propagate.specs.Watches.{IsVariable}
use Rattle.propagate.specs.Fits.{IsWithin}

named : (v : ℕ) (c : List Literal) → AllByRecursion (IsVariable v) c
    → AllByRecursion (λ l. 0 < l.variable) c
named v [] h = tt
named v (l ∷ c) h = (h.0.0, named v c h.1)

greatest : (v : ℕ) (c : List Literal) → AllByRecursion (IsVariable v) c → greatest_variable c ≤ v
greatest v [] h = omega arith
greatest v (l ∷ c) h =
    let one : l.variable ≤ v = h.0.1 in
    let more : greatest_variable c ≤ v = greatest v c h.1 in
    grind arith

pub within_by : (v : ℕ) (c : List Literal) → AllByRecursion (IsVariable v) c → IsWithin v c
within_by v c h = (All-from_recursion (λ l. 0 < l.variable) c (named v c h), greatest v c h)
