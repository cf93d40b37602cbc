-- LRAT certificates (Cruz-Filipe et al. 2017): lines, what a correct line is, and what a whole
-- certificate is.
use Rattle.std.specs.Prelude.{◌≡◌, ℕ, ◌<◌, Bool, true, false, List, [], ◌∷◌, ◌++◌, length, map}
use Rattle.std.specs.Prelude.{Some, None, ◌==◌, nat_eq, if◌then◌else◌, Contains, ◌⊎◌}
use Rattle.std.specs.Prelude.{◌↔◌}
use Rattle.std.specs.List.{IsDistinct, AllByRecursion, list_any}
use Rattle.std.specs.List.Sorted.{IsStrictlyIncreasing}
use Rattle.cnf.specs.Literal.{Literal, negation}
use Rattle.cnf.specs.Clause.{contains_literal, without_literal, has_repeat, is_tautology}
use Rattle.cnf.specs.Clause.{greatest_variable}
use Rattle.cnf.specs.Formula.{numbered}
use Rattle.cnf.specs.Refute.{Clauses, Leads, Refutes}
use Rattle.cnf.specs.declared.limits.TheConstants.{NUMBER_LIMIT, VARIABLE_LIMIT}

-- the number of a clause, or of a variable that a line may spell
abbrev pub IsId : ℕ → Type 0
IsId n = (0 < n) × (n < NUMBER_LIMIT)

-- a candidate of a RAT line, and the hints for it
pub record CandidateHints : Type 0 where
  pub candidate : ℕ
  pub hints : List ℕ

pub data ProofLine : Type 0 where
  Addition : (id : ℕ) (clause : List Literal) (hints : List ℕ) (groups : List CandidateHints)
      → ProofLine
  Deletion : (lead : ℕ) (ids : List ℕ) → ProofLine

-- the clauses that are live, by id, and the last id that was given
pub record Live : Type 0 where
  pub clause_at : Clauses
  pub last : ℕ

abbrev pub start_of : List (List Literal) → Live
start_of cs = record { clause_at = numbered cs; last = length cs }

abbrev pub with_clause : Live → ℕ → List Literal → Live
with_clause live id c =
    record { clause_at = λ i. if i == id then Some c else live.clause_at i; last = id }

abbrev pub without_ids : Live → List ℕ → Live
without_ids live ids =
    record {
      clause_at = λ i. if list_any (nat_eq i) ids then None else live.clause_at i;
      last = live.last;
    }

-- a clause that may be added under this id
pub record IsAddable (live : Live) (id : ℕ) (c : List Literal) : Type 0 where
  pub rising : live.last < id
  pub no_repeat : has_repeat c ≡ false
  pub no_tautology : is_tautology c ≡ false
  pub small : greatest_variable c < VARIABLE_LIMIT

-- The candidate d resolves with the pivot to a clause that is already true under B, or that is
-- refuted by the group's hints.
abbrev pub HoldsForCandidate : Clauses → Literal → List Literal → CandidateHints → Type 0
HoldsForCandidate at pivot B g = (d : List Literal) × (at g.candidate ≡ Some d) × (
    ((list_any (λ k. contains_literal k B) (without_literal (negation pivot) d) ≡ true)
    × (g.hints ≡ []))
    ⊎ ((list_any (λ k. contains_literal k B) (without_literal (negation pivot) d) ≡ false)
    × Refutes at (map negation (without_literal (negation pivot) d) ++ B) g.hints))

abbrev pub candidates_of : List CandidateHints → List ℕ
candidates_of groups = map (λ g. g.candidate) groups

pub record IsRat (at : Clauses) (c : List Literal) (hints : List ℕ) (groups : List CandidateHints) :
    Type 0 where
  pub pivot : Literal
  pub others : List Literal
  pub first : c ≡ pivot ∷ others
  pub reached : List Literal
  pub leads : Leads at (map negation c) hints reached
  -- the groups name all live clauses with the negated pivot, in rising id
  pub rising : IsStrictlyIncreasing (candidates_of groups)
  pub complete : (i : ℕ) → Contains (candidates_of groups) i
      ↔ ((d : List Literal) × (at i ≡ Some d) × (contains_literal (negation pivot) d ≡ true))
  pub each : AllByRecursion (HoldsForCandidate at pivot reached) groups

abbrev pub IsRup : Clauses → List Literal → List ℕ → List CandidateHints → Type 0
IsRup at c hints groups = (groups ≡ []) × Refutes at (map negation c) hints

-- a correct line, and what is live after it
abbrev pub Step : Live → ProofLine → Live → Type 0
Step old (Addition id c hints groups) new =
    IsAddable old id c × (IsRup old.clause_at c hints groups ⊎ IsRat old.clause_at c hints groups)
    × (new ≡ with_clause old id c)
Step old (Deletion lead ids) new =
    IsDistinct nat_eq ids
    × AllByRecursion (λ i. (c : List Literal) × (old.clause_at i ≡ Some c)) ids
    × (new ≡ without_ids old ids)

-- correct lines, one after another
abbrev pub Chain : Live → List ProofLine → Live → Type 0
Chain old [] new = new ≡ old
Chain old (l ∷ ls) new = (mid : Live) × Step old l mid × Chain mid ls new

abbrev pub adds_empty : ProofLine → Bool
adds_empty (Addition id [] hints groups) = true
adds_empty (Addition id (l ∷ c) hints groups) = false
adds_empty (Deletion lead ids) = false

-- correct lines, of which the last, and no earlier one, adds the empty clause
pub record AcceptsFrom (start : Live) (ls : List ProofLine) : Type 0 where
  pub front : List ProofLine
  pub final : ProofLine
  pub split : ls ≡ front ++ final ∷ []
  pub ends : adds_empty final ≡ true
  pub not_before : AllByRecursion (λ l. adds_empty l ≡ false) front
  pub left : Live
  pub chain : Chain start ls left

abbrev pub Accepts : List (List Literal) → List ProofLine → Type 0
Accepts formula ls = AcceptsFrom (start_of formula) ls
