-- A search before its first move.
use Rattle.std.specs.Prelude.{◌≡◌, ℕ, ◌<◌, ◌≤◌, true, false, List, [], length, replicate}
use Rattle.std.specs.Prelude.{Some, None, All}
use Rattle.cnf.specs.Literal.{Literal}
use Rattle.cnf.specs.Lrat.{IsId}
use Rattle.clauses.specs.Slots.{Slots, clause_at, IsLive}
use Rattle.propagate.specs.Watches.{EngineState, is_attached}
use Rattle.propagate.specs.Fits.{Fits, IsWithin}
use Rattle.lrat_log.specs.Log.{number_in}
use Rattle.reconstruction.specs.Stack.{StackState}
use Rattle.cdcl_search.specs.declared.search.Search.{Search}
use Rattle.cdcl_search.specs.Invariant.{name_at}
use Rattle.cdcl_search.specs.Running.{HasRoom}

-- a live clause over `variables` variables
pub record IsLiveWithin (slots : Slots) (variables r : ℕ) : Type 0 where
  pub clause : List Literal
  pub live : clause_at slots r ≡ Some clause
  pub within : IsWithin variables clause

-- each clause is
abbrev pub AreWithin : Slots → ℕ → Type 0
AreWithin slots variables = (r : ℕ) (c : List Literal) → clause_at slots r ≡ Some c
    → IsWithin variables c

-- nothing is true, and of the places below one those with a live clause are attached, no others
pub record AreAttachedBelow (e : EngineState) (slots : Slots) (variables n : ℕ) : Type 0 where
  pub fits : Fits e slots
  pub trail : e.trail ≡ []
  pub variables_are : e.variables ≡ variables
  pub works : e.failed ≡ false
  pub attached : (r : ℕ) → r < n → IsLive slots r → is_attached e r ≡ true
  pub only : (r : ℕ) → is_attached e r ≡ true → r < n

-- nothing is true, all clauses that the stack lists are attached, and each has its name
pub record IsStarted (slots : Slots) (stack : StackState) (additions : ℕ)
    (s : Search) : Type 0 where
  pub slots_are : (s.store).slots ≡ slots
  pub trail : (s.engine).trail ≡ []
  pub variables : (s.engine).variables ≡ stack.variables
  pub works : (s.engine).failed ≡ false
  pub fits : Fits s.engine slots
  pub attached : All (λ n. is_attached s.engine n.0 ≡ true) stack.names
  pub long : length (s.names).items ≡ length slots
  pub named : All (λ n. name_at (s.names).items n.0 ≡ n.1) stack.names
  pub numbers : All (λ n. IsId (number_in n)) (s.names).items
  pub units : (s.units).items ≡ replicate stack.variables None
  pub noted : s.noted ≡ 0
  pub kept : s.kept ≡ additions
  pub counted : s.additions ≡ additions
  pub room : HasRoom s
  pub past : All (λ n. n ≤ s.additions) (s.stamps).items
