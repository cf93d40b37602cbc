-- What a reader of lines says of the tokens that it read.
use Rattle.std.specs.Prelude.{◌≡◌, ℕ, Bool, false, List, [], ◌∷◌, map, Some, nat_le}
use Rattle.std.specs.List.{list_any}
use Rattle.cnf.specs.Literal.{Literal}
use Rattle.cnf.specs.declared.limits.TheConstants.{VARIABLE_LIMIT}
use Rattle.lrat_read.specs.Form.{signed_of, line_of, Addition as AddsLine, Deletion as DeletesLine}
use Rattle.lrat_read.specs.Form.{Malformed as NoLine}
use Rattle.lrat_read.specs.declared.types.Form.{Form}
use Rattle.lrat_read.specs.declared.types.Form.TheVariants.{Blank, Malformed, Addition, Deletion}

-- what a reader holds: the leading number, the literals, whether some variable is too large for
-- them, and the hints or ids
pub record LineState : Type 0 where
  pub id : ℕ
  pub clause : List Literal
  pub is_large : Bool
  pub hints : List (Bool × ℕ)

-- some variable is not below the limit
abbrev pub is_large_clause : List Literal → Bool
is_large_clause c = list_any (λ l. nat_le VARIABLE_LIMIT l.variable) c

abbrev pub IsReadAs : List (List ℕ) → Form → LineState → Type 0
IsReadAs ts Blank s = ts ≡ []
IsReadAs ts Malformed s = (ts ≡ [] → ⊥) × (line_of ts ≡ NoLine)
IsReadAs ts Addition s =
    (c : List Literal) × (line_of ts ≡ AddsLine s.id c s.hints) × (is_large_clause c ≡ s.is_large)
    × (s.is_large ≡ false → c ≡ s.clause)
IsReadAs ts Deletion s = line_of ts ≡ DeletesLine (map (λ h. h.1) s.hints)

-- these tokens, which begin with no lone letter d, are read as what follows the number id
abbrev pub IsAdditionRead : ℕ → List (List ℕ) → Form → LineState → Type 0
IsAdditionRead id ts form s =
    (t : List ℕ) → signed_of t ≡ Some (false, id)
    → ((us : List (List ℕ)) → ts ≡ (100 ∷ []) ∷ us → ⊥) → IsReadAs (t ∷ ts) form s

-- these tokens are read as what follows a number and the letter d
abbrev pub IsDeletionRead : List (List ℕ) → Form → LineState → Type 0
IsDeletionRead ts form s =
    (t : List ℕ) (n : ℕ) → signed_of t ≡ Some (false, n) → IsReadAs (t ∷ (100 ∷ []) ∷ ts) form s
