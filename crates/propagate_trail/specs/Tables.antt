-- The tables beside the trail, by literal and by variable.
use Rattle.std.specs.Prelude.{◌≡◌, ℕ, ◌+◌, ◌*◌, ◌<◌, ◌≤◌, Bool, false, List, ◌-◌, ◌^◌, length, map}
use Rattle.std.specs.Prelude.{take, All, Option, None, is_none, ◌==◌, slice_index, slice_index_or}
use Rattle.std.specs.Prelude.{count_by}
use Rattle.std.specs.List.{list_any}
use Rattle.cnf.specs.Literal.{Literal, index_of}
use Rattle.propagate_trail.specs.Trail.{Assigned, depth_of, value_in, level_in, IsVariable}

abbrev pub reason_at : List (Option ℕ) → ℕ → Option ℕ
reason_at reasons v = slice_index_or reasons v None

-- the trail of these literals
abbrev pub assigned_by : List (Option ℕ) → List Literal → List Assigned
assigned_by reasons literals = map (λ l. record {
  literal = l;
  reason =
      reason_at reasons l.variable;
}) literals

abbrev pub mentions : ℕ → List Literal → Bool
mentions v ls = list_any (λ l. l.variable == v) ls

-- the tables say what the trail does, and there is room for all variables
pub record IsTrail (variables : ℕ) (literals : List Literal) (values : List (Option Bool))
    (levels : List (Option ℕ)) (positions : List ℕ) (reasons : List (Option ℕ)) (depth room : ℕ) :
    Type 0 where
  pub within : All (IsVariable variables) literals
  -- the greatest word stands for no level
  pub few : variables < 2 ^ 32 - 1
  pub once : (k : ℕ) (d : Literal) → k < length literals
      → mentions (slice_index_or literals k d).variable (take k literals) ≡ false
  pub values_length : length values ≡ 2 * variables
  pub levels_length : length levels ≡ variables + 1
  pub positions_length : length positions ≡ variables + 1
  pub reasons_length : length reasons ≡ variables + 1
  pub value_of : (l : Literal) → IsVariable variables l
      → slice_index_or values (index_of l) None ≡ value_in (assigned_by reasons literals) l
  pub level_of : (v : ℕ) → slice_index_or levels v None ≡ level_in (assigned_by reasons literals) v
  pub position_of : (k : ℕ) (d : Literal) → k < length literals
      → slice_index positions (slice_index_or literals k d).variable ≡ k
  pub depth_is : depth ≡ depth_of (assigned_by reasons literals)
  pub has_room : variables ≤ room
  -- as many literals are open as the trail leaves
  pub open_literals : 2 * length literals + count_by is_none values ≡ 2 * variables
