-- What is known of the worth of learned clauses.
use Rattle.std.specs.Prelude.{ℕ, ◌-◌, ◌^◌, nat_le, nat_lt, Bool, List, slice_index_or, slice_set}
use Rattle.std.specs.Prelude.{if◌then◌else◌}
use Rattle.cdcl_order.specs.declared.standings.ClauseStanding.{ClauseStanding}
use Rattle.cdcl_order.specs.declared.standings.TheConstants.{NEAR}

abbrev pub unknown : ClauseStanding
unknown = record { lbd = 2 ^ 32 - 1; used = 0 }

abbrev pub is_known : ClauseStanding → Bool
is_known t = nat_lt t.lbd (2 ^ 32 - 1)

-- a clause of this LBD that is new, or has served in an analysis
abbrev pub fresh : ℕ → ClauseStanding
fresh lbd = record { lbd = lbd; used = if nat_le lbd NEAR then 2 else 1 }

-- the standings of the clauses from a reference on
pub record StandingsState : Type 0 where
  pub first : ℕ
  pub items : List ClauseStanding

abbrev pub standing_at : StandingsState → ℕ → ClauseStanding
standing_at s r = if nat_lt r s.first then unknown else slice_index_or s.items (r - s.first) unknown

-- a clause that has none gets none
abbrev pub with_standing : StandingsState → ℕ → ClauseStanding → StandingsState
with_standing s r t = if nat_lt r s.first then s
    else record s { items = slice_set s.items (r - s.first) t }
