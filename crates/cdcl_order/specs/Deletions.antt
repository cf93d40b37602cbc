-- Which learned clauses are deleted, by tiers of LBD, and when.
use Rattle.std.specs.Prelude.{◌≡◌, ℕ, zero, suc, ◌+◌, ◌-◌, ◌*◌, ◌/◌, nat_lt, Bool, false}
use Rattle.std.specs.Prelude.{List, [], ◌∷◌, ◌++◌}
use Rattle.std.specs.Prelude.{min, length, map, All, fold, if◌then◌else◌, IsPermutation, IsSortedBy}
use Rattle.std.specs.List.Sorted.{IsStableBy}
use Rattle.std.specs.Ordering.{nat_cmp, ordering_then, is_lt}
use Rattle.cdcl_order.specs.Standings.{StandingsState, standing_at, with_standing}
use Rattle.cdcl_order.specs.declared.deletions.Candidate.{Candidate}
use Rattle.cdcl_order.specs.declared.deletions.Ranked.{Ranked}
use Rattle.cdcl_order.specs.declared.deletions.TheConstants.{FIRST_DELETION, DELETION_STEP}
use Rattle.cdcl_order.specs.declared.deletions.TheConstants.{DELETION_STEPS}
use Rattle.cdcl_order.specs.declared.standings.TheConstants.{KEPT}

-- how many conflicts come between the last deletion and the next one
abbrev pub due_at : ℕ → ℕ
due_at deletions = FIRST_DELETION + DELETION_STEP * min deletions DELETION_STEPS

-- how many conflicts a search has had when it makes its nth deletion; 0 for n = 0
abbrev pub conflicts_until : ℕ → ℕ
conflicts_until zero = 0
conflicts_until (suc n) = conflicts_until n + due_at n

-- Clauses that are spared.

-- the standings, with what was taken from them, and the clauses that are not spared
pub record Sifted : Type 0 where
  pub standings : StandingsState
  pub rest : List Ranked

-- a clause that was used lately loses a use, one of LBD KEPT or less stays, another is not spared
abbrev pub sift_one : Sifted → Candidate → Sifted
sift_one s c =
    let t = standing_at s.standings c.reference in
    if nat_lt 0 t.used then record s {
      standings = with_standing s.standings c.reference (record t { used = t.used - 1 });
    }
    else if nat_lt KEPT t.lbd then record s {
      rest = s.rest ++ record {
        lbd = t.lbd;
        length = c.length;
        reference = c.reference;
      } ∷ [];
    }
    else s

abbrev pub sifted : StandingsState → List Candidate → Sifted
sifted s candidates = fold sift_one (record { standings = s; rest = [] }) candidates

-- The worse half.

-- the first clause has the greater LBD, or the same and more literals
abbrev pub is_worse : Ranked → Ranked → Bool
is_worse c d = is_lt (ordering_then (nat_cmp d.lbd c.lbd) (nat_cmp d.length c.length))

-- none of the others is worse than one of the chosen
abbrev pub AreWorse : List Ranked → List Ranked → Type 0
AreWorse chosen others = All (λ c. All (λ o. is_worse o c ≡ false) others) chosen

-- all of them are the chosen ones, the worst first, and the others; of equal ones the earlier
-- comes first
pub record IsWorseHalf (all chosen : List Ranked) : Type 0 where
  pub others : List Ranked
  pub same : IsPermutation all (chosen ++ others)
  pub half : length chosen ≡ length all / 2
  pub worse : AreWorse chosen others
  pub falling : IsSortedBy is_worse (chosen ++ others)
  pub stable : IsStableBy is_worse all (chosen ++ others)

-- What goes.

-- the worse half of the clauses that are not spared
pub record IsChosen (old new : StandingsState) (candidates : List Candidate)
    (chosen : List ℕ) : Type 0 where
  pub worse : List Ranked
  pub half : IsWorseHalf (sifted old candidates).rest worse
  pub are : chosen ≡ map (λ r. r.reference) worse
  pub standings : new ≡ (sifted old candidates).standings
