-- What is left of a budget; the first terms of the sequence of restarts; values to try; LBDs; and a
-- deletion.
use Rattle.std.specs.Prelude.{◌≡◌, ℕ, zero, suc, true, false, List, [], ◌∷◌, Some, None, refl}
use Rattle.propagate.specs.Trail.{Assigned}
use Rattle.cdcl_order.specs.declared.deletions.Candidate.{Candidate}
use Rattle.cdcl_order.specs.declared.deletions.Ranked.{Ranked}
use Rattle.cdcl_order.specs.Budgets.{BudgetState, WaivesAs, left_of}
use Rattle.cdcl_order.specs.Deletions.{due_at, conflicts_until, is_worse, sifted}
use Rattle.cdcl_order.specs.Levels.{lbd_of}
use Rattle.cdcl_order.specs.Orders.{positive}
use Rattle.cdcl_order.specs.Phases.{PhasesState, phase_of, restarted}
use Rattle.cdcl_order.specs.Phases.{values_under}
use Rattle.cdcl_order.specs.Restarts.{first_power, next_power, term_of}
use Rattle.cdcl_order.specs.Standings.{StandingsState, fresh, unknown, standing_at}

-- of ten units three were learned, one answered, and two waived
abbrev six_spent : BudgetState
six_spent = record { limit = 10; learned = 3; answers = 1; waived = 2 }

four_left : left_of six_spent ≡ 4
four_left = refl

none_left : left_of (record six_spent { waived = 6 }) ≡ 0
none_left = refl

-- the watch has waived five units before, and four more since then
waived_then : WaivesAs six_spent (record six_spent { waived = 6 }) 5 9
waived_then = refl

-- the first n terms from this power on
abbrev terms : ℕ → ℕ → List ℕ
terms zero _ = []
terms (suc n) h = term_of h ∷ terms n (next_power h)

fourteen : terms 14 first_power ≡ 1 ∷ 1 ∷ 1 ∷ 1 ∷ 2 ∷ 2 ∷ 2 ∷ 3 ∷ 4 ∷ 5 ∷ 6 ∷ 7 ∷ 8 ∷ 10 ∷ []
fourteen = refl

-- the variable 2 becomes true, 3 has no place, and 1 stays as it was
under : values_under (true ∷ false ∷ []) (positive 2 ∷ positive 3 ∷ []) ≡ true ∷ true ∷ []
under = refl

-- the last value of the variable 2 is another one than that of the solution
abbrev gone_on : PhasesState
gone_on = record {
  last = false ∷ false ∷ [];
  best = false ∷ true ∷ [];
  is_solved = true;
  conflicts = 1000;
  wait = 1000;
}

last_first : phase_of gone_on 2 ≡ false
last_first = refl

best_after_restart : phase_of (restarted gone_on) 2 ≡ true
best_after_restart = refl

then_later : restarted (restarted gone_on) ≡ restarted gone_on
then_later = refl

waits_longer : (restarted gone_on).wait ≡ 2000
waits_longer = refl

-- the second deletion comes after 100 conflicts more than the first, and the time between two has
-- an end
second : due_at 1 ≡ 1100
second = refl

longest : due_at 1000 ≡ 5000
longest = refl

-- the first deletion comes after 1000 conflicts, the second after 1100 more
two_deletions : conflicts_until 2 ≡ 2100
two_deletions = refl

-- the variables 1 and 2 were decided, 3 followed on level 2
abbrev two_levels : List Assigned
two_levels =
    record { literal = positive 1; reason = None } ∷ record { literal = positive 2; reason = None }
    ∷ record { literal = positive 3; reason = Some 0 } ∷ []

two : lbd_of two_levels (positive 3 ∷ positive 1 ∷ positive 2 ∷ positive 4 ∷ []) ≡ 2
two = refl

abbrev ranked : ℕ → ℕ → ℕ → Ranked
ranked d n r = record { lbd = d; length = n; reference = r }

-- the greater LBD is worse, and of one LBD the longer clause
farther : is_worse (ranked 5 3 7) (ranked 4 9 8) ≡ true
farther = refl

longer : is_worse (ranked 5 4 7) (ranked 5 3 8) ≡ true
longer = refl

alike : is_worse (ranked 5 3 7) (ranked 5 3 8) ≡ false
alike = refl

-- of the clauses 7, 8 and 9 the first was used, the second is near, and the third goes on
abbrev three : StandingsState
three = record {
  first = 7;
  items = fresh 9 ∷ record { lbd = 2; used = 0 } ∷ record { lbd = 3; used = 0 } ∷ [];
}

abbrev candidate : ℕ → Candidate
candidate r = record { length = 4; reference = r }

third_alone : (sifted three (candidate 7 ∷ candidate 8 ∷ candidate 9 ∷ [])).rest
    ≡ ranked 3 4 9 ∷ []
third_alone = refl

first_lost_a_use : standing_at (sifted three (candidate 7 ∷ [])).standings 7
    ≡ record { lbd = 9; used = 0 }
first_lost_a_use = refl

none_below : standing_at three 6 ≡ unknown
none_below = refl
