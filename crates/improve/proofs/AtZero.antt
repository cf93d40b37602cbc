-- The formula for 'cost below 0' has the empty clause as its last one, and no cost is below 0.
use Rattle.std.proofs.Common.{◌≡◌, ℕ, ◌+◌, Bool, List, [], ◌∷◌, ◌++◌, length, inl, refl, sym, subst}
use Rattle.std.proofs.Common.{arith, length-append}
use Rattle.std.specs.declared.vec.Vec.{Vec}
use Rattle.std.specs.declared.alloc.Global.{Global}
use Rattle.cnf.specs.Literal.{Literal}
use Rattle.cnf.specs.Formula.{numbered}
use Rattle.cnf.specs.Refute.{Refutes}
use Rattle.cnf.specs.Lrat.{Addition, IsAddable, start_of, with_clause}
use Rattle.cnf.specs.Problem.{Problem}
use Rattle.lrat_log.specs.Log.{LogLine}
use Rattle.lrat_log.proofs.Laws.{numbered_right}
use Rattle.adder.specs.declared.profiles.Profile.{Profile}
use Rattle.bound.specs.Bound.{bound_as, fixed_clauses}
use Rattle.improve_found.specs.Solutions.{IsSolution}
use Rattle.improve.specs.Improving.{IsAcceptedOver, IsClauseCount, IsRightFound, repeats_empty}
use Rattle.improve_found.specs.declared.found.Found.TheVariants.{Optimum}

-- its number is that of the clauses
empty_accepted : (cs : List (List Literal)) (n : ℕ) → n ≡ length (cs ++ [] ∷ [])
    → IsAcceptedOver (cs ++ [] ∷ []) (repeats_empty n)
empty_accepted cs n e =
    let start = start_of (cs ++ [] ∷ []) in
    let id : ℕ = length (cs ++ [] ∷ []) + 0 + 1 in
    let left = with_clause start id [] in
    record {
      front = [];
      final = Addition id [] (n ∷ []) [];
      split = refl;
      ends = refl;
      not_before = tt;
      left = left;
      chain = (left, (addable, inl (refl, refuted), refl), refl);
    }
  where
    addable : IsAddable (start_of (cs ++ [] ∷ [])) (length (cs ++ [] ∷ []) + 0 + 1) []
    addable =
        record { rising = omega arith; no_repeat = refl; no_tautology = refl; small = omega arith }

    refuted : Refutes (numbered (cs ++ [] ∷ [])) [] (n ∷ [])
    refuted = record {
      front = [];
      final = n;
      split = refl;
      reached = [];
      leads = refl;
      clause = [];
      live = numbered_right cs ([] ∷ []) n 0 (omega (arith, e, length-append cs ([] ∷ [])));
      conflict = tt;
    }

pub zero_accepted : (profile : Profile) (p : Problem) (n : ℕ) (log : List LogLine)
    → n ≡ length (bound_as profile p 0).clauses → log ≡ repeats_empty n
    → IsAcceptedOver (bound_as profile p 0).clauses log
zero_accepted profile p n log e is =
    subst (IsAcceptedOver (bound_as profile p 0).clauses) (sym is)
    (empty_accepted (fixed_clauses profile p) n e)

pub right_zero : (profile : Profile) (p : Problem) (bits : Vec Bool Global) (log : List LogLine)
    (count : ℕ) → IsSolution p bits.items 0 → IsAcceptedOver (bound_as profile p 0).clauses log
    → IsClauseCount count (bound_as profile p 0).clauses
    → IsRightFound profile p (0 ∷ []) (Optimum 0 bits log count)
right_zero profile p bits log count s accepted counted = record {
  solution = s;
  told = ([], refl);
  optimal =
      λ t x. record { feasible = (s.1 t x).0; exact = (s.1 t x).1; least = λ u f. omega arith };
  refutation = record { accepted = accepted; begins = (log, refl); counted = counted };
}
