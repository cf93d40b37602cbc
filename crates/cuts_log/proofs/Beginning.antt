-- A log before its first line.
use Rattle.std.proofs.Common.{◌≡◌, ℕ, List, length, Option, refl, sym, ◌∙◌, subst}
use Rattle.std.proofs.Common.{arith, ◌≤◌}
use Rattle.cnf.specs.Problem.{Problem}
use Rattle.cnf.specs.declared.limits.TheConstants.{NUMBER_LIMIT}
use Rattle.bound.specs.Weighted.{weighted_cnf}
use Rattle.cuts_log.specs.declared.standing.Standing.{Standing}
use Rattle.lrat_cuts.specs.Cuts.{CutsState}
use Rattle.cuts_log.specs.Books.{BookState, begun_book, resumed_book}
use Rattle.cuts_log.specs.Logs.{IsKept}
use Rattle.cuts_log.specs.Stands.{stand_at, stand_of}
use Rattle.cuts_log.specs.Starts.{IsStart}
use Rattle.cuts_log.proofs.Starting.{same_stand, start_worth, starts_right}

pub begins_kept : (p : Problem) (base : ℕ) (origin : Option (List ℕ)) (b : BookState) (s : Standing)
    → b ≡ begun_book p base origin → base ≡ length (weighted_cnf p).clauses → s ≡ stand_of p
    → IsKept (record { book = b; standing = s; cost = NUMBER_LIMIT })
begins_kept p base origin b s is size same =
    let Kept : BookState → Type 0 =
    λ x. IsKept (record { book = x; standing = s; cost = NUMBER_LIMIT }) in
    let first : IsKept (record {
      book = begun_book p base origin;
      standing = s;
      cost = NUMBER_LIMIT;
    }) = record {
      base = size;
      start = starts_right p;
      cost = omega arith;
      worth = omega (arith, start_worth p);
      left = s;
      taken = same ∙ same_stand p;
      standing = λ _. refl;
    } in subst Kept (sym is) first

-- it goes on with what was judged before
pub resumes_kept : (p : Problem) (t : CutsState) (base : ℕ) (origin : Option (List ℕ))
    (b : BookState) (s : Standing) (cost : ℕ) → b ≡ resumed_book p t base origin
    → base ≡ length (weighted_cnf p).clauses → s ≡ stand_at p t → IsStart p t
    → cost ≤ NUMBER_LIMIT → cost ≡ t.worth
    → IsKept (record { book = b; standing = s; cost = cost })
resumes_kept p t base origin b s cost is size same start low worth =
    let Kept : BookState → Type 0 =
    λ x. IsKept (record { book = x; standing = s; cost = cost }) in
    let first : IsKept (record {
      book = resumed_book p t base origin;
      standing = s;
      cost = cost;
    }) = record {
      base = size;
      start = start;
      cost = low;
      worth = omega (arith, worth);
      left = s;
      taken = same;
      standing = λ _. refl;
    } in subst Kept (sym is) first
