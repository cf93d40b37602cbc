-- An engine goes on to fit a store whose attached clauses stay.
use Rattle.std.proofs.Common.{◌≡◌, ℕ, true, List, [], ◌∷◌, Option, Some, None, IfSome, ◌∙◌}
use Rattle.std.specs.List.{AllByRecursion}
use Rattle.std.proofs.lemmas.List.Elements.{recursion_from_All}
use Rattle.cnf.specs.Literal.{Literal}
use Rattle.cnf.specs.Refute.{Clauses}
use Rattle.cnf.proofs.Laws.{all_weaker}
use Rattle.clauses.specs.Slots.{clause_at}
use Rattle.propagate_watches.specs.Pool.{row_at}
use Rattle.propagate_trail.specs.Trail.{Assigned, HasReasons, IsJustified}
use Rattle.propagate.specs.Watches.{is_attached}
use Rattle.propagate.specs.Fits.{FitsIsLocal, HasBlocker}
use Rattle.propagate.proofs.Facts.{some_weaker}

pub justified_at : (at at' : Clauses) (A : List Literal) (l : Literal) (reason : Option ℕ)
    → IfSome reason (λ r. at' r ≡ at r)
    → IsJustified at A l reason → IsJustified at' A l reason
justified_at at at' A l None same h = h
justified_at at at' A l (Some r) same h = (h.0, same ∙ h.1, h.2)

pub reasons_at : (at at' : Clauses) (A : List Literal) (trail : List Assigned)
    → AllByRecursion (λ a. IfSome a.reason (λ r. at' r ≡ at r)) trail
    → HasReasons at A trail → HasReasons at' A trail
reasons_at at at' A [] same h = h
reasons_at at at' A (a ∷ trail) same h = (
  justified_at at at' A a.literal a.reason same.0 h.0,
  reasons_at at at' (a.literal ∷ A) trail same.1 h.1,
)

pub fits_local : FitsIsLocal
fits_local e old new fits same = record {
  attached = λ r h. let found = fits.attached r h in (found.0, same r h ∙ found.1, found.2);
  reasons = reasons_at (clause_at old) (clause_at new) [] e.trail
      (all_weaker (λ a. IfSome a.reason (λ r. is_attached e r ≡ true))
      (λ a. IfSome a.reason (λ r. clause_at new r ≡ clause_at old r)) e.trail
      (λ a h. some_weaker (λ r. is_attached e r ≡ true) (λ r. clause_at new r ≡ clause_at old r)
      a.reason same h)
      (recursion_from_All (λ a. IfSome a.reason (λ r. is_attached e r ≡ true)) e.trail
      fits.reasons_attached))
      fits.reasons;
  reasons_attached = fits.reasons_attached;
  small = fits.small;
  rows = fits.rows;
  waiting = fits.waiting;
  blockers = λ i. all_weaker (HasBlocker e old) (HasBlocker e new) (row_at e.watches.rows i)
      (λ w h. (h.0, h.1, same w.reference h.1 ∙ h.2, h.3)) (fits.blockers i);
}
