-- Where no clause is false or unit, no hints refute the clauses.
use Rattle.std.proofs.Common.{◌≡◌, ℕ, zero, suc, List, [], ◌∷◌, Some, subst}
use Rattle.std.specs.Prelude.{All, slice_get}
use Rattle.std.proofs.lemmas.List.Elements.{All-head, All-tail}
use Rattle.std.proofs.lemmas.Option.{none-some, same_Some}
use Rattle.cnf.specs.Literal.{Literal}
use Rattle.cnf.specs.Formula.{numbered}
use Rattle.cnf.specs.Refute.{IsRefutedByHints}
use Rattle.clauses.specs.Slots.{Slots, live_clauses}
use Rattle.clauses.proofs.Laws.{not_refuted, all_live}
use Rattle.eliminate.specs.Simplifier.{Grows}
use Rattle.eliminate.specs.Units.{IsSettled, AreSettled}

numbered_all : (P : List Literal → Type 0) (cs : List (List Literal)) (i : ℕ) (c : List Literal)
    → All P cs → numbered cs i ≡ Some c → P c
numbered_all P cs zero c all e = absurd (none-some c e)
numbered_all P cs (suc i) c all e = got cs i all e
  where
    got : (cs : List (List Literal)) (i : ℕ) → All P cs → slice_get cs i ≡ Some c → P c
    got [] i all e = absurd (none-some c e)
    got (d ∷ cs) zero all e = subst P (same_Some d c e) (All-head P d cs all)
    got (d ∷ cs) (suc i) all e = got cs i (All-tail P d cs all) e

-- so clauses of which all are kept among those that are settled are refuted by no hints
pub settled_not_refuted : (A : List Literal) (slots left : Slots) → AreSettled A left
    → Grows slots left → IsRefutedByHints (live_clauses slots) → ⊥
settled_not_refuted A slots left settled grows w =
    let all : All (IsSettled A) (live_clauses slots) =
    all_live (IsSettled A) slots (λ r c e. settled r c (grows r c e)) in
    not_refuted (numbered (live_clauses slots)) A
    (λ r c e. numbered_all (IsSettled A) (live_clauses slots) r c all e) w.0 w.1
