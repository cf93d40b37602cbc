-- What lines leave of what cuts are worth, and of the lower bound that is proved.
use Rattle.std.proofs.Common.{◌≡◌, ℕ, ◌+◌, ◌≤◌, List, [], ◌∷◌, Option, Some, None, arith}
use Rattle.std.proofs.Common.{refl}
use Rattle.std.specs.Prelude.{nat_le}
use Rattle.std.proofs.Common.{true, le-leb}
use Rattle.cnf.specs.Literal.{Literal}
use Rattle.lrat_cuts.specs.Cuts.{CutsState, put, put_all, taken_worth}
use Rattle.lrat_read.specs.Words.{WordLine, CountLine, MoreLine, GroupLine, FormLine, CutLine}
use Rattle.lrat_read.specs.Words.{BoundLine}
use Rattle.cuts_log.specs.Judging.{IsProvedWord, IsUpTo}

-- cuts stay worth a cost, and no bound is lost
abbrev pub Rises : ℕ → CutsState → CutsState → Type 0
Rises cost s t = (cost ≤ s.worth → cost ≤ t.worth) × (s.proved ≤ t.proved)

pub rises_same : (cost : ℕ) (s : CutsState) → Rises cost s s
rises_same cost s = (λ h. h, omega arith)

pub put_rises : (cost id : ℕ) (c : List Literal) (s : CutsState) → Rises cost s (put id c s)
put_rises cost id [] s = (λ h. h, omega arith)
put_rises cost id (l ∷ c) s = (λ h. h, omega arith)

pub put_all_rises : (cost : ℕ) (cs : List (List Literal)) (s : CutsState)
    → Rises cost s (put_all cs s)
put_all_rises cost [] s = rises_same cost s
put_all_rises cost (c ∷ cs) s =
    let one = put_rises cost (s.last + 1) c s in
    let rest = put_all_rises cost cs (put (s.last + 1) c s) in
    (λ h. rest.0 (one.0 h), omega (arith, one.1, rest.1))

-- a line that begins with a word has told its bound
pub record Tells (cost : ℕ) (s : CutsState) (w : WordLine) (t : CutsState) : Type 0 where
  pub rises : Rises cost s t
  pub told : cost ≤ s.worth → IsProvedWord cost t.proved w

pub proved_more : (cost p q : ℕ) (w : WordLine) → p ≤ q → IsProvedWord cost p w
    → IsProvedWord cost q w
proved_more cost p q (CountLine outputs inputs) le h = tt
proved_more cost p q (MoreLine number) le h = tt
proved_more cost p q (GroupLine inputs ids) le h = tt
proved_more cost p q (FormLine scale facts) le h = tt
proved_more cost p q (CutLine c) le h = tt
proved_more cost p q (BoundLine lower) le h = omega (arith, h)

-- a cut that holds for a cost is taken for what it is worth
pub taken_up : (o : Option ℕ) (cost scale w : ℕ) → IsUpTo cost o → cost ≤ w
    → taken_worth o scale (Some w) ≡ Some w
taken_up None cost scale w up le = refl
taken_up (Some k) cost scale w up le =
    let enough : nat_le k w ≡ true = le-leb k w (omega (arith, up)) in rw enough refl
