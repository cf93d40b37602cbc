-- An assignment with one value changed.
use Rattle.std.proofs.Common.{◌≡◌, ℕ, Bool, if◌then◌else◌, refl, ap}
use Rattle.std.proofs.lemmas.Bool.{eq-eqb, ne_eqb}
use Rattle.cnf.specs.Literal.{Assignment, put}

pub put_here : (t : Assignment) (n : ℕ) (b : Bool) → put t n b n ≡ b
put_here t n b = ap (λ c. if c then b else t n) (eq-eqb n n refl)

pub put_other : (t : Assignment) (n v : ℕ) (b : Bool) → (v ≡ n → ⊥) → put t n b v ≡ t v
put_other t n v b h = ap (λ c. if c then b else t v) (ne_eqb v n h)
