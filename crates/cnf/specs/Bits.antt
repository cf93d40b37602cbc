-- Lists of truth values as assignments.
use Rattle.std.specs.Prelude.{◌≡◌, ℕ, zero, suc, Bool, false, List, Some, slice_get, unwrap_or}
use Rattle.cnf.specs.Literal.{Assignment}

-- the assignment agrees with the bits on the variables 1 to their number
abbrev pub Extends : List Bool → Assignment → Type 0
Extends bits t = (v : ℕ) (b : Bool) → slice_get bits v ≡ Some b → t (suc v) ≡ b

-- the assignment that has these bits for the variables from 1, and false elsewhere
abbrev pub assignment_of : List Bool → Assignment
assignment_of bits zero = false
assignment_of bits (suc v) = unwrap_or (slice_get bits v) false
