-- What a certificate must be, over a formula.
use Rattle.std.specs.Prelude.{ℕ, List}
use Rattle.cnf.specs.Literal.{Literal}
use Rattle.cnf.specs.Lrat.{ProofLine, Accepts}
use Rattle.text.specs.LratText.{IsTextOf}

-- the proof is accepted over these clauses
abbrev pub IsProofOver : List (List Literal) → List ℕ → Type 0
IsProofOver formula proof = (ls : List ProofLine) × IsTextOf proof ls × Accepts formula ls
