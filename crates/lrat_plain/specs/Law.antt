-- What the plain certificate is worth over the formula with all clauses that lines make.
use Rattle.std.specs.Prelude.{◌≡◌, ℕ, true, List, [], ◌∷◌, ◌++◌, Option, Ok, ◌↔◌}
use Rattle.cnf.specs.Formula.{IsUnsatisfiable}
use Rattle.cnf.specs.Literal.{Literal}
use Rattle.cnf.specs.Lrat.{Live, ProofLine, Addition, Deletion, Accepts, IsRup, Step, start_of}
use Rattle.cnf.specs.Problem.{Problem}
use Rattle.bound.specs.Weighted.{weighted_cnf}
use Rattle.lrat_cuts.specs.Cuts.{CutsState}
use Rattle.lrat_cuts.specs.Verdict.{judged_text}
use Rattle.lrat_plain.specs.Plain.{made_text, plain_formula, plain_lines}

-- the clauses of the instance, and behind them those that the lines of a text make
abbrev pub plain_clauses : Option ℕ → Problem → List ℕ → List (List Literal)
plain_clauses cost p bytes = (weighted_cnf p).clauses ++ made_text cost p bytes

-- an addition follows by its hints alone
abbrev pub IsByHints : Live → ProofLine → Type 0
IsByHints live (Addition id c hints groups) = IsRup live.clause_at c hints groups
IsByHints live (Deletion lead ids) = Unit {0}

-- correct lines, one after another, each of them by hints alone
abbrev pub ChainByHints : Live → List ProofLine → Live → Type 0
ChainByHints old [] new = new ≡ old
ChainByHints old (l ∷ ls) new =
    (mid : Live) × Step old l mid × IsByHints old l × ChainByHints mid ls new

-- whatever the text is, each plain line is correct where it stands
abbrev pub PlainLinesAreCorrect : Type 0
PlainLinesAreCorrect = (cost : Option ℕ) (p : Problem) (bytes : List ℕ)
    → (left : Live)
    × ChainByHints (start_of (plain_clauses cost p bytes)) (plain_lines cost p bytes) left

-- where all lines of the text are right, the plain ones are accepted as a refutation exactly where
-- the last one of the text makes the empty clause
abbrev pub PlainLinesAreAccepted : Type 0
PlainLinesAreAccepted = (cost : Option ℕ) (p : Problem) (bytes : List ℕ) (s : CutsState)
    → judged_text cost p bytes ≡ Ok s
    → (s.ended ≡ true)
    ↔ Accepts (plain_formula cost p bytes s).clauses (plain_lines cost p bytes)

-- and then nothing satisfies the formula
abbrev pub PlainFormulasAreRefuted : Type 0
PlainFormulasAreRefuted = (cost : Option ℕ) (p : Problem) (bytes : List ℕ) (s : CutsState)
    → judged_text cost p bytes ≡ Ok s → s.ended ≡ true
    → IsUnsatisfiable (plain_formula cost p bytes s).clauses
