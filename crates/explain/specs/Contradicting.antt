-- What is written of a result that says that there is no solution.
use Rattle.std.specs.Prelude.{ℕ, List, [], ◌++◌, Option}
use Rattle.std.specs.List.{flat_map}
use Rattle.std.specs.Fmt.{decimal}
use Rattle.std.specs.Io.KnownBytes.{Appends}
use lib.Chars.{codes}
use Rattle.text.specs.Writing.{AppendsPart}
use Rattle.explain.specs.ClauseLines.{SourceLine}
use Rattle.explain.specs.Explanation.{source_text}
use Rattle.explain.specs.declared.explaining.ExplainFault.{ExplainFault}
use Rattle.explain.specs.declared.explaining.ExplainFault.TheVariants.{Text, Result, Memory}
use Rattle.explain.specs.declared.explaining.ExplainFault.TheVariants.{Output}

abbrev pub no_solution : List ℕ
no_solution = codes "the result has no bits: it says that there is no solution\n"

-- why is not known
abbrev pub open_text : List ℕ
open_text =
    no_solution
    ++ codes "the effort was not enough to find hard clauses that contradict each other\n"

-- there is one
abbrev pub refuted_text : List ℕ
refuted_text = no_solution ++ codes "that is wrong: the hard clauses have a solution\n"

-- each line with its number and its comment
abbrev pub sources_text : List SourceLine → List ℕ
sources_text lines = flat_map source_text lines

-- `count` of `all` hard clauses, on these lines
abbrev pub contradiction_text : ℕ → ℕ → List SourceLine → List ℕ
contradiction_text count all lines =
    no_solution ++ (decimal count ++ (codes " of " ++ (decimal all
    ++ (codes " hard clauses contradict each other:\n" ++ sources_text lines))))

pub record Lists (count all : ℕ) (out out' : Option (List ℕ)) : Type 0 where
  pub lines : List SourceLine
  pub appended : Appends out out' (contradiction_text count all lines)

-- a beginning of it was written
pub record BreaksList (count all : ℕ) (out out' : Option (List ℕ)) : Type 0 where
  pub lines : List SourceLine
  pub part : AppendsPart out out' (contradiction_text count all lines)

-- what each fault leaves
abbrev pub LeavesContradiction : ExplainFault → ℕ → ℕ → Option (List ℕ) → Option (List ℕ) → Type 0
LeavesContradiction Memory count all out out' = Appends out out' []
LeavesContradiction Output count all out out' = BreaksList count all out out'
LeavesContradiction (Text fault) count all out out' = ⊥
LeavesContradiction (Result n) count all out out' = ⊥
