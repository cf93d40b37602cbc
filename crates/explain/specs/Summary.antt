-- What is said of an instance without a result.
use Rattle.std.specs.Prelude.{ℕ, List, [], ◌++◌, length, sum_by, Option}
use Rattle.std.specs.Fmt.{decimal}
use Rattle.std.specs.Io.KnownBytes.{Appends}
use lib.Chars.{codes}
use Rattle.cnf.specs.Problem.{Problem}
use Rattle.text.specs.Writing.{AppendsPart}
use Rattle.wcnf.specs.Wcnf.{Reads}
use Rattle.wcnf.specs.Reading.{IsFirstFault}
use Rattle.explain.specs.declared.explaining.ExplainFault.{ExplainFault}
use Rattle.explain.specs.declared.explaining.ExplainFault.TheVariants.{Text, Result, Memory}
use Rattle.explain.specs.declared.explaining.ExplainFault.TheVariants.{Output}

abbrev pub counts_text : ℕ → ℕ → ℕ → ℕ → List ℕ
counts_text variables hard soft weights =
    codes "variables: " ++ (decimal variables
    ++ (codes "\nhard clauses: " ++ (decimal hard
    ++ (codes "\nsoft clauses: " ++ (decimal soft
    ++ (codes "\nsum of weights: " ++ (decimal weights ++ codes "\n")))))))

-- how many variables and clauses there are, and the sum of the weights
abbrev pub summary_text : Problem → List ℕ
summary_text p =
    counts_text p.variables (length p.hard) (length p.soft) (sum_by (λ s. s.weight) p.soft)

pub record Summarises (text : List ℕ) (out out' : Option (List ℕ)) : Type 0 where
  pub problem : Problem
  pub reads : Reads text problem
  pub appended : Appends out out' (summary_text problem)

-- a beginning of it was written
pub record BreaksSummary (text : List ℕ) (out out' : Option (List ℕ)) : Type 0 where
  pub problem : Problem
  pub reads : Reads text problem
  pub part : AppendsPart out out' (summary_text problem)

-- what each fault says, and what it leaves
abbrev pub LeavesSummary : ExplainFault → List ℕ → Option (List ℕ) → Option (List ℕ) → Type 0
LeavesSummary (Text fault) text out out' =
    IsFirstFault text fault.kind fault.line × Appends out out' []
LeavesSummary Memory text out out' = Appends out out' []
LeavesSummary Output text out out' = BreaksSummary text out out'
LeavesSummary (Result n) text out out' = ⊥
