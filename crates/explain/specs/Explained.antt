-- What an explanation says of a result, and what stands after a fault.
use Rattle.std.specs.Prelude.{◌≡◌, ℕ, ◌-◌, ◌↔◌, Bool, IsTrue, List, [], ◌++◌, length, sum_by, ⊤}
use Rattle.std.specs.Prelude.{Option, Ok, Err, IsPermutation}
use Rattle.std.specs.List.{flat_map}
use Rattle.std.specs.List.Sorted.{IsNonDecreasingBy}
use Rattle.std.specs.Io.KnownBytes.{Appends}
use lib.Chars.{codes}
use Rattle.cnf.specs.Bits.{assignment_of}
use Rattle.cnf.specs.Problem.{Problem, IsFeasible, cost_under}
use Rattle.text.specs.Writing.{AppendsPart}
use Rattle.wcnf.specs.Wcnf.{Reads}
use Rattle.wcnf.specs.Reading.{IsFirstFault}
use Rattle.lrat_result.specs.Result.{Said, OptimumFound, Unsatisfiable, Satisfiable, Unknown}
use Rattle.lrat_result.specs.Result.{Report, report_of}
use Rattle.explain.specs.declared.explaining.Findings.{Findings}
use Rattle.explain.specs.declared.explaining.ExplainFault.{ExplainFault}
use Rattle.explain.specs.declared.explaining.ExplainFault.TheVariants.{Text, Result, Memory}
use Rattle.explain.specs.declared.explaining.ExplainFault.TheVariants.{Output}
use Rattle.explain.specs.Falsified.{false_soft, most_weight}
use Rattle.explain.specs.Explanation.{bits_line, broken_line, cost_line, count_line, paid_lines}
use Rattle.explain.specs.Names.{names_text}

-- the bits are a solution of just this cost
pub record IsSolutionOf (p : Problem) (bits : List Bool) (cost : ℕ) : Type 0 where
  pub count : length bits ≡ p.variables
  pub feasible : IsFeasible p (assignment_of bits)
  pub exact : cost_under p (assignment_of bits) ≡ cost

-- what the result says of its bits is so; what it says of others is not asked
abbrev pub IsRight : Problem → Said → Type 0
IsRight p (OptimumFound c bits) = IsSolutionOf p bits c
IsRight p (Satisfiable c bits) = IsSolutionOf p bits c
IsRight p Unsatisfiable = ⊤
IsRight p Unknown = ⊤

-- what bits give up is listed, heaviest first
pub record AreFindings (text : List ℕ) (p : Problem) (bits : List Bool) (f : Findings) : Type 0
  where
    pub listed : IsPermutation (false_soft p bits) f.given_up.items
    pub heaviest : IsNonDecreasingBy (λ g. most_weight - g.weight) f.given_up.items
    pub sum : sum_by (λ g. g.weight) f.given_up.items ≡ cost_under p (assignment_of bits)

abbrev pub listing_text : List ℕ → List Bool → ℕ → ℕ → ℕ → Findings → List ℕ
listing_text text bits cost told all f =
    cost_line cost told ++ (count_line (length f.given_up.items) all
    ++ (paid_lines f.lines.soft.items 0 f.given_up.items
    ++ (flat_map broken_line f.lines.hard.items ++ names_text bits text)))

pub record IsListing (text : List ℕ) (p : Problem) (bits : List Bool) (told : ℕ)
    (explanation : List ℕ) : Type 0 where
  pub findings : Findings
  pub found : AreFindings text p bits findings
  pub spelled :
      explanation
      ≡ listing_text text bits (cost_under p (assignment_of bits)) told (length p.soft) findings

-- of bits that may be too few or too many
pub record IsSolutionText (text : List ℕ) (p : Problem) (bits : List Bool) (told : ℕ)
    (explanation : List ℕ) : Type 0 where
  pub listing : length bits ≡ p.variables → IsListing text p bits told explanation
  pub miscounted : (length bits ≡ p.variables → ⊥)
      → explanation ≡ bits_line (length bits) p.variables

abbrev pub IsExplanation : List ℕ → Problem → Said → List ℕ → Type 0
IsExplanation text p (OptimumFound c bits) e = IsSolutionText text p bits c e
IsExplanation text p (Satisfiable c bits) e = IsSolutionText text p bits c e
IsExplanation text p Unsatisfiable e =
    e ≡ codes "the result has no bits: it says that there is no solution\n"
IsExplanation text p Unknown e = e ≡ codes "the result has no bits: no solution was met\n"

-- the explanation was written, and answered whether the bits are right
pub record Explains (text : List ℕ) (p : Problem) (said : Said) (is_right : Bool)
    (out out' : Option (List ℕ)) : Type 0 where
  pub explanation : List ℕ
  pub is : IsExplanation text p said explanation
  pub appended : Appends out out' explanation
  pub right : IsTrue is_right ↔ IsRight p said

-- a beginning of the explanation was written
pub record Breaks (text : List ℕ) (p : Problem) (said : Said) (out out' : Option (List ℕ)) : Type 0
  where
    pub explanation : List ℕ
    pub is : IsExplanation text p said explanation
    pub part : AppendsPart out out' explanation

-- what a fault leaves once both texts were read
abbrev pub LeavesRead : ExplainFault → List ℕ → Problem → Said → Option (List ℕ) → Option (List ℕ)
    → Type 0
LeavesRead Memory text p said out out' = Appends out out' []
LeavesRead Output text p said out out' = Breaks text p said out out'
LeavesRead (Text fault) text p said out out' = ⊥
LeavesRead (Result n) text p said out out' = ⊥

-- what the texts are read as
pub record AreRead (text answer : List ℕ) (p : Problem) (report : Report) : Type 0 where
  pub reads : Reads text p
  pub says : report_of answer ≡ Ok report

pub record ExplainsTexts (text answer : List ℕ) (is_right : Bool) (out out' : Option (List ℕ))
    : Type 0 where
  pub problem : Problem
  pub report : Report
  pub read : AreRead text answer problem report
  pub explains : Explains text problem report.said is_right out out'

pub record BreaksTexts (text answer : List ℕ) (out out' : Option (List ℕ)) : Type 0 where
  pub problem : Problem
  pub report : Report
  pub read : AreRead text answer problem report
  pub breaks : Breaks text problem report.said out out'

abbrev pub IsTextFault : List ℕ → ExplainFault → Type 0
IsTextFault text (Text fault) = IsFirstFault text fault.kind fault.line
IsTextFault text Memory = ⊤
IsTextFault text (Result n) = ⊥
IsTextFault text Output = ⊥

abbrev pub IsAnswerFault : List ℕ → ExplainFault → Type 0
IsAnswerFault answer (Result n) = report_of answer ≡ Err n
IsAnswerFault answer Memory = ⊤
IsAnswerFault answer (Text fault) = ⊥
IsAnswerFault answer Output = ⊥

-- what each fault says, and what it leaves
abbrev pub Leaves : ExplainFault → List ℕ → List ℕ → Option (List ℕ) → Option (List ℕ) → Type 0
Leaves (Text fault) text answer out out' =
    IsFirstFault text fault.kind fault.line × Appends out out' []
Leaves (Result n) text answer out out' = (report_of answer ≡ Err n) × Appends out out' []
Leaves Memory text answer out out' = Appends out out' []
Leaves Output text answer out out' = BreaksTexts text answer out out'
