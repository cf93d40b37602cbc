-- What was read of a result so far, and the report where the lines that are left come.
use Rattle.std.specs.Prelude.{◌≡◌, ℕ, ◌+◌, Bool, true, List, ◌∷◌, map, Option, Some, None}
use Rattle.std.specs.Prelude.{Result as Outcome, Ok, Err, nat_lt, if◌then◌else◌, ⊤}
use Rattle.std.specs.List.{enumerate_from}
use Rattle.text.specs.Text.{tokens_of}
use Rattle.lrat_result.specs.declared.report.Cost.{Cost}
use Rattle.lrat_result.specs.declared.report.Said.{Said}
use Rattle.lrat_result.specs.declared.report.Said.TheVariants.{Optimum, Unsat, Sat, Limit}
use Rattle.lrat_result.specs.declared.report.Report.{Report as ReadReport}
use Rattle.lrat_result.specs.declared.report.Heading.{Heading}
use Rattle.lrat_result.specs.declared.report.Reading.{Reading}
use Rattle.lrat_result.specs.declared.report.Reading.TheVariants.{Costs, Bits, End}
use Rattle.lrat_result.specs.declared.report.ReportFault.{ReportFault}
use Rattle.lrat_result.specs.declared.report.ReportFault.TheVariants.{Form, Memory}
use Rattle.lrat_result.specs.Result.{OptimumFound, Unsatisfiable, Satisfiable, Unknown, Report}
use Rattle.lrat_result.specs.Result.{ended, with_bits, result_on, report_of}

abbrev pub reported : ReadReport → Report
reported a = by a.said
  where
    by : Said → Report
    by (Optimum s) =
        record {
          said = OptimumFound s.cost.cost s.bits.items;
          cost_line = s.cost.line;
          status_line = a.status_line;
          bits_line = s.bits_line;
        }
    by (Sat s) =
        record {
          said = Satisfiable s.cost.cost s.bits.items;
          cost_line = s.cost.line;
          status_line = a.status_line;
          bits_line = s.bits_line;
        }
    by Unsat =
        record { said = Unsatisfiable; cost_line = 0; status_line = a.status_line; bits_line = 0 }
    by Limit = record { said = Unknown; cost_line = 0; status_line = a.status_line; bits_line = 0 }

-- the report of a status with these bits on this line
abbrev pub report_with : Heading → List Bool → ℕ → Report
report_with f bits line = record {
  said = if f.is_optimum then OptimumFound f.cost.cost bits else Satisfiable f.cost.cost bits;
  cost_line = f.cost.line;
  status_line = f.status_line;
  bits_line = line;
}

abbrev pub last_of : Option Cost → Option (ℕ × ℕ)
last_of None = None
last_of (Some c) = Some (c.cost, c.line)

abbrev pub falls_below : Option Cost → ℕ → Bool
falls_below None c = true
falls_below (Some d) c = nat_lt c d.cost

-- the report where these lines still come, each as its tokens
abbrev pub resumed : Reading → ℕ → List (List (List ℕ)) → Outcome Report ℕ
resumed (Costs last) n ls = result_on (last_of last) n ls
resumed (Bits heading) n ls = with_bits n (report_with heading) ls
resumed (End report) n ls = ended n (reported report) ls

-- one line on
abbrev pub IsNextStage : Reading → ℕ → List (List ℕ) → Outcome Reading ReportFault → Type 0
IsNextStage stage n ts (Ok next) =
    (ls : List (List (List ℕ))) → resumed stage n (ts ∷ ls) ≡ resumed next (n + 1) ls
IsNextStage stage n ts (Err (Form m)) =
    (ls : List (List (List ℕ))) → resumed stage n (ts ∷ ls) ≡ Err m
IsNextStage stage n ts (Err Memory) = ⊤

-- where these numbered lines are left, the stage gives the report of the text
pub record ReportsWith (text : List ℕ) (stage : Reading) (left : List (ℕ × List ℕ)) : Type 0 where
  pub number : ℕ
  pub lines : List (List ℕ)
  pub numbered : left ≡ enumerate_from number lines
  pub report : report_of text ≡ resumed stage number (map tokens_of lines)

abbrev pub IsReadReport : List ℕ → Outcome ReadReport ReportFault → Type 0
IsReadReport text (Ok a) = report_of text ≡ Ok (reported a)
IsReadReport text (Err (Form n)) = report_of text ≡ Err n
IsReadReport text (Err Memory) = ⊤
