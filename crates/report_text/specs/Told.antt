-- What a writer has of the costs that were told to it.
use Rattle.std.specs.Prelude.{◌≡◌, [], ◌∷◌, ◌++◌, if◌then◌else◌}
use Rattle.std.specs.Prelude.{ℕ, Bool, true, false, List, Option, Some}
use Rattle.std.specs.List.{flat_map}
use Rattle.std.specs.Io.KnownBytes.{Appends}
use Rattle.text.specs.Writing.{spaced, AppendsPart}
use Rattle.lrat_result.specs.Result.{cost_tokens}
use Rattle.report_text.specs.declared.fault.RunFault.{RunFault}
use Rattle.report_text.specs.declared.fault.RunFault.TheVariants.{Memory, Output}

-- an o line for each cost
abbrev pub cost_lines : List ℕ → List ℕ
cost_lines costs = flat_map (λ c. spaced (cost_tokens c)) costs

-- The writer held the first bytes and holds the second ones since these costs were told. A failure
-- for want of memory wrote nothing; one of the writer left a beginning of the line of the cost that
-- failed. After a second failure nothing is said.
pub record Tells (first now : Option (List ℕ)) (costs : List ℕ) (failed : Option ℕ)
    (no_memory : Bool) (failures : ℕ) : Type 0 where
  pub all_told : failures ≡ 0 → Appends first now (cost_lines costs)
  pub refused : failures ≡ 1 → no_memory ≡ true → Appends first now (cost_lines costs)
  pub broken : (c : ℕ) → failures ≡ 1 → no_memory ≡ false → failed ≡ Some c
      → AppendsPart first now (cost_lines (costs ++ c ∷ []))

abbrev pub fault_of_telling : Bool → RunFault
fault_of_telling no_memory = if no_memory then Memory else Output
