-- What a line leads to, and what is put of it.
use Rattle.std.specs.Prelude.{◌≡◌, ℕ, ◌+◌, ◌≤◌, List, ◌++◌, length, Option, Ok, Err}
use Rattle.std.specs.List.{flat_map}
use Rattle.cnf.specs.Literal.{Literal}
use Rattle.cnf.specs.Lrat.{ProofLine}
use Rattle.cnf.specs.declared.limits.TheConstants.{NUMBER_LIMIT}
use Rattle.text.specs.Writing.{PassesOn}
use Rattle.bound.specs.Bound.{dimacs_clause}
use Rattle.lrat_machine.specs.declared.verdicts.Cause.{Cause}
use Rattle.lrat_cuts.specs.Cuts.{judged_line}
use Rattle.lrat_cuts.specs.Machine.{MachineState, Makes, judged_after}
use Rattle.lrat_plain.specs.Names.{Names}
use Rattle.lrat_plain.specs.Plain.{made_in, lines_in, plain_text}
use Rattle.lrat_plain.specs.declared.faults.PlainFault.{PlainFault}
use Rattle.lrat_plain.specs.declared.faults.PlainFault.TheVariants.{Line}
use Rattle.lrat_plain.specs.declared.plain.Steps.{Steps}

-- the line is right, and leads from one to the other
pub record Judges (old : MachineState) (ts : List (List ℕ)) (new : MachineState) : Type 0 where
  pub judged : judged_line old.cost old.state ts ≡ Ok new.state
  pub made : Makes ts old.state new.made new.state
  pub cost : new.cost ≡ old.cost
  pub lines : new.lines ≡ old.lines + 1

-- where the fault names a line, it is the first fault of these, whatever follows them
abbrev pub FaultOf : MachineState → List (List (List ℕ)) → PlainFault → Type 0
FaultOf old lines fault =
    (cause : Cause) (n : ℕ) → fault ≡ Line cause n → (more : List (List (List ℕ)))
    → judged_after old (lines ++ more) ≡ Err (cause, n)

-- the last id is that of the machine
pub record IsSteady (s : Steps) : Type 0 where
  pub last : s.last ≡ ((s.machine).state).last
  pub small : s.last ≤ NUMBER_LIMIT + (s.names).made

-- what lines make that are left, and their plain lines
abbrev pub made_after : MachineState → List (List (List ℕ)) → List (List Literal)
made_after m more = made_in m.cost m.state more

abbrev pub lines_after : Names → MachineState → List (List (List ℕ)) → List ProofLine
lines_after n m more = lines_in m.cost n m.state more

-- by right lines, from one to the other: what they make, and their plain lines
pub record TakesSteps (old new : Steps) (lines : List (List (List ℕ))) (made : List (List Literal))
    (plain : List ProofLine) : Type 0 where
  pub judged : (more : List (List (List ℕ)))
      → judged_after old.machine (lines ++ more) ≡ judged_after new.machine more
  pub makes : (more : List (List (List ℕ)))
      → made_after old.machine (lines ++ more) ≡ made ++ made_after new.machine more
  pub says : (more : List (List (List ℕ))) → lines_after old.names old.machine (lines ++ more)
      ≡ plain ++ lines_after new.names new.machine more
  pub given : (new.names).given ≡ (old.names).given
  pub all : (new.names).all ≡ (old.names).all
  pub count : (new.names).made ≡ (old.names).made + length made

-- and their texts were put: writers had, and have
pub record WritesSteps (old new : Steps) (lines : List (List (List ℕ)))
    (had left : Option (List ℕ)) (before after : Option (List ℕ)) : Type 0 where
  pub made : List (List Literal)
  pub plain : List ProofLine
  pub takes : TakesSteps old new lines made plain
  pub formula : PassesOn had old.formula (flat_map dimacs_clause made) left new.formula
  pub certificate : PassesOn before old.certificate (plain_text plain) after new.certificate
