-- The text of the best solution so far, and what it claims.
use Rattle.std.specs.Prelude.{ℕ, Bool, List, [], ⊤, true, false, Option, Some, None}
use Rattle.cnf.specs.Literal.{Assignment}
use Rattle.cnf.specs.Bits.{Extends}
use Rattle.cnf.specs.Problem.{Problem, IsOptimal, IsInconsistent}
use Rattle.cdcl_order.specs.Watch.{Sight, End}
use Rattle.lrat_result.specs.Result.{Said, Says, OptimumFound, Unsatisfiable, Satisfiable, Unknown}
use Rattle.improve_found.specs.declared.found.CutsFound.{CutsFound}
use Rattle.improve_found.specs.declared.found.Found.{Found}
use Rattle.improve_found.specs.declared.found.Found.TheVariants.{Optimum, Unsat, Best, Nothing}
use Rattle.improve_found.specs.declared.solutions.Solution.{Solution}
use Rattle.improve_found.specs.Solutions.{IsSolution}
use Rattle.report_text.specs.declared.finding.Finding.{Finding}
use Rattle.report_text.specs.declared.finding.Finding.TheVariants.{Optimum as FoundOptimum}
use Rattle.report_text.specs.declared.finding.Finding.TheVariants.{Unsat as FoundUnsat}
use Rattle.report_text.specs.declared.finding.Finding.TheVariants.{Best as FoundBest}
use Rattle.report_text.specs.declared.finding.Finding.TheVariants.{Nothing as FoundNothing}
use Rattle.report_text.specs.Answering.{result_text}

-- a whole result that tells no cost but its own
abbrev pub best_text : Said → List ℕ
best_text said = result_text [] said

-- what was found, as a result says it
abbrev pub said_of : Found → Said
said_of (Optimum c bits log clauses) = OptimumFound c bits.items
said_of (Unsat log clauses) = Unsatisfiable
said_of (Best c bits work) = Satisfiable c bits.items
said_of (Nothing work) = Unknown

-- the best solution, and whether nothing is cheaper
abbrev pub said_with : Option Solution → Bool → Said
said_with (Some b) true = OptimumFound b.cost b.bits.items
said_with (Some b) false = Satisfiable b.cost b.bits.items
said_with None true = Unsatisfiable
said_with None false = Unknown

abbrev pub said_of_cuts : CutsFound → Said
said_of_cuts found = said_with found.best found.is_proved

-- and as those who look on are told it
abbrev pub said_by : Finding → Said
said_by (FoundOptimum c bits) = OptimumFound c bits.now
said_by FoundUnsat = Unsatisfiable
said_by (FoundBest c bits) = Satisfiable c bits.now
said_by FoundNothing = Unknown

-- the end of a search whose result says this, as it is shown
abbrev pub end_of : Problem → Said → Sight
end_of p (OptimumFound c bits) = End p true (Some (c, bits))
end_of p Unsatisfiable = End p true None
end_of p (Satisfiable c bits) = End p false (Some (c, bits))
end_of p Unknown = End p false None

-- what is said is so
abbrev pub IsTrueOf : Problem → Said → Type 0
IsTrueOf p (OptimumFound c bits) =
    IsSolution p bits c × ((t : Assignment) → Extends bits t → IsOptimal p t c)
IsTrueOf p Unsatisfiable = IsInconsistent p
IsTrueOf p (Satisfiable c bits) = IsSolution p bits c
IsTrueOf p Unknown = ⊤

-- the text says something as a result does, and that is so
abbrev pub IsTrueText : Problem → List ℕ → Type 0
IsTrueText p text = (said : Said) × Says text said × IsTrueOf p said
