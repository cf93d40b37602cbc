-- The verdict on a certificate over a formula, line by line. The first fault decides.
use Rattle.std.specs.Prelude.{ℕ, zero, suc, ◌+◌, Bool, true, false, not, ◌||◌, List, [], ◌∷◌}
use Rattle.std.specs.Prelude.{◌++◌, map, filter, Option, Some, None, is_some, nat_le, ◌==◌}
use Rattle.std.specs.Prelude.{if◌then◌else◌}
use Rattle.std.specs.List.{list_any}
use Rattle.cnf.specs.Literal.{Literal, negation}
use Rattle.cnf.specs.Clause.{contains_literal, without_literal, has_repeat, is_tautology}
use Rattle.text.specs.Text.{token_lines}
use Rattle.cnf.specs.Refute.{Clauses}
use Rattle.cnf.specs.Lrat.{Live, CandidateHints, start_of, with_clause}
use Rattle.cnf.specs.declared.limits.TheConstants.{VARIABLE_LIMIT}
use Rattle.lrat_read.specs.Form.{Parsed, Addition, Deletion, Malformed, line_of, leading, groups_of}
use Rattle.lrat_live.specs.Listed.{same_ids}
use Rattle.lrat_machine.specs.declared.verdicts.Cause.{Cause}
use Rattle.lrat_machine.specs.declared.verdicts.Cause.TheVariants.{LineForm, IdOrder, DeadId}
use Rattle.lrat_machine.specs.declared.verdicts.Cause.TheVariants.{HintNotUnit, HintAfterConflict}
use Rattle.lrat_machine.specs.declared.verdicts.Cause.TheVariants.{NoConflict, Candidates}
use Rattle.lrat_machine.specs.declared.verdicts.Cause.TheVariants.{NoEmptyClause, TrailingLine}
use Rattle.lrat_machine.specs.declared.verdicts.Cause.TheVariants.{ClauseForm}
use Rattle.lrat_machine.specs.declared.verdicts.Verdict.{Verdict}
use Rattle.lrat_machine.specs.declared.verdicts.Verdict.TheVariants.{Yes, No}

pub data HintWalk : Type 0 where
  Open : List Literal → HintWalk
  Refuted : HintWalk
  Fault : Cause → HintWalk

-- the literals that are not false
abbrev pub open_literals : List Literal → List Literal → List Literal
open_literals A c = filter (λ l. not (contains_literal (negation l) A)) c

pub data HintOutcome : Type 0 where
  Dead : HintOutcome
  NotUnit : HintOutcome
  Conflict : HintOutcome
  Makes : Literal → HintOutcome

-- what one hint does where the literals of A are true
abbrev pub outcome_of : Option (List Literal) → List Literal → HintOutcome
outcome_of None A = Dead
outcome_of (Some c) A = by (open_literals A c)
  where
    by : List Literal → HintOutcome
    by [] = Conflict
    by (l ∷ []) = if contains_literal l A then NotUnit else Makes l
    by (l ∷ k ∷ more) = NotUnit

abbrev pub goes_on : HintOutcome → List ℕ → (Literal → HintWalk) → HintWalk
goes_on Dead hs more = Fault DeadId
goes_on NotUnit hs more = Fault HintNotUnit
goes_on Conflict [] more = Refuted
goes_on Conflict (h ∷ hs) more = Fault HintAfterConflict
goes_on (Makes l) hs more = more l

-- the hints in turn
abbrev pub walk : Clauses → List Literal → List ℕ → HintWalk
walk at A [] = Open A
walk at A (h ∷ hs) = goes_on (outcome_of (at h) A) hs (λ l. walk at (l ∷ A) hs)

-- the ids up to last of the clauses with the literal
abbrev pub ids_with : Clauses → Literal → ℕ → List ℕ
ids_with at l zero = []
ids_with at l (suc i) = ids_with at l i ++ (if stands (at (suc i)) then suc i ∷ [] else [])
  where
    stands : Option (List Literal) → Bool
    stands None = false
    stands (Some c) = contains_literal l c

abbrev pub of_walk : HintWalk → Option Cause
of_walk (Open B) = Some NoConflict
of_walk Refuted = None
of_walk (Fault f) = Some f

-- the first fault of a group, if any
abbrev pub group_fault : Clauses → Literal → List Literal → CandidateHints → Option Cause
group_fault at pivot B g = for_candidate (at g.candidate)
  where
    others : List Literal → List Literal
    others d = without_literal (negation pivot) d

    silent : List ℕ → Option Cause
    silent [] = None
    silent (h ∷ hs) = Some HintAfterConflict

    for_candidate : Option (List Literal) → Option Cause
    for_candidate None = Some DeadId
    for_candidate (Some d) =
        if list_any (λ k. contains_literal k B) (others d) then silent g.hints
        else of_walk (walk at (map negation (others d) ++ B) g.hints)

abbrev pub or_else : Option Cause → Option Cause → Option Cause
or_else None next = next
or_else (Some f) next = Some f

abbrev pub groups_fault : Clauses → Literal → List Literal → List CandidateHints → Option Cause
groups_fault at pivot B [] = None
groups_fault at pivot B (g ∷ gs) = or_else (group_fault at pivot B g) (groups_fault at pivot B gs)

abbrev pub clause_fault : Live → List Literal → HintWalk → List CandidateHints → Option Cause
clause_fault live c (Fault f) gs = Some f
clause_fault live c Refuted [] = None
clause_fault live c Refuted (g ∷ gs) = Some HintAfterConflict
clause_fault live [] (Open B) gs = Some NoConflict
clause_fault live (p ∷ c) (Open B) gs =
    if same_ids (map (λ g. g.candidate) gs) (ids_with live.clause_at (negation p) live.last) then
    groups_fault live.clause_at p B gs else Some Candidates

abbrev pub addition_fault : Live → ℕ → List Literal → List (Bool × ℕ) → Option Cause
addition_fault live id c hints =
    if nat_le id live.last then Some IdOrder
    else if has_repeat c || is_tautology c
    || list_any (λ l. nat_le VARIABLE_LIMIT l.variable) c then Some ClauseForm
    else clause_fault live c (walk live.clause_at (map negation c) (leading hints))
    (groups_of hints)

-- after the ids of a deletion, in order
abbrev pub deleted : Live → List ℕ → Option Live
deleted live [] = Some live
deleted live (i ∷ is) =
    if is_some (live.clause_at i) then deleted
    (record { clause_at = λ j. if j == i then None else live.clause_at j; last = live.last }) is
    else None

-- the verdict on the lines that are left; done says that the empty clause was added
abbrev pub verdict_on : Live → Bool → ℕ → List (List (List ℕ)) → Verdict
verdict_on live true n [] = Yes
verdict_on live false n [] = No NoEmptyClause 0
verdict_on live done n ([] ∷ more) = verdict_on live done (n + 1) more
verdict_on live true n ((t ∷ ts) ∷ more) = No TrailingLine n
verdict_on live false n ((t ∷ ts) ∷ more) =
    judged (line_of (t ∷ ts)) (λ l d. verdict_on l d (n + 1) more)
  where
    is_empty : List Literal → Bool
    is_empty [] = true
    is_empty (l ∷ c) = false

    added : ℕ → List Literal → Option Cause → (Live → Bool → Verdict) → Verdict
    added id c None next = next (with_clause live id c) (is_empty c)
    added id c (Some f) next = No f n

    left : Option Live → (Live → Bool → Verdict) → Verdict
    left None next = No DeadId n
    left (Some l) next = next l false

    judged : Parsed → (Live → Bool → Verdict) → Verdict
    judged Malformed next = No LineForm n
    judged (Deletion ids) next = left (deleted live ids) next
    judged (Addition id c hs) next = added id c (addition_fault live id c hs) next

abbrev pub proof_verdict : List (List Literal) → List ℕ → Verdict
proof_verdict formula bytes = verdict_on (start_of formula) false 1 (token_lines bytes)
