-- Additions by RUP alone: how the hints end. Deletions from a list.
use Rattle.std.proofs.Common.{◌≡◌, ℕ, ◌+◌, ◌<◌, ◌≤◌, Bool, List, [], ◌∷◌, map, length}
use Rattle.std.proofs.Common.{get_or, Some, None, refl, sym, ◌∙◌, ap, subst}
use Rattle.std.proofs.lemmas.Bool.{cond-true}
use Rattle.std.specs.Prelude.{IsSome, is_some}
use Rattle.cnf.specs.Literal.{Literal}
use Rattle.cnf.specs.Lrat.{CandidateHints, Live}
use Rattle.cnf.specs.Refute.{Clauses}
use Rattle.lrat_live.specs.Listed.{Listed, listed_at, without_id}
use Rattle.lrat_read.specs.Form.{leading, groups_of}
use Rattle.lrat_machine.specs.Rup.{deleted_from, end_fault}
use Rattle.lrat_machine.specs.Steps.{EndAlike, walked_as}
use Rattle.lrat_machine.specs.Verdict.{HintWalk, Open, Refuted, Fault, clause_fault, walk}
use Rattle.lrat_machine.specs.declared.hints.Walked.{Walked}
use Rattle.lrat_machine.specs.declared.verdicts.Cause.TheVariants.{HintAfterConflict}
use Rattle.lrat_machine.proofs.Effects.{drop_at, ids_from}
use Rattle.lrat_machine.proofs.Alike.{clause_fault-alike}
use Rattle.lrat_machine.proofs.Negations.{refuted_all, refuted_more}

-- as for a clause that has no pivot
end-of_clause : (live : Live) (w : HintWalk) (gs : List CandidateHints)
    → end_fault w gs ≡ clause_fault live [] w gs
end-of_clause live (Open B) gs = refl
end-of_clause live Refuted [] = refl
end-of_clause live Refuted (g ∷ gs) = refl
end-of_clause live (Fault f) gs = refl

nothing : Live
nothing = record { clause_at = λ i. None; last = 0 }

pub hints_end : (at : Clauses) (A : List Literal) (hs : List (Bool × ℕ)) (first : List ℕ)
    (r : Walked) (T : List Literal) → first ≡ leading hs
    → EndAlike (walk at A first) (walked_as r T)
    → end_fault (walk at A (leading hs)) (groups_of hs) ≡ end_fault (walked_as r T) (groups_of hs)
hints_end at A hs first r T e h =
    let gs = groups_of hs in
    end-of_clause nothing (walk at A (leading hs)) gs
    ∙ clause_fault-alike nothing [] (walk at A (leading hs)) (walked_as r T) gs
    (subst (λ xs. EndAlike (walk at A xs) (walked_as r T)) e h)
    ∙ sym (end-of_clause nothing (walked_as r T) gs)

pub none_after : (hs : List (Bool × ℕ)) → length hs ≤ length (leading hs)
    → end_fault Refuted (groups_of hs) ≡ None
none_after hs h = end-of_clause nothing Refuted (groups_of hs) ∙ refuted_all nothing [] hs h

pub some_after : (hs : List (Bool × ℕ)) → length (leading hs) < length hs
    → end_fault Refuted (groups_of hs) ≡ Some HintAfterConflict
some_after hs h = end-of_clause nothing Refuted (groups_of hs) ∙ refuted_more nothing [] hs h

-- one id more
pub deleted_next : (es : Listed) (hs : List (Bool × ℕ)) (i : ℕ) (h : Bool × ℕ)
    → i < length hs → h ≡ get_or hs i h → IsSome (listed_at es h.1)
    → deleted_from es (ids_from hs i) ≡ deleted_from (without_id h.1 es) (ids_from hs (i + 1))
deleted_next es hs i h lt e f =
    ap (λ xs. deleted_from es (map (λ x. x.1) xs)) (drop_at hs i h lt e)
    ∙ cond-true (is_some (listed_at es h.1)) _ _ f
