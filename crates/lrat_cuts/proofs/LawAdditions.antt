-- Additions and deletions.
use Rattle.std.proofs.Common.{◌≡◌, ℕ, Bool, true, false, not, ◌||◌, if◌then◌else◌, nat_le, List, []}
use Rattle.std.proofs.Common.{◌∷◌, map, Some, None, is_some, refl, sym, subst}
use Rattle.std.specs.Prelude.{◌==◌}
use Rattle.std.proofs.lemmas.Option.{none-some, same_Some}
use Rattle.std.specs.List.{list_any}
use Rattle.cnf.specs.Literal.{Assignment, Literal, negation}
use Rattle.cnf.specs.Clause.{Satisfies, has_repeat, is_tautology}
use Rattle.cnf.specs.Lrat.{CandidateHints, Live}
use Rattle.cnf.specs.declared.limits.TheConstants.{VARIABLE_LIMIT}
use Rattle.cnf.proofs.Laws.{AllHold, rup_holds}
use Rattle.lrat_live.specs.Listed.{Listed, listed_at, without_id}
use Rattle.lrat_read.specs.Form.{groups_of, leading}
use Rattle.lrat_machine.specs.Rup.{deleted_from, end_fault, rup_fault}
use Rattle.lrat_machine.specs.Verdict.{HintWalk, Open, Refuted, Fault, walk}
use Rattle.lrat_machine.specs.declared.verdicts.Cause.{Cause}
use Rattle.lrat_machine.proofs.Laws.{refutes_from_walk}
use Rattle.lrat_cuts.proofs.LawState.{AreLiveTrue}

-- what is live is true, by its ids
pub listed_hold : (t : Assignment) (es : Listed) → AreLiveTrue t es → AllHold t (listed_at es)
listed_hold t [] h i c e = absurd (none-some c e)
listed_hold t (x ∷ es) h i c e =
    elim (x.0 == i) as (λ b. x.0 == i ≡ b → Satisfies t c) [
      | true ↦ λ q. subst (Satisfies t) (same_Some x.1 c (rw q at e)) h.0
      | false ↦ λ q. listed_hold t es h.1 i c (rw q at e)
    ] refl

without_true : (t : Assignment) (i : ℕ) (es : Listed) → AreLiveTrue t es
    → AreLiveTrue t (without_id i es)
without_true t i [] h = tt
without_true t i (x ∷ es) h =
    elim (x.0 == i) as (λ b. AreLiveTrue t (if not b then x ∷ without_id i es
    else without_id i es)) [
      | true ↦ without_true t i es h.1
      | false ↦ (h.0, without_true t i es h.1)
    ]

pub deleted_true : (t : Assignment) (ids : List ℕ) (es left : Listed) → AreLiveTrue t es
    → deleted_from es ids ≡ Some left → AreLiveTrue t left
deleted_true t [] es left h e = subst (AreLiveTrue t) (same_Some es left e) h
deleted_true t (i ∷ ids) es left h e =
    elim (is_some (listed_at es i)) as (λ b. is_some (listed_at es i) ≡ b → AreLiveTrue t left) [
      | true ↦ λ q. deleted_true t ids (without_id i es) left (without_true t i es h) (rw q at e)
      | false ↦ λ q. absurd (none-some left (rw q at e))
    ] refl

ends : (w : HintWalk) (gs : List CandidateHints) → end_fault w gs ≡ None → w ≡ Refuted
ends (Fault f) gs e = absurd (none-some f (sym e))
ends Refuted gs e = refl
ends (Open B) gs e = absurd (cc)

abbrev is_bad : List Literal → Bool
is_bad c = has_repeat c || is_tautology c || list_any (λ l. nat_le VARIABLE_LIMIT l.variable) c

some_none : (f : Cause) → Some f ≡ None → ⊥
some_none f e = cc

-- an addition without a fault is true where what is live is
pub added_true : (live : Live) (id : ℕ) (c : List Literal) (hints : List (Bool × ℕ))
    → rup_fault live id c hints ≡ None → (t : Assignment) → AllHold t live.clause_at
    → Satisfies t c
added_true live id c hints e t all =
    elim (nat_le id live.last) as (λ b. nat_le id live.last ≡ b → Satisfies t c) [
      | true ↦ λ q. absurd (some_none _ (rw q at e))
      | false ↦ λ q. elim (is_bad c) as (λ b. is_bad c ≡ b → Satisfies t c) [
        | true ↦ λ r. absurd (some_none _ (rw (q, r) at e))
        | false ↦ λ r.
            let over = ends (walk live.clause_at (map negation c) (leading hints))
            (groups_of hints) (rw (q, r) at e) in
            rup_holds t live.clause_at c (leading hints) all
            (refutes_from_walk live.clause_at (map negation c) (leading hints) over)
      ] refl
    ] refl
