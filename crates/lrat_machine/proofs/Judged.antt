-- The verdict at one line, where the live clauses are a list.
use Rattle.std.proofs.Common.{◌≡◌, ℕ, ◌+◌, ◌<◌, Bool, true, false, List, [], ◌∷◌, ◌++◌, length}
use Rattle.std.proofs.Common.{Option, Some, None, Ok, Err, Result, refl, sym, ◌∙◌, ap, subst, arith}
use Rattle.std.specs.Prelude.{IfOk, OnErr, nat_eq}
use Rattle.std.specs.declared.alloc.AllocError.{AllocError}
use Rattle.std.proofs.lemmas.Bool.{ne_eqb}
use Rattle.cnf.specs.Literal.{Literal}
use Rattle.lrat_read.specs.Form.{Addition, line_of}
use Rattle.lrat_read.specs.Reader.{LineState, IsReadAs}
use Rattle.lrat_read.specs.declared.types.Form.{Form}
use Rattle.lrat_read.specs.declared.types.Form.TheVariants.{Addition as IsAddition}
use Rattle.lrat_machine.specs.declared.state.ClauseBase.{ClauseBase}
use Rattle.lrat_machine.specs.declared.verdicts.Cause.{Cause}
use Rattle.lrat_machine.specs.declared.verdicts.Verdict.TheVariants.{No}
use Rattle.lrat_live.specs.Listed.{Listed}
use Rattle.lrat_machine.specs.Machine.{MachineState, StepsTo, IsApplied, state_with, verdict_after}
use Rattle.lrat_machine.specs.Steps.{Adds, IsFaultOf, IsUpTo, live_of}
use Rattle.lrat_machine.specs.Verdict.{addition_fault, verdict_on}
use Rattle.lrat_machine.proofs.Proofs.{here_fault, here_ends, here_adds}
use Rattle.lrat_machine.proofs.Base.{below_id, live_of-push}

abbrev pub state_of : Listed → ℕ → Bool → ℕ → MachineState
state_of es last ended n = record { clauses = es; last = last; ended = ended; lines = n }

-- an addition
added : (old : Listed) (last n id : ℕ) (ts : List (List ℕ)) (c : List Literal)
    (hs : List (Bool × ℕ)) → IsUpTo last old → last < id → line_of ts ≡ Addition id c hs
    → addition_fault (live_of last old) id c hs ≡ None → (more : List (List (List ℕ)))
    → verdict_after (state_of old last false n) (ts ∷ more) ≡ verdict_after
    (state_of (old ++ (id, c) ∷ []) id (nat_eq (length c) 0) (n + 1)) more
added old last n id [] c hs u lt e f more = absurd (cc)
added old last n id (t ∷ ts) [] hs u lt e f more =
    here_ends (live_of last old) (n + 1) t ts more id hs e f
    ∙ ap (λ l. verdict_on l true (n + 1 + 1) more)
    (sym (live_of-push last id old [] (below_id last id old u lt)))
added old last n id (t ∷ ts) (l ∷ c) hs u lt e f more =
    here_adds (live_of last old) (n + 1) t ts more id l c hs e f
    ∙ ap (λ x. verdict_on x false (n + 1 + 1) more)
    (sym (live_of-push last id old (l ∷ c) (below_id last id old u lt)))
    ∙ ap (λ b. verdict_on (live_of id (old ++ (id, l ∷ c) ∷ [])) b (n + 1 + 1) more)
    (sym (ne_eqb (length (l ∷ c)) 0 (λ z. absurd (omega arith))))

fault_at : (old : Listed) (last n id : ℕ) (ts : List (List ℕ)) (c : List Literal)
    (hs : List (Bool × ℕ)) (f : Cause) → line_of ts ≡ Addition id c hs
    → addition_fault (live_of last old) id c hs ≡ Some f → (more : List (List (List ℕ)))
    → verdict_after (state_of old last false n) (ts ∷ more) ≡ No f (n + 1)
fault_at old last n id [] c hs f e h more = absurd (cc)
fault_at old last n id (t ∷ ts) c hs f e h more =
    here_fault (live_of last old) (n + 1) t ts more id c hs f e h

steps_addition : (old new : Listed) (last next n : ℕ) (ended : Bool) (ts : List (List ℕ))
    (s : LineState) (f : Option Cause) → IsUpTo last old → IsFaultOf (live_of last old) s f
    → (f ≡ None → Adds old last s new next ended) → IsReadAs ts IsAddition s
    → StepsTo (state_of old last false n) ts f (state_of new next ended (n + 1))
steps_addition old new last next n ended ts s None u h a (c, line, large, same) more =
    let d = a refl in
    let is : c ≡ s.clause = same d.small in
    added old last n s.id ts c s.hints u d.rising line (sym (h c large same)) more
    ∙ ap (λ x. verdict_after (state_of (old ++ (s.id, x) ∷ []) s.id (nat_eq (length x) 0) (n + 1))
    more) is
    ∙ ap (λ x. verdict_after (state_of x s.id (nat_eq (length s.clause) 0) (n + 1)) more)
    (sym d.clauses)
    ∙ ap (λ x. verdict_after (state_of new x (nat_eq (length s.clause) 0) (n + 1)) more)
    (sym d.next_is)
    ∙ ap (λ x. verdict_after (state_of new next x (n + 1)) more) (sym d.ended_is)
steps_addition old new last next n ended ts s (Some cause) u h a (c, line, large, same) more =
    fault_at old last n s.id ts c s.hints cause line (sym (h c large same)) more

pub addition_applied : (form : Form) (s : LineState) (old new : ClauseBase)
    (r : Result (Option Cause) AllocError) → form ≡ IsAddition → old.ended ≡ false
    → IsUpTo old.last old.live → IfOk r (λ f. IsFaultOf (live_of old.last old.live) s f)
    → IfOk r (λ f. f ≡ None → Adds old.live old.last s new.live new.last new.ended)
    → OnErr r (new ≡ old) → (n : ℕ) → IsApplied form s old n new (n + 1) r
addition_applied form s old new (Ok f) e not_ended u h a same n = λ ts read.
    subst (λ b. StepsTo (state_of old.live old.last b n) ts f (state_with new (n + 1)))
    (sym not_ended)
    (steps_addition old.live new.live old.last new.last n new.ended ts s f u h a
    (subst (λ x. IsReadAs ts x s) e read))
addition_applied form s old new (Err x) e not_ended u h a same n = same
