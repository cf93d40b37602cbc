-- What a certificate was judged as that was read.
use Rattle.std.proofs.Common.{◌≡◌, ℕ, true, List, [], ◌∷◌, ◌++◌, Option, Some, None}
use Rattle.std.proofs.Common.{Ok, Err, refl, sym, ◌∙◌, ap, inl, inr, append_assoc}
use Rattle.std.specs.Prelude.{IfSome, ◌==◌, Result}
use Rattle.std.specs.Io.KnownBytes.{Consumes, IsAtEnd}
use Rattle.std.proofs.lemmas.Bool.{cases_Bool, cond-true, eqb-true}
use Rattle.cnf.specs.Problem.{Problem}
use Rattle.text.specs.Pieces.{IsEnded}
use Rattle.text.specs.Text.{token_lines}
use Rattle.lrat_machine.specs.declared.verdicts.Cause.{Cause}
use Rattle.lrat_machine.specs.declared.verdicts.Verdict.{Verdict}
use Rattle.lrat_machine.specs.declared.verdicts.Cause.TheVariants.{NoEmptyClause}
use Rattle.lrat_machine.specs.declared.verdicts.Verdict.TheVariants.{Yes, No}
use Rattle.lrat_cuts.specs.Cuts.{CutsState}
use Rattle.lrat_cuts.specs.Pieces.{CheckerState, HasJudged}
use Rattle.lrat_cuts.specs.Verdict.{cuts_verdict, ended_part, ended_with, judged_text}
use Rattle.lrat_cuts.specs.Verdict.{verdict_of}
use Rattle.lrat_cuts.proofs.Laws.{ended_part-more}
use Rattle.lrat_check.proofs.PieceLaws.{over_all, over_ended}
use Rattle.cuts_log.specs.Judging.{IsEarlier}
use Rattle.cuts_log.specs.Starts.{IsReached}
use Rattle.cuts_solver.specs.Solving.{IsRightText}

-- the part up to the last line feed is ended by it
module _ (b : ℕ) where
  first_ended : IsEnded (ended_with b [])
  first_ended =
      elim (cases_Bool (b == 10)) as (λ _. IsEnded (ended_with b [])) [
        | inl t ↦ rw t (inr ([], ap (λ x. x ∷ []) (eqb-true b 10 t)))
        | inr f ↦ rw f (inl refl)
      ]

  next_ended : (cs : List ℕ) → IsEnded cs → IsEnded (ended_with b cs)
  next_ended [] h = first_ended
  next_ended (c ∷ cs) (inl e) = absurd (cc)
  next_ended (c ∷ cs) (inr f) = inr (b ∷ f.0, ap (λ x. b ∷ x) f.1)

part_ended : (bytes : List ℕ) → IsEnded (ended_part bytes)
part_ended [] = inl refl
part_ended (b ∷ bs) = next_ended b (ended_part bs) (part_ended bs)

-- of all bytes of the reader, where it was found over those that were read
module _ (c : CheckerState) (p : Problem) (fed : List ℕ) (o n : Option (List ℕ))
    (j : HasJudged c None p fed) (read : Consumes o n fed) where
  abbrev judged : List ℕ → Result CutsState (Cause × ℕ)
  judged bytes = judged_text None p (ended_part bytes)

  stays : (e : Cause × ℕ) → (c.reading).refused ≡ Some e → (more : List ℕ)
      → judged (fed ++ more) ≡ Err e
  stays e r more =
      let w = (j.holds).refused e r in
      ap (λ x. judged (x ++ more)) w.split
      ∙ ap judged (append_assoc w.done w.after more)
      ∙ ap (judged_text None p) (ended_part-more w.done (w.after ++ more) w.ended)
      ∙ w.stays (ended_part (w.after ++ more))

  pub wrong_for : (e : Cause × ℕ) → (c.reading).refused ≡ Some e
      → IfSome o (λ bytes. judged bytes ≡ Err e)
  wrong_for e r = swapped o (over_all o n fed (Err e) judged read (λ more. sym (stays e r more)))
    where
      swapped : (known : Option (List ℕ)) → IfSome known (λ bytes. Err e ≡ judged bytes)
          → IfSome known (λ bytes. judged bytes ≡ Err e)
      swapped None h = tt
      swapped (Some bytes) h = sym h

  pub right_for : (s : CutsState) → judged fed ≡ Ok s → IsAtEnd n
      → IsReached p s × IfSome o (λ bytes. IsEarlier p s (ended_part bytes))
  right_for s e end = (
    (token_lines (ended_part fed), e),
    known o (over_ended o n fed (Ok s) judged read end (sym e)),
  )
    where
      known : (all : Option (List ℕ)) → IfSome all (λ bytes. Ok s ≡ judged bytes)
          → IfSome all (λ bytes. IsEarlier p s (ended_part bytes))
      known None h = tt
      known (Some bytes) h = record { judged = sym h; ended = part_ended bytes }

-- a certificate that was accepted is right, and has ended
module _ (p : Problem) (cost : ℕ) where
  right_state : (text : List ℕ) (r : Result CutsState (Cause × ℕ))
      → judged_text (Some cost) p text ≡ r → verdict_of r ≡ Yes → IsRightText p cost true text
  right_state text (Ok s) is y =
      elim (cases_Bool s.ended) [
        | inl t ↦ (s, is, t)
        | inr f ↦ absurd (cc)
      ]
  right_state text (Err e) is y = absurd (cc)

  pub right_text : (text : List ℕ) → cuts_verdict (Some cost) p text ≡ Yes
      → IsRightText p cost true text
  right_text text y = right_state text (judged_text (Some cost) p text) refl y

  pub right_known : (known : Option (List ℕ)) (v : Verdict)
      → IfSome known (λ bytes. v ≡ cuts_verdict (Some cost) p bytes) → v ≡ Yes
      → IfSome known (IsRightText p cost true)
  right_known None v h y = tt
  right_known (Some bytes) v h y = right_text bytes (sym h ∙ y)

  -- and one that is right, and has ended, is accepted
  yes_text : (text : List ℕ) → IsRightText p cost true text
      → cuts_verdict (Some cost) p text ≡ Yes
  yes_text text (s, is, ended) =
      ap verdict_of is ∙ cond-true s.ended Yes (No NoEmptyClause 0) ended

  pub wrong_known : (known : Option (List ℕ)) (v : Verdict)
      → IfSome known (λ bytes. v ≡ cuts_verdict (Some cost) p bytes) → (v ≡ Yes → ⊥)
      → IfSome known (λ bytes. IsRightText p cost true bytes → ⊥)
  wrong_known None v h refused = tt
  wrong_known (Some bytes) v h refused = λ right. refused (h ∙ yes_text bytes right)
