-- Results with certificates of forms and cuts: the verdict, and what a yes shows.
use Rattle.std.proofs.Common.{◌≡◌, ℕ, List, [], ◌++◌, Option, Some}
use Rattle.std.proofs.Common.{None, refl, sym, ◌∙◌, ap, arith, append-nil, append_assoc, subst}
use Rattle.std.specs.Prelude.{IfSome, Ok}
use Rattle.std.specs.Io.KnownBytes.{Consumes, IsAtEnd}
use Rattle.cnf.specs.Instance.{IsInstance}
use Rattle.bound.proofs.Laws.{solution_small}
use Rattle.cnf.specs.Problem.{Problem, IsInconsistent}
use Rattle.cnf.specs.declared.limits.TheConstants.{NUMBER_LIMIT}
use Rattle.wcnf.specs.Wcnf.{Reads}
use Rattle.wcnf.proofs.Laws.{reading_is_right}
use Rattle.lrat_result.specs.Result.{Report, report_of}
use Rattle.lrat_machine.specs.declared.verdicts.Cause.{Cause}
use Rattle.lrat_machine.specs.declared.verdicts.Verdict.{Verdict}
use Rattle.lrat_machine.specs.declared.verdicts.Verdict.TheVariants.{No}
use Rattle.lrat_cuts.specs.Pieces.{CheckerState, HasJudged}
use Rattle.lrat_cuts.specs.Verdict.{cuts_verdict, verdict_of}
use Rattle.lrat_check.specs.Checks.{CostsAtLeast}
use Rattle.lrat_check.specs.Cuts.{ShowsByCuts, said_cuts_verdict}
use Rattle.lrat_check.specs.Cuts.{verdict_by_cuts}
use Rattle.lrat_check.specs.declared.cuts.CutsLeft.{CutsLeft}
use Rattle.lrat_check.specs.declared.cuts.CutsLeft.TheVariants.{Nothing, Bound, NoSolution}
use Rattle.lrat_check.proofs.PieceLaws.{over_all, over_ended}
use Rattle.lrat_result.specs.declared.report.Cost.{Cost}

-- a text and a result
module _ (text answer proof : List ℕ) (p : Problem) (reads : Reads text p) where
  pub said_by_cuts : (r : Report) → report_of answer ≡ Ok r
      → said_cuts_verdict p r proof ≡ verdict_by_cuts text answer proof
  said_by_cuts r e = let u = (reading_is_right text p).0 reads in rw (u, e) refl

-- what is left of what is said
pub bound_shows : (left : CutsLeft) (p : Problem) (c : Cost) (P : Type 0) → left ≡ Bound c
    → ShowsByCuts p left P → CostsAtLeast p c.cost → P
bound_shows left p c P e h = subst (λ l. ShowsByCuts p l P) e h

pub none_shows : (left : CutsLeft) (p : Problem) (P : Type 0) → left ≡ NoSolution
    → ShowsByCuts p left P → CostsAtLeast p NUMBER_LIMIT → P
none_shows left p P e h = subst (λ l. ShowsByCuts p l P) e h

-- no solution costs 2^62
pub none_by : (p : Problem) → IsInstance p → CostsAtLeast p NUMBER_LIMIT → IsInconsistent p
none_by p i least t f = let enough = least t f in omega (arith, enough, solution_small p i t)

-- the verdict on all bytes of the reader, where it was found over those that were read
module _ (c : CheckerState) (cost : Option ℕ) (p : Problem) (fed : List ℕ)
    (o n : Option (List ℕ)) (v : Verdict) (j : HasJudged c cost p fed) (read : Consumes o n fed)
    (end : (c.reading).refused ≡ None → IsAtEnd n) (is : v ≡ cuts_verdict cost p fed) where
  stays : (e : Cause × ℕ) → (c.reading).refused ≡ Some e → (more : List ℕ)
      → cuts_verdict cost p (fed ++ more) ≡ No e.0 e.1
  stays e r more =
      let w = (j.holds).refused e r in
      ap (λ x. cuts_verdict cost p (x ++ more)) w.split
      ∙ ap (cuts_verdict cost p) (append_assoc w.done w.after more)
      ∙ ap verdict_of (w.stays (w.after ++ more))

  by_refused : (r : Option (Cause × ℕ)) → (c.reading).refused ≡ r
      → IfSome o (λ bytes. v ≡ cuts_verdict cost p bytes)
  by_refused None e = over_ended o n fed v (cuts_verdict cost p) read (end e) is
  by_refused (Some f) e =
      let same : v ≡ No f.0 f.1 =
      is ∙ ap (cuts_verdict cost p) (sym (append-nil fed)) ∙ stays f e [] in
      over_all o n fed v (cuts_verdict cost p) read (λ more. same ∙ sym (stays f e more))

  pub over_cuts : IfSome o (λ bytes. v ≡ cuts_verdict cost p bytes)
  over_cuts = by_refused (c.reading).refused refl
