-- What certificates of forms and cuts show by themselves.
use Rattle.std.proofs.Common.{◌≡◌, ℕ, List, [], ◌++◌, Option, Some, None, inl, inr, refl, sym, ◌∙◌}
use Rattle.std.proofs.Common.{ap, arith, append-nil, append_assoc, subst}
use Rattle.std.specs.Prelude.{IfSome, nat_le}
use Rattle.std.specs.Io.KnownBytes.{Consumes, IsAtEnd}
use Rattle.std.proofs.lemmas.Bool.{cases_Bool, leb-true}
use Rattle.cnf.specs.Instance.{IsInstance}
use Rattle.cnf.specs.Problem.{Problem, IsInconsistent}
use Rattle.cnf.specs.declared.limits.TheConstants.{NUMBER_LIMIT}
use Rattle.wcnf.specs.Wcnf.{Reads}
use Rattle.wcnf.proofs.Laws.{reading_is_right, reads_one}
use Rattle.lrat_machine.specs.declared.verdicts.Cause.{Cause}
use Rattle.lrat_cuts.proofs.Laws.{ended_part-more, lower_least}
use Rattle.lrat_cuts.specs.Pieces.{CheckerState, HasJudged}
use Rattle.lrat_cuts.specs.Verdict.{cuts_lower, ended_part, judged_text, lower_of}
use Rattle.lrat_cuts.specs.declared.verdicts.LowerVerdict.{LowerVerdict as CutsLower}
use Rattle.lrat_cuts.specs.declared.verdicts.LowerVerdict.TheVariants.{AtLeast as Proves}
use Rattle.lrat_cuts.specs.declared.verdicts.LowerVerdict.TheVariants.{No as NotRight}
use Rattle.lrat_check.specs.Checks.{CostsAtLeast}
use Rattle.lrat_check.specs.Lower.{IsLowerByCuts, IsTrueLower, lower_by_cuts, shown_by_cuts}
use Rattle.lrat_check.specs.declared.lower.LowerVerdict.{LowerVerdict}
use Rattle.lrat_check.specs.declared.lower.LowerVerdict.TheVariants.{No as NotShown}
use Rattle.lrat_check.proofs.CutsLaws.{none_by}
use Rattle.lrat_check.proofs.LeftLaws.{if_some_more}
use Rattle.lrat_check.proofs.PieceLaws.{over_all, over_ended}

-- the verdict on all bytes of the reader, where it was found over those that were read
module _ (c : CheckerState) (p : Problem) (fed : List ℕ) (o n : Option (List ℕ))
    (v : LowerVerdict) (j : HasJudged c None p fed) (read : Consumes o n fed)
    (end : (c.reading).refused ≡ None → IsAtEnd n)
    (is : v ≡ shown_by_cuts (cuts_lower p fed)) where
  abbrev shows : List ℕ → LowerVerdict
  shows bytes = shown_by_cuts (cuts_lower p bytes)

  stays : (e : Cause × ℕ) → (c.reading).refused ≡ Some e → (more : List ℕ)
      → shows (fed ++ more) ≡ NotShown e.0 e.1
  stays e r more =
      let w = (j.holds).refused e r in
      ap (λ x. shows (x ++ more)) w.split
      ∙ ap shows (append_assoc w.done w.after more)
      ∙ ap (λ x. shown_by_cuts (lower_of (judged_text None p x)))
      (ended_part-more w.done (w.after ++ more) w.ended)
      ∙ ap (λ x. shown_by_cuts (lower_of x)) (w.stays (ended_part (w.after ++ more)))

  by_refused : (r : Option (Cause × ℕ)) → (c.reading).refused ≡ r
      → IfSome o (λ bytes. v ≡ shows bytes)
  by_refused None e = over_ended o n fed v shows read (end e) is
  by_refused (Some f) e =
      let same : v ≡ NotShown f.0 f.1 = is ∙ ap shows (sym (append-nil fed)) ∙ stays f e [] in
      over_all o n fed v shows read (λ more. same ∙ sym (stays f e more))

  pub lower_over_cuts : IsLowerByCuts o n p v
  lower_over_cuts = record {
    bytes = fed;
    read = read;
    verdict = is;
    all = by_refused (c.reading).refused refl;
  }

-- what it says is so
module _ (text : List ℕ) (p : Problem) (i : IsInstance p) (reads : Reads text p)
    (old new : Option (List ℕ)) (v : LowerVerdict) (h : IsLowerByCuts old new p v) where
  pub read_by_cuts : IfSome old (λ bytes. v ≡ lower_by_cuts text bytes)
  read_by_cuts =
      let u = (reading_is_right text p).0 reads in
      if_some_more old _ _
      (λ bytes e. e ∙ (let same : shown_by_cuts (cuts_lower p bytes) ≡ lower_by_cuts text bytes =
      rw u refl in same)) h.all

  is_true : (lower : CutsLower) → cuts_lower p h.bytes ≡ lower
      → IsTrueLower text (shown_by_cuts lower)
  is_true (NotRight cause line) e = tt
  is_true (Proves lower) e =
      let least : CostsAtLeast p lower = lower_least p i h.bytes lower e in
      elim (cases_Bool (nat_le NUMBER_LIMIT lower))
      as (λ _. IsTrueLower text (shown_by_cuts (Proves lower))) [
        | inl b ↦ rw b (λ q reads_q. subst IsInconsistent (reads_one text p q reads reads_q)
            (none_by p i (λ u f. let enough = least u f in
            let most = leb-true NUMBER_LIMIT lower b in omega (arith, enough, most))))
        | inr b ↦ rw b (λ q reads_q. subst (λ x. CostsAtLeast x lower)
            (reads_one text p q reads reads_q) least)
      ]

  pub true_by_cuts : IsTrueLower text v
  true_by_cuts = rw h.verdict (is_true (cuts_lower p h.bytes) refl)
