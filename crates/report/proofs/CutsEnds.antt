-- What a run by forms and cuts ends with, or leaves.
use Rattle.std.proofs.Common.{◌≡◌, ℕ, ◌+◌, ◌<◌, ◌^◌, Bool, true, false, List, [], ◌∷◌, ◌++◌, length}
use Rattle.std.proofs.Common.{map, Option, Some, None, Ok, Err, refl, sym, ◌∙◌, ap, subst}
use Rattle.std.proofs.Common.{append_assoc}
use Rattle.std.specs.Prelude.{All, IfSome, IfNone, IsSome, IfOk, IfErr, Result}
use Rattle.std.specs.Io.KnownBytes.{Keeps, Appends}
use Rattle.std.proofs.KnownBytes.{Appends-trans, Appends-kept}
use Rattle.std.proofs.lemmas.Option.{IfSome_then}
use lib.Chars.{codes}
use Rattle.cnf.specs.Bits.{assignment_of}
use Rattle.cnf.specs.Problem.{Problem}
use Rattle.cnf.specs.Instance.{IsInstance}
use Rattle.cnf.specs.declared.limits.TheConstants.{NUMBER_LIMIT}
use Rattle.cnf.proofs.Laws.{extends_own}
use Rattle.wcnf.specs.Wcnf.{Reads}
use Rattle.text.specs.Writing.{AppendsPart}
use Rattle.adder.specs.declared.profiles.Profile.TheVariants.{One}
use Rattle.cdcl_order.specs.Budgets.{BudgetState, left_of}
use Rattle.cdcl_order.specs.Watch.{Sight, with_seen}
use Rattle.cdcl_order.proofs.Laws.{with_seen_more}
use Rattle.lrat_machine.specs.declared.verdicts.Verdict.TheVariants.{Yes}
use Rattle.lrat_cuts.specs.Cuts.{CutsState}
use Rattle.lrat_cuts.specs.Verdict.{cuts_verdict, judged_text}
use Rattle.lrat_result.specs.Result.{Said, OptimumFound, Unsatisfiable, Satisfiable, Unknown}
use Rattle.lrat_result.specs.Result.{FallsTo, Says, Report}
use Rattle.lrat_result.proofs.Laws.{report_from_says}
use Rattle.lrat_check.specs.Checks.{CostsAtLeast}
use Rattle.lrat_check.specs.Cuts.{said_cuts_verdict, verdict_by_cuts}
use Rattle.lrat_check.specs.Verdict.{bits_fault}
use Rattle.lrat_check.proofs.BitsFaults.{fault_none}
use Rattle.lrat_check.proofs.CutsLaws.{said_by_cuts, none_by}
use Rattle.lrat_check.proofs.TrueResults.{optimal_least}
use Rattle.cuts_solver.specs.Solving.{IsRightText}
use Rattle.improve_found.specs.Progress.{AreFalling}
use Rattle.improve_found.specs.Watch.{better_of, costs_shown}
use Rattle.improve_found.specs.declared.solutions.Solution.{Solution}
use Rattle.improve_cuts.specs.ByCuts.{IsBestOf, HasNone, IsProved, IsCutsFound}
use Rattle.improve_found.specs.declared.found.CutsFound.{CutsFound}
use Rattle.report_text.specs.declared.status.CutsStatus.{CutsStatus}
use Rattle.report_text.specs.declared.fault.RunFault.{RunFault}
use Rattle.report_text.specs.declared.fault.RunFault.TheVariants.{Read, Memory, Output, ProofOutput}
use Rattle.report_text.specs.Told.{cost_lines}
use Rattle.report_text.specs.Best.{IsTrueOf, end_of, said_with, said_of_cuts}
use Rattle.report_text.specs.Answering.{result_text, status_by}
use Rattle.report.specs.Running.{told_in, AreHonest, NeedsProof, IsTrueLimit}
use Rattle.report.specs.ByCuts.{said_text, cost_held_by, IsRightBehind, ChecksByCuts, EndsBehind}
use Rattle.report.specs.ByCuts.{LeavesResultBehind, LeavesBehind, IsSeenByCuts, SearchesByCuts}
use Rattle.report.specs.ByCuts.{IsShownByCuts, GrowsRightly, AnswersByCuts, LeavesAnswerByCuts}
use Rattle.report.proofs.CutsTexts.{grown_kept}
use Rattle.report.proofs.Ends.{honest_costs, solution_at}
use Rattle.report_text.proofs.ResultTexts.{optimum_text, satisfiable_text, falls_in, text_says}
use Rattle.report_text.proofs.ResultTexts.{begun, not_past}

-- a checker says yes to a certificate that ends so

module _ (p : Problem) (r : Report) (proof : List ℕ) where
  optimum_by_cuts : (c : ℕ) (bits : List Bool) → r.said ≡ OptimumFound c bits
      → bits_fault p r c bits ≡ None → cuts_verdict (Some c) p proof ≡ Yes
      → said_cuts_verdict p r proof ≡ Yes
  optimum_by_cuts c bits u n v = rw (u, n) v

  none_by_cuts : r.said ≡ Unsatisfiable → cuts_verdict (Some NUMBER_LIMIT) p proof ≡ Yes
      → said_cuts_verdict p r proof ≡ Yes
  none_by_cuts u v = rw u v

verdict_is : (cost : ℕ) (p : Problem) (proof : List ℕ) (t : CutsState)
    → judged_text (Some cost) p proof ≡ Ok t → t.ended ≡ true
    → cuts_verdict (Some cost) p proof ≡ Yes
verdict_is cost p proof t e f = rw (e, f) refl

yes_by_cuts : (text written proof : List ℕ) (p : Problem) → Reads text p → (said : Said)
    → Says written said → IsTrueOf p said → NeedsProof said → (limit : ℕ) (front : List ℕ)
    → IsRightBehind front limit p said proof
    → verdict_by_cuts text written (front ++ proof) ≡ Yes
yes_by_cuts text written proof p reads (OptimumFound c bits) says t n limit front r =
    let k = report_from_says written (OptimumFound c bits) says in
    let h = t.0.1 (assignment_of bits) (extends_own bits) in
    let all = front ++ proof in
    sym (said_by_cuts text written all p reads k.0 k.1)
    ∙ optimum_by_cuts p k.0 all c bits k.2 (fault_none p k.0 c bits t.0.0 h.0 h.1)
    (verdict_is c p all r.left r.judged (r.ended n))
yes_by_cuts text written proof p reads Unsatisfiable says t n limit front r =
    let k = report_from_says written Unsatisfiable says in
    let all = front ++ proof in
    sym (said_by_cuts text written all p reads k.0 k.1)
    ∙ none_by_cuts p k.0 all k.2 (verdict_is NUMBER_LIMIT p all r.left r.judged (r.ended n))
yes_by_cuts text written proof p reads (Satisfiable c bits) says t n limit front r = absurd n
yes_by_cuts text written proof p reads Unknown says t n limit front r = absurd n

checks_by_cuts : (known : Option (List ℕ)) (written proof : List ℕ) (p : Problem)
    → IfSome known (λ bytes. Reads bytes p) → (said : Said) → Says written said → IsTrueOf p said
    → NeedsProof said → (limit : ℕ) (front : List ℕ) → IsRightBehind front limit p said proof
    → ChecksByCuts known written (front ++ proof)
checks_by_cuts None written proof p reads said says t n limit front r = tt
checks_by_cuts (Some text) written proof p reads said says t n limit front r =
    yes_by_cuts text written proof p reads said says t n limit front r

-- a result that says what was found, where these costs were told
record SpellsFound (text : Option (List ℕ)) (p : Problem) (limit : ℕ) (tried : List ℕ)
    (said : Said) (refuted : Bool) (held : ℕ) (budget : BudgetState) : Type 0 where
  pub before : List ℕ
  pub told : told_in before said ≡ tried
  pub spelled : result_text before said ≡ cost_lines tried ++ said_text said
  pub falls : FallsTo before said
  pub true_answer : IsTrueOf p said
  pub held_is : held ≡ cost_held_by limit said
  pub ended : NeedsProof said → refuted ≡ true
  pub spent : (NeedsProof said → ⊥) → left_of budget ≡ 0
  pub at_limit : IsTrueLimit text said budget

module _ (text : Option (List ℕ)) (p : Problem) (limits : IsInstance p)
    (reads : IfSome text (λ bytes. Reads bytes p))
    (only : IfSome text (λ bytes. (q : Problem) → Reads bytes q → q ≡ p)) where
  module _ (limit : ℕ) (tried : List ℕ) (refuted : Bool) (held : ℕ) (budget : BudgetState)
      (falling : AreFalling tried) (small : All (λ c. c < 2 ^ 62) tried) where
    spells_with : (best : Option Solution) (is_proved : Bool)
        → IfSome best (IsBestOf p tried held) → IfNone best (HasNone limit tried held)
        → (is_proved ≡ true → IsProved p refuted held)
        → (is_proved ≡ true → IfNone best (limit ≡ NUMBER_LIMIT))
        → (is_proved ≡ false → left_of budget ≡ 0)
        → SpellsFound text p limit tried (said_with best is_proved) refuted held budget
    spells_with (Some b) true h n proved most spent =
        let bits = (b.bits).items in
        let before = h.told_last.0 in
        let e = h.told_last.1 in
        let k = proved refl in
        record {
          before = before;
          told = sym e;
          spelled = optimum_text before b.cost bits
              ∙ ap (λ z. cost_lines z ++ said_text (OptimumFound b.cost bits)) (sym e);
          falls = falls_in tried before b.cost e falling small;
          true_answer = (
            h.solution,
            optimal_least p b.cost bits (subst (CostsAtLeast p) h.cost k.least) h.solution.1,
          );
          held_is = h.cost;
          ended = λ z. k.refuted_is;
          spent = λ z. absurd (z tt);
          at_limit = tt;
        }
    spells_with (Some b) false h n proved most spent =
        let bits = (b.bits).items in
        let before = h.told_last.0 in
        let e = h.told_last.1 in
        record {
          before = before;
          told = sym e;
          spelled = satisfiable_text before b.cost bits
              ∙ ap (λ z. cost_lines z ++ said_text (Satisfiable b.cost bits)) (sym e);
          falls = falls_in tried before b.cost e falling small;
          true_answer = h.solution;
          held_is = h.cost;
          ended = λ z. absurd z;
          spent = λ z. spent refl;
          at_limit = (
            solution_at One text p reads only text bits b.cost only h.solution,
            spent refl,
          );
        }
    spells_with None true h n proved most spent =
        let k = proved refl in
        record {
          before = [];
          told = sym n.none_told;
          spelled = ap (λ z. cost_lines z ++ said_text Unsatisfiable) (sym n.none_told);
          falls = refl;
          true_answer = none_by p limits (subst (CostsAtLeast p) (n.cost ∙ most refl) k.least);
          held_is = n.cost ∙ most refl;
          ended = λ z. k.refuted_is;
          spent = λ z. absurd (z tt);
          at_limit = tt;
        }
    spells_with None false h n proved most spent =
        record {
          before = [];
          told = sym n.none_told;
          spelled = ap (λ z. cost_lines z ++ said_text Unknown) (sym n.none_told);
          falls = refl;
          true_answer = tt;
          held_is = n.cost;
          ended = λ z. absurd z;
          spent = λ z. spent refl;
          at_limit = spent refl;
        }

    spells : (found : CutsFound) → IsCutsFound p limit tried found refuted held budget
        → SpellsFound text p limit tried (said_of_cuts found) refuted held budget
    spells found f =
        spells_with found.best found.is_proved f.best f.none f.proved f.unbounded f.spent

  pub found_true : (limit : ℕ) (refuted : Bool) (held : ℕ) (old new : BudgetState)
      (out out' : Option (List ℕ)) (found : CutsFound)
      → SearchesByCuts p limit (Ok found) refuted held out out' old new
      → IsTrueOf p (said_of_cuts found)
  found_true limit refuted held old new out out' found h =
      (spells limit h.tried refuted held new h.falling h.small found h.found).true_answer

  module _ (front : List ℕ) (limit : ℕ) (refuted : Bool) (held : ℕ)
      (proof : Option (List ℕ)) (old new : BudgetState) (out out' : Option (List ℕ)) where
    -- the certificate is right for the result
    right_for : (tried : List ℕ) (said : Said) (proved : List ℕ)
        → SpellsFound text p limit tried said refuted held new
        → IsRightText p held refuted (front ++ proved) → IsRightBehind front limit p said proved
    right_for tried said proved f r = record {
      left = r.0;
      judged = subst (λ c. judged_text (Some c) p (front ++ proved) ≡ Ok r.0) f.held_is r.1;
      ended = λ n. r.2 ∙ f.ended n;
    }

    -- the writer has all of it
    abbrev Certifies : Option (List ℕ) → Type 0
    Certifies now = (proved : List ℕ) × Appends proof now proved
        × IsRightText p held refuted (front ++ proved)

    module _ (found : CutsFound)
        (h : SearchesByCuts p limit (Ok found) refuted held out out' old new)
        (is_whole : Bool) (mid : Option (List ℕ)) (whole : is_whole ≡ true → Certifies mid)
        (part : GrowsRightly front text proof mid) where
      its : SpellsFound text p limit h.tried (said_of_cuts found) refuted held new
      its = spells limit h.tried refuted held new h.falling h.small found h.found

      honest_in : AreHonest text (told_in its.before (said_of_cuts found))
      honest_in =
          subst (AreHonest text) (sym its.told)
          (honest_costs One text p reads only h.tried h.falling h.honest)

      kept : (proof' : Option (List ℕ)) → is_whole ≡ true → Keeps mid proof' → Certifies proof'
      kept proof' e k =
          let w = whole e in (w.0, Appends-kept proof mid proof' w.0 w.1 k, w.2)

      -- no fault
      ends : (last proof' : Option (List ℕ)) (status : CutsStatus)
          → status ≡ status_by (said_of_cuts found)
          → AnswersByCuts is_whole (said_of_cuts found) out' last mid proof'
          → EndsBehind front limit text out last proof proof' status old new
      ends last proof' status is w =
          let said = said_of_cuts found in
          let text_is = result_text its.before said in
          let says = text_says its.before said its.falls in
          let all = kept proof' w.is_whole w.proof_kept in
          let right = right_for h.tried said all.0 its all.2 in
          record {
            written = text_is;
            proved = all.0;
            out_grows =
                subst (Appends out last) (sym its.spelled)
                (Appends-trans out out' last (cost_lines h.tried) (said_text said) h.lines
                w.out_grows);
            proof_grows = all.1;
            run = record {
              problem = p;
              reads = reads;
              before = its.before;
              said = said;
              spelled = refl;
              says = says;
              status_is = is;
              honest = honest_in;
              true_answer = its.true_answer;
              right = right;
              checked = λ n. checks_by_cuts text text_is all.0 p reads said says
                  its.true_answer n limit front right;
              spent = its.spent;
              answers = h.answers ∙ ap (λ z. old.answers + length z) (sym its.told);
            };
          }

      output_leaves : (last proof' : Option (List ℕ))
          → AppendsPart out' last (said_text (said_of_cuts found)) → Certifies proof'
          → Keeps mid proof' → LeavesResultBehind front text out last proof proof' new
      output_leaves last proof' begun_end w k =
          let said = said_of_cuts found in
          let text_is = result_text its.before said in
          let right = right_for h.tried said w.0 its w.2 in
          let grows = w.1 in
          record {
            written = cost_lines h.tried ++ begun_end.0;
            out_grows =
                Appends-trans out out' last (cost_lines h.tried) begun_end.0 h.lines begun_end.2;
            proof_part = grown_kept front text proof mid proof' part k;
            before = its.before;
            said = said;
            falls = its.falls;
            honest = honest_in;
            begins = (
              begun_end.1.0,
              its.spelled ∙ ap (λ z. cost_lines h.tried ++ z) begun_end.1.1
                  ∙ sym (append_assoc (cost_lines h.tried) begun_end.0 begun_end.1.0),
            );
            proof_is_whole = λ lt. record {
              proved = w.0;
              proof_grows = grows;
              checked = λ n. checks_by_cuts text text_is w.0 p reads said
                  (text_says its.before said its.falls) its.true_answer n limit front right;
            };
            limit = λ lt. its.at_limit;
          }

      answer_leaves : (last proof' : Option (List ℕ)) (fault : RunFault)
          → LeavesAnswerByCuts fault is_whole (said_of_cuts found) out' last mid proof'
          → LeavesBehind front fault text out last proof proof' new
      answer_leaves last proof' Output w =
          output_leaves last proof' w.1 (kept proof' w.0 w.2) w.2
      answer_leaves last proof' ProofOutput w = (
        record {
          costs = h.tried;
          out_grows = Appends-kept out out' last (cost_lines h.tried) h.lines w.0;
          honest = honest_costs One text p reads only h.tried h.falling h.honest;
        },
        grown_kept front text proof mid proof' part w.1,
      )
      answer_leaves last proof' Memory w = absurd w
      answer_leaves last proof' (Read fault) w = absurd w

      -- the same of what the end of the run hands back
      module _ {W : Type 0} (contents : W → Option (List ℕ)) (writer : Option W)
          (last : Option (List ℕ)) (said : Said) (is : said ≡ said_of_cuts found) where
        pub ends_with : (ended : Result CutsStatus RunFault)
            → IfOk ended (λ status. status ≡ status_by said)
            → IfOk ended (λ status. IfSome writer
            (λ w. AnswersByCuts is_whole said out' last mid (contents w)))
            → IfOk ended (λ status. IfSome writer
            (λ w. EndsBehind front limit text out last proof (contents w) status old new))
        ends_with (Ok status) named h =
            IfSome_then writer h (λ w k. ends last (contents w) status
            (named ∙ ap status_by is)
            (subst (λ z. AnswersByCuts is_whole z out' last mid (contents w)) is k))
        ends_with (Err fault) named h = tt

        pub leaves_with : (ended : Result CutsStatus RunFault)
            → IfErr ended (λ fault. IfSome writer
            (λ w. LeavesAnswerByCuts fault is_whole said out' last mid (contents w)))
            → IfErr ended (λ fault. IfSome writer
            (λ w. LeavesBehind front fault text out last proof (contents w) new))
        leaves_with (Ok status) h = tt
        leaves_with (Err fault) h =
            IfSome_then writer h (λ w k. answer_leaves last (contents w) fault
            (subst (λ z. LeavesAnswerByCuts fault is_whole z out' last mid (contents w)) is k))

    -- a fault while it searched
    pub search_leaves : (proof' : Option (List ℕ)) (fault : RunFault)
        → SearchesByCuts p limit (Err fault) refuted held out out' old new
        → GrowsRightly front text proof proof'
        → LeavesBehind front fault text out out' proof proof' new
    search_leaves proof' Memory h w = (
      record {
        costs = h.tried;
        out_grows = h.lines;
        honest = honest_costs One text p reads only h.tried h.falling h.honest;
      },
      w,
    )
    search_leaves proof' ProofOutput h w = (
      record {
        costs = h.tried;
        out_grows = h.lines;
        honest = honest_costs One text p reads only h.tried h.falling h.honest;
      },
      w,
    )
    search_leaves proof' Output h w =
        let part = h.lines.0 in
        let c = h.lines.1.0 in
        let before = h.lines.1.1.0 in
        let is = h.lines.1.1.1 in
        record {
          written = part.0;
          out_grows = part.2;
          proof_part = w;
          before = before;
          said = Satisfiable c [];
          falls = falls_in h.tried before c is h.falling h.small;
          honest = subst (AreHonest text) is
              (honest_costs One text p reads only h.tried h.falling h.honest);
          begins = begun (cost_lines h.tried) part.0 _ _ part.1 (satisfiable_text before c []
              ∙ ap (λ z. cost_lines z ++ codes "s SATISFIABLE\nv\n") (sym is));
          proof_is_whole = λ lt. absurd (not_past (cost_lines h.tried) part.0 part.1
              (subst (λ z. length (cost_lines z) < length part.0) (sym is) lt));
          limit = λ lt. absurd (not_past (cost_lines h.tried) part.0 part.1
              (subst (λ z. length (cost_lines z) < length part.0) (sym is) lt));
        }
    search_leaves proof' (Read fault) h w = absurd h.lines

  -- what was shown
  module _ (limit : ℕ) (found : CutsFound) (refuted : Bool) (held : ℕ) (budget : BudgetState)
      (out out' last : Option (List ℕ)) (before mid after : Option (List Sight))
      (h : IsShownByCuts p limit found refuted held out out' budget before mid) where
    seen_as : Appends out' last (said_text (said_of_cuts found))
        → after ≡ with_seen (end_of p (said_of_cuts found) ∷ []) mid → (status : CutsStatus)
        → status ≡ status_by (said_of_cuts found)
        → IsSeenByCuts text out last status before after
    seen_as w end status is =
        let said = said_of_cuts found in
        let costs = costs_shown h.solutions in
        let t = spells limit costs refuted held budget h.falling h.small found h.right in
        let shown = map (better_of p) h.solutions in
        record {
          problem = p;
          reads = reads;
          solutions = h.solutions;
          each = h.each;
          said = said;
          status_is = is;
          true_answer = t.true_answer;
          seen = end ∙ ap (with_seen (end_of p said ∷ [])) h.seen
              ∙ with_seen_more shown (end_of p said ∷ []) before;
          earlier = t.before;
          told = t.told;
          out_grows =
              subst (Appends out last) (sym t.spelled)
              (Appends-trans out out' last (cost_lines costs) (said_text said) h.lines w);
        }

    pub seen_with : {W : Type 0} (contents : W → Option (List ℕ)) (writer : Option W)
        (is_whole : Bool) (proof : Option (List ℕ)) → IsSome writer → (said : Said)
        → said ≡ said_of_cuts found
        → (ended : Result CutsStatus RunFault)
        → IfOk ended (λ status. status ≡ status_by said)
        → IfOk ended (λ status. IfSome writer
        (λ w. AnswersByCuts is_whole said out' last proof (contents w)))
        → IfOk ended (λ status. after ≡ with_seen (end_of p said ∷ []) mid)
        → IfOk ended (λ status. IsSeenByCuts text out last status before after)
    seen_with contents (Some w) is_whole proof some said is (Ok status) named k end =
        seen_as (subst (λ z. Appends out' last (said_text z)) is k.out_grows)
        (end ∙ ap (λ z. with_seen (end_of p z ∷ []) mid) is) status (named ∙ ap status_by is)
    seen_with contents None is_whole proof some said is (Ok status) named k end = absurd (cc)
    seen_with contents writer is_whole proof some said is (Err fault) named k end = tt
