-- What a run ends with, or leaves.
use Rattle.std.proofs.Common.{◌≡◌, ℕ, ◌+◌, ◌<◌, Bool, List, [], ◌++◌, length, Option, Some, None}
use Rattle.std.proofs.Common.{Ok, Err, refl, sym, ◌∙◌, ap, subst, arith, append_assoc, append-nil}
use Rattle.std.specs.Prelude.{All, IfSome}
use Rattle.std.specs.Io.KnownBytes.{Appends}
use Rattle.std.proofs.KnownBytes.{Appends-nil, Appends-trans, Keeps-refl}
use lib.Chars.{codes}
use Rattle.cnf.specs.Literal.{Literal}
use Rattle.cnf.specs.Bits.{assignment_of}
use Rattle.cnf.specs.Problem.{Problem}
use Rattle.wcnf.specs.Wcnf.{Reads}
use Rattle.text.specs.Writing.{AppendsPart}
use Rattle.text.specs.LratText.{IsTextOf}
use Rattle.cnf.specs.Lrat.{Accepts}
use Rattle.adder.specs.declared.profiles.Profile.{Profile}
use Rattle.bound.specs.Bound.{hard_cnf, bound_as}
use Rattle.cdcl_order.specs.Budgets.{BudgetState}
use Rattle.lrat_log.specs.Log.{LogLine, HasSmallIds, numbered_lines, text_of}
use Rattle.lrat_log.proofs.Laws.{accepted_ids}
use Rattle.lrat_result.specs.Result.{Said, OptimumFound as SaysOptimum}
use Rattle.lrat_result.specs.Result.{Unsatisfiable as SaysUnsatisfiable}
use Rattle.lrat_result.specs.Result.{Satisfiable as SaysSatisfiable, Unknown as SaysUnknown}
use Rattle.lrat_result.specs.Result.{FallsTo, Says}
use Rattle.lrat_check.specs.Checks.{IsProofOver, ChecksAs}
use Rattle.improve_found.specs.declared.found.Found.{Found}
use Rattle.improve_found.specs.declared.found.Found.TheVariants.{Optimum, Unsat, Best, Nothing}
use Rattle.improve_found.specs.Progress.{AreFalling}
use Rattle.improve_found.specs.Solutions.{IsCostOfSome, IsSolution}
use Rattle.improve.specs.Improving.{IsAcceptedOver, IsClauseCount, IsBoundWork}
use Rattle.cnf.proofs.Laws.{extends_own}
use Rattle.report_text.specs.declared.status.Status.{Status}
use Rattle.report_text.specs.declared.fault.RunFault.{RunFault}
use Rattle.report_text.specs.declared.fault.RunFault.TheVariants.{Read, Memory, Output, ProofOutput}
use Rattle.report_text.specs.Told.{cost_lines}
use Rattle.report_text.specs.Answering.{status_of, end_text, proof_text, HasIdRoom, HasProofRoom}
use Rattle.report_text.specs.Answering.{IsSpelledProof, HasProof, LeavesAnswer, Answers}
use Rattle.report_text.specs.Answering.{result_text}
use Rattle.report.specs.Running.{told_in, AreHonest, AreChecked, IsTrueAnswer, NeedsProof, EndsAs}
use Rattle.report.specs.Running.{LeavesResult, LeavesProof, Leaves, Searches, IsTrueLimit}
use Rattle.report_text.proofs.ResultTexts.{optimum_text, satisfiable_text, falls_in, text_says}
use Rattle.report_text.proofs.ResultTexts.{begun, not_past}

-- the accepted log, spelled with the ids from the formula's number of clauses on
module _ (cs : List (List Literal)) (n : ℕ) (log : List LogLine) (a : IsAcceptedOver cs log)
    (k : IsClauseCount n cs) where
  accepted_at : Accepts cs (numbered_lines n log)
  accepted_at = subst (λ m. Accepts cs (numbered_lines m log)) (sym k.0) a

  proof_over : IsTextOf (text_of n log) (numbered_lines n log) → IsProofOver cs (text_of n log)
  proof_over s = (numbered_lines n log, s, accepted_at)

  room : HasIdRoom n log
  room = (
    k.1,
    λ lt. subst (λ m. HasSmallIds m log) (sym k.0)
        (accepted_ids cs log a (omega (arith, k.0, lt))),
  )

-- what was found can be written
pub proof_room : (profile : Profile) (p : Problem) (out out' : Option (List ℕ))
    (old new : BudgetState) (found : Found)
    → Searches profile p (Ok found) out out' old new → HasProofRoom found
proof_room profile p out out' old new (Optimum c bits log clauses) s =
    let r = (s.found).refutation in
    room (bound_as profile p c).clauses clauses log r.accepted r.counted
proof_room profile p out out' old new (Unsat log clauses) s = let f = s.found in
    room (hard_cnf p).clauses clauses log f.accepted f.counted
proof_room profile p out out' old new (Best c bits work) s = tt
proof_room profile p out out' old new (Nothing work) s = tt

-- a result that says what was found, where these costs were told
record Spells (profile : Profile) (text : Option (List ℕ)) (p : Problem) (tried : List ℕ)
    (found : Found) (old new : BudgetState) : Type 0 where
  pub before : List ℕ
  pub said : Said
  pub told : told_in before said ≡ tried
  pub spelled : result_text before said ≡ cost_lines tried ++ end_text found
  pub falls : FallsTo before said
  pub true_answer : IsTrueAnswer profile p (told_in before said) (status_of found) said
      (proof_text found) old new
  pub needed : HasProof found → NeedsProof said
  pub no_proof : (NeedsProof said → ⊥) → proof_text found ≡ []
  pub checked : NeedsProof said → IsSpelledProof found
      → AreChecked profile text (result_text before said) (proof_text found)
  pub limit : IsTrueLimit text said new

module _ (profile : Profile) (text : Option (List ℕ)) (p : Problem)
    (reads : IfSome text (λ bytes. Reads bytes p))
    (only : IfSome text (λ bytes. (q : Problem) → Reads bytes q → q ≡ p)) where
  honest_at : (known : Option (List ℕ)) (costs : List ℕ)
      → IfSome known (λ bytes. (q : Problem) → Reads bytes q → q ≡ p) → All (IsCostOfSome p) costs
      → IfSome known (λ bytes. (q : Problem) → Reads bytes q → All (IsCostOfSome q) costs)
  honest_at None costs o h = tt
  honest_at (Some bytes) costs o h = λ q r. subst (λ x. All (IsCostOfSome x) costs) (sym (o q r)) h

  pub solution_at : (known : Option (List ℕ)) (bits : List Bool) (c : ℕ)
      → IfSome known (λ bytes. (q : Problem) → Reads bytes q → q ≡ p) → IsSolution p bits c
      → IfSome known (λ bytes. (q : Problem) → Reads bytes q → IsSolution q bits c)
  solution_at None bits c o h = tt
  solution_at (Some bytes) bits c o h =
      λ q r. subst (λ x. IsSolution x bits c) (sym (o q r)) h

  pub honest_costs : (costs : List ℕ) → AreFalling costs → All (IsCostOfSome p) costs
      → AreHonest text costs
  honest_costs costs f h = (f, honest_at text costs only h)

  optimum_checks : (known : Option (List ℕ)) → IfSome known (λ bytes. Reads bytes p)
      → (c : ℕ) (bits : List Bool) (written proved : List ℕ) → Says written (SaysOptimum c bits)
      → IsSolution p bits c
      → IsProofOver (bound_as profile p c).clauses proved
      → IfSome known (λ bytes. ChecksAs profile bytes written proved)
  optimum_checks None r c bits written proved says s over = tt
  optimum_checks (Some bytes) r c bits written proved says s over =
      let h = s.1 (assignment_of bits) (extends_own bits) in
      (p, SaysOptimum c bits, r, says, (s.0, h.0, h.1, over))

  unsatisfiable_checks : (known : Option (List ℕ)) → IfSome known (λ bytes. Reads bytes p)
      → (written proved : List ℕ) → Says written SaysUnsatisfiable
      → IsProofOver (hard_cnf p).clauses proved
      → IfSome known (λ bytes. ChecksAs profile bytes written proved)
  unsatisfiable_checks None r written proved says over = tt
  unsatisfiable_checks (Some bytes) r written proved says over =
      (p, SaysUnsatisfiable, r, says, over)

  module _ (old new : BudgetState) (out out' : Option (List ℕ)) where
    spells : (found : Found) (s : Searches profile p (Ok found) out out' old new)
        → Spells profile text p s.tried found old new
    spells (Optimum c bits log clauses) s =
        let f = s.found in
        let before = f.told.0 in
        let falls = falls_in s.tried before c f.told.1 s.falling s.small in
        record {
          before = before;
          said = SaysOptimum c bits.items;
          told = sym f.told.1;
          spelled = optimum_text before c bits.items
              ∙ ap (λ z. cost_lines z ++ end_text (Optimum c bits log clauses))
              (sym f.told.1);
          falls = falls;
          true_answer = f.optimal;
          needed = λ n. tt;
          no_proof = λ n. absurd (n tt);
          checked =
              λ n spelled. optimum_checks text reads c bits.items
              (result_text before (SaysOptimum c bits.items)) (text_of clauses log)
              (text_says before (SaysOptimum c bits.items) falls) f.solution
              (proof_over (bound_as profile p c).clauses clauses log (f.refutation).accepted
              (f.refutation).counted spelled);
          limit = tt;
        }
    spells (Unsat log clauses) s =
        let f = s.found in record {
          before = [];
          said = SaysUnsatisfiable;
          told = sym f.none_told;
          spelled = ap (λ z. cost_lines z ++ end_text (Unsat log clauses)) (sym f.none_told);
          falls = refl;
          true_answer = f.inconsistent;
          needed = λ n. tt;
          no_proof = λ n. absurd (n tt);
          checked = λ n spelled. unsatisfiable_checks text reads (result_text [] SaysUnsatisfiable)
              (text_of clauses log) (text_says [] SaysUnsatisfiable refl)
              (proof_over (hard_cnf p).clauses clauses log f.accepted f.counted spelled);
          limit = tt;
        }
    spells (Best c bits work) s =
        let f = s.found in
        let before = f.told.0 in record {
          before = before;
          said = SaysSatisfiable c bits.items;
          told = sym f.told.1;
          spelled = satisfiable_text before c bits.items
              ∙ ap (λ z. cost_lines z ++ end_text (Best c bits work)) (sym f.told.1);
          falls = falls_in s.tried before c f.told.1 s.falling s.small;
          true_answer = record {
            solution = f.solution;
            above_zero = f.above_zero;
            spent =
                record { no_proof = refl; none_left = s.spent; hard = f.hard; learned = s.learned };
            bound = subst (λ z. IsBoundWork profile p z c work) f.told.1 f.bound;
          };
          needed = λ n. absurd n;
          no_proof = λ n. refl;
          checked = λ n. absurd n;
          limit = (solution_at text bits.items c only f.solution, s.spent);
        }
    spells (Nothing work) s =
        let f = s.found in record {
          before = [];
          said = SaysUnknown;
          told = sym f.none_told;
          spelled = ap (λ z. cost_lines z ++ end_text (Nothing work)) (sym f.none_told);
          falls = refl;
          true_answer = record {
            not_refuted = f.not_refuted;
            spent =
                record { no_proof = refl; none_left = s.spent; hard = f.hard; learned = s.learned };
            no_bound = f.no_bound;
          };
          needed = λ n. absurd n;
          no_proof = λ n. refl;
          checked = λ n. absurd n;
          limit = s.spent;
        }

    module _ (last proof proof' : Option (List ℕ)) (found : Found)
        (s : Searches profile p (Ok found) out out' old new) where
      honest_in : AreHonest text (told_in (spells found s).before (spells found s).said)
      honest_in =
          subst (AreHonest text) (sym (spells found s).told)
          (honest_costs s.tried s.falling s.honest)

      -- no fault
      pub ends : (status : Status) → status ≡ status_of found
          → Answers found out' last proof proof'
          → EndsAs profile text out last proof proof' status old new
      ends status is w =
          let r = spells found s in
          let whole =
          subst (Appends out last) (sym r.spelled)
          (Appends-trans out out' last (cost_lines s.tried) (end_text found) s.lines
          w.out_grows) in
          subst (λ st. EndsAs profile text out last proof proof' st old new)
          (sym is) (record {
            written = result_text r.before r.said;
            proved = proof_text found;
            out_grows = whole;
            proof_grows = w.proof_grows;
            run = record {
              problem = p;
              reads = reads;
              before = r.before;
              said = r.said;
              spelled = refl;
              says = text_says r.before r.said r.falls;
              honest = honest_in;
              true_answer = r.true_answer;
              checked = λ n. r.checked n w.spelled;
              answers = s.answers ∙ ap (λ z. old.answers + length z) (sym r.told);
            };
          })

      -- a fault of the result's writer
      output_leaves : AppendsPart out' last (end_text found)
          → Appends proof proof' (proof_text found) → IsSpelledProof found
          → LeavesResult profile text out last proof proof' new
      output_leaves part grows spelled =
          let r = spells found s in record {
            written = cost_lines s.tried ++ part.0;
            proved = proof_text found;
            out_grows = Appends-trans out out' last (cost_lines s.tried) part.0 s.lines part.2;
            proof_grows = grows;
            before = r.before;
            said = r.said;
            falls = r.falls;
            honest = honest_in;
            begins = (
              part.1.0,
              r.spelled ∙ ap (λ z. cost_lines s.tried ++ z) part.1.1
                  ∙ sym (append_assoc (cost_lines s.tried) part.0 part.1.0),
            );
            no_proof = r.no_proof;
            proof_is_whole = λ n lt. r.checked n spelled;
            limit = λ lt. r.limit;
          }

      -- a fault of the certificate's writer
      proof_leaves : Appends out' last [] → AppendsPart proof proof' (proof_text found)
          → HasProof found → IsSpelledProof found → LeavesProof profile text out last proof proof'
      proof_leaves kept part has spelled =
          let r = spells found s in record {
            proved = part.0;
            whole = proof_text found;
            before = r.before;
            said = r.said;
            out_grows =
                subst (λ z. Appends out last (cost_lines z)) (sym r.told)
                (subst (Appends out last) (append-nil (cost_lines s.tried))
                (Appends-trans out out' last (cost_lines s.tried) [] s.lines kept));
            proof_grows = part.2;
            begins = part.1;
            honest = honest_in;
            needed = r.needed has;
            checked = r.checked (r.needed has) spelled;
          }

      pub answer_leaves : (fault : RunFault) → LeavesAnswer fault found out' last proof proof'
          → Leaves profile fault text out last proof proof' new
      answer_leaves Output w = output_leaves w.out_part w.proof_grows w.spelled
      answer_leaves ProofOutput w = proof_leaves w.out_kept w.proof_part w.has_proof w.spelled
      answer_leaves Memory w = absurd w
      answer_leaves (Read fault) w = absurd w

    -- a fault while it searched
    pub search_leaves : (proof : Option (List ℕ)) (fault : RunFault)
        → Searches profile p (Err fault) out out' old new
        → Leaves profile fault text out out' proof proof new
    search_leaves proof Memory s = record {
      costs = s.tried;
      out_grows = s.lines;
      honest = honest_costs s.tried s.falling s.honest;
      proof_kept = Keeps-refl proof;
    }
    search_leaves proof Output s =
        let part = s.lines.0 in
        let c = s.lines.1.0 in
        let before = s.lines.1.1.0 in
        let is = s.lines.1.1.1 in
        record {
          written = part.0;
          proved = [];
          out_grows = part.2;
          proof_grows = Appends-nil proof;
          before = before;
          said = SaysSatisfiable c [];
          falls = falls_in s.tried before c is s.falling s.small;
          honest = subst (AreHonest text) is (honest_costs s.tried s.falling s.honest);
          begins = begun (cost_lines s.tried) part.0 _ _ part.1 (satisfiable_text before c []
              ∙ ap (λ z. cost_lines z ++ codes "s SATISFIABLE\nv\n") (sym is));
          no_proof = λ n. refl;
          proof_is_whole = λ n. absurd n;
          limit = λ lt. absurd (not_past (cost_lines s.tried) part.0 part.1
              (subst (λ z. length (cost_lines z) < length part.0) (sym is) lt));
        }
    search_leaves proof ProofOutput s = absurd s.lines
    search_leaves proof (Read fault) s = absurd s.lines
