-- What was shown is what the result tells and says.
use Rattle.std.proofs.Common.{◌≡◌, ℕ, List, [], ◌∷◌, ◌++◌, Option, map, sym, ◌∙◌, ap, subst}
use Rattle.std.specs.Prelude.{IfSome}
use Rattle.std.specs.Io.KnownBytes.{Appends}
use Rattle.std.proofs.KnownBytes.{Appends-trans}
use Rattle.cnf.specs.Problem.{Problem}
use Rattle.wcnf.specs.Wcnf.{Reads}
use Rattle.adder.specs.declared.profiles.Profile.{Profile}
use Rattle.cdcl_order.specs.Watch.{Sight, with_seen}
use Rattle.cdcl_order.proofs.Laws.{with_seen_more}
use Rattle.improve_found.specs.declared.found.Found.{Found}
use Rattle.improve_found.specs.declared.found.Found.TheVariants.{Optimum, Unsat, Best, Nothing}
use Rattle.improve.specs.Improving.{IsRightFound}
use Rattle.improve_found.specs.Watch.{better_of, costs_shown}
use Rattle.report_text.specs.declared.status.Status.{Status}
use Rattle.report_text.specs.Told.{cost_lines}
use Rattle.report_text.specs.Answering.{status_of, end_text, Answers, result_text}
use Rattle.report.specs.Running.{told_in}
use Rattle.report_text.specs.Best.{IsTrueOf, said_of, end_of}
use Rattle.report.specs.Seen.{IsShownFor, IsSeenAs}
use Rattle.report_text.proofs.ResultTexts.{optimum_text, satisfiable_text}

-- what was found is so
pub found_so : (profile : Profile) (p : Problem) (costs : List ℕ) (found : Found)
    → IsRightFound profile p costs found → IsTrueOf p (said_of found)
found_so profile p costs (Optimum c bits log clauses) f = (f.solution, f.optimal)
found_so profile p costs (Unsat log clauses) f = f.inconsistent
found_so profile p costs (Best c bits work) f = f.solution
found_so profile p costs (Nothing work) f = tt

-- the result of what was found, where these costs were told
record IsSpelled (found : Found) (costs : List ℕ) : Type 0 where
  pub earlier : List ℕ
  pub told : told_in earlier (said_of found) ≡ costs
  pub text : result_text earlier (said_of found) ≡ cost_lines costs ++ end_text found

is_spelled : (profile : Profile) (p : Problem) (costs : List ℕ) (found : Found)
    → IsRightFound profile p costs found → IsSpelled found costs
is_spelled profile p costs (Optimum c bits log clauses) f = record {
  earlier = f.told.0;
  told = sym f.told.1;
  text = optimum_text f.told.0 c bits.items
      ∙ ap (λ z. cost_lines z ++ end_text (Optimum c bits log clauses)) (sym f.told.1);
}
is_spelled profile p costs (Unsat log clauses) f = record {
  earlier = [];
  told = sym f.none_told;
  text = ap (λ z. cost_lines z ++ end_text (Unsat log clauses)) (sym f.none_told);
}
is_spelled profile p costs (Best c bits work) f = record {
  earlier = f.told.0;
  told = sym f.told.1;
  text = satisfiable_text f.told.0 c bits.items
      ∙ ap (λ z. cost_lines z ++ end_text (Best c bits work)) (sym f.told.1);
}
is_spelled profile p costs (Nothing work) f = record {
  earlier = [];
  told = sym f.none_told;
  text = ap (λ z. cost_lines z ++ end_text (Nothing work)) (sym f.none_told);
}

pub seen_as : (profile : Profile) (text : Option (List ℕ)) (p : Problem)
    → IfSome text (λ bytes. Reads bytes p) → (out out' last proof proof' : Option (List ℕ))
    (before mid after : Option (List Sight)) (found : Found)
    → IsShownFor profile p found out out' before mid → Answers found out' last proof proof'
    → after ≡ with_seen (end_of p (said_of found) ∷ []) mid → (status : Status)
    → status ≡ status_of found
    → IsSeenAs profile text out last status before after
seen_as profile text p reads out out' last proof proof' before mid after found s w end status is =
    let costs = costs_shown s.solutions in
    let t = is_spelled profile p costs found s.right in
    let shown = map (better_of p) s.solutions in
    record {
      problem = p;
      reads = reads;
      solutions = s.solutions;
      each = s.each;
      found = found;
      right = s.right;
      status_is = is;
      seen = end ∙ ap (with_seen (end_of p (said_of found) ∷ [])) s.seen
          ∙ with_seen_more shown (end_of p (said_of found) ∷ []) before;
      earlier = t.earlier;
      told = t.told;
      out_grows =
          subst (Appends out last) (sym t.text)
          (Appends-trans out out' last (cost_lines costs) (end_text found) s.lines w.out_grows);
    }
