-- A result that is read line by line.
use Rattle.std.proofs.Common.{◌≡◌, ℕ, ◌+◌, List, [], ◌∷◌, map, Ok, Err, refl, sym, ◌∙◌, ap}
use Rattle.std.specs.List.{enumerate_from}
use Rattle.text.specs.Text.{tokens_of}
use Rattle.lrat_result.specs.declared.report.Report.{Report as ReadReport}
use Rattle.lrat_result.specs.declared.report.ReportFault.{ReportFault}
use Rattle.lrat_result.specs.declared.report.ReportFault.TheVariants.{Form, Memory}
use Rattle.lrat_result.specs.declared.report.Reading.{Reading}
use Rattle.lrat_result.specs.declared.report.Reading.TheVariants.{Costs, Bits, End}
use Rattle.lrat_result.specs.Result.{report_of}
use Rattle.lrat_result.specs.Report.{reported, resumed, IsNextStage, ReportsWith, IsReadReport}

record Next (text : List ℕ) (stage : Reading) (number : ℕ) (line : List ℕ)
    (rest : List (ℕ × List ℕ))
    : Type 0 where
  pub others : List (List ℕ)
  pub numbered : rest ≡ enumerate_from (number + 1) others
  pub report : report_of text ≡ resumed stage number (tokens_of line ∷ map tokens_of others)

next_at : (text : List ℕ) (stage : Reading) (n : ℕ) (ls : List (List ℕ)) (number : ℕ)
    (line : List ℕ)
    (rest : List (ℕ × List ℕ)) → enumerate_from n ls ≡ (number, line) ∷ rest
    → report_of text ≡ resumed stage n (map tokens_of ls) → Next text stage number line rest
next_at text stage n [] number line rest e r = absurd (cc)
next_at text stage n (l ∷ ls) number line rest e r =
    let same : (n, l) ≡ (number, line) = cc in
    let same_number : n ≡ number = ap (λ (p : ℕ × List ℕ). p.0) same in
    let same_line : l ≡ line = ap (λ (p : ℕ × List ℕ). p.1) same in
    let same_rest : enumerate_from (n + 1) ls ≡ rest = cc in
    record {
      others = ls;
      numbered = sym same_rest ∙ ap (λ m. enumerate_from (m + 1) ls) same_number;
      report = r ∙ ap (λ m. resumed stage m (tokens_of l ∷ map tokens_of ls)) same_number
          ∙ ap (λ k. resumed stage number (tokens_of k ∷ map tokens_of ls)) same_line;
    }

next_of : (text : List ℕ) (stage : Reading) (left : List (ℕ × List ℕ)) → ReportsWith text stage left
    → (number : ℕ) (line : List ℕ) (rest : List (ℕ × List ℕ)) → left ≡ (number, line) ∷ rest
    → Next text stage number line rest
next_of text stage left g number line rest e =
    next_at text stage g.number g.lines number line rest (sym g.numbered ∙ e) g.report

pub goes_on : (text : List ℕ) (stage : Reading) (left : List (ℕ × List ℕ))
    → ReportsWith text stage left
    → (number : ℕ) (line : List ℕ) (rest : List (ℕ × List ℕ)) → left ≡ (number, line) ∷ rest
    → (next : Reading) → IsNextStage stage number (tokens_of line) (Ok next)
    → ReportsWith text next rest
goes_on text stage left g number line rest e next s =
    let n = next_of text stage left g number line rest e in
    record {
      number = number + 1;
      lines = n.others;
      numbered = n.numbered;
      report = n.report
          ∙ s (map tokens_of n.others);
    }

pub stops : (text : List ℕ) (stage : Reading) (left : List (ℕ × List ℕ))
    → ReportsWith text stage left
    → (number : ℕ) (line : List ℕ) (rest : List (ℕ × List ℕ)) → left ≡ (number, line) ∷ rest
    → (f : ReportFault) → IsNextStage stage number (tokens_of line) (Err f)
    → IsReadReport text (Err f)
stops text stage left g number line rest e (Form m) s =
    let n = next_of text stage left g number line rest e in
    n.report ∙ s (map tokens_of n.others)
stops text stage left g number line rest e Memory s = tt

ends_at : (text : List ℕ) (stage : Reading) (n : ℕ) (ls : List (List ℕ)) → enumerate_from n ls ≡ []
    → report_of text ≡ resumed stage n (map tokens_of ls) → report_of text ≡ resumed stage n []
ends_at text stage n [] e r = r
ends_at text stage n (l ∷ ls) e r = absurd (cc)

pub ended_at : (text : List ℕ) (stage : Reading) (left : List (ℕ × List ℕ))
    → ReportsWith text stage left
    → left ≡ [] → (report : ReadReport) → stage ≡ End report → report_of text ≡ Ok (reported report)
ended_at text stage left g e report is =
    ends_at text stage g.number g.lines (sym g.numbered ∙ e) g.report
    ∙ ap (λ s. resumed s g.number []) is

pub unended_at : (text : List ℕ) (stage : Reading) (left : List (ℕ × List ℕ))
    → ReportsWith text stage left
    → left ≡ [] → ((report : ReadReport) → stage ≡ End report → ⊥) → report_of text ≡ Err 0
unended_at text (Costs last) left g e n =
    ends_at text (Costs last) g.number g.lines (sym g.numbered ∙ e) g.report
unended_at text (Bits heading) left g e n =
    ends_at text (Bits heading) g.number g.lines (sym g.numbered ∙ e) g.report
unended_at text (End report) left g e n = absurd (n report refl)
