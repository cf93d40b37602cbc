-- The lines of a certificate, counted one after another.
use Rattle.std.proofs.Common.{◌≡◌, ℕ, ◌+◌, List, [], ◌∷◌, ◌++◌, refl, ◌∙◌, ap, arith, inr}
use Rattle.std.proofs.Common.{append_assoc}
use Rattle.std.specs.Str.Lines.{strip_carriage_return}
use Rattle.text.specs.Text.{IsNoFeed, token_lines, tokens_of}
use Rattle.text.specs.Pieces.{IsFirstLine}
use Rattle.text.proofs.Laws.{line_tokens-first}
use Rattle.lrat_cuts.specs.LastForm.{ended_lines}
use Rattle.lrat_cuts.specs.Verdict.{ended_part}
use Rattle.lrat_cuts.proofs.Laws.{ended_none, ended_part-more}
use Rattle.explain_certificate.specs.declared.holdings.LineCounts.{LineCounts}
use Rattle.explain_certificate.specs.declared.holdings.LineKind.{LineKind}
use Rattle.explain_certificate.specs.declared.holdings.LineKind.TheVariants.{Addition, Deletion}
use Rattle.explain_certificate.specs.declared.holdings.LineKind.TheVariants.{Count, Output, Group}
use Rattle.explain_certificate.specs.declared.holdings.LineKind.TheVariants.{Form, Cut, Bound}
use Rattle.explain_certificate.specs.Holdings.{count_of_lines, counted, counted_all, counted_if}
use Rattle.explain_certificate.specs.Holdings.{kind_of}

-- the first line, and those behind it
pub counts-first : (c : LineCounts) (text line rest : List ℕ) → IsFirstLine text line rest
    → counted_all c (ended_lines text)
    ≡ counted_all (counted_if (kind_of (tokens_of (strip_carriage_return line))) c)
    (ended_lines rest)
counts-first c text line rest h =
    ap (counted_all c)
    (ap ended_lines h.split
    ∙ ap token_lines (ended_part-more (line ++ 10 ∷ []) rest (inr (line, refl)))
    ∙ ap token_lines (append_assoc line (10 ∷ []) (ended_part rest))
    ∙ line_tokens-first line (ended_part rest) h.no_feed)

pub counts-none : (c : LineCounts) (text : List ℕ) → IsNoFeed text
    → counted_all c (ended_lines text) ≡ c
counts-none c text h = ap (λ x. counted_all c (token_lines x)) (ended_none text h)

pub one_more : (k : LineKind) (c : LineCounts)
    → count_of_lines (counted k c) ≡ count_of_lines c + 1
one_more Addition c = omega (arith)
one_more Deletion c = omega (arith)
one_more Count c = omega (arith)
one_more Output c = omega (arith)
one_more Group c = omega (arith)
one_more Form c = omega (arith)
one_more Cut c = omega (arith)
one_more Bound c = omega (arith)
