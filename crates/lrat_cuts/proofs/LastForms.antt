-- The lines that a line feed ends, from the first on.
use Rattle.std.proofs.Common.{◌≡◌, ℕ, ◌+◌, Bool, true, false, List, [], ◌∷◌, ◌++◌, refl, sym, ◌∙◌}
use Rattle.std.proofs.Common.{ap, subst, inr, append_assoc}
use Rattle.std.specs.Prelude.{IsErr, None, Ok}
use Rattle.cnf.specs.Problem.{Problem}
use Rattle.std.specs.Str.Lines.{strip_carriage_return}
use Rattle.text.specs.Text.{IsNoFeed, token_lines, tokens_of}
use Rattle.text.specs.Pieces.{IsFirstLine}
use Rattle.text.proofs.Laws.{line_tokens-first}
use Rattle.lrat_read.specs.Words.{NamedFact}
use Rattle.lrat_cuts.specs.Cuts.{cuts_start}
use Rattle.lrat_cuts.specs.LastForm.{IsLastForm, TakesLine, TakesLines, ended_lines, form_facts}
use Rattle.lrat_cuts.specs.Machine.{MachineState, judged_after}
use Rattle.lrat_cuts.specs.Verdict.{ended_part, judged_text}
use Rattle.lrat_cuts.proofs.EndedParts.{ended_none, ended_part-more}

pub ended_lines-first : (text line rest : List ℕ) → IsFirstLine text line rest
    → ended_lines text ≡ tokens_of (strip_carriage_return line) ∷ ended_lines rest
ended_lines-first text line rest h =
    ap ended_lines h.split
    ∙ ap token_lines (ended_part-more (line ++ 10 ∷ []) rest (inr (line, refl)))
    ∙ ap token_lines (append_assoc line (10 ∷ []) (ended_part rest))
    ∙ line_tokens-first line (ended_part rest) h.no_feed

pub ended_lines-none : (text : List ℕ) → IsNoFeed text → ended_lines text ≡ []
ended_lines-none text h = ap token_lines (ended_none text h)

module _ (old new : MachineState) (fs gs : List NamedFact) (ts : List (List ℕ)) (b : Bool)
    (t : TakesLine old fs ts b new gs) (more : List (List (List ℕ))) where
  -- a right line leads on
  pub line_on : b ≡ true → (judged_after old (ts ∷ more) ≡ judged_after new more)
      × (form_facts fs (ts ∷ more) ≡ form_facts gs more) × (new.lines ≡ old.lines + 1)
  line_on e =
      let h = subst (λ x. TakesLine old fs ts x new gs) e t in
      (h.0 more, ap (λ x. form_facts x more) (sym h.1), h.2)

  -- a faulty one ends it
  pub line_fails : b ≡ false → IsErr (judged_after old (ts ∷ more))
  line_fails e = subst (λ x. TakesLine old fs ts x new gs) e t more

abbrev first_state : Problem → MachineState
first_state p = record { state = cuts_start p; cost = None; lines = 0; made = [] }

module _ (old new : MachineState) (fs gs : List NamedFact) (p : Problem) (proof : List ℕ)
    (b : Bool) (first : old ≡ first_state p) (none : fs ≡ [])
    (t : TakesLines old fs (ended_lines proof) b new gs) where
  -- all lines are right
  pub form_is_last : b ≡ true
      → IsLastForm (record { state = new.state; facts = gs }) p proof
  form_is_last e =
      let h = subst (λ x. TakesLines old fs (ended_lines proof) x new gs) e t in
      record {
        judged = subst (λ m. judged_after m (ended_lines proof) ≡ Ok new.state) first h.0;
        facts = h.1 ∙ ap (λ x. form_facts x (ended_lines proof)) none;
      }

  -- one is not
  pub no_form_is : b ≡ false → IsErr (judged_text None p (ended_part proof))
  no_form_is e =
      subst (λ m. IsErr (judged_after m (ended_lines proof))) first
      (subst (λ x. TakesLines old fs (ended_lines proof) x new gs) e t)
