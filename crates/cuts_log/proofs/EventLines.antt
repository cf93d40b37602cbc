-- The lines, the tokens and the text of events, with one more at the end.
use Rattle.std.proofs.Common.{◌≡◌, ℕ, ◌+◌, ◌≤◌, List, [], ◌∷◌, ◌++◌, length, map, refl, sym, ◌∙◌}
use Rattle.std.proofs.Common.{ap}
use Rattle.std.proofs.Common.{arith, append-nil}
use Rattle.std.specs.List.{flat_map}
use Rattle.std.proofs.lemmas.Grind.{flat_map-append}
use Rattle.cnf.specs.Literal.{Literal}
use Rattle.text.specs.Writing.{spaced}
use Rattle.lrat_log.specs.Log.{LogLine, axiom_line}
use Rattle.lrat_log.specs.Steps.{added_count}
use Rattle.lrat_log.proofs.Laws.{additions_cons, additions_few}
use Rattle.cuts_log.specs.Events.{Event, lines_in, lines_of, text_of, tokens_at, tokens_on}

pub added_axioms : (cs : List (List Literal)) → added_count (map axiom_line cs) ≡ length cs
added_axioms [] = refl
added_axioms (c ∷ cs) =
    additions_cons (axiom_line c) (map axiom_line cs) ∙ ap (λ n. 1 + n) (added_axioms cs) ∙ omega
    arith

pub added-append : (xs ys : List LogLine)
    → added_count (xs ++ ys) ≡ added_count xs + added_count ys
added-append [] ys = omega arith
added-append (x ∷ xs) ys =
    let h = added-append xs ys in
    omega (arith, h, additions_cons x (xs ++ ys), additions_cons x xs)

pub lines_of-push : (es : List Event) (e : Event) → lines_of (es ++ e ∷ []) ≡ lines_of es ++
    lines_in e
lines_of-push es e = flat_map-append lines_in es (e ∷ [])
    ∙ ap (λ z. lines_of es ++ z) (append-nil (lines_in e))

pub tokens_on-push : (base before : ℕ) (es : List Event) (e : Event)
    → tokens_on base before (es ++ e ∷ [])
    ≡ tokens_on base before es ++ tokens_at base (before + added_count (lines_of es)) e ∷ []
tokens_on-push base before [] e =
    let same : before ≡ before + 0 = omega arith in
    ap (λ n. tokens_at base n e ∷ []) same
tokens_on-push base before (d ∷ es) e =
    let next = before + added_count (lines_in d) in
    let same : next + added_count (lines_of es) ≡ before + added_count (lines_in d ++ lines_of es) =
    omega (arith, added-append (lines_in d) (lines_of es)) in
    ap (λ z. tokens_at base before d ∷ z) (tokens_on-push base next es e
    ∙ ap (λ n. tokens_on base next es ++ tokens_at base n e ∷ []) same)

pub text_of-push : (base before : ℕ) (es : List Event) (e : Event)
    → text_of base before es ++ spaced (tokens_at base (before + added_count (lines_of es)) e)
    ≡ text_of base before (es ++ e ∷ [])
text_of-push base before es e =
    let last = spaced (tokens_at base (before + added_count (lines_of es)) e) in
    sym (ap (flat_map spaced) (tokens_on-push base before es e)
    ∙ flat_map-append spaced (tokens_on base before es)
    (tokens_at base (before + added_count (lines_of es)) e ∷ [])
    ∙ ap (λ z. text_of base before es ++ z) (append-nil last))

pub added_few : (e : Event) → added_count (lines_in e) ≤ length (lines_in e)
added_few e = additions_few (lines_in e)
