-- Lines and texts that are judged one behind the other.
use Rattle.std.proofs.Common.{◌≡◌, ℕ, ◌+◌, ◌<◌, ◌≤◌, false, List, [], ◌∷◌, ◌++◌, map}
use Rattle.std.proofs.Common.{Option, Some, None, Result, Ok, Err, refl, sym, ◌∙◌, ap, subst, inl}
use Rattle.std.proofs.Common.{inr, arith, append_assoc}
use Rattle.std.specs.Prelude.{◌==◌}
use Rattle.std.specs.Str.Lines.{lines, strip_carriage_return}
use Rattle.std.proofs.lemmas.Bool.{cases_Bool, eqb-true}
use Rattle.std.proofs.lemmas.List.Elements.{All-append, All-cons, All-nil}
use Rattle.cnf.specs.Problem.{Problem}
use Rattle.text.specs.Text.{IsNoFeed, token_lines, tokens_of}
use Rattle.text.specs.Pieces.{IsEnded}
use Rattle.text.proofs.Laws.{lines-split}
use Rattle.lrat_machine.specs.declared.verdicts.Cause.{Cause}
use Rattle.lrat_cuts.specs.Cuts.{CutsState, cuts_start, judged_line, judged_lines}
use Rattle.lrat_cuts.specs.Verdict.{judged_text}
use Rattle.lrat_cuts.proofs.Laws.{right_up_to}
use Rattle.cuts_log.specs.Judging.{IsUpTo}

-- The lines of a text that follows ended ones.
abbrev IsOrdinary : ℕ → Type 0
IsOrdinary b = (b == 10) ≡ false

none_fed : IsNoFeed []
none_fed = All-nil IsOrdinary

lines_on : (x front more : List ℕ) → IsNoFeed x
    → lines (x ++ (front ++ 10 ∷ more)) ≡ lines (x ++ (front ++ 10 ∷ [])) ++ lines more
lines_on x [] more h =
    lines-split x more h ∙ sym (ap (λ ls. ls ++ lines more) (lines-split x [] h))
lines_on x (b ∷ front) more h =
    elim (cases_Bool (b == 10)) [
      | inl t ↦
          let feed : b ≡ 10 = eqb-true b 10 t in
          let first = strip_carriage_return x in
          ap (λ y. lines (x ++ y ∷ (front ++ 10 ∷ more))) feed
          ∙ lines-split x (front ++ 10 ∷ more) h
          ∙ ap (λ ls. first ∷ ls) (lines_on [] front more none_fed)
          ∙ sym (ap (λ ls. ls ++ lines more) (lines-split x (front ++ 10 ∷ []) h))
          ∙ sym (ap (λ y. lines (x ++ y ∷ (front ++ 10 ∷ [])) ++ lines more) feed)
      | inr f ↦
          let longer : IsNoFeed (x ++ b ∷ []) =
          All-append IsOrdinary x (b ∷ []) h (All-cons IsOrdinary b [] f none_fed) in
          ap lines (sym (append_assoc x (b ∷ []) (front ++ 10 ∷ more)))
          ∙ lines_on (x ++ b ∷ []) front more longer
          ∙ ap (λ y. lines y ++ lines more) (append_assoc x (b ∷ []) (front ++ 10 ∷ []))
    ]

map_append : (xs ys : List (List ℕ)) → map tokens_of (xs ++ ys) ≡ map tokens_of xs ++ map tokens_of
    ys
map_append [] ys = refl
map_append (x ∷ xs) ys = ap (λ z. tokens_of x ∷ z) (map_append xs ys)

pub tokens_behind : (before more : List ℕ) → IsEnded before
    → token_lines (before ++ more) ≡ token_lines before ++ token_lines more
tokens_behind before more (inl e) =
    ap (λ x. token_lines (x ++ more)) e ∙ sym (ap (λ x. token_lines x ++ token_lines more) e)
tokens_behind before more (inr e) =
    let front = e.0 in
    ap (λ x. token_lines (x ++ more)) e.1
    ∙ ap token_lines (append_assoc front (10 ∷ []) more)
    ∙ ap (map tokens_of) (lines_on [] front more none_fed)
    ∙ map_append (lines (front ++ 10 ∷ [])) (lines more)
    ∙ sym (ap (λ x. token_lines x ++ token_lines more) e.1)

-- Lines behind others.
numbered_as : (o : Option ℕ) (xs : List (List (List ℕ))) (s t : CutsState) (n m : ℕ)
    → judged_lines o s n xs ≡ Ok t → judged_lines o s m xs ≡ Ok t
numbered_as o [] s t n m e = e
numbered_as o (x ∷ xs) s t n m e =
    elim (judged_line o s x)
    as (λ r. judged_line o s x ≡ r → judged_lines o s m (x ∷ xs) ≡ Ok t) [
      | Err f ↦ λ q. absurd (err_ok (f, n) t (rw q at e))
      | Ok next ↦ λ q. rw q (numbered_as o xs next t (n + 1) (m + 1) (rw q at e))
    ] refl
  where
    err_ok : (f : Cause × ℕ) (x : CutsState)
        → (let r : Result CutsState (Cause × ℕ) = Err f in r ≡ Ok x) → ⊥
    err_ok f x e = cc

pub judged_behind : (o : Option ℕ) (xs ys : List (List (List ℕ))) (s t u : CutsState) (n m : ℕ)
    → judged_lines o s n xs ≡ Ok t → judged_lines o t m ys ≡ Ok u
    → judged_lines o s n (xs ++ ys) ≡ Ok u
judged_behind o [] ys s t u n m e f =
    let same : s ≡ t = ok_same s t e in
    numbered_as o ys s u m n (subst (λ x. judged_lines o x m ys ≡ Ok u) (sym same) f)
  where
    ok_same : (a b : CutsState)
        → (let r : Result CutsState (Cause × ℕ) = Ok a in r ≡ Ok b) → a ≡ b
    ok_same a b e = cc
judged_behind o (x ∷ xs) ys s t u n m e f =
    elim (judged_line o s x)
    as (λ r. judged_line o s x ≡ r → judged_lines o s n (x ∷ (xs ++ ys)) ≡ Ok u) [
      | Err c ↦ λ q. absurd (err_ok (c, n) t (rw q at e))
      | Ok next ↦ λ q. rw q (judged_behind o xs ys next t u (n + 1) m (rw q at e) f)
    ] refl
  where
    err_ok : (f : Cause × ℕ) (x : CutsState)
        → (let r : Result CutsState (Cause × ℕ) = Err f in r ≡ Ok x) → ⊥
    err_ok f x e = cc

-- what is right whatever its cuts hold for is right for each cost up to that
pub right_for : (o : Option ℕ) (xs : List (List (List ℕ))) (s t : CutsState) (n cost : ℕ)
    → IsUpTo cost o → cost ≤ t.worth → 0 < t.worth → judged_lines None s n xs ≡ Ok t
    → judged_lines o s n xs ≡ Ok t
right_for None xs s t n cost up le some e = e
right_for (Some k) xs s t n cost up le some e =
    right_up_to k xs s t n some (omega (arith, up, le)) e

-- a text behind one that was judged
pub text_behind : (o : Option ℕ) (p : Problem) (before more : List ℕ) (s t : CutsState) (cost : ℕ)
    → IsEnded before → IsUpTo cost o → cost ≤ s.worth → 0 < s.worth
    → judged_text None p before ≡ Ok s → judged_lines o s 1 (token_lines more) ≡ Ok t
    → judged_text o p (before ++ more) ≡ Ok t
text_behind o p before more s t cost ended up le some e f =
    ap (judged_lines o (cuts_start p) 1) (tokens_behind before more ended)
    ∙ judged_behind o (token_lines before) (token_lines more) (cuts_start p) s t 1 1
    (right_for o (token_lines before) (cuts_start p) s 1 cost up le some e) f
