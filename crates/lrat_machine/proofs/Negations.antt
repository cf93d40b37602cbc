-- An addition's clause whose negations are assumed one by one, and how its hints end.
use Rattle.std.proofs.Common.{◌≡◌, ℕ, ◌+◌, ◌<◌, ◌≤◌, Bool, true, false, not, ◌||◌, List, [], ◌∷◌}
use Rattle.std.proofs.Common.{◌++◌, map, length, get_or, take, drop, Some, None, refl, sym, ◌∙◌, ap}
use Rattle.std.proofs.Common.{subst, arith, take-append-drop}
use Rattle.std.proofs.Math.Bool.{cond}
use Rattle.std.specs.Prelude.{slice_get}
use Rattle.std.proofs.lemmas.List.{take_more, map-append, length-map}
use Rattle.std.proofs.lemmas.Bool.{or_left, or_right}
use Rattle.std.proofs.lemmas.List.Elements.{All-push, All-weaker}
use Rattle.cnf.specs.Literal.{Literal, negation}
use Rattle.cnf.specs.Clause.{contains_literal, has_repeat, is_tautology, IsClauseWithin}
use Rattle.cnf.specs.Lrat.{Live, CandidateHints}
use Rattle.lrat_read.specs.Form.{leading, groups_of}
use Rattle.lrat_machine.specs.declared.verdicts.Cause.TheVariants.{HintAfterConflict, Candidates}
use Rattle.lrat_machine.specs.declared.hints.Walked.{Walked}
use Rattle.lrat_live.specs.Listed.{same_ids}
use Rattle.lrat_machine.specs.Verdict.{Open, Refuted, walk, ids_with, groups_fault, clause_fault}
use Rattle.lrat_machine.specs.Steps.{EndAlike, walked_as}
use Rattle.cnf.proofs.Laws.{negation_twice, contains_negation, repeat_push}
use Rattle.lrat_machine.proofs.Members.{is_tautology-push}
use Rattle.lrat_machine.proofs.Members.{repeat_at, complement_at}
use Rattle.lrat_machine.proofs.Alike.{clause_fault-alike}
use Rattle.lrat_machine.proofs.Effects.{drop_at}

module _ (c : List Literal) (i : ℕ) (l : Literal) (lt : i < length c)
    (here : l ≡ get_or c i l) where
  split : take i c ++ l ∷ drop (i + 1) c ≡ c
  split = ap (λ zs. take i c ++ zs) (sym (drop_at c i l lt here)) ∙ take-append-drop i c

  more : take (i + 1) c ≡ take i c ++ l ∷ []
  more = take_more c i l lt ∙ ap (λ k. take i c ++ k ∷ []) (sym here)

  in_negations : contains_literal (negation l) (map negation (take i c))
      ≡ contains_literal l (take i c)
  in_negations = contains_negation (negation l) (take i c)
      ∙ ap (λ k. contains_literal k (take i c)) (negation_twice l)

  pub not_apart : (T : List Literal) → T ≡ map negation (take i c) → contains_literal l T ≡ true
      → false ≡ not (has_repeat c || is_tautology c)
  not_apart T e h =
      let among : contains_literal (negation l) (take i c) ≡ true =
      sym (contains_negation l (take i c)) ∙ ap (contains_literal l) (sym e) ∙ h in
      let complement : is_tautology c ≡ true =
      subst (λ d. is_tautology d ≡ true) split (complement_at l (take i c) (drop (i + 1) c) among)
      in
      sym (ap not (or_right (has_repeat c) (is_tautology c) complement))

  pub not_single : (T : List Literal) → T ≡ map negation (take i c)
      → contains_literal (negation l) T ≡ true → false ≡ not (has_repeat c || is_tautology c)
  not_single T e h =
      let among : contains_literal l (take i c) ≡ true =
      sym in_negations ∙ ap (contains_literal (negation l)) (sym e) ∙ h in
      let repeat : has_repeat c ≡ true =
      subst (λ d. has_repeat d ≡ true) split (repeat_at l (take i c) (drop (i + 1) c) among) in
      sym (ap not (or_left (has_repeat c) (is_tautology c) repeat))

  pub negations_more : (T : List Literal) → T ≡ map negation (take i c)
      → T ++ negation l ∷ [] ≡ map negation (take (i + 1) c)
  negations_more T e = ap (λ zs. zs ++ negation l ∷ []) e
      ∙ sym (map-append negation (take i c) (l ∷ [])) ∙ ap (map negation) (sym more)

  pub single_more : (T : List Literal) → T ≡ map negation (take i c) → has_repeat (take i c) ≡ false
      → contains_literal (negation l) T ≡ false → has_repeat (take (i + 1) c) ≡ false
  single_more T e r h =
      ap has_repeat more ∙ repeat_push (take i c) l (sym in_negations
      ∙ ap (contains_literal (negation l)) (sym e) ∙ h) r

  pub apart_more : (T : List Literal) → T ≡ map negation (take i c)
      → is_tautology (take i c) ≡ false → contains_literal l T ≡ false
      → is_tautology (take (i + 1) c) ≡ false
  apart_more T e r h =
      ap is_tautology more
      ∙ is_tautology-push l (take i c) r (sym (contains_negation l (take i c))
      ∙ ap (contains_literal l) (sym e) ∙ h)

  pub within_more : (n m : ℕ) → n ≤ m → IsClauseWithin n (take i c) → l.variable ≤ m
      → IsClauseWithin m (take (i + 1) c)
  within_more n m le w h =
      subst (IsClauseWithin m) (sym more)
      (All-push (λ k. k.variable ≤ m) (take i c) l
      (All-weaker (λ k. k.variable ≤ n) (λ k. k.variable ≤ m) (λ k p. omega arith) (take i c) w)
      h)

-- how hints end
pub clause_end : (live : Live) (c : List Literal) (hs : List (Bool × ℕ)) (A : List Literal)
    (first : List ℕ) (r : Walked) (T : List Literal) → A ≡ map negation c → first ≡ leading hs
    → EndAlike (walk live.clause_at A first) (walked_as r T)
    → clause_fault live c (walk live.clause_at (map negation c) (leading hs)) (groups_of hs)
    ≡ clause_fault live c (walked_as r T) (groups_of hs)
clause_end live c hs A first r T e f h =
    clause_fault-alike live c _ (walked_as r T) (groups_of hs)
    (subst (λ xs. EndAlike (walk live.clause_at (map negation c) xs) (walked_as r T)) f
    (subst (λ xs. EndAlike (walk live.clause_at xs first) (walked_as r T)) e h))

pub length_first : (first hs : List (Bool × ℕ)) → map (λ h. h.1) first ≡ leading hs
    → length first ≡ length (leading hs)
length_first first hs e = sym (length-map first (λ h. h.1)) ∙ ap length e

pub refuted_all : (live : Live) (c : List Literal) (hs : List (Bool × ℕ))
    → length hs ≤ length (leading hs) → clause_fault live c Refuted (groups_of hs) ≡ None
refuted_all live c [] h = refl
refuted_all live c ((false, n) ∷ hs) h = refuted_all live c hs (omega arith)
refuted_all live c ((true, n) ∷ hs) h = absurd (omega arith)

pub refuted_more : (live : Live) (c : List Literal) (hs : List (Bool × ℕ))
    → length (leading hs) < length hs → clause_fault live c Refuted (groups_of hs)
    ≡ Some HintAfterConflict
refuted_more live c [] h = absurd (omega arith)
refuted_more live c ((false, n) ∷ hs) h = refuted_more live c hs (omega arith)
refuted_more live c ((true, n) ∷ hs) h = refl

pub open_pivot : (live : Live) (c : List Literal) (p : Literal) (B : List Literal)
    (gs : List CandidateHints) → slice_get c 0 ≡ Some p
    → clause_fault live c (Open B) gs
    ≡ cond (same_ids (map (λ g. g.candidate) gs) (ids_with live.clause_at (negation p) live.last))
    (groups_fault live.clause_at p B gs) (Some Candidates)
open_pivot live [] p B gs e = absurd (cc)
open_pivot live (q ∷ c) p B gs e =
    let same : q ≡ p = cc in
    ap (λ k. cond (same_ids (map (λ g. g.candidate) gs)
    (ids_with live.clause_at (negation k) live.last)) (groups_fault live.clause_at k B gs)
    (Some Candidates)) same
