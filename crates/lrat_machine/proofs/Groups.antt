-- The groups of hints of a line: what begins each, and the ids that they name.
use Rattle.std.proofs.Common.{◌≡◌, ℕ, ◌+◌, ◌*◌, ◌<◌, ◌≤◌, Bool, true, false, not, List, [], ◌∷◌}
use Rattle.std.proofs.Common.{◌++◌, map, length, get_or, take, drop, Some, refl, sym, ◌∙◌, ap}
use Rattle.std.proofs.Common.{subst, inl, inr, arith, take-append-drop}
use Rattle.std.proofs.Math.Bool.{cond}
use Rattle.std.specs.Prelude.{◌==◌, filter}
use Rattle.std.specs.Bool.{then_some}
use Rattle.std.specs.List.{list_any}
use Rattle.std.proofs.lemmas.Bool.{or_left, or_right, or_cases, cases_eq, eq-eqb, ne_eqb}
use Rattle.std.proofs.lemmas.Bool.{false≢true}
use Rattle.cnf.proofs.Laws.{literal_eq-true}
use Rattle.lrat_machine.proofs.Members.{in_middle}
use Rattle.std.proofs.lemmas.List.{drop_more, drop_all}
use Rattle.cnf.specs.Literal.{Literal, negation, literal_eq}
use Rattle.cnf.specs.Clause.{contains_literal, without_literal}
use Rattle.cnf.specs.Lrat.{CandidateHints}
use Rattle.lrat_read.specs.Form.{groups_of}
use Rattle.cnf.specs.Refute.{Clauses}
use Rattle.lrat_machine.specs.declared.verdicts.Cause.TheVariants.{HintAfterConflict}
use Rattle.lrat_live.specs.Listed.{same_ids}
use Rattle.lrat_machine.specs.Verdict.{HintWalk, walk, of_walk, group_fault}
use Rattle.lrat_machine.specs.Steps.{HaveSame, EndAlike}
use Rattle.lrat_live.proofs.Laws.{ne_codes}
use Rattle.lrat_machine.proofs.Steps.{IsTrueAlready, silent_on, group_silent, group_walks}
use Rattle.lrat_machine.proofs.Alike.{EndAlike-step, walk-same, of_walk-alike}
use Rattle.lrat_machine.proofs.Effects.{drop_at}

-- the groups from a place on
abbrev pub groups_from : List (Bool × ℕ) → ℕ → List CandidateHints
groups_from hs i = groups_of (drop i hs)

-- the ids named from a place on
abbrev pub named_from : List (Bool × ℕ) → ℕ → List ℕ
named_from hs i = map (λ g. g.candidate) (groups_from hs i)

pub none_left : (ids : List ℕ) (n : ℕ) → n ≤ length ids
    → (n == length ids) ≡ same_ids [] (drop n ids)
none_left ids n le =
    elim (cases_eq n (length ids)) [
      | inl e ↦ eq-eqb n (length ids) e ∙ sym (ap (same_ids []) (drop_all n ids (omega arith)))
      | inr ne ↦ ne_eqb n (length ids) ne ∙ sym (ap (same_ids []) (drop_more ids n 0 (omega arith)))
    ]

-- the literals of a candidate but one
any_kept : (p q : Literal → Bool) (ys zs : List Literal) (x : Literal) → q x ≡ true → p x ≡ true
    → list_any p (filter q (ys ++ x ∷ zs)) ≡ true
any_kept p q [] zs x h k = rw h (or_left _ _ k)
any_kept p q (y ∷ ys) zs x h k =
    elim (q y) as (λ v. list_any p (cond v (y ∷ filter q (ys ++ x ∷ zs)) (filter q (ys ++ x ∷ zs)))
    ≡ true) [
      | true ↦ or_right _ _ (any_kept p q ys zs x h k)
      | false ↦ any_kept p q ys zs x h k
    ]

pub true_at : (A c : List Literal) (i : ℕ) (k l : Literal) → i < length c → l ≡ get_or c i l
    → not ((2 * l.variable + cond l.negated 1 0) == (2 * k.variable + cond k.negated 1 0)) ≡ true
    → contains_literal l A ≡ true
    → list_any (λ x. contains_literal x A) (without_literal k c) ≡ true
true_at A c i k l lt here ne h =
    subst (λ d. list_any (λ x. contains_literal x A) (without_literal k d) ≡ true)
    (ap (λ zs. take i c ++ zs) (sym (drop_at c i l lt here)) ∙ take-append-drop i c)
    (any_kept (λ x. contains_literal x A) (λ x. not (literal_eq k x)) (take i c) (drop (i + 1) c) l
    (ap not (ne_codes k l ne)) h)

-- a literal of the candidate that is true
true_kept : (p q : Literal → Bool) (l : Literal) (c : List Literal) → contains_literal l c ≡ true
    → q l ≡ true → p l ≡ true → list_any p (filter q c) ≡ true
true_kept p q l [] h t k = absurd (false≢true h)
true_kept p q l (x ∷ c) h t k =
    elim (or_cases (literal_eq l x) (contains_literal l c) h) [
      | inl e ↦
          let same : l ≡ x = literal_eq-true l x e in
          any_kept p q [] c x (subst (λ y. q y ≡ true) same t) (subst (λ y. p y ≡ true) same k)
      | inr e ↦ elim (q x) as (λ v. list_any p (cond v (x ∷ filter q c) (filter q c)) ≡ true) [
        | true ↦ or_right _ _ (true_kept p q l c e t k)
        | false ↦ true_kept p q l c e t k
      ]
    ]

pub true_shown : (A c : List Literal) (i : ℕ) (k l : Literal) → i < length A → l ≡ get_or A i l
    → not ((2 * l.variable + cond l.negated 1 0) == (2 * k.variable + cond k.negated 1 0)) ≡ true
    → contains_literal l c ≡ true
    → list_any (λ x. contains_literal x A) (without_literal k c) ≡ true
true_shown A c i k l lt here ne h =
    let among : contains_literal l A ≡ true =
    subst (λ xs. contains_literal l xs ≡ true)
    (ap (λ zs. take i A ++ zs) (sym (drop_at A i l lt here)) ∙ take-append-drop i A)
    (in_middle l (take i A) (drop (i + 1) A)) in
    true_kept (λ x. contains_literal x A) (λ x. not (literal_eq k x)) l c h
    (ap not (ne_codes k l ne)) among

-- how a group ends
pub group_end : (at : Clauses) (p q : Literal) (B T : List Literal) (n : ℕ) (hs : List ℕ)
    (d : List Literal) (w : HintWalk) → q ≡ negation p → at n ≡ Some d
    → list_any (λ k. contains_literal k B) (without_literal q d) ≡ false
    → HaveSame (map negation (without_literal q d) ++ B) T → EndAlike (walk at T hs) w
    → group_fault at p B (record { candidate = n; hints = hs }) ≡ of_walk w
group_end at p q B T n hs d w e u f s h =
    let g : CandidateHints = record { candidate = n; hints = hs } in
    let none : IsTrueAlready p B d ≡ false =
    subst (λ k. list_any (λ x. contains_literal x B) (without_literal k d) ≡ false) e f in
    let start : HaveSame (map negation (without_literal (negation p) d) ++ B) T =
    subst (λ k. HaveSame (map negation (without_literal k d) ++ B) T) e s in
    group_walks at p B g d u none
    ∙ of_walk-alike _ _
    (EndAlike-step _ (walk at T hs) w
    (walk-same at (map negation (without_literal (negation p) d) ++ B) T start hs) h)

pub group_end_silent : (at : Clauses) (p q : Literal) (B : List Literal) (n : ℕ)
    (hs : List (Bool × ℕ)) (d : List Literal) → q ≡ negation p → at n ≡ Some d
    → list_any (λ k. contains_literal k B) (without_literal q d) ≡ true
    → group_fault at p B (record { candidate = n; hints = map (λ h. h.1) hs })
    ≡ then_some (not (length hs == 0)) HintAfterConflict
group_end_silent at p q B n hs d e u t =
    let g : CandidateHints = record { candidate = n; hints = map (λ h. h.1) hs } in
    let already : IsTrueAlready p B d ≡ true =
    subst (λ k. list_any (λ x. contains_literal x B) (without_literal k d) ≡ true) e t in
    group_silent at p B g d u already (map (λ h. h.1) hs) refl ∙ silent hs
  where
    silent : (xs : List (Bool × ℕ))
        → silent_on (map (λ h. h.1) xs) ≡ then_some (not (length xs == 0)) HintAfterConflict
    silent [] = refl
    silent (x ∷ xs) =
        ap (λ b. then_some (not b) HintAfterConflict)
        (sym (ne_eqb (length (x ∷ xs)) 0 (λ e. absurd (omega arith))))
