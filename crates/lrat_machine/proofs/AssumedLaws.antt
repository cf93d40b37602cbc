-- The table of the assumed literals, at each step.
use Rattle.std.proofs.Common.{◌≡◌, ℕ, ◌+◌, ◌-◌, ◌*◌, ◌<◌, ◌≤◌, ◌^◌, Bool, true, false, List, []}
use Rattle.std.proofs.Common.{◌∷◌, ◌++◌, length, get_or, refl, sym, ◌∙◌, ap, subst, inl, inr, arith}
use Rattle.std.proofs.Common.{Some}
use Rattle.std.specs.Prelude.{slice_set}
use Rattle.std.proofs.Math.Bool.{cond}
use Rattle.std.proofs.Math.ListN.{length-set}
use Rattle.std.proofs.lemmas.Bool.{cases_eq, cases_lt, false_from_ne_true}
use Rattle.std.proofs.lemmas.List.{get_or-set_same, get_or-set_other}
use Rattle.std.proofs.lemmas.List.Elements.{All-push, All-pop, All-weaker}
use Rattle.cnf.specs.Literal.{Literal, index_of, literal_eq}
use Rattle.cnf.specs.Clause.{contains_literal}
use Rattle.cnf.proofs.Laws.{index_same, index_below, member_pushed, repeat_push}
use Rattle.cnf.proofs.Laws.{literal_eq-true}
use Rattle.lrat_machine.specs.Assumed.{AreValues}
use Rattle.lrat_machine.proofs.Members.{push_other, has_repeat-last}
use Rattle.lrat_machine.proofs.Members.{none_past}

-- one literal more
value_assume : (values : List Bool) (n : ℕ) (xs : List Literal) (l : Literal)
    → AreValues values n xs → 0 < l.variable → l.variable ≤ n → (k : Literal) → 0 < k.variable
    → k.variable ≤ n → get_or (slice_set values (index_of l) true) (index_of k) false
    ≡ contains_literal k (xs ++ l ∷ [])
value_assume values n xs l t p q k pk qk =
    let i : index_of l < length values = omega (arith, t.long, index_below l n p q) in
    elim (cases_eq (index_of k) (index_of l)) [
      | inl e ↦
          let same : l ≡ k = sym (index_same k l pk p e) in
          subst (λ m. get_or (slice_set values (index_of l) true) (index_of m) false
          ≡ contains_literal m (xs ++ l ∷ [])) same
          (get_or-set_same values (index_of l) true false i ∙ sym (member_pushed l xs))
      | inr ne ↦
          let other : literal_eq k l ≡ false =
          false_from_ne_true _ (λ e. ne (ap index_of (literal_eq-true k l e))) in
          get_or-set_other values (index_of l) (index_of k) true false ne ∙ t.value k pk qk
          ∙ sym (push_other k l xs other)
    ]

pub AreValues-assume : (values : List Bool) (n : ℕ) (xs : List Literal) (l : Literal)
    → AreValues values n xs → 0 < l.variable → l.variable ≤ n → contains_literal l xs ≡ false
    → AreValues (slice_set values (index_of l) true) n (xs ++ l ∷ [])
AreValues-assume values n xs l t p q h = record {
  long = length-set values (index_of l) true ∙ t.long;
  few = t.few;
  within = All-push (λ k. k.variable ≤ n) xs l t.within q;
  once = repeat_push xs l h t.once;
  value = value_assume values n xs l t p q;
}

-- the last literal back
value_undo : (values : List Bool) (n : ℕ) (xs : List Literal) (l : Literal)
    → AreValues values n (xs ++ l ∷ []) → 0 < l.variable → l.variable ≤ n → (k : Literal)
    → 0 < k.variable → k.variable ≤ n
    → get_or (slice_set values (index_of l) false) (index_of k) false ≡ contains_literal k xs
value_undo values n xs l t p q k pk qk =
    let i : index_of l < length values = omega (arith, t.long, index_below l n p q) in
    elim (cases_eq (index_of k) (index_of l)) [
      | inl e ↦
          let same : l ≡ k = sym (index_same k l pk p e) in
          subst (λ m. get_or (slice_set values (index_of l) false) (index_of m) false
          ≡ contains_literal m xs) same
          (get_or-set_same values (index_of l) false false i ∙ sym (has_repeat-last l xs t.once).1)
      | inr ne ↦
          let other : literal_eq k l ≡ false =
          false_from_ne_true _ (λ e. ne (ap index_of (literal_eq-true k l e))) in
          get_or-set_other values (index_of l) (index_of k) false false ne ∙ t.value k pk qk
          ∙ push_other k l xs other
    ]

undo_last : (values : List Bool) (n : ℕ) (xs : List Literal) (l : Literal)
    → AreValues values n (xs ++ l ∷ []) → 0 < l.variable
    → AreValues (slice_set values (index_of l) false) n xs
undo_last values n xs l t p =
    let w = All-pop (λ k. k.variable ≤ n) (xs ++ l ∷ []) xs (Some l) refl t.within in
    record {
      long = length-set values (index_of l) false ∙ t.long;
      few = t.few;
      within = w.0;
      once = (has_repeat-last l xs t.once).0;
      value = value_undo values n xs l t p w.1;
    }

pub AreValues-undo : (values : List Bool) (n : ℕ) (ys xs : List Literal) (l : Literal)
    → AreValues values n ys → ys ≡ xs ++ l ∷ [] → 0 < l.variable
    → AreValues (slice_set values (index_of l) false) n xs
AreValues-undo values n ys xs l t e p =
    undo_last values n xs l (subst (λ zs. AreValues values n zs) e t) p

-- a longer table
place_above : (v n : ℕ) (a : Bool) → n < v → 2 * n ≤ 2 * (v - 1) + cond a 1 0
place_above v n true h = omega arith
place_above v n false h = omega arith

pub AreValues-grow : (values new : List Bool) (n m : ℕ) (xs : List Literal) → AreValues values n xs
    → n < m → m < 2 ^ 27 → length new ≡ 2 * m → ((k : ℕ) (d : Bool) → k < 2 * m → k < length values
    → get_or new k d ≡ get_or values k d) → ((k : ℕ) (d : Bool) → length values ≤ k → k < 2 * m
    → get_or new k d ≡ false) → AreValues new m xs
AreValues-grow values new n m xs t up few long old fresh = record {
  long = long;
  few = few;
  within = All-weaker (λ k. k.variable ≤ n) (λ k. k.variable ≤ m) (λ k h. omega arith) xs t.within;
  once = t.once;
  value = λ k pk qk.
      let below : index_of k < 2 * m = index_below k m pk qk in
      elim (cases_lt n k.variable) [
        | inl h ↦ fresh (index_of k) false
            (omega (arith, t.long, place_above k.variable n k.negated h)) below
            ∙ sym (none_past n k xs t.within h)
        | inr h ↦ old (index_of k) false below
            (omega (arith, t.long, index_below k n pk (omega arith))) ∙ t.value k pk h
      ];
}
