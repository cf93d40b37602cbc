-- Counts and groups under other stamps.
use Rattle.std.proofs.Common.{◌≡◌, ℕ, zero, suc, ◌+◌, ◌-◌, ◌<◌, ◌≤◌, List, []}
use Rattle.std.proofs.Common.{◌∷◌, ◌++◌, refl}
use Rattle.std.proofs.Common.{length, take, drop, get_or, set, sym, ◌∙◌, ap, subst, arith}
use Rattle.std.proofs.Common.{Some, inl, inr}
use Rattle.std.specs.Prelude.{◌==◌, slice_set}
use Rattle.std.specs.List.{AllByRecursion}
use Rattle.std.specs.Option.{option_map}
use Rattle.std.proofs.lemmas.Bool.{cases_Bool, eqb-true}
use Rattle.std.proofs.lemmas.List.{map-append, take_more, take_more_set, drop-set-lt}
use Rattle.std.proofs.lemmas.List.Elements.{All-from_recursion, recursion_from_All}
use Rattle.std.proofs.lemmas.Option.{slice_get-map, slice_get-get_or}
use Rattle.std.proofs.Math.Seq.{drop-cons}
use Rattle.cnf.proofs.Laws.{all_push}
use Rattle.forms.specs.declared.numbered.Numbered.{Numbered as Stamped}
use Rattle.forms.specs.declared.numbered.Numbered.TheVariants.{Count as StampedCount}
use Rattle.forms.specs.declared.numbered.Numbered.TheVariants.{Group as StampedGroup}
use Rattle.forms.specs.Forms.{Forms, Numbered, at_number, cited, cleared, less_item}
use Rattle.forms.specs.Forms.{less_numbered, numbered_size, without_multiplier}
use Rattle.forms.specs.Stamped.{AreStamped, IsStamped, numbered_in, numbered_at}

later_one : (p : ℕ) (n : Stamped) → IsStamped p n
    → numbered_at (p + 1) n ≡ without_multiplier (numbered_at p n)
later_one p (StampedGroup lits) h = refl
later_one p (StampedCount c) h =
    elim (cases_Bool (c.stamp == (p + 1))) [
      | inl y ↦ let e = eqb-true c.stamp (p + 1) y in
          let bad : ⊥ = omega (arith, h, e) in absurd bad
      | inr n ↦ rw n refl
    ]

-- a stamp that no count has
pub later : (p : ℕ) (ns : List Stamped) → AllByRecursion (IsStamped p) ns
    → numbered_in (p + 1) ns ≡ cleared (numbered_in p ns)
later p [] h = refl
later p (n ∷ ns) h = λ i. later_one p n h.0 i ∷ later p ns h.1 i

-- one more is forgotten
pub forgotten : (q : ℕ) (ns os : List Stamped) (i : ℕ) (d new : Stamped) → i < length ns
    → i < length os → drop i ns ≡ drop i os
    → numbered_in 1 (take i ns) ≡ cleared (numbered_in q (take i os))
    → AreStamped 1 (take i ns)
    → numbered_at 1 new ≡ without_multiplier (numbered_at q (get_or ns i d)) → IsStamped 1 new
    → (numbered_in 1 (take (i + 1) (set ns i new)) ≡ cleared (numbered_in q (take (i + 1) os)))
    × (drop (i + 1) (set ns i new) ≡ drop (i + 1) os)
    × AreStamped 1 (take (i + 1) (set ns i new))
forgotten q ns os i d new lt lo same before stamped one stamp =
    let next : suc i ≡ i + 1 = omega arith in
    let both : get_or ns i d ∷ drop (suc i) ns ≡ get_or os i d ∷ drop (suc i) os =
    sym (drop-cons ns i d lt) ∙ same ∙ drop-cons os i d lo in
    let head : get_or ns i d ≡ get_or os i d = ap (λ l. get_or l 0 d) both in
    let rest : drop (i + 1) ns ≡ drop (i + 1) os =
    subst (λ n. drop n ns ≡ drop n os) next (ap (λ l. drop 1 l) both) in
    let now : numbered_in 1 (take (i + 1) (set ns i new))
    ≡ numbered_in 1 (take i ns) ++ numbered_at 1 new ∷ [] =
    ap (numbered_in 1) (take_more_set ns i new lt)
    ∙ map-append (numbered_at 1) (take i ns) (new ∷ []) in
    let after : cleared (numbered_in q (take (i + 1) os))
    ≡ cleared (numbered_in q (take i os))
    ++ without_multiplier (numbered_at q (get_or os i d)) ∷ [] =
    ap (λ l. cleared (numbered_in q l)) (take_more os i d lo)
    ∙ ap cleared (map-append (numbered_at q) (take i os) (get_or os i d ∷ []))
    ∙ map-append without_multiplier (numbered_in q (take i os))
    (numbered_at q (get_or os i d) ∷ []) in (
      now ∙ (λ j. before j ++ one j ∷ [])
          ∙ ap (λ x. cleared (numbered_in q (take i os))
          ++ without_multiplier (numbered_at q x) ∷ []) head
          ∙ sym after,
      drop-set-lt (i + 1) ns i new (omega arith) ∙ rest,
      subst (AreStamped 1) (sym (take_more_set ns i new lt))
          (All-from_recursion (IsStamped 1) (take i ns ++ new ∷ [])
          (all_push (IsStamped 1) (take i ns) new
          (recursion_from_All (IsStamped 1) (take i ns) stamped) stamp)),
    )

-- by its number
pub found : (ns : List Stamped) (j : ℕ) (n : Stamped) → 0 < j → j ≤ length ns
    → n ≡ get_or ns (j - 1) n
    → (p : ℕ) → at_number (numbered_in p ns) j ≡ Some (numbered_at p n)
found ns zero n lt le is p = absurd (omega (arith, lt))
found ns (suc j) n lt le is p =
    slice_get-map (numbered_at p) ns j
    ∙ ap (option_map (numbered_at p)) (slice_get-get_or ns j n (omega (arith, le)))
    ∙ ap (λ x. Some (numbered_at p x))
    (ap (λ k. get_or ns k n) (let e : j ≡ suc j - 1 = omega arith in e) ∙ sym is)

-- less w times the fact of what has a number
pub less_is : (w j : ℕ) (s : Forms) (n : Numbered) → at_number s.numbered j ≡ Some n
    → less_numbered w j s ≡ record s {
      form = less_item w n s.form;
      numbered = slice_set s.numbered (j - 1) (cited w n);
      terms = s.terms + numbered_size n;
    }
less_is w j s n e = rw e refl
