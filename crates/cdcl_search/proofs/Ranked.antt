-- The two highest levels of a clause's literals, and the level at which it may be attached.
use Rattle.std.proofs.Common.{◌≡◌, ℕ, ◌<◌, ◌≤◌, true, false, List, [], ◌∷◌, ◌++◌, Option, Some}
use Rattle.std.proofs.Common.{None, Bool, if◌then◌else◌, length, take, get_or, refl, sym, ap, subst}
use Rattle.std.proofs.Common.{◌∙◌, arith, inl, inr, zero, suc}
use mathlib.Core.Bool.{beq, not}
use Rattle.std.specs.Option.{option_eq}
use Rattle.std.proofs.lemmas.Bool.{false≢true, both_ways, cases_Bool, or_from, or_parts}
use Rattle.std.proofs.lemmas.Option.{same_Some}
use Rattle.cnf.specs.Literal.{Literal, negation, literal_eq}
use Rattle.cnf.specs.Clause.{contains_literal, has_repeat}
use Rattle.cnf.specs.Refute.{IsUnit, IsFalseUnder}
use Rattle.cnf.proofs.Laws.{contains_front, member_pushed, literal_eq_ne}
use Rattle.propagate.specs.Trail.{Assigned, literals_of, kept_to, depth_of, level_in, level_of}
use Rattle.propagate.specs.Trail.{value_in}
use Rattle.propagate.proofs.Laws.{kept_low, kept_kept, kept_prefix, literals-append, contains_at}
use Rattle.propagate.proofs.Laws.{level_from-le}
use Rattle.analyze.proofs.Laws.{level_is, open_below, two_open}
use Rattle.cdcl_search.specs.Levelling.{IsOpenBelow, IsPlaceable, HasOpen, HasTwoOpen, Ranks}

-- a literal that is not false
never_false : (T : List Assigned) (l : Literal) (m : ℕ)
    → contains_literal (negation l) (literals_of T) ≡ false → IsOpenBelow T l m
never_false T l m h = λ k lt.
    let w = kept_prefix k T in
    (elim (cases_Bool (contains_literal (negation l) (literals_of (kept_to k T))))
    as (λ _. contains_literal (negation l) (literals_of (kept_to k T)) ≡ false) [
      | inl t ↦
          let whole : contains_literal (negation l) (literals_of T) ≡ true =
          ap (λ X. contains_literal (negation l) (literals_of X)) w.1
          ∙ ap (contains_literal (negation l)) (literals-append (kept_to k T) w.0)
          ∙ contains_front (negation l) (literals_of (kept_to k T)) (literals_of w.0) t in
          absurd (both_ways _ h whole)
      | inr n ↦ n
    ])

-- what a test of a value says of the trail
said_true : (a b : Bool) → false ≡ not (option_eq beq (if a then Some true
    else if b then Some false else None) (Some true)) → a ≡ true
said_true true b e = refl
said_true false true e = absurd (false≢true e)
said_true false false e = absurd (false≢true e)

said_other : (a b : Bool) → true ≡ not (option_eq beq (if a then Some true
    else if b then Some false else None) (Some true)) → a ≡ false
said_other true b e = absurd (false≢true (sym e))
said_other false true e = refl
said_other false false e = refl

-- one that became false at a level
false_at : (T : List Assigned) (l : Literal) (m : ℕ)
    → contains_literal (negation l) (literals_of T) ≡ true → level_in T l.variable ≡ Some m
    → IsOpenBelow T l m × (m ≤ depth_of T)
false_at T l m h e =
    let f : Some m ≡ Some (level_of T l) = sym e ∙ level_is T l h in
    let same : m ≡ level_of T l = same_Some m (level_of T l) f in
    (λ k lt. (open_below T l k h (omega arith)).1, omega (arith, level_from-le 0 T l.variable m e))

-- literals of which it was asked whether their negations are true
pub open_asked : (T : List Assigned) (l : Literal) (v : Option Bool) (m : ℕ)
    → v ≡ value_in T (negation l) → true ≡ not (option_eq beq v (Some true))
    → IsOpenBelow T l m
open_asked T l v m asked other =
    let A = literals_of T in
    never_false T l m
    (said_other (contains_literal (negation l) A) (contains_literal (negation (negation l)) A)
    (other ∙ ap (λ x. not (option_eq beq x (Some true))) asked))

pub false_asked : (T : List Assigned) (l : Literal) (v : Option Bool) (m : ℕ)
    → v ≡ value_in T (negation l) → false ≡ not (option_eq beq v (Some true))
    → level_in T l.variable ≡ Some m → IsOpenBelow T l m × (m ≤ depth_of T)
false_asked T l v m asked is =
    let A = literals_of T in
    false_at T l m
    (said_true (contains_literal (negation l) A) (contains_literal (negation (negation l)) A)
    (is ∙ ap (λ x. not (option_eq beq x (Some true))) asked))

lower : (T : List Assigned) (l : Literal) (m n : ℕ) → IsOpenBelow T l m → n ≤ m → IsOpenBelow T l n
lower T l m n h le = λ k lt. h k (omega arith)

wider : (T : List Assigned) (c : List Literal) (l : Literal) (m : ℕ) → HasOpen T c m
    → HasOpen T (c ++ l ∷ []) m
wider T c l m h = record {
  literal = h.literal;
  stands = contains_front h.literal c (l ∷ []) h.stands;
  open_below = h.open_below;
}

another : (T : List Assigned) (c : List Literal) (l : Literal) (m n : ℕ) → HasOpen T c m
    → contains_literal l c ≡ false → n ≤ m → IsOpenBelow T l n → HasTwoOpen T (c ++ l ∷ []) n
another T c l m n h new le opened = record {
  one = h.literal;
  other = l;
  apart = λ e. both_ways _ new (ap (λ x. contains_literal x c) (sym e) ∙ h.stands);
  one_stands = contains_front h.literal c (l ∷ []) h.stands;
  other_stands = member_pushed l c;
  one_open = lower T h.literal m n h.open_below le;
  other_open = opened;
}

pub ranks_above : (T : List Assigned) (c : List Literal) (l : Literal) (m h s : ℕ) → Ranks T c h s
    → contains_literal l c ≡ false → m ≤ depth_of T → IsOpenBelow T l m → h ≤ m
    → Ranks T (c ++ l ∷ []) m h
ranks_above T c l m h s r new deep opened le = record {
  low = le;
  deep = deep;
  first = λ some. record { literal = l; stands = member_pushed l c; open_below = opened };
  both = λ some. another T c l h h (r.first some) new (omega arith) (lower T l m h opened le);
}

pub ranks_between : (T : List Assigned) (c : List Literal) (l : Literal) (m h s : ℕ) → Ranks T c h s
    → contains_literal l c ≡ false → IsOpenBelow T l m → m < h → Ranks T (c ++ l ∷ []) h m
ranks_between T c l m h s r new opened lt = record {
  low = omega arith;
  deep = r.deep;
  first = λ some. wider T c l h (r.first some);
  both = λ some. another T c l h m (r.first (omega arith)) new (omega arith) opened;
}

pub ranks_below : (T : List Assigned) (c : List Literal) (l : Literal) (h s : ℕ) → Ranks T c h s
    → Ranks T (c ++ l ∷ []) h s
ranks_below T c l h s r = record {
  low = r.low;
  deep = r.deep;
  first = λ some. wider T c l h (r.first some);
  both = λ some.
      let b = r.both some in
      record {
        one = b.one;
        other = b.other;
        apart = b.apart;
        one_stands = contains_front b.one c (l ∷ []) b.one_stands;
        other_stands = contains_front b.other c (l ∷ []) b.other_stands;
        one_open = b.one_open;
        other_open = b.other_open;
      };
}

-- a literal at a place is none of those before
pub once_at : (c : List Literal) (i : ℕ) (d : Literal) → has_repeat c ≡ false → i < length c
    → contains_literal (get_or c i d) (take i c) ≡ false
once_at [] i d h lt = let bad : ⊥ = omega (arith, lt) in absurd bad
once_at (k ∷ c) zero d h lt = refl
once_at (k ∷ c) (suc i) d h lt =
    let p = or_parts (contains_literal k c) (has_repeat c) h in
    let low : i < length c = omega (arith, lt) in
    or_from (literal_eq (get_or c i d) k) (contains_literal (get_or c i d) (take i c))
    (literal_eq_ne (get_or c i d) k
    (λ e. both_ways _ p.0 (ap (λ x. contains_literal x c) (sym e) ∙ contains_at c i d low)))
    (once_at c i d p.1 low)

pub ranks_place : (T : List Assigned) (c : List Literal) (h s : ℕ) → Ranks T c h s
    → IsPlaceable T c s
ranks_place T c h s r = λ k lt.
    let b = r.both (omega arith) in
    two_open c (literals_of (kept_to k T)) b.one b.other b.apart b.one_stands b.other_stands
    (b.one_open k lt) (b.other_open k lt)

-- after going back to the level
pub placeable_kept : (T : List Assigned) (c : List Literal) (level : ℕ) → IsPlaceable T c level
    → IsPlaceable (kept_to level T) c (depth_of (kept_to level T))
placeable_kept T c level h = λ k lt.
    let low = kept_low level T in
    let below : k < level = omega arith in
    subst (λ X. (IsFalseUnder c (literals_of X) → ⊥)
    × ((l : Literal) → IsUnit c (literals_of X) l → ⊥)) (sym (kept_kept k level T (omega arith)))
    (h k below)
