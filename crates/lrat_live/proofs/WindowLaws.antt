-- Recent clauses that are moved on, and literals that move down.
use Rattle.std.proofs.Common.{◌≡◌, ℕ, zero, suc, ◌+◌, ◌-◌, ◌<◌, ◌≤◌, true, false, List, []}
use Rattle.std.proofs.Common.{◌∷◌, ◌++◌, length, get_or, take, drop, set, sym, ◌∙◌, ap, subst}
use Rattle.std.proofs.Common.{arith}
use Rattle.std.specs.Prelude.{All}
use Rattle.std.specs.List.{AllByRecursion}
use Rattle.std.proofs.lemmas.Bool.{false≢true}
use Rattle.std.proofs.lemmas.List.{take-append-drop, take-set, drop-set, drop-set-lt, drop_more}
use Rattle.std.proofs.lemmas.List.{take_more, take_more_set, length-take-le, length-set}
use Rattle.std.proofs.lemmas.List.{append_assoc, take_at, drop_at, length-drop, drop-drop}
use Rattle.std.proofs.lemmas.List.{take-take}
use Rattle.std.proofs.lemmas.List.Edits.{drop-paste, length-paste}
use Rattle.std.proofs.lemmas.List.Elements.{All-nil, All-cons}
use lib.Seq.{paste}
use Rattle.cnf.specs.Literal.{Literal}
use Rattle.lrat_live.specs.Listed.{Listed, ids_of, IsRising}
use Rattle.lrat_live.specs.Near.{is_live, literals_at, spanned, AreSpread}
use Rattle.lrat_live.specs.Near.{AreWithin}
use Rattle.lrat_live.specs.declared.spans.LiveSpan.{LiveSpan}
use Rattle.lrat_live.proofs.Listed.{Rises, rises_from}
use Rattle.lrat_live.proofs.SpanLaws.{spanned-append, spanned_live, spanned_dead, spanned_below}
use Rattle.lrat_live.proofs.SpanLaws.{spanned_above, spread_le, spread_down, spread-append}
use Rattle.lrat_live.proofs.SpanLaws.{spread_within, end_live, end_dead}

-- ids below that of a later clause
pub below_later : (xs ys : Listed) (e : ℕ × List Literal) → IsRising (xs ++ e ∷ ys)
    → All (λ (x : ℕ × List Literal). x.0 < e.0) xs
below_later xs ys e r = below xs ys e (rises_from (xs ++ e ∷ ys) r)
  where
    above : (x : ℕ) (xs ys : Listed) (e : ℕ × List Literal)
        → AllByRecursion (λ y. x < y) (ids_of (xs ++ e ∷ ys)) → x < e.0
    above x [] ys e a = a.0
    above x (z ∷ xs) ys e a = above x xs ys e a.1

    below : (xs ys : Listed) (e : ℕ × List Literal) → Rises (ids_of (xs ++ e ∷ ys))
        → All (λ (x : ℕ × List Literal). x.0 < e.0) xs
    below [] ys e r = All-nil (λ (x : ℕ × List Literal). x.0 < e.0)
    below (x ∷ xs) ys e r =
        All-cons (λ (x : ℕ × List Literal). x.0 < e.0) x xs (above x.0 xs ys e r.0)
        (below xs ys e r.1)

-- the spans before a place, and those from it on
split : (ls : List Literal) (n : ℕ) (ss : List LiveSpan) (i : ℕ) (ys : List LiveSpan)
    → i ≤ length ss
    → drop i ss ≡ ys → spanned ls n ss ≡ spanned ls n (take i ss) ++ spanned ls (n + i) ys
split ls n ss i ys h e =
    ap (spanned ls n) (sym (take-append-drop i ss)) ∙ spanned-append ls n (take i ss) (drop i ss)
    ∙ ap (λ m. spanned ls n (take i ss) ++ spanned ls (n + m) (drop i ss)) (length-take-le i ss h)
    ∙ ap (λ zs. spanned ls n (take i ss) ++ spanned ls (n + i) zs) e

split_set : (ls : List Literal) (n : ℕ) (ss : List LiveSpan) (i : ℕ) (x : LiveSpan) → i < length ss
    → spanned ls n (set ss i x)
    ≡ spanned ls n (take i ss) ++ spanned ls (n + i) (x ∷ drop (i + 1) ss)
split_set ls n ss i x h =
    split ls n (set ss i x) i (x ∷ drop (i + 1) ss) (omega (arith, length-set ss i x))
    (drop-set ss i x h)
    ∙ ap (λ zs. spanned ls n zs ++ spanned ls (n + i) (x ∷ drop (i + 1) ss)) (take-set ss i x)

-- the first live clause is taken out
module _ (ls : List Literal) (n : ℕ) (ss : List LiveSpan) (i : ℕ) (d : LiveSpan) (h : i < length ss)
    (none : spanned ls n (take i ss) ≡ []) where
  pub first_live : is_live (get_or ss i d) ≡ true
      → spanned ls n ss ≡ (n + i, literals_at ls (get_or ss i d))
      ∷ spanned ls (n + i + 1) (drop (i + 1) ss)
  first_live live =
      split ls n ss i (get_or ss i d ∷ drop (i + 1) ss) (omega arith) (drop_more ss i d h)
      ∙ ap (λ es. es ++ spanned ls (n + i) (get_or ss i d ∷ drop (i + 1) ss)) none
      ∙ spanned_live ls (n + i) (get_or ss i d) (drop (i + 1) ss) live

  pub first_out : (x : LiveSpan) → is_live x ≡ false
      → spanned ls n (set ss i x) ≡ spanned ls (n + i + 1) (drop (i + 1) ss)
  first_out x dead =
      split_set ls n ss i x h
      ∙ ap (λ es. es ++ spanned ls (n + i) (x ∷ drop (i + 1) ss)) none
      ∙ spanned_dead ls (n + i) x (drop (i + 1) ss) dead

  pub moved_one : (far now : Listed) (x : LiveSpan) → is_live (get_or ss i d) ≡ true
      → is_live x ≡ false → now ≡ far ++ (n + i, literals_at ls (get_or ss i d)) ∷ []
      → now ++ spanned ls n (set ss i x) ≡ far ++ spanned ls n ss
  moved_one far now x live dead e =
      ap (λ es. es ++ spanned ls n (set ss i x)) e
      ∙ ap (λ es. (far ++ (n + i, literals_at ls (get_or ss i d)) ∷ []) ++ es) (first_out x dead)
      ∙ append_assoc far ((n + i, literals_at ls (get_or ss i d)) ∷ [])
      (spanned ls (n + i + 1) (drop (i + 1) ss))
      ∙ ap (λ es. far ++ es) (sym (first_live live))

  pub none_out : (x : LiveSpan) → is_live x ≡ false → spanned ls n (take (i + 1) (set ss i x)) ≡ []
  none_out x dead =
      ap (spanned ls n) (take_more_set ss i x h) ∙ spanned-append ls n (take i ss) (x ∷ [])
      ∙ ap (λ es. es ++ spanned ls (n + length (take i ss)) (x ∷ [])) none
      ∙ spanned_dead ls (n + length (take i ss)) x [] dead

  pub none_dead : is_live (get_or ss i d) ≡ false → spanned ls n (take (i + 1) ss) ≡ []
  none_dead dead =
      ap (spanned ls n) (take_more ss i d h)
      ∙ spanned-append ls n (take i ss) (get_or ss i d ∷ [])
      ∙ ap (λ es. es ++ spanned ls (n + length (take i ss)) (get_or ss i d ∷ [])) none
      ∙ spanned_dead ls (n + length (take i ss)) (get_or ss i d) [] dead

pub within_set : (ss : List LiveSpan) (most k : ℕ) (x : LiveSpan) → is_live x ≡ false
    → AreWithin ss most
    → AreWithin (set ss k x) most
within_set [] most k x dead h p d l t = h p d l t
within_set (s ∷ ss) most zero x dead h zero d l t = absurd (false≢true (sym dead ∙ t))
within_set (s ∷ ss) most zero x dead h (suc p) d l t = h (suc p) d (omega arith) t
within_set (s ∷ ss) most (suc k) x dead h zero d l t = h 0 d (omega arith) t
within_set (s ∷ ss) most (suc k) x dead h (suc p) d l t =
    within_set ss most k x dead (λ q e m u. h (suc q) e (omega arith) u) p d (omega arith) t

-- literals that move down to where the clauses before them end
module _ (ls : List Literal) (ss : List LiveSpan) (i end : ℕ) (d : LiveSpan) (h : i < length ss)
    (rest : AreSpread end (drop i ss) (length ls)) where
  here : AreSpread end (get_or ss i d ∷ drop (i + 1) ss) (length ls)
  here = subst (λ xs. AreSpread end xs (length ls)) (drop_more ss i d h) rest

  pub rest_dead : is_live (get_or ss i d) ≡ false → AreSpread end (drop (i + 1) ss) (length ls)
  rest_dead dead =
      subst (λ m. AreSpread m (drop (i + 1) ss) (length ls)) (end_dead end (get_or ss i d) dead)
      here.1

  pub front_dead : (from : ℕ) → is_live (get_or ss i d) ≡ false → AreSpread from (take i ss) end
      → AreSpread from (take (i + 1) ss) end
  front_dead from dead front =
      subst (λ xs. AreSpread from xs end) (sym (take_more ss i d h))
      (spread-append from (take i ss) (get_or ss i d ∷ []) end end front (
        λ t. absurd (false≢true (sym dead ∙ t)),
        omega (arith, end_dead end (get_or ss i d) dead),
      ))

  module _ (live : is_live (get_or ss i d) ≡ true) where
    later : AreSpread ((get_or ss i d).start + (get_or ss i d).length) (drop (i + 1) ss) (length ls)
    later =
        subst (λ m. AreSpread m (drop (i + 1) ss) (length ls)) (end_live end (get_or ss i d) live)
        here.1

    pub is_above : end ≤ (get_or ss i d).start
    is_above = here.0 live

    pub is_within : (get_or ss i d).start + (get_or ss i d).length ≤ length ls
    is_within =
        spread_le ((get_or ss i d).start + (get_or ss i d).length) (drop (i + 1) ss) (length ls)
        later

    module _ (ms : List Literal) (count : ℕ) (x : LiveSpan)
        (counts : count ≡ (get_or ss i d).length)
        (moved : ms ≡ paste ls end (drop (get_or ss i d).start ls) count)
        (start : x.start ≡ end) (long : x.length ≡ count) (lives : is_live x ≡ true) where
      room : count ≤ length (drop (get_or ss i d).start ls)
      room = omega (arith, counts, is_within, length-drop (get_or ss i d).start ls)

      fits : end + count ≤ length ls
      fits = omega (arith, counts, is_within, is_above)

      regroup : ms ≡ take end ls
          ++ (take count (drop (get_or ss i d).start ls) ++ drop (end + count) ls)
      regroup =
          moved
          ∙ append_assoc (take end ls) (take count (drop (get_or ss i d).start ls))
          (drop (end + count) ls)

      front_long : length (take end ls) ≡ end
      front_long = length-take-le end ls (omega (arith, fits))

      below_end : take end ms ≡ take end ls
      below_end =
          ap (take end) regroup
          ∙ take_at (take end ls)
          (take count (drop (get_or ss i d).start ls) ++ drop (end + count) ls) end front_long

      pub below_kept : (from : ℕ) → from ≤ end → take from ms ≡ take from ls
      below_kept from le =
          sym (take-take from end ms le) ∙ ap (take from) below_end ∙ take-take from end ls le

      moved_literals : literals_at ms x ≡ literals_at ls (get_or ss i d)
      moved_literals =
          let k : x.start + x.length - x.start ≡ count = omega (arith, long) in
          let j : (get_or ss i d).start + (get_or ss i d).length - (get_or ss i d).start ≡ count =
          omega (arith, counts) in
          let part : drop x.start ms
          ≡ take count (drop (get_or ss i d).start ls) ++ drop (end + count) ls =
          ap (λ m. drop m ms) start ∙ ap (drop end) regroup
          ∙ drop_at (take end ls)
          (take count (drop (get_or ss i d).start ls) ++ drop (end + count) ls) end front_long in
          ap (λ m. take m (drop x.start ms)) k ∙ ap (take count) part
          ∙ take_at (take count (drop (get_or ss i d).start ls)) (drop (end + count) ls) count
          (length-take-le count (drop (get_or ss i d).start ls) room)
          ∙ ap (λ m. take m (drop (get_or ss i d).start ls)) (sym j)

      above_same : drop ((get_or ss i d).start + (get_or ss i d).length) ms
          ≡ drop ((get_or ss i d).start + (get_or ss i d).length) ls
      above_same =
          let k : end + count + ((get_or ss i d).start - end)
          ≡ (get_or ss i d).start + (get_or ss i d).length =
          omega (arith, counts, is_above) in
          let same : drop (end + count) ms ≡ drop (end + count) ls =
          ap (drop (end + count)) moved
          ∙ drop-paste ls end (drop (get_or ss i d).start ls) count (omega (arith, fits)) room in
          ap (λ m. drop m ms) (sym k)
          ∙ sym (drop-drop ((get_or ss i d).start - end) (end + count) ms)
          ∙ ap (drop ((get_or ss i d).start - end)) same
          ∙ drop-drop ((get_or ss i d).start - end) (end + count) ls ∙ ap (λ m. drop m ls) k

      pub long_kept : length ms ≡ length ls
      long_kept =
          ap length moved ∙ length-paste ls end (drop (get_or ss i d).start ls) count fits room

      pub front_moved : (from : ℕ) → AreSpread from (take i ss) end
          → AreSpread from (take (i + 1) (set ss i x)) (end + count)
      front_moved from front =
          subst (λ xs. AreSpread from xs (end + count)) (sym (take_more_set ss i x h))
          (spread-append from (take i ss) (x ∷ []) end (end + count) front (
            λ t. omega (arith, start),
            omega (arith, end_live end x lives, start, long),
          ))

      pub rest_moved : AreSpread (end + count) (drop (i + 1) (set ss i x)) (length ms)
      rest_moved =
          subst (λ m. AreSpread (end + count) (drop (i + 1) (set ss i x)) m) (sym long_kept)
          (subst (λ xs. AreSpread (end + count) xs (length ls))
          (sym (drop-set-lt (i + 1) ss i x (omega arith)))
          (spread_down (end + count) ((get_or ss i d).start + (get_or ss i d).length)
          (drop (i + 1) ss) (length ls) (omega (arith, counts, is_above)) later))

      pub clauses_moved : (from n : ℕ) → AreSpread from (take i ss) end
          → spanned ms n (set ss i x) ≡ spanned ls n ss
      clauses_moved from n front =
          let before : spanned ms n (take i ss) ≡ spanned ls n (take i ss) =
          spanned_below ms ls n (take i ss) end (spread_within from (take i ss) end front)
          below_end in
          let behind : spanned ms (n + i + 1) (drop (i + 1) ss)
          ≡ spanned ls (n + i + 1) (drop (i + 1) ss) =
          spanned_above ms ls (n + i + 1)
          ((get_or ss i d).start + (get_or ss i d).length) (drop (i + 1) ss) (length ls) later
          above_same in
          let one : spanned ms (n + i) (x ∷ drop (i + 1) ss)
          ≡ spanned ls (n + i) (get_or ss i d ∷ drop (i + 1) ss) =
          spanned_live ms (n + i) x (drop (i + 1) ss) lives
          ∙ ap (λ c. (n + i, c) ∷ spanned ms (n + i + 1) (drop (i + 1) ss)) moved_literals
          ∙ ap (λ es. (n + i, literals_at ls (get_or ss i d)) ∷ es) behind
          ∙ sym (spanned_live ls (n + i) (get_or ss i d) (drop (i + 1) ss) live) in
          split_set ms n ss i x h
          ∙ ap (λ es. es ++ spanned ms (n + i) (x ∷ drop (i + 1) ss)) before
          ∙ ap (λ es. spanned ls n (take i ss) ++ es) one
          ∙ sym (split ls n ss i (get_or ss i d ∷ drop (i + 1) ss) (omega arith)
          (drop_more ss i d h))

-- literals past the last span are dropped
pub clauses_cut : (ls : List Literal) (ss : List LiveSpan) (from end n : ℕ) → AreSpread from ss end
    → spanned (take end ls) n ss ≡ spanned ls n ss
clauses_cut ls ss from end n spread =
    spanned_below (take end ls) ls n ss end (spread_within from ss end spread)
    (take-take end end ls (omega arith))
