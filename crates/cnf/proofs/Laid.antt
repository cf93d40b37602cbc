-- Pieces of a flat list, each of which lies where the one before it ends: what is read of them, and
-- what an added, a dropped and a moved one does.
use Rattle.std.proofs.Common.{◌≡◌, ℕ, zero, suc, ◌+◌, ◌-◌, ◌<◌, ◌≤◌, Bool, true, false, List, []}
use Rattle.std.proofs.Common.{◌∷◌, ◌++◌, length, get_or, take, drop, set, refl, sym, ◌∙◌, ap, subst}
use Rattle.std.proofs.Common.{arith, inl, inr}
use Rattle.std.specs.Prelude.{slice_range, if◌then◌else◌}
use Rattle.std.specs.List.{AllByRecursion}
use Rattle.std.proofs.lemmas.Bool.{cases_Bool}
use Rattle.std.proofs.lemmas.Grind.{common_steps}
use Rattle.std.proofs.lemmas.List.{take-take, drop-drop, take_at, drop_at, take_all, drop_more}
use Rattle.std.proofs.lemmas.List.{append_assoc, append-nil, length-take-le, take_more_set}
use Rattle.std.proofs.lemmas.List.{drop-set-lt, drop_all, length-drop}
use Rattle.std.proofs.lemmas.List.Edits.{take-paste, drop-paste, length-paste}
use Rattle.std.proofs.lemmas.Slice.{between_is}
use lib.Seq.{paste}

-- a range of a list that grew
pub range-append : {X : Type 0} (xs more : List X) (i n : ℕ) → i ≤ n → n ≤ length xs
    → slice_range (xs ++ more) i n ≡ slice_range xs i n
range-append xs more i n h k = Prim.grind (arith, common_steps)

pub range-appended : {X : Type 0} (xs more : List X) (i n : ℕ) → i ≡ length xs
    → n ≡ length xs + length more → slice_range (xs ++ more) i n ≡ more
range-appended xs more i n h k = Prim.grind (arith, common_steps)

-- a range by its place and its length, in two lists that agree there
abbrev part : {X : Type 0} → List X → ℕ → ℕ → List X
part xs from n = slice_range xs from (from + n)

part_drop : {X : Type 0} (xs : List X) (from n : ℕ) → part xs from n ≡ take n (drop from xs)
part_drop xs from n = let e : from + n - from ≡ n = omega arith in ap (λ k. take k (drop from xs)) e

part_take : {X : Type 0} (xs : List X) (from n : ℕ)
    → part xs from n ≡ drop from (take (from + n) xs)
part_take xs from n = between_is xs from (from + n)

part_below : {X : Type 0} (xs ys : List X) (to from n : ℕ) → from + n ≤ to → take to xs ≡ take to ys
    → part xs from n ≡ part ys from n
part_below xs ys to from n h e =
    let a : take (from + n) xs ≡ take (from + n) ys = sym (take-take (from + n) to xs h)
    ∙ ap (take (from + n)) e ∙ take-take (from + n) to ys h in
    part_take xs from n ∙ ap (drop from) a ∙ sym (part_take ys from n)

part_above : {X : Type 0} (xs ys : List X) (at from n : ℕ) → at ≤ from → drop at xs ≡ drop at ys
    → part xs from n ≡ part ys from n
part_above xs ys at from n h e =
    let s : at + (from - at) ≡ from = omega arith in
    let l : drop (from - at) (drop at xs) ≡ drop from xs = drop-drop (from - at) at xs
    ∙ ap (λ k. drop k xs) s in
    let m : drop (from - at) (drop at ys) ≡ drop from ys = drop-drop (from - at) at ys
    ∙ ap (λ k. drop k ys) s in
    part_drop xs from n ∙ ap (take n) (sym l ∙ ap (drop (from - at)) e ∙ m)
    ∙ sym (part_drop ys from n)

-- what an entry says: where its piece lies, whether it is still there, and what it is listed as
pub record Layout (C X V : Type 0) : Type 0 where
  pub start : C → ℕ
  pub length : C → ℕ
  pub live : C → Bool
  pub listed : C → List X → V

module _ {C X V : Type 0} (k : Layout C X V) where
  -- each piece lies where the one before it ends, from one place to another
  abbrev pub IsLaid : ℕ → List C → ℕ → Type 0
  IsLaid from [] to = from ≡ to
  IsLaid from (c ∷ cs) to = (k.start c ≡ from) × IsLaid (from + k.length c) cs to

  abbrev pub piece : List X → C → V
  piece xs c = k.listed c (slice_range xs (k.start c) (k.start c + k.length c))

  -- the pieces that are still there
  abbrev pub pieces : List X → List C → List V
  pieces xs [] = []
  pieces xs (c ∷ cs) = if k.live c then piece xs c ∷ pieces xs cs else pieces xs cs

  abbrev pub AllLive : List C → Type 0
  AllLive cs = AllByRecursion (λ c. k.live c ≡ true) cs

  -- where pieces lie
  pub laid_le : (from to : ℕ) (cs : List C) → IsLaid from cs to → from ≤ to
  laid_le from to [] h = omega arith
  laid_le from to (c ∷ cs) h = omega (arith, laid_le (from + k.length c) to cs h.1)

  pub laid_within : (from to : ℕ) (cs : List C) (i : ℕ) (d : C) → IsLaid from cs to → i < length cs
      → k.start (get_or cs i d) + k.length (get_or cs i d) ≤ to
  laid_within from to [] i d h l = absurd (omega arith)
  laid_within from to (c ∷ cs) zero d h l = omega (arith, laid_le (from + k.length c) to cs h.1)
  laid_within from to (c ∷ cs) (suc i) d h l =
      laid_within (from + k.length c) to cs i d h.1 (omega arith)

  pub laid_push : (from to : ℕ) (cs : List C) (c : C) → IsLaid from cs to → k.start c ≡ to
      → IsLaid from (cs ++ c ∷ []) (to + k.length c)
  laid_push from to [] c h e = (e ∙ sym h, ap (λ n. n + k.length c) h)
  laid_push from to (x ∷ cs) c h e = (h.0, laid_push (from + k.length x) to cs c h.1 e)

  pub laid_set : (from to : ℕ) (cs : List C) (i : ℕ) (c d : C) → IsLaid from cs to
      → k.start c ≡ k.start (get_or cs i d) → k.length c ≡ k.length (get_or cs i d)
      → IsLaid from (set cs i c) to
  laid_set from to [] i c d h e f = h
  laid_set from to (x ∷ cs) zero c d h e f =
      (e ∙ h.0, subst (λ n. IsLaid (from + n) cs to) (sym f) h.1)
  laid_set from to (x ∷ cs) (suc i) c d h e f =
      (h.0, laid_set (from + k.length x) to cs i c d h.1 e f)

  -- the pieces, entry by entry
  pub pieces_live : (xs : List X) (c : C) (cs : List C) → k.live c ≡ true
      → pieces xs (c ∷ cs) ≡ piece xs c ∷ pieces xs cs
  pieces_live xs c cs e = rw e refl

  pub pieces_dead : (xs : List X) (c : C) (cs : List C) → k.live c ≡ false
      → pieces xs (c ∷ cs) ≡ pieces xs cs
  pieces_dead xs c cs e = rw e refl

  pieces_same : (xs ys : List X) (c : C) (cs : List C) → piece xs c ≡ piece ys c
      → pieces xs cs ≡ pieces ys cs → pieces xs (c ∷ cs) ≡ pieces ys (c ∷ cs)
  pieces_same xs ys c cs e f =
      elim (cases_Bool (k.live c)) [
        | inl h ↦ pieces_live xs c cs h ∙ ap (λ v. v ∷ pieces xs cs) e
            ∙ ap (λ vs. piece ys c ∷ vs) f ∙ sym (pieces_live ys c cs h)
        | inr h ↦ pieces_dead xs c cs h ∙ f ∙ sym (pieces_dead ys c cs h)
      ]

  pub pieces_below : (xs ys : List X) (from to : ℕ) (cs : List C) → IsLaid from cs to
      → take to xs ≡ take to ys → pieces xs cs ≡ pieces ys cs
  pieces_below xs ys from to [] h e = refl
  pieces_below xs ys from to (c ∷ cs) h e =
      let l : k.start c + k.length c ≤ to = omega (arith, laid_le (from + k.length c) to cs h.1) in
      pieces_same xs ys c cs (ap (k.listed c) (part_below xs ys to (k.start c) (k.length c) l e))
      (pieces_below xs ys (from + k.length c) to cs h.1 e)

  pub pieces_above : (xs ys : List X) (at from to : ℕ) (cs : List C) → at ≤ from → IsLaid from cs to
      → drop at xs ≡ drop at ys → pieces xs cs ≡ pieces ys cs
  pieces_above xs ys at from to [] l h e = refl
  pieces_above xs ys at from to (c ∷ cs) l h e =
      pieces_same xs ys c cs
      (ap (k.listed c) (part_above xs ys at (k.start c) (k.length c) (omega (arith, h.0)) e))
      (pieces_above xs ys at (from + k.length c) to cs (omega arith) h.1 e)

  pub pieces-append : (xs : List X) (cs ds : List C)
      → pieces xs (cs ++ ds) ≡ pieces xs cs ++ pieces xs ds
  pieces-append xs [] ds = refl
  pieces-append xs (c ∷ cs) ds =
      elim (cases_Bool (k.live c)) [
        | inl h ↦ pieces_live xs c (cs ++ ds) h
            ∙ ap (λ vs. piece xs c ∷ vs) (pieces-append xs cs ds)
            ∙ ap (λ vs. vs ++ pieces xs ds) (sym (pieces_live xs c cs h))
        | inr h ↦ pieces_dead xs c (cs ++ ds) h ∙ pieces-append xs cs ds
            ∙ ap (λ vs. vs ++ pieces xs ds) (sym (pieces_dead xs c cs h))
      ]

  -- one more piece
  pub pieces_push : (xs more : List X) (cs : List C) (c : C) → IsLaid 0 cs (length xs)
      → k.start c ≡ length xs → k.length c ≡ length more → k.live c ≡ true
      → pieces (xs ++ more) (cs ++ c ∷ []) ≡ pieces xs cs ++ k.listed c more ∷ []
  pieces_push xs more cs c h at long live =
      let t : take (length xs) (xs ++ more) ≡ take (length xs) xs = take_at xs more (length xs) refl
      ∙ sym (take_all (length xs) xs (omega arith)) in
      let m : piece (xs ++ more) c ≡ k.listed c more =
      ap (k.listed c) (range-appended xs more (k.start c) (k.start c + k.length c) at
      (omega (arith, at, long))) in
      pieces-append (xs ++ more) cs (c ∷ [])
      ∙ ap (λ vs. vs ++ pieces (xs ++ more) (c ∷ []))
      (pieces_below (xs ++ more) xs 0 (length xs) cs h t)
      ∙ ap (λ vs. pieces xs cs ++ vs) (pieces_live (xs ++ more) c [] live ∙ ap (λ v. v ∷ []) m)

  live_push : (cs : List C) (c : C) → AllLive cs → k.live c ≡ true → AllLive (cs ++ c ∷ [])
  live_push [] c h e = (e, tt)
  live_push (x ∷ cs) c h e = (h.0, live_push cs c h.1 e)

  -- entries and their pieces are moved together: the first `kept` entries are those of the first i
  -- that are live, and the first `end` items are theirs
  pub record IsCompacting (xs : List X) (cs : List C) (kept end i : ℕ) (value : List V)
      : Type 0 where
    pub kept_le : kept ≤ i
    pub laid : IsLaid 0 (take kept cs) end
    pub live : AllLive (take kept cs)
    pub at : ℕ
    pub end_le : end ≤ at
    pub rest : IsLaid at (drop i cs) (length xs)
    pub pieces_are : pieces xs (take kept cs) ++ pieces xs (drop i cs) ≡ value

  module _ (xs : List X) (cs : List C) (kept end i : ℕ) (value : List V) (d : C)
      (s : IsCompacting xs cs kept end i value) (h : i < length cs) where
    abbrev c : C
    c = get_or cs i d

    next_entry : drop i cs ≡ c ∷ drop (i + 1) cs
    next_entry = drop_more cs i d h

    here : IsLaid s.at (c ∷ drop (i + 1) cs) (length xs)
    here = subst (λ es. IsLaid s.at es (length xs)) next_entry s.rest

    pub moved_within : (end ≤ k.start c) × (k.start c + k.length c ≤ length xs)
    moved_within = (
      omega (arith, here.0, s.end_le),
      omega (arith, here.0, laid_le (s.at + k.length c) (length xs) (drop (i + 1) cs) here.1),
    )

    pub compacting_dead : k.live c ≡ false → IsCompacting xs cs kept end (i + 1) value
    compacting_dead e =
        let skip : pieces xs (drop i cs) ≡ pieces xs (drop (i + 1) cs) = ap (pieces xs) next_entry
        ∙ pieces_dead xs c (drop (i + 1) cs) e in
        record {
          kept_le = omega (arith, s.kept_le);
          laid = s.laid;
          live = s.live;
          at = s.at + k.length c;
          end_le = omega (arith, s.end_le);
          rest = here.1;
          pieces_are = ap (λ vs. pieces xs (take kept cs) ++ vs) (sym skip) ∙ s.pieces_are;
        }

    -- the piece of c moves down to where those before end
    module _ (z : C) (live : k.live c ≡ true) (start : k.start z ≡ end)
        (long : k.length z ≡ k.length c) (lives : k.live z ≡ true) (same : (p : List X)
        → k.listed z p ≡ k.listed c p) where
      abbrev moved : List X
      moved = paste xs end (drop (k.start c) xs) (k.length c)

      fits : end ≤ length xs
      fits = omega (arith, moved_within.0, moved_within.1)

      room : k.length c ≤ length (drop (k.start c) xs)
      room = omega (arith, moved_within.1, length-drop (k.start c) xs)

      front_long : length (take end xs) ≡ end
      front_long = length-take-le end xs fits

      moved_front : take (end + k.length c) moved ≡ take end xs ++ take (k.length c)
          (drop (k.start c) xs)
      moved_front = take-paste xs end (drop (k.start c) xs) (k.length c) fits room

      below_same : take end moved ≡ take end xs
      below_same = sym (take-take end (end + k.length c) moved (omega arith))
          ∙ ap (take end) moved_front
          ∙ take_at (take end xs) (take (k.length c) (drop (k.start c) xs)) end front_long

      above_same : drop (end + k.length c) moved ≡ drop (end + k.length c) xs
      above_same = drop-paste xs end (drop (k.start c) xs) (k.length c) fits room

      moved_piece : piece moved z ≡ piece xs c
      moved_piece =
          let at_end : part moved end (k.length c) ≡ take (k.length c) (drop (k.start c) xs) =
          part_take moved end (k.length c) ∙ ap (drop end) moved_front
          ∙ drop_at (take end xs) (take (k.length c) (drop (k.start c) xs)) end front_long in
          let there : part moved (k.start z) (k.length z) ≡ part xs (k.start c) (k.length c) =
          rw (start, long) (at_end ∙ sym (part_drop xs (k.start c) (k.length c))) in
          ap (k.listed z) there ∙ same (part xs (k.start c) (k.length c))

      kept_pieces : pieces moved (take kept cs ++ z ∷ []) ≡ pieces xs (take kept cs)
          ++ piece xs c ∷ []
      kept_pieces =
          pieces-append moved (take kept cs) (z ∷ [])
          ∙ ap (λ vs. vs ++ pieces moved (z ∷ []))
          (pieces_below moved xs 0 end (take kept cs) s.laid below_same)
          ∙ ap (λ vs. pieces xs (take kept cs) ++ vs) (pieces_live moved z [] lives
          ∙ ap (λ v. v ∷ []) moved_piece)

      rest_pieces : pieces moved (drop (i + 1) cs) ≡ pieces xs (drop (i + 1) cs)
      rest_pieces =
          pieces_above moved xs (end + k.length c) (s.at + k.length c) (length xs) (drop (i + 1) cs)
          (omega (arith, s.end_le)) here.1 above_same

      all_pieces : pieces moved (take kept cs ++ z ∷ []) ++ pieces moved (drop (i + 1) cs) ≡ value
      all_pieces =
          let next : piece xs c ∷ pieces xs (drop (i + 1) cs) ≡ pieces xs (drop i cs) =
          sym (ap (pieces xs) next_entry ∙ pieces_live xs c (drop (i + 1) cs) live) in
          ap (λ vs. vs ++ pieces moved (drop (i + 1) cs)) kept_pieces
          ∙ ap (λ vs. pieces xs (take kept cs) ++ piece xs c ∷ [] ++ vs) rest_pieces
          ∙ append_assoc (pieces xs (take kept cs)) (piece xs c ∷ [])
          (pieces xs (drop (i + 1) cs)) ∙ ap (λ vs. pieces xs (take kept cs) ++ vs) next
          ∙ s.pieces_are

      pub compacting_live : IsCompacting moved (set cs kept z) (kept + 1) (end + k.length c)
          (i + 1) value
      compacting_live =
          let front : take (kept + 1) (set cs kept z) ≡ take kept cs ++ z ∷ [] =
          take_more_set cs kept z (omega (arith, s.kept_le)) in
          let back : drop (i + 1) (set cs kept z) ≡ drop (i + 1) cs =
          drop-set-lt (i + 1) cs kept z (omega (arith, s.kept_le)) in
          let long' : length moved ≡ length xs =
          length-paste xs end (drop (k.start c) xs) (k.length c)
          (omega (arith, moved_within.0, moved_within.1)) room in
          record {
            kept_le = omega (arith, s.kept_le);
            laid =
                rw front (subst (λ n. IsLaid 0 (take kept cs ++ z ∷ []) (end + n)) long
                (laid_push 0 end (take kept cs) z s.laid start));
            live = rw front (live_push (take kept cs) z s.live lives);
            at = s.at + k.length c;
            end_le = omega (arith, s.end_le);
            rest = rw (back, long') here.1;
            pieces_are = rw (front, back) all_pieces;
          }

  pub compacting_all : (xs : List X) (cs : List C) (kept end i : ℕ) (value : List V)
      → IsCompacting xs cs kept end i value → length cs ≤ i
      → (end ≤ length xs) × IsLaid 0 (take kept cs) (length (take end xs))
      × (pieces (take end xs) (take kept cs) ≡ value)
  compacting_all xs cs kept end i value s h =
      let none : drop i cs ≡ [] = drop_all i cs h in
      let at : s.at ≡ length xs = subst (λ es. IsLaid s.at es (length xs)) none s.rest in
      let within : end ≤ length xs = omega (arith, s.end_le) in
      let front : take end (take end xs) ≡ take end xs = take-take end end xs (omega arith) in
      let all : pieces xs (take kept cs) ++ pieces xs [] ≡ value =
      subst (λ es. pieces xs (take kept cs) ++ pieces xs es ≡ value) none s.pieces_are in (
        within,
        rw (length-take-le end xs within) s.laid,
        pieces_below (take end xs) xs 0 end (take kept cs) s.laid front
            ∙ sym (append-nil (pieces xs (take kept cs))) ∙ all,
      )
