-- Rows of which one is rewritten in place.
use Rattle.std.proofs.Common.{◌≡◌, ℕ, true, false, Bool, ◌+◌, ◌-◌, ◌<◌, ◌≤◌, List, [], ◌∷◌, ◌++◌}
use Rattle.std.proofs.Common.{map, take, drop, length, get_or, set, refl, sym, ◌∙◌, ap, arith, Some}
use Rattle.std.proofs.Common.{filter, get_or-set_same}
use Rattle.std.specs.Prelude.{slice_get}
use Rattle.std.proofs.lemmas.List.{append_assoc, get_or_default, length-append, length-take}
use Rattle.std.proofs.lemmas.List.{length-map, length-drop, set-set, set-get_or, length-set}
use Rattle.std.proofs.lemmas.List.{take_all, drop_all, append-nil, take_more_set, drop-set-lt}
use Rattle.std.proofs.lemmas.List.{take_more, get_or-drop}
use Rattle.std.proofs.lemmas.Grind.{drop_more_same}
use Rattle.std.proofs.lemmas.List.Edits.{map_over_more}
use Rattle.std.proofs.lemmas.List.Filters.{FiltersInPlace, FiltersInPlace-all}
use Rattle.std.proofs.lemmas.List.Filters.{FiltersInPlace-more_no, FiltersInPlace-more_set}
use Rattle.std.proofs.lemmas.Option.{get_or_from_slice_get, slice_get_within}
use Rattle.flat_rows.specs.Rows.{row_at, with_row, closed_row}

module _ {A : Type 0} where
  -- a row is written in rows of which it alone was written before
  pub row_same : (old new : List (List A)) (i : ℕ) (xs : List A) → i < length old
      → new ≡ with_row old i (row_at new i) → row_at (with_row new i xs) i ≡ xs
  row_same old new i xs lt same = let within : i < length new =
      omega (arith, ap length same, length-set old i (row_at new i)) in
      get_or-set_same new i xs [] within

  pub again_same : (old new : List (List A)) (i : ℕ) (xs : List A)
      → new ≡ with_row old i (row_at new i) → with_row new i xs ≡ with_row old i xs
  again_same old new i xs same = ap (λ rows. with_row rows i xs) same
      ∙ set-set old i (row_at new i) xs

  pub still_same : (old new : List (List A)) (i : ℕ) (xs : List A) → i < length old
      → new ≡ with_row old i (row_at new i)
      → with_row new i xs ≡ with_row old i (row_at (with_row new i xs) i)
  still_same old new i xs lt same = again_same old new i xs same
      ∙ ap (with_row old i) (sym (row_same old new i xs lt same))

  -- row i was filtered up to place `read`, and what was kept of it stands in its first places
  pub record IsSieved (p : A → Bool) (old new : List (List A)) (i write read : ℕ) : Type 0 where
    pub same : new ≡ with_row old i (row_at new i)
    pub filters : FiltersInPlace p (row_at old i) (row_at new i) write read
    pub behind : write ≤ read
    pub long : length (row_at new i) ≡ length (row_at old i)
    pub rows : length new ≡ length old

  pub sieved_none : (p : A → Bool) (old : List (List A)) (i : ℕ) → IsSieved p old old i 0 0
  sieved_none p old i = record {
    same = sym (set-get_or old i []);
    filters = record {
      front = refl;
      rest = refl;
      behind = omega arith;
      within = omega arith;
      long = refl;
    };
    behind = omega arith;
    long = refl;
    rows = refl;
  }

  module _ (p : A → Bool) (old new : List (List A)) (i write read : ℕ)
      (s : IsSieved p old new i write read) (x : A) where
    at : slice_get (row_at new i) read ≡ Some x → x ≡ get_or (row_at new i) read x
    at e = sym (get_or_from_slice_get (row_at new i) read x x e)

    pub sieved_kept : i < length old → read < length (row_at old i)
        → slice_get (row_at new i) read ≡ Some x → p x ≡ true
        → IsSieved p old (with_row new i (set (row_at new i) write x)) i (write + 1) (read + 1)
    sieved_kept lt within e passes =
        let xs : List A = set (row_at new i) write x in
        let here : row_at (with_row new i xs) i ≡ xs = row_same old new i xs lt s.same in
        let inside : read < length (row_at new i) = omega (arith, s.long) in
        record {
          same = still_same old new i xs lt s.same;
          filters = rw here (FiltersInPlace-more_set s.filters inside passes (at e));
          behind = omega (arith, s.behind);
          long = ap length here ∙ length-set (row_at new i) write x ∙ s.long;
          rows = length-set new i xs ∙ s.rows;
        }

    pub sieved_left : read < length (row_at old i) → slice_get (row_at new i) read ≡ Some x
        → p x ≡ false → IsSieved p old new i write (read + 1)
    sieved_left within e fails =
        let inside : read < length (row_at new i) = omega (arith, s.long) in
        record {
          same = s.same;
          filters = FiltersInPlace-more_no s.filters inside fails (at e);
          behind = omega (arith, s.behind);
          long = s.long;
          rows = s.rows;
        }

  pub sieved_all : (p : A → Bool) (old new : List (List A)) (i write read : ℕ)
      → IsSieved p old new i write read → length (row_at old i) ≤ read
      → with_row new i (take write (row_at new i)) ≡ with_row old i (filter p (row_at old i))
  sieved_all p old new i write read s le = again_same old new i (take write (row_at new i)) s.same
      ∙ ap (with_row old i) (FiltersInPlace-all s.filters le)

  -- `moved` entries of row i from place `read` on were moved down to place `write`
  pub record IsClosing (old new : List (List A)) (i write read moved : ℕ) : Type 0 where
    pub same : new ≡ with_row old i (row_at new i)
    pub front : take (write + moved) (row_at new i) ≡ take write (row_at old i) ++ take moved
        (drop read (row_at old i))
    pub rest : drop (read + moved) (row_at new i) ≡ drop (read + moved) (row_at old i)
    pub long : length (row_at new i) ≡ length (row_at old i)
    pub rows : length new ≡ length old

  -- the same mapping at each place of row i up to `at`
  pub record IsMapped (f : A → A) (old new : List (List A)) (i at : ℕ) : Type 0 where
    pub same : new ≡ with_row old i (row_at new i)
    pub done : row_at new i ≡ map f (take at (row_at old i)) ++ drop at (row_at old i)
    pub long : length (row_at new i) ≡ length (row_at old i)
    pub rows : length new ≡ length old

  pub mapped_none : (f : A → A) (old : List (List A)) (i : ℕ) → IsMapped f old old i 0
  mapped_none f old i =
      record { same = sym (set-get_or old i []); done = refl; long = refl; rows = refl }

  pub mapped_more : (f : A → A) (old new : List (List A)) (i at : ℕ) → IsMapped f old new i at
      → (x : A) → i < length old → at < length (row_at old i) → slice_get (row_at new i) at ≡ Some x
      → IsMapped f old (with_row new i (set (row_at new i) at (f x))) i (at + 1)
  mapped_more f old new i at m x lt within e =
      let xs : List A = set (row_at new i) at (f x) in
      let here : row_at (with_row new i xs) i ≡ xs = row_same old new i xs lt m.same in
      record {
        same = still_same old new i xs lt m.same;
        done =
            here ∙ map_over_more f (row_at old i) (row_at new i) at x within m.done
            (sym (get_or_from_slice_get (row_at new i) at x x e));
        long = ap length here ∙ length-set (row_at new i) at (f x) ∙ m.long;
        rows = length-set new i xs ∙ m.rows;
      }

  pub mapped_all : (f : A → A) (old new : List (List A)) (i at : ℕ) → IsMapped f old new i at
      → length (row_at old i) ≤ at → new ≡ with_row old i (map f (row_at old i))
  mapped_all f old new i at m le =
      m.same
      ∙ ap (with_row old i) (m.done
      ∙ ap (λ l. map f l ++ drop at (row_at old i)) (take_all at (row_at old i) le)
      ∙ ap (λ l. map f (row_at old i) ++ l) (drop_all at (row_at old i) le)
      ∙ append-nil (map f (row_at old i)))

  module _ (old new : List (List A)) (i write read moved : ℕ)
      (s : IsClosing old new i write read moved) where
    pub closing_more : write ≤ read → i < length old → read + moved < length (row_at old i)
        → (x : A) → slice_get (row_at new i) (read + moved) ≡ Some x
        → IsClosing old (with_row new i (set (row_at new i) (write + moved) x)) i write read
        (moved + 1)
    closing_more order lt within x e =
        let row : List A = row_at new i in
        let was : List A = row_at old i in
        let xs : List A = set row (write + moved) x in
        let here : row_at (with_row new i xs) i ≡ xs = row_same old new i xs lt s.same in
        let inside : write + moved < length row = omega (arith, s.long) in
        let on : (write + moved) + 1 ≡ write + (moved + 1) = omega arith in
        let past : (read + moved) + 1 ≡ read + (moved + 1) = omega arith in
        let less : write + moved < (read + moved) + 1 = omega arith in
        let next : moved < length (drop read was) = omega (arith, length-drop read was) in
        let none : read + moved + 0 ≡ read + moved = omega arith in
        let read_now : x ≡ get_or row (read + moved) x =
        sym (get_or_from_slice_get row (read + moved) x x e) in
        let same_at : get_or row (read + moved) x ≡ get_or was (read + moved) x =
        sym (get_or-drop (read + moved) row 0 x ∙ ap (λ k. get_or row k x) none)
        ∙ ap (λ l. get_or l 0 x) s.rest ∙ get_or-drop (read + moved) was 0 x
        ∙ ap (λ k. get_or was k x) none in
        let was_at : x ≡ get_or (drop read was) moved x =
        read_now ∙ same_at ∙ sym (get_or-drop read was moved x) in
        record {
          same = still_same old new i xs lt s.same;
          front = ap (take (write + (moved + 1))) here ∙ ap (λ k. take k xs) (sym on)
              ∙ take_more_set row (write + moved) x inside ∙ ap (λ l. l ++ x ∷ []) s.front
              ∙ append_assoc (take write was) (take moved (drop read was)) (x ∷ [])
              ∙ ap (λ l. take write was ++ l) (ap (λ y. take moved (drop read was) ++ y ∷ []) was_at
              ∙ sym (take_more (drop read was) moved x next));
          rest = ap (drop (read + (moved + 1))) here ∙ ap (λ k. drop k xs) (sym past)
              ∙ drop-set-lt ((read + moved) + 1) row (write + moved) x less
              ∙ drop_more_same row was (read + moved) s.rest ∙ ap (λ k. drop k was) past;
          long = ap length here ∙ length-set row (write + moved) x ∙ s.long;
          rows = length-set new i xs ∙ s.rows;
        }

    pub closing_all : length (row_at old i) - read ≤ moved → moved ≤ length (row_at old i) - read
        → with_row new i (take (write + moved) (row_at new i)) ≡ with_row old i
        (closed_row write read (row_at old i))
    closing_all low high =
        let all : length (drop read (row_at old i)) ≤ moved =
        omega (arith, length-drop read (row_at old i)) in
        again_same old new i (take (write + moved) (row_at new i)) s.same
        ∙ ap (with_row old i) (s.front
        ∙ ap (λ l. take write (row_at old i) ++ l)
        (take_all moved (drop read (row_at old i)) all))

  pub closing_none : (old : List (List A)) (i write read : ℕ) → IsClosing old old i write read 0
  closing_none old i write read =
      let none : write + 0 ≡ write = omega arith in
      record {
        same = sym (set-get_or old i []);
        front = ap (λ k. take k (row_at old i)) none
            ∙ sym (append-nil (take write (row_at old i)));
        rest = refl;
        long = refl;
        rows = refl;
      }

-- the same of each row up to `i`, and now of that one
pub rows_more : {A : Type 0} (f : List A → List A) (old new : List (List A)) (i : ℕ)
    → i < length old → new ≡ map f (take i old) ++ drop i old
    → with_row new i (f (row_at new i)) ≡ map f (take (i + 1) old) ++ drop (i + 1) old
rows_more f old new i lt h =
    let long : length new ≡ length old =
    ap length h ∙ omega (
      arith,
      length-append (map f (take i old)) (drop i old),
      length-map (take i old) f,
      length-take i old,
      length-drop i old,
    ) in
    let within : i < length new = omega arith in
    map_over_more f old new i (row_at new i) lt h (get_or_default new i [] (row_at new i) within)

-- a row that is copied has one entry more of the other one
pub copied_more : {A : Type 0} (old new : List (List A)) (i n : ℕ) (xs : List A) (x : A)
    → i < length old → new ≡ with_row old i (take n xs) → slice_get xs n ≡ Some x
    → with_row new i (row_at new i ++ x ∷ []) ≡ with_row old i (take (n + 1) xs)
copied_more old new i n xs x lt same found =
    let there : row_at new i ≡ take n xs =
    ap (λ rows. row_at rows i) same ∙ get_or-set_same old i (take n xs) [] lt in
    ap (λ row. with_row new i (row ++ x ∷ [])) there
    ∙ ap (λ rows. with_row rows i (take n xs ++ x ∷ [])) same
    ∙ set-set old i (take n xs) (take n xs ++ x ∷ [])
    ∙ ap (λ y. with_row old i (take n xs ++ y ∷ [])) (sym (get_or_from_slice_get xs n x x found))
    ∙ ap (with_row old i) (sym (take_more xs n x (slice_get_within xs n x found)))
