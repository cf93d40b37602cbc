-- Rows that are laid in a block.
use Rattle.std.proofs.Common.{◌≡◌, ℕ, zero, suc, ◌+◌, ◌-◌, ◌^◌, ◌<◌, ◌≤◌, ◌⊎◌, ◌≢◌, List, [], ◌∷◌}
use Rattle.std.proofs.Common.{◌++◌, length, take, drop, get_or, refl, sym, ap, ◌∙◌, arith, inl, inr}
use Rattle.std.proofs.Common.{get_or-set_other, get_or-set_same, length-drop, length-append}
use Rattle.std.proofs.Common.{take-take, subst}
use Rattle.std.specs.Prelude.{replicate, slice_set, slice_range}
use Rattle.std.proofs.lemmas.List.{length-set, length-map, length-take-le, get_or-take, get_or-drop}
use Rattle.std.proofs.lemmas.List.{get_or-map, ext_get_or, map-set, set-get_or, get_or_read}
use Rattle.std.proofs.lemmas.Bool.{cases_eq}
use Rattle.std.proofs.Math.ListN.{get_or-append}
use Rattle.std.proofs.Math.Seq.{get_or-append_seam}
use Rattle.flat_rows.specs.Rows.{Roomed, room_at}
use Rattle.flat_rows.specs.RowLayout.{IsLaid, no_head, row_of, rows_of, rooms_of, roomed}
use Rattle.flat_rows.specs.declared.rows.RowHead.{RowHead}

-- two lists of one length that agree at each place
ext_any : {A : Type 0} (xs ys : List A) → length xs ≡ length ys
    → ((k : ℕ) (d : A) → k < length xs → get_or xs k d ≡ get_or ys k d) → xs ≡ ys
ext_any [] [] long same = refl
ext_any [] (y ∷ ys) long same = absurd (omega arith)
ext_any (x ∷ xs) ys long same = ext_get_or x (x ∷ xs) ys long (λ k lt. same k x lt)

pub at_range : {A : Type 0} (b : List A) (s n k : ℕ) (d : A) → k < n
    → get_or (slice_range b s (s + n)) k d ≡ get_or b (s + k) d
at_range b s n k d lt =
    let l : k < (s + n) - s = omega arith in
    get_or-take ((s + n) - s) (drop s b) k d l ∙ get_or-drop s b k d

pub long_range : {A : Type 0} (b : List A) (s n : ℕ) → s + n ≤ length b
    → length (slice_range b s (s + n)) ≡ n
long_range b s n h =
    let l : (s + n) - s ≤ length (drop s b) = omega (arith, length-drop s b) in
    length-take-le ((s + n) - s) (drop s b) l ∙ omega arith

pub range_set_outside : {A : Type 0} (b : List A) (p : ℕ) (e : A) (s n : ℕ) → s + n ≤ length b
    → (p < s) ⊎ (s + n ≤ p) → slice_range (slice_set b p e) s (s + n) ≡ slice_range b s (s + n)
range_set_outside b p e s n h out =
    let h' : s + n ≤ length (slice_set b p e) = rw length-set h in
    ext_get_or e _ _ (long_range (slice_set b p e) s n h' ∙ sym (long_range b s n h))
    (λ k lt.
    let l : k < n = omega (arith, long_range (slice_set b p e) s n h') in
    let other : s + k ≢ p = omega arith in
    at_range (slice_set b p e) s n k e l ∙ get_or-set_other b p (s + k) e e other
    ∙ sym (at_range b s n k e l))

pub range_set_inside : {A : Type 0} (b : List A) (i : ℕ) (e : A) (s n : ℕ) → s + n ≤ length b
    → i < n → slice_range (slice_set b (s + i) e) s (s + n)
    ≡ slice_set (slice_range b s (s + n)) i e
range_set_inside b i e s n h li =
    let h' : s + n ≤ length (slice_set b (s + i) e) = rw length-set h in
    let within : i < length (slice_range b s (s + n)) = omega (arith, long_range b s n h) in
    let there : s + i < length b = omega arith in
    ext_get_or e _ _ (long_range (slice_set b (s + i) e) s n h' ∙ sym (long_range b s n h)
    ∙ sym (length-set (slice_range b s (s + n)) i e))
    (λ k lt.
    let l : k < n = omega (arith, long_range (slice_set b (s + i) e) s n h') in
    at_range (slice_set b (s + i) e) s n k e l ∙ elim (cases_eq k i) [
      | inl same ↦ rw same (get_or-set_same b (s + i) e e there
          ∙ sym (get_or-set_same (slice_range b s (s + n)) i e e within))
      | inr other ↦
          let apart : s + k ≢ s + i = omega arith in
          get_or-set_other b (s + i) (s + k) e e apart ∙ sym (at_range b s n k e l)
          ∙ sym (get_or-set_other (slice_range b s (s + n)) i k e e other)
    ])

-- a write to a place of a row is seen in that row alone
pub rows_set : {A : Type 0} (b : List A) (rows : List RowHead) (used : ℕ) → IsLaid b rows used
    → (i k : ℕ) (e : A) → i < length rows → k < (get_or rows i no_head).length
    → rows_of (slice_set b ((get_or rows i no_head).start + k) e) rows ≡ slice_set (rows_of b rows)
    i (slice_set (get_or (rows_of b rows) i []) k e)
rows_set {A = A} b rows used laid i k e li lk =
    let p : ℕ = (get_or rows i no_head).start + k in
    let b' : List A = slice_set b p e in
    let fi = laid.filled i li in let ii = laid.inside i li in
    ext_get_or [] _ _ (length-map rows (row_of b')
    ∙ sym (length-set (rows_of b rows) i _ ∙ length-map rows (row_of b)))
    (λ j lt.
    let lj : j < length rows = omega (arith, length-map rows (row_of b')) in
    let fj = laid.filled j lj in let ij = laid.inside j lj in
    let fits : (get_or rows j no_head).start + (get_or rows j no_head).length ≤ length b =
    omega (arith, laid.used_fits) in
    get_or-map (row_of b') rows j no_head [] lj ∙ elim (cases_eq j i) [
      | inl same ↦
          let fiti : (get_or rows i no_head).start + (get_or rows i no_head).length ≤ length b =
          omega (arith, laid.used_fits) in
          let here : i < length (rows_of b rows) = omega (arith, length-map rows (row_of b)) in
          rw same (range_set_inside b k e (get_or rows i no_head).start
          (get_or rows i no_head).length fiti lk
          ∙ ap (λ r. slice_set r k e) (sym (get_or-map (row_of b) rows i no_head [] li))
          ∙ sym (get_or-set_same (rows_of b rows) i (slice_set (get_or (rows_of b rows) i []) k e)
          [] here))
      | inr other ↦
          let a = laid.apart j i lj li other in
          let out : (p < (get_or rows j no_head).start)
          ⊎ ((get_or rows j no_head).start + (get_or rows j no_head).length ≤ p) =
          elim a [ inl x ↦ inr (omega arith) | inr x ↦ inl (omega arith) ] in
          range_set_outside b p e (get_or rows j no_head).start
          (get_or rows j no_head).length fits out
          ∙ sym (get_or-set_other (rows_of b rows) i j _ [] other
          ∙ get_or-map (row_of b) rows j no_head [] lj)
    ])

-- a place in the room of a row stands in the block
room_fits : {A : Type 0} (b : List A) (rows : List RowHead) (used : ℕ) → IsLaid b rows used →
    (i : ℕ)
    → i < length rows → (r : RowHead) → r ≡ get_or rows i no_head → (k : ℕ) → k < r.room
    → (r.start + k < length b) × (r.start + k < 2 ^ 63)
room_fits b rows used laid i li r is k lt =
    let start = ap (λ (h : RowHead). h.start) is in
    let room = ap (λ (h : RowHead). h.room) is in (
      omega (arith, laid.inside i li, laid.used_fits, start, room, lt),
      omega (arith, laid.inside i li, laid.small, start, room, lt),
    )

-- `seen` is what the rows are to callers
module _ {A : Type 0} (b : List A) (rows : List RowHead) (seen : List (List A))
    (same : rows_of b rows ≡ seen) (i : ℕ) (lt : i < length seen) where
  -- a row has its head
  pub row_there : i < length rows
  row_there = omega (arith, length-map rows (row_of b), ap length same)

  -- the head of a row, as an index reads it
  pub head_read : (r : RowHead) → r ≡ get_or rows i r → r ≡ get_or rows i no_head
  head_read r read = get_or_read rows i r row_there read no_head

module _ {A : Type 0} (b : List A) (rows : List RowHead) (used : ℕ) (laid : IsLaid b rows used)
    (seen : List (List A)) (same : rows_of b rows ≡ seen) (i : ℕ) (lt : i < length seen) where
  -- the length of a row
  pub long_row : length (get_or seen i []) ≡ (get_or rows i no_head).length
  long_row =
      let li : i < length rows = row_there b rows seen same i lt in
      let fits : (get_or rows i no_head).start + (get_or rows i no_head).length ≤ length b =
      omega (arith, laid.used_fits, laid.filled i li, laid.inside i li) in
      ap (λ s. length (get_or s i [])) (sym same)
      ∙ ap length (get_or-map (row_of b) rows i no_head [] li)
      ∙ long_range b (get_or rows i no_head).start (get_or rows i no_head).length fits

  module _ (r : RowHead) (read : r ≡ get_or rows i r) where
    -- the place of an entry of a row stands in the block
    pub entry_fits : (k : ℕ) → k < length (get_or seen i [])
        → (r.start + k < length b) × (r.start + k < 2 ^ 63)
    entry_fits k lk =
        let li : i < length rows = row_there b rows seen same i lt in
        let is : r ≡ get_or rows i no_head = head_read b rows seen same i lt r read in
        room_fits b rows used laid i li r is k
        (omega (arith, laid.filled i li, long_row, ap (λ (h : RowHead). h.room) is, lk))

    -- so does the place behind its last one, where there is room left
    pub next_fits : r.length ≢ r.room
        → (r.start + r.length < length b) × (r.start + r.length < 2 ^ 63)
    next_fits left =
        let li : i < length rows = row_there b rows seen same i lt in
        let is : r ≡ get_or rows i no_head = head_read b rows seen same i lt r read in
        let filled : r.length ≤ r.room = rw is (laid.filled i li) in
        room_fits b rows used laid i li r is r.length (omega arith)

pub rows_truncate : {A : Type 0} (b : List A) (rows : List RowHead) (used : ℕ) → IsLaid b rows used
    → (i n : ℕ) (r : RowHead) → i < length rows → r.start ≡ (get_or rows i no_head).start
    → r.length ≡ n → n ≤ (get_or rows i no_head).length
    → rows_of b (slice_set rows i r) ≡ slice_set (rows_of b rows) i
    (take n (get_or (rows_of b rows) i []))
rows_truncate {A = A} b rows used laid i n r li same_start same_length le =
    let at : row_of b r ≡ take n (get_or (rows_of b rows) i []) =
    rw (same_start, same_length, get_or-map (row_of b) rows i no_head [] li)
    (shorter b (get_or rows i no_head).start n (get_or rows i no_head).length le) in
    map-set (row_of b) rows i r ∙ ap (λ x. slice_set (rows_of b rows) i x) at
  where
    shorter : (b : List A) (s n m : ℕ) → n ≤ m
        → slice_range b s (s + n) ≡ take n (slice_range b s (s + m))
    shorter b s n m le =
        let e : (s + n) - s ≡ n = omega arith in
        let f : (s + m) - s ≡ m = omega arith in
        rw (e, f) (sym (take-take n m (drop s b) le))

-- what is written past the end of a row, in its room, is seen in no row
pub rows_free : {A : Type 0} (b : List A) (rows : List RowHead) (used : ℕ) → IsLaid b rows used
    → (i p : ℕ) (e : A) → i < length rows
    → (get_or rows i no_head).start + (get_or rows i no_head).length ≤ p
    → p < (get_or rows i no_head).start + (get_or rows i no_head).room
    → rows_of (slice_set b p e) rows ≡ rows_of b rows
rows_free {A = A} b rows used laid i p e li low high =
    let b' : List A = slice_set b p e in
    ext_get_or [] _ _ (length-map rows (row_of b') ∙ sym (length-map rows (row_of b)))
    (λ j lt.
    let lj : j < length rows = omega (arith, length-map rows (row_of b')) in
    let fj = laid.filled j lj in let ij = laid.inside j lj in
    let fits : (get_or rows j no_head).start + (get_or rows j no_head).length ≤ length b =
    omega (arith, laid.used_fits) in
    let out : (p < (get_or rows j no_head).start)
    ⊎ ((get_or rows j no_head).start + (get_or rows j no_head).length ≤ p) =
    elim (cases_eq j i) [
      | inl same ↦ inr (rw same low)
      | inr other ↦ elim (laid.apart i j li lj (λ q. other (sym q))) [
        | inl x ↦ inl (omega arith)
        | inr x ↦ inr (omega arith)
      ]
    ] in
    get_or-map (row_of b') rows j no_head [] lj
    ∙ range_set_outside b p e (get_or rows j no_head).start (get_or rows j no_head).length fits out
    ∙ sym (get_or-map (row_of b) rows j no_head [] lj))

pub range_more : {A : Type 0} (b : List A) (s n : ℕ) (e : A) → s + n < length b
    → slice_range (slice_set b (s + n) e) s (s + (n + 1)) ≡ slice_range b s (s + n) ++ e ∷ []
range_more {A = A} b s n e lt =
    let b' : List A = slice_set b (s + n) e in
    let h' : s + (n + 1) ≤ length b' = rw length-set (omega arith) in
    let lr : length (slice_range b s (s + n)) ≡ n = long_range b s n (omega arith) in
    ext_get_or e _ _ (long_range b' s (n + 1) h'
    ∙ omega (arith, length-append (slice_range b s (s + n)) (e ∷ [])))
    (λ k l.
    let lk : k < n + 1 = omega (arith, long_range b' s (n + 1) h') in
    at_range b' s (n + 1) k e lk ∙ elim (cases_eq k n) [
      | inl same ↦ rw same (get_or-set_same b (s + n) e e lt
          ∙ sym (subst (λ (q : ℕ). get_or (slice_range b s (s + n) ++ e ∷ []) q e ≡ e) lr
          (get_or-append_seam (slice_range b s (s + n)) e [] e)))
      | inr other ↦
          let less : k < n = omega arith in
          let apart : s + k ≢ s + n = omega arith in
          get_or-set_other b (s + n) (s + k) e e apart ∙ sym (at_range b s n k e less)
          ∙ sym (get_or-append (slice_range b s (s + n)) (e ∷ []) e k (omega arith))
    ])

pub rows_put : {A : Type 0} (b : List A) (rows : List RowHead) (used : ℕ) → IsLaid b rows used
    → (i : ℕ) (e : A) (r : RowHead) → i < length rows
    → (get_or rows i no_head).length < (get_or rows i no_head).room
    → r.start ≡ (get_or rows i no_head).start → r.length ≡ (get_or rows i no_head).length + 1
    → rows_of (slice_set b ((get_or rows i no_head).start + (get_or rows i no_head).length) e)
    (slice_set rows i r) ≡ slice_set (rows_of b rows) i (get_or (rows_of b rows) i [] ++ e ∷ [])
rows_put {A = A} b rows used laid i e r li room same_start longer =
    let s : ℕ = (get_or rows i no_head).start in let n : ℕ = (get_or rows i no_head).length in
    let p : ℕ = s + n in
    let b' : List A = slice_set b p e in
    let fits : s + n < length b = omega (arith, laid.used_fits, laid.inside i li) in
    let row : row_of b' r ≡ get_or (rows_of b rows) i [] ++ e ∷ [] =
    rw (same_start, longer) (range_more b s n e fits
    ∙ ap (λ x. x ++ e ∷ []) (sym (get_or-map (row_of b) rows i no_head [] li))) in
    map-set (row_of b') rows i r
    ∙ rw (rows_free b rows used laid i p e li (omega arith) (omega arith), row) refl

-- a block that agrees on the part in use has the same rows
pub rows_same : {A : Type 0} (b b' : List A) (rows : List RowHead) (used : ℕ) → IsLaid b rows used
    → used ≤ length b' → ((k : ℕ) (d : A) → k < used → get_or b' k d ≡ get_or b k d)
    → rows_of b' rows ≡ rows_of b rows
rows_same b b' rows used laid room same =
    ext_get_or [] _ _ (length-map rows (row_of b') ∙ sym (length-map rows (row_of b)))
    (λ j lt.
    let lj : j < length rows = omega (arith, length-map rows (row_of b')) in
    let s : ℕ = (get_or rows j no_head).start in let n : ℕ = (get_or rows j no_head).length in
    let inside : s + n ≤ used = omega (arith, laid.filled j lj, laid.inside j lj) in
    let fits : s + n ≤ length b = omega (arith, laid.used_fits) in
    let fits' : s + n ≤ length b' = omega arith in
    get_or-map (row_of b') rows j no_head [] lj
    ∙ ext_any _ _ (long_range b' s n fits' ∙ sym (long_range b s n fits))
    (λ k d l.
    let lk : k < n = omega (arith, long_range b' s n fits') in
    at_range b' s n k d lk ∙ same (s + k) d (omega arith) ∙ sym (at_range b s n k d lk))
    ∙ sym (get_or-map (row_of b) rows j no_head [] lj))

module _ {A : Type 0} (b b' : List A) (rows : List RowHead) (used : ℕ) (laid : IsLaid b rows used)
    (i room : ℕ) (r : RowHead) (li : i < length rows)
    (at : r.start ≡ used) (same_length : r.length ≡ (get_or rows i no_head).length)
    (same_room : r.room ≡ room) (enough : (get_or rows i no_head).length ≤ room)
    (fits : used + room ≤ length b') (bounded : used + room < 2 ^ 63) where
  moved_filled : (j : ℕ) → j < length (slice_set rows i r)
      → (get_or (slice_set rows i r) j no_head).length
      ≤ (get_or (slice_set rows i r) j no_head).room
  moved_filled j lj =
      let l : j < length rows = omega (arith, length-set rows i r) in
      elim (cases_eq j i) [
        | inl same ↦ rw (same, get_or-set_same rows i r no_head li) (omega arith)
        | inr other ↦ rw (get_or-set_other rows i j r no_head other) (laid.filled j l)
      ]

  moved_inside : (j : ℕ) → j < length (slice_set rows i r)
      → (get_or (slice_set rows i r) j no_head).start + (get_or (slice_set rows i r) j no_head).room
      ≤ used + room
  moved_inside j lj =
      let l : j < length rows = omega (arith, length-set rows i r) in
      elim (cases_eq j i) [
        | inl same ↦ rw (same, get_or-set_same rows i r no_head li) (omega arith)
        | inr other ↦ rw (get_or-set_other rows i j r no_head other)
            (omega (arith, laid.inside j l))
      ]

  moved_apart : (j k : ℕ) → j < length (slice_set rows i r) → k < length (slice_set rows i r)
      → j ≢ k → ((get_or (slice_set rows i r) j no_head).start
      + (get_or (slice_set rows i r) j no_head).room
      ≤ (get_or (slice_set rows i r) k no_head).start)
      ⊎ ((get_or (slice_set rows i r) k no_head).start
      + (get_or (slice_set rows i r) k no_head).room
      ≤ (get_or (slice_set rows i r) j no_head).start)
  moved_apart j k lj lk ne =
      let l : j < length rows = omega (arith, length-set rows i r) in
      let m : k < length rows = omega (arith, length-set rows i r) in
      elim (cases_eq j i) [
        | inl same ↦
            let other : k ≢ i = λ q. ne (same ∙ sym q) in
            rw (
              same,
              get_or-set_same rows i r no_head li,
              get_or-set_other rows i k r no_head other,
            ) (inr (omega (arith, laid.inside k m)))
        | inr away ↦ elim (cases_eq k i) [
          | inl here ↦ rw (
            here,
            get_or-set_same rows i r no_head li,
            get_or-set_other rows i j r no_head away,
          ) (inl (omega (arith, laid.inside j l)))
          | inr other ↦ rw (
            get_or-set_other rows i j r no_head away,
            get_or-set_other rows i k r no_head other,
          ) (laid.apart j k l m ne)
        ]
      ]

  pub laid_moved : IsLaid b' (slice_set rows i r) (used + room)
  laid_moved =
      record {
        used_fits = fits;
        small = bounded;
        filled = moved_filled;
        inside = moved_inside;
        apart = moved_apart;
      }

  pub rows_moved : ((k : ℕ) (d : A) → k < used → get_or b' k d ≡ get_or b k d)
      → ((k : ℕ) (d : A) → k < (get_or rows i no_head).length
      → get_or b' (used + k) d ≡ get_or b ((get_or rows i no_head).start + k) d)
      → rows_of b' (slice_set rows i r) ≡ rows_of b rows
  rows_moved kept copied =
      let s : ℕ = (get_or rows i no_head).start in let n : ℕ = (get_or rows i no_head).length in
      let there : used + n ≤ length b' = omega arith in
      let here : s + n ≤ length b =
      omega (arith, laid.used_fits, laid.inside i li, laid.filled i li) in
      let row : row_of b' r ≡ get_or (rows_of b rows) i [] =
      rw (at, same_length) (ext_any (slice_range b' used (used + n))
      (slice_range b s (s + n)) (long_range b' used n there ∙ sym (long_range b s n here))
      (λ k d l.
      let lk : k < n = omega (arith, long_range b' used n there) in
      at_range b' used n k d lk ∙ copied k d lk ∙ sym (at_range b s n k d lk))
      ∙ sym (get_or-map (row_of b) rows i no_head [] li)) in
      map-set (row_of b') rows i r ∙ rw (rows_same b b' rows used laid (omega arith) kept, row)
      (set-get_or (rows_of b rows) i [])

pub rows_none : {A : Type 0} (b : List A) (n : ℕ) → rows_of b (replicate n no_head) ≡ replicate n []
rows_none b zero = refl
rows_none b (suc n) = ap (λ r. [] ∷ r) (rows_none b n)

-- what callers see of rows that are laid
pub seen_rows : {A : Type 0} (b : List A) (heads : List RowHead) (seen : Roomed A)
    → roomed b heads ≡ seen → rows_of b heads ≡ seen.rows
seen_rows {A = A} b heads seen e = ap (λ (s : Roomed A). s.rows) e

pub seen_rooms : {A : Type 0} (b : List A) (heads : List RowHead) (seen : Roomed A)
    → roomed b heads ≡ seen → rooms_of heads ≡ seen.rooms
seen_rooms {A = A} b heads seen e = ap (λ (s : Roomed A). s.rooms) e

pub roomed_as : {A : Type 0} (rows rows' : List (List A)) (rooms rooms' : List ℕ) → rows ≡ rows'
    → rooms ≡ rooms' → (let s : Roomed A = record { rows = rows; rooms = rooms } in s)
    ≡ record { rows = rows'; rooms = rooms' }
roomed_as rows rows' rooms rooms' p q = λ i. record { rows = p i; rooms = q i }

-- the room of a row
pub room_is : (heads : List RowHead) (i : ℕ) → i < length heads
    → room_at (rooms_of heads) i ≡ (get_or heads i no_head).room
room_is heads i li = get_or-map (λ (h : RowHead). h.room) heads i no_head 0 li

pub rooms_set : (heads : List RowHead) (i : ℕ) (h : RowHead)
    → rooms_of (slice_set heads i h) ≡ slice_set (rooms_of heads) i h.room
rooms_set heads i h = map-set (λ (x : RowHead). x.room) heads i h

-- a row whose room stays
pub rooms_same : (heads : List RowHead) (i : ℕ) (h : RowHead) → i < length heads
    → h.room ≡ (get_or heads i no_head).room → rooms_of (slice_set heads i h) ≡ rooms_of heads
rooms_same heads i h li e =
    rooms_set heads i h ∙ ap (slice_set (rooms_of heads) i) (e ∙ sym (room_is heads i li))
    ∙ set-get_or (rooms_of heads) i 0

pub rooms_none : (n : ℕ) → rooms_of (replicate n no_head) ≡ replicate n 0
rooms_none zero = refl
rooms_none (suc n) = ap (λ r. 0 ∷ r) (rooms_none n)
