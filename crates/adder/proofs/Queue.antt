-- How a column is added up cell by cell.
use Rattle.std.proofs.Common.{◌≡◌, ℕ, zero, suc, ◌+◌, ◌-◌, ◌<◌, ◌≤◌, List, [], ◌∷◌, ◌++◌, length}
use Rattle.std.proofs.Common.{take, drop, get_or, Option, Some, None, refl, sym, ◌∙◌, ap, subst}
use Rattle.std.proofs.Common.{arith, append_assoc}
use Rattle.std.proofs.lemmas.List.{length-append, length-drop, drop-append-le, drop-drop, drop_at}
use Rattle.std.proofs.lemmas.List.{take_rest}
use Rattle.cnf.specs.Literal.{Literal, positive}
use Rattle.adder.specs.declared.cells.Cell.{Cell}
use Rattle.adder.specs.Network.{Column, after_cell, added_up}
use Rattle.adder.specs.Parts.{column_from}
use Rattle.adder.proofs.Variables.{column_fresh}

-- one step fewer than literals is enough
enough : (s t n : ℕ) (ls : List Literal) → length ls ≤ s + 1 → length ls ≤ t + 1
    → added_up s n ls ≡ added_up t n ls
enough s t n [] h k = refl
enough s t n (a ∷ []) h k = refl
enough zero t n (a ∷ b ∷ rest) h k = absurd (omega arith)
enough (suc s) zero n (a ∷ b ∷ rest) h k = absurd (omega arith)
enough (suc s) (suc t) n (a ∷ b ∷ []) h k =
    let one : 1 ≤ s + 1 = omega arith in
    let two : 1 ≤ t + 1 = omega arith in
    ap (after_cell (record { a = a; b = b; third = None; sum = n; carry = n + 1 }))
    (enough s t (n + 2) (positive n ∷ []) one two)
enough (suc s) (suc t) n (a ∷ b ∷ d ∷ rest) h k =
    let one : length (rest ++ positive n ∷ []) ≤ s + 1 =
    omega (arith, length-append rest (positive n ∷ [])) in
    let two : length (rest ++ positive n ∷ []) ≤ t + 1 =
    omega (arith, length-append rest (positive n ∷ [])) in
    ap (after_cell (record { a = a; b = b; third = Some d; sum = n; carry = n + 1 }))
    (enough s t (n + 2) (rest ++ positive n ∷ []) one two)

-- two of a queue, or three, go into a cell, and the rest stays
pub data Front (a b : Literal) (ls : List Literal) : Option Literal → List Literal → Type 0 where
  Two : ls ≡ a ∷ b ∷ [] → Front a b ls None []
  Three : (d : Literal) (rest : List Literal) → ls ≡ a ∷ b ∷ d ∷ rest → Front a b ls (Some d) rest

front_two : (a b : Literal) (ls : List Literal) → 2 ≤ length ls → length ls < 3 → a ≡ get_or ls 0 a
    → b ≡ get_or ls 1 b → Front a b ls None []
front_two a b [] h l e f = absurd (omega arith)
front_two a b (x ∷ []) h l e f = absurd (omega arith)
front_two a b (x ∷ y ∷ []) h l e f = Two (cc)
front_two a b (x ∷ y ∷ z ∷ rest) h l e f = absurd (omega arith)

front_three : (a b d : Literal) (ls : List Literal) → 3 ≤ length ls → a ≡ get_or ls 0 a
    → b ≡ get_or ls 1 b → d ≡ get_or ls 2 d → Front a b ls (Some d) (drop 3 ls)
front_three a b d [] h e f g = absurd (omega arith)
front_three a b d (x ∷ []) h e f g = absurd (omega arith)
front_three a b d (x ∷ y ∷ []) h e f g = absurd (omega arith)
front_three a b d (x ∷ y ∷ z ∷ rest) h e f g = Three d rest (cc)

-- a queue is a vector's elements from i on
abbrev pub behind : ℕ → List Literal → List Literal
behind i xs = take (length xs - i) (drop i xs)

behind_is : (xs ys : List Literal) (i : ℕ) → ys ≡ xs → behind i ys ≡ drop i xs
behind_is xs ys i e = take_rest ys i ∙ ap (drop i) e

-- the front that an arm reads, and where the sum goes
pub two_at : (xs ys : List Literal) (i : ℕ) (a b s : Literal) → ys ≡ xs → 2 ≤ length (behind i ys)
    → length (behind i ys) < 3 → a ≡ get_or (behind i ys) 0 a → b ≡ get_or (behind i ys) 1 b
    → Front a b (drop i xs) None [] × (i + 2 ≤ length (xs ++ s ∷ []))
    × (drop (i + 2) (xs ++ s ∷ []) ≡ s ∷ [])
two_at xs ys i a b s e h l p q =
    let here : length (drop i xs) ≡ 2 = omega (arith, ap length (behind_is xs ys i e)) in (
      subst (λ ls. Front a b ls None []) (behind_is xs ys i e)
          (front_two a b (behind i ys) h l p q),
      omega (arith, length-append xs (s ∷ []), length-drop i xs),
      drop_at xs (s ∷ []) (i + 2) (omega (arith, length-drop i xs)),
    )

pub three_at : (xs ys : List Literal) (i : ℕ) (a b d s : Literal) → ys ≡ xs
    → 3 ≤ length (behind i ys) → a ≡ get_or (behind i ys) 0 a → b ≡ get_or (behind i ys) 1 b
    → d ≡ get_or (behind i ys) 2 d
    → Front a b (drop i xs) (Some d) (drop 3 (drop i xs)) × (i + 3 ≤ length (xs ++ s ∷ []))
    × (drop (i + 3) (xs ++ s ∷ []) ≡ drop 3 (drop i xs) ++ s ∷ [])
three_at xs ys i a b d s e h p q r =
    let here : 3 ≤ length (drop i xs) = omega (arith, ap length (behind_is xs ys i e)) in
    let inside : i + 3 ≤ length xs = omega (arith, length-drop i xs) in (
      subst (λ ls. Front a b ls (Some d) (drop 3 ls)) (behind_is xs ys i e)
          (front_three a b d (behind i ys) h p q r),
      omega (arith, length-append xs (s ∷ [])),
      drop-append-le (i + 3) xs (s ∷ []) inside
          ∙ ap (λ (ls : List Literal). ls ++ s ∷ []) (sym (drop-drop 3 i xs)),
    )

pub column_more : (n : ℕ) (a b : Literal) (ls : List Literal) (third : Option Literal)
    (rest : List Literal) → Front a b ls third rest
    → column_from n ls ≡ after_cell (record { a = a; b = b; third = third; sum = n; carry = n + 1 })
    (column_from (n + 2) (rest ++ positive n ∷ []))
column_more n a b ls _ _ (Two e) = ap (column_from n) e
column_more n a b ls _ _ (Three d rest e) =
    ap (column_from n) e
    ∙ ap (after_cell (record { a = a; b = b; third = Some d; sum = n; carry = n + 1 }))
    (enough (suc (suc (length rest))) (length (rest ++ positive n ∷ [])) (n + 2)
    (rest ++ positive n ∷ []) (omega (arith, length-append rest (positive n ∷ [])))
    (omega arith))

-- what was built, with what the queue still gives, is a whole column after what was there before
pub record IsAddingUp (before : List Cell) (carried : List Literal) (column : Column)
    (cells : List Cell) (carries : List Literal) (n : ℕ) (queue : List Literal) : Type 0 where
  pub cells_are : cells ++ (column_from n queue).cells ≡ before ++ column.cells
  pub carries_are : carries ++ (column_from n queue).carries ≡ carried ++ column.carries
  pub output_is : (column_from n queue).output ≡ column.output
  pub fresh_is : (column_from n queue).fresh ≡ column.fresh

pub adds_cell : {before : List Cell} {carried : List Literal} {column : Column} {cells : List Cell}
    {carries : List Literal} {n : ℕ} {a b : Literal} {ls : List Literal} {third : Option Literal}
    {rest : List Literal} → IsAddingUp before carried column cells carries n ls
    → Front a b ls third rest
    → {cells_then : List Cell} {carries_then : List Literal} {n_then : ℕ} {ls_then : List Literal}
    → cells_then ≡ cells ++ record { a = a; b = b; third = third; sum = n; carry = n + 1 } ∷ []
    → carries_then ≡ carries ++ positive (n + 1) ∷ [] → n_then ≡ n + 2
    → ls_then ≡ rest ++ positive n ∷ []
    → IsAddingUp before carried column cells_then carries_then n_then ls_then
adds_cell {before} {carried} {column} {cells} {carries} {n} {a} {b} {ls} {third} {rest} h front
    cells_are carries_are n_is ls_is =
    let cell : Cell = record { a = a; b = b; third = third; sum = n; carry = n + 1 } in
    let more = column_more n a b ls third rest front in
    let left = column_from (n + 2) (rest ++ positive n ∷ []) in
    rw (cells_are, carries_are, n_is, ls_is) (record {
      cells_are = append_assoc cells (cell ∷ []) left.cells
          ∙ ap (λ (k : Column). cells ++ k.cells) (sym more) ∙ h.cells_are;
      carries_are = append_assoc carries (positive (n + 1) ∷ []) left.carries
          ∙ ap (λ (k : Column). carries ++ k.carries) (sym more) ∙ h.carries_are;
      output_is = ap (λ (k : Column). k.output) (sym more) ∙ h.output_is;
      fresh_is = ap (λ (k : Column). k.fresh) (sym more) ∙ h.fresh_is;
    })

-- each cell takes two variables, so a next one has room
pub has_room : (n : ℕ) (a b : Literal) (ls : List Literal) (third : Option Literal)
    (rest : List Literal) → Front a b ls third rest → n + 2 ≤ (column_from n ls).fresh
has_room n a b ls third rest front =
    omega (
      arith,
      ap (λ (k : Column). k.fresh) (column_more n a b ls third rest front),
      column_fresh (length (rest ++ positive n ∷ [])) (n + 2) (rest ++ positive n ∷ []),
    )
