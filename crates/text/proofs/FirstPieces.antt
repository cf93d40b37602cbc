-- The first line of a text and the first token of a line, and what is left after them.
use Rattle.std.proofs.Common.{◌≡◌, ℕ, suc, ◌+◌, ◌-◌, ◌<◌, Bool, true, false, List, [], ◌∷◌, ◌++◌}
use Rattle.std.proofs.Common.{inl, inr, refl, sym, ◌∙◌, ap, arith, length, get_or, take, drop}
use Rattle.std.specs.Prelude.{◌==◌, All}
use Rattle.std.specs.List.{prefix_len, position_or_len, slice_split, before_first, after_first}
use Rattle.std.specs.List.{enumerate_from}
use Rattle.std.specs.Str.Lines.{lines, lines_of_parts, strip_carriage_return}
use Rattle.std.proofs.lemmas.Bool.{cases_Bool, not_from_false, ne_eqb, eqb-true, eqb-false}
use Rattle.std.proofs.lemmas.Bool.{cond-false}
use Rattle.std.proofs.lemmas.List.Splits.{slice_split_none, slice_split_first, slice_split_at}
use Rattle.std.proofs.lemmas.List.Splits.{length-slice_split}
use Rattle.std.proofs.lemmas.List.Sums.{position_or_len_is}
use Rattle.std.proofs.lemmas.List.{get_or_default, take_rest, drop_all, nil_from_length}
use Rattle.text.specs.Text.{is_blank, begins_with_token, put_byte, tokens_of}

-- lines
abbrev is_feed : ℕ → Bool
is_feed b = b == 10

pub parts-cons : (x : List ℕ) (parts : List (List ℕ)) → 0 < length parts
    → lines_of_parts (x ∷ parts) ≡ strip_carriage_return x ∷ lines_of_parts parts
parts-cons x [] l = absurd (omega arith)
parts-cons x (y ∷ more) l = refl

-- the first line ends at the first line feed
pub lines-split : (x more : List ℕ) → All (λ b. is_feed b ≡ false) x
    → lines (x ++ 10 ∷ more) ≡ strip_carriage_return x ∷ lines more
lines-split x more h =
    ap lines_of_parts (slice_split_at is_feed x 10 more h refl)
    ∙ parts-cons x (slice_split is_feed more) (omega (arith, length-slice_split is_feed more))

pub lines-first : (w : List ℕ) (n : ℕ) → n < length w → get_or w n 0 ≡ 10
    → ((k : ℕ) → k < n → is_feed (get_or w k 0) ≡ false)
    → lines w ≡ strip_carriage_return (take n w) ∷ lines (drop (n + 1) w)
lines-first w n l here before =
    let at : position_or_len is_feed w ≡ n =
    position_or_len_is is_feed w n 0 (omega arith) before (λ _. rw here) in
    let split : slice_split is_feed w ≡ before_first is_feed w ∷ slice_split is_feed
    (after_first is_feed w) = slice_split_first is_feed w 0 (omega arith) in
    ap lines_of_parts split
    ∙ parts-cons (before_first is_feed w) (slice_split is_feed (after_first is_feed w))
    (omega (arith, length-slice_split is_feed (after_first is_feed w)))
    ∙ ap (λ m. strip_carriage_return (take m w) ∷ lines (drop (m + 1) w)) at

-- where there is no line feed, the bytes are one line
pub lines-last : (w : List ℕ) → 0 < length w
    → ((k : ℕ) → k < length w → is_feed (get_or w k 0) ≡ false) → lines w ≡ w ∷ []
lines-last w l none =
    let all : All (λ b. is_feed b ≡ false) w = λ k d h. rw (get_or_default w k d 0 h) (none k h) in
    let some : (length w == 0) ≡ false = ne_eqb (length w) 0 (omega arith) in
    ap lines_of_parts (slice_split_none is_feed w all) ∙ cond-false (length w == 0) [] (w ∷ []) some

-- `next`, where a line feed stands at n
pub lines-next : (w : List ℕ) (number n : ℕ) → n < length w → get_or w n 0 ≡ 10
    → ((k : ℕ) → k < n → is_feed (get_or w k 0) ≡ false) → (line rest : List ℕ)
    → line ≡ strip_carriage_return (take n w) → rest ≡ take (length w - (n + 1)) (drop (n + 1) w)
    → enumerate_from number (lines w) ≡ (number, line) ∷ enumerate_from (number + 1) (lines rest)
lines-next w number n l here before line rest a b =
    let tail : rest ≡ drop (n + 1) w = b ∙ take_rest w (n + 1) in
    ap (enumerate_from number) (lines-first w n l here before)
    ∙ (λ i. (number, sym a i) ∷ enumerate_from (number + 1) (lines (sym tail i)))

-- `next`, where there is none
pub lines-end : (w : List ℕ) (number : ℕ) → 0 < length w
    → ((k : ℕ) → k < length w → is_feed (get_or w k 0) ≡ false) → (rest : List ℕ)
    → rest ≡ take (length w - length w) (drop (length w) w)
    → enumerate_from number (lines w) ≡ (number, w) ∷ enumerate_from (number + 1) (lines rest)
lines-end w number l none rest e =
    ap (enumerate_from number) (lines-last w l none)
    ∙ ap (λ r. (number, w) ∷ enumerate_from (number + 1) (lines r))
    (sym (e ∙ take_rest w (length w) ∙ drop_all (length w) w (omega arith)))

-- tokens
one_more : (n : ℕ) → 1 + n ≡ suc n
one_more n = omega arith

pub tokens-drop : (bs : List ℕ) → tokens_of bs ≡ tokens_of (drop (prefix_len is_blank bs) bs)
tokens-drop [] = refl
tokens-drop (b ∷ bs) =
    elim (cases_Bool (is_blank b)) [
      | inl e ↦ rw (e, one_more (prefix_len is_blank bs)) (tokens-drop bs)
      | inr e ↦ rw (e, e)
    ]

abbrev token_len : List ℕ → ℕ
token_len bs = position_or_len is_blank bs

pub tokens-first : (bs : List ℕ) → 0 < token_len bs
    → tokens_of bs ≡ take (token_len bs) bs ∷ tokens_of (drop (token_len bs) bs)
tokens-first [] l = absurd (omega arith)
tokens-first (b ∷ bs) l =
    elim (cases_Bool (is_blank b)) [
      | inl e ↦ absurd (omega (arith, rw e at l))
      | inr e ↦ rw (e, one_more (token_len bs)) (after b bs e (λ h. tokens-first bs h))
    ]
  where
    after : (b : ℕ) (bs : List ℕ) → is_blank b ≡ false
        → (0 < token_len bs
        → tokens_of bs ≡ take (token_len bs) bs ∷ tokens_of (drop (token_len bs) bs))
        → put_byte b (begins_with_token bs) (tokens_of bs) ≡ (b ∷ take (token_len bs) bs)
        ∷ tokens_of
        (drop (token_len bs) bs)
    after b [] e h = refl
    after b (c ∷ cs) e h =
        elim (cases_Bool (is_blank c)) [
          | inl d ↦ rw (d, d)
          | inr d ↦ ap (λ s. put_byte b s (tokens_of (c ∷ cs))) (not_from_false (is_blank c) d)
              ∙ ap (put_byte b true) (h (rw d (omega arith)))
        ]

-- after the blanks a token begins
pub token-begins : (bs : List ℕ) → 0 < length (drop (prefix_len is_blank bs) bs)
    → 0 < token_len (drop (prefix_len is_blank bs) bs)
token-begins [] l = absurd (omega arith)
token-begins (b ∷ bs) l =
    elim (cases_Bool (is_blank b)) [
      | inl e ↦ rw (e, one_more (prefix_len is_blank bs))
          (token-begins bs (rw (e, one_more (prefix_len is_blank bs)) at l))
      | inr e ↦ rw (e, e) (omega arith)
    ]

-- `next`, where a token is left after m blanks
pub tokens-next : (bs rest : List ℕ) (m : ℕ) → m ≡ prefix_len is_blank bs
    → rest ≡ take (length bs - m) (drop m bs) → (length rest == 0) ≡ false
    → (token after : List ℕ) (n : ℕ) → n ≡ token_len rest → token ≡ take n rest
    → after ≡ drop n rest → tokens_of bs ≡ token ∷ tokens_of after
tokens-next bs rest m blanks is some token after n len front back =
    let tail : rest ≡ drop (prefix_len is_blank bs) bs =
    is ∙ take_rest bs m ∙ ap (λ k. drop k bs) blanks in
    let long : 0 < length (drop (prefix_len is_blank bs) bs) =
    omega (arith, eqb-false (length rest) 0 some, ap length tail) in
    let begins : 0 < token_len rest = rw tail (token-begins bs long) in
    tokens-drop bs ∙ ap tokens_of (sym tail) ∙ tokens-first rest begins
    ∙ (λ i. (ap (λ k. take k rest) (sym len) ∙ sym front) i ∷ tokens_of
    ((ap (λ k. drop k rest) (sym len) ∙ sym back) i))

-- `next`, where only blanks are left
pub tokens-end : (bs rest : List ℕ) (m : ℕ) → m ≡ prefix_len is_blank bs
    → rest ≡ take (length bs - m) (drop m bs) → (length rest == 0) ≡ true
    → (tokens_of bs ≡ []) × (tokens_of rest ≡ [])
tokens-end bs rest m blanks is none =
    let tail : rest ≡ drop (prefix_len is_blank bs) bs =
    is ∙ take_rest bs m ∙ ap (λ k. drop k bs) blanks in
    let nil : rest ≡ [] = nil_from_length rest (eqb-true (length rest) 0 none) in
    (tokens-drop bs ∙ ap tokens_of (sym tail ∙ nil), ap tokens_of nil)
