-- Tokens that are read whole, and the end of a line.
use Rattle.std.proofs.Common.{◌≡◌, ℕ, zero, suc, ◌<◌, ◌≤◌, ◌&&◌, Bool, true, false, not, List, []}
use Rattle.std.proofs.Common.{◌∷◌, ◌++◌, length, take, drop, ◌-◌, get_or, slice_range, Some, None}
use Rattle.std.proofs.Common.{inl, inr, refl, sym, ◌∙◌, ap, subst, arith, ◌+◌}
use Rattle.std.specs.Prelude.{◌==◌}
use Rattle.std.specs.Bool.{then_some}
use Rattle.std.specs.List.{list_all}
use Rattle.std.specs.Str.{bytes_eq}
use Rattle.std.proofs.lemmas.Bool.{and_parts, both_ways, cases_lt, eq-eqb, ne_eqb}
use Rattle.std.proofs.lemmas.List.{drop_all, drop_more}
use Rattle.std.proofs.lemmas.Slice.Eq.{bytes_eq-Decides}
use lib.Chars.{codes}
use Rattle.text.specs.Text.{is_blank, begins_with_token, tokens_of}
use Rattle.lrat_read.specs.Form.{unsigned_of}
use Rattle.lrat_read.specs.Words.{IsAfterPlus, begins_with_plus}
use Rattle.lrat_read.specs.Words.{ended_number, word_line_of, word_of}
use Rattle.lrat_read.proofs.Scan.{Solid, split_at, token_front, token_whole}

-- whether no token is left
abbrev pub is_done : List (List ℕ) → Bool
is_done [] = true
is_done (t ∷ ts) = false

pub done_at : (line : List ℕ) (place end : ℕ)
    → tokens_of (drop place line) ≡ tokens_of (drop end line) → place ≤ length line
    → (place < length line → is_blank (get_or line place 0) ≡ false)
    → (place == length line) ≡ is_done (tokens_of (drop end line))
done_at line place end same within solid =
    elim (cases_lt place (length line)) [
      | inl h ↦
          let front = token_front [] (get_or line place 0) (drop (place + 1) line) tt (solid h) in
          ne_eqb place (length line) (λ e. absurd (omega arith))
          ∙ ap is_done (sym (sym same ∙ ap tokens_of (drop_more line place 0 h) ∙ front.2))
      | inr h ↦
          eq-eqb place (length line) (omega arith)
          ∙ ap is_done (sym (sym same ∙ ap tokens_of (drop_all place line h)))
    ]

-- bytes that are not blanks
abbrev pub is_solid : List ℕ → Bool
is_solid bs = list_all (λ b. not (is_blank b)) bs

not_blank : (b : Bool) → not b ≡ true → b ≡ false
not_blank true e = absurd (cc)
not_blank false e = refl

solid_from : (bs : List ℕ) → is_solid bs ≡ true → Solid bs
solid_from [] e = tt
solid_from (b ∷ bs) e =
    let p = and_parts (not (is_blank b)) (is_solid bs) e in
    (not_blank (is_blank b) p.0, solid_from bs p.1)

token_split : (u rest : List ℕ) → is_solid u ≡ true → begins_with_token (u ++ rest) ≡ true
    → begins_with_token rest ≡ false → tokens_of (u ++ rest) ≡ u ∷ tokens_of rest
token_split [] rest e b h = absurd (both_ways _ h b)
token_split (c ∷ cs) rest e b h = let s = solid_from (c ∷ cs) e in token_whole c cs rest s.0 s.1 h

-- the token that begins at a place
pub token_here : (line : List ℕ) (at start end : ℕ)
    → tokens_of (drop start line) ≡ tokens_of (drop at line) → start < length line
    → is_blank (get_or line start 0) ≡ false → start ≤ end
    → is_solid (slice_range line start end) ≡ true → begins_with_token (drop end line) ≡ false
    → tokens_of (drop at line) ≡ slice_range line start end ∷ tokens_of (drop end line)
token_here line at start end same inside blank from solid stops =
    let split = split_at line start end from in
    let begins : begins_with_token (slice_range line start end ++ drop end line) ≡ true =
    ap begins_with_token (sym split) ∙ ap begins_with_token (drop_more line start 0 inside)
    ∙ ap not blank in
    sym same ∙ ap tokens_of split
    ∙ token_split (slice_range line start end) (drop end line) solid begins stops

-- no token is left at the end of a line
pub none_here_left : (line : List ℕ) (at start : ℕ)
    → tokens_of (drop start line) ≡ tokens_of (drop at line) → length line ≤ start
    → tokens_of (drop at line) ≡ []
none_here_left line at start same past = sym same ∙ ap tokens_of (drop_all start line past)

-- two numbers, the second of which is the 0 that ends a line
pub number_last : (ts us vs : List (List ℕ)) (t u : List ℕ) (n z : ℕ) (b : Bool) → ts ≡ t ∷ us
    → us ≡ u ∷ vs → unsigned_of t ≡ Some n → unsigned_of u ≡ Some z
    → b ≡ ((z == 0) && is_done vs) → then_some b n ≡ ended_number ts
number_last ts us vs t u n z b e f g h d =
    ap (λ c. then_some c n) d ∙ by z vs h ∙ ap ended_number (sym (e ∙ ap (λ ws. t ∷ ws) f))
  where
    by : (z : ℕ) (vs : List (List ℕ)) → unsigned_of u ≡ Some z
        → then_some ((z == 0) && is_done vs) n ≡ ended_number (t ∷ u ∷ vs)
    by zero [] h = rw (g, h) refl
    by (suc z) [] h =
        let no : (suc z == 0) ≡ false = ne_eqb (suc z) 0 (λ e. absurd (omega arith)) in
        rw (no, g, h) refl
    by zero (v ∷ vs) h = refl
    by (suc z) (v ∷ vs) h =
        let no : (suc z == 0) ≡ false = ne_eqb (suc z) 0 (λ e. absurd (omega arith)) in
        rw no refl

pub zero_and : (z : ℕ) (b c : Bool) → z ≡ 0 → b ≡ c → b ≡ ((z == 0) && c)
zero_and z b c e h = h ∙ sym (ap (λ n. (n == 0) && c) e)

pub zero_not : (z : ℕ) (b c : Bool) → (z ≡ 0 → ⊥) → b ≡ false → b ≡ ((z == 0) && c)
zero_not z b c e h = h ∙ sym (ap (λ d. d && c) (ne_eqb z 0 e))

-- what is no word
pub no_word : (line : List ℕ) (at start : ℕ)
    → tokens_of (drop start line) ≡ tokens_of (drop at line) → start < length line
    → is_blank (get_or line start 0) ≡ false → get_or line start 0 < 97
    → word_line_of (tokens_of (drop at line)) ≡ None
no_word line at start same inside blank small =
    let x = get_or line start 0 in
    let front = token_front [] x (drop (start + 1) line) tt blank in
    ap word_line_of (sym same ∙ ap tokens_of (drop_more line start 0 inside) ∙ front.2)
    ∙ by x front.0 front.1 small
  where
    by : (x : ℕ) (q : List ℕ) (us : List (List ℕ)) → x < 97 → word_line_of ((x ∷ q) ∷ us) ≡ None
    by x q us h =
        let b : (x == 98) ≡ false = ne_eqb x 98 (λ e. absurd (omega arith)) in
        let c : (x == 99) ≡ false = ne_eqb x 99 (λ e. absurd (omega arith)) in
        let f : (x == 102) ≡ false = ne_eqb x 102 (λ e. absurd (omega arith)) in
        let g : (x == 103) ≡ false = ne_eqb x 103 (λ e. absurd (omega arith)) in
        let m : (x == 109) ≡ false = ne_eqb x 109 (λ e. absurd (omega arith)) in
        simp (b, c, f, g, m)

pub word_none : (ts us : List (List ℕ)) (t : List ℕ) → ts ≡ t ∷ us → word_of t ≡ None
    → word_line_of ts ≡ None
word_none ts us t e h =
    let none : word_line_of (t ∷ us) ≡ None = rw h refl in
    ap word_line_of e ∙ none

-- the plus sign
pub plus_at : (line : List ℕ) (at start end : ℕ)
    → tokens_of (drop start line) ≡ tokens_of (drop at line) → start ≤ length line
    → (start < length line → is_blank (get_or line start 0) ≡ false) → start ≤ end
    → end ≤ length line → is_solid (slice_range line start end) ≡ true
    → begins_with_token (drop end line) ≡ false → (b : Bool)
    → b ≡ bytes_eq (slice_range line start end) (codes "+")
    → IsAfterPlus line at (then_some b end)
plus_at line at start end same within blank from inside solid stops b e =
    elim (cases_lt start (length line)) [
      | inl h ↦
          some b (slice_range line start end) e
          (token_here line at start end same h (blank h) from solid stops)
      | inr h ↦
          let none : slice_range line start end ≡ [] =
          ap (take (end - start)) (drop_all start line h) ∙ take_none (end - start) in
          let no : b ≡ false = e ∙ ap (λ u. bytes_eq u (codes "+")) none in
          subst (λ d. IsAfterPlus line at (then_some d end)) (sym no)
          (ap begins_with_plus (none_here_left line at start same h))
    ]
  where
    take_none : (k : ℕ) → take {A = ℕ} k [] ≡ []
    take_none zero = refl
    take_none (suc k) = refl

    some : (b : Bool) (u : List ℕ) → b ≡ bytes_eq u (codes "+")
        → tokens_of (drop at line) ≡ u ∷ tokens_of (drop end line)
        → IsAfterPlus line at (then_some b end)
    some true u e h = (
      h ∙ ap (λ t. t ∷ tokens_of (drop end line))
          ((bytes_eq-Decides u (codes "+")).0 (sym e)),
      inside,
    )
    some false u e h = ap begins_with_plus h ∙ sym e
