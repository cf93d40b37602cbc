-- The text of a log spells its lines.
use Rattle.std.proofs.Common.{◌≡◌, ℕ, zero, suc, ◌+◌, ◌-◌, ◌<◌, ◌≤◌, ◌^◌, Bool, true, false, not}
use Rattle.std.proofs.Common.{cond}
use Rattle.std.proofs.Common.{List, [], ◌∷◌, ◌++◌, length, map, get_or, refl, sym, ◌∙◌, ap, subst}
use Rattle.std.proofs.Common.{arith, append_assoc}
use Rattle.std.specs.Prelude.{◌==◌, if◌then◌else◌, All, filter}
use Rattle.std.specs.List.{flat_map, AllByRecursion, list_all, slice_split}
use Rattle.std.specs.Str.Lines.{lines, lines_of_parts, strip_carriage_return}
use Rattle.std.specs.Fmt.{decimal}
use Rattle.std.proofs.lemmas.Bool.{and_parts, ne_eqb}
use Rattle.std.proofs.lemmas.List.{append-nil}
use Rattle.std.proofs.lemmas.List.Splits.{slice_split_at, length-slice_split}
use Rattle.std.proofs.lemmas.List.Elements.{All-cons, All-from_recursion, All-head, All-nil}
use Rattle.std.proofs.lemmas.List.Elements.{All-tail, recursion_from_All}
use lib.Chars.{codes}
use Rattle.cnf.specs.Literal.{Literal}
use Rattle.text.specs.Text.{is_blank, begins_with_token, put_byte, tokens_of, token_lines}
use Rattle.text.specs.Text.{IsNoFeed, literal_text, is_digit}
use Rattle.text.specs.Writing.{joined, spaced}
use Rattle.cnf.specs.Lrat.{ProofLine, Addition, Deletion, CandidateHints}
use Rattle.text.specs.LratText.{group_tokens}
use Rattle.cnf.specs.Lrat.{IsId}
use Rattle.text.specs.LratText.{line_tokens, has_tokens, HasNumbers, IsTextOf}
use Rattle.cnf.proofs.Laws.{GroupHasIds}
use Rattle.text.proofs.Laws.{digit_bounds, is_number-decimal, parts-cons, spaced-joined}
use Rattle.lrat_log.specs.declared.lines.Hint.{Hint}
use Rattle.lrat_log.specs.declared.lines.Hint.TheVariants.{Plain, Group}
use Rattle.lrat_log.specs.declared.lines.Name.{Name}
use Rattle.lrat_log.specs.declared.lines.Name.TheVariants.{Formula, Added}
use Rattle.lrat_log.specs.Log.{LogLine, IsLine, HasSmallIds, is_delete, name_of, number_in, id_of}
use Rattle.lrat_log.specs.Log.{leading_ids, group_ids, numbered_on, numbered_lines, text_of}
use Rattle.lrat_log.specs.Log.{HasNumber}
use Rattle.lrat_log.specs.Steps.{added_count}
use Rattle.lrat_log.proofs.Additions.{additions_cons, count_step}

-- no byte that ends a token or a line
abbrev pub IsWord : List ℕ → Type 0
IsWord [] = ⊥
IsWord (b ∷ bs) = (33 ≤ b) × AllByRecursion (λ c. 33 ≤ c) bs

not_blank : (b : ℕ) → 33 ≤ b → is_blank b ≡ false
not_blank b h =
    let x : (b == 32) ≡ false = ne_eqb b 32 (λ e. absurd (omega arith)) in
    let y : (b == 9) ≡ false = ne_eqb b 9 (λ e. absurd (omega arith)) in
    rw (x, y) refl

first_byte : (b : ℕ) (bs : List ℕ) → 33 ≤ b → tokens_of (b ∷ bs) ≡ put_byte b (begins_with_token bs)
    (tokens_of bs)
first_byte b bs h = rw (not_blank b h) refl

-- a word before what begins no token
word_tokens : (b : ℕ) (bs rest : List ℕ) → 33 ≤ b → AllByRecursion (λ c. 33 ≤ c) bs
    → begins_with_token rest ≡ false → tokens_of (b ∷ bs ++ rest) ≡ (b ∷ bs) ∷ tokens_of rest
word_tokens b [] rest h all e = rw (not_blank b h, e) refl
word_tokens b (c ∷ cs) rest h all e =
    first_byte b (c ∷ cs ++ rest) h ∙ ap (λ x. put_byte b (not x) (tokens_of (c ∷ cs ++ rest)))
    (not_blank c all.0) ∙ ap (put_byte b true) (word_tokens c cs rest all.0 all.1 e)

pub tokens_of-joined : (ts : List (List ℕ)) → AllByRecursion IsWord ts → tokens_of (joined ts) ≡ ts
tokens_of-joined [] h = refl
tokens_of-joined ([] ∷ ts) h = absurd h.0
tokens_of-joined ((b ∷ bs) ∷ []) h = ap tokens_of (sym (append-nil (b ∷ bs)))
    ∙ word_tokens b bs [] h.0.0 h.0.1 refl
tokens_of-joined ((b ∷ bs) ∷ u ∷ ts) h = word_tokens b bs (32 ∷ joined (u ∷ ts)) h.0.0 h.0.1 refl
    ∙ ap (λ x. (b ∷ bs) ∷ x) (tokens_of-joined (u ∷ ts) h.1)

-- bytes of a line
abbrev IsLineText : List ℕ → Type 0
IsLineText x = AllByRecursion (λ b. 32 ≤ b) x

word_text : (bs rest : List ℕ) → AllByRecursion (λ c. 33 ≤ c) bs → IsLineText rest
    → IsLineText (bs ++ rest)
word_text [] rest h k = k
word_text (b ∷ bs) rest h k = (omega (arith, h.0), word_text bs rest h.1 k)

pub joined_text : (ts : List (List ℕ)) → AllByRecursion IsWord ts → IsLineText (joined ts)
joined_text [] h = tt
joined_text ([] ∷ ts) h = absurd h.0
joined_text ((b ∷ bs) ∷ []) h =
    subst IsLineText (append-nil (b ∷ bs)) (word_text (b ∷ bs) [] h.0 tt)
joined_text ((b ∷ bs) ∷ u ∷ ts) h =
    word_text (b ∷ bs) (32 ∷ joined (u ∷ ts)) h.0 (omega arith, joined_text (u ∷ ts) h.1)

no_return : (x : List ℕ) (i : ℕ) → IsLineText x → (get_or x i 0 == 13) ≡ false
no_return [] i h = refl
no_return (b ∷ x) zero h = ne_eqb b 13 (λ e. absurd (omega (arith, h.0)))
no_return (b ∷ x) (suc i) h = no_return x i h.1

abbrev is_feed : ℕ → Bool
is_feed b = b == 10

pub no_feed : (x : List ℕ) → IsLineText x → IsNoFeed x
no_feed [] h = All-nil (λ b. (b == 10) ≡ false)
no_feed (b ∷ x) h =
    All-cons (λ c. (c == 10) ≡ false) b x (ne_eqb b 10 (λ e. absurd (omega (arith, h.0))))
    (no_feed x h.1)

line_first : (x rest : List ℕ) → IsLineText x → lines (x ++ 10 ∷ rest) ≡ x ∷ lines rest
line_first x rest h =
    let stripped : strip_carriage_return x ≡ x = rw (no_return x (length x - 1) h) refl in
    ap lines_of_parts (slice_split_at is_feed x 10 rest (no_feed x h) refl)
    ∙ parts-cons x (slice_split is_feed rest) (omega (arith, length-slice_split is_feed rest))
    ∙ ap (λ y. y ∷ lines rest) stripped

abbrev pub HasWords : ProofLine → Type 0
HasWords l = AllByRecursion IsWord (line_tokens l)

-- lines of words are told from their text
pub token_lines-spaced : (tss : List (List (List ℕ))) → AllByRecursion (AllByRecursion IsWord) tss
    → token_lines (flat_map spaced tss) ≡ tss
token_lines-spaced [] h = refl
token_lines-spaced (ts ∷ tss) h =
    let rest : List ℕ = flat_map spaced tss in
    ap (λ x. token_lines (x ++ rest)) (spaced-joined ts)
    ∙ ap token_lines (append_assoc (joined ts) (10 ∷ []) rest)
    ∙ ap (map tokens_of) (line_first (joined ts) rest (joined_text ts h.0))
    ∙ ap (λ x. x ∷ token_lines rest) (tokens_of-joined ts h.0)
    ∙ ap (λ x. ts ∷ x) (token_lines-spaced tss h.1)

text-tokens : (ls : List ProofLine) → flat_map (λ l. spaced (line_tokens l)) ls ≡ flat_map spaced
    (map line_tokens ls)
text-tokens [] = refl
text-tokens (l ∷ ls) = ap (λ x. spaced (line_tokens l) ++ x) (text-tokens ls)

all_words : (ls : List ProofLine) → AllByRecursion HasWords ls
    → AllByRecursion (AllByRecursion IsWord) (map line_tokens ls)
all_words [] h = tt
all_words (l ∷ ls) h = (h.0, all_words ls h.1)

pub token_lines-text : (ls : List ProofLine) → AllByRecursion HasWords ls
    → token_lines (flat_map (λ l. spaced (line_tokens l)) ls) ≡ map line_tokens ls
token_lines-text ls h = ap token_lines (text-tokens ls)
    ∙ token_lines-spaced (map line_tokens ls) (all_words ls h)

kept_lines : (ls : List ProofLine) → filter has_tokens (map line_tokens ls) ≡ map line_tokens ls
kept_lines [] = refl
kept_lines (Addition id c hints groups ∷ ls) =
    ap (λ x. line_tokens (Addition id c hints groups) ∷ x) (kept_lines ls)
kept_lines (Deletion lead ids ∷ ls) = ap (λ x. line_tokens (Deletion lead ids) ∷ x) (kept_lines ls)

-- tokens are words
digits_text : (ds : List ℕ) → list_all is_digit ds ≡ true → AllByRecursion (λ c. 33 ≤ c) ds
digits_text [] e = tt
digits_text (b ∷ ds) e = let p = and_parts (is_digit b) (list_all is_digit ds) e in
    (omega (arith, digit_bounds b p.0), digits_text ds p.1)

digits_word : (ds : List ℕ) → list_all is_digit ds ≡ true → 0 < length ds → IsWord ds
digits_word [] e h = absurd (omega arith)
digits_word (b ∷ ds) e h = digits_text (b ∷ ds) e

pub number_word : (n : ℕ) → n < 2 ^ 64 → IsWord (decimal n)
number_word n h = let k = is_number-decimal n h in digits_word (decimal n) k.digits k.nonempty

pub decimal_word : (n : ℕ) → n < 2 ^ 62 → IsWord (decimal n)
decimal_word n h = number_word n (omega (arith, h))

word_from : (ds : List ℕ) → IsWord ds → AllByRecursion (λ c. 33 ≤ c) ds
word_from [] h = tt
word_from (b ∷ ds) h = h

pub dashed_word : (n : ℕ) → n < 2 ^ 64 → IsWord (45 ∷ decimal n)
dashed_word n h = (omega arith, word_from (decimal n) (number_word n h))

pub literal_word : (s : Bool) (v : ℕ) → v < 2 ^ 62 → IsWord (if s then 45 ∷ decimal v else decimal
    v)
literal_word true v h = dashed_word v (omega (arith, h))
literal_word false v h = decimal_word v h

pub words_append : (xs ys : List (List ℕ)) → AllByRecursion IsWord xs → AllByRecursion IsWord ys
    → AllByRecursion IsWord (xs ++ ys)
words_append [] ys h k = k
words_append (x ∷ xs) ys h k = (h.0, words_append xs ys h.1 k)

pub words_decimal : (ns : List ℕ) → AllByRecursion IsId ns → AllByRecursion IsWord (map decimal ns)
words_decimal [] h = tt
words_decimal (n ∷ ns) h = (decimal_word n h.0.1, words_decimal ns h.1)

pub words_clause : (c : List Literal) → AllByRecursion (λ l. IsId l.variable) c
    → AllByRecursion IsWord (map literal_text c)
words_clause [] h = tt
words_clause (l ∷ c) h = (literal_word l.negated l.variable h.0.1, words_clause c h.1)

words_groups : (gs : List CandidateHints) → AllByRecursion GroupHasIds gs
    → AllByRecursion IsWord (flat_map group_tokens gs)
words_groups [] h = tt
words_groups (g ∷ gs) h = (
  dashed_word g.candidate (omega (arith, h.0.0.1)),
  words_append (map decimal g.hints) (flat_map group_tokens gs)
      (words_decimal g.hints (recursion_from_All IsId g.hints h.0.1)) (words_groups gs h.1),
)

pub zero_word : AllByRecursion IsWord (codes "0" ∷ [])
zero_word = ((omega arith, tt), tt)

pub line_words : (l : ProofLine) → HasNumbers l → HasWords l
line_words (Addition id c hints groups) h =
    let w = words_decimal hints (recursion_from_All IsId hints h.2) in
    let g = words_groups groups (recursion_from_All GroupHasIds groups h.3) in
    let front =
    words_append (map literal_text c) (codes "0" ∷ map decimal hints)
    (words_clause c (recursion_from_All (λ l. IsId l.variable) c h.1)) (zero_word.0, w) in
    let all =
    words_append (map literal_text c ++ codes "0" ∷ map decimal hints)
    (flat_map group_tokens groups) front g in (
      decimal_word id h.0,
      words_append (map literal_text c ++ codes "0" ∷ map decimal hints ++ flat_map group_tokens
          groups) (codes "0" ∷ []) all zero_word,
    )
line_words (Deletion lead ids) h = (
  decimal_word lead h.0,
  (
    (omega arith, tt),
    words_append (map decimal ids) (codes "0" ∷ [])
        (words_decimal ids (recursion_from_All IsId ids h.1)) zero_word,
  ),
)

lines_words : (ls : List ProofLine) → AllByRecursion HasNumbers ls → AllByRecursion HasWords ls
lines_words [] h = tt
lines_words (l ∷ ls) h = (line_words l h.0, lines_words ls h.1)

-- the spelling of lines whose numbers are small
pub text-lines : (ls : List ProofLine) → All HasNumbers ls
    → IsTextOf (flat_map (λ l. spaced (line_tokens l)) ls) ls
text-lines ls h = record {
  spelled =
      ap (filter has_tokens)
      (token_lines-text ls (lines_words ls (recursion_from_All HasNumbers ls h))) ∙ kept_lines ls;
  numbers = h;
}

-- the numbers of a log's lines
abbrev IsSmall : ℕ → Hint → Type 0
IsSmall base h = (0 < number_in (name_of h)) × (id_of base (name_of h) < 2 ^ 62)

id_of_is : (base : ℕ) (n : Name) → 0 < number_in n → id_of base n < 2 ^ 62 → IsId (id_of base n)
id_of_is base (Formula i) p s = (p, s)
id_of_is base (Added j) p s = (omega arith, s)

hint_ids : (base : ℕ) (hs : List Hint) → AllByRecursion (IsSmall base) hs
    → AllByRecursion IsId (map (λ h. id_of base (name_of h)) hs)
hint_ids base [] a = tt
hint_ids base (h ∷ hs) a = (id_of_is base (name_of h) a.0.0 a.0.1, hint_ids base hs a.1)

leading_are : (base : ℕ) (hs : List Hint) → AllByRecursion (IsSmall base) hs
    → AllByRecursion IsId (leading_ids base hs)
leading_are base [] a = tt
leading_are base (Plain n ∷ hs) a = (id_of_is base n a.0.0 a.0.1, leading_are base hs a.1)
leading_are base (Group n ∷ hs) a = tt

groups_are : (base : ℕ) (hs : List Hint) → AllByRecursion (IsSmall base) hs
    → AllByRecursion GroupHasIds (group_ids base hs)
groups_are base [] a = tt
groups_are base (Plain n ∷ hs) a = groups_are base hs a.1
groups_are base (Group n ∷ hs) a = (
  (
    id_of_is base n a.0.0 a.0.1,
    All-from_recursion IsId (leading_ids base hs) (leading_are base hs a.1),
  ),
  groups_are base hs a.1,
)

abbrev IsLineOf : ℕ → LogLine → Type 0
IsLineOf base l = AllByRecursion (λ k. IsId k.variable) l.clause
    × AllByRecursion (IsSmall base) l.hints

numbers_at : (d : Bool) (base before : ℕ) (l : LogLine) → IsLineOf base l
    → base + before + cond (not d) 1 0 < 2 ^ 62
    → HasNumbers (if d then Deletion (base + before) (map (λ h. id_of base (name_of h)) l.hints)
    else Addition (base + before + 1) l.clause (leading_ids base l.hints)
    (group_ids base l.hints))
numbers_at true base before l a small =
    (omega arith, All-from_recursion IsId _ (hint_ids base l.hints a.1))
numbers_at false base before l a small = (
  small,
  All-from_recursion (λ k. IsId k.variable) l.clause a.0,
  All-from_recursion IsId _ (leading_are base l.hints a.1),
  All-from_recursion GroupHasIds _ (groups_are base l.hints a.1),
)

numbers_on : (base before : ℕ) (ls : List LogLine) → AllByRecursion (IsLineOf base) ls
    → base + before + added_count ls < 2 ^ 62
    → AllByRecursion HasNumbers (numbered_on base before ls)
numbers_on base before [] a room = tt
numbers_on base before (l ∷ ls) a room = (
  numbers_at (is_delete l.kind) base before l a.0 (omega (arith, additions_cons l ls)),
  numbers_on base (if is_delete l.kind then before else before + 1) ls a.1
      (omega (arith, count_step before l ls)),
)

small_hints : (base : ℕ) (hs : List Hint) → All HasNumber hs
    → All (λ h. id_of base (name_of h) < 2 ^ 62) hs → AllByRecursion (IsSmall base) hs
small_hints base [] p s = tt
small_hints base (h ∷ hs) p s = (
  ((All-head HasNumber h hs p).0, All-head (λ h. id_of base (name_of h) < 2 ^ 62) h hs s),
  small_hints base hs (All-tail HasNumber h hs p)
      (All-tail (λ h. id_of base (name_of h) < 2 ^ 62) h hs s),
)

abbrev SmallIds : ℕ → LogLine → Type 0
SmallIds base l = All (λ h. id_of base (name_of h) < 2 ^ 62) l.hints

lines_of_log : (base : ℕ) (ls : List LogLine) → All IsLine ls → All (SmallIds base) ls
    → AllByRecursion (IsLineOf base) ls
lines_of_log base [] p s = tt
lines_of_log base (l ∷ ls) p s =
    let h = All-head IsLine l ls p in (
      (
        recursion_from_All (λ k. IsId k.variable) l.clause h.literals,
        small_hints base l.hints h.names (All-head (SmallIds base) l ls s),
      ),
      lines_of_log base ls (All-tail IsLine l ls p) (All-tail (SmallIds base) l ls s),
    )

pub numbered_lines-numbers : (base : ℕ) (ls : List LogLine) → All IsLine ls → HasSmallIds base ls
    → base + added_count ls < 2 ^ 62 → All HasNumbers (numbered_lines base ls)
numbered_lines-numbers base ls lines small room =
    All-from_recursion HasNumbers (numbered_lines base ls)
    (numbers_on base 0 ls (lines_of_log base ls lines small) (omega arith))

pub text_of-lines : (base : ℕ) (ls : List LogLine) → All IsLine ls → HasSmallIds base ls
    → base + added_count ls < 2 ^ 62 → IsTextOf (text_of base ls) (numbered_lines base ls)
text_of-lines base ls lines small room =
    text-lines (numbered_lines base ls) (numbered_lines-numbers base ls lines small room)
