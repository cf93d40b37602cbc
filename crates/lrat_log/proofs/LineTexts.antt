-- The text of a line, in the pieces in which it is put.
use Rattle.std.proofs.Common.{◌≡◌, ℕ, zero, suc, ◌+◌, ◌-◌, ◌<◌, ◌≤◌, Bool, true, false, List, []}
use Rattle.std.proofs.Common.{◌∷◌, ◌++◌, length, map, take, drop, get_or, Option, Result, refl}
use Rattle.std.proofs.Common.{sym, ◌∙◌}
use Rattle.std.proofs.Common.{ap, subst, arith, append_assoc, append-nil, add-zero, add-one}
use Rattle.std.specs.Prelude.{All, slice_set, if◌then◌else◌}
use Rattle.std.specs.List.{flat_map, AllByRecursion}
use Rattle.std.specs.Fmt.{decimal}
use Rattle.std.proofs.lemmas.List.Elements.{recursion_from_All}
use lib.Chars.{codes}
use Rattle.cnf.specs.Literal.{Literal}
use Rattle.text.specs.Text.{literal_text}
use Rattle.text.specs.Writing.{PassesOn, AppendsPart, Puts, Writes}
use Rattle.cnf.specs.Lrat.{ProofLine, Addition, Deletion}
use Rattle.text.specs.LratText.{group_tokens}
use Rattle.text.proofs.Laws.{spaced-last, first_fault, passed-more, passed_fault}
use Rattle.text.proofs.Laws.{puts_after, writes_after}
use Rattle.text.proofs.Laws.{flat_map-append, items_fault, items_more, all_taken}
use Rattle.lrat_log.specs.declared.lines.Hint.{Hint}
use Rattle.lrat_log.specs.declared.lines.Hint.TheVariants.{Plain, Group}
use Rattle.lrat_log.specs.Log.{LogLine, IsPlain, is_delete, name_of, id_of, leading_ids, group_ids}
use Rattle.lrat_log.specs.Log.{numbered_on, numbered_lines, text_of, line_at}
use Rattle.lrat_log.specs.Texts.{number_text, literals_text, hints_text, end_text, line_text}
use Rattle.lrat_log.specs.Texts.{numbered_after, last_after}
use Rattle.lrat_log.specs.Steps.{added_count}
use Rattle.lrat_log.proofs.Additions.{count_step}

-- each token with the space behind it
abbrev pub with_spaces : List (List ℕ) → List ℕ
with_spaces ts = flat_map (λ t. t ++ 32 ∷ []) ts

pub literals_spaced : (c : List Literal) → with_spaces (map literal_text c) ≡ literals_text c
literals_spaced [] = refl
literals_spaced (l ∷ c) = ap (λ z. (literal_text l ++ 32 ∷ []) ++ z) (literals_spaced c)

pub hints_spaced : (base : ℕ) (hs : List Hint)
    → with_spaces (map decimal (leading_ids base hs) ++ flat_map group_tokens (group_ids base hs))
    ≡ hints_text base hs
hints_spaced base [] = refl
hints_spaced base (Plain n ∷ hs) =
    ap (λ z. (decimal (id_of base n) ++ 32 ∷ []) ++ z) (hints_spaced base hs)
hints_spaced base (Group n ∷ hs) =
    ap (λ z. ((45 ∷ decimal (id_of base n)) ++ 32 ∷ []) ++ z) (hints_spaced base hs)

plain_spaced : (base : ℕ) (hs : List Hint) → AllByRecursion IsPlain hs
    → with_spaces (map decimal (map (λ h. id_of base (name_of h)) hs)) ≡ hints_text base hs
plain_spaced base [] p = refl
plain_spaced base (Plain n ∷ hs) p =
    ap (λ z. (decimal (id_of base n) ++ 32 ∷ []) ++ z) (plain_spaced base hs p.1)
plain_spaced base (Group n ∷ hs) p = absurd p.0

pub addition_text : (base id : ℕ) (c : List Literal) (hs : List Hint)
    → line_text (Addition id c (leading_ids base hs) (group_ids base hs))
    ≡ (number_text false id ++ literals_text c) ++ end_text (codes "0 ") base hs
addition_text base id c hs =
    let lits = map literal_text c in
    let plain = map decimal (leading_ids base hs) in
    let groups = flat_map group_tokens (group_ids base hs) in
    let front : List (List ℕ) = (decimal id ∷ lits ++ codes "0" ∷ plain) ++ groups in
    let same : front ≡ decimal id ∷ lits ++ (codes "0" ∷ (plain ++ groups)) =
    append_assoc (decimal id ∷ lits) (codes "0" ∷ plain) groups in
    spaced-last front (codes "0")
    ∙ ap (λ z. with_spaces z ++ codes "0\n") (same)
    ∙ ap (λ z. z ++ codes "0\n") (flat_map-append (λ t. t ++ 32 ∷ []) (decimal id ∷ lits)
    (codes "0" ∷ (plain ++ groups)))
    ∙ ap (λ z. ((number_text false id ++ z) ++ with_spaces (codes "0" ∷ (plain ++ groups)))
    ++ codes "0\n") (literals_spaced c)
    ∙ ap (λ z. ((number_text false id ++ literals_text c) ++ (codes "0 " ++ z)) ++ codes "0\n")
    (hints_spaced base hs)
    ∙ append_assoc (number_text false id ++ literals_text c) (codes "0 " ++ hints_text base hs)
    (codes "0\n")

pub deletion_text : (base lead : ℕ) (hs : List Hint) → All IsPlain hs
    → line_text (Deletion lead (map (λ h. id_of base (name_of h)) hs)) ≡ number_text false lead
    ++ end_text (codes "d ") base hs
deletion_text base lead hs p =
    let ids : List (List ℕ) = map decimal (map (λ h. id_of base (name_of h)) hs) in
    spaced-last (decimal lead ∷ codes "d" ∷ ids) (codes "0")
    ∙ ap (λ z. (number_text false lead ++ (codes "d " ++ z)) ++ codes "0\n")
    (plain_spaced base hs (recursion_from_All IsPlain hs p))
    ∙ append_assoc (number_text false lead) (codes "d " ++ hints_text base hs) (codes "0\n")

-- digits at the end of a buffer
last_byte : (xs : List ℕ) (n b : ℕ) → length xs ≡ suc n → get_or xs n 0 ≡ b → drop n xs ≡ b ∷ []
last_byte [] n b e h = absurd (omega arith)
last_byte (x ∷ []) zero b e h = ap (λ z. z ∷ []) h
last_byte (x ∷ y ∷ xs) zero b e h = absurd (omega arith)
last_byte (x ∷ xs) (suc n) b e h = last_byte xs n b (omega arith) h

drop_set : (xs : List ℕ) (k b : ℕ) → k < length xs → drop k (slice_set xs k b) ≡ b ∷ drop (suc k) xs
drop_set [] k b h = absurd (omega arith)
drop_set (x ∷ xs) zero b h = refl
drop_set (x ∷ xs) (suc k) b h = drop_set xs k b (omega arith)

-- the digits, before the space that was there
pub digits_spelled : (old new : List ℕ) (start n : ℕ) → length old ≡ 22 → get_or old 21 0 ≡ 32
    → drop start new ≡ decimal n ++ drop 21 old → drop start new ≡ number_text false n
digits_spelled old new start n e h w = w ∙ ap (λ z. decimal n ++ z) (last_byte old 21 32 e h)

pub dash_spelled : (old new : List ℕ) (start n : ℕ) → length old ≡ 22 → get_or old 21 0 ≡ 32
    → drop start new ≡ decimal n ++ drop 21 old → 0 < start → start ≤ length new
    → drop (start - 1) (slice_set new (start - 1) 45) ≡ number_text true n
dash_spelled old new zero n e h w some le = absurd (omega arith)
dash_spelled old new (suc k) n e h w some le =
    let same : suc k - 1 ≡ k = omega arith in
    rw same (drop_set new k 45 (omega arith)
    ∙ ap (λ z. 45 ∷ z) (digits_spelled old new (suc k) n e h w))

-- a fault in an item of a list
pub item_fault : {X : Type 0} (f : X → List ℕ) (a b c : Option (List ℕ)) (h j : List ℕ)
    (xs : List X) (i : ℕ) (x : X) → i < length xs → x ≡ get_or xs i x
    → PassesOn a h (flat_map f (take i xs)) b j → AppendsPart b c (j ++ f x)
    → AppendsPart a c (h ++ flat_map f xs)
item_fault f a b c h j xs i x lt is p q =
    subst (λ z. AppendsPart a c (h ++ z)) (append-nil (flat_map f xs))
    (items_fault f a b c h j [] (f x) [] [] xs i x lt is (sym (append-nil (f x))) p q)

-- the end of a line
module _ (a b c d : Option (List ℕ)) (h i j k word : List ℕ) (base : ℕ) (hs : List Hint) where
  pub word_fault : AppendsPart a b (h ++ word) → AppendsPart a b (h ++ end_text word base hs)
  word_fault q =
      first_fault a b h word (hints_text base hs ++ codes "0\n") (end_text word base hs) q
      (append_assoc word (hints_text base hs) (codes "0\n"))

  pub hints_fault : PassesOn a h word b i → AppendsPart b c (i ++ hints_text base hs)
      → AppendsPart a c (h ++ end_text word base hs)
  hints_fault p q =
      passed_fault a b c h i word (hints_text base hs) (codes "0\n") (end_text word base hs) p q
      (append_assoc word (hints_text base hs) (codes "0\n"))

  pub end_puts : {T E : Type 0} (r : Result T E) → PassesOn a h word b i
      → PassesOn b i (hints_text base hs) c j → Puts r c j (48 ∷ 10 ∷ []) d k
      → Puts r a h (end_text word base hs) d k
  end_puts r p q s =
      puts_after r a c d h j k (word ++ hints_text base hs) (codes "0\n")
      (passed-more a b c h i j word (hints_text base hs) p q) s

-- a deletion
module _ (a b c : Option (List ℕ)) (h i j : List ℕ) (base lead : ℕ) (hs : List Hint)
    (plain : All IsPlain hs) where
  abbrev line : List ℕ
  line = line_text (Deletion lead (map (λ x. id_of base (name_of x)) hs))

  abbrev rest : List ℕ
  rest = end_text (codes "d ") base hs

  pub lead_fault : AppendsPart a b (h ++ number_text false lead)
      → AppendsPart a b (h ++ line_text (Deletion lead (map (λ x. id_of base (name_of x)) hs)))
  lead_fault q =
      first_fault a b h (number_text false lead) rest line q (deletion_text base lead hs plain)

  pub deletion_puts : {T E : Type 0} (r : Result T E) → PassesOn a h (number_text false lead) b i
      → Puts r b i rest c j
      → Puts r a h (line_text (Deletion lead (map (λ x. id_of base (name_of x)) hs))) c j
  deletion_puts r p q =
      subst (λ z. Puts r a h z c j) (sym (deletion_text base lead hs plain))
      (puts_after r a b c h i j (number_text false lead) rest p q)

-- an addition
module _ (a b c d : Option (List ℕ)) (h i j k : List ℕ) (base id : ℕ) (lits : List Literal)
    (hs : List Hint) where
  abbrev added : List ℕ
  added = line_text (Addition id lits (leading_ids base hs) (group_ids base hs))

  abbrev after : List ℕ
  after = end_text (codes "0 ") base hs

  pieces : added ≡ number_text false id ++ (literals_text lits ++ after)
  pieces = addition_text base id lits hs
      ∙ append_assoc (number_text false id) (literals_text lits) after

  pub id_fault : AppendsPart a b (h ++ number_text false id)
      → AppendsPart a b (h ++ line_text
      (Addition id lits (leading_ids base hs) (group_ids base hs)))
  id_fault q = first_fault a b h (number_text false id) (literals_text lits ++ after) added q pieces

  pub literals_fault : PassesOn a h (number_text false id) b i
      → AppendsPart b c (i ++ literals_text lits)
      → AppendsPart a c (h ++ line_text
      (Addition id lits (leading_ids base hs) (group_ids base hs)))
  literals_fault p q =
      passed_fault a b c h i (number_text false id) (literals_text lits) after added p q pieces

  pub addition_puts : {T E : Type 0} (r : Result T E) → PassesOn a h (number_text false id) b i
      → PassesOn b i (literals_text lits) c j → Puts r c j after d k
      → Puts r a h (line_text (Addition id lits (leading_ids base hs) (group_ids base hs))) d k
  addition_puts r p q s =
      subst (λ z. Puts r a h z d k) (sym (addition_text base id lits hs))
      (puts_after r a c d h j k (number_text false id ++ literals_text lits) after
      (passed-more a b c h i j (number_text false id) (literals_text lits) p q) s)

-- a line after those that gave the last id
pub line_deletes : (base last : ℕ) (l : LogLine) (hs : List Hint) → is_delete l.kind ≡ true
    → hs ≡ l.hints
    → line_text (numbered_after base last l)
    ≡ line_text (Deletion last (map (λ h. id_of base (name_of h)) hs))
line_deletes base last l hs d e =
    ap (λ b. line_text (if b then Deletion last (map (λ h. id_of base (name_of h)) l.hints)
    else Addition (last + 1) l.clause (leading_ids base l.hints) (group_ids base l.hints))) d
    ∙ ap (λ x. line_text (Deletion last (map (λ h. id_of base (name_of h)) x))) (sym e)

pub line_adds : (base last : ℕ) (l : LogLine) (lits : List Literal) (hs : List Hint)
    → is_delete l.kind ≡ false → lits ≡ l.clause → hs ≡ l.hints
    → line_text (numbered_after base last l)
    ≡ line_text (Addition (last + 1) lits (leading_ids base hs) (group_ids base hs))
line_adds base last l lits hs d p e =
    ap (λ b. line_text (if b then Deletion last (map (λ h. id_of base (name_of h)) l.hints)
    else Addition (last + 1) l.clause (leading_ids base l.hints) (group_ids base l.hints))) d
    ∙ ap (λ x. line_text (Addition (last + 1) x (leading_ids base l.hints)
    (group_ids base l.hints))) (sym p)
    ∙ ap (λ x. line_text (Addition (last + 1) lits (leading_ids base x) (group_ids base x))) (sym e)

-- the last id that the first k lines give
abbrev pub last_on : ℕ → List LogLine → ℕ → ℕ
last_on last ls zero = last
last_on last [] (suc k) = last
last_on last (l ∷ ls) (suc k) = last_on (last_after last l) ls k

step_last : (d : Bool) (base before : ℕ) → base + (if d then before else before + 1)
    ≡ (if d then base + before else base + before + 1)
step_last true base before = refl
step_last false base before = omega arith

numbered_on-at : (base before : ℕ) (ls : List LogLine) (k : ℕ) (x : ProofLine) → k < length ls
    → numbered_after base (last_on (base + before) ls k) (line_at ls k)
    ≡ get_or (numbered_on base before ls) k x
numbered_on-at base before [] k x h = absurd (omega arith)
numbered_on-at base before (l ∷ ls) zero x h = refl
numbered_on-at base before (l ∷ ls) (suc k) x h =
    ap (λ n. numbered_after base (last_on n ls k) (line_at ls k))
    (sym (step_last (is_delete l.kind) base before))
    ∙ numbered_on-at base (if is_delete l.kind then before else before + 1) ls k x (omega arith)

length-numbered_on : (base before : ℕ) (ls : List LogLine)
    → length (numbered_on base before ls) ≡ length ls
length-numbered_on base before [] = refl
length-numbered_on base before (l ∷ ls) =
    ap suc (length-numbered_on base (if is_delete l.kind then before else before + 1) ls)

pub length-numbered_lines : (base : ℕ) (ls : List LogLine)
    → length (numbered_lines base ls) ≡ length ls
length-numbered_lines base ls = length-numbered_on base 0 ls

pub numbered_lines-at : (base : ℕ) (ls : List LogLine) (k : ℕ) (x : ProofLine) → k < length ls
    → numbered_after base (last_on base ls k) (line_at ls k) ≡ get_or (numbered_lines base ls) k x
numbered_lines-at base ls k x h =
    ap (λ n. numbered_after base (last_on n ls k) (line_at ls k)) (sym (add-zero base))
    ∙ numbered_on-at base 0 ls k x h

last_on-suc : (last : ℕ) (ls : List LogLine) (k : ℕ) → k < length ls
    → last_on last ls (suc k) ≡ last_after (last_on last ls k) (line_at ls k)
last_on-suc last [] k h = absurd (omega arith)
last_on-suc last (l ∷ ls) zero h = refl
last_on-suc last (l ∷ ls) (suc k) h = last_on-suc (last_after last l) ls k (omega arith)

pub last_on-more : (last : ℕ) (ls : List LogLine) (k : ℕ) → k < length ls
    → last_on last ls (k + 1) ≡ last_after (last_on last ls k) (line_at ls k)
last_on-more last ls k h = rw add-one (last_on-suc last ls k h)

pub last_on-few : (last : ℕ) (ls : List LogLine) (k : ℕ) → last_on last ls k ≤ last + added_count ls
last_on-few last ls zero = omega arith
last_on-few last [] (suc k) = omega arith
last_on-few last (l ∷ ls) (suc k) =
    let h = last_on-few (last_after last l) ls k in omega (arith, count_step last l ls)

-- a line put under another spelling
pub passes_as : (a b : Option (List ℕ)) (h j x y : List ℕ) → x ≡ y → PassesOn a h y b j
    → PassesOn a h x b j
passes_as a b h j x y e p = subst (λ z. PassesOn a h z b j) (sym e) p

pub part_as : (a b : Option (List ℕ)) (h x y : List ℕ) → x ≡ y → AppendsPart a b (h ++ y)
    → AppendsPart a b (h ++ x)
part_as a b h x y e p = subst (λ z. AppendsPart a b (h ++ z)) (sym e) p

-- the lines of a log, one after another
abbrev pub put_before : ℕ → List LogLine → ℕ → List ℕ
put_before base ls k = flat_map line_text (take k (numbered_lines base ls))

module _ (a b c : Option (List ℕ)) (i j : List ℕ) (base last : ℕ) (ls : List LogLine) (k : ℕ) where
  abbrev this : ProofLine
  this = numbered_after base last (line_at ls k)

  this_is : k < length ls → last ≡ last_on base ls k → this ≡ get_or (numbered_lines base ls) k this
  this_is h e = ap (λ n. numbered_after base n (line_at ls k)) e
      ∙ numbered_lines-at base ls k this h

  pub lines_more : k < length ls → last ≡ last_on base ls k
      → PassesOn a [] (put_before base ls k) b i
      → PassesOn b i (line_text (numbered_after base last (line_at ls k))) c j
      → PassesOn a [] (put_before base ls (k + 1)) c j
  lines_more h e p q = let n = length-numbered_lines base ls in
      items_more line_text a b c [] i j [] (numbered_lines base ls) k this (omega arith)
      (this_is h e) p q

  pub line_fault : k < length ls → last ≡ last_on base ls k
      → PassesOn a [] (put_before base ls k) b i
      → AppendsPart b c (i ++ line_text (numbered_after base last (line_at ls k)))
      → AppendsPart a c (text_of base ls)
  line_fault h e p q = let n = length-numbered_lines base ls in
      item_fault line_text a b c [] i (numbered_lines base ls) k this (omega arith)
      (this_is h e) p q

  pub text_written : {T E : Type 0} (r : Result T E) → length ls ≤ k
      → PassesOn a [] (put_before base ls k) b i → Writes r b i c → Writes r a (text_of base ls) c
  text_written r h p q =
      let n = length-numbered_lines base ls in
      subst (λ z. Writes r a z c) (all_taken line_text (numbered_lines base ls) k (omega arith))
      (writes_after r a b c [] i (put_before base ls k) p q)

pub last_next : (base last next : ℕ) (ls : List LogLine) (k : ℕ) → k < length ls
    → last ≡ last_on base ls k → next ≡ last_after last (line_at ls k)
    → next ≡ last_on base ls (k + 1)
last_next base last next ls k h e f = f ∙ ap (λ n. last_after n (line_at ls k)) e
    ∙ sym (last_on-more base ls k h)
