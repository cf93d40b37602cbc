-- The lines of a DIMACS text, as they are put together.
use Rattle.std.proofs.Common.{◌≡◌, ℕ, ◌+◌, ◌<◌, ◌≤◌, List, [], ◌∷◌, ◌++◌, length, map, take, get_or}
use Rattle.std.proofs.Common.{Option, Result, refl, sym, ◌∙◌, ap, append-nil}
use Rattle.std.specs.List.{flat_map}
use Rattle.std.specs.Fmt.{decimal}
use lib.Chars.{codes}
use Rattle.cnf.specs.Literal.{Literal}
use Rattle.text.specs.Text.{literal_text}
use Rattle.text.specs.Writing.{PassesOn, AppendsPart, Puts}
use Rattle.text.proofs.Laws.{items_more, items_fault, all_taken}
use Rattle.text.proofs.Laws.{first_fault, passed_part-more, puts_after, spaced-last}
use Rattle.bound.specs.Bound.{dimacs_clause}

abbrev pub literals_text : List Literal → List ℕ
literals_text c = flat_map (λ l. literal_text l ++ 32 ∷ []) c

flat_map-map : (c : List Literal)
    → flat_map (λ t. t ++ 32 ∷ []) (map literal_text c) ≡ literals_text c
flat_map-map [] = refl
flat_map-map (l ∷ c) = ap (λ z. (literal_text l ++ 32 ∷ []) ++ z) (flat_map-map c)

pub clause_line : (c : List Literal) → dimacs_clause c ≡ literals_text c ++ codes "0\n"
clause_line c = spaced-last (map literal_text c) (codes "0")
    ∙ ap (λ z. z ++ codes "0\n") (flat_map-map c)

-- the line of a clause
module _ (a b c : Option (List ℕ)) (h j k : List ℕ) (lits : List Literal) (i : ℕ) where
  pub literal_fault : (l : Literal) → i < length lits → l ≡ get_or lits i l
      → PassesOn a h (literals_text (take i lits)) b j
      → AppendsPart b c (j ++ (literal_text l ++ 32 ∷ []))
      → AppendsPart a c (h ++ dimacs_clause lits)
  literal_fault l lt is p q =
      let whole = literal_text l ++ 32 ∷ [] in
      rw (clause_line lits) (items_fault (λ x. literal_text x ++ 32 ∷ []) a b c h j [] whole []
      (codes "0\n") lits i l lt is (sym (append-nil whole)) p q)

  pub literal_more : (l : Literal) → i < length lits → l ≡ get_or lits i l
      → PassesOn a h (literals_text (take i lits)) b j
      → PassesOn b j (literal_text l ++ 32 ∷ []) c k
      → PassesOn a h (literals_text (take (i + 1) lits)) c k
  literal_more l lt is p q =
      items_more (λ x. literal_text x ++ 32 ∷ []) a b c h j k [] lits i l lt is p q

  pub clause_end : {T E : Type 0} (r : Result T E) → length lits ≤ i
      → PassesOn a h (literals_text (take i lits)) b j → Puts r b j (48 ∷ 10 ∷ []) c k
      → Puts r a h (dimacs_clause lits) c k
  clause_end r le p q =
      rw (clause_line lits, ← all_taken (λ x. literal_text x ++ 32 ∷ []) lits i le)
      (puts_after r a b c h j k (literals_text (take i lits)) (codes "0\n") p q)

-- the first line
abbrev pub header_text : ℕ → ℕ → List ℕ
header_text v n = codes "p cnf " ++ (decimal v ++ ((32 ∷ []) ++ (decimal n ++ 10 ∷ [])))

pub name_fault : (a b : Option (List ℕ)) (h : List ℕ) (v n : ℕ)
    → AppendsPart a b (h ++ codes "p cnf ") → AppendsPart a b (h ++ header_text v n)
name_fault a b h v n q =
    first_fault a b h (codes "p cnf ") (decimal v ++ ((32 ∷ []) ++ (decimal n ++ 10 ∷ [])))
    (header_text v n) q refl

pub variables_fault : (a b c : Option (List ℕ)) (h i : List ℕ) (v n : ℕ)
    → PassesOn a h (codes "p cnf ") b i → AppendsPart b c (i ++ decimal v)
    → AppendsPart a c (h ++ header_text v n)
variables_fault a b c h i v n p q =
    let rest = (32 ∷ []) ++ (decimal n ++ 10 ∷ []) in
    passed_part-more a b c h i (codes "p cnf ") (decimal v ++ rest) p
    (first_fault b c i (decimal v) rest (decimal v ++ rest) q refl)

-- the line up to the number of variables was put
abbrev pub PutsVariables : Option (List ℕ) → List ℕ → ℕ → Option (List ℕ) → List ℕ → Type 0
PutsVariables a h v b i = PassesOn a h (codes "p cnf " ++ decimal v) b i

pub between_fault : (a b c : Option (List ℕ)) (h i : List ℕ) (v n : ℕ) → PutsVariables a h v b i
    → AppendsPart b c (i ++ 32 ∷ []) → AppendsPart a c (h ++ header_text v n)
between_fault a b c h i v n p q =
    let rest = decimal n ++ 10 ∷ [] in
    passed_part-more a b c h i (codes "p cnf " ++ decimal v) ((32 ∷ []) ++ rest) p
    (first_fault b c i (32 ∷ []) rest ((32 ∷ []) ++ rest) q refl)

pub count_fault : (a b c d : Option (List ℕ)) (h i j : List ℕ) (v n : ℕ) → PutsVariables a h v b i
    → PassesOn b i (32 ∷ []) c j → AppendsPart c d (j ++ decimal n)
    → AppendsPart a d (h ++ header_text v n)
count_fault a b c d h i j v n p q r =
    let rest = decimal n ++ 10 ∷ [] in
    passed_part-more a b d h i (codes "p cnf " ++ decimal v) ((32 ∷ []) ++ rest) p
    (passed_part-more b c d i j (32 ∷ []) rest q
    (first_fault c d j (decimal n) (10 ∷ []) rest r refl))

pub header_end : {T E : Type 0} (result : Result T E) (a b c d e : Option (List ℕ))
    (h i j k l : List ℕ) (v n : ℕ) → PutsVariables a h v b i → PassesOn b i (32 ∷ []) c j
    → PassesOn c j (decimal n) d k → Puts result d k (10 ∷ []) e l
    → Puts result a h (header_text v n) e l
header_end result a b c d e h i j k l v n p q r s =
    puts_after result a b e h i l (codes "p cnf " ++ decimal v)
    ((32 ∷ []) ++ (decimal n ++ 10 ∷ [])) p
    (puts_after result b c e i j l (32 ∷ []) (decimal n ++ 10 ∷ []) q
    (puts_after result c d e j k l (decimal n) (10 ∷ []) r s))
