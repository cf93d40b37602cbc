-- A line that begins with a word, against how it is spelled.
use Rattle.std.proofs.Common.{◌≡◌, ℕ, zero, suc, ◌<◌, ◌^◌, false, List, [], ◌∷◌}
use Rattle.std.proofs.Common.{◌++◌, map, get_or, Some, None, inl, inr, refl, sym, ◌∙◌, ap}
use Rattle.std.proofs.Common.{arith}
use Rattle.std.specs.List.{AllByRecursion, flat_map}
use Rattle.std.specs.Fmt.{decimal}
use Rattle.std.specs.Str.{bytes_eq}
use Rattle.std.proofs.lemmas.Bool.{cases_Bool}
use Rattle.std.proofs.lemmas.List.Elements.{recursion_from_All}
use Rattle.std.proofs.lemmas.Slice.Eq.{bytes_eq-Decides}
use lib.Chars.{codes}
use Rattle.cnf.specs.Literal.{Literal}
use Rattle.cnf.specs.Lrat.{IsId}
use Rattle.text.specs.Text.{literal_text}
use Rattle.lrat_read.specs.Form.{signed_of, unsigned_of, block_of}
use Rattle.lrat_read.specs.Words.{NamedFact, WordLine, CountLine, MoreLine, GroupLine, FormLine}
use Rattle.lrat_read.specs.Words.{CutLine, BoundLine, ended_facts, ended_ids, ended_literals}
use Rattle.lrat_read.specs.Words.{ended_number, clause_block_of, word_line_of}
use Rattle.lrat_read.specs.WordTokens.{IsNamed, HasWordNumbers, fact_tokens, word_tokens}
use Rattle.lrat_read.proofs.FactLaws.{facts_ahead, one_ahead}
use Rattle.lrat_read.proofs.IdLaws.{ids_ahead, one_id_ahead}
use Rattle.lrat_read.proofs.Lines.{ids_signed_literals, map_signed}
use Rattle.lrat_read.proofs.Lines.{map_spell_literal}
use Rattle.lrat_read.proofs.Lines.{signed_literal}
use Rattle.lrat_read.proofs.Tokens.{block_from, first_not_dash, signed_from, spell}

abbrev end : List (List ℕ)
end = codes "0" ∷ []

unsigned_from : (n : ℕ) → n < 2 ^ 62 → unsigned_of (decimal n) ≡ Some n
unsigned_from n small = let s : signed_of (decimal n) ≡ Some (false, n) = signed_from false n small
    in rw s refl

number_read : (n : ℕ) → n < 2 ^ 62 → ended_number (decimal n ∷ end) ≡ Some n
number_read n small = let u = unsigned_from n small in rw u refl

literals_read : (c : List Literal) (rest : List (List ℕ)) → AllByRecursion (λ l. IsId l.variable) c
    → clause_block_of (map literal_text c ++ (codes "0" ∷ rest)) ≡ Some (c, rest)
literals_read c rest h =
    let b = block_from (map signed_literal c) rest (ids_signed_literals c h) in
    let e : block_of (map literal_text c ++ (codes "0" ∷ rest))
    ≡ Some (map signed_literal c, rest) =
    ap (λ ts. block_of (ts ++ (codes "0" ∷ rest))) (sym (map_spell_literal c)) ∙ b in
    rw e (ap (λ (d : List Literal). Some (d, rest)) (map_signed c))

ended_read : (c : List Literal) → AllByRecursion (λ l. IsId l.variable) c
    → ended_literals (map literal_text c ++ end) ≡ Some c
ended_read c h = let e = literals_read c [] h in rw e refl

ids_read : (is : List ℕ) → AllByRecursion IsId is → ended_ids (map decimal is ++ end) ≡ Some is
ids_read [] h = refl
ids_read (i ∷ is) h =
    one_id_ahead (decimal i) (map decimal is ++ end) i (unsigned_from i h.0.1) h.0.0
    ∙ ap (ids_ahead (i ∷ [])) (ids_read is h.1)

facts_read : (fs : List NamedFact) → AllByRecursion IsNamed fs
    → ended_facts (flat_map fact_tokens fs ++ end) ≡ Some fs
facts_read [] h = refl
facts_read (f ∷ fs) h =
    one_ahead (decimal f.weight) (spell (f.is_numbered, f.number))
    (flat_map fact_tokens fs ++ end) f.weight f.is_numbered f.number
    (unsigned_from f.weight h.0.0.1) h.0.0.0
    (signed_from f.is_numbered f.number h.0.1.1) h.0.1.0
    ∙ ap (facts_ahead (f ∷ [])) (facts_read fs h.1)

-- a scale is no plus sign
no_plus : (d : ℕ) → d < 2 ^ 62 → bytes_eq (decimal d) (codes "+") ≡ false
no_plus d small =
    elim (cases_Bool (bytes_eq (decimal d) (codes "+"))) [
      | inl t ↦
          let same = (bytes_eq-Decides (decimal d) (codes "+")).0 t in
          let front : get_or (decimal d) 0 0 ≡ 43 = ap (λ u. get_or u 0 0) same in
          absurd (omega (arith, front, first_not_dash d small))
      | inr f ↦ f
    ]

-- what is spelled is read
pub word_line_read : (l : WordLine) → HasWordNumbers l
    → word_line_of (word_tokens l) ≡ Some (Some l)
word_line_read (CountLine outputs []) h = absurd (h.2 refl)
word_line_read (CountLine outputs (l ∷ ls)) h =
    let u = unsigned_from outputs h.0 in
    let e = ended_read (l ∷ ls) (recursion_from_All (λ k. IsId k.variable) (l ∷ ls) h.1) in
    rw u (rw e refl)
word_line_read (MoreLine zero) h = absurd (omega (arith, h.0))
word_line_read (MoreLine (suc n)) h = let e = number_read (suc n) h.1 in rw e refl
word_line_read (GroupLine inputs ids) h =
    let e = literals_read inputs (map decimal ids ++ end)
    (recursion_from_All (λ k. IsId k.variable) inputs h.0) in
    let i = ids_read ids (recursion_from_All IsId ids h.1) in
    rw e (rw i refl)
word_line_read (FormLine None facts) h =
    let e = facts_read facts (recursion_from_All IsNamed facts h.1) in rw e refl
word_line_read (FormLine (Some d) facts) h =
    let e = facts_read facts (recursion_from_All IsNamed facts h.1) in
    let p = no_plus d h.0 in
    let u = unsigned_from d h.0 in
    rw p (rw u (rw e refl))
word_line_read (CutLine c) h =
    let e = ended_read c (recursion_from_All (λ k. IsId k.variable) c h) in rw e refl
word_line_read (BoundLine lower) h = let e = number_read lower h in rw e refl
