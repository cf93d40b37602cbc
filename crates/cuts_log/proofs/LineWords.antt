-- The tokens of lines that begin with a word are words: none is empty, none has a space or a
-- line feed.
use Rattle.std.proofs.Common.{ℕ, List, [], ◌∷◌, ◌++◌, map}
use Rattle.std.proofs.Common.{Option, Some, None, arith}
use Rattle.std.specs.Fmt.{decimal}
use Rattle.std.specs.List.{AllByRecursion, flat_map}
use Rattle.std.proofs.lemmas.List.Elements.{recursion_from_All}
use lib.Chars.{codes}
use Rattle.cnf.specs.Lrat.{IsId}
use Rattle.text.specs.Text.{literal_text}
use Rattle.lrat_log.proofs.Laws.{IsWord, decimal_word, literal_word, words_append, words_clause}
use Rattle.lrat_log.proofs.Laws.{words_decimal, zero_word}
use Rattle.lrat_read.specs.Words.{NamedFact, WordLine, CountLine, MoreLine, GroupLine, FormLine}
use Rattle.lrat_read.specs.Words.{CutLine, BoundLine}
use Rattle.lrat_read.specs.WordTokens.{HasWordNumbers, IsNamed, IsScale, fact_tokens, scale_token}
use Rattle.lrat_read.specs.WordTokens.{word_tokens}

abbrev pub AreWords : List (List ℕ) → Type 0
AreWords ts = AllByRecursion IsWord ts

with_zero : (ts : List (List ℕ)) → AreWords ts → AreWords (ts ++ codes "0" ∷ [])
with_zero ts h = words_append ts (codes "0" ∷ []) h zero_word

facts_words : (fs : List NamedFact) → AllByRecursion IsNamed fs → AreWords (flat_map fact_tokens fs)
facts_words [] h = tt
facts_words (f ∷ fs) h = (
  decimal_word f.weight h.0.0.1,
  (
    literal_word f.is_numbered f.number h.0.1.1,
    facts_words fs h.1,
  ),
)

scale_word : (scale : Option ℕ) → IsScale scale → IsWord (scale_token scale)
scale_word None h = (omega arith, tt)
scale_word (Some d) h = decimal_word d h

count_word : IsWord (codes "count")
count_word = (omega arith, (omega arith, (omega arith, (omega arith, (omega arith, tt)))))

more_word : IsWord (codes "more")
more_word = (omega arith, (omega arith, (omega arith, (omega arith, tt))))

group_word : IsWord (codes "group")
group_word = (omega arith, (omega arith, (omega arith, (omega arith, (omega arith, tt)))))

form_word : IsWord (codes "form")
form_word = (omega arith, (omega arith, (omega arith, (omega arith, tt))))

cut_word : IsWord (codes "cut")
cut_word = (omega arith, (omega arith, (omega arith, tt)))

bound_word : IsWord (codes "bound")
bound_word = (omega arith, (omega arith, (omega arith, (omega arith, (omega arith, tt)))))

-- those of a line that begins with a word
pub word_words : (w : WordLine) → HasWordNumbers w → AreWords (word_tokens w)
word_words (CountLine outputs inputs) h = (
  count_word,
  (
    decimal_word outputs h.0,
    with_zero (map literal_text inputs)
        (words_clause inputs (recursion_from_All (λ l. IsId l.variable) inputs h.1)),
  ),
)
word_words (MoreLine number) h = (more_word, (decimal_word number h.1, zero_word))
word_words (GroupLine inputs ids) h = (
  group_word,
  words_append (map literal_text inputs) (codes "0" ∷ (map decimal ids ++ codes "0" ∷ []))
      (words_clause inputs (recursion_from_All (λ l. IsId l.variable) inputs h.0)) (
        zero_word.0,
        with_zero (map decimal ids) (words_decimal ids (recursion_from_All IsId ids
            h.1)),
      ),
)
word_words (FormLine scale facts) h = (
  form_word,
  (
    scale_word scale h.0,
    with_zero (flat_map fact_tokens facts)
        (facts_words facts (recursion_from_All IsNamed facts h.1)),
  ),
)
word_words (CutLine c) h = (
  cut_word,
  with_zero (map literal_text c)
      (words_clause c (recursion_from_All (λ l. IsId l.variable) c h)),
)
word_words (BoundLine lower) h = (bound_word, (decimal_word lower h, zero_word))
