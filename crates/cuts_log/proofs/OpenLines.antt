-- Lines with and without their line feeds.
use Rattle.std.proofs.Common.{◌≡◌, ℕ, ◌+◌, ◌^◌, ◌<◌, Bool, true, false, List, [], ◌∷◌, ◌++◌}
use Rattle.std.proofs.Common.{map}
use Rattle.std.proofs.Common.{refl, sym, ◌∙◌, ap, subst, arith, append_assoc, append-nil, inl, inr}
use Rattle.std.specs.Prelude.{◌==◌, if◌then◌else◌}
use Rattle.std.specs.List.{AllByRecursion, flat_map}
use Rattle.std.specs.Fmt.{decimal}
use Rattle.std.proofs.lemmas.List.Elements.{All-nil, recursion_from_All}
use lib.Chars.{codes}
use Rattle.cnf.specs.Lrat.{Addition, Deletion, IsId}
use Rattle.text.specs.LratText.{group_tokens, line_tokens}
use Rattle.text.specs.Pieces.{IsEnded}
use Rattle.text.specs.Text.{IsNoFeed, literal_text}
use Rattle.text.specs.Writing.{joined, spaced}
use Rattle.text.proofs.Laws.{spaced-joined}
use Rattle.lrat_log.specs.declared.lines.Hint.{Hint}
use Rattle.lrat_log.specs.declared.lines.Hint.TheVariants.{Plain as PlainHint, Group}
use Rattle.lrat_log.specs.declared.lines.Name.{Name}
use Rattle.lrat_log.specs.declared.lines.Name.TheVariants.{Formula, Added}
use Rattle.lrat_log.specs.declared.log.TheConstants.{LINE_LIMIT}
use Rattle.lrat_log.specs.Log.{HasNumber, IsLine, LogLine, group_ids, id_of, is_delete, leading_ids}
use Rattle.lrat_log.specs.Log.{name_of, number_in, numbered_line}
use Rattle.lrat_log.proofs.Laws.{dashed_word, joined_text, no_feed, number_word, words_append}
use Rattle.lrat_log.proofs.Laws.{words_clause, zero_word}
use Rattle.cuts_log.specs.declared.standing.Standing.{Standing}
use Rattle.cuts_log.specs.Events.{Event, Plain, Word, open_text, tokens_at}
use Rattle.cuts_log.specs.Stands.{TakesAll}
use Rattle.cuts_log.proofs.LineWords.{AreWords, word_words}

-- Lines with their line feeds.
pub ended-more : (a b : List ℕ) → IsEnded a → IsEnded b → IsEnded (a ++ b)
ended-more a b h (inl e) = subst IsEnded (sym (ap (λ x. a ++ x) e ∙ append-nil a)) h
ended-more a b h (inr e) =
    inr (a ++ e.0, ap (λ x. a ++ x) e.1 ∙ sym (append_assoc a e.0 (10 ∷ [])))

pub ended_lines : (tss : List (List (List ℕ))) → IsEnded (flat_map spaced tss)
ended_lines [] = inl refl
ended_lines (ts ∷ tss) =
    ended-more (spaced ts) (flat_map spaced tss) (inr (joined ts, spaced-joined ts))
    (ended_lines tss)

-- the tokens of an addition or a deletion
module _ (base : ℕ) (small : base < LINE_LIMIT) where
  id_small : (n : Name) → IsId (number_in n) → id_of base n < 2 ^ 64
  id_small (Formula i) h = omega (arith, h.1)
  id_small (Added j) h = omega (arith, small, h.1)

  ids_words : (hs : List Hint) → AllByRecursion HasNumber hs
      → AreWords (map decimal (map (λ h. id_of base (name_of h)) hs))
  ids_words [] h = tt
  ids_words (x ∷ hs) h =
      (number_word (id_of base (name_of x)) (id_small (name_of x) h.0), ids_words hs h.1)

  leading_words : (hs : List Hint) → AllByRecursion HasNumber hs
      → AreWords (map decimal (leading_ids base hs))
  leading_words [] h = tt
  leading_words (PlainHint n ∷ hs) h =
      (number_word (id_of base n) (id_small n h.0), leading_words hs h.1)
  leading_words (Group n ∷ hs) h = tt

  groups_words : (hs : List Hint) → AllByRecursion HasNumber hs
      → AreWords (flat_map group_tokens (group_ids base hs))
  groups_words [] h = tt
  groups_words (PlainHint n ∷ hs) h = groups_words hs h.1
  groups_words (Group n ∷ hs) h = (
    dashed_word (id_of base n) (id_small n h.0),
    words_append (map decimal (leading_ids base hs)) (flat_map group_tokens (group_ids base hs))
        (leading_words hs h.1) (groups_words hs h.1),
  )

  plain_words : (before : ℕ) (l : LogLine) → before < LINE_LIMIT → IsLine l
      → AreWords (line_tokens (numbered_line base before l))
  plain_words before l few h = by (is_delete l.kind)
    where
      names : AllByRecursion HasNumber l.hints
      names = recursion_from_All HasNumber l.hints h.names

      by : (d : Bool) → AreWords (line_tokens (if d
          then Deletion (base + before) (map (λ x. id_of base (name_of x)) l.hints)
          else Addition (base + before + 1) l.clause (leading_ids base l.hints)
          (group_ids base l.hints)))
      by true = (
        number_word (base + before) (omega (arith, small, few)),
        (
          (omega arith, tt),
          words_append (map decimal (map (λ x. id_of base (name_of x)) l.hints)) (codes "0" ∷ [])
              (ids_words l.hints names) zero_word,
        ),
      )
      by false =
          let lits = map literal_text l.clause in
          let plain = map decimal (leading_ids base l.hints) in
          let groups = flat_map group_tokens (group_ids base l.hints) in
          let front =
          words_append lits (codes "0" ∷ plain)
          (words_clause l.clause (recursion_from_All (λ k. IsId k.variable) l.clause h.literals))
          (zero_word.0, leading_words l.hints names) in
          let all =
          words_append (lits ++ codes "0" ∷ plain) groups front (groups_words l.hints names) in (
            number_word (base + before + 1) (omega (arith, small, few)),
            words_append (lits ++ codes "0" ∷ plain ++ groups) (codes "0" ∷ []) all zero_word,
          )

-- a line that was taken has one line feed, at its end
pub open_feed : (cost base before : ℕ) (old new : Standing) (es : List Event) → base < LINE_LIMIT
    → before < LINE_LIMIT → TakesAll cost old es new → IsNoFeed (open_text base before es)
open_feed cost base before old new [] small few h = All-nil (λ b. (b == 10) ≡ false)
open_feed cost base before old new (Plain l ∷ es) small few h =
    no_feed (joined (tokens_at base before (Plain l)))
    (joined_text (tokens_at base before (Plain l)) (plain_words base small before l few h.1.0))
open_feed cost base before old new (Word w made ∷ es) small few h =
    no_feed (joined (tokens_at base before (Word w made)))
    (joined_text (tokens_at base before (Word w made)) (word_words w h.1.numbers))
