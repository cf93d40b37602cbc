-- A text in pieces: what is kept after a line more and after a piece, and what is taken in turn.
use Rattle.std.proofs.Common.{◌≡◌, ℕ, ◌<◌, List, [], ◌∷◌, ◌++◌, length, inl, inr}
use Rattle.std.proofs.Common.{◌+◌, Option, arith, length-append, map, take}
use Rattle.std.proofs.KnownBytes.{Consumes-trans}
use Rattle.std.specs.Io.KnownBytes.{Consumes}
use Rattle.std.proofs.Common.{refl, sym, ◌∙◌, ap, subst, append_assoc, append-nil}
use Rattle.std.specs.Prelude.{◌==◌, false}
use Rattle.std.specs.Str.Lines.{lines, strip_carriage_return}
use Rattle.std.proofs.lemmas.List.Elements.{All-append, All-nil}
use Rattle.text.specs.Text.{IsNoFeed, token_lines, tokens_of}
use Rattle.text.specs.Pieces.{EndsInFeed, IsCut, IsFirstLine, HasTaken}
use Rattle.text.proofs.FirstPieces.{lines-split, lines-last}

abbrev IsOrdinary : ℕ → Type 0
IsOrdinary b = (b == 10) ≡ false

no_feed-nil : IsNoFeed []
no_feed-nil = All-nil IsOrdinary

-- what is kept
pub cut-nothing : IsCut [] [] []
cut-nothing = record { split = refl; ended = inl refl; unfinished = no_feed-nil }

pub cut-ended : (bytes text : List ℕ) → EndsInFeed text → IsCut (bytes ++ text) (bytes ++ text) []
cut-ended bytes text ended = record {
  split = sym (append-nil (bytes ++ text));
  ended = inr (
    bytes ++ ended.0,
    ap (λ x. bytes ++ x) ended.1 ∙ sym (append_assoc bytes ended.0 (10 ∷ [])),
  );
  unfinished = no_feed-nil;
}

pub cut-kept : (bytes done rest more : List ℕ) → IsCut bytes done rest → IsNoFeed more
    → IsCut (bytes ++ more) done (rest ++ more)
cut-kept bytes done rest more c no_feed = record {
  split = ap (λ x. x ++ more) c.split ∙ append_assoc done rest more;
  ended = c.ended;
  unfinished = All-append IsOrdinary rest more c.unfinished no_feed;
}

-- the line that is ended, and the last one
pub lines-ended : (rest end more : List ℕ) → IsNoFeed rest → IsNoFeed end
    → lines (rest ++ (end ++ 10 ∷ more)) ≡ strip_carriage_return (rest ++ end) ∷ lines more
lines-ended rest end more r e =
    ap lines (sym (append_assoc rest end (10 ∷ more)))
    ∙ lines-split (rest ++ end) more (All-append IsOrdinary rest end r e)

pub lines-rest : (rest : List ℕ) → 0 < length rest → IsNoFeed rest → lines rest ≡ rest ∷ []
lines-rest rest some no_feed = lines-last rest some (λ k lt. no_feed k 0 lt)

-- the tokens of the first line, and those of the others
pub line_tokens-first : (x more : List ℕ) → IsNoFeed x
    → token_lines (x ++ 10 ∷ more) ≡ tokens_of (strip_carriage_return x) ∷ token_lines more
line_tokens-first x more h = ap (map tokens_of) (lines-split x more h)

pub line_tokens-last : (x : List ℕ) → 0 < length x → IsNoFeed x → token_lines x ≡ tokens_of x ∷ []
line_tokens-last x l h = ap (map tokens_of) (lines-rest x l h)

-- nothing more is read
pub read_nothing : (a b c : Option (List ℕ)) (bytes buffer : List ℕ) (k : ℕ) → Consumes a b bytes
    → Consumes b c (take k buffer) → k ≡ 0 → Consumes a c bytes
read_nothing a b c bytes buffer k p q e =
    subst (Consumes a c) (append-nil bytes)
    (Consumes-trans a b c bytes [] p (subst (Consumes b c) (ap (λ j. take j buffer) e) q))

-- how long the first line and what follows it are
pub line_lengths : (text line rest : List ℕ) → IsFirstLine text line rest
    → length text ≡ length line + length rest + 1
line_lengths text line rest f =
    let whole = ap length f.split ∙ length-append (line ++ 10 ∷ []) rest in
    let first = length-append line (10 ∷ []) in
    omega (arith, whole, first)

-- what is taken in turn
pub taken-nothing : (P : List ℕ → Type 0) (piece : List ℕ) → HasTaken P P piece piece
taken-nothing P piece = record {
  taken = [];
  split = refl;
  holds = λ bytes h. subst P (sym (append-nil bytes)) h;
}

pub taken-on : (old mid new : List ℕ → Type 0) (piece left text rest : List ℕ)
    → HasTaken old mid piece left → left ≡ text ++ rest
    → ((bytes : List ℕ) → mid bytes → new (bytes ++ text)) → HasTaken old new piece rest
taken-on old mid new piece left text rest t split next = record {
  taken = t.taken ++ text;
  split = t.split ∙ ap (λ x. t.taken ++ x) split ∙ sym (append_assoc t.taken text rest);
  holds = λ bytes h. subst new (append_assoc bytes t.taken text)
      (next (bytes ++ t.taken) (t.holds bytes h));
}

pub taken-whole : (old mid new : List ℕ → Type 0) (piece left : List ℕ)
    → HasTaken old mid piece left → ((bytes : List ℕ) → mid bytes → new (bytes ++ left))
    → (bytes : List ℕ) → old bytes → new (bytes ++ piece)
taken-whole old mid new piece left t next bytes h =
    subst new (append_assoc bytes t.taken left ∙ ap (λ x. bytes ++ x) (sym t.split))
    (next (bytes ++ t.taken) (t.holds bytes h))
