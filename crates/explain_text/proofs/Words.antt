-- What is shown of a faulty text.
use Rattle.std.proofs.Common.{◌≡◌, ℕ, ◌<◌, false, List, [], ◌∷◌, ◌++◌, length, take, refl, sym}
use Rattle.std.proofs.Common.{◌==◌}
use lib.Chars.{codes}
use Rattle.std.proofs.lemmas.Bool.{false≢true, lt-ltb}
use Rattle.explain_text.specs.Showing.{shown_text}
use Rattle.explain_text.specs.Mending.{cut_text, place_text, word_line}
use Rattle.explain_text.specs.declared.mending.TheConstants.{MOST_SHOWN}

pub word_with : (column : ℕ) (w : List ℕ) → (length w == 0) ≡ false
    → word_line column w ≡ place_text column ++ (cut_text w ++ codes "\n")
word_with column [] h = absurd (false≢true (sym h))
word_with column (b ∷ bs) h = refl

pub cut_long : (w : List ℕ) → MOST_SHOWN < length w
    → cut_text w ≡ shown_text (take MOST_SHOWN w) ++ codes " .."
cut_long w h = rw (lt-ltb MOST_SHOWN (length w) h) refl
