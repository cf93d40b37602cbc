-- The text of a comment.
use Rattle.std.proofs.Common.{◌≡◌, ℕ, false, List, [], ◌∷◌, ◌++◌, length, refl}
use Rattle.std.proofs.Common.{sym, ◌==◌}
use lib.Chars.{codes}
use Rattle.std.proofs.lemmas.Bool.{false≢true}
use Rattle.explain.specs.Explanation.{comment_text}
use Rattle.explain_text.specs.Showing.{shown_text}

pub comment_with : (c : List ℕ) → (length c == 0) ≡ false
    → comment_text c ≡ codes "    " ++ (shown_text c ++ codes "\n")
comment_with [] h = absurd (false≢true (sym h))
comment_with (b ∷ bs) h = refl
