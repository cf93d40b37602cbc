-- One more hint is kept.
use Rattle.std.proofs.Common.{◌≡◌, ℕ, ◌+◌, ◌<◌, ◌++◌, ◌∷◌, [], List, length, take, get_or, ap, sym}
use Rattle.std.proofs.Common.{◌∙◌, append_assoc}
use Rattle.std.proofs.lemmas.List.{take_more}
use Rattle.lrat_log.specs.declared.lines.Hint.{Hint}

-- those before the index were kept, and now the one there
pub kept_more : (xs ys zs hs : List Hint) (i : ℕ) (h d : Hint) → ys ≡ xs ++ take i hs
    → zs ≡ ys ++ h ∷ [] → i < length hs → h ≡ get_or hs i d → zs ≡ xs ++ take (i + 1) hs
kept_more xs ys zs hs i h d before now within is =
    now ∙ (λ j. before j ++ is j ∷ []) ∙ append_assoc xs (take i hs) (get_or hs i d ∷ [])
    ∙ ap (λ z. xs ++ z) (sym (take_more hs i d within))
