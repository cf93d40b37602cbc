-- What a text is without its ending.
use Rattle.std.proofs.Common.{◌≡◌, ◌++◌, ◌-◌, ℕ, List, length, take, sym, ◌∙◌, ap}
use Rattle.std.proofs.lemmas.List.{append_cancel_right}

-- the stem of a text is a name just where the text is that name with the ending
pub stem_is : (text stem name ending : List ℕ) (n : ℕ)
    → text ≡ take (length text - n) text ++ ending
    → stem ≡ take (length text - n) text
    → (stem ≡ name → text ≡ name ++ ending) × (text ≡ name ++ ending → stem ≡ name)
stem_is text stem name ending n whole cut =
    let before : text ≡ stem ++ ending = whole ∙ ap (λ xs. xs ++ ending) (sym cut) in (
      λ same. before ∙ ap (λ xs. xs ++ ending) same,
      λ named. append_cancel_right stem name ending (sym before ∙ named),
    )
