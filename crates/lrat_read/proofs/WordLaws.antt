-- Lines that begin with a word, by what their blocks are.
use Rattle.std.proofs.Common.{◌≡◌, ℕ, Bool, false, List, [], ◌∷◌, Some, None, inl, inr, refl, ap}
use Rattle.std.proofs.Common.{◌∙◌}
use Rattle.std.specs.Str.{bytes_eq}
use Rattle.std.proofs.lemmas.Bool.{cases_Bool}
use Rattle.std.proofs.lemmas.Slice.Eq.{bytes_eq-Decides}
use lib.Chars.{codes}
use Rattle.lrat_read.specs.Form.{Malformed, line_of, signed_of}
use Rattle.lrat_read.specs.Words.{word_line_of}
use Rattle.lrat_read.proofs.Lines.{line_bad}

-- an addition or a deletion begins with no word
apart : (t w : List ℕ) (x : Bool × ℕ) → signed_of t ≡ Some x → signed_of w ≡ None
    → bytes_eq t w ≡ false
apart t w x e f =
    elim (cases_Bool (bytes_eq t w)) [
      | inl h ↦ let same : t ≡ w = (bytes_eq-Decides t w).0 h in
          let none : signed_of t ≡ None = ap signed_of same ∙ f in absurd (cc)
      | inr h ↦ h
    ]

number_no_word : (t : List ℕ) (us : List (List ℕ)) (x : Bool × ℕ) → signed_of t ≡ Some x
    → word_line_of (t ∷ us) ≡ None
number_no_word t us x e =
    let cut = apart t (codes "cut") x e refl in
    let form = apart t (codes "form") x e refl in
    let bound = apart t (codes "bound") x e refl in
    let count = apart t (codes "count") x e refl in
    let more = apart t (codes "more") x e refl in
    let group = apart t (codes "group") x e refl in
    rw (cut, form, bound, count, more, group) refl

pub parsed_no_word : (ts : List (List ℕ)) → (line_of ts ≡ Malformed → ⊥) → word_line_of ts ≡ None
parsed_no_word [] h = refl
parsed_no_word (t ∷ us) h =
    elim (signed_of t) as (λ o. signed_of t ≡ o → word_line_of (t ∷ us) ≡ None) [
      | None ↦ λ e. absurd (h (line_bad t us e))
      | Some x ↦ λ e. number_no_word t us x e
    ] refl
