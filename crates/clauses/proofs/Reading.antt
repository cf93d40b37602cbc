-- What is read of a head: its span, and whether it is live.
use Rattle.std.proofs.Common.{◌≡◌, ℕ, ◌<◌, Bool, true, false, List, map, length, get_or, Some, sym}
use Rattle.std.proofs.Common.{◌∙◌, ap, inl, inr}
use Rattle.std.specs.Prelude.{slice_get, IsTrue, ◌↔◌}
use Rattle.std.specs.Option.{option_map}
use Rattle.std.proofs.lemmas.Bool.{cases_Bool}
use Rattle.std.proofs.lemmas.Option.{slice_get-map, slice_get-get_or}
use Rattle.clauses.specs.declared.heads.ClauseSpan.{ClauseSpan}
use Rattle.clauses.specs.Heads.{Head, span_of}

-- what stands past the last head
abbrev pub no_head : Head
no_head = record { start = 0; length = 0; live = false }

pub span_at : (hs : List Head) (i : ℕ) (s : ClauseSpan) → i < length hs
    → slice_get (map span_of hs) i ≡ Some s → s ≡ span_of (get_or hs i no_head)
span_at hs i s h e =
    let here : slice_get (map span_of hs) i ≡ Some (span_of (get_or hs i no_head)) =
    slice_get-map span_of hs i ∙ ap (option_map span_of) (slice_get-get_or hs i no_head h) in
    cc

pub flag_at : (hs : List Head) (i : ℕ) (b : Bool) → i < length hs
    → IsTrue b ↔ (slice_get (map (λ h. h.live) hs) i ≡ Some true) → (get_or hs i no_head).live ≡ b
flag_at hs i b h e =
    let here : slice_get (map (λ h. h.live) hs) i ≡ Some (get_or hs i no_head).live =
    slice_get-map (λ h. h.live) hs i
    ∙ ap (option_map (λ h. h.live)) (slice_get-get_or hs i no_head h) in
    elim (cases_Bool b) [
      | inl t ↦ let set : slice_get (map (λ h. h.live) hs) i ≡ Some true = e.0 t in cc
      | inr f ↦ elim (cases_Bool (get_or hs i no_head).live) [
        | inl l ↦ let t : b ≡ true = e.1 (here ∙ ap Some l) in cc
        | inr l ↦ l ∙ sym f
      ]
    ]
