-- The first line feed of a text.
use Rattle.std.proofs.Common.{◌≡◌, ℕ, ◌+◌, ◌<◌, Bool, false, List, ◌∷◌, ◌++◌, length, take, drop}
use Rattle.std.proofs.Common.{get_or, sym, ◌∙◌, ap, arith, add-one, drop-cons, take-append-drop}
use Rattle.std.proofs.Common.{[], append_assoc, subst}
use Rattle.std.specs.Prelude.{◌-◌, ◌==◌}
use Rattle.std.proofs.lemmas.List.{take_rest}
use Rattle.std.proofs.lemmas.List.Elements.{All-from_get_or}
use Rattle.std.proofs.lemmas.Grind.{common_steps}
use Rattle.text.specs.Text.{IsNoFeed, IsFirstFeed}
use Rattle.text.specs.Pieces.{IsFirstLine}

abbrev is_feed : ℕ → Bool
is_feed b = b == 10

byte_before : (w : List ℕ) (end k : ℕ) → end < length w → k < length (take end w)
    → (k < end) × (get_or (take end w) k 0 ≡ get_or w k 0)
byte_before w end k h lt = (grind (arith, common_steps), grind (arith, common_steps))

pub first_feed : (w : List ℕ) (end : ℕ) → end < length w → get_or w end 0 ≡ 10
    → ((k : ℕ) → k < end → is_feed (get_or w k 0) ≡ false) → IsFirstFeed w end
first_feed w end h here before = record {
  within = h;
  split = sym (take-append-drop end w)
      ∙ ap (λ x. take end w ++ x) (drop_at ∙ ap (λ b. b ∷ drop (end + 1) w) here);
  before =
      All-from_get_or (λ b. (b == 10) ≡ false) (take end w) 0
      (λ k lt. let x = byte_before w end k h lt in ap is_feed x.1 ∙ before k x.0);
}
  where
    drop_at : drop end w ≡ get_or w end 0 ∷ drop (end + 1) w
    drop_at = rw (add-one, drop-cons w end 0)

pub first_line : (text : List ℕ) (end : ℕ) (line rest : List ℕ) → IsFirstFeed text end
    → line ≡ take end text → rest ≡ take (length text - (end + 1)) (drop (end + 1) text)
    → IsFirstLine text line rest
first_line text end line rest f e g = record {
  split = f.split ∙ ap (λ x. x ++ 10 ∷ drop (end + 1) text) (sym e)
      ∙ ap (λ x. line ++ 10 ∷ x) (sym (g ∙ take_rest text (end + 1)))
      ∙ sym (append_assoc line (10 ∷ []) rest);
  no_feed = subst IsNoFeed (sym e) f.before;
}
