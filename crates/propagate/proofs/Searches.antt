-- What a comparison with a value says.
use Rattle.std.proofs.Common.{◌≡◌, ℕ, ◌+◌, ◌<◌, Bool, true, Option, Some, None, List, take, length}
use Rattle.std.proofs.Common.{get_or, sym, ◌∙◌, subst, ap, eqb}
use Rattle.std.specs.Prelude.{All}
use Rattle.std.specs.Option.{option_eq}
use Rattle.std.proofs.lemmas.Bool.{true≢false, eqb-true}
use Rattle.std.proofs.lemmas.List.Elements.{All-more}

-- one more element, as a loop reads it
pub all_read : {X : Type 0} (P : X → Type 0) (xs : List X) (i : ℕ) (x : X) → i < length xs
    → x ≡ get_or xs i x → All P (take i xs) → P x → All P (take (i + 1) xs)
all_read P xs i x lt e h p = All-more P xs i x lt h (subst P e p)

pub level_from_test : (o : Option ℕ) (n : ℕ) (b : Bool) → b ≡ option_eq eqb o (Some n) → b ≡ true
    → o ≡ Some n
level_from_test None n b e f = absurd (true≢false (sym f ∙ e))
level_from_test (Some m) n b e f = ap Some (eqb-true m n (sym e ∙ f))
