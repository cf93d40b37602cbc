-- How a number or none is kept in one word: none is the largest word.
use Rattle.std.specs.Prelude.{ℕ, ◌≡◌, ◌-◌, ◌^◌, ◌==◌, if◌then◌else◌, Option, Some, None, refl}
use Rattle.std.proofs.Common.{ap, sym}
use Rattle.std.proofs.lemmas.Bool.{cond_both, eqb-true}
use Rattle.clauses.specs.declared.words.MaybeWord.TheInside.{Inside}

abbrev pub number_in : Inside → Option ℕ
number_in m = if m.word == 2 ^ 32 - 1 then None else Some m.word

abbrev pub word_of : Option ℕ → Inside
word_of None = record { word = 2 ^ 32 - 1 }
word_of (Some number) = record { word = number }

pub word_of-number_in : (m : Inside) → word_of (number_in m) ≡ m
word_of-number_in m =
    cond_both (m.word == 2 ^ 32 - 1) None (Some m.word) (λ o. word_of o ≡ m)
    (λ e. ap (λ (w : ℕ). record { word = w }) (sym (eqb-true m.word (2 ^ 32 - 1) e)))
    (λ _. refl)
