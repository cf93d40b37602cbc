-- Tokens that are read in one pass over the bytes of a line.
use Rattle.std.proofs.Common.{◌≡◌, ℕ, suc, zero, ◌+◌, ◌-◌, ◌<◌, ◌≤◌, Bool, true, false, List}
use Rattle.std.proofs.Common.{[], ◌∷◌, Some, inl, inr, refl, sym, ◌∙◌, ap, subst, arith, length}
use Rattle.std.proofs.Common.{get_or, take, drop}
use Rattle.std.specs.Prelude.{◌==◌}
use Rattle.std.specs.List.{position_or_len}
use Rattle.std.proofs.lemmas.Bool.{eqb-true, le-ltb, cases_eq}
use Rattle.std.proofs.lemmas.List.{take_rest, length-take-le, get_or-take}
use Rattle.std.proofs.lemmas.Option.{none-some}
use Rattle.std.proofs.lemmas.List.Sums.{position_or_len_is}
use Rattle.std.specs.Int.{from_bool}
use Rattle.cnf.specs.Literal.{Literal}
use Rattle.text.specs.Text.{is_blank, value_on, number_of, tokens_of}
use Rattle.text.specs.Words.{word_of, Literal_word}
use Rattle.text.specs.Seen.{seen}
use Rattle.text.specs.declared.words.Word.TheVariants as Word
use Rattle.text.specs.Ahead.{BeginsWithDigits, BeginsWithVariable, BeginsWithLiteral, IsNextWord}
use Rattle.text.proofs.Numbers.{IsNumber, number_of-is, digit_is_no_blank, literal_of-number}
use Rattle.text.proofs.CappedNumbers.{capped-exact, all_digits}
use Rattle.text.proofs.FirstPieces.{tokens-first}

-- digits that begin with no 0, and are not all 0, up to a blank or the end
pub begins_variable : (bytes : List ℕ) (v n : ℕ) → BeginsWithDigits bytes v n → 0 < v → v ≤ 4194304
    → (n < length bytes → is_blank (get_or bytes n 0) ≡ true) → (get_or bytes 0 0 ≡ 48 → ⊥)
    → BeginsWithVariable bytes v n
begins_variable bytes v n d p most end lead =
    let value : v ≡ value_on 0 (take n bytes) =
    d.value ∙ sym (capped-exact (value_on 0 (take n bytes)) (omega (arith, d.value))) in
    let long : length (take n bytes) ≡ n = length-take-le n bytes d.within in
    let some : 0 < n = elim (cases_eq n 0) [
      | inl z ↦ absurd (omega (arith, value ∙ ap (λ m. value_on 0 (take m bytes)) z))
      | inr z ↦ omega arith
    ] in
    let digits = all_digits (take n bytes) (λ k l. let h : k < n = omega arith in
    rw (get_or-take n bytes k 0 h) (d.digits k h)) in
    let spelled : IsNumber (take n bytes) = record {
      digits = digits;
      nonempty = omega arith;
      lead = λ e. absurd (lead (sym (get_or-take n bytes 0 0 some) ∙ e));
    } in
    record {
      number = number_of-is (take n bytes) spelled ∙ ap Some (sym value);
      positive = p;
      most = most;
      token =
          position_or_len_is is_blank bytes n 0 d.within
          (λ k l. digit_is_no_blank (get_or bytes k 0) (d.digits k l)) end;
      within = d.within;
    }

-- what spells a number begins with a digit
word_positive : (ds : List ℕ) (v : ℕ) → number_of ds ≡ Some v → 0 < v
    → word_of ds ≡ Literal_word (record { variable = v; negated = false })
word_positive ds zero e p = absurd (omega arith)
word_positive ds (suc n) e p = rw (literal_of-number ds n e) refl

word_negated : (ds : List ℕ) (v : ℕ) → number_of ds ≡ Some v → 0 < v
    → word_of (45 ∷ ds) ≡ Literal_word (record { variable = v; negated = true })
word_negated ds zero e p = absurd (omega arith)
word_negated ds (suc n) e p = rw e refl

nonempty : (bytes : List ℕ) (v n : ℕ) → BeginsWithVariable bytes v n → 0 < n
nonempty bytes v n b =
    elim (cases_eq n 0) [
      | inl z ↦ absurd (none-some v (ap (λ m. number_of (take m bytes)) (sym z) ∙ b.number))
      | inr z ↦ omega arith
    ]

begins_positive : (bytes : List ℕ) (v n : ℕ) → BeginsWithVariable bytes v n
    → BeginsWithLiteral bytes (record { variable = v; negated = false }) (n + 0)
begins_positive bytes v n b =
    let same : n + 0 ≡ n = omega arith in
    rw same (record {
      word = word_positive (take n bytes) v b.number b.positive;
      most = b.most;
      token = b.token;
      some = nonempty bytes v n b;
      within = b.within;
    })

begins_negated : (bytes : List ℕ) (v n : ℕ) → BeginsWithVariable bytes v n
    → BeginsWithLiteral (45 ∷ bytes) (record { variable = v; negated = true }) (n + 1)
begins_negated bytes v n b =
    let next : n + 1 ≡ suc n = omega arith in
    let longer : length (45 ∷ bytes) ≡ suc (length bytes) = refl in
    record {
      word = rw next (word_negated (take n bytes) v b.number b.positive);
      most = b.most;
      token = let e : position_or_len is_blank (45 ∷ bytes) ≡ 1 + position_or_len is_blank bytes =
          refl in omega (arith, e, b.token);
      some = omega arith;
      within = omega (arith, b.within);
    }

begins_at : (bytes : List ℕ) (s : Bool) (v n : ℕ) → s ≡ (get_or bytes 0 0 == 45)
    → (s ≡ true → 0 < length bytes)
    → BeginsWithVariable (take (length bytes - from_bool s) (drop (from_bool s) bytes)) v n
    → BeginsWithLiteral bytes (record { variable = v; negated = s }) (n + from_bool s)
begins_at bytes false v n e h b = begins_positive bytes v n (rw (take_rest bytes 0) at b)
begins_at [] true v n e h b = absurd (omega (arith, h refl))
begins_at (x ∷ bytes) true v n e h b =
    let dash : x ≡ 45 = eqb-true x 45 (sym e) in
    rw dash (begins_negated bytes v n (rw (take_rest (x ∷ bytes) 1) at b))

-- with a dash or none
pub begins_signed : (bytes : List ℕ) (s : Bool) (k v n : ℕ) → s ≡ (get_or bytes 0 0 == 45)
    → (s ≡ true → 0 < length bytes) → k ≡ from_bool s
    → BeginsWithVariable (take (length bytes - k) (drop k bytes)) v n
    → BeginsWithLiteral bytes (record { variable = v; negated = s }) (n + k)
begins_signed bytes s k v n e h d b = rw d (begins_at bytes s v n e h (rw d at b))

-- the token after a space, and what is left
tokens-spaced : (bytes : List ℕ) (l : Literal) (n : ℕ) → BeginsWithLiteral bytes l n
    → tokens_of (32 ∷ bytes) ≡ take n bytes ∷ tokens_of (drop n bytes)
tokens-spaced bytes l n b =
    let first = tokens-first bytes (omega (arith, b.token, b.some)) in
    subst (λ m. tokens_of (32 ∷ bytes) ≡ take m bytes ∷ tokens_of (drop m bytes)) b.token first

literal_seen : (t : List ℕ) (l : Literal) → word_of t ≡ Literal_word l → l.variable ≤ 4194304
    → Word.Literal l ≡ seen (word_of t)
literal_seen t l e h = rw (e, le-ltb 4194304 l.variable h) refl

pub next_spaced : (w left : List ℕ) (l : Literal) (n : ℕ) → (get_or w 0 0 == 32) ≡ true
    → 0 < length w → BeginsWithLiteral (take (length w - 1) (drop 1 w)) l n
    → left ≡ take (length (take (length w - 1) (drop 1 w)) - n)
    (drop n (take (length w - 1) (drop 1 w)))
    → IsNextWord (tokens_of w) (Word.Literal l) (tokens_of left)
next_spaced [] left l n e h b r = absurd (omega arith)
next_spaced (x ∷ w) left l n e h b r =
    let space : x ≡ 32 = eqb-true x 32 e in
    let begins : BeginsWithLiteral w l n = rw (take_rest (x ∷ w) 1) at b in
    let tail : left ≡ drop n w = (rw (take_rest (x ∷ w) 1) at r) ∙ take_rest w n in
    rw space (
      take n w,
      rw tail (tokens-spaced w l n begins),
      literal_seen (take n w) l begins.word begins.most,
    )
