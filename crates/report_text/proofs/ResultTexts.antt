-- The text of a result: its parts, and what it says.
use Rattle.std.proofs.Common.{◌≡◌, ℕ, ◌<◌, ◌≤◌, ◌^◌, Bool, true, false, not, List, [], ◌∷◌, ◌++◌}
use Rattle.std.proofs.Common.{length, map, refl, sym, ◌∙◌, ap, subst, arith, append_assoc}
use Rattle.std.proofs.Common.{append-nil, length-append}
use Rattle.std.specs.Prelude.{All, filter}
use Rattle.std.specs.List.{flat_map, AllByRecursion}
use Rattle.std.proofs.lemmas.Grind.{flat_map-append}
use Rattle.std.proofs.lemmas.List.Concat.{flat_map_single}
use Rattle.std.proofs.lemmas.List.Elements.{recursion_from_All}
use Rattle.std.proofs.lemmas.List.Folds.{flat_map-map}
use lib.Chars.{codes}
use Rattle.text.specs.Writing.{Begins, spaced}
use Rattle.lrat_log.proofs.Laws.{IsWord, token_lines-spaced, decimal_word}
use Rattle.lrat_result.specs.Result.{Said, OptimumFound, Unsatisfiable, Satisfiable, Unknown}
use Rattle.lrat_result.specs.Result.{FallsTo, Says, fall_to, cost_tokens, digit_of, bits_tokens}
use Rattle.lrat_result.specs.Result.{is_ignored, result_lines}
use Rattle.improve_found.specs.Progress.{AreFalling}
use Rattle.report_text.specs.Told.{cost_lines}
use Rattle.report_text.specs.Answering.{result_text, digits_text, bits_word, words_text}

-- the line of the bits
bits_line : (bits : List Bool) → spaced (bits_tokens bits) ≡ words_text (bits_word bits) bits
bits_line [] = refl
bits_line (b ∷ bits) =
    ap (λ z. 118 ∷ 32 ∷ digit_of b ∷ (z ++ 10 ∷ [])) (sym (flat_map_single digit_of bits))

-- the result with a cost and bits, where its status is spelled so
with_bits_text : (before : List ℕ) (c : ℕ) (bits : List Bool) (status : List (List ℕ))
    (words : List ℕ) → spaced status ≡ words
    → flat_map spaced (map cost_tokens before ++ cost_tokens c ∷ status ∷ bits_tokens bits ∷ [])
    ≡ cost_lines (before ++ c ∷ []) ++ words_text (words ++ bits_word bits) bits
with_bits_text before c bits status words e =
    let tail : List ℕ = spaced (bits_tokens bits) ++ [] in
    flat_map-append spaced (map cost_tokens before) (cost_tokens c ∷ status ∷ bits_tokens bits ∷ [])
    ∙ ap (λ z. z ++ (spaced (cost_tokens c) ++ (spaced status ++ tail)))
    (flat_map-map spaced cost_tokens before)
    ∙ sym (append_assoc (cost_lines before) (spaced (cost_tokens c)) (spaced status ++ tail))
    ∙ ap (λ z. z ++ (spaced status ++ tail))
    (ap (λ z. cost_lines before ++ z) (sym (append-nil (spaced (cost_tokens c))))
    ∙ sym (flat_map-append (λ d. spaced (cost_tokens d)) before (c ∷ [])))
    ∙ ap (λ z. cost_lines (before ++ c ∷ []) ++ z) (ap (λ z. z ++ tail) e
    ∙ ap (λ z. words ++ z) (append-nil (spaced (bits_tokens bits)) ∙ bits_line bits)
    ∙ sym (append_assoc words (bits_word bits) (digits_text bits ++ codes "\n")))

pub optimum_text : (before : List ℕ) (c : ℕ) (bits : List Bool)
    → result_text before (OptimumFound c bits) ≡ cost_lines (before ++ c ∷ []) ++ words_text
    (codes "s OPTIMUM FOUND\n" ++ bits_word bits) bits
optimum_text before c bits =
    with_bits_text before c bits (codes "s" ∷ codes "OPTIMUM" ∷ codes "FOUND" ∷ [])
    (codes "s OPTIMUM FOUND\n") refl

pub satisfiable_text : (before : List ℕ) (c : ℕ) (bits : List Bool)
    → result_text before (Satisfiable c bits) ≡ cost_lines (before ++ c ∷ []) ++ words_text
    (codes "s SATISFIABLE\n" ++ bits_word bits) bits
satisfiable_text before c bits =
    with_bits_text before c bits (codes "s" ∷ codes "SATISFIABLE" ∷ [])
    (codes "s SATISFIABLE\n") refl

-- costs that fall
pub falls_to : (before : List ℕ) (c : ℕ) → AreFalling (before ++ c ∷ []) → fall_to before c
falls_to [] c h = tt
falls_to (d ∷ []) c h = h.0
falls_to (d ∷ e ∷ before) c h = (h.0, falls_to (e ∷ before) c h.1)

pub falls_in : (tried before : List ℕ) (c : ℕ) → tried ≡ before ++ c ∷ [] → AreFalling tried
    → All (λ d. d < 2 ^ 62) tried → FallsTo before (Satisfiable c [])
falls_in tried before c e f s =
    (falls_to before c (subst AreFalling e f), subst (All (λ d. d < 2 ^ 62)) e s)

-- a beginning of the lines is one of the whole text, and does not reach past the lines
pub begun : (lines part : List ℕ) (tail whole : List ℕ) → Begins part lines
    → whole ≡ lines ++ tail → Begins part whole
begun lines part tail whole b e =
    (b.0 ++ tail, e ∙ ap (λ z. z ++ tail) b.1 ∙ append_assoc part b.0 tail)

pub not_past : (lines part : List ℕ) → Begins part lines → length lines < length part → ⊥
not_past lines part b lt = omega (arith, lt, ap length b.1, length-append part b.0)

-- tokens are words, and no line is ignored
abbrev IsTold : List (List ℕ) → Type 0
IsTold ts = AllByRecursion IsWord ts × (is_ignored ts ≡ false)

digits_word : (bits : List Bool) → AllByRecursion (λ c. 33 ≤ c) (map digit_of bits)
digits_word [] = tt
digits_word (true ∷ bits) = (omega arith, digits_word bits)
digits_word (false ∷ bits) = (omega arith, digits_word bits)

bits_words : (bits : List Bool) → IsTold (bits_tokens bits)
bits_words [] = (((omega arith, tt), tt), refl)
bits_words (true ∷ bits) = (((omega arith, tt), ((omega arith, digits_word bits), tt)), refl)
bits_words (false ∷ bits) = (((omega arith, tt), ((omega arith, digits_word bits), tt)), refl)

cost_words : (c : ℕ) → c < 2 ^ 62 → IsTold (cost_tokens c)
cost_words c h = (((omega arith, tt), (decimal_word c h, tt)), refl)

all_told : (costs : List ℕ) (more : List (List (List ℕ))) → AllByRecursion (λ c. c < 2 ^ 62) costs
    → AllByRecursion IsTold more → AllByRecursion IsTold (map cost_tokens costs ++ more)
all_told [] more h k = k
all_told (c ∷ costs) more h k = (cost_words c h.0, all_told costs more h.1 k)

words_of : (tss : List (List (List ℕ))) → AllByRecursion IsTold tss
    → AllByRecursion (AllByRecursion IsWord) tss
words_of [] h = tt
words_of (ts ∷ tss) h = (h.0.0, words_of tss h.1)

kept : (tss : List (List (List ℕ))) → AllByRecursion IsTold tss
    → filter (λ l. not (is_ignored l)) tss ≡ tss
kept [] h = refl
kept (ts ∷ tss) h = rw h.0.1 (ap (λ z. ts ∷ z) (kept tss h.1))

lines_back : (tss : List (List (List ℕ))) → AllByRecursion IsTold tss
    → result_lines (flat_map spaced tss) ≡ tss
lines_back tss h = ap (filter (λ l. not (is_ignored l))) (token_lines-spaced tss (words_of tss h))
    ∙ kept tss h

front_all : (P : ℕ → Type 0) (xs : List ℕ) (c : ℕ) → AllByRecursion P (xs ++ c ∷ [])
    → AllByRecursion P xs × P c
front_all P [] c h = (tt, h.0)
front_all P (x ∷ xs) c h = let k = front_all P xs c h.1 in ((h.0, k.0), k.1)

-- a result that is spelled so says so
pub text_says : (before : List ℕ) (said : Said) → FallsTo before said
    → Says (result_text before said) said
text_says before (OptimumFound c bits) h =
    let k =
    front_all (λ d. d < 2 ^ 62) before c
    (recursion_from_All (λ d. d < 2 ^ 62) (before ++ c ∷ []) h.1) in (
      before,
      h,
      lines_back _
          (all_told before _ k.0 (
            cost_words c k.1,
            (
              (
                (
                  (omega arith, tt),
                  (
                    (
                      omega arith,
                      (
                        omega arith,
                        (
                          omega arith,
                          (
                            omega arith,
                            (omega arith, (omega arith, (omega arith, tt))),
                          ),
                        ),
                      ),
                    ),
                    (
                      (omega arith, (omega arith, (omega arith, (omega arith, (omega arith, tt))))),
                      tt,
                    ),
                  ),
                ),
                refl,
              ),
              (bits_words bits, tt),
            ),
          )),
    )
text_says before (Satisfiable c bits) h =
    let k =
    front_all (λ d. d < 2 ^ 62) before c
    (recursion_from_All (λ d. d < 2 ^ 62) (before ++ c ∷ []) h.1) in (
      before,
      h,
      lines_back _
          (all_told before _ k.0 (
            cost_words c k.1,
            (
              (
                (
                  (omega arith, tt),
                  (
                    (
                      omega arith,
                      (
                        omega arith,
                        (
                          omega arith,
                          (
                            omega arith,
                            (
                              omega arith,
                              (
                                omega arith,
                                (
                                  omega arith,
                                  (
                                    omega arith,
                                    (omega arith, (omega arith, (omega arith, tt))),
                                  ),
                                ),
                              ),
                            ),
                          ),
                        ),
                      ),
                    ),
                    tt,
                  ),
                ),
                refl,
              ),
              (bits_words bits, tt),
            ),
          )),
    )
text_says before Unsatisfiable h = (before, h, refl)
text_says before Unknown h = (before, h, refl)
