-- The text of the best solution: how it is spelled, and that it is so.
use Rattle.std.proofs.Common.{◌≡◌, ℕ, ◌<◌, ◌^◌, Bool, List, [], ◌∷◌, ◌++◌, refl, sym, ◌∙◌, ap}
use Rattle.std.proofs.Common.{append-nil}
use Rattle.std.proofs.lemmas.List.Elements.{All-from_recursion}
use lib.Chars.{codes}
use Rattle.cnf.specs.Bits.{assignment_of}
use Rattle.cnf.specs.Problem.{Problem}
use Rattle.cnf.specs.Instance.{IsInstance}
use Rattle.cnf.proofs.Laws.{extends_own}
use Rattle.text.specs.Writing.{spaced}
use Rattle.lrat_result.specs.Result.{Said, OptimumFound, Unsatisfiable, Satisfiable, Unknown}
use Rattle.lrat_result.specs.Result.{FallsTo, cost_tokens}
use Rattle.improve_found.specs.Solutions.{IsSolution}
use Rattle.improve_found.proofs.Laws.{cost_small}
use Rattle.report_text.specs.Answering.{bits_word, words_text}
use Rattle.report_text.specs.Best.{IsTrueOf, IsTrueText, best_text}
use Rattle.report_text.proofs.ResultTexts.{optimum_text, satisfiable_text, text_says}

pub satisfiable_best : (c : ℕ) (bits : List Bool) → spaced (cost_tokens c)
    ++ words_text (codes "s SATISFIABLE\n" ++ bits_word bits) bits
    ≡ best_text (Satisfiable c bits)
satisfiable_best c bits =
    sym (satisfiable_text [] c bits
    ∙ ap (λ z. z ++ words_text (codes "s SATISFIABLE\n" ++ bits_word bits) bits)
    (append-nil (spaced (cost_tokens c))))

pub optimum_best : (c : ℕ) (bits : List Bool) → spaced (cost_tokens c)
    ++ words_text (codes "s OPTIMUM FOUND\n" ++ bits_word bits) bits
    ≡ best_text (OptimumFound c bits)
optimum_best c bits =
    sym (optimum_text [] c bits
    ∙ ap (λ z. z ++ words_text (codes "s OPTIMUM FOUND\n" ++ bits_word bits) bits)
    (append-nil (spaced (cost_tokens c))))

-- one cost falls, as it is below 2^62
one_falls : (p : Problem) (c : ℕ) (bits : List Bool) → IsInstance p → IsSolution p bits c
    → FallsTo [] (Satisfiable c bits)
one_falls p c bits h s =
    let t = s.1 (assignment_of bits) (extends_own bits) in
    let small : c < 2 ^ 62 = cost_small p c h (assignment_of bits, t.0, t.1) in
    (tt, All-from_recursion (λ d. d < 2 ^ 62) (c ∷ []) (small, tt))

pub satisfiable_true : (p : Problem) (c : ℕ) (bits : List Bool) → IsInstance p
    → IsSolution p bits c → IsTrueText p (best_text (Satisfiable c bits))
satisfiable_true p c bits h s =
    (Satisfiable c bits, text_says [] (Satisfiable c bits) (one_falls p c bits h s), s)

pub said_true : (p : Problem) (said : Said) → IsInstance p → IsTrueOf p said
    → IsTrueText p (best_text said)
said_true p (OptimumFound c bits) h t =
    (OptimumFound c bits, text_says [] (OptimumFound c bits) (one_falls p c bits h t.0), t)
said_true p Unsatisfiable h t = (Unsatisfiable, text_says [] Unsatisfiable refl, t)
said_true p (Satisfiable c bits) h t = satisfiable_true p c bits h t
said_true p Unknown h t = (Unknown, text_says [] Unknown refl, tt)
