-- Lines of costs, and what a writer has of them.
use Rattle.std.proofs.Common.{◌≡◌, ℕ, ◌+◌, ◌<◌, ◌≤◌, ◌-◌, ◌^◌, List, [], ◌∷◌, ◌++◌, length, drop}
use Rattle.std.proofs.Common.{set, get_or, Option, Some, Bool, false, sym, ◌∙◌, ap}
use Rattle.std.proofs.Common.{subst, arith, append_assoc, append-nil}
use Rattle.std.specs.Fmt.{decimal}
use Rattle.std.proofs.lemmas.Fmt.{length-decimal-le}
use Rattle.std.specs.Io.KnownBytes.{Appends}
use Rattle.std.proofs.KnownBytes.{Appends-trans}
use Rattle.std.proofs.lemmas.List.{drop-set, drop_more, drop_all, length-set}
use Rattle.text.specs.Writing.{spaced, AppendsPart}
use Rattle.std.proofs.lemmas.Grind.{flat_map-append}
use Rattle.lrat_result.specs.Result.{cost_tokens}
use Rattle.report_text.specs.Told.{cost_lines, Tells}

-- a number of 64 bits has at most 20 digits
pub cost_digits : (n : ℕ) → n < 2 ^ 64 → length (decimal n) ≤ 20
cost_digits n h = length-decimal-le 20 n (omega arith) (omega arith) (omega arith)

-- the digits end before the line feed, and the letter and the space are written before them
pub cost_spelled : (old new : List ℕ) (start n : ℕ) → length old ≡ 23 → get_or old 22 0 ≡ 10
    → length new ≡ 23 → 2 ≤ start → start ≤ 22 → drop start new ≡ decimal n ++ drop 22 old
    → drop (start - 2) (set (set new (start - 1) 32) (start - 2) 111) ≡ spaced (cost_tokens n)
cost_spelled old new start n e h f low high w =
    let last : drop 22 old ≡ 10 ∷ [] = drop_more old 22 0 (omega (arith, e))
    ∙ ap (λ b. b ∷ drop 23 old) h ∙ ap (λ z. 10 ∷ z) (drop_end old e) in
    let ys : List ℕ = set new (start - 1) 32 in
    let len : length ys ≡ 23 = length-set new (start - 1) 32 ∙ f in
    let one : start - 2 + 1 ≡ start - 1 = omega arith in
    let two : start - 1 + 1 ≡ start = omega arith in
    drop-set ys (start - 2) 111 (omega arith)
    ∙ ap (λ k. 111 ∷ drop k ys) one
    ∙ ap (λ z. 111 ∷ z) (drop-set new (start - 1) 32 (omega arith) ∙ ap (λ k. 32 ∷ drop k new) two
    ∙ ap (λ z. 32 ∷ z) (w ∙ ap (λ z. decimal n ++ z) last))
  where
    drop_end : (xs : List ℕ) → length xs ≡ 23 → drop 23 xs ≡ []
    drop_end xs l = drop_all 23 xs (omega arith)

pub cost_lines-last : (costs : List ℕ) (c : ℕ)
    → cost_lines (costs ++ c ∷ []) ≡ cost_lines costs ++ spaced (cost_tokens c)
cost_lines-last costs c = flat_map-append (λ d. spaced (cost_tokens d)) costs (c ∷ [])
    ∙ ap (λ z. cost_lines costs ++ z) (append-nil (spaced (cost_tokens c)))

-- a beginning of one line more
pub line_begun : (first old now : Option (List ℕ)) (costs : List ℕ) (c : ℕ)
    → Appends first old (cost_lines costs) → AppendsPart old now (spaced (cost_tokens c))
    → AppendsPart first now (cost_lines (costs ++ c ∷ []))
line_begun first old now costs c p q =
    subst (AppendsPart first now) (sym (cost_lines-last costs c)) (
      cost_lines costs ++ q.0,
      (
        q.1.0,
        ap (λ z. cost_lines costs ++ z) q.1.1
            ∙ sym (append_assoc (cost_lines costs) q.0 q.1.0),
      ),
      Appends-trans first old now (cost_lines costs) q.0 p q.2,
    )

-- a first failure of the writer
pub broke : (first old now : Option (List ℕ)) (costs new : List ℕ) (cost : ℕ) (failed : Option ℕ)
    (no_memory : Bool) (failures : ℕ)
    → Appends first old (cost_lines costs) → AppendsPart old now (spaced (cost_tokens cost))
    → new ≡ costs → failed ≡ Some cost → no_memory ≡ false → 0 < failures
    → Tells first now new failed no_memory failures
broke first old now costs new cost failed no_memory failures p q same is why some = record {
  all_told = λ z. absurd (omega arith);
  refused = λ z m. absurd (cc);
  broken = λ k z m s.
      let cost_is : cost ≡ k = cc in
      subst (λ x. AppendsPart first now (cost_lines (x ++ k ∷ []))) (sym same)
      (subst (λ x. AppendsPart first now (cost_lines (costs ++ x ∷ []))) cost_is
      (line_begun first old now costs cost p q));
}
