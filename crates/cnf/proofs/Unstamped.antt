-- Stamps that no literal has.
use Rattle.std.proofs.Common.{◌≡◌, ℕ, zero, suc, ◌-◌, ◌<◌, ◌≤◌, Bool, false, List, [], ◌∷◌, ◌++◌}
use Rattle.std.proofs.Common.{if◌then◌else◌, length, refl, sym, ◌∙◌, ap, arith, map, replicate}
use Rattle.std.proofs.Common.{take}
use Rattle.std.specs.Prelude.{◌==◌, All, Result, Ok, Err, MatchResult, is_ok}
use Rattle.std.proofs.lemmas.List.{map-append, length-map, take_all}
use Rattle.std.proofs.lemmas.Bool.{ne_eqb}
use Rattle.std.proofs.lemmas.List.Elements.{All-head, All-tail}

-- no stamp is one above them
pub none_stamped : (n : ℕ) (ss : List ℕ) → All (λ s. s < n) ss
    → map (λ s. s == n) ss ≡ replicate (length ss) false
none_stamped n [] all = refl
none_stamped n (s ∷ ss) all =
    let below : s < n = All-head (λ s. s < n) s ss all in
    rw (ne_eqb s n (λ e. omega arith))
    (ap (λ xs. false ∷ xs) (none_stamped n ss (All-tail (λ s. s < n) s ss all)))

pub unused : (n count : ℕ) → 0 < n → map (λ s. s == n) (replicate count 0) ≡ replicate count false
unused n zero some = refl
unused n (suc count) some =
    rw (ne_eqb 0 n (λ e. omega arith)) (ap (λ xs. false ∷ xs) (unused n count some))

-- the marks stay, and what is new has none
grown : (p n : ℕ) (ss : List ℕ) → 0 < p → length ss ≤ n
    → map (λ s. s == p) (take n ss ++ replicate (n - length ss) 0)
    ≡ map (λ s. s == p) ss ++ replicate (n - length ss) false
grown p n ss some more =
    rw (take_all n ss more) (map-append (λ s. s == p) ss (replicate (n - length ss) 0)
    ∙ ap (λ xs. map (λ s. s == p) ss ++ xs) (unused p (n - length ss) some))

-- so it is after a growth, and after one that was refused
pub after_growth : {A E : Type 0} (r : Result A E) (p n len : ℕ) (old new : List ℕ)
    (marks : List Bool) → 0 < p → len ≡ length old → map (λ s. s == p) old ≡ marks
    → length marks ≤ n
    → new ≡ (if is_ok r then take n old ++ replicate (n - len) 0 else old)
    → MatchResult r
    (λ _. map (λ s. s == p) new ≡ marks ++ replicate (n - length marks) false)
    (λ _. map (λ s. s == p) new ≡ marks)
after_growth (Ok x) p n len old new marks some l seen more is =
    let same : length marks ≡ length old = sym (ap length seen) ∙ length-map old (λ s. s == p) in
    rw (is, l, same) (grown p n old some (omega (arith, same))
    ∙ ap (λ xs. xs ++ replicate (n - length old) false) seen)
after_growth (Err e) p n len old new marks some l seen more is = rw is seen
