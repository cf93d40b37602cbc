-- Clauses in one list of literals: how many there are, where one stands, and what one more at the
-- end does.
use Rattle.std.proofs.Common.{◌≡◌, ℕ, zero, suc, ◌+◌, ◌-◌, ◌<◌, ◌≤◌, ◌^◌, List, [], ◌∷◌, ◌++◌}
use Rattle.std.proofs.Common.{length, get_or, drop, Some, refl, sym, ap, ◌∙◌, arith}
use Rattle.std.specs.Prelude.{slice_range, slice_get}
use Rattle.std.specs.List.{flat_map}
use Rattle.std.proofs.lemmas.List.{length-append, drop_all, drop-drop, take-append-drop}
use Rattle.cnf.specs.Literal.{Literal}
use Rattle.cnf.specs.Flat.{cut_from, RiseTo, AreCut, start_at}
use Rattle.cnf.proofs.Laid.{range-append, range-appended}

pub length-cut : (start : ℕ) (ls : List Literal) (es : List ℕ)
    → length (cut_from start ls es) ≡ length es
length-cut start ls [] = refl
length-cut start ls (e ∷ es) = ap suc (length-cut e ls es)

rise-le : (start : ℕ) (es : List ℕ) (last : ℕ) → RiseTo start es last → start ≤ last
rise-le start [] last h = omega arith
rise-le start (e ∷ es) last h = omega (arith, rise-le e es last h.1)

start-next : (start : ℕ) (es : List ℕ) (i : ℕ) → i < length es
    → start_at start es (suc i) ≡ get_or es i 0
start-next start [] i h = absurd (omega arith)
start-next start (e ∷ es) zero h = start-here es
  where
    start-here : (es : List ℕ) → start_at e es zero ≡ e
    start-here [] = refl
    start-here (x ∷ es) = refl
start-next start (e ∷ es) (suc i) h = start-next e es i (omega arith)

-- a clause that is not the first begins where the one before it ends
pub start-before : (es : List ℕ) (place : ℕ) → (place ≡ 0 → ⊥) → place < length es
    → get_or es (place - 1) 0 ≡ start_at 0 es place
start-before es zero n h = absurd (n refl)
start-before es (suc i) n h = let e : suc i - 1 ≡ i = omega arith in
    rw e (sym (start-next 0 es i (omega arith)))

-- the clause at a place
pub bounds_at : (start : ℕ) (es : List ℕ) (last i : ℕ) → RiseTo start es last → i < length es
    → (start_at start es i ≤ get_or es i 0) × (get_or es i 0 ≤ last)
bounds_at start [] last i h l = absurd (omega arith)
bounds_at start (e ∷ es) last zero h l = (h.0, rise-le e es last h.1)
bounds_at start (e ∷ es) last (suc i) h l = bounds_at e es last i h.1 (omega arith)

pub cut_at : (start : ℕ) (ls : List Literal) (es : List ℕ) (i : ℕ) → i < length es
    → slice_get (cut_from start ls es) i
    ≡ Some (slice_range ls (start_at start es i) (get_or es i 0))
cut_at start ls [] i l = absurd (omega arith)
cut_at start ls (e ∷ es) zero l = refl
cut_at start ls (e ∷ es) (suc i) l = cut_at e ls es i (omega arith)

-- one more clause
cut-more : (start : ℕ) (ls more : List Literal) (es : List ℕ) → RiseTo start es (length ls)
    → cut_from start (ls ++ more) (es ++ (length ls + length more) ∷ []) ≡ cut_from start ls es
    ++ more ∷ []
cut-more start ls more [] h =
    rw h (ap (λ c. c ∷ []) (range-appended ls more (length ls) (length ls + length more) refl refl))
cut-more start ls more (e ∷ es) h =
    λ i. range-append ls more start e h.0 (rise-le e es (length ls) h.1) i ∷ cut-more e ls
    more es h.1 i

pub clause_added : (ls more : List Literal) (es : List ℕ) → AreCut ls es
    → cut_from 0 (ls ++ more) (es ++ (length ls + length more) ∷ []) ≡ cut_from 0 ls es ++ more ∷ []
clause_added ls more es h = cut-more 0 ls more es h.rise

rise-more : (start : ℕ) (es : List ℕ) (last more : ℕ) → RiseTo start es last
    → RiseTo start (es ++ (last + more) ∷ []) (last + more)
rise-more start [] last more h = (omega (arith, h), refl)
rise-more start (e ∷ es) last more h = (h.0, rise-more e es last more h.1)

pub cut_added : (ls more : List Literal) (es : List ℕ) → AreCut ls es
    → length ls + length more < 2 ^ 32 → AreCut (ls ++ more) (es ++ (length ls + length more) ∷ [])
cut_added ls more es h few =
    let n : length (ls ++ more) ≡ length ls + length more = length-append ls more in
    record {
      rise = rw n (rise-more 0 es (length ls) (length more) h.rise);
      few = omega (arith, n);
    }

-- the literals of all clauses
pub whole_cut : (start : ℕ) (ls : List Literal) (es : List ℕ) → RiseTo start es (length ls)
    → drop start ls ≡ flat_map (λ c. c) (cut_from start ls es)
whole_cut start ls [] h = drop_all start ls (omega (arith, h))
whole_cut start ls (e ∷ es) h =
    let parts : slice_range ls start e ++ drop e ls ≡ drop start ls =
    range_drop start e ls h.0 in
    sym parts ∙ ap (λ xs. slice_range ls start e ++ xs) (whole_cut e ls es h.1)
  where
    range_drop : (i n : ℕ) (xs : List Literal) → i ≤ n
        → slice_range xs i n ++ drop n xs ≡ drop i xs
    range_drop i n xs h =
        let e : i + (n - i) ≡ n = omega arith in
        ap (λ ys. slice_range xs i n ++ ys) (sym (drop-drop (n - i) i xs ∙ ap (λ k. drop k xs) e))
        ∙ take-append-drop (n - i) (drop i xs)
