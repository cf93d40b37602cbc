-- The lines of a rebased log, one after another.
use Rattle.std.proofs.Common.{◌≡◌, ℕ, zero, suc, ◌+◌, ◌<◌, Some, List, [], ◌∷◌, ◌++◌, length, map}
use Rattle.std.proofs.Common.{take, get_or, refl, sym, ◌∙◌, ap, arith}
use Rattle.std.specs.declared.vec.Vec.{Vec}
use Rattle.std.specs.declared.alloc.Global.{Global}
use Rattle.std.specs.Prelude.{if◌then◌else◌, All}
use Rattle.std.specs.List.{AllByRecursion, slice_get}
use Rattle.std.proofs.lemmas.List.Elements.{recursion_from_All}
use Rattle.std.proofs.lemmas.List.Sums.{sum_by-append}
use Rattle.std.proofs.lemmas.Option.{none-some}
use Rattle.cnf.specs.Literal.{Literal}
use Rattle.lrat_log.specs.Log.{LogLine, is_learned}
use Rattle.lrat_log.specs.Steps.{AddsNoEmptyClause, learned_count}
use Rattle.lrat_log.specs.Rebase.{WeakerList, weaker_list, weaker_line, moved_line, rebased}
use Rattle.lrat_log.specs.Rebase.{IsSomeClause}

-- the first lines, and one more
pub take_mapped : {X Y : Type 0} (f : X → Y) (xs : List X) (k : ℕ) (d : X) → k < length xs
    → take k (map f xs) ++ f (get_or xs k d) ∷ [] ≡ take (k + 1) (map f xs)
take_mapped f [] k d lt = absurd (omega arith)
take_mapped f (y ∷ ys) zero d lt = refl
take_mapped f (y ∷ ys) (suc k) d lt =
    let one : suc k + 1 ≡ suc (k + 1) = omega arith in
    ap (λ z. f y ∷ z) (take_mapped f ys k d (omega arith))
    ∙ sym (ap (λ n. take n (map f (y ∷ ys))) one)

pub take_mapped_at : {X Y : Type 0} (f : X → Y) (xs : List X) (k : ℕ) (x : X)
    → slice_get xs k ≡ Some x → take k (map f xs) ++ f x ∷ [] ≡ take (k + 1) (map f xs)
take_mapped_at f [] k x e = absurd (none-some x e)
take_mapped_at f (y ∷ ys) zero x e = let same : y ≡ x = cc in ap (λ z. f z ∷ []) (sym same)
take_mapped_at f (y ∷ ys) (suc k) x e =
    let one : suc k + 1 ≡ suc (k + 1) = omega arith in
    ap (λ z. f y ∷ z) (take_mapped_at f ys k x e) ∙ sym (ap (λ n. take n (map f (y ∷ ys))) one)

pub weaker_more : (ws : List (Vec Literal Global × ℕ)) (k : ℕ) (e : Vec Literal Global × ℕ)
    → k < length ws → e ≡ get_or ws k e
    → take k (map weaker_line (weaker_list ws)) ++ weaker_line ((e.0).items, e.1) ∷ []
    ≡ take (k + 1) (map weaker_line (weaker_list ws))
weaker_more [] k e lt same = absurd (omega arith)
weaker_more (w ∷ ws) zero e lt same =
    ap (λ (x : Vec Literal Global × ℕ). weaker_line ((x.0).items, x.1) ∷ []) same
weaker_more (w ∷ ws) (suc k) e lt same =
    let one : suc k + 1 ≡ suc (k + 1) = omega arith in
    ap (λ z. weaker_line ((w.0).items, w.1) ∷ z) (weaker_more ws k e (omega arith) same)
    ∙ sym (ap (λ n. take n (map weaker_line (weaker_list (w ∷ ws)))) one)

-- as many learned lines
pub learned_weaker : (ws : WeakerList) → learned_count (map weaker_line ws) ≡ 0
learned_weaker [] = refl
learned_weaker (w ∷ ws) =
    sum_by-append (λ (l : LogLine). if is_learned l.kind then 1 else 0) (weaker_line w ∷ [])
    (map weaker_line ws) ∙ omega (arith, learned_weaker ws)

learned_moved : (f n : ℕ) (ls : List LogLine) → learned_count (map (moved_line f n) ls)
    ≡ learned_count ls
learned_moved f n [] = refl
learned_moved f n (l ∷ ls) =
    sum_by-append (λ (l : LogLine). if is_learned l.kind then 1 else 0) (moved_line f n l ∷ [])
    (map (moved_line f n) ls)
    ∙ ap (λ m. learned_count (l ∷ []) + m) (learned_moved f n ls)
    ∙ sym (sum_by-append (λ (l : LogLine). if is_learned l.kind then 1 else 0) (l ∷ []) ls)

pub learned_rebased : (fixed : ℕ) (ws : WeakerList) (ls : List LogLine)
    → learned_count (rebased fixed ws ls) ≡ learned_count ls
learned_rebased fixed ws ls =
    sum_by-append (λ (l : LogLine). if is_learned l.kind then 1 else 0) (map weaker_line ws)
    (map (moved_line fixed (length ws)) ls)
    ∙ omega (arith, learned_weaker ws, learned_moved fixed (length ws) ls)

-- and none that adds the empty clause, where there was none
open_moved : (f n : ℕ) (ls : List LogLine) → AddsNoEmptyClause ls
    → AddsNoEmptyClause (map (moved_line f n) ls)
open_moved f n [] o = tt
open_moved f n (l ∷ ls) o = (o.0, open_moved f n ls o.1)

open_weaker : (ws : WeakerList) (rest : List LogLine) → AllByRecursion IsSomeClause ws
    → AddsNoEmptyClause rest → AddsNoEmptyClause (map weaker_line ws ++ rest)
open_weaker [] rest h o = o
open_weaker (w ∷ ws) rest h o = (h.0, open_weaker ws rest h.1 o)

pub open_rebased : (fixed : ℕ) (ws : WeakerList) (ls : List LogLine) → All IsSomeClause ws
    → AddsNoEmptyClause ls → AddsNoEmptyClause (rebased fixed ws ls)
open_rebased fixed ws ls some o =
    open_weaker ws (map (moved_line fixed (length ws)) ls) (recursion_from_All IsSomeClause ws some)
    (open_moved fixed (length ws) ls o)
