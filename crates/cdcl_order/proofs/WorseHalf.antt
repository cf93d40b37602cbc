-- The first half of clauses that get better.
use Rattle.std.proofs.Common.{◌≡◌, ℕ, ◌+◌, ◌/◌, ◌<◌, ◌≤◌, false, List, ◌++◌, length, take}
use Rattle.std.proofs.Common.{drop, sym, ◌∙◌, ap, subst, arith}
use Rattle.std.specs.Prelude.{IsPermutation, IsSortedBy, slice_index_or}
use Rattle.std.specs.List.Sorted.{IsStableBy}
use Rattle.std.specs.Cmp.{IsStrictWeakOrder}
use Rattle.std.proofs.lemmas.Cmp.{nat_cmp_total, on_total, then_total}
use Rattle.std.proofs.lemmas.List.{take-append-drop, length-take-le, length-drop, get_or-take}
use Rattle.std.proofs.lemmas.List.{get_or-drop, get_or_default}
use Rattle.std.proofs.lemmas.List.MinMax.{IsStrictWeakOrder-flip, ranks_by}
use Rattle.std.proofs.lemmas.List.Sorted.{sorted_far, length_permutation}
use Rattle.cdcl_order.specs.declared.deletions.Ranked.{Ranked}
use Rattle.cdcl_order.specs.Deletions.{is_worse, AreWorse, IsWorseHalf}

pub worse_orders : IsStrictWeakOrder is_worse
worse_orders =
    IsStrictWeakOrder-flip _
    (ranks_by (then_total (on_total (λ (r : Ranked). r.lbd) nat_cmp_total)
    (on_total (λ (r : Ranked). r.length) nat_cmp_total)) (λ (r : Ranked). r))

pub first_are_worse : (xs : List Ranked) (n : ℕ) → n ≤ length xs → IsSortedBy is_worse xs
    → AreWorse (take n xs) (drop n xs)
first_are_worse xs n few up i d within j e far =
    let here : i < n = (let long = length-take-le n xs few in omega arith) in
    let there : n + j < length xs = (let long = length-drop n xs in omega arith) in
    let first = slice_index_or xs i d in
    let second = slice_index_or xs (n + j) d in
    let no : is_worse second first ≡ false =
    sorted_far is_worse worse_orders xs up i (n + j) d (omega arith) there in
    let other : slice_index_or (drop n xs) j e ≡ second =
    get_or-drop n xs j e ∙ get_or_default xs (n + j) e d there in
    let chosen : slice_index_or (take n xs) i d ≡ first = get_or-take n xs i d here in
    subst (λ o. is_worse o (slice_index_or (take n xs) i d) ≡ false) (sym other)
    (subst (λ c. is_worse second c ≡ false) (sym chosen) no)

pub is_worse_half : (all sorted chosen : List Ranked) → IsPermutation all sorted
    → IsSortedBy is_worse sorted → IsStableBy is_worse all sorted
    → chosen ≡ take (length sorted / 2) sorted → IsWorseHalf all chosen
is_worse_half all sorted chosen moved up stable is =
    let n = length sorted / 2 in
    let few : n ≤ length sorted = omega arith in
    let others = drop n sorted in
    let joined : sorted ≡ chosen ++ others =
    sym (ap (λ ys. ys ++ others) is ∙ take-append-drop n sorted) in
    record {
      others = others;
      same = subst (IsPermutation all) joined moved;
      half = ap length is ∙ length-take-le n sorted few
          ∙ ap (λ k. k / 2) (length_permutation all sorted moved);
      worse = subst (λ ys. AreWorse ys others) (sym is) (first_are_worse sorted n few up);
      falling = subst (IsSortedBy is_worse) joined up;
      stable = subst (IsStableBy is_worse all) joined stable;
    }
