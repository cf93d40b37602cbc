-- Looking for the first clause that is a subset.
use Rattle.std.proofs.Common.{◌≡◌, ℕ, suc, ◌+◌, ◌-◌, ◌≤◌, Bool, true, false, List, [], ◌∷◌, ◌++◌}
use Rattle.std.proofs.Common.{length, take, drop, get_or, sym, ◌∙◌, ap, arith}
use Rattle.std.specs.Prelude.{if◌then◌else◌, slice_get, Some}
use Rattle.std.specs.declared.vec.Vec.{Vec}
use Rattle.std.specs.declared.alloc.Global.{Global}
use Rattle.std.proofs.Math.Seq.{take-suc, drop-cons}
use Rattle.std.proofs.lemmas.List.{map-append, get_or-drop, length-drop}
use Rattle.std.proofs.lemmas.Option.{slice_get_within, get_or_from_slice_get}
use Rattle.cnf.specs.Literal.{Literal}
use Rattle.cnf.specs.Clause.{is_subset}
use Rattle.lrat_log.specs.Rebase.{weaker_list}
use Rattle.improve.specs.Weaker.{first_subset, weaker_among}

-- it lies between the first number and the one after the last
pub first_bounds : (ds : List (List Literal)) (c : List Literal) (n : ℕ) → (n ≤ first_subset n ds c)
    × (first_subset n ds c ≤ n + length ds)
first_bounds [] c n = (omega arith, omega arith)
first_bounds (d ∷ ds) c n =
    elim (is_subset d c) as (λ b. (n ≤ (if b then n else first_subset (n + 1) ds c))
    × ((if b then n else first_subset (n + 1) ds c) ≤ n + suc (length ds))) [
      | true ↦ (omega arith, omega arith)
      | false ↦ (let r = first_bounds ds c (n + 1) in (omega (arith, r.0), omega (arith, r.1)))
    ]

-- the clause at a place is the first of those from there on
pub first_at : (cs : List (List Literal)) (c d : List Literal) (n p : ℕ) (b : Bool)
    → slice_get cs p ≡ Some d → is_subset d c ≡ b
    → first_subset n (drop p cs) c ≡ (if b then n else first_subset (n + 1) (drop (p + 1) cs) c)
first_at cs c d n p b at s =
    let one : suc p ≡ p + 1 = omega arith in
    ap (λ x. first_subset n x c) (drop-cons cs p d (slice_get_within cs p d at)
    ∙ ap (λ x. x ∷ drop (suc p) cs) (get_or_from_slice_get cs p d d at))
    ∙ ap (λ x. if x then n else first_subset (n + 1) (drop (suc p) cs) c) s
    ∙ ap (λ m. if b then n else first_subset (n + 1) (drop m cs) c) one

-- one clause more of those from a place on
taken_more : (cs : List (List Literal)) (start p : ℕ) (c : List Literal) → start ≤ p
    → slice_get cs p ≡ Some c
    → take (p + 1 - start) (drop start cs) ≡ take (p - start) (drop start cs) ++ c ∷ []
taken_more cs start p c h at =
    let one : p + 1 - start ≡ suc (p - start) = omega arith in
    let same : start + (p - start) ≡ p = omega arith in
    ap (λ n. take n (drop start cs)) one
    ∙ take-suc (drop start cs) (p - start) c
    (omega (arith, length-drop start cs, slice_get_within cs p c at))
    ∙ ap (λ x. take (p - start) (drop start cs) ++ x ∷ []) (get_or-drop start cs (p - start) c
    ∙ ap (λ i. get_or cs i c) same ∙ get_or_from_slice_get cs p c c at)

pub weaker_more : (old new : List (Vec Literal Global × ℕ)) (cs last : List (List Literal))
    (start first p : ℕ) (c : List Literal) (lits : Vec Literal Global) (number : ℕ) → start ≤ p
    → slice_get cs p ≡ Some c
    → weaker_list old ≡ weaker_among first last (take (p - start) (drop start cs))
    → lits.items ≡ c → number ≡ first_subset first last c → new ≡ old ++ (lits, number) ∷ []
    → weaker_list new ≡ weaker_among first last (take (p + 1 - start) (drop start cs))
weaker_more old new cs last start first p c lits number h at inv is num more =
    let before = take (p - start) (drop start cs) in
    ap weaker_list more ∙ map-append (λ (x : Vec Literal Global × ℕ). ((x.0).items, x.1)) old
    ((lits, number) ∷ []) ∙ ap (λ x. x ++ (lits.items, number) ∷ []) inv
    ∙ ap (λ x. weaker_among first last before ++ (x, number) ∷ []) is
    ∙ ap (λ x. weaker_among first last before ++ (c, x) ∷ []) num
    ∙ sym (map-append (λ x. (x, first_subset first last x)) before (c ∷ []))
    ∙ ap (weaker_among first last) (sym (taken_more cs start p c h at))
