-- Numbers and clauses side by side are the clauses given.
use Rattle.std.proofs.Common.{◌≡◌, ℕ, zero, suc, ◌+◌, ◌-◌, ◌<◌, ◌≤◌, List, [], ◌∷◌, ◌++◌, length}
use Rattle.std.proofs.Common.{map, get_or, Some, refl, sym, ◌∙◌, ap, arith}
use Rattle.std.specs.Prelude.{slice_get}
use Rattle.std.specs.List.{range_with_len, enumerate_from}
use Rattle.std.proofs.lemmas.List.{append-nil, append_assoc, get_or_append_left}
use Rattle.std.proofs.lemmas.List.{get_or-append_right, length-append}
use Rattle.std.proofs.lemmas.List.FromFn.{length-range_with_len, get_or-range_with_len}
use Rattle.cnf.specs.Literal.{Literal}
use Rattle.clauses.specs.Zipped.{zipped}
use Rattle.lrat_log.specs.declared.lines.Name.{Name}
use Rattle.lrat_log.specs.declared.lines.Name.TheVariants.{Formula}
use Rattle.lrat_log.specs.Log.{clauses_in}
use Rattle.lrat_log.specs.Steps.{given_of}
use Rattle.cdcl_search.specs.GivenNumbers.{given_as, numbers_with}

-- the clauses alone
pub listed_clauses : (ns : List ℕ) (cs : List (List Literal)) → length cs ≡ length ns
    → clauses_in (zipped given_as ns cs) ≡ cs
listed_clauses [] [] e = refl
listed_clauses [] (c ∷ cs) e = absurd (omega arith)
listed_clauses (n ∷ ns) [] e = absurd (omega arith)
listed_clauses (n ∷ ns) (c ∷ cs) e = ap (λ x. c ∷ x) (listed_clauses ns cs (omega arith))

-- one of the names
pub listed_name : (ns : List ℕ) (cs : List (List Literal)) (i n : ℕ) → length cs ≡ length ns
    → i < length ns → n ≡ get_or ns i n
    → slice_get (map (λ (g : Name × List Literal). g.0) (zipped given_as ns cs)) i
    ≡ Some (Formula n)
listed_name [] cs i n e lt at = absurd (omega arith)
listed_name (m ∷ ns) [] i n e lt at = absurd (omega arith)
listed_name (m ∷ ns) (c ∷ cs) zero n e lt at = let same : n ≡ m = at in
    ap (λ k. Some (Formula k)) (sym same)
listed_name (m ∷ ns) (c ∷ cs) (suc i) n e lt at =
    listed_name ns cs i n (omega arith) (omega arith) at

-- The numbers.

pub length-numbers : (first : ℕ) (later : List ℕ)
    → length (numbers_with first later) ≡ first + length later
length-numbers first later = length-append (range_with_len 1 first) later
    ∙ ap (λ n. n + length later) (length-range_with_len 1 first)

-- of a clause of the formula
pub first_number : (first : ℕ) (later : List ℕ) (i n : ℕ) → i < first → n ≡ i + 1
    → n ≡ get_or (numbers_with first later) i n
first_number first later i n lt e =
    let long : length (range_with_len 1 first) ≡ first = length-range_with_len 1 first in
    e ∙ sym (get_or_append_left (range_with_len 1 first) later n i (omega arith)
    ∙ get_or-range_with_len 1 first i n lt ∙ omega arith)

-- and of one that came later
pub later_number : (first : ℕ) (later : List ℕ) (i n : ℕ) → first ≤ i
    → n ≡ get_or later (i - first) n → n ≡ get_or (numbers_with first later) i n
later_number first later i n le e =
    e ∙ sym (get_or-append_right (range_with_len 1 first) later first i n
    (length-range_with_len 1 first) le)

-- one number more
pub numbers-push : (first : ℕ) (later : List ℕ) (n : ℕ)
    → numbers_with first (later ++ n ∷ []) ≡ numbers_with first later ++ n ∷ []
numbers-push first later n = sym (append_assoc (range_with_len 1 first) later (n ∷ []))

given_from : (n : ℕ) (cs : List (List Literal))
    → zipped given_as (range_with_len n (length cs)) cs
    ≡ map (λ e. (Formula e.0, e.1)) (enumerate_from n cs)
given_from n [] = refl
given_from n (c ∷ cs) = ap (λ gs. (Formula n, c) ∷ gs) (given_from (n + 1) cs)

-- the clauses of a formula alone
pub given_first : (cs : List (List Literal))
    → zipped given_as (numbers_with (length cs) []) cs ≡ given_of cs
given_first cs =
    ap (λ ns. zipped given_as ns cs) (append-nil (range_with_len 1 (length cs)))
    ∙ given_from 1 cs
