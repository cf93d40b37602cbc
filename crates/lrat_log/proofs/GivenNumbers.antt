-- Clauses given under the numbers from 1 on.
use Rattle.std.proofs.Common.{◌≡◌, ℕ, zero, suc, ◌+◌, ◌<◌, ◌≤◌, false, List, [], ◌∷◌, ◌++◌, length}
use Rattle.std.proofs.Common.{map, Some, None, refl, ◌∙◌, ap, arith}
use Rattle.std.specs.Prelude.{◌==◌}
use Rattle.std.specs.List.{enumerate_from, slice_get}
use Rattle.std.proofs.lemmas.Bool.{eq-eqb, ne_eqb, cond-true, cond-false}
use Rattle.std.proofs.lemmas.Option.{none-some, slice_get_within}
use Rattle.cnf.specs.Literal.{Literal}
use Rattle.cnf.specs.Formula.{numbered}
use Rattle.lrat_log.specs.declared.lines.Name.TheVariants.{Formula, Added}
use Rattle.lrat_log.specs.Log.{Given, given_at}
use Rattle.lrat_log.specs.Steps.{given_of, IsBaseOf}

-- lists by their numbers
get_left : (xs ys : List (List Literal)) (i : ℕ)
    → i < length xs → slice_get (xs ++ ys) i ≡ slice_get xs i
get_left [] ys i h = absurd (omega arith)
get_left (x ∷ xs) ys zero h = refl
get_left (x ∷ xs) ys (suc i) h = get_left xs ys i (omega arith)

get_right : (xs ys : List (List Literal)) (i k : ℕ)
    → i ≡ length xs + k → slice_get (xs ++ ys) i ≡ slice_get ys k
get_right [] ys i k e = let same : i ≡ k = omega arith in ap (slice_get ys) same
get_right (x ∷ xs) ys zero k e = absurd (omega arith)
get_right (x ∷ xs) ys (suc i) k e = get_right xs ys i k (omega arith)

pub numbered_left : (xs ys : List (List Literal)) (i : ℕ)
    → i ≤ length xs → numbered (xs ++ ys) i ≡ numbered xs i
numbered_left xs ys zero h = refl
numbered_left xs ys (suc i) h = get_left xs ys i (omega arith)

pub numbered_right : (xs ys : List (List Literal)) (i k : ℕ)
    → i ≡ length xs + suc k → numbered (xs ++ ys) i ≡ slice_get ys k
numbered_right xs ys zero k e = absurd (omega arith)
numbered_right xs ys (suc i) k e = get_right xs ys i k (omega arith)

pub numbered_within : (xs : List (List Literal)) (i : ℕ) (c : List Literal)
    → numbered xs i ≡ Some c → i ≤ length xs
numbered_within xs zero c e = absurd (none-some c e)
numbered_within xs (suc i) c e = let h = slice_get_within xs i c e in omega arith

-- clauses given in their order
abbrev pub given_on : ℕ → List (List Literal) → Given
given_on n cs = map (λ e. (Formula e.0, e.1)) (enumerate_from n cs)

clauses_on : (n : ℕ) (cs : List (List Literal)) → map (λ g. g.1) (given_on n cs) ≡ cs
clauses_on n [] = refl
clauses_on n (c ∷ cs) = ap (λ x. c ∷ x) (clauses_on (n + 1) cs)

pub clauses_given : (cs : List (List Literal)) → map (λ g. g.1) (given_of cs) ≡ cs
clauses_given cs = clauses_on 1 cs

base_on : (n : ℕ) (cs : List (List Literal)) (a : ℕ)
    → n + length cs ≤ a + 1 → IsBaseOf (given_on n cs) a
base_on n [] a h k d lt = absurd (omega arith)
base_on n (c ∷ cs) a h zero d lt = omega arith
base_on n (c ∷ cs) a h (suc k) d lt = base_on (n + 1) cs a (omega arith) k d (omega arith)

pub base_of : (cs : List (List Literal)) (a : ℕ) → length cs ≤ a → IsBaseOf (given_of cs) a
base_of cs a h = base_on 1 cs a (omega arith)

-- a base, and each number above it
pub base_more : (given : Given) (m a : ℕ) → m ≤ a → IsBaseOf given m → IsBaseOf given a
base_more [] m a h b k d lt = absurd (omega arith)
base_more ((Formula n, c) ∷ more) m a h b zero d lt =
    let first : n ≤ m = b 0 d (omega arith) in omega arith
base_more ((Added n, c) ∷ more) m a h b zero d lt = absurd (b 0 d (omega arith))
base_more ((Formula n, c) ∷ more) m a h b (suc k) d lt =
    base_more more m a h (λ j x l. b (suc j) x (omega arith)) k d (omega arith)
base_more ((Added n, c) ∷ more) m a h b (suc k) d lt =
    base_more more m a h (λ j x l. b (suc j) x (omega arith)) k d (omega arith)

given_from : (n : ℕ) (cs : List (List Literal)) (i k : ℕ)
    → i ≡ n + k → given_at (given_on n cs) i ≡ slice_get cs k
given_from n [] i k e = refl
given_from n (c ∷ cs) i zero e =
    let same : n ≡ i = omega arith in
    cond-true (n == i) (Some c) (given_at (given_on (n + 1) cs) i) (eq-eqb n i same)
given_from n (c ∷ cs) i (suc k) e =
    let differ : (n == i) ≡ false = ne_eqb n i (λ z. absurd (omega arith)) in
    cond-false (n == i) (Some c) (given_at (given_on (n + 1) cs) i) differ
    ∙ given_from (n + 1) cs i k (omega arith)

given_before : (n : ℕ) (cs : List (List Literal)) (i : ℕ)
    → i < n → given_at (given_on n cs) i ≡ None
given_before n [] i h = refl
given_before n (c ∷ cs) i h =
    let differ : (n == i) ≡ false = ne_eqb n i (λ z. absurd (omega arith)) in
    cond-false (n == i) (Some c) (given_at (given_on (n + 1) cs) i) differ
    ∙ given_before (n + 1) cs i (omega arith)

pub given_at-given_of : (cs : List (List Literal)) (i : ℕ)
    → given_at (given_of cs) i ≡ numbered cs i
given_at-given_of cs zero = given_before 1 cs 0 (omega arith)
given_at-given_of cs (suc i) = given_from 1 cs (suc i) i (omega arith)
