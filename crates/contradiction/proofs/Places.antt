-- Clauses by their places.
use Rattle.std.proofs.Common.{◌≡◌, ℕ, ◌+◌, ◌<◌, List, [], ◌∷◌, ◌++◌, All, length, take, get_or, map}
use Rattle.std.proofs.Common.{Some, sym, ap, subst, ◌∙◌, append_assoc, slice_get}
use Rattle.std.proofs.lemmas.List.{map-append, take_more}
use Rattle.std.proofs.lemmas.List.Elements.{All-append, All-from_recursion}
use Rattle.std.proofs.lemmas.Option.{get_or_from_slice_get}
use Rattle.cnf.specs.Literal.{Literal}
use Rattle.contradiction.specs.Contradictions.{clauses_at}

-- the clauses at one place more
pub clauses_more : (hard : List (List Literal)) (places : List ℕ) (i : ℕ) (c : List Literal)
    → i < length places → slice_get hard (get_or places i 0) ≡ Some c
    → clauses_at hard (take (i + 1) places) ≡ clauses_at hard (take i places) ++ c ∷ []
clauses_more hard places i c h e =
    let at = λ (k : ℕ). get_or hard k [] in
    ap (map at) (take_more places i 0 h)
    ∙ map-append at (take i places) (get_or places i 0 ∷ [])
    ∙ ap (λ x. clauses_at hard (take i places) ++ x ∷ [])
    (get_or_from_slice_get hard (get_or places i 0) c [] e)

-- a part that goes on with this clause
pub split_more : (part rest more : List (List Literal)) (hard : List (List Literal))
    (places : List ℕ) (i : ℕ) (c : List Literal) → i < length places
    → slice_get hard (get_or places i 0) ≡ Some c
    → part ≡ clauses_at hard (take i places) ++ rest → rest ≡ c ∷ more
    → part ≡ clauses_at hard (take (i + 1) places) ++ more
split_more part rest more hard places i c h e split goes =
    split
    ∙ ap (λ z. clauses_at hard (take i places) ++ z) goes
    ∙ sym (append_assoc (clauses_at hard (take i places)) (c ∷ []) more)
    ∙ ap (λ z. z ++ more) (sym (clauses_more hard places i c h e))

-- one place more, which is within
pub within_more : (n : ℕ) (places : List ℕ) (i : ℕ) → i < length places
    → All (λ k. k < n) (take i places) → get_or places i 0 < n
    → All (λ k. k < n) (take (i + 1) places)
within_more n places i h before here =
    let P : ℕ → Type 0 = λ k. k < n in
    subst (All P) (sym (take_more places i 0 h))
    (All-append P (take i places) (get_or places i 0 ∷ []) before
    (All-from_recursion P (get_or places i 0 ∷ []) (here, tt)))
