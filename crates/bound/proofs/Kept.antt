-- Clauses as they are kept, one after another.
use Rattle.std.proofs.Common.{◌≡◌, ℕ, ◌+◌, ◌<◌, Bool, true, false, not, ◌&&◌, ◌||◌, List}
use Rattle.std.proofs.Common.{[], ◌∷◌, ◌++◌, length, take, get_or, if◌then◌else◌, refl, sym}
use Rattle.std.proofs.Common.{◌∙◌, ap, append_assoc, append-nil}
use Rattle.std.proofs.lemmas.Bool.{or_parts}
use Rattle.std.proofs.lemmas.List.{take_more}
use Rattle.cnf.specs.Literal.{Literal, literal_eq, same_bool}
use Rattle.cnf.specs.Clause.{contains_literal, without_literal, distinct, has_repeat, is_tautology}
use Rattle.bound.specs.Bound.{kept}
use Rattle.bound.specs.Adding.{Adds}
use Rattle.cnf.proofs.Laws.{same_number, repeat_distinct}
use Rattle.bound.proofs.Clauses.{any-distinct}

without_absent : (l : Literal) (c : List Literal) → contains_literal l c ≡ false
    → without_literal l c ≡ c
without_absent l [] h = refl
without_absent l (k ∷ c) h =
    let parts = or_parts (literal_eq l k) (contains_literal l c) h in
    ap (λ b. if not b then k ∷ without_literal l c else without_literal l c) parts.0
    ∙ ap (λ x. k ∷ x) (without_absent l c parts.1)

-- a clause with no repeat stays as it is
pub distinct_same : (c : List Literal) → has_repeat c ≡ false → distinct c ≡ c
distinct_same [] h = refl
distinct_same (l ∷ c) h =
    let parts = or_parts (contains_literal l c) (has_repeat c) h in
    ap (λ x. l ∷ x) (ap (without_literal l) (distinct_same c parts.1) ∙ without_absent l c parts.0)

-- what is kept of one clause
abbrev kept_of : Bool → List Literal → List (List Literal)
kept_of b c = if not b then c ∷ [] else []

pub kept_one : (c : List Literal) (b : Bool) → has_repeat c ≡ false → b ≡ is_tautology c
    → kept (c ∷ []) ≡ (if b then [] else c ∷ [])
kept_one c b h e =
    ap (λ x. if not (is_tautology x) then x ∷ [] else []) (distinct_same c h)
    ∙ ap (λ x. if not x then c ∷ [] else []) (sym e) ∙ by b
  where
    by : (x : Bool) → (if not x then c ∷ [] else []) ≡ (if x then [] else c ∷ [])
    by true = refl
    by false = refl

pub kept-append : (cs ds : List (List Literal)) → kept (cs ++ ds) ≡ kept cs ++ kept ds
kept-append [] ds = refl
kept-append (c ∷ cs) ds =
    elim (is_tautology (distinct c)) as (λ b. (if not b then distinct c ∷ kept (cs ++ ds)
    else kept (cs ++ ds)) ≡ (if not b then distinct c ∷ kept cs else kept cs) ++ kept ds) [
      | true ↦ kept-append cs ds
      | false ↦ ap (λ x. distinct c ∷ x) (kept-append cs ds)
    ]

-- one more clause is kept
pub kept_more : (old cs : List (List Literal)) (i : ℕ) (c : List Literal)
    (now new : List (List Literal)) → i < length cs → c ≡ get_or cs i c
    → now ≡ old ++ kept (take i cs) → new ≡ now ++ kept (c ∷ [])
    → new ≡ old ++ kept (take (i + 1) cs)
kept_more old cs i c now new h is inv e =
    let more : take (i + 1) cs ≡ take i cs ++ c ∷ [] =
    take_more cs i c h ∙ ap (λ x. take i cs ++ x ∷ []) (sym is) in
    e ∙ ap (λ x. x ++ kept (c ∷ [])) inv ∙ append_assoc old (kept (take i cs)) (kept (c ∷ []))
    ∙ ap (λ x. old ++ x) (sym (kept-append (take i cs) (c ∷ [])) ∙ ap kept (sym more))

-- repeats may be dropped before
pub kept-distinct : (c once : List Literal) → once ≡ distinct c → kept (once ∷ []) ≡ kept (c ∷ [])
kept-distinct c once e =
    ap (λ x. if not (is_tautology x) then x ∷ [] else [])
    (distinct_same once (rw e (repeat_distinct c)) ∙ e)

-- a clause that has complementary literals adds nothing, and another one itself
pub kept_none : (old : List (List Literal)) (c : List Literal) → has_repeat c ≡ false
    → is_tautology c ≡ true → old ≡ old ++ kept (c ∷ [])
kept_none old c h e = sym (append-nil old) ∙ ap (λ x. old ++ x) (sym (kept_one c true h (sym e)))

pub kept_itself : (old : List (List Literal)) (c : List Literal) → has_repeat c ≡ false
    → is_tautology c ≡ false → old ++ c ∷ [] ≡ old ++ kept (c ∷ [])
kept_itself old c h e = ap (λ x. old ++ x) (sym (kept_one c false h (sym e)))

without-more : (k : Literal) (c : List Literal) (l : Literal) (b : Bool) → literal_eq k l ≡ b
    → without_literal k (c ++ l ∷ []) ≡ without_literal k c ++ (if b then [] else l ∷ [])
without-more k [] l b e = ap (λ x. if not x then l ∷ [] else []) e ∙ by b
  where
    by : (x : Bool) → (if not x then l ∷ [] else []) ≡ (if x then [] else l ∷ [])
    by true = refl
    by false = refl
without-more k (x ∷ c) l b e =
    elim (literal_eq k x) as (λ y. (if not y then x ∷ without_literal k (c ++ l ∷ [])
    else without_literal k (c ++ l ∷ [])) ≡ (if not y then x ∷ without_literal k c
    else without_literal k c) ++ (if b then [] else l ∷ [])) [
      | true ↦ without-more k c l b e
      | false ↦ ap (λ z. x ∷ z) (without-more k c l b e)
    ]

pub same_literals : (k l : Literal) → literal_eq k l ≡ literal_eq l k
same_literals k l = λ i. same_number k.variable l.variable i && by k.negated l.negated i
  where
    by : (a b : Bool) → same_bool a b ≡ same_bool b a
    by true true = refl
    by true false = refl
    by false true = refl
    by false false = refl

-- one more literal, at the end
pub distinct-more : (c : List Literal) (l : Literal)
    → distinct (c ++ l ∷ []) ≡ (if contains_literal l c then distinct c else distinct c ++ l ∷ [])
distinct-more [] l = refl
distinct-more (k ∷ c) l =
    ap (λ x. k ∷ without_literal k x) (distinct-more c l)
    ∙ elim (contains_literal l c) as (λ m. k ∷ without_literal k (if m then distinct c
    else distinct c ++ l ∷ []) ≡ (if literal_eq l k || m
    then k ∷ without_literal k (distinct c) else (k ∷ without_literal k (distinct c))
    ++ l ∷ [])) [
      | true ↦ known (literal_eq l k)
      | false ↦ ap (λ x. k ∷ x) (without-more k (distinct c) l (literal_eq l k) (same_literals k l))
          ∙ unknown (literal_eq l k)
    ]
  where
    known : (b : Bool)
        → k ∷ without_literal k (distinct c) ≡ (if b || true then k ∷ without_literal k (distinct c)
        else (k ∷ without_literal k (distinct c)) ++ l ∷ [])
    known true = refl
    known false = refl

    unknown : (b : Bool) → k ∷ (without_literal k (distinct c) ++ (if b then [] else l ∷ []))
        ≡ (if b || false then k ∷ without_literal k (distinct c)
        else (k ∷ without_literal k (distinct c)) ++ l ∷ [])
    unknown true = ap (λ x. k ∷ x) (append-nil (without_literal k (distinct c)))
    unknown false = refl

-- a step of the walk that drops repeats
pub distinct_same_step : (once : List Literal) (lits : List Literal) (i : ℕ) (l : Literal)
    (b : Bool) → i < length lits → l ≡ get_or lits i l → once ≡ distinct (take i lits)
    → b ≡ contains_literal l once
    → distinct (take (i + 1) lits) ≡ (if b then once else once ++ l ∷ [])
distinct_same_step once lits i l b h is inv e =
    let front = take i lits in
    let more : take (i + 1) lits ≡ front ++ l ∷ [] =
    take_more lits i l h ∙ ap (λ x. front ++ x ∷ []) (sym is) in
    let found : contains_literal l front ≡ b = sym (any-distinct (literal_eq l) front)
    ∙ ap (contains_literal l) (sym inv) ∙ sym e in
    ap distinct more ∙ distinct-more front l
    ∙ (λ j. if found j then sym inv j else sym inv j ++ l ∷ [])

-- clauses are added, and then others
pub adds_more : (a b c xs ys : List (List Literal)) → Adds a b xs → Adds b c ys
    → Adds a c (xs ++ ys)
adds_more a b c xs ys p q = record {
  items = q.items ∙ ap (λ z. z ++ kept ys) p.items ∙ append_assoc a (kept xs) (kept ys)
      ∙ ap (λ z. a ++ z) (sym (kept-append xs ys));
}

pub adds_one : (a b : List (List Literal)) (c : List Literal) → b ≡ a ++ kept (c ∷ [])
    → Adds a b (c ∷ [])
adds_one a b c e = record { items = e }
