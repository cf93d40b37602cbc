-- Live clauses as lists: one that comes, and what is left of deletions. Ids with other numbers.
use Rattle.std.proofs.Common.{◌≡◌, ℕ, Bool, true, false, List, [], ◌∷◌, ◌++◌, map, Option}
use Rattle.std.proofs.Common.{Some, None, ◌⊎◌, inl, inr, refl, sym, ◌∙◌, ap, subst, cond}
use Rattle.std.specs.Prelude.{nat_eq, ◌==◌}
use Rattle.std.specs.List.{AllByRecursion, IsDistinct, list_any}
use Rattle.std.proofs.lemmas.Bool.{eq-eqb, eqb-false, eqb-true, ne_eqb, or_from}
use Rattle.std.proofs.lemmas.Option.{none-some, same_Some}
use Rattle.cnf.specs.Literal.{Literal}
use Rattle.lrat_live.specs.Listed.{Listed, listed_at, without_id}
use Rattle.lrat_live.proofs.Laws.{listed_at-without}
use Rattle.lrat_machine.specs.Rup.{deleted_from}

-- a clause that comes under an id
one_of : (b : Bool) (c d : List Literal) (o : Option (List Literal)) → cond b (Some c) o ≡ Some d
    → ((b ≡ true) × (c ≡ d)) ⊎ ((b ≡ false) × (o ≡ Some d))
one_of true c d o e = inl (refl, same_Some c d e)
one_of false c d o e = inr (refl, e)

pub listed_pushed : (es : Listed) (id : ℕ) (c : List Literal) (i : ℕ) (d : List Literal)
    → listed_at (es ++ (id, c) ∷ []) i ≡ Some d
    → (listed_at es i ≡ Some d) ⊎ ((i ≡ id) × (c ≡ d))
listed_pushed [] id c i d e = by (one_of (id == i) c d None e)
  where
    by : ((id == i ≡ true) × (c ≡ d)) ⊎ ((id == i ≡ false) × (None ≡ Some d))
        → (listed_at [] i ≡ Some d) ⊎ ((i ≡ id) × (c ≡ d))
    by (inl h) = inr (sym (eqb-true id i h.0), h.1)
    by (inr h) = absurd (none-some d h.1)
listed_pushed (x ∷ es) id c i d e =
    by (one_of (x.0 == i) x.1 d (listed_at (es ++ (id, c) ∷ []) i) e)
    (λ k. listed_pushed es id c i d k)
  where
    later : x.0 == i ≡ false → (listed_at es i ≡ Some d) ⊎ ((i ≡ id) × (c ≡ d))
        → (listed_at (x ∷ es) i ≡ Some d) ⊎ ((i ≡ id) × (c ≡ d))
    later f (inl k) = inl (ap (λ b. cond b (Some x.1) (listed_at es i)) f ∙ k)
    later f (inr k) = inr k

    by : ((x.0 == i ≡ true) × (x.1 ≡ d))
        ⊎ ((x.0 == i ≡ false) × (listed_at (es ++ (id, c) ∷ []) i ≡ Some d))
        → (listed_at (es ++ (id, c) ∷ []) i ≡ Some d
        → (listed_at es i ≡ Some d) ⊎ ((i ≡ id) × (c ≡ d)))
        → (listed_at (x ∷ es) i ≡ Some d) ⊎ ((i ≡ id) × (c ≡ d))
    by (inl h) more = inl (ap (λ b. cond b (Some x.1) (listed_at es i)) h.0 ∙ ap Some h.1)
    by (inr h) more = later h.0 (more h.1)

pub listed_new : (es : Listed) (id : ℕ) (c : List Literal) → listed_at es id ≡ None
    → listed_at (es ++ (id, c) ∷ []) id ≡ Some c
listed_new [] id c e = ap (λ b. cond b (Some c) None) (eq-eqb id id refl)
listed_new (x ∷ es) id c e =
    elim (x.0 == id) as (λ b. cond b (Some x.1) (listed_at es id) ≡ None
    → cond b (Some x.1) (listed_at (es ++ (id, c) ∷ []) id) ≡ Some c) [
      | true ↦ λ e. absurd (none-some x.1 (sym e))
      | false ↦ λ e. listed_new es id c e
    ] e

-- ids that a list lacks, and what holds of numbers
pub absent : (k : ℕ) (ks : List ℕ) → AllByRecursion (λ j. j ≡ k → ⊥) ks
    → list_any (nat_eq k) ks ≡ false
absent k [] h = refl
absent k (j ∷ ks) h =
    or_from (nat_eq k j) (list_any (nat_eq k) ks) (ne_eqb k j (λ z. h.0 (sym z)))
    (absent k ks h.1)

pub all_mapped : (P : ℕ → Type 0) (f : ℕ → ℕ) (ids : List ℕ) → AllByRecursion (λ i. P (f i)) ids
    → AllByRecursion P (map f ids)
all_mapped P f [] h = tt
all_mapped P f (i ∷ ids) h = (h.0, all_mapped P f ids h.1)

pub all_so : (P Q : ℕ → Type 0) (ids : List ℕ) → ((i : ℕ) → P i → Q i) → AllByRecursion P ids
    → AllByRecursion Q ids
all_so P Q [] f h = tt
all_so P Q (i ∷ ids) f h = (f i h.0, all_so P Q ids f h.1)

-- what is left of live clauses
abbrev pub IsLive : Listed → ℕ → Type 0
IsLive es i = (c : List Literal) × (listed_at es i ≡ Some c)

pub record Leaves (es : Listed) (ids : List ℕ) (left : Listed) : Type 0 where
  pub distinct : IsDistinct nat_eq ids
  pub alive : AllByRecursion (IsLive es) ids
  pub kept : (i : ℕ) (c : List Literal) → listed_at left i ≡ Some c
      → (list_any (nat_eq i) ids ≡ false) × (listed_at es i ≡ Some c)

still : (es : Listed) (id i : ℕ) (c : List Literal) → listed_at (without_id id es) i ≡ Some c
    → ((i == id) ≡ false) × (listed_at es i ≡ Some c)
still es id i c e =
    elim (i == id) as (λ b. cond b None (listed_at es i) ≡ Some c
    → (b ≡ false) × (listed_at es i ≡ Some c)) [
      | true ↦ λ e. absurd (none-some c e)
      | false ↦ λ e. (refl, e)
    ] (sym (listed_at-without id es i) ∙ e)

others : (es : Listed) (id : ℕ) (ids : List ℕ) → AllByRecursion (IsLive (without_id id es)) ids
    → AllByRecursion (λ j. nat_eq id j ≡ false) ids
others es id [] h = tt
others es id (j ∷ ids) h =
    let f = (still es id j h.0.0 h.0.1).0 in
    (ne_eqb id j (λ z. eqb-false j id f (sym z)), others es id ids h.1)

pub leaves : (ids : List ℕ) (es left : Listed) → deleted_from es ids ≡ Some left
    → Leaves es ids left
unfolding IsDistinct
leaves [] es left e =
    let same : es ≡ left = same_Some es left e in
    record {
      distinct = tt;
      alive = tt;
      kept = λ i c h. (refl, subst (λ x. listed_at x i ≡ Some c) (sym same) h);
    }
leaves (id ∷ ids) es left e =
    elim (listed_at es id) as (λ o. listed_at es id ≡ o → Leaves es (id ∷ ids) left) [
      | None ↦ λ q. absurd (none-some left (rw q at e))
      | Some c ↦ λ q.
          let rest = leaves ids (without_id id es) left (rw q at e) in
          record {
            distinct = (others es id ids rest.alive, rest.distinct);
            alive = (
              (c, q),
              all_so (IsLive (without_id id es)) (IsLive es) ids
                  (λ j l. (l.0, (still es id j l.0 l.1).1)) rest.alive,
            );
            kept = λ i d h.
                let k = rest.kept i d h in
                let l = still es id i d k.1 in
                (or_from (nat_eq i id) (list_any (nat_eq i) ids) l.0 k.0, l.1);
          }
    ] refl
