-- The comparator's clauses, as they are added from the highest column down.
use Rattle.std.proofs.Common.{◌≡◌, ℕ, ◌+◌, ◌/◌, ◌%◌, ◌^◌, ◌<◌, ◌≤◌, if◌then◌else◌, true, false}
use Rattle.std.proofs.Common.{List, [], ◌∷◌, ◌++◌, length, take, drop, reverse, get_or, Option}
use Rattle.std.proofs.Common.{Some, None, refl, sym, ◌∙◌, ap, subst, arith, append_assoc}
use Rattle.std.proofs.Common.{append-nil, take-append-drop, length-take-le}
use Rattle.std.proofs.lemmas.Bool.{eq-eqb, ne_eqb}
use Rattle.std.proofs.lemmas.Grind.{reverse_onto}
use Rattle.std.proofs.lemmas.List.{drop_more, drop_all}
use Rattle.cnf.specs.Literal.{Literal}
use Rattle.adder.specs.Network.{bit}
use Rattle.bound.specs.Bound.{no, kept, above, rising_clauses}
use Rattle.bound.proofs.Kept.{kept-append}

-- the clauses of the columns from j on were added, and clause names the outputs of those with a bit
pub record IsDownTo (outputs : List (Option Literal)) (limit j : ℕ) (old now : List (List Literal))
    (clause : List Literal) : Type 0 where
  pub added : now ≡ old ++ kept (reverse (rising_clauses (drop j outputs) limit j))
  pub leads : above (drop j outputs) limit j ≡ Some clause

-- past a column whose clause is missing none is added
set_apart : (o : Option Literal) (outputs : List (Option Literal)) (limit j : ℕ)
    → above outputs limit (j + 1) ≡ None → (above (o ∷ outputs) limit j ≡ None)
    × (rising_clauses (o ∷ outputs) limit j ≡ rising_clauses outputs limit (j + 1))
set_apart o outputs limit j f =
    elim (bit limit j) as (λ b. bit limit j ≡ b → (above (o ∷ outputs) limit j ≡ None)
    × (rising_clauses (o ∷ outputs) limit j ≡ rising_clauses outputs limit (j + 1))) [
      | true ↦ λ e. (set o e, rw e refl)
      | false ↦ λ e. (rw e f, clear o e)
    ] refl
  where
    set : (o : Option Literal) → bit limit j ≡ true → above (o ∷ outputs) limit j ≡ None
    set None e = rw e refl
    set (Some v) e = rw (e, f) refl

    clear : (o : Option Literal) → bit limit j ≡ false
        → rising_clauses (o ∷ outputs) limit j ≡ rising_clauses outputs limit (j + 1)
    clear None e = rw e refl
    clear (Some v) e = rw (e, f) refl

none_below : (front outputs : List (Option Literal)) (limit j n : ℕ) → n ≡ j + length front
    → above outputs limit n ≡ None → (above (front ++ outputs) limit j ≡ None)
    × (rising_clauses (front ++ outputs) limit j ≡ rising_clauses outputs limit n)
none_below [] outputs limit j n e f =
    let same : n ≡ j = omega arith in
    (rw (← same) f, ap (rising_clauses outputs limit) (sym same))
none_below (o ∷ front) outputs limit j n e f =
    let rest = none_below front outputs limit (j + 1) n (omega arith) f in
    let here = set_apart o (front ++ outputs) limit j rest.0 in
    (here.0, here.1 ∙ rest.1)

no_more : (outputs : List (Option Literal)) (limit j : ℕ) → j ≤ length outputs
    → above (drop j outputs) limit j ≡ None
    → rising_clauses outputs limit 0 ≡ rising_clauses (drop j outputs) limit j
no_more outputs limit j le f =
    ap (λ os. rising_clauses os limit 0) (sym (take-append-drop j outputs))
    ∙ (none_below (take j outputs) (drop j outputs) limit 0 j
    (omega (arith, length-take-le j outputs le)) f).1

-- the limit has a bit past the columns
pub none_added : (outputs : List (Option Literal)) (limit : ℕ) (old : List (List Literal))
    → (limit / 2 ^ length outputs ≡ 0 → ⊥)
    → old ≡ old ++ kept (reverse (rising_clauses outputs limit 0))
none_added outputs limit old h =
    let n = length outputs in
    let past : drop n outputs ≡ [] = drop_all n outputs (omega arith) in
    let missing : above [] limit n ≡ None =
    ap (λ b. if b then Some [] else None) (ne_eqb (limit / 2 ^ n) 0 h) in
    let none : rising_clauses outputs limit 0 ≡ [] =
    no_more outputs limit n (omega arith) (rw past missing)
    ∙ ap (λ os. rising_clauses os limit n) past in
    sym (append-nil old) ∙ ap (λ cs. old ++ kept (reverse cs)) (sym none)

pub starts : (outputs : List (Option Literal)) (limit n : ℕ) (old : List (List Literal))
    (clause : List Literal) → n ≡ length outputs → limit / 2 ^ n ≡ 0 → clause ≡ []
    → IsDownTo outputs limit n old old clause
starts outputs limit n old clause e h none =
    let past : drop n outputs ≡ [] = drop_all n outputs (omega arith) in
    let all : above [] limit n ≡ Some [] =
    ap (λ b. if b then Some [] else None) (eq-eqb (limit / 2 ^ n) 0 h) in
    record {
      added = sym (append-nil old) ∙ ap (λ os. old ++ kept (reverse (rising_clauses os limit n)))
          (sym past);
      leads = ap (λ os. above os limit n) past ∙ all ∙ ap Some (sym none);
    }

-- what the test of a bit says
pub bit_set : (limit i s : ℕ) → s ≡ limit / 2 ^ i → s % 2 ≡ 1 → bit limit i ≡ true
bit_set limit i s e h = eq-eqb (limit / 2 ^ i % 2) 1 (ap (λ n. n % 2) (sym e) ∙ h)

pub bit_clear : (limit i s : ℕ) → s ≡ limit / 2 ^ i → (s % 2 ≡ 1 → ⊥) → bit limit i ≡ false
bit_clear limit i s e h = ne_eqb (limit / 2 ^ i % 2) 1 (λ k. h (ap (λ n. n % 2) e ∙ k))

-- a column further down
module _ (outputs : List (Option Literal)) (limit i j : ℕ) (old now : List (List Literal))
    (clause : List Literal) (next : j ≡ i + 1) (within : i < length outputs)
    (h : IsDownTo outputs limit j old now clause) where
  at_column : (d o : Option Literal) → get_or outputs i d ≡ o
      → drop i outputs ≡ o ∷ drop (i + 1) outputs
  at_column d o e = drop_more outputs i d within ∙ ap (λ x. x ∷ drop (i + 1) outputs) e

  leads : above (drop (i + 1) outputs) limit (i + 1) ≡ Some clause
  leads = subst (λ n. above (drop n outputs) limit n ≡ Some clause) next h.leads

  added : now ≡ old ++ kept (reverse (rising_clauses (drop (i + 1) outputs) limit (i + 1)))
  added =
      subst (λ n. now ≡ old ++ kept (reverse (rising_clauses (drop n outputs) limit n)))
      next h.added

  pub passes_none : (d : Option Literal) → get_or outputs i d ≡ None → bit limit i ≡ false
      → IsDownTo outputs limit i old now clause
  passes_none d e b =
      let here = at_column d None e in
      let same : rising_clauses (None ∷ drop (i + 1) outputs) limit i ≡ rising_clauses
      (drop (i + 1) outputs) limit (i + 1) = rw b refl in
      let lead : above (None ∷ drop (i + 1) outputs) limit i ≡ Some clause = rw b leads in
      record {
        added =
            added ∙ ap (λ cs. old ++ kept (reverse cs)) (sym same
            ∙ ap (λ os. rising_clauses os limit i) (sym here));
        leads = ap (λ os. above os limit i) here ∙ lead;
      }

  pub passes_set : (d : Option Literal) (v : Literal) → get_or outputs i d ≡ Some v
      → bit limit i ≡ true → IsDownTo outputs limit i old now (no v ∷ clause)
  passes_set d v e b =
      let here = at_column d (Some v) e in
      let same : rising_clauses (Some v ∷ drop (i + 1) outputs) limit i ≡ rising_clauses
      (drop (i + 1) outputs) limit (i + 1) = rw b refl in
      let lead : above (Some v ∷ drop (i + 1) outputs) limit i ≡ Some (no v ∷ clause) =
      rw (b, leads) refl in
      record {
        added =
            added ∙ ap (λ cs. old ++ kept (reverse cs)) (sym same
            ∙ ap (λ os. rising_clauses os limit i) (sym here));
        leads = ap (λ os. above os limit i) here ∙ lead;
      }

  pub passes_clear : (d : Option Literal) (v : Literal) (new : List (List Literal))
      → get_or outputs i d ≡ Some v → bit limit i ≡ false → new ≡ now ++ kept ((no v ∷ clause) ∷ [])
      → IsDownTo outputs limit i old new clause
  passes_clear d v new e b more =
      let here = at_column d (Some v) e in
      let rest = rising_clauses (drop (i + 1) outputs) limit (i + 1) in
      let one : rising_clauses (Some v ∷ drop (i + 1) outputs) limit i ≡ (no v ∷ clause) ∷ rest =
      rw (b, leads) refl in
      let lead : above (Some v ∷ drop (i + 1) outputs) limit i ≡ Some clause = rw b leads in
      let whole : kept (reverse ((no v ∷ clause) ∷ rest)) ≡ kept (reverse rest) ++ kept
      ((no v ∷ clause) ∷ []) = ap kept (reverse_onto rest (no v ∷ clause) [])
      ∙ kept-append (reverse rest) ((no v ∷ clause) ∷ []) in
      record {
        added = more ∙ ap (λ cs. cs ++ kept ((no v ∷ clause) ∷ [])) added
            ∙ append_assoc old (kept (reverse rest)) (kept ((no v ∷ clause) ∷ []))
            ∙ ap (λ cs. old ++ cs) (sym whole)
            ∙ ap (λ cs. old ++ kept (reverse cs)) (sym one
            ∙ ap (λ os. rising_clauses os limit i) (sym here));
        leads = ap (λ os. above os limit i) here ∙ lead;
      }

  -- the output is missing where the limit has a bit: so none is added below
  pub ends_none : (d : Option Literal) → get_or outputs i d ≡ None → bit limit i ≡ true
      → now ≡ old ++ kept (reverse (rising_clauses outputs limit 0))
  ends_none d e b =
      let here = at_column d None e in
      let same : rising_clauses (None ∷ drop (i + 1) outputs) limit i ≡ rising_clauses
      (drop (i + 1) outputs) limit (i + 1) = rw b refl in
      let missing : above (None ∷ drop (i + 1) outputs) limit i ≡ None = rw b refl in
      let all : rising_clauses outputs limit 0 ≡ rising_clauses (drop i outputs) limit i =
      no_more outputs limit i (omega arith) (ap (λ os. above os limit i) here ∙ missing) in
      added ∙ ap (λ cs. old ++ kept (reverse cs))
      (sym (all ∙ ap (λ os. rising_clauses os limit i) here ∙ same))

pub ends : (outputs : List (Option Literal)) (limit j : ℕ) (old now : List (List Literal))
    (clause : List Literal) → j ≡ 0 → IsDownTo outputs limit j old now clause
    → now ≡ old ++ kept (reverse (rising_clauses outputs limit 0))
ends outputs limit j old now clause e h =
    subst (λ n. now ≡ old ++ kept (reverse (rising_clauses (drop n outputs) limit n))) e h.added
