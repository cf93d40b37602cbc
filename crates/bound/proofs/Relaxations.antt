-- Soft clauses with their variables, as they are added one after another.
use Rattle.std.proofs.Common.{◌≡◌, ℕ, suc, ◌+◌, ◌*◌, ◌<◌, ◌≤◌, if◌then◌else◌, Bool, true, false}
use Rattle.std.proofs.Common.{not, List, [], ◌∷◌, ◌++◌, length, map, filter, take}
use Rattle.std.proofs.Common.{get_or, All, refl, sym, ◌∙◌, ap, subst, arith, append_assoc}
use Rattle.std.proofs.Common.{append-nil}
use Rattle.std.proofs.lemmas.Bool.{ne_eqb, false≢true}
use Rattle.std.proofs.lemmas.List.{take_more, length-append}
use Rattle.std.proofs.lemmas.List.Elements.{All-from_recursion, recursion_from_All}
use Rattle.cnf.specs.Literal.{Literal, positive}
use Rattle.cnf.specs.Clause.{has_repeat}
use Rattle.cnf.specs.Problem.{SoftClause}
use Rattle.cnf.specs.Instance.{IsClauseWithin}
use Rattle.adder.specs.declared.profiles.Relaxing.{Relaxing}
use Rattle.adder.specs.declared.profiles.Relaxing.TheVariants.{EachByVariable, UnitsByNegation}
use Rattle.adder.specs.Network.{Relaxed, relaxed_one, relaxed_from}
use Rattle.adder.proofs.Laws.{relaxed_cases}
use Rattle.bound.specs.Bound.{kept}
use Rattle.cnf.specs.Marks.{HasPlace}
use Rattle.cnf.proofs.Laws.{all_append, places_each, absent_above, repeat_push}
use Rattle.bound.specs.Adding.{gets_variable}
use Rattle.bound.proofs.Kept.{kept-append}

-- the clauses of those that have a variable, and how many these are
abbrev pub with_variables : List Relaxed → List (List Literal)
with_variables es = map (λ e. (e.soft).clause ++ e.literal ∷ []) (filter (λ e. e.is_fresh) es)

abbrev pub fresh_count : List Relaxed → ℕ
fresh_count es = length (filter (λ e. e.is_fresh) es)

is_fresh-gets : (relaxing : Relaxing) (v : ℕ) (s : SoftClause)
    → (relaxed_one relaxing v s).is_fresh ≡ gets_variable relaxing s.clause
is_fresh-gets EachByVariable v s = refl
is_fresh-gets UnitsByNegation v s = by s.weight s.clause
  where
    by : (w : ℕ) (c : List Literal)
        → (relaxed_one UnitsByNegation v (record { weight = w; clause = c })).is_fresh
        ≡ gets_variable UnitsByNegation c
    by w [] = refl
    by w (l ∷ []) = refl
    by w (l ∷ k ∷ c) = ap not (sym (ne_eqb (suc (suc (length c))) 1 (λ e. absurd (omega arith))))

-- one more soft clause, at the end
relaxed_from-more : (relaxing : Relaxing) (v : ℕ) (ss : List SoftClause) (s : SoftClause)
    → relaxed_from relaxing v (ss ++ s ∷ []) ≡ relaxed_from relaxing v ss ++ relaxed_one relaxing
    (v + fresh_count (relaxed_from relaxing v ss)) s ∷ []
relaxed_from-more relaxing v [] s = ap (λ n. relaxed_one relaxing n s ∷ []) (omega arith)
relaxed_from-more relaxing v (r ∷ ss) s =
    let first = relaxed_one relaxing v r in
    elim first.is_fresh as (λ b. first ∷ relaxed_from relaxing (if b then v + 1 else v)
    (ss ++ s ∷ [])
    ≡ first ∷ (relaxed_from relaxing (if b then v + 1 else v) ss ++ relaxed_one relaxing
    (v + length (if b then first ∷ filter (λ e. e.is_fresh)
    (relaxed_from relaxing (if b then v + 1 else v) ss)
    else filter (λ e. e.is_fresh) (relaxed_from relaxing (if b then v + 1 else v) ss))) s
    ∷ [])) [
      | true ↦
          let es = relaxed_from relaxing (v + 1) ss in
          let n : (v + 1) + fresh_count es ≡ v + suc (fresh_count es) = omega arith in
          ap (λ x. first ∷ x) (relaxed_from-more relaxing (v + 1) ss s
          ∙ ap (λ m. es ++ relaxed_one relaxing m s ∷ []) n)
      | false ↦ ap (λ x. first ∷ x) (relaxed_from-more relaxing v ss s)
    ]

filter-more : (es : List Relaxed) (e : Relaxed)
    → filter (λ e. e.is_fresh) (es ++ e ∷ []) ≡ filter (λ e. e.is_fresh) es ++ (if e.is_fresh
    then e ∷ [] else [])
filter-more [] e = refl
filter-more (d ∷ es) e =
    elim d.is_fresh as (λ b. (if b then d ∷ filter (λ e. e.is_fresh) (es ++ e ∷ [])
    else filter (λ e. e.is_fresh) (es ++ e ∷ [])) ≡ (if b then d ∷ filter (λ e. e.is_fresh) es
    else filter (λ e. e.is_fresh) es) ++ (if e.is_fresh then e ∷ [] else [])) [
      | true ↦ ap (λ x. d ∷ x) (filter-more es e)
      | false ↦ filter-more es e
    ]

-- the clauses of the soft clauses ss were added, and last is the last variable that is taken
pub record IsRelaxedTo (relaxing : Relaxing) (vars : ℕ) (ss : List SoftClause)
    (old now : List (List Literal)) (last : ℕ) : Type 0 where
  pub added : now ≡ old ++ kept (with_variables (relaxed_from relaxing (vars + 1) ss))
  pub counted : last ≡ vars + fresh_count (relaxed_from relaxing (vars + 1) ss)
  pub few : last ≤ vars + length ss

fresh_literal : (relaxing : Relaxing) (v : ℕ) (s : SoftClause)
    → (relaxed_one relaxing v s).is_fresh ≡ true
    → ((relaxed_one relaxing v s).literal ≡ positive v) × ((relaxed_one relaxing v s).soft ≡ s)
fresh_literal relaxing v s =
    relaxed_cases relaxing v s (λ e. e.is_fresh ≡ true → (e.literal ≡ positive v) × (e.soft ≡ s))
    (λ h. (refl, refl)) (λ l same h. absurd (false≢true h))

abbrev with_literal : Relaxed → List Literal
with_literal e = (e.soft).clause ++ e.literal ∷ []

map-more : (es : List Relaxed) (b : Bool) (e : Relaxed)
    → map with_literal (es ++ (if b then e ∷ [] else [])) ≡ map with_literal es
    ++ (if b then with_literal e ∷ [] else [])
map-more [] true e = refl
map-more [] false e = refl
map-more (d ∷ es) b e = ap (λ x. with_literal d ∷ x) (map-more es b e)

variables-more : (es : List Relaxed) (e : Relaxed) (b : Bool) → e.is_fresh ≡ b
    → with_variables (es ++ e ∷ []) ≡ with_variables es ++ (if b then with_literal e ∷ [] else [])
variables-more es e b h =
    ap (map with_literal) (filter-more es e
    ∙ ap (λ x. filter (λ e. e.is_fresh) es ++ (if x then e ∷ [] else [])) h)
    ∙ map-more (filter (λ e. e.is_fresh) es) b e

count-more : (es : List Relaxed) (e : Relaxed) (b : Bool) → e.is_fresh ≡ b
    → fresh_count (es ++ e ∷ []) ≡ fresh_count es + (if b then 1 else 0)
count-more es e b h =
    ap length (filter-more es e
    ∙ ap (λ x. filter (λ e. e.is_fresh) es ++ (if x then e ∷ [] else [])) h)
    ∙ length-append (filter (λ e. e.is_fresh) es) (if b then e ∷ [] else [])
    ∙ ap (λ n. fresh_count es + n) (by b)
  where
    by : (x : Bool) → length (if x then e ∷ [] else []) ≡ (if x then 1 else 0)
    by true = refl
    by false = refl

module _ (relaxing : Relaxing) (vars : ℕ) (ss : List SoftClause) (s : SoftClause)
    (old now : List (List Literal)) (last : ℕ) (h : IsRelaxedTo relaxing vars ss old now last) where
  abbrev es : List Relaxed
  es = relaxed_from relaxing (vars + 1) ss

  abbrev e : Relaxed
  e = relaxed_one relaxing ((vars + 1) + fresh_count es) s

  one_more : relaxed_from relaxing (vars + 1) (ss ++ s ∷ []) ≡ es ++ e ∷ []
  one_more = relaxed_from-more relaxing (vars + 1) ss s

  pub relaxed_fresh : (new : List (List Literal)) (c : List Literal)
      → gets_variable relaxing s.clause ≡ true → c ≡ s.clause ++ positive (last + 1) ∷ []
      → new ≡ now ++ kept (c ∷ [])
      → IsRelaxedTo relaxing vars (ss ++ s ∷ []) old new (last + 1)
  relaxed_fresh new c g same more =
      let fresh : e.is_fresh ≡ true = is_fresh-gets relaxing ((vars + 1) + fresh_count es) s ∙ g in
      let is = fresh_literal relaxing ((vars + 1) + fresh_count es) s fresh in
      let number : (vars + 1) + fresh_count es ≡ last + 1 = omega (arith, h.counted) in
      let clause : with_literal e ≡ c = (λ i. (is.1 i).clause ++ is.0 i ∷ [])
      ∙ ap (λ n. s.clause ++ positive n ∷ []) number ∙ sym same in
      let all : with_variables (relaxed_from relaxing (vars + 1) (ss ++ s ∷ [])) ≡ with_variables es
      ++ c ∷ [] = ap with_variables one_more ∙ variables-more es e true fresh
      ∙ ap (λ x. with_variables es ++ x ∷ []) clause in
      record {
        added = more ∙ ap (λ x. x ++ kept (c ∷ [])) h.added
            ∙ append_assoc old (kept (with_variables es)) (kept (c ∷ []))
            ∙ ap (λ x. old ++ x) (sym (kept-append (with_variables es) (c ∷ []))
            ∙ ap kept (sym all));
        counted = omega (arith, h.counted, ap fresh_count one_more, count-more es e true fresh);
        few = omega (arith, h.few, length-append ss (s ∷ []));
      }

  pub relaxed_own : gets_variable relaxing s.clause ≡ false
      → IsRelaxedTo relaxing vars (ss ++ s ∷ []) old now last
  relaxed_own g =
      let own : e.is_fresh ≡ false = is_fresh-gets relaxing ((vars + 1) + fresh_count es) s ∙ g in
      let all : with_variables (relaxed_from relaxing (vars + 1) (ss ++ s ∷ []))
      ≡ with_variables es = ap with_variables one_more ∙ variables-more es e false own
      ∙ append-nil (with_variables es) in
      record {
        added = h.added ∙ ap (λ x. old ++ kept x) (sym all);
        counted = omega (arith, h.counted, ap fresh_count one_more, count-more es e false own);
        few = omega (arith, h.few, length-append ss (s ∷ []));
      }

pub relaxed_no_repeat : (c : List Literal) (vars v : ℕ) → has_repeat c ≡ false
    → IsClauseWithin vars c → vars < v → has_repeat (c ++ positive v ∷ []) ≡ false
relaxed_no_repeat c vars v h w lt =
    repeat_push c (positive v) (absent_above (positive v) c (omega (arith, w.2))) h

pub relaxed_places : (c : List Literal) (vars v rows : ℕ) → IsClauseWithin vars c → vars < v
    → 2 * v ≤ rows → All (HasPlace rows) (c ++ positive v ∷ [])
relaxed_places c vars v rows w lt room =
    All-from_recursion (HasPlace rows) (c ++ positive v ∷ [])
    (all_append (HasPlace rows) c (positive v ∷ [])
    (places_each vars rows c (omega arith) (recursion_from_All (λ l. 0 < l.variable) c w.1) w.2)
    ((omega arith, room), tt))

-- the instance's soft clauses, by their places
pub soft_within : (vars : ℕ) (ss : List SoftClause) (i : ℕ) (s : SoftClause)
    → All (λ s. IsClauseWithin vars s.clause) ss → i < length ss → s ≡ get_or ss i s
    → IsClauseWithin vars s.clause
soft_within vars ss i s all lt is = subst (λ x. IsClauseWithin vars x.clause) (sym is) (all i s lt)

pub soft_more : (ss : List SoftClause) (i : ℕ) (s : SoftClause) → i < length ss → s ≡ get_or ss i s
    → take (i + 1) ss ≡ take i ss ++ s ∷ []
soft_more ss i s lt is = take_more ss i s lt ∙ ap (λ x. take i ss ++ x ∷ []) (sym is)
