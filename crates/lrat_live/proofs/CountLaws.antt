-- Laws of counts. A rising list of ids whose clauses have the literal in as many places as all
-- clauses do names all that have it.
use Rattle.std.proofs.Common.{◌≡◌, ℕ, ◌+◌, ◌-◌, ◌*◌, ◌<◌, ◌≤◌, Bool, true, false, not, List, []}
use Rattle.std.proofs.Common.{◌∷◌, ◌++◌, length, get_or, take, drop, Option, Some, None, refl}
use Rattle.std.proofs.Common.{sym, ◌∙◌, ap, subst, arith, inl, inr}
use Rattle.std.proofs.Math.Bool.{cond}
use Rattle.std.specs.Prelude.{◌==◌, ◌&&◌, All, nat_lt, nat_le, slice_range}
use Rattle.std.specs.List.{AllByRecursion}
use Rattle.std.proofs.lemmas.Bool.{not-false, not-true, and_from, and_parts, or_parts, or_from}
use Rattle.std.proofs.lemmas.Bool.{cases_Bool, both_ways, eq-eqb, eqb-true, ne_eqb, cases_eq}
use Rattle.std.proofs.lemmas.Bool.{cases_lt, ltb-true, lt-ltb, leb-true, le-leb, false≢true}
use Rattle.std.proofs.lemmas.Bool.{cond-true, cond-false, false_from_ne_true}
use Rattle.std.proofs.lemmas.List.{drop_more, take_more, append-nil, map_push}
use Rattle.std.proofs.lemmas.List.Elements.{All-head, All-tail}
use Rattle.cnf.specs.Numbers.{one_if}
use Rattle.cnf.specs.Literal.{Literal, literal_eq, same_bool, index_of}
use Rattle.cnf.specs.Clause.{contains_literal}
use Rattle.cnf.proofs.Laws.{literal_eq-true}
use Rattle.lrat_live.specs.Counts.{times_in, times, times_at, is_next, take_all, AreCounts}
use Rattle.lrat_live.specs.Counts.{AreTaken}
use Rattle.lrat_live.specs.Counts.{AreRaised, AreLowered}
use Rattle.lrat_live.specs.Listed.{Listed, ids_of, ids_listed, listed_at, same_ids, without_id}
use Rattle.lrat_live.proofs.Listed.{Rises}
use Rattle.cnf.proofs.Laws.{literal_eq-refl, index_same}
use Rattle.lrat_live.proofs.Clauses.{clauses_live, clauses_dead, clauses-append}
use Rattle.lrat_live.specs.Table.{entry_span, entry_spans, clauses_in}
use Rattle.lrat_live.specs.declared.entries.AddedEntry.{AddedEntry}

-- numbers
plus_zero : (a : ℕ) → a + 0 ≡ a
plus_zero a = omega arith

minus_zero : (a : ℕ) → a ≡ a - 0
minus_zero a = omega arith

zero_plus : (a : ℕ) → 0 + a ≡ a
zero_plus a = omega arith

plus_plus : (a b c : ℕ) → a + (b + c) ≡ a + b + c
plus_plus a b c = omega arith

some_first : (a b : ℕ) → a ≡ 1 → 0 < a + b
some_first a b e = omega arith

some_later : (a b : ℕ) → 0 < b → 0 < a + b
some_later a b h = omega arith

raise_sum : (n m o x y t u : ℕ) → n ≡ m + x → x ≡ y → m ≡ o + t → u ≡ t + y → n ≡ o + u
raise_sum n m o x y t u a b c d = omega arith

lower_sum : (n m o x y t u : ℕ) → n ≡ m - x → x ≡ y → m ≡ o - t → u ≡ t + y → n ≡ o - u
lower_sum n m o x y t u a b c d = omega arith

minus_first : (a b c : ℕ) → a ≡ c → b ≡ a + b - c
minus_first a b c e = omega arith

minus_later : (a w t c : ℕ) → w ≡ t - c → c ≤ t → a + w ≡ a + t - c
minus_later a w t c e h = omega arith

le_first : (a b c : ℕ) → a ≡ c → c ≤ a + b
le_first a b c e = omega arith

le_later : (a b c : ℕ) → c ≤ b → c ≤ a + b
le_later a b c h = omega arith

-- in a clause
pub times_in-append : (l : Literal) (b c : List Literal)
    → times_in l (b ++ c) ≡ times_in l b + times_in l c
times_in-append l [] c = sym (zero_plus (times_in l c))
times_in-append l (k ∷ b) c =
    ap (λ n. one_if (literal_eq l k) + n) (times_in-append l b c)
    ∙ plus_plus (one_if (literal_eq l k)) (times_in l b) (times_in l c)

pub times_in-more : (l k : Literal) (c : List Literal) (i : ℕ) → i < length c → k ≡ get_or c i k
    → times_in l (take (i + 1) c) ≡ times_in l (take i c) + one_if (literal_eq l k)
times_in-more l k c i h e =
    let whole : take (i + 1) c ≡ take i c ++ k ∷ [] =
    take_more c i k h ∙ ap (λ x. take i c ++ x ∷ []) (sym e) in
    ap (times_in l) whole ∙ times_in-append l (take i c) (k ∷ [])
    ∙ ap (λ n. times_in l (take i c) + n) (plus_zero (one_if (literal_eq l k)))

same_codes : (k l : Literal) → 2 * l.variable + cond l.negated 1 0 ≡ 2 * k.variable + cond k.negated
    1 0 → literal_eq k l ≡ true
same_codes k l e = by k.variable l.variable k.negated l.negated e
  where
    by : (v w : ℕ) (a b : Bool) → 2 * w + cond b 1 0 ≡ 2 * v + cond a 1 0
        → ((v == w) && same_bool a b) ≡ true
    by v w true true e = and_from _ _ (eq-eqb v w (omega arith)) refl
    by v w false false e = and_from _ _ (eq-eqb v w (omega arith)) refl
    by v w true false e = absurd (omega arith)
    by v w false true e = absurd (omega arith)

pub ne_codes : (k l : Literal)
    → not ((2 * l.variable + cond l.negated 1 0) == (2 * k.variable + cond k.negated 1 0)) ≡ true
    → literal_eq k l ≡ false
ne_codes k l h =
    false_from_ne_true _ (λ e.
    let same : k ≡ l = literal_eq-true k l e in
    both_ways _ (not-true _ h)
    (eq-eqb _ _ (ap (λ m. 2 * m.variable + cond m.negated 1 0) (sym same))))

pub times_in-passed : (l k : Literal) (c : List Literal) (i : ℕ) → i < length c → k ≡ get_or c i k
    → not ((2 * k.variable + cond k.negated 1 0) == (2 * l.variable + cond l.negated 1 0)) ≡ true
    → times_in l (take (i + 1) c) ≡ times_in l (take i c)
times_in-passed l k c i h e ne =
    let none : one_if (literal_eq l k) ≡ 0 = ap one_if (ne_codes l k ne) in
    times_in-more l k c i h e ∙ ap (λ n. times_in l (take i c) + n) none
    ∙ plus_zero (times_in l (take i c))

pub times_in-found : (l k : Literal) (c : List Literal) (i : ℕ) → i < length c → k ≡ get_or c i k
    → not ((2 * k.variable + cond k.negated 1 0) == (2 * l.variable + cond l.negated 1 0)) ≡ false
    → times_in l (take (i + 1) c) ≡ times_in l (take i c) + 1
times_in-found l k c i h e same =
    let one : one_if (literal_eq l k) ≡ 1 =
    ap one_if (same_codes l k (eqb-true _ _ (not-false _ same))) in
    times_in-more l k c i h e ∙ ap (λ n. times_in l (take i c) + n) one

times_none : (l : Literal) (c : List Literal) → contains_literal l c ≡ false → times_in l c ≡ 0
times_none l [] e = refl
times_none l (k ∷ c) e = let h = or_parts (literal_eq l k) (contains_literal l c) e in
    ap (λ n. n + times_in l c) (ap one_if h.0) ∙ zero_plus (times_in l c) ∙ times_none l c h.1

pub times_some : (l : Literal) (c : List Literal) → contains_literal l c ≡ true → 0 < times_in l c
times_some l [] e = absurd (false≢true e)
times_some l (k ∷ c) e =
    elim (cases_Bool (literal_eq l k)) [
      | inl t ↦ some_first (one_if (literal_eq l k)) (times_in l c) (ap one_if t)
      | inr f ↦ elim (cases_Bool (contains_literal l c)) [
        | inl t ↦ some_later (one_if (literal_eq l k)) (times_in l c) (times_some l c t)
        | inr g ↦ absurd (both_ways _ (or_from _ _ f g) e)
      ]
    ]

-- places
pub one_at : (l k : Literal) → 0 < l.variable → 0 < k.variable
    → one_if (index_of l == index_of k) ≡ one_if (literal_eq l k)
one_at l k p q =
    elim (cases_eq (index_of l) (index_of k)) [
      | inl e ↦
          let same : l ≡ k = index_same l k p q e in
          ap one_if (eq-eqb _ _ e)
          ∙ sym (ap one_if (ap (literal_eq l) (sym same) ∙ literal_eq-refl l))
      | inr n ↦
          ap one_if (ne_eqb _ _ n)
          ∙ sym (ap one_if (false_from_ne_true _ (λ t. n (ap index_of (literal_eq-true l k t)))))
    ]

pub raised_none : (old : ℕ → ℕ) (c : List Literal) → AreRaised old (take 0 c) old
raised_none old c = λ l p. sym (plus_zero (old (index_of l)))

pub raised_more : (old mid new : ℕ → ℕ) (c : List Literal) (i : ℕ) (k : Literal)
    → AreRaised old (take i c) mid → i < length c → k ≡ get_or c i k → 0 < k.variable
    → ((p : ℕ) → new p ≡ mid p + one_if (p == index_of k))
    → AreRaised old (take (i + 1) c) new
raised_more old mid new c i k r h e positive step = λ l p.
    raise_sum (new (index_of l)) (mid (index_of l))
    (old (index_of l)) (one_if (index_of l == index_of k)) (one_if (literal_eq l k))
    (times_in l (take i c)) (times_in l (take (i + 1) c))
    (step (index_of l)) (one_at l k p positive) (r l p) (times_in-more l k c i h e)

pub lowered_none : (old : ℕ → ℕ) (c : List Literal) → AreLowered old (take 0 c) old
lowered_none old c =
    λ l p. minus_zero (old (index_of l))

pub lowered_more : (old mid new : ℕ → ℕ) (c : List Literal) (i : ℕ) (k : Literal)
    → AreLowered old (take i c) mid → i < length c → k ≡ get_or c i k → 0 < k.variable
    → ((p : ℕ) → new p ≡ mid p - one_if (p == index_of k))
    → AreLowered old (take (i + 1) c) new
lowered_more old mid new c i k r h e positive step = λ l p.
    lower_sum (new (index_of l)) (mid (index_of l))
    (old (index_of l)) (one_if (index_of l == index_of k)) (one_if (literal_eq l k))
    (times_in l (take i c)) (times_in l (take (i + 1) c))
    (step (index_of l)) (one_at l k p positive) (r l p) (times_in-more l k c i h e)

-- in all clauses
pub times-append : (l : Literal) (es fs : Listed) → times l (es ++ fs) ≡ times l es + times l fs
times-append l [] fs = sym (zero_plus (times l fs))
times-append l (e ∷ es) fs = ap (λ n. times_in l e.1 + n) (times-append l es fs)
    ∙ plus_plus (times_in l e.1) (times l es) (times l fs)

pub counts_push : (old new : ℕ → ℕ) (es : Listed) (id : ℕ) (c : List Literal)
    → AreCounts old es
    → AreRaised old c new → AreCounts new (es ++ (id, c) ∷ [])
counts_push old new es id c a r = λ l p.
    r l p ∙ ap (λ n. n + times_in l c) (a l p)
    ∙ sym (times-append l es ((id, c) ∷ []) ∙ ap (λ n. times l es + n) (plus_zero (times_in l c)))

times_kept : (l : Literal) (i : ℕ) (es : Listed) → AllByRecursion (λ y. i < y) (ids_of es)
    → without_id i es ≡ es
times_kept l i [] a = refl
times_kept l i (e ∷ es) a =
    let other : (e.0 == i) ≡ false = ne_eqb e.0 i (λ z. absurd (omega (arith, a.0))) in
    rw other (ap (λ xs. e ∷ xs) (times_kept l i es a.1))

pub times_without : (l : Literal) (i : ℕ) (es : Listed) (c : List Literal) → Rises (ids_of es)
    → listed_at es i ≡ Some c → times l (without_id i es) ≡ times l es - times_in l c
times_without l i [] c r e = let z = e in absurd (cc)
times_without l i (x ∷ es) c r e =
    elim (cases_eq x.0 i) [
      | inl t ↦
          let test : (x.0 == i) ≡ true = eq-eqb x.0 i t in
          let here : Some x.1 ≡ Some c = sym (cond-true (x.0 == i) (Some x.1) (listed_at es i) test)
          ∙ e in
          let same : x.1 ≡ c = ap (λ o. or_empty o) here in
          let all : without_id i es ≡ es =
          times_kept l i es (subst (λ n. AllByRecursion (λ y. n < y) (ids_of es)) t r.0) in
          let n : times_in l x.1 ≡ times_in l c = ap (times_in l) same in
          rw test (ap (times l) all ∙ minus_first (times_in l x.1) (times l es) (times_in l c) n)
      | inr f ↦
          let test : (x.0 == i) ≡ false = ne_eqb x.0 i f in
          let there : listed_at es i ≡ Some c =
          sym (cond-false (x.0 == i) (Some x.1) (listed_at es i) test) ∙ e in
          let h = times_without l i es c r.1 there in
          let le = times_le l i es c there in
          rw test (minus_later (times_in l x.1) (times l (without_id i es)) (times l es)
          (times_in l c) h le)
    ]
  where
    or_empty : Option (List Literal) → List Literal
    or_empty None = []
    or_empty (Some c) = c

    times_le : (l : Literal) (i : ℕ) (es : Listed) (c : List Literal) → listed_at es i ≡ Some c
        → times_in l c ≤ times l es
    times_le l i [] c e = let z = e in absurd (cc)
    times_le l i (x ∷ es) c e =
        elim (cases_eq x.0 i) [
          | inl t ↦
              let here : Some x.1 ≡ Some c =
              sym (cond-true (x.0 == i) (Some x.1) (listed_at es i) (eq-eqb x.0 i t)) ∙ e in
              let n : times_in l x.1 ≡ times_in l c = ap (λ o. times_in l (or_empty o)) here in
              le_first (times_in l x.1) (times l es) (times_in l c) n
          | inr f ↦
              let there : listed_at es i ≡ Some c =
              sym (cond-false (x.0 == i) (Some x.1) (listed_at es i) (ne_eqb x.0 i f)) ∙ e in
              le_later (times_in l x.1) (times l es) (times_in l c) (times_le l i es c there)
        ]

pub counts_without : (old new : ℕ → ℕ) (es : Listed) (id : ℕ) (c : List Literal)
    → Rises (ids_of es) → listed_at es id ≡ Some c → AreCounts old es → AreLowered old c new
    → AreCounts new (without_id id es)
counts_without old new es id c r e a w = λ l p. w l p ∙ ap (λ n. n - times_in l c) (a l p)
    ∙ sym (times_without l id es c r e)

-- the ids in turn
next_parts : (before id count left : ℕ) → is_next before id count left ≡ true
    → (before < id) × (0 < count) × (count ≤ left)
next_parts before id count left e =
    let a = and_parts (nat_lt before id && nat_lt 0 count) (nat_le count left) e in
    let b = and_parts (nat_lt before id) (nat_lt 0 count) a.0 in
    (ltb-true before id b.0, ltb-true 0 count b.1, leb-true count left a.1)

next_from : (before id count left : ℕ) → before < id → 0 < count → count ≤ left
    → is_next before id count left ≡ true
next_from before id count left a b c =
    and_from _ _ (and_from _ _ (lt-ltb before id a) (lt-ltb 0 count b)) (le-leb count left c)

pub take_on : (count : ℕ → ℕ) (left before i : ℕ) (is : List ℕ)
    → is_next before i (count i) left ≡ true → take_all count left before (i ∷ is) ≡ take_all count
    (left - count i) i is
take_on count left before i is e = rw e refl

pub take_stops : (count : ℕ → ℕ) (left before i : ℕ) (is : List ℕ)
    → is_next before i (count i) left ≡ false → take_all count left before (i ∷ is) ≡ false
take_stops count left before i is e = rw e refl

-- what a list of ids takes is there
abbrev pub Agrees : Literal → (ℕ → ℕ) → ℕ → Listed → Type 0
Agrees l count before es = (i : ℕ) → before < i → count i ≡ times_at l es i

above_all : (l : Literal) (i : ℕ) (es : Listed) → AllByRecursion (λ y. i < y) (ids_of es)
    → times_at l es i ≡ 0
above_all l i [] a = refl
above_all l i (e ∷ es) a =
    let other : (e.0 == i) ≡ false = ne_eqb e.0 i (λ z. absurd (omega (arith, a.0))) in
    rw other (above_all l i es a.1)

higher : (i j : ℕ) (ks : List ℕ) → i < j → AllByRecursion (λ y. j < y) ks
    → AllByRecursion (λ y. i < y) ks
higher i j [] h a = tt
higher i j (k ∷ ks) h a = (omega (arith, a.0), higher i j ks h a.1)

times_here : (l : Literal) (j : ℕ) (c : List Literal) (es : Listed) (i : ℕ) → i ≡ j
    → times_at l ((j, c) ∷ es) i ≡ times_in l c
times_here l j c es i e = let t : (j == i) ≡ true = eq-eqb j i (sym e) in rw t refl

times_there : (l : Literal) (j : ℕ) (c : List Literal) (es : Listed) (i : ℕ) → (i ≡ j → ⊥)
    → times_at l ((j, c) ∷ es) i ≡ times_at l es i
times_there l j c es i n = let t : (j == i) ≡ false = ne_eqb j i (λ e. n (sym e)) in rw t refl

-- where ids come after j, the clause of j takes no part
agrees_after : (l : Literal) (count : ℕ → ℕ) (before j : ℕ) (c : List Literal) (es : Listed)
    → before < j → Agrees l count before ((j, c) ∷ es) → Agrees l count j es
agrees_after l count before j c es h a = λ i lt. a i (omega arith)
    ∙ times_there l j c es i (λ e. absurd (omega arith))

pub taken_le : (l : Literal) (count : ℕ → ℕ) (before left : ℕ) (es : Listed) (ids : List ℕ)
    → AllByRecursion (λ y. before < y) (ids_of es) → Rises (ids_of es) → Agrees l count before es
    → take_all count left before ids ≡ true → left ≤ times l es
taken_le l count before left es [] above r a e = let z : left ≡ 0 = eqb-true left 0 e in omega arith
taken_le l count before left [] (i ∷ is) above r a e =
    elim (cases_Bool (is_next before i (count i) left)) [
      | inl t ↦ let p = next_parts before i (count i) left t in let z : count i ≡ 0 = a i p.0 in
          absurd (omega (arith, p.1, z))
      | inr f ↦ absurd (both_ways _ (take_stops count left before i is f) e)
    ]
taken_le l count before left ((j, c) ∷ es) (i ∷ is) above r a e =
    elim (cases_Bool (is_next before i (count i) left)) [
      | inr f ↦ absurd (both_ways _ (take_stops count left before i is f) e)
      | inl t ↦
          let p = next_parts before i (count i) left t in
          let rest : take_all count (left - count i) i is ≡ true =
          sym (take_on count left before i is t) ∙ e in
          elim (cases_eq i j) [
            | inl same ↦
                let n : count i ≡ times_in l c = a i p.0 ∙ times_here l j c es i same in
                let from_j : take_all count (left - count i) j is ≡ true =
                subst (λ k. take_all count (left - count i) k is ≡ true) same rest in
                let h =
                taken_le l count j (left - count i) es is r.0 r.1
                (agrees_after l count before j c es above.0 a) from_j in
                omega (arith, h, n, p.2)
            | inr other ↦ elim (cases_lt i j) [
              | inl lt ↦
                  let z : count i ≡ 0 = a i p.0 ∙ times_there l j c es i other
                  ∙ above_all l i es (higher i j (ids_of es) lt r.0) in
                  absurd (omega (arith, p.1, z))
              | inr ge ↦
                  let past : j < i = omega arith in
                  let again : take_all count left j (i ∷ is) ≡ true =
                  take_on count left j i is (next_from j i (count i) left past p.1 p.2) ∙ rest in
                  let h =
                  taken_le l count j left es (i ∷ is) r.0 r.1
                  (agrees_after l count before j c es above.0 a) again in
                  omega (arith, h)
            ]
          ]
    ]

-- the ids with the literal
listed_no : (l : Literal) (j : ℕ) (c : List Literal) (es : Listed) → contains_literal l c ≡ false
    → ids_listed l ((j, c) ∷ es) ≡ ids_listed l es
listed_no l j c es e = rw e refl

listed_yes : (l : Literal) (j : ℕ) (c : List Literal) (es : Listed) → contains_literal l c ≡ true
    → ids_listed l ((j, c) ∷ es) ≡ j ∷ ids_listed l es
listed_yes l j c es e = rw e refl

agrees_none : (l : Literal) (count : ℕ → ℕ) (before j : ℕ) (c : List Literal) (es : Listed)
    → contains_literal l c ≡ false → AllByRecursion (λ y. j < y) (ids_of es)
    → Agrees l count before ((j, c) ∷ es) → Agrees l count before es
agrees_none l count before j c es none above a = λ i lt.
    elim (cases_eq i j) [
      | inl same ↦ a i lt ∙ times_here l j c es i same ∙ times_none l c none
          ∙ sym (subst (λ k. times_at l es k ≡ 0) (sym same) (above_all l j es above))
      | inr other ↦ a i lt ∙ times_there l j c es i other
    ]

pub taken_are_all : (l : Literal) (count : ℕ → ℕ) (before : ℕ) (es : Listed) (ids : List ℕ)
    → AllByRecursion (λ y. before < y) (ids_of es) → Rises (ids_of es) → Agrees l count before es
    → take_all count (times l es) before ids ≡ same_ids ids (ids_listed l es)
taken_are_all l count before [] [] above r a = refl
taken_are_all l count before [] (i ∷ is) above r a =
    elim (cases_Bool (is_next before i (count i) 0)) [
      | inl t ↦ let p = next_parts before i (count i) 0 t in absurd (omega (arith, p.1, p.2))
      | inr f ↦ take_stops count 0 before i is f
    ]
taken_are_all l count before ((j, c) ∷ es) ids above r a =
    elim (cases_Bool (contains_literal l c)) [
      | inr none ↦
          let zero_in : times_in l c ≡ 0 = times_none l c none in
          let total : times l ((j, c) ∷ es) ≡ times l es = omega (arith, zero_in) in
          ap (λ n. take_all count n before ids) total
          ∙ taken_are_all l count before es ids above.1 r.1
          (agrees_none l count before j c es none r.0 a)
          ∙ ap (same_ids ids) (sym (listed_no l j c es none))
      | inl has ↦ named l count before j c es ids above r a has
          (λ is. taken_are_all l count j es is r.0 r.1
          (agrees_after l count before j c es above.0 a))
          ∙ ap (same_ids ids) (sym (listed_yes l j c es has))
    ]
  where
    named : (l : Literal) (count : ℕ → ℕ) (before j : ℕ) (c : List Literal) (es : Listed)
        (ids : List ℕ) → AllByRecursion (λ y. before < y) (j ∷ ids_of es) → Rises (j ∷ ids_of es)
        → Agrees l count before ((j, c) ∷ es) → contains_literal l c ≡ true
        → ((is : List ℕ) → take_all count (times l es) j is ≡ same_ids is (ids_listed l es))
        → take_all count (times_in l c + times l es) before ids ≡ same_ids ids (j ∷ ids_listed l es)
    named l count before j c es [] above r a has rest_all =
        let some = times_some l c has in
        ne_eqb (times_in l c + times l es) 0 (λ z. absurd (omega (arith, some)))
    named l count before j c es (i ∷ is) above r a has rest_all =
        let some = times_some l c has in
        elim (cases_eq i j) [
          | inl same ↦
              let up : before < i = omega (arith, above.0) in
              let n : count i ≡ times_in l c = a i up ∙ times_here l j c es i same in
              let next : is_next before i (count i) (times_in l c + times l es) ≡ true =
              next_from before i (count i) (times_in l c + times l es) up (omega (arith, n, some))
              (omega (arith, n)) in
              let left : times_in l c + times l es - count i ≡ times l es = omega (arith, n) in
              take_on count (times_in l c + times l es) before i is next
              ∙ ap (λ k. take_all count k i is) left
              ∙ ap (λ k. take_all count (times l es) k is) same
              ∙ rest_all is
              ∙ sym (ap (λ b. b && same_ids is (ids_listed l es)) (eq-eqb i j same))
          | inr other ↦
              let no : same_ids (i ∷ is) (j ∷ ids_listed l es) ≡ false =
              ap (λ b. b && same_ids is (ids_listed l es)) (ne_eqb i j other) in
              false_from_ne_true _ (λ t.
              elim (cases_Bool (is_next before i (count i) (times_in l c + times l es))) [
                | inr f ↦ both_ways _ (take_stops count (times_in l c + times l es) before i is f) t
                | inl next ↦
                    let p = next_parts before i (count i) (times_in l c + times l es) next in
                    let rest : take_all count (times_in l c + times l es - count i) i is ≡ true =
                    sym (take_on count (times_in l c + times l es) before i is next) ∙ t in
                    elim (cases_lt i j) [
                      | inl lt ↦
                          let z : count i ≡ 0 = a i p.0 ∙ times_there l j c es i other
                          ∙ above_all l i es (higher i j (ids_of es) lt r.0) in
                          absurd (omega (arith, p.1, z))
                      | inr ge ↦
                          let past : j < i = omega arith in
                          let again : take_all count (times_in l c + times l es) j (i ∷ is) ≡ true =
                          take_on count (times_in l c + times l es) j i is
                          (next_from j i (count i) (times_in l c + times l es) past p.1 p.2)
                          ∙ rest in
                          let h =
                          taken_le l count j (times_in l c + times l es) es (i ∷ is) r.0 r.1
                          (agrees_after l count before j c es above.0 a) again in
                          absurd (omega (arith, h, some))
                    ]
              ]) ∙ sym no
        ]

positive : (es : Listed) → All (λ e. 0 < e.0) es → AllByRecursion (λ y. 0 < y) (ids_of es)
positive [] h = tt
positive (e ∷ es) h =
    (All-head (λ x. 0 < x.0) e es h, positive es (All-tail (λ x. 0 < x.0) e es h))

-- what is taken in part
takes_after : (l : Literal) (j : ℕ) (c : List Literal) (es : Listed) (left before : ℕ)
    (ids : List ℕ) → j ≤ before → AreTaken l ((j, c) ∷ es) left before ids
    → AreTaken l es left before ids
takes_after l j c es left before [] h t = t
takes_after l j c es left before (i ∷ is) h t =
    let p = next_parts before i t.0 left t.1 in
    let same = times_there l j c es i (λ e. absurd (omega (arith, p.0, h, e))) in (
      t.0,
      t.1,
      subst (λ k. t.0 ≤ k) same t.2,
      takes_after l j c es (left - t.0) i is (omega (arith, p.0, h)) t.3,
    )

takes_none : (l : Literal) (j : ℕ) (c : List Literal) (es : Listed) (left before : ℕ)
    (ids : List ℕ) → contains_literal l c ≡ false → AreTaken l ((j, c) ∷ es) left before ids
    → AreTaken l es left before ids
takes_none l j c es left before [] none t = t
takes_none l j c es left before (i ∷ is) none t =
    let p = next_parts before i t.0 left t.1 in (
      t.0,
      t.1,
      elim (cases_eq i j) [
        | inl same ↦
            let z : times_at l ((j, c) ∷ es) i ≡ 0 =
            times_here l j c es i same ∙ times_none l c none in
            absurd (omega (arith, p.1, z, t.2))
        | inr other ↦ subst (λ k. t.0 ≤ k) (times_there l j c es i other) t.2
      ],
      takes_none l j c es (left - t.0) i is none t.3,
    )

-- from a lower id on
takes_from : (l : Literal) (es : Listed) (left before j i : ℕ) (is : List ℕ) → j < i
    → AreTaken l es left before (i ∷ is) → AreTaken l es left j (i ∷ is)
takes_from l es left before j i is h t =
    let p = next_parts before i t.0 left t.1 in
    (t.0, next_from j i t.0 left h p.1 p.2, t.2, t.3)

pub takes_le : (l : Literal) (before left : ℕ) (es : Listed) (ids : List ℕ)
    → AllByRecursion (λ y. before < y) (ids_of es) → Rises (ids_of es)
    → AreTaken l es left before ids → left ≤ times l es
takes_le l before left es [] above r t = omega (arith, t)
takes_le l before left [] (i ∷ is) above r t =
    let p = next_parts before i t.0 left t.1 in absurd (omega (arith, p.1, t.2))
takes_le l before left ((j, c) ∷ es) (i ∷ is) above r t =
    let p = next_parts before i t.0 left t.1 in
    elim (cases_eq i j) [
      | inl same ↦
          let n : t.0 ≤ times_in l c = subst (λ k. t.0 ≤ k) (times_here l j c es i same) t.2 in
          let rest : AreTaken l es (left - t.0) j is =
          subst (λ k. AreTaken l es (left - t.0) k is) same
          (takes_after l j c es (left - t.0) i is (omega (arith, same)) t.3) in
          let h = takes_le l j (left - t.0) es is r.0 r.1 rest in
          omega (arith, h, n, p.2)
      | inr other ↦ elim (cases_lt i j) [
        | inl lt ↦
            let z : times_at l ((j, c) ∷ es) i ≡ 0 = times_there l j c es i other
            ∙ above_all l i es (higher i j (ids_of es) lt r.0) in
            absurd (omega (arith, p.1, z, t.2))
        | inr ge ↦
            let past : j < i = omega arith in
            let again : AreTaken l es left j (i ∷ is) =
            takes_after l j c es left j (i ∷ is) (omega arith)
            (takes_from l ((j, c) ∷ es) left before j i is past t) in
            let h = takes_le l j left es (i ∷ is) r.0 r.1 again in
            omega (arith, h)
      ]
    ]

pub takes_all : (l : Literal) (before : ℕ) (es : Listed) (ids : List ℕ)
    → AllByRecursion (λ y. before < y) (ids_of es) → Rises (ids_of es)
    → AreTaken l es (times l es) before ids → same_ids ids (ids_listed l es) ≡ true
takes_all l before [] [] above r t = refl
takes_all l before [] (i ∷ is) above r t =
    let p = next_parts before i t.0 0 t.1 in absurd (omega (arith, p.1, p.2))
takes_all l before ((j, c) ∷ es) ids above r t =
    elim (cases_Bool (contains_literal l c)) [
      | inr none ↦
          let zero_in : times_in l c ≡ 0 = times_none l c none in
          let total : times l ((j, c) ∷ es) ≡ times l es = omega (arith, zero_in) in
          ap (same_ids ids) (listed_no l j c es none)
          ∙ takes_all l before es ids above.1 r.1
          (subst (λ n. AreTaken l es n before ids) total
          (takes_none l j c es (times l ((j, c) ∷ es)) before ids none t))
      | inl has ↦ ap (same_ids ids) (listed_yes l j c es has)
          ∙ named l before j c es ids above r has
          (λ is u. takes_all l j es is r.0 r.1 u) t
    ]
  where
    named : (l : Literal) (before j : ℕ) (c : List Literal) (es : Listed) (ids : List ℕ)
        → AllByRecursion (λ y. before < y) (j ∷ ids_of es) → Rises (j ∷ ids_of es)
        → contains_literal l c ≡ true
        → ((is : List ℕ) → AreTaken l es (times l es) j is → same_ids is (ids_listed l es) ≡ true)
        → AreTaken l ((j, c) ∷ es) (times_in l c + times l es) before ids
        → same_ids ids (j ∷ ids_listed l es) ≡ true
    named l before j c es [] above r has rest_all t =
        let some = times_some l c has in absurd (omega (arith, some, t))
    named l before j c es (i ∷ is) above r has rest_all t =
        let some = times_some l c has in
        let p = next_parts before i t.0 (times_in l c + times l es) t.1 in
        elim (cases_eq i j) [
          | inl same ↦
              let n : t.0 ≤ times_in l c = subst (λ k. t.0 ≤ k) (times_here l j c es i same) t.2 in
              let rest : AreTaken l es (times_in l c + times l es - t.0) j is =
              subst (λ k. AreTaken l es (times_in l c + times l es - t.0) k is) same
              (takes_after l j c es (times_in l c + times l es - t.0) i is (omega (arith, same))
              t.3) in
              let h = takes_le l j (times_in l c + times l es - t.0) es is r.0 r.1 rest in
              let left : times_in l c + times l es - t.0 ≡ times l es =
              omega (arith, h, n, p.2) in
              and_from _ _ (eq-eqb i j same)
              (rest_all is (subst (λ k. AreTaken l es k j is) left rest))
          | inr other ↦ elim (cases_lt i j) [
            | inl lt ↦
                let z : times_at l ((j, c) ∷ es) i ≡ 0 = times_there l j c es i other
                ∙ above_all l i es (higher i j (ids_of es) lt r.0) in
                absurd (omega (arith, p.1, z, t.2))
            | inr ge ↦
                let past : j < i = omega arith in
                let again : AreTaken l es (times_in l c + times l es) j (i ∷ is) =
                takes_after l j c es (times_in l c + times l es) j (i ∷ is) (omega arith)
                (takes_from l ((j, c) ∷ es) (times_in l c + times l es) before j i is past t) in
                let h = takes_le l j (times_in l c + times l es) es (i ∷ is) r.0 r.1 again in
                absurd (omega (arith, h, some))
          ]
        ]

pub takes_start : (l : Literal) (es : Listed) → All (λ e. 0 < e.0) es → Rises (ids_of es)
    → (ids : List ℕ) → AreTaken l es (times l es) 0 ids → same_ids ids (ids_listed l es) ≡ true
takes_start l es from_one r ids t = takes_all l 0 es ids (positive es from_one) r t

-- the clauses of the first entries
pub counts_none : (counts : ℕ → ℕ) → ((p : ℕ) → counts p ≡ 0) → AreCounts counts []
counts_none counts none = λ l p. none (index_of l)

more_spans : (es : List AddedEntry) (i : ℕ) (d : AddedEntry) → i < length es
    → entry_spans (take (i + 1) es) ≡ entry_spans (take i es) ++ entry_span (get_or es i d) ∷ []
more_spans es i d h = ap entry_spans (take_more es i d h)
    ∙ map_push entry_span (take i es) (get_or es i d)

pub more_dead : (ls : List Literal) (es : List AddedEntry) (i : ℕ) (d : AddedEntry) → i < length es
    → (get_or es i d).live ≡ false → clauses_in ls (entry_spans (take (i + 1) es)) ≡ clauses_in ls
    (entry_spans (take i es))
more_dead ls es i d h dead =
    ap (clauses_in ls) (more_spans es i d h)
    ∙ clauses-append ls (entry_spans (take i es)) (entry_span (get_or es i d) ∷ [])
    ∙ ap (λ cs. clauses_in ls (entry_spans (take i es)) ++ cs)
    (clauses_dead ls (entry_span (get_or es i d)) [] dead)
    ∙ append-nil (clauses_in ls (entry_spans (take i es)))

pub more_live : (ls : List Literal) (es : List AddedEntry) (i : ℕ) (d : AddedEntry) → i < length es
    → (get_or es i d).live ≡ true
    → clauses_in ls (entry_spans (take (i + 1) es)) ≡ clauses_in ls (entry_spans (take i es))
    ++ (
      (get_or es i d).id,
      slice_range ls (get_or es i d).start ((get_or es i d).start + (get_or es i d).length),
    ) ∷ []
more_live ls es i d h live =
    ap (clauses_in ls) (more_spans es i d h)
    ∙ clauses-append ls (entry_spans (take i es)) (entry_span (get_or es i d) ∷ [])
    ∙ ap (λ cs. clauses_in ls (entry_spans (take i es)) ++ cs)
    (clauses_live ls (entry_span (get_or es i d)) [] live)

-- the candidates of a line
pub agrees_start : (l : Literal) (es : Listed) → All (λ e. 0 < e.0) es → Rises (ids_of es)
    → (ids : List ℕ) → take_all (times_at l es) (times l es) 0 ids ≡ same_ids ids (ids_listed l es)
agrees_start l es from_one r ids =
    taken_are_all l (times_at l es) 0 es ids (positive es from_one) r (λ i lt. refl)

-- the walk over the ids
drop_here : (ids : List ℕ) (k i : ℕ) → k < length ids → i ≡ get_or ids k 0
    → drop k ids ≡ i ∷ drop (k + 1) ids
drop_here ids k i h e = drop_more ids k 0 h ∙ ap (λ x. x ∷ drop (k + 1) ids) (sym e)

pub taken_step : (count : ℕ → ℕ) (left before : ℕ) (ids : List ℕ) (k i n : ℕ) → k < length ids
    → i ≡ get_or ids k 0 → n ≡ count i → is_next before i n left ≡ true
    → take_all count left before (drop k ids) ≡ take_all count (left - n) i (drop (k + 1) ids)
taken_step count left before ids k i n h e same next =
    ap (take_all count left before) (drop_here ids k i h e)
    ∙ take_on count left before i (drop (k + 1) ids)
    (subst (λ m. is_next before i m left ≡ true) same next)
    ∙ ap (λ m. take_all count (left - m) i (drop (k + 1) ids)) (sym same)

pub taken_stop : (count : ℕ → ℕ) (left before : ℕ) (ids : List ℕ) (k i n : ℕ) → k < length ids
    → i ≡ get_or ids k 0 → n ≡ count i → is_next before i n left ≡ false
    → take_all count left before (drop k ids) ≡ false
taken_stop count left before ids k i n h e same stop =
    ap (take_all count left before) (drop_here ids k i h e)
    ∙ take_stops count left before i (drop (k + 1) ids)
    (subst (λ m. is_next before i m left ≡ false) same stop)

pub left_enough : (before i n left : ℕ) → is_next before i n left ≡ true → n ≤ left
left_enough before i n left e = (next_parts before i n left e).2
