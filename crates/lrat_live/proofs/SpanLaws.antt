-- Clauses that are found by their ids alone: what is found under an id, what a deletion leaves, and
-- where the spans lie.
use Rattle.std.proofs.Common.{◌≡◌, ℕ, zero, suc, ◌+◌, ◌-◌, ◌<◌, ◌≤◌, true, false, List}
use Rattle.std.proofs.Common.{[], ◌∷◌, ◌++◌, length, get_or, take, drop, set, replicate}
use Rattle.std.proofs.Common.{Some, None, refl, sym, ◌∙◌, ap, subst, arith, inl, inr}
use Rattle.std.specs.Prelude.{All, slice_range}
use Rattle.std.proofs.lemmas.Bool.{cases_Bool, false≢true, eq-eqb, ne_eqb}
use Rattle.std.proofs.lemmas.List.Elements.{All-head, All-tail}
use Rattle.std.proofs.lemmas.List.{take-take, drop-drop, append-nil}
use Rattle.std.proofs.lemmas.List.{take_more, length-take-le}
use Rattle.std.proofs.lemmas.Slice.{between_is}
use Rattle.cnf.specs.Literal.{Literal}
use Rattle.lrat_live.specs.Listed.{Listed, listed_at, without_id}
use Rattle.lrat_live.specs.Near.{is_live, nowhere, literals_at, spanned, AreWithin, end_of}
use Rattle.lrat_live.specs.Near.{AreSpread}
use Rattle.lrat_live.specs.declared.spans.LiveSpan.{LiveSpan}
use Rattle.lrat_live.proofs.Listed.{listed_here, listed_there}
use Rattle.lrat_live.proofs.Clauses.{without_none}

-- what an index gives past the end
abbrev pub zeros : LiveSpan
zeros = record { start = 0; length = 0 }

pub spanned_live : (ls : List Literal) (n : ℕ) (s : LiveSpan) (ss : List LiveSpan)
    → is_live s ≡ true
    → spanned ls n (s ∷ ss) ≡ (n, literals_at ls s) ∷ spanned ls (n + 1) ss
spanned_live ls n s ss e = rw e refl

pub spanned_dead : (ls : List Literal) (n : ℕ) (s : LiveSpan) (ss : List LiveSpan)
    → is_live s ≡ false
    → spanned ls n (s ∷ ss) ≡ spanned ls (n + 1) ss
spanned_dead ls n s ss e = rw e refl

pub end_live : (from : ℕ) (s : LiveSpan) → is_live s ≡ true → end_of from s ≡ s.start + s.length
end_live from s e = rw e refl

pub end_dead : (from : ℕ) (s : LiveSpan) → is_live s ≡ false → end_of from s ≡ from
end_dead from s e = rw e refl

pub spanned-append : (ls : List Literal) (n : ℕ) (xs ys : List LiveSpan)
    → spanned ls n (xs ++ ys) ≡ spanned ls n xs ++ spanned ls (n + length xs) ys
spanned-append ls n [] ys = ap (λ m. spanned ls m ys) (omega arith)
spanned-append ls n (s ∷ xs) ys =
    let same : (n + 1) + length xs ≡ n + length (s ∷ xs) = omega arith in
    let next : spanned ls (n + 1) (xs ++ ys) ≡ spanned ls (n + 1) xs ++ spanned ls
    (n + length (s ∷ xs)) ys =
    spanned-append ls (n + 1) xs ys ∙ ap (λ m. spanned ls (n + 1) xs ++ spanned ls m ys) same in
    elim (cases_Bool (is_live s)) [
      | inl t ↦ spanned_live ls n s (xs ++ ys) t ∙ ap (λ es. (n, literals_at ls s) ∷ es) next
          ∙ ap (λ es. es ++ spanned ls (n + length (s ∷ xs)) ys) (sym (spanned_live ls n s xs t))
      | inr f ↦ spanned_dead ls n s (xs ++ ys) f ∙ next
          ∙ ap (λ es. es ++ spanned ls (n + length (s ∷ xs)) ys) (sym (spanned_dead ls n s xs f))
    ]

-- under an id
pub spanned_before : (ls : List Literal) (n : ℕ) (ss : List LiveSpan) (i : ℕ) → i < n
    → listed_at (spanned ls n ss) i ≡ None
spanned_before ls n [] i h = refl
spanned_before ls n (s ∷ ss) i h =
    elim (cases_Bool (is_live s)) [
      | inl t ↦ ap (λ es. listed_at es i) (spanned_live ls n s ss t)
          ∙ listed_there (n, literals_at ls s) (spanned ls (n + 1) ss) i (λ z. absurd (omega arith))
          ∙ spanned_before ls (n + 1) ss i (omega arith)
      | inr f ↦ ap (λ es. listed_at es i) (spanned_dead ls n s ss f)
          ∙ spanned_before ls (n + 1) ss i (omega arith)
    ]

pub spanned_at : (ls : List Literal) (n : ℕ) (ss : List LiveSpan) (k i : ℕ) → i ≡ n + k
    → is_live (get_or ss k nowhere) ≡ true
    → listed_at (spanned ls n ss) i ≡ Some (literals_at ls (get_or ss k nowhere))
spanned_at ls n [] k i e t = absurd (false≢true t)
spanned_at ls n (s ∷ ss) zero i e t =
    ap (λ es. listed_at es i) (spanned_live ls n s ss t)
    ∙ listed_here (n, literals_at ls s) (spanned ls (n + 1) ss) i (omega arith)
spanned_at ls n (s ∷ ss) (suc k) i e t =
    let next = spanned_at ls (n + 1) ss k i (omega arith) t in
    elim (cases_Bool (is_live s)) [
      | inl l ↦ ap (λ es. listed_at es i) (spanned_live ls n s ss l)
          ∙ listed_there (n, literals_at ls s) (spanned ls (n + 1) ss) i (λ z. absurd (omega arith))
          ∙ next
      | inr l ↦ ap (λ es. listed_at es i) (spanned_dead ls n s ss l) ∙ next
    ]

pub spanned_gone : (ls : List Literal) (n : ℕ) (ss : List LiveSpan) (k i : ℕ) → i ≡ n + k
    → is_live (get_or ss k nowhere) ≡ false → listed_at (spanned ls n ss) i ≡ None
spanned_gone ls n [] k i e t = refl
spanned_gone ls n (s ∷ ss) zero i e t =
    ap (λ es. listed_at es i) (spanned_dead ls n s ss t)
    ∙ spanned_before ls (n + 1) ss i (omega arith)
spanned_gone ls n (s ∷ ss) (suc k) i e t =
    let next = spanned_gone ls (n + 1) ss k i (omega arith) t in
    elim (cases_Bool (is_live s)) [
      | inl l ↦ ap (λ es. listed_at es i) (spanned_live ls n s ss l)
          ∙ listed_there (n, literals_at ls s) (spanned ls (n + 1) ss) i (λ z. absurd (omega arith))
          ∙ next
      | inr l ↦ ap (λ es. listed_at es i) (spanned_dead ls n s ss l) ∙ next
    ]

pub spanned_after : (ls : List Literal) (n : ℕ) (ss : List LiveSpan) (i : ℕ) → n + length ss ≤ i
    → listed_at (spanned ls n ss) i ≡ None
spanned_after ls n [] i h = refl
spanned_after ls n (s ∷ ss) i h =
    let next = spanned_after ls (n + 1) ss i (omega arith) in
    elim (cases_Bool (is_live s)) [
      | inl l ↦ ap (λ es. listed_at es i) (spanned_live ls n s ss l)
          ∙ listed_there (n, literals_at ls s) (spanned ls (n + 1) ss) i (λ z. absurd (omega arith))
          ∙ next
      | inr l ↦ ap (λ es. listed_at es i) (spanned_dead ls n s ss l) ∙ next
    ]

-- a deletion
without_same : (i : ℕ) (c : List Literal) (es : Listed) (n : ℕ) → n ≡ i
    → without_id i ((n, c) ∷ es) ≡ without_id i es
without_same i c es n e = rw (eq-eqb n i e) refl

without_other : (i : ℕ) (c : List Literal) (es : Listed) (n : ℕ) → (n ≡ i → ⊥)
    → without_id i ((n, c) ∷ es) ≡ (n, c) ∷ without_id i es
without_other i c es n e = rw (ne_eqb n i e) refl

pub spanned_set : (ls : List Literal) (n : ℕ) (ss : List LiveSpan) (k i : ℕ) (x : LiveSpan)
    → i ≡ n + k
    → is_live x ≡ false → spanned ls n (set ss k x) ≡ without_id i (spanned ls n ss)
spanned_set ls n [] k i x e d = refl
spanned_set ls n (s ∷ ss) zero i x e d =
    let none : listed_at (spanned ls (n + 1) ss) i ≡ None =
    spanned_before ls (n + 1) ss i (omega arith) in
    let rest : spanned ls (n + 1) ss ≡ without_id i (spanned ls (n + 1) ss) =
    sym (without_none i (spanned ls (n + 1) ss) none) in
    spanned_dead ls n x ss d ∙ rest ∙ elim (cases_Bool (is_live s)) [
      | inl l ↦ sym (ap (without_id i) (spanned_live ls n s ss l)
          ∙ without_same i (literals_at ls s) (spanned ls (n + 1) ss) n (omega arith))
      | inr l ↦ sym (ap (without_id i) (spanned_dead ls n s ss l))
    ]
spanned_set ls n (s ∷ ss) (suc k) i x e d =
    let next = spanned_set ls (n + 1) ss k i x (omega arith) d in
    elim (cases_Bool (is_live s)) [
      | inl l ↦ spanned_live ls n s (set ss k x) l ∙ ap (λ es. (n, literals_at ls s) ∷ es) next
          ∙ sym (ap (without_id i) (spanned_live ls n s ss l)
          ∙ without_other i (literals_at ls s) (spanned ls (n + 1) ss) n
          (λ z. absurd (omega arith)))
      | inr l ↦ spanned_dead ls n s (set ss k x) l ∙ next
          ∙ sym (ap (without_id i) (spanned_dead ls n s ss l))
    ]

pub spanned-le : (ls : List Literal) (n : ℕ) (ss : List LiveSpan)
    → length (spanned ls n ss) ≤ length ss
spanned-le ls n [] = omega arith
spanned-le ls n (s ∷ ss) =
    let next = spanned-le ls (n + 1) ss in
    elim (cases_Bool (is_live s)) [
      | inl l ↦ omega (arith, next, ap length (spanned_live ls n s ss l))
      | inr l ↦ omega (arith, next, ap length (spanned_dead ls n s ss l))
    ]

-- where spans lie
pub spread_le : (from : ℕ) (ss : List LiveSpan) (to : ℕ) → AreSpread from ss to → from ≤ to
spread_le from [] to h = h
spread_le from (s ∷ ss) to h =
    let next = spread_le (end_of from s) ss to h.1 in
    elim (cases_Bool (is_live s)) [
      | inl l ↦ omega (arith, next, end_live from s l, h.0 l)
      | inr l ↦ omega (arith, next, end_dead from s l)
    ]

pub spread_down : (low from : ℕ) (ss : List LiveSpan) (to : ℕ) → low ≤ from → AreSpread from ss to
    → AreSpread low ss to
spread_down low from [] to le h = omega (arith, h)
spread_down low from (s ∷ ss) to le h =
    elim (cases_Bool (is_live s)) [
      | inl l ↦ (
        λ t. omega (arith, h.0 t),
        subst (λ m. AreSpread m ss to) (end_live from s l ∙ sym (end_live low s l)) h.1,
      )
      | inr l ↦ (
        λ t. absurd (false≢true (sym l ∙ t)),
        subst (λ m. AreSpread m ss to) (sym (end_dead low s l))
            (spread_down low from ss to le
            (subst (λ m. AreSpread m ss to) (end_dead from s l) h.1)),
      )
    ]

pub spread_up : (from : ℕ) (ss : List LiveSpan) (to high : ℕ) → to ≤ high → AreSpread from ss to
    → AreSpread from ss high
spread_up from [] to high le h = omega (arith, h)
spread_up from (s ∷ ss) to high le h = (h.0, spread_up (end_of from s) ss to high le h.1)

pub spread_set : (from : ℕ) (ss : List LiveSpan) (to k : ℕ) (x : LiveSpan) → is_live x ≡ false
    → AreSpread from ss to → AreSpread from (set ss k x) to
spread_set from [] to k x d h = h
spread_set from (s ∷ ss) to zero x d h = (
  λ t. absurd (false≢true (sym d ∙ t)),
  subst (λ m. AreSpread m ss to) (sym (end_dead from x d))
      (spread_down from (end_of from s) ss to (up from s h.0) h.1),
)
  where
    up : (from : ℕ) (s : LiveSpan) → (is_live s ≡ true → from ≤ s.start) → from ≤ end_of from s
    up from s h =
        elim (cases_Bool (is_live s)) [
          | inl l ↦ omega (arith, end_live from s l, h l)
          | inr l ↦ omega (arith, end_dead from s l)
        ]
spread_set from (s ∷ ss) to (suc k) x d h = (h.0, spread_set (end_of from s) ss to k x d h.1)

pub spread_within : (from : ℕ) (ss : List LiveSpan) (to : ℕ) → AreSpread from ss to
    → AreWithin ss to
spread_within from [] to h p d l t = absurd (omega arith)
spread_within from (s ∷ ss) to h zero d l t =
    omega (arith, spread_le (end_of from s) ss to h.1, end_live from s t)
spread_within from (s ∷ ss) to h (suc p) d l t =
    spread_within (end_of from s) ss to h.1 p d (omega arith) t

pub spread-append : (from : ℕ) (xs ys : List LiveSpan) (mid to : ℕ) → AreSpread from xs mid
    → AreSpread mid ys to → AreSpread from (xs ++ ys) to
spread-append from [] ys mid to h k = spread_down from mid ys to h k
spread-append from (s ∷ xs) ys mid to h k =
    (h.0, spread-append (end_of from s) xs ys mid to h.1 k)

pub spread_take : (from : ℕ) (ss : List LiveSpan) (to k : ℕ) → AreSpread from ss to
    → AreSpread from (take k ss) to
spread_take from [] to zero h = h
spread_take from [] to (suc k) h = h
spread_take from (s ∷ ss) to zero h = spread_le from (s ∷ ss) to h
spread_take from (s ∷ ss) to (suc k) h = (h.0, spread_take (end_of from s) ss to k h.1)

pub spread_none : (from count : ℕ) → AreSpread from (replicate count nowhere) from
spread_none from zero = omega arith
spread_none from (suc count) = (λ t. absurd (false≢true t), spread_none from count)

pub spanned_none : (ls : List Literal) (n count : ℕ) → spanned ls n (replicate count nowhere) ≡ []
spanned_none ls n zero = refl
spanned_none ls n (suc count) = spanned_none ls (n + 1) count

-- literals that agree where spans lie
part_take : (xs : List Literal) (from n : ℕ) → slice_range xs from (from + n)
    ≡ drop from (take (from + n) xs)
part_take xs from n = between_is xs from (from + n)

pub literals_below : (ls ms : List Literal) (s : LiveSpan) (to : ℕ) → s.start + s.length ≤ to
    → take to ls ≡ take to ms → literals_at ls s ≡ literals_at ms s
literals_below ls ms s to h e =
    let a : take (s.start + s.length) ls ≡ take (s.start + s.length) ms =
    sym (take-take (s.start + s.length) to ls h) ∙ ap (take (s.start + s.length)) e
    ∙ take-take (s.start + s.length) to ms h in
    part_take ls s.start s.length ∙ ap (drop s.start) a ∙ sym (part_take ms s.start s.length)

pub literals_above : (ls ms : List Literal) (s : LiveSpan) (from : ℕ) → from ≤ s.start
    → drop from ls ≡ drop from ms → literals_at ls s ≡ literals_at ms s
literals_above ls ms s from h e =
    let k : from + (s.start - from) ≡ s.start = omega arith in
    let a : drop s.start ls ≡ drop s.start ms =
    sym (drop-drop (s.start - from) from ls ∙ ap (λ m. drop m ls) k)
    ∙ ap (drop (s.start - from)) e ∙ drop-drop (s.start - from) from ms
    ∙ ap (λ m. drop m ms) k in
    ap (take (s.start + s.length - s.start)) a

spanned_cons : (ls ms : List Literal) (n : ℕ) (s : LiveSpan) (xs ys : List LiveSpan)
    → (is_live s ≡ true → literals_at ls s ≡ literals_at ms s)
    → spanned ls (n + 1) xs ≡ spanned ms (n + 1) ys
    → spanned ls n (s ∷ xs) ≡ spanned ms n (s ∷ ys)
spanned_cons ls ms n s xs ys e f =
    elim (cases_Bool (is_live s)) [
      | inl l ↦ spanned_live ls n s xs l ∙ ap (λ c. (n, c) ∷ spanned ls (n + 1) xs) (e l)
          ∙ ap (λ es. (n, literals_at ms s) ∷ es) f ∙ sym (spanned_live ms n s ys l)
      | inr l ↦ spanned_dead ls n s xs l ∙ f ∙ sym (spanned_dead ms n s ys l)
    ]

pub spanned_below : (ls ms : List Literal) (n : ℕ) (ss : List LiveSpan) (to : ℕ) → AreWithin ss to
    → take to ls ≡ take to ms → spanned ls n ss ≡ spanned ms n ss
spanned_below ls ms n [] to h e = refl
spanned_below ls ms n (s ∷ ss) to h e =
    spanned_cons ls ms n s ss ss (λ l. literals_below ls ms s to (h 0 s (omega arith) l) e)
    (spanned_below ls ms (n + 1) ss to (λ p d l t. h (suc p) d (omega arith) t) e)

pub spanned_above : (ls ms : List Literal) (n from : ℕ) (ss : List LiveSpan) (to : ℕ)
    → AreSpread from ss to → drop from ls ≡ drop from ms → spanned ls n ss ≡ spanned ms n ss
spanned_above ls ms n from [] to h e = refl
spanned_above ls ms n from (s ∷ ss) to h e =
    elim (cases_Bool (is_live s)) [
      | inl l ↦
          let up : from ≤ s.start = h.0 l in
          let k : from + (s.start + s.length - from) ≡ s.start + s.length = omega (arith, up) in
          let z : end_of from s ≡ s.start + s.length = end_live from s l in
          let a : drop (s.start + s.length) ls ≡ drop (s.start + s.length) ms =
          sym (drop-drop (s.start + s.length - from) from ls ∙ ap (λ m. drop m ls) k)
          ∙ ap (drop (s.start + s.length - from)) e
          ∙ drop-drop (s.start + s.length - from) from ms ∙ ap (λ m. drop m ms) k in
          spanned_cons ls ms n s ss ss (λ t. literals_above ls ms s from up e)
          (spanned_above ls ms (n + 1) (s.start + s.length) ss to
          (subst (λ m. AreSpread m ss to) z h.1) a)
      | inr l ↦
          spanned_cons ls ms n s ss ss (λ t. absurd (false≢true (sym l ∙ t)))
          (spanned_above ls ms (n + 1) from ss to
          (subst (λ m. AreSpread m ss to) (end_dead from s l) h.1) e)
    ]

-- where all ids are below one, the spans from its place on are of no clause
pub spanned_cut : (ls : List Literal) (n : ℕ) (ss : List LiveSpan) (k id : ℕ) → id ≤ n + k
    → All (λ (e : ℕ × List Literal). e.0 < id) (spanned ls n ss)
    → spanned ls n (take k ss) ≡ spanned ls n ss
spanned_cut ls n [] zero id e a = refl
spanned_cut ls n [] (suc k) id e a = refl
spanned_cut ls n (s ∷ ss) zero id e a =
    elim (cases_Bool (is_live s)) [
      | inl l ↦
          let b : All (λ (e : ℕ × List Literal). e.0 < id)
          ((n, literals_at ls s) ∷ spanned ls (n + 1) ss) =
          subst (All (λ (e : ℕ × List Literal). e.0 < id)) (spanned_live ls n s ss l) a in
          absurd (omega (
            arith,
            All-head (λ (e : ℕ × List Literal). e.0 < id) (n, literals_at ls s)
                (spanned ls (n + 1) ss) b,
          ))
      | inr l ↦
          spanned_cut ls (n + 1) ss zero id (omega arith)
          (subst (All (λ (e : ℕ × List Literal). e.0 < id)) (spanned_dead ls n s ss l) a)
          ∙ sym (spanned_dead ls n s ss l)
    ]
spanned_cut ls n (s ∷ ss) (suc k) id e a =
    spanned_cons ls ls n s (take k ss) ss (λ t. refl)
    (spanned_cut ls (n + 1) ss k id (omega arith) (elim (cases_Bool (is_live s)) [
      | inl l ↦ All-tail (λ (e : ℕ × List Literal). e.0 < id) (n, literals_at ls s)
          (spanned ls (n + 1) ss)
          (subst (All (λ (e : ℕ × List Literal). e.0 < id)) (spanned_live ls n s ss l) a)
      | inr l ↦ subst (All (λ (e : ℕ × List Literal). e.0 < id)) (spanned_dead ls n s ss l) a
    ]))

-- one span more
spanned_first : (ls : List Literal) (n : ℕ) (ss : List LiveSpan) (i : ℕ) → i < length ss
    → spanned ls n (take (i + 1) ss) ≡ spanned ls n (take i ss) ++ spanned ls (n + i)
    (get_or ss i nowhere ∷ [])
spanned_first ls n ss i h =
    ap (spanned ls n) (take_more ss i nowhere h)
    ∙ spanned-append ls n (take i ss) (get_or ss i nowhere ∷ [])
    ∙ ap (λ m. spanned ls n (take i ss) ++ spanned ls (n + m) (get_or ss i nowhere ∷ []))
    (length-take-le i ss (omega arith))

pub more_live : (ls : List Literal) (n : ℕ) (ss : List LiveSpan) (i : ℕ) → i < length ss
    → is_live (get_or ss i nowhere) ≡ true
    → spanned ls n (take (i + 1) ss) ≡ spanned ls n (take i ss)
    ++ (n + i, literals_at ls (get_or ss i nowhere)) ∷ []
more_live ls n ss i h l =
    spanned_first ls n ss i h
    ∙ ap (λ es. spanned ls n (take i ss) ++ es)
    (spanned_live ls (n + i) (get_or ss i nowhere) [] l)

pub more_dead : (ls : List Literal) (n : ℕ) (ss : List LiveSpan) (i : ℕ) → i < length ss
    → is_live (get_or ss i nowhere) ≡ false
    → spanned ls n (take (i + 1) ss) ≡ spanned ls n (take i ss)
more_dead ls n ss i h l =
    spanned_first ls n ss i h
    ∙ ap (λ es. spanned ls n (take i ss) ++ es)
    (spanned_dead ls (n + i) (get_or ss i nowhere) [] l)
    ∙ append-nil (spanned ls n (take i ss))
