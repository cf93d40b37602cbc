-- The live clauses of a table: what is found under an id, and what an added, a deleted and a moved
-- entry do.
use Rattle.std.proofs.Common.{◌≡◌, ℕ, zero, suc, ◌+◌, ◌<◌, ◌≤◌, true, false, List, [], ◌∷◌, ◌++◌}
use Rattle.std.proofs.Common.{length, get_or, take, drop, set, Some, None, refl, sym, ◌∙◌, ap}
use Rattle.std.proofs.Common.{subst, arith, inl, inr}
use Rattle.std.specs.Prelude.{◌==◌, slice_index}
use Rattle.std.proofs.lemmas.Bool.{cases_Bool, eq-eqb, eqb-true, ne_eqb}
use Rattle.std.proofs.lemmas.List.{take-append-drop, drop-drop, append_assoc}
use lib.Seq.{paste}
use Rattle.cnf.specs.Numbers.{RisesFrom}
use Rattle.cnf.specs.Literal.{Literal}
use Rattle.cnf.proofs.Laws as laws
use Rattle.cnf.proofs.Laws.{Layout, rises_least}
use Rattle.lrat_live.specs.Listed.{Listed, ids_of, listed_at, without_id}
use Rattle.lrat_live.specs.Chains.{place_of}
use Rattle.lrat_live.specs.Table.{EntrySpan, keys_of, literals_in, clauses_in, AllLive, IsLaid}
use Rattle.lrat_live.specs.Table.{IsAboveLast}
use Rattle.lrat_live.proofs.Chains.{newest_some, newest_first, newest_nowhere, newest_passes}
use Rattle.lrat_live.proofs.Chains.{newest-le, cases_zero}

-- spans over flat literals, by the laws of pieces that are laid one after another
abbrev spans : Layout EntrySpan Literal (ℕ × List Literal)
spans = record {
  start = λ c. c.start;
  length = λ c. c.length;
  live = λ c. c.live;
  listed = λ c l. (c.id, l);
}

pub laid_within : (from to : ℕ) (cs : List EntrySpan) (i : ℕ) (d : EntrySpan) → IsLaid from cs to
    → i < length cs → (get_or cs i d).start + (get_or cs i d).length ≤ to
laid_within = laws.laid_within spans

pub laid_push : (from to : ℕ) (cs : List EntrySpan) (c : EntrySpan) → IsLaid from cs to
    → c.start ≡ to
    → IsLaid from (cs ++ c ∷ []) (to + c.length)
laid_push = laws.laid_push spans

pub laid_set : (from to : ℕ) (cs : List EntrySpan) (i : ℕ) (c d : EntrySpan) → IsLaid from cs to
    → c.start ≡ (get_or cs i d).start → c.length ≡ (get_or cs i d).length
    → IsLaid from (set cs i c) to
laid_set = laws.laid_set spans

pub clauses_live : (ls : List Literal) (c : EntrySpan) (cs : List EntrySpan) → c.live ≡ true
    → clauses_in ls (c ∷ cs) ≡ (c.id, literals_in ls c) ∷ clauses_in ls cs
clauses_live = laws.pieces_live spans

pub clauses_dead : (ls : List Literal) (c : EntrySpan) (cs : List EntrySpan) → c.live ≡ false
    → clauses_in ls (c ∷ cs) ≡ clauses_in ls cs
clauses_dead = laws.pieces_dead spans

pub clauses-append : (ls : List Literal) (xs ys : List EntrySpan)
    → clauses_in ls (xs ++ ys) ≡ clauses_in ls xs ++ clauses_in ls ys
clauses-append = laws.pieces-append spans

pub clauses_push : (ls more : List Literal) (cs : List EntrySpan) (c : EntrySpan)
    → IsLaid 0 cs (length ls)
    → c.start ≡ length ls → c.length ≡ length more → c.live ≡ true
    → clauses_in (ls ++ more) (cs ++ c ∷ []) ≡ clauses_in ls cs ++ (c.id, more) ∷ []
clauses_push = laws.pieces_push spans

pub clauses-le : (ls : List Literal) (cs : List EntrySpan) → length (clauses_in ls cs) ≤ length cs
clauses-le ls [] = omega arith
clauses-le ls (c ∷ cs) =
    elim (cases_Bool c.live) [
      | inl t ↦ omega (arith, ap length (clauses_live ls c cs t), clauses-le ls cs)
      | inr f ↦ omega (arith, ap length (clauses_dead ls c cs f), clauses-le ls cs)
    ]

-- entries and literals are moved together, as far as i
abbrev pub IsCompacting : List Literal → List EntrySpan → ℕ → ℕ → ℕ → Listed → Type 0
IsCompacting = laws.IsCompacting spans

pub compacting_all : (ls : List Literal) (cs : List EntrySpan) (kept end i : ℕ) (value : Listed)
    → IsCompacting ls cs kept end i value → length cs ≤ i
    → (end ≤ length ls) × IsLaid 0 (take kept cs) (length (take end ls))
    × (clauses_in (take end ls) (take kept cs) ≡ value)
compacting_all = laws.compacting_all spans

module _ (ls : List Literal) (cs : List EntrySpan) (kept end i : ℕ) (value : Listed) (d : EntrySpan)
    (s : IsCompacting ls cs kept end i value) (h : i < length cs) where
  abbrev c : EntrySpan
  c = get_or cs i d

  pub moved_within : (end ≤ c.start) × (c.start + c.length ≤ length ls)
  moved_within = laws.moved_within spans ls cs kept end i value d s h

  pub compacting_dead : c.live ≡ false → IsCompacting ls cs kept end (i + 1) value
  compacting_dead = laws.compacting_dead spans ls cs kept end i value d s h

  pub compacting_live : (z : EntrySpan) → c.live ≡ true → z.id ≡ c.id → z.start ≡ end
      → z.length ≡ c.length → z.live ≡ true → IsCompacting (paste ls end (drop c.start ls) c.length)
      (set cs kept z) (kept + 1) (end + c.length) (i + 1) value
  compacting_live z live id start long lives =
      laws.compacting_live spans ls cs kept end i value d s h z live start long lives
      (λ l. ap (λ n. (n, l)) id)

-- what is listed under an id
listed_other : (i : ℕ) (e : ℕ × List Literal) (es : Listed) → (e.0 == i) ≡ false
    → listed_at (e ∷ es) i ≡ listed_at es i
listed_other i e es h = rw h refl

listed_here : (i : ℕ) (e : ℕ × List Literal) (es : Listed) → (e.0 == i) ≡ true
    → listed_at (e ∷ es) i ≡ Some e.1
listed_here i e es h = rw h refl

without_here : (i : ℕ) (e : ℕ × List Literal) (es : Listed) → (e.0 == i) ≡ true
    → without_id i (e ∷ es) ≡ without_id i es
without_here i e es h = rw h refl

without_other : (i : ℕ) (e : ℕ × List Literal) (es : Listed) → (e.0 == i) ≡ false
    → without_id i (e ∷ es) ≡ e ∷ without_id i es
without_other i e es h = rw h refl

pub without_none : (i : ℕ) (es : Listed) → listed_at es i ≡ None → without_id i es ≡ es
without_none i [] h = refl
without_none i (e ∷ es) h =
    elim (cases_Bool (e.0 == i)) [
      | inl t ↦ let z = listed_here i e es t in absurd (cc)
      | inr f ↦ without_other i e es f
          ∙ ap (λ x. e ∷ x) (without_none i es (sym (listed_other i e es f) ∙ h))
    ]

-- no span has the id
pub listed_nowhere : (ls : List Literal) (cs : List EntrySpan) (i : ℕ) → place_of i (keys_of cs) ≡ 0
    → listed_at (clauses_in ls cs) i ≡ None
listed_nowhere ls [] i h = refl
listed_nowhere ls (c ∷ cs) i h =
    elim (cases_zero (place_of i (keys_of cs))) [
      | inr (n, e) ↦ absurd (omega (arith, newest_some (λ k. k == i) c.id (keys_of cs) n e))
      | inl e ↦ elim (cases_Bool (c.id == i)) [
        | inl t ↦ absurd (omega (arith, newest_first (λ k. k == i) c.id (keys_of cs) e t))
        | inr f ↦ elim (cases_Bool c.live) [
          | inl l ↦ ap (λ es. listed_at es i) (clauses_live ls c cs l)
              ∙ listed_other i (c.id, literals_in ls c) (clauses_in ls cs) f
              ∙ listed_nowhere ls cs i e
          | inr l ↦ ap (λ es. listed_at es i) (clauses_dead ls c cs l) ∙ listed_nowhere ls cs i e
        ]
      ]
    ]

-- keys that rise
pub rises_push : (least : ℕ) (ks : List ℕ) (k : ℕ) → RisesFrom least ks → least ≤ k
    → IsAboveLast k ks → RisesFrom least (ks ++ k ∷ [])
rises_push least [] k r h l = (h, tt)
rises_push least (x ∷ []) k r h l = let z : x < k = l 0 (omega arith) in (r.0, (omega arith, tt))
rises_push least (x ∷ y ∷ ks) k r h l =
    let z : slice_index (y ∷ ks) (length ks) < k = l (suc (length ks)) (omega arith) in
    let up : x + 1 ≤ k =
    omega (arith, z, rises_least (x + 1) (y ∷ ks) (length ks) r.1 (omega arith)) in
    (r.0, rises_push (x + 1) (y ∷ ks) k r.1 up (λ p e. l (suc p) (omega arith)))

pub rises_clauses : (ls : List Literal) (least : ℕ) (cs : List EntrySpan)
    → RisesFrom least (keys_of cs)
    → RisesFrom least (ids_of (clauses_in ls cs))
rises_clauses ls least [] r = tt
rises_clauses ls least (c ∷ cs) r =
    elim (cases_Bool c.live) [
      | inl h ↦ subst (λ es. RisesFrom least (ids_of es)) (sym (clauses_live ls c cs h)) (
        r.0,
        rises_clauses ls (c.id + 1) cs r.1,
      )
      | inr h ↦ subst (λ es. RisesFrom least (ids_of es)) (sym (clauses_dead ls c cs h))
          (laws.rises_weaker least (c.id + 1) (ids_of (clauses_in ls cs)) (omega (arith, r.0))
          (rises_clauses ls (c.id + 1) cs r.1))
    ]

pub live_ids : (ls : List Literal) (cs : List EntrySpan) → AllLive cs
    → ids_of (clauses_in ls cs) ≡ keys_of cs
live_ids ls [] h = refl
live_ids ls (c ∷ cs) h = ap ids_of (clauses_live ls c cs h.0)
    ∙ ap (λ ks. c.id ∷ ks) (live_ids ls cs h.1)

-- the place of a key that rising keys have there
nowhere_above : (key : ℕ) (ks : List ℕ) → RisesFrom (key + 1) ks → place_of key ks ≡ 0
nowhere_above key ks r =
    elim (cases_zero (place_of key ks)) [
      | inl e ↦ e
      | inr (n, e) ↦
          let there : slice_index ks n ≡ key =
          eqb-true _ _ (newest_passes (λ k. k == key) ks n (omega (arith, e))) in
          let in' : n < length ks = omega (arith, e, newest-le (λ k. k == key) ks) in
          absurd (omega (arith, there, rises_least (key + 1) ks n r in'))
    ]

pub place_rising : (least key : ℕ) (ks : List ℕ) (p : ℕ) → RisesFrom least ks → p < length ks
    → slice_index ks p ≡ key → place_of key ks ≡ p + 1
place_rising least key [] p r h e = absurd (omega arith)
place_rising least key (x ∷ ks) zero r h e =
    let none : place_of key ks ≡ 0 =
    nowhere_above key ks (subst (λ n. RisesFrom (n + 1) ks) e r.1) in
    newest_first (λ k. k == key) x ks none (eq-eqb _ _ e)
place_rising least key (x ∷ ks) (suc p) r h e =
    let next : place_of key ks ≡ p + 1 = place_rising (x + 1) key ks p r.1 (omega arith) e in
    newest_some (λ k. k == key) x ks p (omega (arith, next)) ∙ omega arith

-- the entry of an id, found or deleted
later_key : (c : EntrySpan) (cs : List EntrySpan) (i p least : ℕ)
    → RisesFrom least (keys_of (c ∷ cs))
    → place_of i (keys_of cs) ≡ p + 1 → (c.id == i) ≡ false
later_key c cs i p least r e =
    let there : slice_index (keys_of cs) p ≡ i =
    eqb-true _ _ (newest_passes (λ k. k == i) (keys_of cs) p e) in
    let in' : p < length (keys_of cs) = omega (arith, newest-le (λ k. k == i) (keys_of cs)) in
    let up : c.id + 1 ≤ slice_index (keys_of cs) p =
    rises_least (c.id + 1) (keys_of cs) p r.1 in' in
    ne_eqb c.id i (λ u. absurd (omega arith))

place_first : (c : EntrySpan) (cs : List EntrySpan) (i : ℕ) → place_of i (keys_of (c ∷ cs)) ≡ 0 + 1
    → ((c.id == i) ≡ true) × (place_of i (keys_of cs) ≡ 0)
place_first c cs i e =
    elim (cases_zero (place_of i (keys_of cs))) [
      | inr (n, u) ↦ absurd (omega (arith, newest_some (λ k. k == i) c.id (keys_of cs) n u))
      | inl u ↦ elim (cases_Bool (c.id == i)) [
        | inl t ↦ (t, u)
        | inr f ↦ absurd (omega (arith, newest_nowhere (λ k. k == i) c.id (keys_of cs) u f))
      ]
    ]

place_later : (c : EntrySpan) (cs : List EntrySpan) (i p : ℕ)
    → place_of i (keys_of (c ∷ cs)) ≡ suc p + 1
    → place_of i (keys_of cs) ≡ p + 1
place_later c cs i p e =
    elim (cases_zero (place_of i (keys_of cs))) [
      | inr (n, u) ↦ omega (arith, newest_some (λ k. k == i) c.id (keys_of cs) n u)
      | inl u ↦ elim (cases_Bool (c.id == i)) [
        | inl t ↦ absurd (omega (arith, newest_first (λ k. k == i) c.id (keys_of cs) u t))
        | inr f ↦ absurd (omega (arith, newest_nowhere (λ k. k == i) c.id (keys_of cs) u f))
      ]
    ]

pub listed_live : (ls : List Literal) (least : ℕ) (cs : List EntrySpan) (i p : ℕ) (d : EntrySpan)
    → RisesFrom least (keys_of cs) → place_of i (keys_of cs) ≡ p + 1 → (get_or cs p d).live ≡ true
    → listed_at (clauses_in ls cs) i ≡ Some (literals_in ls (get_or cs p d))
listed_live ls least [] i p d r e l = absurd (omega arith)
listed_live ls least (c ∷ cs) i zero d r e l =
    let h = place_first c cs i e in
    ap (λ es. listed_at es i) (clauses_live ls c cs l)
    ∙ listed_here i (c.id, literals_in ls c) (clauses_in ls cs) h.0
listed_live ls least (c ∷ cs) i (suc p) d r e l =
    let g = place_later c cs i p e in
    let f = later_key c cs i p least r g in
    let next = listed_live ls (c.id + 1) cs i p d r.1 g l in
    elim (cases_Bool c.live) [
      | inl h ↦ ap (λ es. listed_at es i) (clauses_live ls c cs h)
          ∙ listed_other i (c.id, literals_in ls c) (clauses_in ls cs) f ∙ next
      | inr h ↦ ap (λ es. listed_at es i) (clauses_dead ls c cs h) ∙ next
    ]

pub listed_dead : (ls : List Literal) (least : ℕ) (cs : List EntrySpan) (i p : ℕ) (d : EntrySpan)
    → RisesFrom least (keys_of cs) → place_of i (keys_of cs) ≡ p + 1 → (get_or cs p d).live ≡ false
    → listed_at (clauses_in ls cs) i ≡ None
listed_dead ls least [] i p d r e l = absurd (omega arith)
listed_dead ls least (c ∷ cs) i zero d r e l =
    let h = place_first c cs i e in
    ap (λ es. listed_at es i) (clauses_dead ls c cs l) ∙ listed_nowhere ls cs i h.1
listed_dead ls least (c ∷ cs) i (suc p) d r e l =
    let g = place_later c cs i p e in
    let f = later_key c cs i p least r g in
    let next = listed_dead ls (c.id + 1) cs i p d r.1 g l in
    elim (cases_Bool c.live) [
      | inl h ↦ ap (λ es. listed_at es i) (clauses_live ls c cs h)
          ∙ listed_other i (c.id, literals_in ls c) (clauses_in ls cs) f ∙ next
      | inr h ↦ ap (λ es. listed_at es i) (clauses_dead ls c cs h) ∙ next
    ]

-- the entry of an id becomes dead
pub clauses_deleted : (ls : List Literal) (least : ℕ) (cs : List EntrySpan) (i p : ℕ)
    (z : EntrySpan)
    → RisesFrom least (keys_of cs) → place_of i (keys_of cs) ≡ p + 1 → z.live ≡ false
    → clauses_in ls (set cs p z) ≡ without_id i (clauses_in ls cs)
clauses_deleted ls least [] i p z r e l = absurd (omega arith)
clauses_deleted ls least (c ∷ cs) i zero z r e l =
    let h = place_first c cs i e in
    let rest = without_none i (clauses_in ls cs) (listed_nowhere ls cs i h.1) in
    clauses_dead ls z cs l ∙ sym (elim (cases_Bool c.live) [
      | inl v ↦ ap (without_id i) (clauses_live ls c cs v)
          ∙ without_here i (c.id, literals_in ls c) (clauses_in ls cs) h.0 ∙ rest
      | inr v ↦ ap (without_id i) (clauses_dead ls c cs v) ∙ rest
    ])
clauses_deleted ls least (c ∷ cs) i (suc p) z r e l =
    let g = place_later c cs i p e in
    let f = later_key c cs i p least r g in
    let next = clauses_deleted ls (c.id + 1) cs i p z r.1 g l in
    elim (cases_Bool c.live) [
      | inl v ↦ clauses_live ls c (set cs p z) v ∙ ap (λ es. (c.id, literals_in ls c) ∷ es) next
          ∙ sym (ap (without_id i) (clauses_live ls c cs v)
          ∙ without_other i (c.id, literals_in ls c) (clauses_in ls cs) f)
      | inr v ↦ clauses_dead ls c (set cs p z) v ∙ next
          ∙ sym (ap (without_id i) (clauses_dead ls c cs v))
    ]

-- literals that stay where they are
pub paste_stay : (ls : List Literal) (at n : ℕ) → paste ls at (drop at ls) n ≡ ls
paste_stay ls at n =
    append_assoc (take at ls) (take n (drop at ls)) (drop (at + n) ls)
    ∙ ap (λ xs. take at ls ++ (take n (drop at ls) ++ xs)) (sym (drop-drop n at ls))
    ∙ ap (λ xs. take at ls ++ xs) (take-append-drop n (drop at ls)) ∙ take-append-drop at ls
