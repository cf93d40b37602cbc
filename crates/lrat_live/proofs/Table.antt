-- Entries, their spans and their links.
use Rattle.std.proofs.Common.{◌≡◌, ◌≢◌, ℕ, ◌+◌, ◌-◌, ◌<◌, List, [], ◌∷◌, ◌++◌, length, get_or, take}
use Rattle.std.proofs.Common.{set, sym, ◌∙◌, ap, subst, arith}
use Rattle.std.specs.Prelude.{slice_index}
use Rattle.std.proofs.lemmas.List.{get_or-map, length-map, map-set, set-get_or, get_or-set_other}
use Rattle.std.proofs.lemmas.List.{get_or-set_same, take_more, length-take-le}
use Rattle.lrat_live.specs.Chains.{bucket_of, place_of, IsChained}
use Rattle.lrat_live.specs.Table.{EntrySpan, entry_span, entry_spans, keys_of, nexts_of}
use Rattle.lrat_live.specs.declared.entries.AddedEntry.{AddedEntry}
use Rattle.lrat_live.proofs.Chains.{IsOnWalk, walk_bound, walk_found, chain_falls, walk_step}
use Rattle.lrat_live.proofs.Chains.{chained_push}

pub length-keys : (es : List AddedEntry) → length (keys_of (entry_spans es)) ≡ length es
length-keys es = length-map (entry_spans es) (λ c. c.id) ∙ length-map es entry_span

pub key_at : (es : List AddedEntry) (p : ℕ) (d : AddedEntry) → p < length es
    → slice_index (keys_of (entry_spans es)) p ≡ (get_or es p d).id
key_at es p d h =
    get_or-map (λ (c : EntrySpan). c.id) (entry_spans es) p (entry_span d) 0
    (omega (arith, length-map es entry_span))
    ∙ ap (λ (c : EntrySpan). c.id) (get_or-map entry_span es p d (entry_span d) h)

pub next_at : (es : List AddedEntry) (p : ℕ) (d : AddedEntry) → p < length es
    → slice_index (nexts_of es) p ≡ (get_or es p d).next
next_at es p d h = get_or-map (λ (e : AddedEntry). e.next) es p d 0 h

pub place_within : (buckets id : ℕ) (es : List AddedEntry) (p : ℕ)
    → IsOnWalk buckets id (keys_of (entry_spans es)) p → 0 < p → p - 1 < length es
place_within buckets id es p w positive =
    omega (arith, walk_bound buckets id (keys_of (entry_spans es)) p w, length-keys es)

-- a walk down the chain of an id
module _ (buckets id : ℕ) (heads : List ℕ) (es : List AddedEntry) (p : ℕ) (d : AddedEntry)
    (w : IsOnWalk buckets id (keys_of (entry_spans es)) p) (positive : 0 < p) where
  abbrev q : ℕ
  q = p - 1

  within : q < length es
  within = place_within buckets id es p w positive

  at_place : IsOnWalk buckets id (keys_of (entry_spans es)) (q + 1)
  at_place = let e : p ≡ p - 1 + 1 = omega arith in
      subst (IsOnWalk buckets id (keys_of (entry_spans es))) e w

  pub id_found : (get_or es q d).id ≡ id → place_of id (keys_of (entry_spans es)) ≡ q + 1
  id_found e = walk_found buckets id (keys_of (entry_spans es)) q at_place
      (key_at es q d within ∙ e)

  pub next_falls : IsChained buckets heads (keys_of (entry_spans es)) (nexts_of es)
      → (get_or es q d).next < p
  next_falls c =
      omega (
        arith,
        chain_falls buckets id (keys_of (entry_spans es)) heads (nexts_of es) c q
            at_place.in_chain,
        next_at es q d within,
      )

  pub next_on_walk : IsChained buckets heads (keys_of (entry_spans es)) (nexts_of es)
      → ((get_or es q d).id ≡ id → ⊥)
      → IsOnWalk buckets id (keys_of (entry_spans es)) (get_or es q d).next
  next_on_walk c ne =
      subst (IsOnWalk buckets id (keys_of (entry_spans es))) (next_at es q d within)
      (walk_step buckets id (keys_of (entry_spans es)) heads (nexts_of es) c q at_place.in_chain
      at_place (λ u. ne (sym (key_at es q d within) ∙ u)))

-- an entry's link is none of its span
pub spans-set_same : (es : List AddedEntry) (i : ℕ) (d e : AddedEntry)
    → entry_span e ≡ entry_span (get_or es i d)
    → i < length es → entry_spans (set es i e) ≡ entry_spans es
spans-set_same es i d e same h =
    map-set entry_span es i e
    ∙ ap (λ c. set (entry_spans es) i c)
    (same ∙ sym (get_or-map entry_span es i d (entry_span d) h))
    ∙ set-get_or (entry_spans es) i (entry_span d)

-- the entry at i is linked to the head of its bucket, and becomes the head
module _ (buckets : ℕ) (heads : List ℕ) (es : List AddedEntry) (i bucket : ℕ) (d e : AddedEntry)
    (h : i < length es) (same : entry_span e ≡ entry_span (get_or es i d))
    (is : bucket ≡ bucket_of buckets (get_or es i d).id) (small : bucket < buckets)
    (next : e.next ≡ slice_index heads bucket)
    (c : IsChained buckets heads (take i (keys_of (entry_spans es))) (nexts_of es)) where
  abbrev keys : List ℕ
  keys = keys_of (entry_spans es)

  bound : i < length keys
  bound = omega (arith, length-keys es)

  front : length (take i keys) ≡ i
  front = length-take-le i keys (omega (arith, bound))

  key : slice_index keys i ≡ (get_or es i d).id
  key = key_at es i d h

  linked : nexts_of (set es i e) ≡ set (nexts_of es) i e.next
  linked = map-set (λ (x : AddedEntry). x.next) es i e

  pub link_more : IsChained buckets (set heads bucket (i + 1))
      (take (i + 1) (keys_of (entry_spans (set es i e)))) (nexts_of (set es i e))
  link_more =
      let k : ℕ = slice_index keys i in
      let b : bucket ≡ bucket_of buckets k = is ∙ ap (bucket_of buckets) (sym key) in
      let long : i < length (nexts_of es) =
      omega (arith, length-map es (λ (x : AddedEntry). x.next)) in
      let all : IsChained buckets (set heads (bucket_of buckets k) (i + 1)) (take i keys ++ k ∷ [])
      (nexts_of (set es i e)) =
      chained_push buckets heads (take i keys) (nexts_of es) k (i + 1) (nexts_of (set es i e)) c
      (omega (arith, front)) (subst (λ x. x < buckets) b small)
      (λ j l. let ne : j ≢ i = omega (arith, front) in
      rw linked (get_or-set_other (nexts_of es) i j e.next 0 ne))
      (rw (linked, front) (get_or-set_same (nexts_of es) i e.next 0 long ∙ next
      ∙ ap (slice_index heads) b)) in
      rw (spans-set_same es i d e same h, take_more keys i 0 bound, b) all
