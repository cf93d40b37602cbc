-- The entry at the place of an id.
use Rattle.std.proofs.Common.{◌≡◌, ℕ, ◌+◌, ◌<◌, ◌≤◌, true, false, List, length, get_or, set, Some}
use Rattle.std.proofs.Common.{None, refl, sym, ◌∙◌, ap, subst, arith}
use Rattle.std.specs.Prelude.{slice_range, ◌==◌}
use Rattle.std.proofs.lemmas.List.{get_or-map, length-map, map-set, set-get_or, length-set}
use Rattle.cnf.specs.Literal.{Literal}
use Rattle.lrat_live.specs.Listed.{listed_at, without_id}
use Rattle.lrat_live.specs.Chains.{place_of}
use Rattle.lrat_live.specs.Table.{EntrySpan, entry_span, entry_spans, keys_of, nexts_of, clauses_in}
use Rattle.lrat_live.specs.Table.{IsTable}
use Rattle.lrat_live.specs.declared.entries.AddedEntry.{AddedEntry}
use Rattle.lrat_live.proofs.Chains.{newest-le}
use Rattle.lrat_live.proofs.Table.{length-keys}
use Rattle.lrat_live.proofs.Clauses.{laid_within, laid_set, without_none, listed_nowhere}
use Rattle.lrat_live.proofs.Clauses.{listed_live, listed_dead, clauses_deleted}

module _ (ls : List Literal) (es : List AddedEntry) (hs : List ℕ) (t : IsTable ls es hs)
    (id : ℕ) where
  pub nothing_listed : place_of id (keys_of (entry_spans es)) ≡ 0
      → listed_at (clauses_in ls (entry_spans es)) id ≡ None
  nothing_listed e = listed_nowhere ls (entry_spans es) id e

  pub nothing_left_out : place_of id (keys_of (entry_spans es)) ≡ 0
      → clauses_in ls (entry_spans es) ≡ without_id id (clauses_in ls (entry_spans es))
  nothing_left_out e = sym (without_none id (clauses_in ls (entry_spans es)) (nothing_listed e))

  module _ (p : ℕ) (e : place_of id (keys_of (entry_spans es)) ≡ p + 1) where
    pub entry_within : p < length es
    entry_within = omega (
      arith,
      newest-le (λ k. k == id) (keys_of (entry_spans es)),
      length-keys es,
    )

    module _ (x : AddedEntry) (is : x ≡ get_or es p x) where
      span : get_or (entry_spans es) p (entry_span x) ≡ entry_span x
      span = get_or-map entry_span es p x (entry_span x) entry_within ∙ ap entry_span (sym is)

      pub entry_ends : x.start + x.length ≤ length ls
      entry_ends =
          let in' : p < length (entry_spans es) = omega
          (arith, entry_within, length-map es entry_span) in
          subst (λ (c : EntrySpan). c.start + c.length ≤ length ls) span
          (laid_within 0 (length ls) (entry_spans es) p (entry_span x) t.laid in')

      pub dead_listed : x.live ≡ false → listed_at (clauses_in ls (entry_spans es)) id ≡ None
      dead_listed h =
          listed_dead ls 0 (entry_spans es) id p (entry_span x) t.rising e
          (ap (λ (c : EntrySpan). c.live) span
          ∙ h)

      pub live_listed : x.live ≡ true → listed_at (clauses_in ls (entry_spans es)) id
          ≡ Some (slice_range ls x.start (x.start + x.length))
      live_listed h =
          listed_live ls 0 (entry_spans es) id p (entry_span x) t.rising e
          (ap (λ (c : EntrySpan). c.live) span
          ∙ h) ∙ ap (λ (c : EntrySpan). Some (slice_range ls c.start (c.start + c.length))) span

      pub dead_left : x.live ≡ false → clauses_in ls (entry_spans (set es p x)) ≡ without_id id
          (clauses_in ls (entry_spans es))
      dead_left h =
          let same : set es p x ≡ es = ap (λ (y : AddedEntry). set es p y) is ∙ set-get_or es p x in
          rw same (sym (without_none id (clauses_in ls (entry_spans es)) (dead_listed h)))

      abbrev gone : AddedEntry
      gone = record x { live = false }

      keys_stay : keys_of (entry_spans (set es p gone)) ≡ keys_of (entry_spans es)
      keys_stay =
          ap keys_of (map-set entry_span es p gone)
          ∙ map-set (λ (c : EntrySpan). c.id) (entry_spans es) p (entry_span gone)
          ∙ ap (set (keys_of (entry_spans es)) p)
          (sym (get_or-map (λ (c : EntrySpan). c.id) (entry_spans es) p (entry_span x) x.id
          (omega (arith, entry_within, length-map es entry_span))
          ∙ ap (λ (c : EntrySpan). c.id) span)) ∙ set-get_or (keys_of (entry_spans es)) p x.id

      nexts_stay : nexts_of (set es p gone) ≡ nexts_of es
      nexts_stay =
          map-set (λ (y : AddedEntry). y.next) es p gone
          ∙ ap (set (nexts_of es) p)
          (sym (get_or-map (λ (y : AddedEntry). y.next) es p x x.next entry_within
          ∙ ap (λ (y : AddedEntry). y.next) (sym is))) ∙ set-get_or (nexts_of es) p x.next

      pub deleted_clauses : clauses_in ls (entry_spans (set es p gone)) ≡ without_id id
          (clauses_in ls (entry_spans es))
      deleted_clauses = ap (clauses_in ls) (map-set entry_span es p gone)
          ∙ clauses_deleted ls 0 (entry_spans es) id p (entry_span gone) t.rising e refl

      pub deleted_table : IsTable ls (set es p gone) hs
      deleted_table = record {
        laid =
            rw (map-set entry_span es p gone)
            (laid_set 0 (length ls) (entry_spans es) p (entry_span gone)
            (entry_span x) t.laid (sym (ap (λ (c : EntrySpan). c.start) span))
            (sym (ap (λ (c : EntrySpan). c.length) span)));
        rising = rw keys_stay t.rising;
        few_literals = t.few_literals;
        few_entries = rw (length-set es p gone) t.few_entries;
        room = rw (length-set es p gone) t.room;
        chained = rw (keys_stay, nexts_stay) t.chained;
      }
