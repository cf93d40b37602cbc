-- One entry of a table that is compacted.
use Rattle.std.proofs.Common.{◌≡◌, ℕ, ◌+◌, ◌<◌, ◌≤◌, true, false, List, length, get_or, drop, set}
use Rattle.std.proofs.Common.{refl, sym, ◌∙◌, ap, subst, arith}
use Rattle.std.proofs.lemmas.List.{get_or-map, length-map, map-set}
use lib.Seq.{paste}
use Rattle.cnf.specs.Literal.{Literal}
use Rattle.lrat_live.specs.Table.{EntrySpan, entry_span, entry_spans}
use Rattle.lrat_live.specs.declared.entries.AddedEntry.{AddedEntry}
use Rattle.lrat_live.proofs.Clauses.{IsCompacting, moved_within, compacting_dead, compacting_live}

module _ (ls : List Literal) (es : List AddedEntry) (kept end i : ℕ)
    (value : List (ℕ × List Literal))
    (s : IsCompacting ls (entry_spans es) kept end i value) (x : AddedEntry) (h : i < length es)
    (is : x ≡ get_or es i x) where
  span : get_or (entry_spans es) i (entry_span x) ≡ entry_span x
  span = get_or-map entry_span es i x (entry_span x) h ∙ ap entry_span (sym is)

  within : i < length (entry_spans es)
  within = omega (arith, length-map es entry_span)

  pub entry_moves_down : (end ≤ x.start) × (x.start + x.length ≤ length ls)
  entry_moves_down = subst (λ (c : EntrySpan). (end ≤ c.start) × (c.start + c.length ≤ length ls))
      span
      (moved_within ls (entry_spans es) kept end i value (entry_span x) s within)

  pub dead_entry : x.live ≡ false → IsCompacting ls (entry_spans es) kept end (i + 1) value
  dead_entry e =
      compacting_dead ls (entry_spans es) kept end i value (entry_span x) s within
      (ap (λ (c : EntrySpan). c.live) span ∙ e)

  abbrev moved : AddedEntry
  moved = record { id = x.id; start = end; length = x.length; next = 0; live = true }

  pub live_entry : x.live ≡ true → (n : ℕ) → n ≡ x.length
      → IsCompacting (paste ls end (drop x.start ls) n) (entry_spans (set es kept moved)) (kept + 1)
      (end + x.length) (i + 1) value
  live_entry e n long =
      let all =
      compacting_live ls (entry_spans es) kept end i value (entry_span x) s within
      (entry_span moved)
      (ap (λ (c : EntrySpan). c.live) span ∙ e) (sym (ap (λ (c : EntrySpan). c.id) span)) refl
      (sym (ap (λ (c : EntrySpan). c.length) span)) refl in
      let by_span =
      subst (λ (c : EntrySpan). IsCompacting (paste ls end (drop c.start ls) c.length)
      (set (entry_spans es) kept (entry_span moved)) (kept + 1) (end + c.length) (i + 1) value)
      span all in
      rw (map-set entry_span es kept moved, long) by_span
