-- A table after a clause was added, and after dead entries were taken out.
use Rattle.std.proofs.Common.{◌≡◌, ℕ, ◌+◌, ◌<◌, ◌≤◌, true, List, [], ◌∷◌, ◌++◌, length, get_or}
use Rattle.std.proofs.Common.{set, sym, ◌∙◌, ap, subst, arith}
use Rattle.std.specs.Prelude.{All, slice_index}
use Rattle.std.proofs.lemmas.List.{get_or-map, length-map, length-set, length-append, length_push}
use Rattle.std.proofs.lemmas.List.{map_push, get_or_append_left, get_or_push}
use Rattle.cnf.specs.Numbers.{RisesFrom}
use Rattle.cnf.specs.Literal.{Literal}
use Rattle.lrat_live.specs.Listed.{ids_of}
use Rattle.lrat_live.specs.Chains.{bucket_of, IsChained}
use Rattle.lrat_live.specs.Table.{EntrySpan, entry_span, entry_spans, keys_of, nexts_of, clauses_in}
use Rattle.lrat_live.specs.Table.{AllLive}
use Rattle.lrat_live.specs.Table.{IsLaid, IsAboveLast, IsTable}
use Rattle.lrat_live.specs.declared.entries.AddedEntry.{AddedEntry}
use Rattle.lrat_live.specs.declared.spans.TheConstants.{MOST_KEPT}
use Rattle.lrat_live.proofs.Chains.{chained_push}
use Rattle.lrat_live.proofs.Table.{length-keys}
use Rattle.lrat_live.proofs.Clauses.{laid_push, laid_within, rises_push, clauses_push}
use Rattle.lrat_live.proofs.Clauses.{rises_clauses, live_ids}

spans_push : (es : List AddedEntry) (e : AddedEntry)
    → entry_spans (es ++ e ∷ []) ≡ entry_spans es ++ entry_span e ∷ []
spans_push es e = map_push entry_span es e

keys_push : (es : List AddedEntry) (e : AddedEntry)
    → keys_of (entry_spans (es ++ e ∷ [])) ≡ keys_of (entry_spans es) ++ e.id ∷ []
keys_push es e = ap keys_of (spans_push es e)
    ∙ map_push (λ (c : EntrySpan). c.id) (entry_spans es) (entry_span e)

nexts_push : (es : List AddedEntry) (e : AddedEntry)
    → nexts_of (es ++ e ∷ []) ≡ nexts_of es ++ e.next ∷ []
nexts_push es e = map_push (λ (x : AddedEntry). x.next) es e

-- one more clause: grown are the entries es, linked anew
module _ (ls more : List Literal) (es grown : List AddedEntry) (before hs : List ℕ) (e : AddedEntry)
    (t : IsTable ls es before) (same : entry_spans grown ≡ entry_spans es)
    (start : e.start ≡ length ls)
    (long : e.length ≡ length more) (live : e.live ≡ true) where
  laid : IsLaid 0 (entry_spans grown) (length ls)
  laid = rw same t.laid

  pub table_clauses : clauses_in (ls ++ more) (entry_spans (grown ++ e ∷ [])) ≡ clauses_in ls
      (entry_spans es) ++ (e.id, more) ∷ []
  table_clauses =
      rw (spans_push grown e)
      (clauses_push ls more (entry_spans grown) (entry_span e) laid start long live
      ∙ ap (λ cs. clauses_in ls cs ++ (e.id, more) ∷ []) same)

  module _ (bucket place : ℕ) (above : IsAboveLast e.id (keys_of (entry_spans es)))
      (chained : IsChained (length hs) hs (keys_of (entry_spans grown)) (nexts_of grown))
      (room : length grown < length hs) (is : bucket ≡ bucket_of (length hs) e.id)
      (small : bucket < length hs) (next : e.next ≡ slice_index hs bucket)
      (at : place ≡ length grown + 1) (few_literals : length ls + length more ≤ MOST_KEPT)
      (few_entries : length grown + 1 ≤ MOST_KEPT) where
    links : List ℕ
    links = nexts_of (grown ++ e ∷ [])

    pushed : IsChained (length hs) (set hs bucket place) (keys_of (entry_spans grown) ++ e.id ∷ [])
        (nexts_of (grown ++ e ∷ []))
    pushed =
        let n : length (nexts_of grown) ≡ length grown =
        length-map grown (λ (x : AddedEntry). x.next) in
        let k : length (keys_of (entry_spans grown)) ≡ length grown = length-keys grown in
        let all = chained_push (length hs) hs (keys_of (entry_spans grown)) (nexts_of grown) e.id
        place
        (nexts_of (grown ++ e ∷ [])) chained (omega arith) (subst (λ b. b < length hs) is small)
        (λ i h. rw (nexts_push grown e) (get_or_append_left (nexts_of grown) (e.next ∷ []) 0 i
        (omega arith)))
        (rw (nexts_push grown e)
        (get_or_push (nexts_of grown) e.next 0 (length (keys_of (entry_spans grown))) (omega arith)
        ∙ next ∙ ap (slice_index hs) is)) in
        subst (λ b. IsChained (length hs) (set hs b place)
        (keys_of (entry_spans grown) ++ e.id ∷ [])
        (nexts_of (grown ++ e ∷ []))) (sym is) all

    pub table_push : IsTable (ls ++ more) (grown ++ e ∷ []) (set hs bucket place)
    table_push =
        let heads : length (set hs bucket place) ≡ length hs = length-set hs bucket place in
        let entries : length (grown ++ e ∷ []) ≡ length grown + 1 = length_push grown e in
        let above' : IsAboveLast e.id (keys_of (entry_spans grown)) = rw same above in
        let ends : length (ls ++ more) ≡ length ls + e.length =
        omega (arith, length-append ls more) in
        record {
          laid =
              rw (spans_push grown e, ends)
              (laid_push 0 (length ls) (entry_spans grown) (entry_span e) laid start);
          rising =
              rw (keys_push grown e)
              (rises_push 0 (keys_of (entry_spans grown)) e.id (rw same t.rising)
              (omega arith) above');
          few_literals = omega (arith, length-append ls more);
          few_entries = omega arith;
          room = omega arith;
          chained = rw (heads, keys_push grown e) pushed;
        }

-- where all are live, what is below an id in the list is so in the table
pub live_above : (ls : List Literal) (cs : List EntrySpan) (id : ℕ) → AllLive cs
    → All (λ e. e.0 < id) (clauses_in ls cs) → IsAboveLast id (keys_of cs)
live_above ls cs id live h p e =
    let same : ids_of (clauses_in ls cs) ≡ keys_of cs = live_ids ls cs live in
    let d : ℕ × List Literal = (0, []) in
    let n : length (clauses_in ls cs) ≡ length (keys_of cs) =
    sym (length-map (clauses_in ls cs) (λ (x : ℕ × List Literal). x.0)) ∙ ap length same in
    let in' : p < length (clauses_in ls cs) = omega arith in
    let r : slice_index (ids_of (clauses_in ls cs)) p ≡ (get_or (clauses_in ls cs) p d).0 =
    get_or-map (λ (x : ℕ × List Literal). x.0) (clauses_in ls cs) p d 0 in' in
    let below : (get_or (clauses_in ls cs) p d).0 < id = h p d in' in
    subst (λ ks. slice_index ks p < id) same (rw r below)

-- live entries alone, linked anew
pub table_reclaimed : (ls kept : List Literal) (es compacted linked : List AddedEntry)
    (before hs : List ℕ) → IsTable ls es before → IsLaid 0 (entry_spans compacted) (length kept)
    → AllLive (entry_spans compacted) → clauses_in kept (entry_spans compacted) ≡ clauses_in ls
    (entry_spans es) → length compacted ≤ length es → length kept ≤ length ls
    → entry_spans linked ≡ entry_spans compacted → length linked ≡ length compacted
    → length linked ≤ length hs → IsChained (length hs) hs (keys_of (entry_spans linked))
    (nexts_of linked) → IsTable kept linked hs
table_reclaimed ls kept es compacted linked before hs t laid live clauses fewer shorter same count
    room chained =
    let rises : RisesFrom 0 (keys_of (entry_spans compacted)) =
    subst (RisesFrom 0) (ap ids_of (sym clauses) ∙ live_ids kept (entry_spans compacted) live)
    (rises_clauses ls 0 (entry_spans es) t.rising) in
    record {
      laid = rw same laid;
      rising = rw same rises;
      few_literals = omega (arith, t.few_literals);
      few_entries = omega (arith, t.few_entries);
      room = room;
      chained = chained;
    }

-- the same clauses, where the entries may be linked anew
pub table_linked : (ls ms : List Literal) (es fs ds : List AddedEntry) (hs gs : List ℕ)
    → IsTable ls es hs → ms ≡ ls → ds ≡ fs → entry_spans fs ≡ entry_spans es
    → length fs ≤ length gs
    → IsChained (length gs) gs (keys_of (entry_spans fs)) (nexts_of fs) → IsTable ms ds gs
table_linked ls ms es fs ds hs gs t same is spans room chained =
    let count : length fs ≡ length es =
    sym (length-map fs entry_span) ∙ ap length spans ∙ length-map es entry_span in
    rw (same, is) (record {
      laid = rw spans t.laid;
      rising = rw spans t.rising;
      few_literals = t.few_literals;
      few_entries = omega (arith, count, t.few_entries);
      room = room;
      chained = chained;
    })

-- the literals of an entry lie in the table
pub literals_end : (ls : List Literal) (es : List AddedEntry) (i : ℕ) (d : AddedEntry)
    → IsLaid 0 (entry_spans es) (length ls) → i < length es
    → (get_or es i d).start + (get_or es i d).length ≤ length ls
literals_end ls es i d h l =
    let span : get_or (entry_spans es) i (entry_span d) ≡ entry_span (get_or es i d) =
    get_or-map entry_span es i d (entry_span d) l in
    subst (λ (c : EntrySpan). c.start + c.length ≤ length ls) span
    (laid_within 0 (length ls) (entry_spans es) i (entry_span d) h
    (omega (arith, length-map es entry_span)))
