-- What the slots of heads are: where one is read, added or taken out.
use Rattle.std.proofs.Common.{◌≡◌, ℕ, ◌+◌, ◌<◌, ◌≤◌, ◌^◌, true, false, List, [], ◌∷◌, ◌++◌, length}
use Rattle.std.proofs.Common.{get_or, set, map, Option, Some, None, refl, sym, ◌∙◌, ap, arith, inl}
use Rattle.std.proofs.Common.{inr}
use Rattle.std.specs.Prelude.{slice_range, slice_set, slice_get, IsTrue, ◌↔◌}
use Rattle.std.specs.Option.{option_map}
use Rattle.std.proofs.lemmas.Bool.{cases_Bool, cases_lt}
use Rattle.std.proofs.lemmas.List.{map-set, map-append, length-set, length-append}
use Rattle.std.proofs.lemmas.Option.{slice_get-map, slice_get_past, slice_get_cases}
use Rattle.std.proofs.lemmas.Option.{slice_get-get_or}
use Rattle.cnf.specs.Literal.{Literal}
use Rattle.clauses.specs.declared.heads.ClauseSpan.{ClauseSpan}
use Rattle.clauses.specs.Heads.{Head, span_of, literals_under, slot_of, slots_of, state_of, IsLaid}
use Rattle.clauses.specs.Heads.{IsStore}
use Rattle.clauses.specs.Slots.{in_slot, clause_at, IsLive}
use Rattle.cnf.proofs.Laws.{range-append, range-appended, laid_le, laid_push, laid_set}
use Rattle.clauses.proofs.Flat.{heads}
use Rattle.clauses.proofs.Reading.{no_head}

-- a slot that is read
pub clause_of_head : (ls : List Literal) (hs : List Head) (r : ℕ) (h : Head)
    → slice_get hs r ≡ Some h → clause_at (slots_of ls hs) r ≡ slot_of ls h
clause_of_head ls hs r h e =
    ap in_slot (slice_get-map (slot_of ls) hs r ∙ ap (option_map (slot_of ls)) e)

pub clause_of_none : (ls : List Literal) (hs : List Head) (r : ℕ) → slice_get hs r ≡ None
    → clause_at (slots_of ls hs) r ≡ None
clause_of_none ls hs r e =
    ap in_slot (slice_get-map (slot_of ls) hs r ∙ ap (option_map (slot_of ls)) e)

pub slot_live : (ls : List Literal) (h : Head) → h.live ≡ true
    → slot_of ls h ≡ Some (literals_under ls h)
slot_live ls h e = rw e refl

pub slot_dead : (ls : List Literal) (h : Head) → h.live ≡ false → slot_of ls h ≡ None
slot_dead ls h e = rw e refl

live_by_head : (ls : List Literal) (hs : List Head) (r : ℕ) (h : Head) → slice_get hs r ≡ Some h
    → IsTrue h.live ↔ IsLive (slots_of ls hs) r
live_by_head ls hs r h e =
    let to : h.live ≡ true → IsLive (slots_of ls hs) r =
    λ t. (literals_under ls h, clause_of_head ls hs r h e ∙ slot_live ls h t) in
    let from : IsLive (slots_of ls hs) r → h.live ≡ true = λ (c, at). elim (cases_Bool h.live) [
      | inl t ↦ t
      | inr f ↦ let z : None ≡ Some c = sym (clause_of_head ls hs r h e ∙ slot_dead ls h f) ∙ at in
          cc
    ] in
    (to, from)

not_live : (ls : List Literal) (hs : List Head) (r : ℕ) → slice_get hs r ≡ None
    → IsTrue false ↔ IsLive (slots_of ls hs) r
not_live ls hs r e = (
  λ f. cc,
  λ (c, at). let z : None ≡ Some c = sym (clause_of_none ls hs r e)
      ∙ at in cc,
)

-- the flags say which references are live
pub live_by_flag : (ls : List Literal) (hs : List Head) (r : ℕ)
    → (slice_get (map (λ h. h.live) hs) r ≡ Some true) ↔ IsLive (slots_of ls hs) r
live_by_flag ls hs r =
    let flag : slice_get (map (λ h. h.live) hs) r ≡ option_map (λ h. h.live) (slice_get hs r) =
    slice_get-map (λ h. h.live) hs r in
    elim (slice_get_cases hs r).1 [
      | inl (h, w, at, is) ↦
          let here : slice_get (map (λ h. h.live) hs) r ≡ Some h.live =
          flag ∙ ap (option_map (λ h. h.live)) at in
          let by_head = live_by_head ls hs r h at in (
            λ e. by_head.0 (let same : Some h.live ≡ Some true = sym here ∙ e in cc),
            λ live. here
                ∙ ap Some (by_head.1 live),
          )
      | inr (w, none) ↦
          let here : slice_get (map (λ h. h.live) hs) r ≡ None =
          flag ∙ ap (option_map (λ h. h.live)) none in
          let dead = not_live ls hs r none in (
            λ e. let z : None ≡ Some true = sym here ∙ e in
                cc,
            λ live. let z : false ≡ true = dead.1 live in cc,
          )
    ]

-- the head of a live reference
pub live_within : (ls : List Literal) (hs : List Head) (r : ℕ) → IsLive (slots_of ls hs) r
    → r < length hs
live_within ls hs r live =
    elim (cases_lt r (length hs)) [
      | inl l ↦ l
      | inr l ↦ let z : false ≡ true = (not_live ls hs r (slice_get_past hs r l)).1 live in
          absurd (cc)
    ]

pub live_clause : (ls : List Literal) (hs : List Head) (r : ℕ) (s : ClauseSpan)
    → IsLive (slots_of ls hs) r → s ≡ span_of (get_or hs r no_head)
    → clause_at (slots_of ls hs) r ≡ Some (slice_range ls s.start (s.start + s.length))
live_clause ls hs r s live is =
    let h : Head = get_or hs r no_head in
    let e : slice_get hs r ≡ Some h = slice_get-get_or hs r no_head (live_within ls hs r live) in
    rw is (clause_of_head ls hs r h e ∙ slot_live ls h ((live_by_head ls hs r h e).1 live))

-- a clause that is added
slots_longer : (ls more : List Literal) (from : ℕ) (hs : List Head) → IsLaid from hs (length ls)
    → slots_of (ls ++ more) hs ≡ slots_of ls hs
slots_longer ls more from [] p = refl
slots_longer ls more from (h ∷ hs) p =
    let here : h.start + h.length ≤ length ls =
    omega (arith, p.0, laid_le heads (from + h.length) (length ls) hs p.1) in
    let e : slot_of (ls ++ more) h ≡ slot_of ls h =
    rw (range-append ls more h.start (h.start + h.length) (omega arith) here) refl in
    cc (e, slots_longer ls more (from + h.length) hs p.1)

pub state_added : (ls more : List Literal) (hs : List Head) (h : Head) → IsLaid 0 hs (length ls)
    → h.start ≡ length ls → h.length ≡ length more → h.live ≡ true
    → state_of (ls ++ more) (hs ++ h ∷ []) ≡ record {
      slots = slots_of ls hs ++ Some more ∷ [];
      used = length ls + length hs + (length more + 1);
    }
state_added ls more hs h laid at long live =
    let e : slot_of (ls ++ more) h ≡ Some more =
    rw live (ap Some (range-appended ls more h.start (h.start + h.length) at
    (omega (arith, at, long)))) in
    let slots : slots_of (ls ++ more) (hs ++ h ∷ []) ≡ slots_of ls hs ++ Some more ∷ [] =
    map-append (slot_of (ls ++ more)) hs (h ∷ []) ∙ rw (slots_longer ls more 0 hs laid, e) refl in
    let used : length (ls ++ more) + length (hs ++ h ∷ []) ≡ length ls + length hs
    + (length more + 1) = omega (arith, length-append ls more, length-append hs (h ∷ [])) in
    rw (slots, used) refl

pub store_added : (ls more : List Literal) (hs : List Head) (h : Head) → IsStore ls hs
    → h.start ≡ length ls → h.length ≡ length more → length ls + length more < 2 ^ 32
    → length hs + 1 < 2 ^ 32 → IsStore (ls ++ more) (hs ++ h ∷ [])
store_added ls more hs h s at long literals few =
    let n : length (ls ++ more) ≡ length ls + h.length = omega (arith, length-append ls more) in
    record {
      laid = rw n (laid_push heads 0 (length ls) hs h s.laid at);
      few_literals = omega (arith, n);
      few_heads = omega (arith, length-append hs (h ∷ []));
    }

-- a clause that is taken out
pub state_deleted : (ls : List Literal) (hs : List Head) (i : ℕ) (h : Head) → h.live ≡ false
    → state_of ls (slice_set hs i h) ≡ record {
      slots = slice_set (slots_of ls hs) i None;
      used = length ls + length hs;
    }
state_deleted ls hs i h dead =
    let slots : slots_of ls (set hs i h) ≡ set (slots_of ls hs) i None = map-set (slot_of ls) hs i h
    ∙ rw (slot_dead ls h dead) refl in
    rw (slots, length-set hs i h) refl

pub store_deleted : (ls : List Literal) (hs : List Head) (i : ℕ) (h d : Head) → IsStore ls hs
    → h.start ≡ (get_or hs i d).start → h.length ≡ (get_or hs i d).length
    → IsStore ls (slice_set hs i h)
store_deleted ls hs i h d s e f =
    record {
      laid = laid_set heads 0 (length ls) hs i h d s.laid e f;
      few_literals = s.few_literals;
      few_heads = omega (arith, s.few_heads, length-set hs i h);
    }

-- a place without a live clause
pub none_live : (slots : List (Option (List Literal))) (r : ℕ) → (IsLive slots r → ⊥)
    → clause_at slots r ≡ None
none_live slots r n = elim (clause_at slots r) as (λ o. clause_at slots r ≡ o → o ≡ None) [
  | None ↦ λ e. refl
  | Some c ↦ λ e. absurd (n (c, e))
] refl
