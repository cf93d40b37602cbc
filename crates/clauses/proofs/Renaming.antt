-- The moves of a compaction: what they are, one by one, and that they rename the clauses.
use Rattle.std.proofs.Common.{◌≡◌, ℕ, suc, ◌+◌, ◌-◌, ◌<◌, ◌≤◌, true, false, List, [], ◌∷◌, ◌++◌}
use Rattle.std.proofs.Common.{length, get_or, drop, map, Option, Some, None, refl, sym, ◌∙◌, ap}
use Rattle.std.proofs.Common.{arith, inl, inr, zero-add}
use Rattle.std.specs.Prelude.{All}
use Rattle.std.specs.List.Sorted.{IsStrictlyIncreasing}
use Rattle.std.proofs.lemmas.Bool.{cases_Bool}
use Rattle.std.proofs.lemmas.List.{length-take-le, length-drop, length-append, append_assoc}
use Rattle.std.proofs.lemmas.List.{drop_more}
use Rattle.std.proofs.lemmas.List.Elements.{All-nil, All-cons}
use Rattle.std.proofs.lemmas.List.Sums.{sum_by-cons}
use Rattle.cnf.specs.Literal.{Literal}
use Rattle.clauses.specs.Heads.{Head, literals_under, slots_of, clauses_in, AllLive, IsLaid}
use Rattle.clauses.specs.Slots.{Slots, clause_at, places_from, live_clauses, room_of, Renaming}
use Rattle.clauses.specs.Slots.{moves_from, moves_of, IsRenaming}
use Rattle.cnf.proofs.Laws.{laid_le, pieces_live, pieces_dead}
use Rattle.cnf.specs.Numbers.{RisesFrom}
use Rattle.cnf.proofs.Laws.{rises_weaker, rising_from}
use Rattle.clauses.proofs.Flat.{heads}
use Rattle.clauses.proofs.Reading.{no_head}
use Rattle.clauses.proofs.Stored.{slot_live, slot_dead}

-- the moves, head by head
moves_live : (old new : ℕ) (ls : List Literal) (h : Head) (hs : List Head) → h.live ≡ true
    → moves_from old new (slots_of ls (h ∷ hs)) ≡ (old, new) ∷ moves_from (old + 1) (new + 1)
    (slots_of ls hs)
moves_live old new ls h hs e = rw (slot_live ls h e) refl

moves_dead : (old new : ℕ) (ls : List Literal) (h : Head) (hs : List Head) → h.live ≡ false
    → moves_from old new (slots_of ls (h ∷ hs)) ≡ moves_from (old + 1) new (slots_of ls hs)
moves_dead old new ls h hs e = rw (slot_dead ls h e) refl

-- `old` heads were passed, and these are their moves
pub record IsListing (hs : List Head) (old : ℕ) (moves : Renaming) : Type 0 where
  pub few : length moves ≤ old
  pub all : (ls : List Literal) → moves ++ moves_from old (length moves) (slots_of ls (drop old hs))
      ≡ moves_of (slots_of ls hs)

pub listing_live : (hs : List Head) (old : ℕ) (moves : Renaming) → IsListing hs old moves
    → old < length hs → (get_or hs old no_head).live ≡ true
    → IsListing hs (old + 1) (moves ++ (old, length moves) ∷ [])
listing_live hs old moves l h live =
    let long : length (moves ++ (old, length moves) ∷ []) ≡ length moves + 1 =
    length-append moves ((old, length moves) ∷ []) in
    record {
      few = omega (arith, l.few);
      all = λ ls.
          let next : moves_from old (length moves) (slots_of ls (drop old hs)) ≡ (old, length moves)
          ∷ moves_from (old + 1) (length moves + 1) (slots_of ls (drop (old + 1) hs)) =
          rw (drop_more hs old no_head h)
          (moves_live old (length moves) ls (get_or hs old no_head) (drop (old + 1) hs) live) in
          rw long (append_assoc moves ((old, length moves) ∷ [])
          (moves_from (old + 1) (length moves + 1) (slots_of ls (drop (old + 1) hs)))
          ∙ ap (λ ms. moves ++ ms) (sym next) ∙ l.all ls);
    }

pub listing_dead : (hs : List Head) (old : ℕ) (moves : Renaming) → IsListing hs old moves
    → old < length hs → (get_or hs old no_head).live ≡ false → IsListing hs (old + 1) moves
listing_dead hs old moves l h dead = record {
  few = omega (arith, l.few);
  all = λ ls.
      let next : moves_from old (length moves) (slots_of ls (drop old hs)) ≡ moves_from (old + 1)
      (length moves) (slots_of ls (drop (old + 1) hs)) =
      rw (drop_more hs old no_head h) (moves_dead old (length moves) ls (get_or hs old no_head)
      (drop (old + 1) hs) dead) in
      ap (λ ms. moves ++ ms) (sym next) ∙ l.all ls;
}

-- both sides rise
old_rises : (old new : ℕ) (slots : Slots)
    → RisesFrom old (map (λ m. m.0) (moves_from old new slots))
old_rises old new [] = tt
old_rises old new (None ∷ slots) =
    rises_weaker old (old + 1) (map (λ m. m.0) (moves_from (old + 1) new slots)) (omega arith)
    (old_rises (old + 1) new slots)
old_rises old new (Some c ∷ slots) = (omega arith, old_rises (old + 1) (new + 1) slots)

new_rises : (old new : ℕ) (slots : Slots)
    → RisesFrom new (map (λ m. m.1) (moves_from old new slots))
new_rises old new [] = tt
new_rises old new (None ∷ slots) = new_rises (old + 1) new slots
new_rises old new (Some c ∷ slots) = (omega arith, new_rises (old + 1) (new + 1) slots)

moves_lower : (old new : ℕ) (slots : Slots) → new ≤ old
    → All (λ m. m.1 ≤ m.0) (moves_from old new slots)
moves_lower old new [] h = All-nil (λ m. m.1 ≤ m.0)
moves_lower old new (None ∷ slots) h = moves_lower (old + 1) new slots (omega arith)
moves_lower old new (Some c ∷ slots) h =
    All-cons (λ m. m.1 ≤ m.0) (old, new) (moves_from (old + 1) (new + 1) slots) h
    (moves_lower (old + 1) (new + 1) slots (omega arith))

pub moves_rise : (slots : Slots) (moves : Renaming) → moves ≡ moves_of slots
    → IsStrictlyIncreasing (map (λ m. m.0) moves) × IsStrictlyIncreasing (map (λ m. m.1) moves)
    × All (λ m. m.1 ≤ m.0) moves
moves_rise slots moves is =
    let all : IsStrictlyIncreasing (map (λ m. m.0) (moves_of slots))
    × IsStrictlyIncreasing (map (λ m. m.1) (moves_of slots))
    × All (λ m. m.1 ≤ m.0) (moves_of slots) = (
      rising_from 0 _ (old_rises 0 0 slots),
      rising_from 0 _ (new_rises 0 0 slots),
      moves_lower 0 0 slots (omega arith),
    ) in
    rw is all

-- they lead from each live reference to the one of the same clause
abbrev together : Slots → Slots
together slots = map Some (live_clauses slots)

moves_old : (old new : ℕ) (slots : Slots) → map (λ m. m.0) (moves_from old new slots)
    ≡ places_from old slots
moves_old old new [] = refl
moves_old old new (None ∷ slots) = moves_old (old + 1) new slots
moves_old old new (Some c ∷ slots) = ap (λ ks. old ∷ ks) (moves_old (old + 1) (new + 1) slots)

moves_new : (old new : ℕ) (slots : Slots) → map (λ m. m.1) (moves_from old new slots)
    ≡ places_from new (together slots)
moves_new old new [] = refl
moves_new old new (None ∷ slots) = moves_new (old + 1) new slots
moves_new old new (Some c ∷ slots) = ap (λ ks. new ∷ ks) (moves_new (old + 1) (new + 1) slots)

-- from one place on, the slots are these
abbrev HoldsFrom : Slots → ℕ → Slots → Type 0
HoldsFrom whole at slots = (k : ℕ) → clause_at whole (at + k) ≡ clause_at slots k

goes_on_head : (whole : Slots) (at : ℕ) (s : Option (List Literal)) (slots : Slots)
    → HoldsFrom whole at (s ∷ slots) → clause_at whole at ≡ s
goes_on_head whole at s slots h = let e : at + 0 ≡ at = omega arith in
    ap (clause_at whole) (sym e) ∙ h 0

goes_on_tail : (whole : Slots) (at : ℕ) (s : Option (List Literal)) (slots : Slots)
    → HoldsFrom whole at (s ∷ slots) → HoldsFrom whole (at + 1) slots
goes_on_tail whole at s slots h k = let e : at + suc k ≡ at + 1 + k = omega arith in
    ap (clause_at whole) (sym e) ∙ h (suc k)

moves_same : (before after : Slots) (old new : ℕ) (slots : Slots) → HoldsFrom before old slots
    → HoldsFrom after new (together slots) → All (λ m. clause_at after m.1 ≡ clause_at before m.0)
    (moves_from old new slots)
moves_same before after old new [] f g = All-nil (λ m. clause_at after m.1 ≡ clause_at before m.0)
moves_same before after old new (None ∷ slots) f g =
    moves_same before after (old + 1) new slots (goes_on_tail before old None slots f) g
moves_same before after old new (Some c ∷ slots) f g =
    All-cons (λ m. clause_at after m.1 ≡ clause_at before m.0) (old, new)
    (moves_from (old + 1) (new + 1) slots)
    (goes_on_head after new (Some c) (together slots) g
    ∙ sym (goes_on_head before old (Some c) slots f))
    (moves_same before after (old + 1) (new + 1) slots (goes_on_tail before old (Some c) slots f)
    (goes_on_tail after new (Some c) (together slots) g))

goes_on_all : (slots : Slots) → HoldsFrom slots 0 slots
goes_on_all slots k = ap (clause_at slots) (zero-add k)

renaming_together : (slots : Slots) → IsRenaming slots (together slots) (moves_of slots)
renaming_together slots =
    record {
      from = moves_old 0 0 slots;
      to = moves_new 0 0 slots;
      lower = moves_lower 0 0 slots (omega arith);
      same =
          moves_same slots (together slots) 0 0 slots (goes_on_all slots)
          (goes_on_all (together slots));
    }

-- the slots of heads that are all live
clauses_of_slots : (ls : List Literal) (hs : List Head)
    → live_clauses (slots_of ls hs) ≡ clauses_in ls hs
clauses_of_slots ls [] = refl
clauses_of_slots ls (h ∷ hs) =
    elim (cases_Bool h.live) [
      | inl e ↦ rw (slot_live ls h e, pieces_live heads ls h hs e)
          (ap (λ cs. literals_under ls h ∷ cs) (clauses_of_slots ls hs))
      | inr e ↦ rw (slot_dead ls h e, pieces_dead heads ls h hs e) (clauses_of_slots ls hs)
    ]

slots_of_live : (ls : List Literal) (hs : List Head) → AllLive hs
    → slots_of ls hs ≡ map Some (clauses_in ls hs)
slots_of_live ls [] l = refl
slots_of_live ls (h ∷ hs) l =
    rw (slot_live ls h l.0, pieces_live heads ls h hs l.0)
    (ap (λ xs. Some (literals_under ls h) ∷ xs) (slots_of_live ls hs l.1))

pub brought_together : (ls ms : List Literal) (hs ks : List Head) → AllLive ks
    → clauses_in ms ks ≡ clauses_in ls hs
    → slots_of ms ks ≡ map Some (live_clauses (slots_of ls hs))
brought_together ls ms hs ks live same = slots_of_live ms ks live
    ∙ ap (map Some) (same ∙ sym (clauses_of_slots ls hs))

pub renamed_together : (old new : Slots) (moves : Renaming) → new ≡ map Some (live_clauses old)
    → moves ≡ moves_of old → IsRenaming old new moves
renamed_together old new moves together is = rw (together, is) (renaming_together old)

-- the room of live clauses without gaps
room_laid : (ls : List Literal) (from to : ℕ) (hs : List Head) → IsLaid from hs to → to ≤ length ls
    → AllLive hs → to + length hs ≡ from + room_of (clauses_in ls hs)
room_laid ls from to [] p w l = omega arith
room_laid ls from to (h ∷ hs) p w l =
    let rest : to + length hs ≡ from + h.length + room_of (clauses_in ls hs) =
    room_laid ls (from + h.length) to hs p.1 w l.1 in
    let within : h.start + h.length ≤ to =
    omega (arith, p.0, laid_le heads (from + h.length) to hs p.1) in
    let long : length (literals_under ls h) ≡ h.length =
    omega (
      arith,
      length-take-le (h.start + h.length - h.start) (drop h.start ls)
          (omega (arith, length-drop h.start ls)),
    ) in
    let step : room_of (literals_under ls h ∷ clauses_in ls hs) ≡ length (literals_under ls h) + 1
    + room_of (clauses_in ls hs) =
    sum_by-cons (λ c. length c + 1) (literals_under ls h) (clauses_in ls hs) in
    rw (pieces_live heads ls h hs l.0) (omega (arith, rest, long, step))

pub room_of_store : (ls : List Literal) (hs : List Head) → IsLaid 0 hs (length ls) → AllLive hs
    → length ls + length hs ≡ room_of (live_clauses (slots_of ls hs))
room_of_store ls hs p l =
    rw (clauses_of_slots ls hs) (omega (arith, room_laid ls 0 (length ls) hs p (omega arith) l))
