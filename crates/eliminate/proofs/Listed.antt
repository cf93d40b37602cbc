-- The live clauses with their names, each under an id of its own.
use Rattle.std.proofs.Common.{◌≡◌, ℕ, zero, suc, ◌+◌, ◌<◌, false, List, [], ◌∷◌, length, map}
use Rattle.std.proofs.Common.{get_or, Some, None, refl, sym, ◌∙◌, ap, subst, arith, zero-add}
use Rattle.std.specs.Prelude.{All, Contains, nat_eq}
use Rattle.std.specs.List.{AllByRecursion, IsDistinct, enumerate_from}
use Rattle.std.proofs.lemmas.Bool.{ne_eqb}
use Rattle.std.proofs.lemmas.List.{get_or-map, length-map}
use Rattle.std.proofs.lemmas.List.Elements.{All-from_recursion, All-map}
use Rattle.std.proofs.lemmas.Option.{none-some}
use Rattle.std.proofs.lemmas.Simd.{map-map}
use Rattle.cnf.specs.Literal.{Literal}
use Rattle.cnf.specs.Refute.{Clauses}
use Rattle.cnf.specs.Lrat.{IsId}
use Rattle.cnf.proofs.Laws.{all_mapped}
use Rattle.clauses.specs.Slots.{Slots, clause_at, places_from, live_places, live_clauses, Renaming}
use Rattle.clauses.specs.Slots.{IsRenaming, moves_from, moves_of}
use Rattle.lrat_log.specs.declared.lines.Name.{Name}
use Rattle.lrat_log.specs.Log.{id_of, number_in}
use Rattle.eliminate.specs.Elimination.{HoldsWhatIsLive}
use Rattle.eliminate_names.specs.Together.{live_names}
use Rattle.eliminate_names.specs.Work.{name_at, AreLiveAs}
use Rattle.clauses.proofs.Laws.{renamed_together}
use Rattle.eliminate_names.proofs.Laws.{number_at}

-- what holds of each live place holds of those in order
all_places : (P : ℕ → Type 0) (n : ℕ) (slots : Slots)
    → ((r : ℕ) (c : List Literal) → clause_at slots r ≡ Some c → P (n + r))
    → AllByRecursion P (places_from n slots)
all_places P n [] h = tt
all_places P n (None ∷ slots) h =
    all_places P (n + 1) slots (λ r c e. subst P (let x : n + suc r ≡ n + 1 + r = omega arith in
    x) (h (suc r) c e))
all_places P n (Some d ∷ slots) h = (
  subst P (let x : n + 0 ≡ n = omega arith in x) (h zero d refl),
  all_places P (n + 1) slots (λ r c e. subst P (let x : n + suc r ≡ n + 1 + r = omega arith in
      x) (h (suc r) c e)),
)

-- what holds of each live clause's place holds of the old place of each move
pub by_old : (old : Slots) (moves : Renaming) (P : ℕ → Type 0)
    → ((r : ℕ) (c : List Literal) → clause_at old r ≡ Some c → P r)
    → map (λ m. m.0) moves ≡ live_places old → All (λ m. P m.0) moves
by_old old moves P h from i d lt =
    let all : All P (live_places old) =
    All-from_recursion P (live_places old)
    (all_places P 0 old (λ r c e. subst P (sym (zero-add r)) (h r c e))) in
    let long : length (map (λ m. m.0) moves) ≡ length moves = length-map moves (λ m. m.0) in
    subst P (get_or-map (λ (m : ℕ × ℕ). m.0) moves i d d.0 lt)
    (subst (All P) (sym from) all i d.0 (omega arith))

distinct_places : (f : ℕ → ℕ) (n : ℕ) (slots : Slots)
    → ((r s : ℕ) (c d : List Literal) → clause_at slots r ≡ Some c → clause_at slots s ≡ Some d
    → f (n + r) ≡ f (n + s) → r ≡ s)
    → IsDistinct nat_eq (map f (places_from n slots))
unfolding IsDistinct
distinct_places f n [] h = tt
distinct_places f n (None ∷ slots) h = distinct_places f (n + 1) slots (λ r s c d e g same.
    let x : n + 1 + r ≡ n + suc r = omega arith in
    let y : n + 1 + s ≡ n + suc s = omega arith in
    let z : suc r ≡ suc s = h (suc r) (suc s) c d e g (ap f (sym x) ∙ same ∙ ap f y) in
    omega arith)
distinct_places f n (Some b ∷ slots) h = (
  all_mapped (λ y. nat_eq (f n) y ≡ false) f (places_from (n + 1) slots)
      (all_places (λ r. nat_eq (f n) (f r) ≡ false) (n + 1) slots (λ r c e.
      ne_eqb (f n) (f (n + 1 + r)) (λ same.
      let x : n + 0 ≡ n = omega arith in
      let y : n + 1 + r ≡ n + suc r = omega arith in
      let z : zero ≡ suc r = h zero (suc r) b c refl e (ap f x ∙ same ∙ ap f y) in
      omega arith))),
  distinct_places f (n + 1) slots (λ r s c d e g same.
      let x : n + 1 + r ≡ n + suc r = omega arith in
      let y : n + 1 + s ≡ n + suc s = omega arith in
      let z : suc r ≡ suc s = h (suc r) (suc s) c d e g (ap f (sym x) ∙ same ∙ ap f y) in
      omega arith),
)

contains_place : (f : ℕ → ℕ) (n : ℕ) (slots : Slots) (r : ℕ) (c : List Literal)
    → clause_at slots r ≡ Some c → Contains (map f (places_from n slots)) (f (n + r))
contains_place f n [] r c e = absurd (none-some c e)
contains_place f n (None ∷ slots) zero c e = absurd (none-some c e)
contains_place f n (None ∷ slots) (suc r) c e =
    subst (λ k. Contains (map f (places_from (n + 1) slots)) (f k))
    (let x : n + 1 + r ≡ n + suc r = omega arith in x) (contains_place f (n + 1) slots r c e)
contains_place f n (Some d ∷ slots) zero c e =
    (zero, omega arith, ap f (let x : n ≡ n + 0 = omega arith in x))
contains_place f n (Some d ∷ slots) (suc r) c e =
    let w : Contains (map f (places_from (n + 1) slots)) (f (n + suc r)) =
    subst (λ k. Contains (map f (places_from (n + 1) slots)) (f k))
    (let x : n + 1 + r ≡ n + suc r = omega arith in x) (contains_place f (n + 1) slots r c e) in
    (suc w.0, (let lt = w.1 in omega arith), w.2)

-- the clauses in their new places, each with the name that it had in its old one
abbrev moved_names : List Name → Renaming → List (ℕ × Name)
moved_names names moves = map (λ (m : ℕ × ℕ). (m.1, name_at names m.0)) moves

-- the clauses of the old store have their names in the new one
holds_moved : (old new : Slots) (moves : Renaming) (names : List Name) (base last : ℕ)
    (at : Clauses) → All (λ n. IsId (number_in n)) names → IsRenaming old new moves
    → AreLiveAs (λ r. id_of base (name_at names r)) old at last
    → HoldsWhatIsLive new (moved_names names moves) base at
holds_moved old new moves names base last at ids renames a =
    let f : ℕ × ℕ → ℕ × Name = λ m. (m.1, name_at names m.0) in
    let id : ℕ → ℕ = λ r. id_of base (name_at names r) in
    let places : List ℕ = live_places old in
    let to_ids : map (λ n. id_of base n.1) (map f moves) ≡ map id places =
    map-map (λ (n : ℕ × Name). id_of base n.1) f moves
    ∙ sym (map-map id (λ (m : ℕ × ℕ). m.0) moves) ∙ ap (map id) renames.from in
    record {
      from_one = All-map (λ (n : ℕ × Name). 0 < number_in n.1) f moves
          (λ i d lt. (number_at names (get_or moves i d).0 ids).0);
      listed = map-map (λ (n : ℕ × Name). n.0) f moves ∙ renames.to;
      differ =
          subst (IsDistinct nat_eq) (sym to_ids)
          (distinct_places id 0 old
          (λ r s c d e g same. a.differ r s c d e g (ap id (sym (zero-add r)) ∙ same
          ∙ ap id (zero-add s))));
      named = All-map (λ (n : ℕ × Name). at (id_of base n.1) ≡ clause_at new n.0) f moves
          (λ i d lt. by_old old moves (λ r. at (id r) ≡ clause_at old r)
          (λ r c e. a.named r c e ∙ sym e) renames.from i d lt ∙ sym (renames.same i d lt));
      only = λ i c e.
          let w = a.only i c e in
          subst (λ (ks : List ℕ). Contains ks i) (sym to_ids)
          (subst (Contains (map id places)) (ap id (zero-add w.0) ∙ w.2)
          (contains_place id 0 old w.0 c w.1));
    }

-- where they move together, the names are those of what was live
names_moved : (all : List Name) (old new : ℕ) (names : List Name) (slots : Slots)
    → length names ≡ length slots
    → ((k : ℕ) → k < length names → name_at all (old + k) ≡ name_at names k)
    → moved_names all (moves_from old new slots) ≡ enumerate_from new (live_names names slots)
names_moved all old new [] [] long h = refl
names_moved all old new [] (s ∷ slots) long h = absurd (omega arith)
names_moved all old new (n ∷ names) [] long h = absurd (omega arith)
names_moved all old new (n ∷ names) (None ∷ slots) long h =
    names_moved all (old + 1) new names slots (omega arith)
    (λ k lt. ap (name_at all) (let x : old + 1 + k ≡ old + suc k = omega arith in x)
    ∙ h (suc k) (omega arith))
names_moved all old new (n ∷ names) (Some c ∷ slots) long h =
    let first : name_at all old ≡ n =
    ap (name_at all) (let x : old ≡ old + 0 = omega arith in x) ∙ h 0 (omega arith) in
    ap (λ (m : Name). (new, m) ∷ moved_names all (moves_from (old + 1) (new + 1) slots)) first
    ∙ ap (λ (ms : List (ℕ × Name)). (new, n) ∷ ms)
    (names_moved all (old + 1) (new + 1) names slots (omega arith)
    (λ k lt. ap (name_at all) (let x : old + 1 + k ≡ old + suc k = omega arith in x)
    ∙ h (suc k) (omega arith)))

pub together_holds : (old new : Slots) (names left : List Name) (base last : ℕ) (at : Clauses)
    → All (λ n. IsId (number_in n)) names → length names ≡ length old
    → new ≡ map Some (live_clauses old) → left ≡ live_names names old
    → AreLiveAs (λ r. id_of base (name_at names r)) old at last
    → HoldsWhatIsLive new (enumerate_from 0 left) base at
together_holds old new names left base last at ids long moved is a =
    subst (λ (ns : List (ℕ × Name)). HoldsWhatIsLive new ns base at)
    (names_moved names 0 0 names old long (λ k lt. ap (name_at names) (zero-add k))
    ∙ ap (enumerate_from 0) (sym is))
    (holds_moved old new (moves_of old) names base last at ids
    (renamed_together old new (moves_of old) moved refl) a)
