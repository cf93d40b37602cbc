-- A log in another form, over other clauses, keeps its steps.
use Rattle.std.proofs.Common.{◌≡◌, ℕ, zero, suc, ◌+◌, ◌-◌, ◌<◌, ◌≤◌, ◌^◌, Bool, true, false, ◌||◌}
use Rattle.std.proofs.Common.{List, [], ◌∷◌, ◌++◌, length, map, Some, None, ◌⊎◌, inl, inr, refl}
use Rattle.std.proofs.Common.{sym, ◌∙◌, ap, subst, arith, length-append}
use Rattle.std.specs.Prelude.{◌==◌, nat_le, if◌then◌else◌, All}
use Rattle.std.specs.List.{AllByRecursion, list_any, slice_get}
use Rattle.std.proofs.lemmas.Bool.{cases_lt, eq-eqb, ne_eqb, le-leb, lt-leb, cond-true, cond-false}
use Rattle.std.proofs.lemmas.Bool.{false≢true, or_right}
use Rattle.std.proofs.lemmas.List.{length-map}
use Rattle.std.proofs.lemmas.List.Elements.{All-from_recursion, recursion_from_All, All-nil}
use Rattle.std.proofs.lemmas.List.Elements.{All-cons, All-head, All-tail}
use Rattle.std.proofs.lemmas.Option.{none-some}
use Rattle.cnf.specs.Literal.{Literal, negation}
use Rattle.cnf.specs.Clause.{contains_literal, is_subset}
use Rattle.cnf.specs.Formula.{numbered}
use Rattle.cnf.specs.Refute.{IsFalseUnder}
use Rattle.cnf.specs.Lrat.{Addition, Deletion, Live, with_clause, start_of, Step, Chain, Accepts}
use Rattle.cnf.specs.Lrat.{AcceptsFrom}
use Rattle.cnf.specs.Lrat.{IsId}
use Rattle.cnf.proofs.Laws.{numbered_past}
use Rattle.lrat_log.specs.declared.lines.Name.{Name}
use Rattle.lrat_log.specs.declared.lines.Name.TheVariants.{Formula, Added}
use Rattle.lrat_log.specs.declared.lines.Hint.{Hint}
use Rattle.lrat_log.specs.declared.lines.Hint.TheVariants.{Plain, Group}
use Rattle.lrat_log.specs.Log.{LogLine, IsLine, IsPlain, is_delete, name_of, number_in, id_of}
use Rattle.lrat_log.specs.Log.{numbered_on, numbered_lines, Given, given_at, start_over}
use Rattle.lrat_log.specs.Log.{HasNumber}
use Rattle.lrat_log.specs.Steps.{IsKnown, HasKnownNames, live_after, AreSteps, given_of, IsBaseOf}
use Rattle.lrat_log.specs.Steps.{IsOwnGroup, IsLogOver, IsAcceptedLog, adds_empty_clause}
use Rattle.lrat_log.specs.Steps.{StopsAtEmptyClause}
use Rattle.lrat_log.specs.Rebase.{WeakerList, weaker_line, moved_name, moved_hint, moved_line}
use Rattle.lrat_log.specs.Rebase.{rebased, IsWeakerOf, IsSomeClause, KeepsSteps}
use Rattle.lrat_log.proofs.Accepting.{accepted_log, refuted_log}
use Rattle.lrat_log.proofs.Names.{leading_names, group_names, group_by, named_on, line_by}
use Rattle.lrat_log.proofs.Names.{numbered_on-named, Renames, SameLive, GroupIs, HintKnown}
use Rattle.lrat_log.proofs.Names.{LineKnown, chain_after, steps_from_chain}
use Rattle.lrat_log.proofs.Numbering.{log_steps_from, given_below, given_past}
use Rattle.lrat_log.proofs.Ids.{known_names}
use Rattle.cnf.proofs.Laws.{contains-negations}
use Rattle.lrat_log.proofs.GivenNumbers.{numbered_left, numbered_right}
use Rattle.lrat_log.proofs.GivenNumbers.{numbered_within, base_of, given_at-given_of}

-- a weaker clause by the hint of its number
if_parts : (b x : Bool) → (if b then x else false) ≡ true → (b ≡ true) × (x ≡ true)
if_parts true x e = (refl, e)
if_parts false x e = absurd (false≢true e)

false_under : (d c : List Literal) → is_subset d c ≡ true → IsFalseUnder d (map negation c)
false_under [] c e = tt
false_under (l ∷ d) c e =
    let p = if_parts (contains_literal l c) (is_subset d c) e in
    (contains-negations l c ∙ p.0, false_under d c p.1)

abbrev pub clauses_of : WeakerList → List (List Literal)
clauses_of ws = map (λ e. e.0) ws

-- what is live after the weaker lines
weak_after : Live → ℕ → WeakerList → Live
weak_after live n [] = live
weak_after live n (e ∷ ws) = weak_after (with_clause live (n + 1) e.0) (n + 1) ws

weak_last : (live : Live) (n : ℕ) (ws : WeakerList) → live.last ≤ n
    → (weak_after live n ws).last ≤ n + length ws
unfolding weak_after
weak_last live n [] h = omega arith
weak_last live n (e ∷ ws) h =
    let k = weak_last (with_clause live (n + 1) e.0) (n + 1) ws (omega arith) in omega arith

with_other : (live : Live) (id : ℕ) (c : List Literal) (i : ℕ) → (i ≡ id → ⊥)
    → (with_clause live id c).clause_at i ≡ live.clause_at i
with_other live id c i h = cond-false (i == id) (Some c) (live.clause_at i) (ne_eqb i id h)

with_same : (live : Live) (id : ℕ) (c : List Literal) (i : ℕ) → i ≡ id
    → (with_clause live id c).clause_at i ≡ Some c
with_same live id c i h = cond-true (i == id) (Some c) (live.clause_at i) (eq-eqb i id h)

weak_outside : (live : Live) (n : ℕ) (ws : WeakerList) (i : ℕ) → (i ≤ n) ⊎ (n + length ws < i)
    → (weak_after live n ws).clause_at i ≡ live.clause_at i
unfolding weak_after
weak_outside live n [] i h = refl
weak_outside live n (e ∷ ws) i (inl h) =
    weak_outside (with_clause live (n + 1) e.0) (n + 1) ws i (inl (omega arith))
    ∙ with_other live (n + 1) e.0 i (λ z. absurd (omega arith))
weak_outside live n (e ∷ ws) i (inr h) =
    weak_outside (with_clause live (n + 1) e.0) (n + 1) ws i (inr (omega arith))
    ∙ with_other live (n + 1) e.0 i (λ z. absurd (omega arith))

weak_inside : (live : Live) (n : ℕ) (ws : WeakerList) (i k : ℕ) → i ≡ n + suc k → k < length ws
    → (weak_after live n ws).clause_at i ≡ slice_get (clauses_of ws) k
unfolding weak_after
weak_inside live n [] i k e h = absurd (omega arith)
weak_inside live n (w ∷ ws) i zero e h =
    weak_outside (with_clause live (n + 1) w.0) (n + 1) ws i (inl (omega arith))
    ∙ with_same live (n + 1) w.0 i (omega arith)
weak_inside live n (w ∷ ws) i (suc k) e h =
    weak_inside (with_clause live (n + 1) w.0) (n + 1) ws i k (omega arith) (omega arith)

weak_step : (cs : List (List Literal)) (e : List Literal × ℕ) → IsWeakerOf cs e
    → (live : Live) (id : ℕ) → live.last < id
    → ((i : ℕ) → i ≤ length cs → live.clause_at i ≡ numbered cs i)
    → Step live (Addition id e.0 (e.1 ∷ []) []) (with_clause live id e.0)
weak_step cs e w live id h same = (
  record { rising = h; no_repeat = w.0; no_tautology = w.1; small = w.2 },
  inl (
    refl,
    record {
      front = [];
      final = e.1;
      split = refl;
      reached = map negation e.0;
      leads = refl;
      clause = w.3;
      live = same e.1 (numbered_within cs e.1 w.3 w.4) ∙ w.4;
      conflict = false_under w.3 e.0 w.5;
    },
  ),
  refl,
)

weak_chain : (cs : List (List Literal)) (before : ℕ) (ws : WeakerList)
    → AllByRecursion (IsWeakerOf cs) ws → (live : Live) → live.last ≤ length cs + before
    → ((i : ℕ) → i ≤ length cs → live.clause_at i ≡ numbered cs i)
    → (rest : List LogLine) (left : Live)
    → Chain (weak_after live (length cs + before) ws)
    (numbered_on (length cs) (before + length ws) rest) left
    → Chain live (numbered_on (length cs) before (map weaker_line ws ++ rest)) left
unfolding weak_after
weak_chain cs before [] w live h same rest left ch =
    let e : before + 0 ≡ before = omega arith in
    subst (λ x. Chain live (numbered_on (length cs) x rest) left) e ch
weak_chain cs before (e ∷ ws) w live h same rest left ch =
    let id : ℕ = length cs + before + 1 in
    let up : length cs + before + 1 ≡ length cs + (before + 1) = omega arith in
    let shift : before + suc (length ws) ≡ before + 1 + length ws = omega arith in (
      with_clause live id e.0,
      weak_step cs e w.0 live id (omega arith) same,
      weak_chain cs (before + 1) ws w.1 (with_clause live id e.0) (omega arith)
          (λ i k. with_other live id e.0 i (λ z. absurd (omega arith)) ∙ same i k) rest left
          (subst (λ x. Chain (weak_after (with_clause live id e.0) x ws)
          (numbered_on (length cs) (before + 1 + length ws) rest) left) up
          (subst (λ x. Chain (weak_after (with_clause live id e.0) id ws)
          (numbered_on (length cs) x rest) left) shift ch)),
    )

-- the ids of names after the move, where b clauses are given, and which name has an id
module _ (fixed count b : ℕ) (low : fixed ≤ b) where
  abbrev pub moved_id : Name → ℕ
  moved_id n = id_of b (moved_name fixed count n)

  id_fixed : (i : ℕ) → i ≤ fixed → moved_id (Formula i) ≡ i
  id_fixed i h = rw (le-leb i fixed h) refl

  id_weak : (i : ℕ) → fixed < i → i ≤ fixed + count → moved_id (Formula i) ≡ b + (i - fixed)
  id_weak i h k = rw (lt-leb i fixed h, le-leb i (fixed + count) k) refl

  id_other : (i : ℕ) → fixed + count < i → moved_id (Formula i) ≡ i - count
  id_other i h =
      let t : fixed < i = omega arith in
      rw (lt-leb i fixed t, lt-leb i (fixed + count) h) refl

  back : ℕ → Name
  back i =
      if nat_le i fixed then Formula i else if nat_le i b then Formula (i + count)
      else if nat_le i (b + count) then Formula ((i - b) + fixed) else Added (i - (b + count))

  back_fixed : (i : ℕ) → i ≤ fixed → back i ≡ Formula i
  unfolding back
  back_fixed i h = rw (le-leb i fixed h) refl

  back_other : (i : ℕ) → fixed < i → i ≤ b → back i ≡ Formula (i + count)
  unfolding back
  back_other i h k = rw (lt-leb i fixed h, le-leb i b k) refl

  back_weak : (i : ℕ) → b < i → i ≤ b + count → back i ≡ Formula ((i - b) + fixed)
  unfolding back
  back_weak i h k =
      let t : fixed < i = omega arith in
      rw (lt-leb i fixed t, lt-leb i b h, le-leb i (b + count) k) refl

  back_added : (i : ℕ) → b + count < i → back i ≡ Added (i - (b + count))
  unfolding back
  back_added i h =
      let t : fixed < i = omega arith in
      let u : b < i = omega arith in
      rw (lt-leb i fixed t, lt-leb i b u, lt-leb i (b + count) h) refl

  back_of : (n : Name) → IsKnown (b + count) n → back (moved_id n) ≡ n
  back_of (Formula i) p =
      elim (cases_lt fixed i) [
        | inr h ↦ ap back (id_fixed i h) ∙ back_fixed i h
        | inl h ↦ elim (cases_lt (fixed + count) i) [
          | inr k ↦ let e : ((b + (i - fixed)) - b) + fixed ≡ i = omega arith in
              ap back (id_weak i h k) ∙ back_weak (b + (i - fixed)) (omega arith) (omega arith)
              ∙ ap Formula e
          | inl k ↦ let e : (i - count) + count ≡ i = omega arith in
              ap back (id_other i k) ∙ back_other (i - count) (omega arith) (omega arith)
              ∙ ap Formula e
        ]
      ]
  back_of (Added j) p =
      let e : (b + (count + j)) - (b + count)
      ≡ j = omega arith in back_added (b + (count + j)) (omega arith) ∙ ap Added e

  of_back : (i : ℕ) → i ≤ b + count → (n : Name) × IsKnown (b + count) n × (moved_id n ≡ i)
  of_back i h =
      elim (cases_lt fixed i) [
        | inr k ↦ (Formula i, h, id_fixed i k)
        | inl k ↦ elim (cases_lt b i) [
          | inr l ↦ let e : (i + count) - count ≡ i = omega arith in
              (Formula (i + count), omega arith, id_other (i + count) (omega arith) ∙ e)
          | inl l ↦ let e : b + (((i - b) + fixed) - fixed) ≡ i = omega arith in (
            Formula ((i - b) + fixed),
            omega arith,
            id_weak ((i - b) + fixed) (omega arith) (omega arith) ∙ e,
          )
        ]
      ]

abbrev pub is_added : Name → Type 0
is_added (Formula i) = ⊥
is_added (Added j) = Unit {0}

added_rise : (fixed count b a : ℕ) (n k : Name) → is_added n → is_added k → id_of a n < id_of a k
    → id_of b (moved_name fixed count n) < id_of b (moved_name fixed count k)
added_rise fixed count b a (Formula i) k p q h = absurd p
added_rise fixed count b a (Added i) (Formula j) p q h = absurd q
added_rise fixed count b a (Added i) (Added j) p q h = omega arith

pub renames_moved : (fixed count b a : ℕ) → fixed ≤ b → b + count ≤ a
    → Renames (b + count) a is_added (λ n. id_of b (moved_name fixed count n)) (b + count)
renames_moved fixed count b a low above = record {
  below = above;
  one = λ n k p q e. sym (back_of fixed count b low n p) ∙ ap (back fixed count b low) e
      ∙ back_of fixed count b low k q;
  rising = λ n k p q x y h. added_rise fixed count b a n k p q h;
  added = λ j. omega arith;
}

-- what is live at the start of the old log, and of the new one after the weaker lines
module _ (first others : List (List Literal)) (ws : WeakerList) where
  abbrev given_clauses : List (List Literal)
  given_clauses = first ++ clauses_of ws ++ others

  abbrev kept_clauses : List (List Literal)
  kept_clauses = first ++ others

  abbrev weakened : Live
  weakened = weak_after (start_of kept_clauses) (length kept_clauses) ws

  pub lengths : (length given_clauses ≡ length kept_clauses + length ws)
      × (length first ≤ length kept_clauses)
      × (length (first ++ clauses_of ws) ≡ length first + length ws)
      × (length kept_clauses ≡ length first + length others)
  lengths =
      let a : length given_clauses ≡ length (first ++ clauses_of ws) + length others =
      length-append (first ++ clauses_of ws) others in
      let b : length (first ++ clauses_of ws) ≡ length first + length (clauses_of ws) =
      length-append first (clauses_of ws) in
      let c : length (clauses_of ws) ≡ length ws = length-map ws (λ e. e.0) in
      let d : length kept_clauses ≡ length first + length others = length-append first others in
      (omega arith, omega arith, omega arith, omega arith)

  abbrev to_id : Name → ℕ
  to_id n = id_of (length kept_clauses) (moved_name (length first) (length ws) n)

  low_at : (i : ℕ) → i ≤ length kept_clauses → weakened.clause_at i ≡ numbered kept_clauses i
  low_at i h = weak_outside (start_of kept_clauses) (length kept_clauses) ws i (inl h)

  formula_same : (i : ℕ) → i ≤ length kept_clauses + length ws
      → numbered given_clauses i ≡ weakened.clause_at (to_id (Formula i))
  formula_same i p =
      let len = lengths in
      elim (cases_lt (length first) i) [
        | inr h ↦
            numbered_left (first ++ clauses_of ws) others i (omega arith)
            ∙ numbered_left first (clauses_of ws) i h
            ∙ sym (numbered_left first others i h) ∙ sym (low_at i (omega arith))
            ∙ ap weakened.clause_at
            (sym (id_fixed (length first) (length ws) (length kept_clauses) len.1 i h))
        | inl h ↦ elim (cases_lt (length first + length ws) i) [
          | inr k ↦
              let j : ℕ = i - (length first + 1) in
              let e : i ≡ length first + suc (i - (length first + 1)) = omega arith in
              numbered_left (first ++ clauses_of ws) others i (omega arith)
              ∙ numbered_right first (clauses_of ws) i j e
              ∙ sym (weak_inside (start_of kept_clauses) (length kept_clauses) ws
              (length kept_clauses + (i - length first)) j (omega arith) (omega arith))
              ∙ ap weakened.clause_at
              (sym (id_weak (length first) (length ws) (length kept_clauses) len.1 i h k))
          | inl k ↦
              let j : ℕ = i - (length first + length ws + 1) in
              let e : i ≡ length (first ++ clauses_of ws) + suc (i - (length first + length ws + 1))
              = omega arith in
              let z : i - length ws ≡ length first + suc (i - (length first + length ws + 1)) =
              omega arith in
              numbered_right (first ++ clauses_of ws) others i j e
              ∙ sym (numbered_right first others (i - length ws) j z)
              ∙ sym (low_at (i - length ws) (omega arith))
              ∙ ap weakened.clause_at
              (sym (id_other (length first) (length ws) (length kept_clauses) len.1 i k))
        ]
      ]

  past_at : (i : ℕ) → length kept_clauses + length ws < i → weakened.clause_at i ≡ None
  past_at i h =
      weak_outside (start_of kept_clauses) (length kept_clauses) ws i (inr h)
      ∙ numbered_past kept_clauses i (omega arith)

  module _ (a : ℕ) (above : length kept_clauses + length ws ≤ a) where
    base_given : IsBaseOf (given_of given_clauses) (length kept_clauses + length ws)
    base_given =
        let len = lengths in base_of given_clauses (length kept_clauses + length ws) (omega arith)

    names_same : (n : Name) → IsKnown (length kept_clauses + length ws) n
        → given_at (given_of given_clauses) (id_of a n) ≡ weakened.clause_at (to_id n)
    names_same (Formula i) p = given_at-given_of given_clauses i ∙ formula_same i p
    names_same (Added j) p =
        given_past (given_of given_clauses) (length kept_clauses + length ws) base_given (a + j)
        (omega arith)
        ∙ sym (past_at (length kept_clauses + (length ws + j)) (omega arith))

    start_live : SameLive (length kept_clauses + length ws) a to_id
        (given_at (given_of given_clauses)) weakened.clause_at
    start_live = record {
      same = names_same;
      named =
          λ i c e. (
            Formula i,
            given_below (given_of given_clauses) (length kept_clauses + length ws)
                base_given i c e,
            refl,
          );
      named_after = λ i c e. elim (cases_lt (length kept_clauses + length ws) i) [
        | inl h ↦ absurd (none-some c (sym (past_at i h) ∙ e))
        | inr h ↦ let len = lengths in
            of_back (length first) (length ws) (length kept_clauses) len.1 i h
      ];
    }

-- the lines after the move
leading_moved : (f c : ℕ) (hs : List Hint)
    → leading_names (map (moved_hint f c) hs) ≡ map (moved_name f c) (leading_names hs)
leading_moved f c [] = refl
leading_moved f c (Plain n ∷ hs) = ap (λ x. moved_name f c n ∷ x) (leading_moved f c hs)
leading_moved f c (Group n ∷ hs) = refl

map_twice : (f c b : ℕ) (ns : List Name)
    → map (id_of b) (map (moved_name f c) ns) ≡ map (λ n. id_of b (moved_name f c n)) ns
map_twice f c b [] = refl
map_twice f c b (n ∷ ns) = ap (λ x. id_of b (moved_name f c n) ∷ x) (map_twice f c b ns)

pub leading_ids_moved : (f c b : ℕ) (hs : List Hint)
    → map (id_of b) (leading_names (map (moved_hint f c) hs))
    ≡ map (λ n. id_of b (moved_name f c n)) (leading_names hs)
leading_ids_moved f c b hs =
    ap (map (id_of b)) (leading_moved f c hs) ∙ map_twice f c b (leading_names hs)

pub group_ids_moved : (f c b : ℕ) (hs : List Hint)
    → map (group_by (id_of b)) (group_names (map (moved_hint f c) hs))
    ≡ map (group_by (λ n. id_of b (moved_name f c n))) (group_names hs)
group_ids_moved f c b [] = refl
group_ids_moved f c b (Plain n ∷ hs) = group_ids_moved f c b hs
group_ids_moved f c b (Group n ∷ hs) =
    ap (λ x. record { candidate = id_of b (moved_name f c n); hints = x } ∷ map (group_by (id_of b))
    (group_names (map (moved_hint f c) hs))) (leading_ids_moved f c b hs)
    ∙ ap (λ x. record {
      candidate = id_of b (moved_name f c n);
      hints = map (λ n. id_of b (moved_name f c n)) (leading_names hs);
    } ∷ x)
    (group_ids_moved f c b hs)

name_moved : (f c : ℕ) (h : Hint) → name_of (moved_hint f c h) ≡ moved_name f c (name_of h)
name_moved f c (Plain n) = refl
name_moved f c (Group n) = refl

names_moved : (f c b : ℕ) (hs : List Hint)
    → map (λ h. id_of b (name_of h)) (map (moved_hint f c) hs)
    ≡ map (λ h. id_of b (moved_name f c (name_of h))) hs
names_moved f c b [] = refl
names_moved f c b (h ∷ hs) =
    ap (λ x. id_of b x ∷ map (λ k. id_of b (name_of k)) (map (moved_hint f c) hs))
    (name_moved f c h) ∙ ap (λ x. id_of b (moved_name f c (name_of h)) ∷ x) (names_moved f c b hs)

line_moved : (d : Bool) (f c b before : ℕ) (k : List Literal) (hs : List Hint)
    → line_by (id_of b) d (c + before) k (map (moved_hint f c) hs)
    ≡ line_by (λ n. id_of b (moved_name f c n)) d before k hs
line_moved true f c b before k hs = ap (Deletion (b + (c + before))) (names_moved f c b hs)
line_moved false f c b before k hs =
    let id : b + (c + before + 1) ≡ b + (c + (before + 1)) = omega arith in
    ap (λ x. Addition x k (map (id_of b) (leading_names (map (moved_hint f c) hs)))
    (map (group_by (id_of b)) (group_names (map (moved_hint f c) hs)))) id
    ∙ ap (λ x. Addition (b + (c + (before + 1))) k x
    (map (group_by (id_of b)) (group_names (map (moved_hint f c) hs))))
    (leading_ids_moved f c b hs)
    ∙ ap (λ x. Addition (b + (c + (before + 1))) k
    (map (λ n. id_of b (moved_name f c n)) (leading_names hs)) x) (group_ids_moved f c b hs)

next_moved : (d : Bool) (c before : ℕ)
    → (if d then c + before else c + before + 1) ≡ c + (if d then before else before + 1)
next_moved true c before = refl
next_moved false c before = omega arith

named_moved : (f c b before : ℕ) (ls : List LogLine)
    → named_on (id_of b) (c + before) (map (moved_line f c) ls)
    ≡ named_on (λ n. id_of b (moved_name f c n)) before ls
named_moved f c b before [] = refl
named_moved f c b before (l ∷ ls) =
    ap (λ x. x ∷ named_on (id_of b) (if is_delete l.kind then c + before else c + before + 1)
    (map (moved_line f c) ls)) (line_moved (is_delete l.kind) f c b before l.clause l.hints)
    ∙ ap (λ x. line_by (λ n. id_of b (moved_name f c n)) (is_delete l.kind) before l.clause
    l.hints ∷ x)
    (ap (λ x. named_on (id_of b) x (map (moved_line f c) ls))
    (next_moved (is_delete l.kind) c before)
    ∙ named_moved f c b (if is_delete l.kind then before else before + 1) ls)

-- the names of the log, whose groups are its own
own_group : (h : Hint) → IsOwnGroup h → GroupIs is_added h
own_group (Plain n) k = tt
own_group (Group (Formula i)) k = absurd k
own_group (Group (Added j)) k = tt

hints_known : (a : ℕ) (hs : List Hint) → AllByRecursion (λ h. IsKnown a (name_of h)) hs
    → AllByRecursion IsOwnGroup hs → AllByRecursion (HintKnown a is_added) hs
hints_known a [] p o = tt
hints_known a (h ∷ hs) p o = ((p.0, own_group h o.0), hints_known a hs p.1 o.1)

abbrev IsOwn : LogLine → Type 0
IsOwn l = All IsOwnGroup l.hints

abbrev NamesKnown : ℕ → LogLine → Type 0
NamesKnown a l = All (λ h. IsKnown a (name_of h)) l.hints

lines_known : (a : ℕ) (ls : List LogLine) → HasKnownNames a ls → All IsOwn ls
    → AllByRecursion (LineKnown a is_added) ls
lines_known a [] p o = tt
lines_known a (l ∷ ls) p o =
    let known =
    recursion_from_All (λ h. IsKnown a (name_of h)) l.hints (All-head (NamesKnown a) l ls p) in (
      hints_known a l.hints known (recursion_from_All IsOwnGroup l.hints (All-head IsOwn l ls o)),
      lines_known a ls (All-tail (NamesKnown a) l ls p) (All-tail IsOwn l ls o),
    )

-- a chain over the clauses given, at a base that none of their numbers exceeds, is one over those
-- that are kept, with the same clauses live
pub rebased_live : (ws : WeakerList) (first others : List (List Literal))
    → All (IsWeakerOf (first ++ others)) ws → (a : ℕ) → length (first ++ others) + length ws ≤ a
    → (old : List LogLine) → AllByRecursion (LineKnown a is_added) old → (left : Live)
    → Chain (start_over (given_of (first ++ clauses_of ws ++ others)) a) (numbered_lines a old) left
    → (after : Live) × Chain (start_of (first ++ others))
    (numbered_lines (length (first ++ others)) (rebased (length first) ws old)) after
    × SameLive (length (first ++ others) + length ws) a
    (λ n. id_of (length (first ++ others)) (moved_name (length first) (length ws) n))
    left.clause_at after.clause_at
rebased_live ws first others weaker a above old known left chain =
    let cs : List (List Literal) = first ++ others in
    let b : ℕ = length (first ++ others) in
    let c : ℕ = length ws in
    let g : Given = given_of (first ++ clauses_of ws ++ others) in
    let len = lengths first others ws in
    let w : Live = weak_after (start_of cs) b ws in
    let small : w.last ≤ b + c + 0 =
    (let z = weak_last (start_of cs) b ws (omega arith) in omega arith) in
    let to = λ (n : Name). id_of b (moved_name (length first) c n) in
    let x =
    chain_after (b + c) a is_added to (b + c) (renames_moved (length first) c b a len.1 above)
    0 old known
    (start_over g a) w left (start_live first others ws a above) small
    (subst (λ y. Chain (start_over g a) y left) (numbered_on-named a 0 old) chain) in
    let same : numbered_on b (0 + c) (map (moved_line (length first) c) old) ≡ named_on to 0 old =
    (let e : 0 + c ≡ c + 0 = omega arith in
    ap (λ n. numbered_on b n (map (moved_line (length first) c) old)) e
    ∙ numbered_on-named b (c + 0) (map (moved_line (length first) c) old)
    ∙ named_moved (length first) c b 0 old) in
    let zero_more : b ≡ b + 0 = omega arith in
    let after : Chain (weak_after (start_of cs) (b + 0) ws)
    (numbered_on b (0 + c) (map (moved_line (length first) c) old)) x.0 =
    subst (λ n. Chain (weak_after (start_of cs) n ws)
    (numbered_on b (0 + c) (map (moved_line (length first) c) old)) x.0) zero_more
    (subst (λ y. Chain w y x.0) (sym same) x.1) in (
      x.0,
      weak_chain cs 0 ws (recursion_from_All (IsWeakerOf cs) ws weaker) (start_of cs) (omega arith)
          (λ i h. refl) (map (moved_line (length first) c) old) x.0 after,
      x.2,
    )

-- a base that none of the numbers of the clauses given exceeds, and the names of a log over these
pub given_base : (ws : WeakerList) (first others : List (List Literal)) (a : ℕ)
    → length (first ++ others) + length ws ≤ a
    → IsBaseOf (given_of (first ++ clauses_of ws ++ others)) a
given_base ws first others a above =
    let len = lengths first others ws in base_of (first ++ clauses_of ws ++ others) a (omega arith)

pub given_known : (ws : WeakerList) (first others : List (List Literal)) (a : ℕ)
    → length (first ++ others) + length ws ≤ a → (old : List LogLine)
    → IsLogOver (given_of (first ++ clauses_of ws ++ others)) old
    → AllByRecursion (LineKnown a is_added) old
given_known ws first others a above old log =
    lines_known a old (known_names (given_of (first ++ clauses_of ws ++ others)) a
    (given_base ws first others a above) old log.steps) log.groups

rebased_chain : (ws : WeakerList) (old : List LogLine) (first others : List (List Literal))
    → All (IsWeakerOf (first ++ others)) ws
    → IsLogOver (given_of (first ++ clauses_of ws ++ others)) old
    → AreSteps (start_of (first ++ others))
    (numbered_lines (length (first ++ others)) (rebased (length first) ws old))
rebased_chain ws old first others weaker log =
    let a : ℕ = length (first ++ others) + length ws in
    let g : Given = given_of (first ++ clauses_of ws ++ others) in
    let le : length (first ++ others) + length ws ≤ a = omega arith in
    let x = rebased_live ws first others weaker a le old (given_known ws first others a le old log)
    (live_after (start_over g a) (numbered_lines a old))
    (log.steps a (given_base ws first others a le)) in
    steps_from_chain (start_of (first ++ others))
    (numbered_lines (length (first ++ others)) (rebased (length first) ws old)) x.0 x.1

-- rebasing keeps steps
pub keeps_steps : (fixed : ℕ) (ws : WeakerList) (old : List LogLine)
    → KeepsSteps fixed ws old (rebased fixed ws old)
keeps_steps fixed ws old first others e weaker log =
    subst (λ n. AreSteps (start_of (first ++ others))
    (numbered_lines (length (first ++ others)) (rebased n ws old))) e
    (rebased_chain ws old first others weaker log)

-- and acceptance, where no weaker clause is empty
stops_cons : (l : LogLine) (ls : List LogLine) → adds_empty_clause l ≡ false → StopsAtEmptyClause ls
    → StopsAtEmptyClause (l ∷ ls)
stops_cons l [] e h = tt
stops_cons l (k ∷ ls) e h = (e, h)

stops_moved : (f c : ℕ) (ls : List LogLine) → StopsAtEmptyClause ls
    → StopsAtEmptyClause (map (moved_line f c) ls)
stops_moved f c [] h = tt
stops_moved f c (l ∷ []) h = tt
stops_moved f c (l ∷ k ∷ ls) h = (h.0, stops_moved f c (k ∷ ls) h.1)

any_moved : (f c : ℕ) (ls : List LogLine)
    → list_any adds_empty_clause (map (moved_line f c) ls) ≡ list_any adds_empty_clause ls
any_moved f c [] = refl
any_moved f c (l ∷ ls) = ap (λ x. adds_empty_clause l || x) (any_moved f c ls)

stops_weaker : (ws : WeakerList) (rest : List LogLine) → AllByRecursion IsSomeClause ws
    → StopsAtEmptyClause rest → StopsAtEmptyClause (map weaker_line ws ++ rest)
stops_weaker [] rest h k = k
stops_weaker (e ∷ ws) rest h k =
    stops_cons (weaker_line e) (map weaker_line ws ++ rest) h.0 (stops_weaker ws rest h.1 k)

any_weaker : (ws : WeakerList) (rest : List LogLine) → list_any adds_empty_clause rest ≡ true
    → list_any adds_empty_clause (map weaker_line ws ++ rest) ≡ true
any_weaker [] rest h = h
any_weaker (e ∷ ws) rest h =
    or_right (adds_empty_clause (weaker_line e))
    (list_any adds_empty_clause (map weaker_line ws ++ rest)) (any_weaker ws rest h)

-- a log over the clauses of a formula, from the start of a certificate
pub start_over-given_of : (cs : List (List Literal))
    → start_over (given_of cs) (length cs) ≡ start_of cs
start_over-given_of cs = λ i. record { clause_at = λ k. given_at-given_of cs k i; last = length cs }

pub steps_of_log : (cs : List (List Literal)) (ls : List LogLine) → IsLogOver (given_of cs) ls
    → AreSteps (start_of cs) (numbered_lines (length cs) ls)
steps_of_log cs ls log =
    subst (λ x. AreSteps x (numbered_lines (length cs) ls)) (start_over-given_of cs)
    (log.steps (length cs) (base_of cs (length cs) (omega arith)))

pub accepts_of_log : (cs : List (List Literal)) (ls : List LogLine) → IsAcceptedLog (given_of cs) ls
    → Accepts cs (numbered_lines (length cs) ls)
accepts_of_log cs ls log =
    subst (λ x. AcceptsFrom x (numbered_lines (length cs) ls)) (start_over-given_of cs)
    (log (length cs) (base_of cs (length cs) (omega arith)))

-- the lines of the result are lines
abbrev HasSmallId : ℕ → Hint → Type 0
HasSmallId c h = id_of c (name_of h) < 2 ^ 62

moved_number : (f c : ℕ) (n : Name) → IsId (number_in n) → id_of c n < 2 ^ 62
    → IsId (number_in (moved_name f c n))
moved_number f c (Added j) h small = (omega (arith, h.0), small)
moved_number f c (Formula i) h small =
    elim (cases_lt f i) [
      | inr k ↦ subst (λ n. IsId (number_in n))
          (sym (cond-true (nat_le i f) (Formula i) _ (le-leb i f k))) h
      | inl k ↦ elim (cases_lt (f + c) i) [
        | inr l ↦ rw (lt-leb i f k, le-leb i (f + c) l) (omega arith, omega (arith, h.1))
        | inl l ↦ rw (lt-leb i f k, lt-leb i (f + c) l) (omega arith, omega (arith, h.1))
      ]
    ]

moved_numbers : (f c : ℕ) (hs : List Hint) → AllByRecursion HasNumber hs
    → AllByRecursion (HasSmallId c) hs → AllByRecursion HasNumber (map (moved_hint f c) hs)
moved_numbers f c [] h s = tt
moved_numbers f c (Plain n ∷ hs) h s = (moved_number f c n h.0 s.0, moved_numbers f c hs h.1 s.1)
moved_numbers f c (Group n ∷ hs) h s = (moved_number f c n h.0 s.0, moved_numbers f c hs h.1 s.1)

hints_plain : (f c : ℕ) (hs : List Hint) → AllByRecursion IsPlain hs
    → AllByRecursion IsPlain (map (moved_hint f c) hs)
hints_plain f c [] h = tt
hints_plain f c (Plain n ∷ hs) h = (tt, hints_plain f c hs h.1)
hints_plain f c (Group n ∷ hs) h = absurd h.0

pub moved_line-is : (f c : ℕ) (l : LogLine) → IsLine l → All (HasSmallId c) l.hints
    → IsLine (moved_line f c l)
moved_line-is f c l h s = record {
  literals = h.literals;
  names =
      All-from_recursion HasNumber _
      (moved_numbers f c l.hints (recursion_from_All HasNumber l.hints h.names)
      (recursion_from_All (HasSmallId c) l.hints s));
  deletes =
      λ d. (
        (h.deletes d).0,
        All-from_recursion IsPlain _
            (hints_plain f c l.hints (recursion_from_All IsPlain l.hints (h.deletes d).1)),
      );
}

-- the result is a log over the clauses that are left
known_moved : (f c b : ℕ) (n : Name) → f ≤ b → IsKnown (b + c) n → IsKnown b (moved_name f c n)
known_moved f c b (Added j) low h = omega arith
known_moved f c b (Formula i) low h =
    elim (cases_lt f i) [
      | inr k ↦ subst (IsKnown b) (sym (cond-true (nat_le i f) (Formula i) _ (le-leb i f k)))
          (omega arith)
      | inl k ↦ elim (cases_lt (f + c) i) [
        | inr l ↦ rw (lt-leb i f k, le-leb i (f + c) l) (omega arith)
        | inl l ↦ rw (lt-leb i f k, lt-leb i (f + c) l) (omega arith)
      ]
    ]

abbrev HintFits : ℕ → Hint → Type 0
HintFits b h = IsKnown b (name_of h) × IsOwnGroup h

hint_fits : (f c b : ℕ) (h : Hint) → f ≤ b → IsKnown (b + c) (name_of h) → IsOwnGroup h
    → HintFits b (moved_hint f c h)
hint_fits f c b (Plain n) low k o = (known_moved f c b n low k, tt)
hint_fits f c b (Group (Added j)) low k o = (omega arith, tt)
hint_fits f c b (Group (Formula i)) low k o = absurd o

hints_fit : (f c b : ℕ) (hs : List Hint) → f ≤ b
    → AllByRecursion (λ h. IsKnown (b + c) (name_of h)) hs → AllByRecursion IsOwnGroup hs
    → AllByRecursion (HintFits b) (map (moved_hint f c) hs)
hints_fit f c b [] low k o = tt
hints_fit f c b (h ∷ hs) low k o = (hint_fits f c b h low k.0 o.0, hints_fit f c b hs low k.1 o.1)

abbrev LineFits : ℕ → LogLine → Type 0
LineFits b l = AllByRecursion (HintFits b) l.hints

lines_fit : (f c b : ℕ) (ls : List LogLine) → f ≤ b → HasKnownNames (b + c) ls → All IsOwn ls
    → AllByRecursion (LineFits b) (map (moved_line f c) ls)
lines_fit f c b [] low k o = tt
lines_fit f c b (l ∷ ls) low k o =
    let known =
    recursion_from_All (λ h. IsKnown (b + c) (name_of h)) l.hints
    (All-head (NamesKnown (b + c)) l ls k) in (
      hints_fit f c b l.hints low known
          (recursion_from_All IsOwnGroup l.hints (All-head IsOwn l ls o)),
      lines_fit f c b ls low (All-tail (NamesKnown (b + c)) l ls k) (All-tail IsOwn l ls o),
    )

weaker_fit : (cs : List (List Literal)) (ws : WeakerList) (rest : List LogLine)
    → AllByRecursion (IsWeakerOf cs) ws → AllByRecursion (LineFits (length cs)) rest
    → AllByRecursion (LineFits (length cs)) (map weaker_line ws ++ rest)
weaker_fit cs [] rest w k = k
weaker_fit cs (e ∷ ws) rest w k =
    (((numbered_within cs e.1 w.0.3 w.0.4, tt), tt), weaker_fit cs ws rest w.1 k)

fits_known : (b : ℕ) (hs : List Hint) → AllByRecursion (HintFits b) hs
    → AllByRecursion (λ h. IsKnown b (name_of h)) hs
fits_known b [] k = tt
fits_known b (h ∷ hs) k = (k.0.0, fits_known b hs k.1)

fits_own : (b : ℕ) (hs : List Hint) → AllByRecursion (HintFits b) hs → AllByRecursion IsOwnGroup hs
fits_own b [] k = tt
fits_own b (h ∷ hs) k = (k.0.1, fits_own b hs k.1)

all_known : (b : ℕ) (ls : List LogLine) → AllByRecursion (LineFits b) ls → HasKnownNames b ls
all_known b [] k = All-nil (NamesKnown b)
all_known b (l ∷ ls) k =
    All-cons (NamesKnown b) l ls (All-from_recursion (λ h. IsKnown b (name_of h)) l.hints
    (fits_known b l.hints k.0)) (all_known b ls k.1)

all_own : (b : ℕ) (ls : List LogLine) → AllByRecursion (LineFits b) ls → All IsOwn ls
all_own b [] k = All-nil IsOwn
all_own b (l ∷ ls) k =
    All-cons IsOwn l ls (All-from_recursion IsOwnGroup l.hints (fits_own b l.hints k.0))
    (all_own b ls k.1)

pub keeps_log : (fixed : ℕ) (ws : WeakerList) (old : List LogLine)
    (first others : List (List Literal))
    → length first ≡ fixed
    → All (IsWeakerOf (first ++ others)) ws
    → IsLogOver (given_of (first ++ map (λ e. e.0) ws ++ others)) old
    → All IsSomeClause ws → IsLogOver (given_of (first ++ others)) (rebased fixed ws old)
keeps_log fixed ws old first others e weaker log nonempty =
    let cs : List (List Literal) = first ++ others in
    let b : ℕ = length (first ++ others) in
    let g : Given = given_of (first ++ clauses_of ws ++ others) in
    let len = lengths first others ws in
    let base : IsBaseOf g (b + length ws) =
    base_of (first ++ clauses_of ws ++ others) (b + length ws) (omega arith) in
    let moved : List LogLine = map (moved_line fixed (length ws)) old in
    let fits : AllByRecursion (LineFits b) (rebased fixed ws old) =
    weaker_fit cs ws moved (recursion_from_All (IsWeakerOf cs) ws weaker)
    (lines_fit fixed (length ws) b old (omega arith)
    (known_names g (b + length ws) base old log.steps) log.groups) in
    let steps : AreSteps (start_over (given_of cs) b) (numbered_lines b (rebased fixed ws old)) =
    subst (λ (x : Live). AreSteps x (numbered_lines b (rebased fixed ws old)))
    (sym (start_over-given_of cs)) (keeps_steps fixed ws old first others e weaker log) in
    record {
      steps = log_steps_from (given_of cs) b (base_of cs b (omega arith)) (rebased fixed ws old)
          (all_known b (rebased fixed ws old) fits) steps;
      stops =
          stops_weaker ws moved (recursion_from_All IsSomeClause ws nonempty)
          (stops_moved fixed (length ws) old log.stops);
      groups = all_own b (rebased fixed ws old) fits;
    }

pub keeps_accepted : (fixed : ℕ) (ws : WeakerList) (old : List LogLine)
    (first others : List (List Literal))
    → length first ≡ fixed
    → All (IsWeakerOf (first ++ others)) ws → All IsSomeClause ws
    → IsLogOver (given_of (first ++ map (λ e. e.0) ws ++ others)) old
    → IsAcceptedLog (given_of (first ++ map (λ e. e.0) ws ++ others)) old
    → IsAcceptedLog (given_of (first ++ others)) (rebased fixed ws old)
keeps_accepted fixed ws old first others e weaker nonempty log accepted =
    let cs : List (List Literal) = first ++ map (λ e. e.0) ws ++ others in
    let some : list_any adds_empty_clause old ≡ true =
    refuted_log (given_of cs) (length cs) (base_of cs (length cs) (omega arith)) old accepted in
    accepted_log (given_of (first ++ others)) (rebased fixed ws old)
    (keeps_log fixed ws old first others e weaker log nonempty)
    (any_weaker ws (map (moved_line fixed (length ws)) old) (any_moved fixed (length ws) old
    ∙ some))
