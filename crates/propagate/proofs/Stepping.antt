-- A row that is filtered, one entry after another.
use Rattle.std.proofs.Common.{◌≡◌, ◌≢◌, ℕ, zero, suc, ◌+◌, ◌<◌, ◌≤◌, true, false, cond, List, []}
use Rattle.std.proofs.Common.{◌∷◌, ◌++◌, take, drop, length, get_or, set, Some, ◌⊎◌, inl, inr, refl}
use Rattle.std.proofs.Common.{sym, ◌∙◌, ap, subst, arith}
use Rattle.std.specs.Prelude.{slice_get, ◌==◌}
use Rattle.std.specs.List.{AllByRecursion}
use Rattle.std.proofs.lemmas.Bool.{cases_eq, both_ways, or_left}
use Rattle.std.proofs.lemmas.List.{get_or-set_same, get_or-set_other, length-set, drop_more}
use Rattle.std.proofs.lemmas.List.{take_more_set, drop-set-lt, length_push, set-get_or}
use Rattle.std.proofs.lemmas.List.Sums.{sum_by-append}
use Rattle.cnf.specs.Literal.{Literal, negation, index_of, literal_eq}
use Rattle.cnf.specs.Clause.{contains_literal}
use Rattle.cnf.specs.Refute.{IsUnit}
use Rattle.cnf.proofs.Laws.{index_same, all_weaker, all_left, all_right, all_append, contains_front}
use Rattle.cnf.proofs.Laws.{literal_eq-refl, contains_back}
use Rattle.clauses.specs.Slots.{Slots, clause_at}
use Rattle.propagate_watches.specs.declared.pool.WatchEntry.{WatchEntry}
use Rattle.propagate_watches.specs.declared.table.Attachment.{Attachment}
use Rattle.propagate_watches.specs.declared.table.Attachment.TheVariants.{Detached, Waiting}
use Rattle.propagate_watches.specs.declared.table.Attachment.TheVariants.{Satisfied, Watching}
use Rattle.propagate_watches.specs.declared.table.Rest.{Rest}
use Rattle.propagate_watches.specs.declared.table.Rest.TheVariants.{Nothing, One, Many}
use Rattle.propagate_watches.specs.Pool.{row_at, with_row, closed_row}
use Rattle.propagate_watches.specs.Table.{is_kept, attachment_in, rest_in, IsWatching, rest_after}
use Rattle.propagate_watches.specs.Table.{IsWatchedBy}
use Rattle.propagate_watches.proofs.Laws.{attachment_set_other, attachment_set_same}
use Rattle.propagate_trail.specs.Trail.{Assigned, literals_of, kept_to, value_in}
use Rattle.propagate.specs.Watches.{EngineState, IsEngine, IsVariable, is_attached, watches_at}
use Rattle.propagate.specs.Watches.{one_at, count_in}
use Rattle.propagate.specs.Fits.{Fits, FitsAttachment, IsRest, IsWatch, HasBlocker}
use Rattle.propagate.specs.Steps.{with_rows, with_trail, closed, entry_of, moved, InRow, IsWatched}
use Rattle.propagate.specs.Steps.{IsTrueIn, IsTrueEntry, MayBeWatched}
use Rattle.propagate_trail.proofs.Laws.{index-within, made, contains_take}
use Rattle.propagate_trail.proofs.Laws.{kept_prefix, literals-append}
use Rattle.propagate.proofs.Fitting.{fits_grow, more_literals, true_more}
use Rattle.propagate.proofs.Attachments.{with_watches, attachment_same, fits_attachment}
use Rattle.propagate.proofs.Attachments.{blockers_kept, count-cons, one-same, one-other}
use Rattle.propagate.proofs.Attaching.{kept_within}
use Rattle.propagate.proofs.Looking.{not_false_value, true_value, within_variable}

pub count-append : (q : ℕ) (A B : List WatchEntry) → count_in q
    (A ++ B) ≡ count_in q A + count_in q B
count-append q A B = sum_by-append (λ (x : WatchEntry). cond (x.reference == q) 1 0) A B

pub closed_split : (row : List WatchEntry) (write read : ℕ) (x : WatchEntry) → read < length row
    → x ≡ get_or row read x → closed_row write read row ≡ take write row ++ x ∷ drop (read + 1) row
closed_split row write read x lt e =
    ap (λ r. take write row ++ r) (drop_more row read x lt
    ∙ ap (λ y. y ∷ drop (read + 1) row) (sym e))

rest_swapped : (c : List Literal) (one other : Literal) (rest : Rest) → IsRest c one other rest
    → IsRest c other one rest
rest_swapped c one other Nothing h = λ l m. elim (h l m) [ inl e ↦ inr e | inr e ↦ inl e ]
rest_swapped c one other (One third) h = (
  h.0,
  h.2,
  h.1,
  λ l m. elim (h.3 l m) [
    | inl e ↦ inr (inl e)
    | inr k ↦
        elim k [ inl e ↦ inl e | inr e ↦ inr (inr e) ]
  ],
)
rest_swapped c one other Many h = tt

watch_from_count : (p : Attachment) (i : ℕ) → 0 < watches_at p i
    → (one : Literal) × (other : Literal) × IsWatching p one other
    × ((index_of one ≡ i) ⊎ (index_of other ≡ i))
watch_from_count Detached i h = absurd (omega arith)
watch_from_count Waiting i h = absurd (omega arith)
watch_from_count Satisfied i h = absurd (omega arith)
watch_from_count (Watching one other rest) i h = (
  one,
  other,
  refl,
  elim (cases_eq (index_of one) i) [
    | inl e ↦ inl e
    | inr ne ↦ elim (cases_eq (index_of other) i) [
      | inl e ↦ inr e
      | inr ne' ↦ absurd (let a = one-other (index_of one) i ne in
          let b = one-other (index_of other) i ne' in omega arith)
    ]
  ],
)

-- the row of w among the closed ones
pub row_closed : (e : EngineState) (i write read : ℕ) → i < length e.watches.rows
    → row_at (closed e i write read).watches.rows i ≡ closed_row write read
    (row_at e.watches.rows i)
row_closed e i write read lt =
    get_or-set_same e.watches.rows i (closed_row write read (row_at e.watches.rows i)) [] lt

pub row_closed_other : (e : EngineState) (i write read k : ℕ) → k ≢ i
    → row_at (closed e i write read).watches.rows k ≡ row_at e.watches.rows k
row_closed_other e i write read k ne =
    get_or-set_other e.watches.rows i k (closed_row write read (row_at e.watches.rows i)) [] ne

pub row_in : (e : EngineState) (w : Literal) → IsEngine e → IsVariable e.variables w
    → index_of w < length e.watches.rows
row_in e w inv h = omega (arith, inv.rows, index-within e.variables w h)

-- a clause that watches w, by either watch, watches another literal beside it
watched_by : (e : EngineState) (c : List Literal) (p : Attachment) (w one other : Literal)
    → IsWatching p one other
    → FitsAttachment e c (Watching one other (rest_in p)) → (one ≡ w) ⊎ (other ≡ w)
    → (o : Literal) × IsWatchedBy p w o × (w ≢ o) × (contains_literal o c ≡ true)
    × IsRest c w o (rest_in p)
watched_by e c p w one other is fp (inl s) = (
  other,
  inl (is ∙ ap (λ y. Watching y other (rest_in p)) s),
  λ g. fp.0 (s ∙ g),
  fp.2.member,
  subst (λ y. IsRest c y other (rest_in p)) s fp.3,
)
watched_by e c p w one other is fp (inr s) = (
  one,
  inr (is ∙ ap (λ y. Watching one y (rest_in p)) s),
  λ g. fp.0 (sym g ∙ sym s),
  fp.1.member,
  subst (λ y. IsRest c y one (rest_in p)) s (rest_swapped c one other (rest_in p) fp.3),
)

pub watched_from : (slots : Slots) (e : EngineState) (w : Literal) (write read : ℕ) (x : WatchEntry)
    → IsEngine e → InRow slots e w write read
    → read < length (row_at e.watches.rows (index_of w))
    → x ≡ get_or (row_at e.watches.rows (index_of w)) read x → IsWatched slots e w x
watched_from slots e w write read x inv st lt at =
    let i = index_of w in
    let row = row_at e.watches.rows i in
    let r = x.reference in
    let ce = closed e i write read in
    let A = take write row in
    let B = drop (read + 1) row in
    let split : row_at ce.watches.rows i ≡ A ++ x ∷ B =
    row_closed e i write read (row_in e w inv st.in_range)
    ∙ closed_split row write read x lt at in
    let b =
    (all_right (HasBlocker ce slots) A (x ∷ B) (subst (AllByRecursion (HasBlocker ce slots)) split
    (st.fits.blockers i))).0 in
    let n : 0 < watches_at (attachment_in e.watches.table r) i =
    let c1 : count_in r (A ++ x ∷ B) ≡ watches_at (attachment_in e.watches.table r) i =
    sym (ap (count_in r) split) ∙ st.fits.rows i r in
    let one = one-same r r refl in
    let a = count-append r A (x ∷ B) in
    let c = count-cons r x B in
    omega arith in
    let p = watch_from_count (attachment_in e.watches.table r) i n in
    let named = inv.watching r p.0 p.1 p.2 in
    let f = st.fits.attached r b.1 in
    let fp = subst (λ y. FitsAttachment ce f.0 y) p.2 f.2.1 in
    let by = watched_by ce f.0 (attachment_in e.watches.table r) w p.0 p.1 p.2 fp
    (elim p.3 [
      | inl first ↦ inl (index_same p.0 w named.0.0 st.in_range.0 first)
      | inr second ↦
          inr (index_same p.1 w named.1.0 st.in_range.0 second)
    ]) in
    record {
      clause = f.0;
      live = f.1;
      within = f.2.0;
      blocker = let same : b.0 ≡ f.0 = cc (b.2, f.1) in
          subst (λ c. contains_literal x.blocker c ≡ true) same b.3;
      other = by.0;
      attachment = by.1;
      apart = by.2;
      member = by.3;
      rest = by.4;
      falsified = st.falsified;
    }

-- rows that have the same clauses
pub fits_rows : (e : EngineState) (slots : Slots) (R : List (List WatchEntry)) → Fits e slots
    → ((i q : ℕ) → count_in q (row_at R i) ≡ count_in q (row_at e.watches.rows i))
    → ((i : ℕ) → AllByRecursion (HasBlocker e slots) (row_at R i))
    → Fits (with_rows e R) slots
fits_rows e slots R fits counts blockers = record {
  attached = λ r h. let f = fits.attached r h in (
    f.0,
    f.1,
    (
      f.2.0,
      attachment_same e e.watches.table R e.watches.waiting f.0
          (attachment_in e.watches.table r) f.2.1,
    ),
  );
  reasons = fits.reasons;
  reasons_attached = fits.reasons_attached;
  small = fits.small;
  rows = λ i q. counts i q ∙ fits.rows i q;
  waiting = fits.waiting;
  blockers = blockers;
}

-- the entry stays, with a literal that is true
pub keep_row : (slots : Slots) (e : EngineState) (w : Literal) (write read : ℕ) (x : WatchEntry)
    (b : Literal) → IsEngine e → InRow slots e w write read
    → read < length (row_at e.watches.rows (index_of w))
    → x ≡ get_or (row_at e.watches.rows (index_of w)) read x
    → IsTrueIn slots e x.reference b
    → InRow slots (with_rows e
    (with_row e.watches.rows (index_of w)
    (set (row_at e.watches.rows (index_of w)) write (entry_of x.reference b)))) w
    (write + 1) (read + 1)
keep_row slots e w write read x b inv st lt at is_true =
    let i = index_of w in
    let R = e.watches.rows in
    let row = row_at R i in
    let y = entry_of x.reference b in
    let row' = set row write y in
    let R' = with_row R i row' in
    let e' = with_rows e R' in
    let ce = closed e i write read in
    let ce' = closed e' i (write + 1) (read + 1) in
    let A = take write row in
    let B = drop (read + 1) row in
    let li = row_in e w inv st.in_range in
    let here : row_at R' i ≡ row' = get_or-set_same R i row' [] li in
    let lr' : length row' ≡ length row = length-set row write y in
    let wr : write < length row = let o = st.order in omega arith in
    let front : take (write + 1) row' ≡ A ++ y ∷ [] = take_more_set row write y wr in
    let back : drop (read + 1) row' ≡ B = let o = st.order in
    drop-set-lt (read + 1) row write y (omega arith) in
    let split : row_at ce.watches.rows i ≡ A ++ x ∷ B = row_closed e i write read li
    ∙ closed_split row write read x lt at in
    let split' : row_at ce'.watches.rows i ≡ (A ++ y ∷ []) ++ B =
    row_closed e' i (write + 1) (read + 1) (omega (arith, length-set R i row'))
    ∙ ap (closed_row (write + 1) (read + 1)) here ∙ ap (λ z. z ++ drop (read + 1) row') front
    ∙ ap (λ z. (A ++ y ∷ []) ++ z) back in
    let elsewhere : (k : ℕ) → k ≢ i → row_at ce'.watches.rows k ≡ row_at ce.watches.rows k = λ k ne.
    row_closed_other e' i (write + 1) (read + 1) k ne ∙ get_or-set_other R i k row' [] ne
    ∙ sym (row_closed_other e i write read k ne) in
    let old = subst (AllByRecursion (HasBlocker ce slots)) split (st.fits.blockers i) in
    let hx = (all_right (HasBlocker ce slots) A (x ∷ B) old).0 in
    let hy : HasBlocker ce slots y = (hx.0, hx.1, hx.2, (is_true hx.0 hx.2).0) in
    record {
      fits = fits_rows ce slots ce'.watches.rows st.fits
          (λ k q. elim (cases_eq k i) [
            | inl same ↦ ap (λ z. count_in q (row_at ce'.watches.rows z)) same
                ∙ ap (count_in q) split'
                ∙ (let a1 = count-append q (A ++ y ∷ []) B in let a2 = count-append q A (y ∷ []) in
                let a3 = count-cons q y [] in let a4 = count-append q A (x ∷ B) in
                let a5 = count-cons q x B in
                let g : count_in q ((A ++ y ∷ []) ++ B) ≡ count_in q (A ++ x ∷ B) =
                omega arith in g)
                ∙ sym (ap (λ z. count_in q (row_at ce.watches.rows z)) same ∙ ap (count_in q) split)
            | inr ne ↦ ap (count_in q) (elsewhere k ne)
          ])
          (λ k. elim (cases_eq k i) [
            | inl same ↦ subst (λ z. AllByRecursion (HasBlocker ce slots)
                (row_at ce'.watches.rows z)) (sym same)
                (subst (AllByRecursion (HasBlocker ce slots)) (sym split')
                (all_append (HasBlocker ce slots) (A ++ y ∷ []) B
                (all_append (HasBlocker ce slots) A (y ∷ [])
                (all_left (HasBlocker ce slots) A (x ∷ B) old) (hy, tt))
                (all_right (HasBlocker ce slots) A (x ∷ B) old).1))
            | inr ne ↦ subst (AllByRecursion (HasBlocker ce slots)) (sym (elsewhere k ne))
                (st.fits.blockers k)
          ]);
      waiting = st.waiting;
      falsified = st.falsified;
      in_range = st.in_range;
      kept =
          subst (AllByRecursion (IsTrueEntry slots (literals_of e.trail)))
          (sym (ap (take (write + 1)) here ∙ front))
          (all_append (IsTrueEntry slots (literals_of e.trail)) A (y ∷ []) st.kept
          ((λ c live. (b, (is_true c live).0, (is_true c live).1)), tt));
      order = let o = st.order in omega arith;
      within = subst (λ z. read + 1 ≤ length z) (sym here) (omega arith);
    }

-- a blocker may be asked for
pub blocker_within : (slots : Slots) (e : EngineState) (w : Literal) (x : WatchEntry)
    → IsWatched slots e w x → x.blocker.variable ≤ e.variables
blocker_within slots e w x W =
    (within_variable e.variables W.clause x.blocker W.within W.blocker).1

-- a true blocker makes its clause true
pub true_blocker : (slots : Slots) (e : EngineState) (w : Literal) (x : WatchEntry)
    → IsWatched slots e w x → value_in e.trail x.blocker ≡ Some true
    → IsTrueIn slots e x.reference x.blocker
true_blocker slots e w x W is_true = λ d live.
    let same : W.clause ≡ d = cc (W.live, live) in (
      subst (λ y. contains_literal x.blocker y ≡ true) same W.blocker,
      true_value e.trail x.blocker is_true,
    )

-- an entry whose blocker is true stays where it is
pub stay_row : (slots : Slots) (e : EngineState) (w : Literal) (k : ℕ) (x : WatchEntry) → IsEngine e
    → InRow slots e w k k → k < length (row_at e.watches.rows (index_of w))
    → x ≡ get_or (row_at e.watches.rows (index_of w)) k x
    → IsTrueIn slots e x.reference x.blocker → InRow slots e w (k + 1) (k + 1)
stay_row slots e w k x inv st lt at is_true =
    let i = index_of w in
    let R = e.watches.rows in
    let same : with_row R i (set (row_at R i) k x) ≡ R =
    ap (with_row R i) (ap (set (row_at R i) k) at ∙ set-get_or (row_at R i) k x)
    ∙ set-get_or R i [] in
    subst (λ z. InRow slots (with_rows e z) w (k + 1) (k + 1)) same
    (keep_row slots e w k k x x.blocker inv st lt at is_true)

-- the trail grows by a unit
pub imply_row : (slots : Slots) (e : EngineState) (w : Literal) (write read : ℕ) (l : Literal)
    (r : ℕ) (c : List Literal) → IsEngine e → InRow slots e w write read
    → clause_at slots r ≡ Some c → is_attached e r ≡ true → IsUnit c (literals_of e.trail) l
    → IsVariable e.variables l
    → InRow slots (with_trail e (e.trail ++ made l (Some r) ∷ [])) w write read
imply_row slots e w write read l r c inv st live attached unit named =
    let a = made l (Some r) in
    let T' = e.trail ++ a ∷ [] in
    let more = more_literals e.trail a in
    record {
      fits = fits_grow (closed e (index_of w) write read) slots a inv.stable_qhead inv.qhead (
        c,
        live,
        unit,
      ) attached named st.fits;
      waiting =
          λ q d p h. true_more d (literals_of e.trail) (literals_of T') more (st.waiting q d p h);
      falsified = more (negation w) st.falsified;
      in_range = st.in_range;
      kept =
          all_weaker (IsTrueEntry slots (literals_of e.trail)) (IsTrueEntry slots (literals_of T'))
          (take write (row_at e.watches.rows (index_of w)))
          (λ x h d g. true_more d (literals_of e.trail) (literals_of T') more (h d g)) st.kept;
      order = st.order;
      within = st.within;
    }

-- a literal that is not false may be watched
pub open_watch : (e : EngineState) (c : List Literal) (l : Literal) → contains_literal l c ≡ true
    → contains_literal (negation l) (literals_of e.trail) ≡ false → IsWatch e c l
open_watch e c l member new = record {
  member = member;
  covered =
      λ m. absurd (both_ways _ new
      (contains_take (negation l) e.watches.qhead (literals_of e.trail) m));
  stays = λ to m.
      let p = kept_prefix to e.trail in
      let K = kept_to to e.trail in
      let k =
      contains_front (negation l) (literals_of K) (literals_of p.0)
      (contains_take (negation l) e.watches.stable_qhead (literals_of K) m) in
      absurd (both_ways _ new (subst (λ X. contains_literal (negation l) X ≡ true)
      (sym (ap literals_of p.1 ∙ literals-append K p.0)) k));
}

by_swapped : (p : Attachment) (w other : Literal) → IsWatchedBy p w other → IsWatchedBy p other w
by_swapped p w other by = elim by [ inl h ↦ inr h | inr h ↦ inl h ]

apart_by : (e : EngineState) (c : List Literal) (p : Attachment) (w other : Literal)
    → IsWatchedBy p w other → FitsAttachment e c p → w ≢ other
apart_by e c p w other by f = elim by [
  | inl h ↦ (subst (λ x. FitsAttachment e c x) h f).0
  | inr h ↦ λ g. (subst (λ x. FitsAttachment e c x) h f).0 (sym g)
]

rest_by : (e : EngineState) (c : List Literal) (p : Attachment) (w other : Literal)
    → IsWatchedBy p w other → FitsAttachment e c p → IsRest c w other (rest_in p)
rest_by e c p w other by f = elim by [
  | inl h ↦ (subst (λ x. FitsAttachment e c x) h f).3
  | inr h ↦ rest_swapped c other w (rest_in p) (subst (λ x. FitsAttachment e c x) h f).3
]

-- `l` is watched in the place of `w`
rest_moved : (c : List Literal) (w other l : Literal) (rest : Rest) → contains_literal w c ≡ true
    → contains_literal l c ≡ true → w ≢ other → l ≢ w → l ≢ other
    → IsRest c w other rest → IsRest c l other (rest_after w rest)
rest_moved c w other l Nothing mw ml apart a b h =
    elim (h l ml) [ inl e ↦ absurd (a e) | inr e ↦ absurd (b e) ]
rest_moved c w other l (One third) mw ml apart a b h =
    let is : l ≡ third =
    elim (h.3 l ml) [
      | inl e ↦ absurd (a e)
      | inr k ↦ elim k [ inl e ↦ absurd (b e) | inr e ↦ e ]
    ] in (
      mw,
      λ e. a (sym e),
      apart,
      λ k m. elim (h.3 k m) [
        | inl e ↦ inr (inr e)
        | inr z ↦
            elim z [ inl e ↦ inr (inl e) | inr e ↦ inl (e ∙ sym is) ]
      ],
    )
rest_moved c w other l Many mw ml apart a b h = tt

watch_of : (e : EngineState) (c : List Literal) (p : Attachment) (w other : Literal)
    → IsWatchedBy p w other → FitsAttachment e c p → IsWatch e c other
watch_of e c p w other by f = elim by [
  | inl h ↦ (subst (λ x. FitsAttachment e c x) h f).2
  | inr h ↦ (subst (λ x. FitsAttachment e c x) h f).1
]

watches_by : (p : Attachment) (w other : Literal) (k : ℕ) → IsWatchedBy p w other
    → watches_at p k ≡ one_at (index_of w) k + one_at (index_of other) k
watches_by p w other k by = elim by [
  | inl h ↦ ap (λ x. watches_at x k) h
  | inr h ↦ ap (λ x. watches_at x k) h ∙ omega arith
]

pub kept_by : (p : Attachment) (w other : Literal) → IsWatchedBy p w other → is_kept p ≡ true
kept_by p w other by = elim by [ inl h ↦ ap is_kept h | inr h ↦ ap is_kept h ]

-- each row has the clauses that the table says, still
moved_counts : (slots : Slots) (e : EngineState) (w : Literal) (write read : ℕ) (x : WatchEntry)
    (other l : Literal) → index_of l ≢ index_of w
    → InRow slots e w write read → IsWatchedBy (attachment_in e.watches.table x.reference) w other
    → ((q : ℕ) → count_in q
    (row_at (closed (moved e w x.reference other l) (index_of w) write (read + 1)).watches.rows
    (index_of w)) + one_at x.reference q ≡ count_in q
    (row_at (closed e (index_of w) write read).watches.rows (index_of w)))
    → ((q : ℕ) → count_in q
    (row_at (closed (moved e w x.reference other l) (index_of w) write (read + 1)).watches.rows
    (index_of l)) ≡ count_in q (row_at (closed e (index_of w) write read).watches.rows
    (index_of l)) + one_at x.reference q)
    → ((k q : ℕ) → k ≢ index_of w → k ≢ index_of l
    → count_in q (row_at (closed (moved e w x.reference other l) (index_of w) write
    (read + 1)).watches.rows k) ≡ count_in q
    (row_at (closed e (index_of w) write read).watches.rows k))
    → attachment_in (set e.watches.table x.reference
    (Watching l other (rest_after w (rest_in (attachment_in e.watches.table x.reference)))))
    x.reference ≡ Watching l other
    (rest_after w (rest_in (attachment_in e.watches.table x.reference)))
    → ((q : ℕ) → q ≢ x.reference
    → attachment_in (set e.watches.table x.reference
    (Watching l other (rest_after w (rest_in (attachment_in e.watches.table x.reference))))) q
    ≡ attachment_in e.watches.table q)
    → (k q : ℕ) → count_in q
    (row_at (closed (moved e w x.reference other l) (index_of w) write (read + 1)).watches.rows k)
    ≡ watches_at (attachment_in
    (set e.watches.table x.reference
    (Watching l other (rest_after w (rest_in (attachment_in e.watches.table x.reference)))))
    q) k
moved_counts slots e w write read x other l ne st by count_here count_there count_else here
    elsewhere k q =
    let r = x.reference in
    let i = index_of w in
    let j = index_of l in
    let beside = rest_after w (rest_in (attachment_in e.watches.table r)) in
    let t = set e.watches.table r (Watching l other beside) in
    let C = closed (moved e w r other l) i write (read + 1) in
    elim (cases_eq q r) as (λ _. count_in q (row_at C.watches.rows k) ≡ watches_at
    (attachment_in t q) k) [
      | inr nq ↦
          let none = one-other r q (λ h. nq (sym h)) in
          let same : watches_at (attachment_in t q) k ≡ watches_at (attachment_in e.watches.table q)
          k = ap (λ z. watches_at z k) (elsewhere q nq) in
          elim (cases_eq k i) [
            | inl ki ↦ let o = st.fits.rows i q in let a = count_here q in
                subst (λ z. count_in q (row_at C.watches.rows z) ≡ watches_at (attachment_in t q) z)
                (sym ki) (let s : watches_at (attachment_in t q) i ≡ watches_at
                (attachment_in e.watches.table q) i = ap (λ z. watches_at z i) (elsewhere q nq) in
                omega arith)
            | inr ni ↦ elim (cases_eq k j) [
              | inl kj ↦ let o = st.fits.rows j q in let a = count_there q in
                  subst (λ z. count_in q (row_at C.watches.rows z) ≡ watches_at
                  (attachment_in t q) z)
                  (sym kj) (let s : watches_at (attachment_in t q) j ≡ watches_at
                  (attachment_in e.watches.table q) j = ap (λ z. watches_at z j) (elsewhere q nq) in
                  omega arith)
              | inr nj ↦ count_else k q ni nj ∙ st.fits.rows k q ∙ sym same
            ]
          ]
      | inl same ↦ subst (λ z. count_in z (row_at C.watches.rows k) ≡ watches_at (attachment_in t z)
          k) (sym same)
          (sym (ap (λ z. watches_at z k) here
          ∙ (elim (cases_eq k i) as (λ _. one_at j k + one_at (index_of other) k ≡ count_in r
          (row_at C.watches.rows k)) [
            | inl ki ↦ subst (λ z. one_at j z + one_at (index_of other) z ≡ count_in r
                (row_at C.watches.rows z)) (sym ki)
                (let o = st.fits.rows i r in let a = count_here r in
                let b = watches_by (attachment_in e.watches.table r) w other i by in
                let c1 = one-same r r refl in let c2 = one-same i i refl in
                let c3 = one-other j i ne in omega arith)
            | inr ni ↦ elim (cases_eq k j) [
              | inl kj ↦ subst (λ z. one_at j z + one_at (index_of other) z ≡ count_in r
                  (row_at C.watches.rows z)) (sym kj)
                  (let o = st.fits.rows j r in let a = count_there r in
                  let b = watches_by (attachment_in e.watches.table r) w other j by in
                  let c1 = one-same r r refl in let c2 = one-same j j refl in
                  let c3 = one-other i j (λ h. ne (sym h)) in omega arith)
              | inr nj ↦
                  let o = st.fits.rows k r in let a = count_else k r ni nj in
                  let b = watches_by (attachment_in e.watches.table r) w other k by in let c2 =
                  one-other i k (λ h. ni (sym h)) in let c3 = one-other j k (λ h. nj (sym h)) in
                  omega arith
            ]
          ])))
    ]

-- the clause goes to the row of another literal
pub rewatch_row : (slots : Slots) (e : EngineState) (w : Literal) (write read : ℕ) (x : WatchEntry)
    (other l : Literal) → IsEngine e → InRow slots e w write read
    → read < length (row_at e.watches.rows (index_of w))
    → x ≡ get_or (row_at e.watches.rows (index_of w)) read x
    → IsWatchedBy (attachment_in e.watches.table x.reference) w other → l ≢ other
    → MayBeWatched slots e x.reference l
    → InRow slots (moved e w x.reference other l) w write (read + 1)
rewatch_row slots e w write read x other l inv st lt at by apart may =
    let r = x.reference in
    let i = index_of w in
    let j = index_of l in
    let R = e.watches.rows in
    let row = row_at R i in
    let y = entry_of r other in
    let R' = with_row R j (row_at R j ++ y ∷ []) in
    let beside = rest_after w (rest_in (attachment_in e.watches.table r)) in
    let t = set e.watches.table r (Watching l other beside) in
    let e' = moved e w r other l in
    let ce = closed e i write read in
    let ce' = closed e' i write (read + 1) in
    let A = take write row in
    let B = drop (read + 1) row in
    let was = kept_by (attachment_in e.watches.table r) w other by in
    let f = st.fits.attached r was in
    let c = f.0 in
    let member = may.1 c f.1 in
    let named : IsVariable e.variables l = within_variable e.variables c l f.2.0 member in
    let new : contains_literal (negation l) (literals_of e.trail) ≡ false =
    not_false_value (clause_at slots) e.trail l st.fits.reasons may.0 in
    let ne : j ≢ i =
    λ h. both_ways _ new (subst (λ z. contains_literal (negation z) (literals_of e.trail) ≡ true)
    (sym (index_same l w named.0 st.in_range.0 h)) st.falsified) in
    let li = row_in e w inv st.in_range in
    let lj = row_in e l inv named in
    let row_same : row_at R' i ≡ row =
    get_or-set_other R j i (row_at R j ++ y ∷ []) [] (λ h. ne (sym h)) in
    let split : row_at ce.watches.rows i ≡ A ++ x ∷ B = row_closed e i write read li
    ∙ closed_split row write read x lt at in
    let split' : row_at ce'.watches.rows i ≡ A ++ B =
    row_closed e' i write (read + 1) (omega (arith, length-set R j (row_at R j ++ y ∷ [])))
    ∙ ap (closed_row write (read + 1)) row_same in
    let other_row : (k : ℕ) → k ≢ i → row_at ce'.watches.rows k ≡ row_at R' k =
    λ k h. row_closed_other e' i write (read + 1) k h in
    let grown : row_at R' j ≡ row_at R j ++ y ∷ [] =
    get_or-set_same R j (row_at R j ++ y ∷ []) [] lj in
    let here : attachment_in t r ≡ Watching l other beside =
    attachment_set_same e.watches.table r (Watching l other beside)
    (kept_within e.watches.table r was) in
    let elsewhere : (q : ℕ) → q ≢ r → attachment_in t q ≡ attachment_in e.watches.table q =
    λ q h. attachment_set_other e.watches.table r q (Watching l other beside) h in
    let kept : is_kept (attachment_in t r) ≡ true = ap is_kept here in
    let old = subst (AllByRecursion (HasBlocker ce slots)) split (st.fits.blockers i) in
    let hx = (all_right (HasBlocker ce slots) A (x ∷ B) old).0 in
    let ow = watch_of ce c (attachment_in e.watches.table r) w other by f.2.1 in
    let beside_is =
    rest_moved c w other l (rest_in (attachment_in e.watches.table r))
    (watch_of ce c (attachment_in e.watches.table r) other w
    (by_swapped (attachment_in e.watches.table r) w other by) f.2.1).member member
    (apart_by ce c (attachment_in e.watches.table r) w other by f.2.1) (λ h. ne (ap index_of h))
    apart (rest_by ce c (attachment_in e.watches.table r) w other by f.2.1) in
    let hy : HasBlocker ce slots y = (c, hx.1, f.1, ow.member) in
    let count_here : (q : ℕ) → count_in q (row_at ce'.watches.rows i) + one_at r q ≡ count_in q
    (row_at ce.watches.rows i) = λ q.
    let a1 : count_in q (row_at ce'.watches.rows i) ≡ count_in q A + count_in q B =
    ap (count_in q) split' ∙ count-append q A B in
    let a2 : count_in q (row_at ce.watches.rows i) ≡ count_in q A + count_in q (x ∷ B) =
    ap (count_in q) split ∙ count-append q A (x ∷ B) in
    let a3 = count-cons q x B in
    omega arith in
    let count_there : (q : ℕ) → count_in q (row_at ce'.watches.rows j) ≡ count_in q
    (row_at ce.watches.rows j) + one_at r q = λ q.
    let a1 : count_in q (row_at ce'.watches.rows j) ≡ count_in q (row_at R j) + count_in q
    (y ∷ []) = ap (count_in q) (other_row j ne ∙ grown) ∙ count-append q (row_at R j) (y ∷ []) in
    let a2 : count_in q (row_at ce.watches.rows j) ≡ count_in q (row_at R j) =
    ap (count_in q) (row_closed_other e i write read j ne) in
    let a3 = count-cons q y [] in
    omega arith in
    let count_else : (k q : ℕ) → k ≢ i → k ≢ j → count_in q (row_at ce'.watches.rows k) ≡ count_in q
    (row_at ce.watches.rows k) = λ k q ni nj.
    ap (count_in q) (other_row k ni ∙ get_or-set_other R j k (row_at R j ++ y ∷ []) [] nj
    ∙ sym (row_closed_other e i write read k ni)) in
    let fits' : Fits (with_watches ce t ce'.watches.rows e.watches.waiting) slots =
    fits_attachment ce slots r t ce'.watches.rows e.watches.waiting st.fits elsewhere
    (λ k. (
      c,
      f.1,
      (
        f.2.0,
        subst (λ z. FitsAttachment ce c z) (sym here) (
          apart,
          open_watch ce c l member new,
          ow,
          beside_is,
        ),
      ),
    ))
    (inl kept)
    (moved_counts slots e w write read x other l ne st by count_here count_there count_else
    here elsewhere)
    (λ q h. elim (cases_eq q r) [
      | inl same ↦ absurd (let h' = sym (ap (attachment_in t) same ∙ here) ∙ h in cc)
      | inr nq ↦ st.fits.waiting q (sym (elsewhere q nq) ∙ h)
    ])
    (λ k. blockers_kept ce slots r t ce'.watches.rows e.watches.waiting (row_at ce'.watches.rows k)
    elsewhere kept
    (elim (cases_eq k i) [
      | inl same ↦ subst (λ z. AllByRecursion (HasBlocker ce slots) (row_at ce'.watches.rows z))
          (sym same) (subst (AllByRecursion (HasBlocker ce slots)) (sym split')
          (all_append (HasBlocker ce slots) A B (all_left (HasBlocker ce slots) A (x ∷ B) old)
          (all_right (HasBlocker ce slots) A (x ∷ B) old).1))
      | inr ni ↦ elim (cases_eq k j) [
        | inl same ↦ subst (λ z. AllByRecursion (HasBlocker ce slots) (row_at ce'.watches.rows z))
            (sym same) (subst (AllByRecursion (HasBlocker ce slots)) (sym (other_row j ne ∙ grown))
            (all_append (HasBlocker ce slots) (row_at R j) (y ∷ [])
            (subst (AllByRecursion (HasBlocker ce slots)) (row_closed_other e i write read j ne)
            (st.fits.blockers j)) (hy, tt)))
        | inr nj ↦ subst (AllByRecursion (HasBlocker ce slots))
            (sym (other_row k ni ∙ get_or-set_other R j k (row_at R j ++ y ∷ []) [] nj))
            (subst (AllByRecursion (HasBlocker ce slots)) (row_closed_other e i write read k ni)
            (st.fits.blockers k))
      ]
    ])) in
    record {
      fits = fits';
      waiting = λ q d p h. elim (cases_eq q r) [
        | inl same ↦ absurd (let h' = sym (ap (attachment_in t) same ∙ here) ∙ p in cc)
        | inr nq ↦ st.waiting q d (sym (elsewhere q nq) ∙ p) h
      ];
      falsified = st.falsified;
      in_range = st.in_range;
      kept = subst (λ z. AllByRecursion (IsTrueEntry slots (literals_of e.trail)) (take write z))
          (sym row_same) st.kept;
      order = let o = st.order in omega arith;
      within = subst (λ z. read + 1 ≤ length z) (sym row_same) (omega arith);
    }

pub got_at : (row : List WatchEntry) (k : ℕ) (x : WatchEntry) → slice_get row k ≡ Some x
    → x ≡ get_or row k x
got_at [] k x e = refl
got_at (y ∷ row) zero x e = (cc)
got_at (y ∷ row) (suc k) x e = got_at row k x e

pub engine_trail : (e : EngineState) (a : Assigned) → IsEngine e
    → IsEngine (with_trail e (e.trail ++ a ∷ []))
engine_trail e a inv =
    record {
      rows = inv.rows;
      watching = inv.watching;
      stable_qhead = inv.stable_qhead;
      qhead = let h = inv.qhead in omega (arith, length_push e.trail a);
    }

pub moved_row : (slots : Slots) (e : EngineState) (w : Literal) (write read : ℕ) (r : ℕ)
    (other l : Literal) → IsEngine e → InRow slots e w write read
    → is_attached e r ≡ true → MayBeWatched slots e r l
    → row_at (moved e w r other l).watches.rows (index_of w) ≡ row_at e.watches.rows (index_of w)
moved_row slots e w write read r other l inv st was may =
    let f = st.fits.attached r was in
    let named : IsVariable e.variables l =
    within_variable e.variables f.0 l f.2.0 (may.1 f.0 f.1) in
    let new : contains_literal (negation l) (literals_of e.trail) ≡ false =
    not_false_value (clause_at slots) e.trail l st.fits.reasons may.0 in
    let ne : index_of l ≢ index_of w =
    λ h. both_ways _ new (subst (λ z. contains_literal (negation z) (literals_of e.trail) ≡ true)
    (sym (index_same l w named.0 st.in_range.0 h)) st.falsified) in
    get_or-set_other e.watches.rows (index_of l) (index_of w)
    (row_at e.watches.rows (index_of l) ++ entry_of r other ∷ []) [] (λ h. ne (sym h))

pub last_true : (T : List Assigned) (a : Assigned)
    → contains_literal a.literal (literals_of (T ++ a ∷ [])) ≡ true
last_true T a = subst (λ X. contains_literal a.literal X ≡ true) (sym (literals-append T (a ∷ [])))
    (contains_back a.literal (literals_of T) (a.literal ∷ [])
    (or_left (literal_eq a.literal a.literal) false (literal_eq-refl a.literal)))
