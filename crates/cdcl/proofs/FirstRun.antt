-- What elimination leaves is a search that runs.
use Rattle.std.proofs.Common.{◌≡◌, ◌≢◌, ℕ, zero, suc, ◌+◌, ◌<◌, ◌≤◌, ◌^◌, true, false, List, []}
use Rattle.std.proofs.Common.{◌∷◌, length, take, map, get_or, Some, None, inl, inr, refl, sym, ◌∙◌}
use Rattle.std.proofs.Common.{ap, subst, arith, zero-add}
use Rattle.std.specs.Prelude.{All, Contains, nat_eq}
use Rattle.std.specs.List.{IsDistinct, list_any, enumerate_from}
use Rattle.std.proofs.lemmas.Map.Keys.{IsDistinct-head, IsDistinct-tail}
use Rattle.std.proofs.lemmas.Bool.{cases_lt, le-leb, or_parts, both_ways, eq-eqb, cases_eq}
use Rattle.std.proofs.lemmas.Option.{none-some, slice_get-get_or}
use Rattle.std.proofs.lemmas.List.{length-map, get_or-map, length-replicate, take_all}
use Rattle.std.proofs.lemmas.List.{get_or_default}
use Rattle.std.proofs.lemmas.List.Elements.{All-nil, All-cons, All-head, All-tail}
use Rattle.std.proofs.lemmas.List.Elements.{All-from_recursion}
use Rattle.cnf.specs.Literal.{Literal}
use Rattle.cnf.specs.Clause.{Satisfies}
use Rattle.cnf.specs.Lrat.{IsId}
use Rattle.cnf.specs.Refute.{IsRefutedByHints}
use Rattle.cnf.specs.Bits.{assignment_of}
use Rattle.cnf.specs.Formula.{Cnf, IsFormula, IsFormulaClause, numbered}
use Rattle.clauses.specs.Slots.{Slots, clause_at, IsLive, live_places, live_clauses, places_from}
use Rattle.clauses.proofs.Laws.{all_live, live_all, live_map}
use Rattle.propagate.specs.Trail.{depth_of}
use Rattle.propagate.specs.Watches.{is_attached}
use Rattle.lrat_log.specs.declared.lines.Name.{Name}
use Rattle.lrat_log.specs.declared.lines.Name.TheVariants.{Formula, Added}
use Rattle.lrat_log.specs.Log.{LogLine, id_of, number_in}
use Rattle.lrat_log.specs.Steps.{StaysLogOver, IsBaseOf, log_live, given_of, AddsNoEmptyClause}
use Rattle.lrat_log.specs.Steps.{adds_empty_clause, added_count}
use Rattle.eliminate.specs.Elimination.{HoldsWhatIsLive, ExtendsBack}
use Rattle.reconstruction.specs.Stack.{StackState, IsFree}
use Rattle.reconstruction.specs.Removals.{extended}
use Rattle.eliminate.specs.Elimination.{IsWhole}
use Rattle.cdcl_search.specs.declared.search.Search.{Search}
use Rattle.cdcl_search.specs.declared.input.Input.{Input}
use Rattle.cdcl_search.specs.Running.{is_refuted, Runs, IsInput, tables_of}
use Rattle.cdcl_search.specs.Invariant.{name_at, is_kept_name, NamesStore, NotesUnits, zero_of}
use Rattle.cdcl_search.specs.Invariant.{IsRunning, KeepsPlain}
use Rattle.cdcl_search.specs.Starts.{IsLiveWithin, IsStarted}
use Rattle.clauses.proofs.Laws.{stands}
use Rattle.cdcl_search.proofs.Laws.{live_below}
use Rattle.cdcl.proofs.FirstNames.{names_start}
use Rattle.eliminate.proofs.Laws.{wider}
use Rattle.lrat_log.proofs.Laws.{base_of, clauses_given, stays_open}

-- Lists of places.

-- of a store without gaps
places_all : (n : ℕ) (cs : List (List Literal))
    → length (places_from n (map Some cs)) ≡ length (map Some cs)
places_all n [] = refl
places_all n (c ∷ cs) = ap suc (places_all (n + 1) cs)

place_live : (n : ℕ) (slots : Slots) (i : ℕ) → i < length (places_from n slots)
    → (r : ℕ) × (c : List Literal) × (get_or (places_from n slots) i 0 ≡ n + r)
    × (clause_at slots r ≡ Some c)
place_live n [] i lt = absurd (omega arith)
place_live n (None ∷ slots) i lt =
    let w = place_live (n + 1) slots i lt in (suc w.0, w.1, w.2 ∙ omega arith, w.3)
place_live n (Some c ∷ slots) zero lt = (0, c, omega arith, refl)
place_live n (Some c ∷ slots) (suc i) lt =
    let w = place_live (n + 1) slots i (omega arith) in (suc w.0, w.1, w.2 ∙ omega arith, w.3)

live_found : (slots : Slots) (i : ℕ) (c : List Literal) → i < length (live_clauses slots)
    → get_or (live_clauses slots) i c ≡ c → (r : ℕ) × (clause_at slots r ≡ Some c)
live_found [] i c lt e = absurd (omega arith)
live_found (None ∷ slots) i c lt e = let w = live_found slots i c lt e in (suc w.0, w.1)
live_found (Some d ∷ slots) zero c lt e = (0, ap Some e)
live_found (Some d ∷ slots) (suc i) c lt e =
    let w = live_found slots i c (omega arith) e in (suc w.0, w.1)

all_given_on : (P : List Literal → Type 0) (n : ℕ) (cs : List (List Literal)) → All P cs
    → All (λ (g : Name × List Literal). P g.1) (map (λ e. (Formula e.0, e.1)) (enumerate_from n cs))
all_given_on P n [] all = All-nil (λ (g : Name × List Literal). P g.1)
all_given_on P n (c ∷ cs) all =
    All-cons (λ (g : Name × List Literal). P g.1) (Formula n, c)
    (map (λ e. (Formula e.0, e.1)) (enumerate_from (n + 1) cs)) (All-head P c cs all)
    (all_given_on P (n + 1) cs (All-tail P c cs all))

pub all_given : (P : List Literal → Type 0) (cs : List (List Literal)) → All P cs
    → All (λ (g : Name × List Literal). P g.1) (given_of cs)
all_given P cs all = all_given_on P 1 cs all

-- no line added the empty clause
pub unrefuted : (ls : List LogLine) → is_refuted ls ≡ false → AddsNoEmptyClause ls
unrefuted [] e = tt
unrefuted (l ∷ ls) e =
    let w =
    or_parts (adds_empty_clause l) (list_any adds_empty_clause ls) e in (w.0, unrefuted ls w.1)

-- distinct ids stand in different places
distinct_apart : (is : List ℕ) (j k : ℕ) → IsDistinct nat_eq is → j < k → k < length is
    → get_or is j 0 ≢ get_or is k 0
distinct_apart [] j k d lt within e = absurd (omega arith)
distinct_apart (i ∷ is) zero zero d lt within e = absurd (omega arith)
distinct_apart (i ∷ is) zero (suc k) d lt within e =
    both_ways (nat_eq i (get_or is k 0)) (All-from_recursion (λ y. nat_eq i y ≡ false) is
    (IsDistinct-head nat_eq i is d) k 0 (omega arith)) (eq-eqb i (get_or is k 0) e)
distinct_apart (i ∷ is) (suc j) zero d lt within e = absurd (omega arith)
distinct_apart (i ∷ is) (suc j) (suc k) d lt within e =
    distinct_apart is j k (IsDistinct-tail nat_eq i is d) (omega arith) (omega arith) e

distinct_same : (is : List ℕ) (j k : ℕ) → IsDistinct nat_eq is → j < length is → k < length is
    → get_or is j 0 ≡ get_or is k 0 → j ≡ k
distinct_same is j k d a b e = elim (cases_eq j k) [
  | inl s ↦ s
  | inr ne ↦ elim (cases_lt j k) [
    | inl lt ↦ absurd (distinct_apart is j k d lt b e)
    | inr ge ↦ absurd (distinct_apart is k j d (omega arith) a (sym e))
  ]
]

pub based_first : (cs : List (List Literal)) → IsBaseOf (given_of cs) (length cs)
based_first cs = base_of cs (length cs) (omega arith)

-- What elimination says of the names that it lists.

pub record IsLeft (cs : List (List Literal)) (slots : Slots) (stack : StackState)
    (ls : List LogLine) : Type 0 where
  pub live : (base : ℕ) → IsBaseOf (given_of cs) base
      → HoldsWhatIsLive slots stack.names base (log_live (given_of cs) base ls)
  pub left : All (IsFormulaClause stack.variables) (live_clauses slots)

module _ (cs : List (List Literal)) (slots : Slots) (stack : StackState) (ls : List LogLine)
    (h : IsLeft cs slots stack ls) where
  abbrev none : ℕ × Name
  none = (0, Formula 0)

  first : HoldsWhatIsLive slots stack.names (length cs) (log_live (given_of cs) (length cs) ls)
  first = h.live (length cs) (based_first cs)

  places_long : length (live_places slots) ≡ length stack.names
  places_long = sym (ap length first.listed) ∙ length-map stack.names (λ (n : ℕ × Name). n.0)

  place_is : (i : ℕ) (d : ℕ × Name) → i < length stack.names
      → (get_or stack.names i d).0 ≡ get_or (live_places slots) i 0
  place_is i d lt =
      sym (get_or-map (λ (n : ℕ × Name). n.0) stack.names i d 0 lt)
      ∙ ap (λ ps. get_or ps i 0) first.listed

  pub left_long : slots ≡ map Some (live_clauses slots) → length stack.names ≡ length slots
  left_long gapless = sym places_long
      ∙ subst (λ (x : Slots). length (live_places x) ≡ length x) (sym gapless)
      (places_all 0 (live_clauses slots))

  live_here : (i : ℕ) (d : ℕ × Name) → i < length stack.names
      → (c : List Literal) × (clause_at slots (get_or stack.names i d).0 ≡ Some c)
  live_here i d lt =
      let w = place_live 0 slots i (omega (arith, places_long)) in
      let at : (get_or stack.names i d).0 ≡ w.0 = place_is i d lt ∙ w.2 ∙ zero-add w.0 in
      (w.1, ap (clause_at slots) at ∙ w.3)

  pub left_live : All (λ n. IsLiveWithin slots stack.variables n.0) stack.names
  left_live i d lt =
      let w = live_here i d lt in
      let f =
      live_all (IsFormulaClause stack.variables) slots h.left (get_or stack.names i d).0 w.0 w.1 in
      record { clause = w.0; live = w.1; within = (f.from_one, f.small) }

  -- each has the id of something live
  id_below : (i : ℕ) (d : ℕ × Name) → i < length stack.names
      → id_of (length cs) (get_or stack.names i d).1 ≤ length cs + added_count ls
  id_below i d lt =
      let w = live_here i d lt in
      live_below (given_of cs) (length cs) (based_first cs) ls
      (id_of (length cs) (get_or stack.names i d).1) w.0 (first.named i d lt ∙ w.1)

  number_below : (n : Name) (b k : ℕ) → id_of b n ≤ k → number_in n ≤ k
  number_below (Formula i) b k h = h
  number_below (Added j) b k h = omega arith

  kept_below : (n : Name) (b k : ℕ) → id_of b n ≤ b + k → is_kept_name k n ≡ true
  kept_below (Formula i) b k h = refl
  kept_below (Added j) b k h = le-leb j k (omega arith)

  pub left_numbers : length cs + added_count ls < 2 ^ 62
      → All (λ n. IsId (number_in n.1)) stack.names
  left_numbers few i d lt = (
    first.from_one i d lt,
    (let b = number_below (get_or stack.names i d).1 (length cs) (length cs + added_count ls)
        (id_below i d lt) in omega arith),
  )

  -- a live clause stands in the list
  listed_at : (r : ℕ) (c : List Literal) → clause_at slots r ≡ Some c
      → (i : ℕ) × (i < length stack.names) × ((get_or stack.names i none).0 ≡ r)
  listed_at r c e =
      let z = stands 0 slots (live_places slots) r c refl e in
      let lt : z.0 < length stack.names = (let a = z.1 in omega (arith, places_long)) in
      (z.0, lt, place_is z.0 none lt ∙ z.2 ∙ zero-add r)

  pub first_names : (table : List Name) → All (λ n. name_at table n.0 ≡ n.1) stack.names
      → length table ≡ length slots → NamesStore slots table (given_of cs) ls
  first_names table tabled long = record {
    as_many = long;
    live = λ base above.
        let w = h.live base above in
        names_start slots stack.names table base (log_live (given_of cs) base ls) w.listed w.named
        w.only
        (λ j k d e a b s.
        let wide : length (map (λ (n : ℕ × Name). id_of base n.1) stack.names)
        ≡ length stack.names = length-map stack.names (λ (n : ℕ × Name). id_of base n.1) in
        let same : j ≡ k =
        distinct_same (map (λ (n : ℕ × Name). id_of base n.1) stack.names) j k w.differ
        (omega arith) (omega arith)
        (get_or-map (λ (n : ℕ × Name). id_of base n.1) stack.names j d 0 a ∙ s
        ∙ sym (get_or-map (λ (n : ℕ × Name). id_of base n.1) stack.names k e 0 b)) in
        ap (λ i. (get_or stack.names i d).0) same
        ∙ ap (λ (x : ℕ × Name). x.0) (get_or_default stack.names k d e b))
        tabled;
  }

  pub all_kept : (table : List Name) → All (λ n. name_at table n.0 ≡ n.1) stack.names
      → (r : ℕ) (c : List Literal) → clause_at slots r ≡ Some c
      → is_kept_name (added_count ls) (name_at table r) ≡ true
  all_kept table tabled r c e =
      let w = listed_at r c e in
      let name : name_at table r ≡ (get_or stack.names w.0 none).1 =
      ap (name_at table) (sym w.2) ∙ tabled w.0 none w.1 in
      ap (is_kept_name (added_count ls)) name
      ∙ kept_below (get_or stack.names w.0 none).1 (length cs) (added_count ls)
      (id_below w.0 none w.1)

  pub all_attached : (e : Search) → All (λ n. is_attached e.engine n.0 ≡ true) stack.names → (r : ℕ)
      → IsLive slots r → is_attached e.engine r ≡ true
  all_attached e on r live =
      let w = listed_at r live.0 live.1 in ap (is_attached e.engine) (sym w.2) ∙ on w.0 none w.1

-- the empty clause refutes by itself
empty_refutes : (cs : List (List Literal)) → Contains cs [] → IsRefutedByHints cs
empty_refutes cs w = (
  suc w.0 ∷ [],
  record {
    front = [];
    final = suc w.0;
    split = refl;
    reached = [];
    leads = refl;
    clause = [];
    live = slice_get-get_or cs w.0 [] w.1 ∙ ap Some w.2;
    conflict = tt;
  },
)

-- the search, whatever propagation refutes
pub plain_runs : (s : Search) (p : Input) (ls : List LogLine) (cs : List (List Literal))
    (slots : Slots) (additions : ℕ) (n : StackState) → p.stack ≡ record n { names = [] }
    → IsStarted slots n additions s → IsLeft cs slots n ls
    → p.given ≡ given_of cs
    → StaysLogOver (length (p.frozen).items) (given_of cs) ls → is_refuted ls ≡ false
    → additions ≡ added_count ls → additions < 2 ^ 61
    → All (λ r. IsFree (p.frozen).items r.variable) n.removed
    → ExtendsBack n cs (live_clauses slots) → KeepsPlain slots p.first p.given → Runs s p ls
plain_runs s p ls cs slots additions n unnamed t h given stays open_log counted few not_frozen
    back plain =
    let m : StackState = record n { names = [] } in
    let named = first_names cs slots n ls h (s.names).items t.named t.long in
    let kept : additions ≡ s.kept = sym t.kept in
    let run : IsRunning s.engine slots m (tables_of s) (p.frozen).items p.first p.given ls =
    record {
      recorded = record {
        log =
            record {
              stays = stays_open (length (p.frozen).items) p.given ls
                  (subst (λ x. StaysLogOver (length (p.frozen).items) x ls) (sym given) stays);
              unrefuted = unrefuted ls open_log;
              counted = t.counted ∙ counted;
            };
        names = subst (λ x. NamesStore slots (s.names).items x ls) (sym given) named;
        numbers = t.numbers;
        many_units = ap length t.units ∙ length-replicate n.variables None;
        kept = (let a = t.kept in let b = t.counted in omega arith);
        not_frozen = not_frozen;
        back =
            λ bits long sat. subst
            (All (λ g. Satisfies (assignment_of (extended n.removed bits)) g.1)) (sym given)
            (all_given (Satisfies (assignment_of (extended n.removed bits))) cs
            (back bits (omega (arith, long))
            (all_live (Satisfies (assignment_of bits)) slots
            (λ r c e. sat r c e (subst (λ k. is_kept_name k (name_at (s.names).items r) ≡ true)
            (sym (t.kept ∙ counted))
            (all_kept cs slots n ls h (s.names).items t.named r c e)))))
            );
        plain = plain;
      };
      searches = record {
        works = t.works;
        fits = t.fits;
        all_attached = all_attached cs slots n ls h s t.attached;
        fixpoint = λ level below. (let flat : depth_of (s.engine).trail ≡ 0 = ap depth_of t.trail in
            absurd (omega arith));
      };
      variables = t.variables;
      units = subst (λ T. NotesUnits slots (zero_of T) (depth_of T) (s.units).items s.noted)
          (sym t.trail)
          (subst (λ k. NotesUnits slots [] 0 (s.units).items k) (sym t.noted)
          (record { have = tt; within = omega arith; all = λ deep. omega arith }));
    } in
    record {
      running = subst
          (λ x. IsRunning s.engine x p.stack (tables_of s) (p.frozen).items p.first p.given ls)
          (sym t.slots_are)
          (subst
          (λ x. IsRunning s.engine slots x (tables_of s) (p.frozen).items p.first p.given ls)
          (sym unnamed) run);
      room = t.room;
      past = t.past;
      few = subst (λ k. k < 2 ^ 61) (sym t.counted) few;
    }

pub first_runs : (s : Search) (p : Input) (ls : List LogLine) (cs : List (List Literal))
    (slots : Slots) (additions : ℕ) (n : StackState) → p.stack ≡ record n { names = [] }
    → IsStarted slots n additions s → IsLeft cs slots n ls
    → p.given ≡ given_of cs → p.first ≡ length p.given
    → StaysLogOver (length (p.frozen).items) (given_of cs) ls → is_refuted ls ≡ false
    → additions ≡ added_count ls → additions < 2 ^ 61
    → All (λ r. IsFree (p.frozen).items r.variable) n.removed
    → ExtendsBack n cs (live_clauses slots)
    → (IsRefutedByHints cs → Contains (live_clauses slots) []) → Runs s p ls
first_runs s p ls cs slots additions n unnamed t h given firsts stays open_log counted few
    not_frozen back plain =
    let all : map (λ g. g.1) (take p.first p.given) ≡ cs =
    ap (λ x. map (λ g. g.1) x) (take_all p.first p.given (omega arith) ∙ given)
    ∙ clauses_given cs in
    let whole : map (λ g. g.1) p.given ≡ cs =
    ap (map (λ g. g.1)) given ∙ clauses_given cs in
    plain_runs s p ls cs slots additions n unnamed t h given stays open_log counted few not_frozen
    back (λ w. (let found = plain (elim w [
      | inl a ↦ subst IsRefutedByHints all a
      | inr b ↦ empty_refutes cs (subst (λ x. Contains x []) whole b)
    ]) in live_found slots found.0 [] found.1 found.2))

-- no hints refute a formula without clauses
none_numbered : (i : ℕ) → numbered [] i ≡ None
none_numbered zero = refl
none_numbered (suc i) = refl

none_refuted : IsRefutedByHints [] → ⊥
none_refuted w = none-some w.1.clause (sym (none_numbered w.1.final) ∙ w.1.live)

-- where the formula is left as it is, its empty clause is there
pub whole_plain : (p : Input) (cs : List (List Literal)) (slots : Slots) → p.first ≡ 0
    → p.given ≡ given_of cs → live_clauses slots ≡ cs → KeepsPlain slots p.first p.given
whole_plain p cs slots none given left w = elim w [
  | inl a ↦ absurd (none_refuted
      (subst (λ n. IsRefutedByHints (map (λ g. g.1) (take n p.given))) none a))
  | inr b ↦
      let found : Contains (live_clauses slots) [] =
      subst (λ x. Contains x []) (ap (map (λ g. g.1)) given ∙ clauses_given cs ∙ sym left) b in
      live_found slots found.0 [] found.1 found.2
]

-- What a new solver is made of.

pub formula_again : (f : Cnf) (n : ℕ) (cs : List (List Literal)) → IsFormula f → n ≡ f.variables
    → cs ≡ f.clauses → IsFormula (record { variables = n; clauses = cs })
formula_again f n cs h a b = record {
  few = subst (λ x. x < 2 ^ 26) (sym a) h.few;
  clauses = subst (λ x. All (IsFormulaClause x) cs) (sym a)
      (subst (All (IsFormulaClause f.variables)) (sym b) h.clauses);
}

pub left_from : (cs ds : List (List Literal)) (slots : Slots) (stack : StackState)
    (ls : List LogLine)
    → ds ≡ cs
    → ((base : ℕ) → IsBaseOf (given_of ds) base
    → HoldsWhatIsLive slots stack.names base (log_live (given_of ds) base ls))
    → All (IsFormulaClause stack.variables) (live_clauses slots) → IsLeft cs slots stack ls
left_from cs ds slots stack ls e live left = record {
  live =
      subst (λ x. (base : ℕ) → IsBaseOf (given_of x) base
      → HoldsWhatIsLive slots stack.names base (log_live (given_of x) base ls)) e live;
  left = left;
}

pub first_clauses : (p : Input) (cs : List (List Literal)) → p.given ≡ given_of cs
    → p.first ≡ length p.given → map (λ g. g.1) (take p.first p.given) ≡ cs
first_clauses p cs given firsts =
    ap (λ x. map (λ g. g.1) x) (take_all p.first p.given (omega arith) ∙ given)
    ∙ clauses_given cs

input_of : (f : Cnf) (p : Input) (cs : List (List Literal)) → IsFormula f → cs ≡ f.clauses
    → length (p.frozen).items ≡ f.variables → p.given ≡ given_of cs
    → given_of (map (λ g. g.1) (take p.first p.given)) ≡ take p.first p.given
    → p.first ≤ length p.given → length (p.frozen).items ≤ (p.stack).variables
    → (p.stack).variables ≤ length (p.frozen).items + 2 ^ 20 → IsInput p
input_of f p cs h same wide given numbered within low high =
    let few : length (p.frozen).items < 2 ^ 26 = subst (λ x. x < 2 ^ 26) (sym wide) h.few in
    let bound : (p.stack).variables < 2 ^ 27 = omega arith in
    record {
      numbered = numbered;
      first_within = within;
      based = (length cs, subst (λ g. IsBaseOf g (length cs)) (sym given) (based_first cs));
      few_given = few;
      few = bound;
      no_fewer = low;
      given_small = subst (All (λ g. IsFormulaClause (length (p.frozen).items) g.1)) (sym given)
          (all_given (IsFormulaClause (length (p.frozen).items)) cs
          (subst (λ n. All (IsFormulaClause n) cs) (sym wide)
          (subst (All (IsFormulaClause f.variables)) (sym same) h.clauses)));
    }

pub new_input : (f : Cnf) (p : Input) (cs : List (List Literal)) → IsFormula f → cs ≡ f.clauses
    → length (p.frozen).items ≡ f.variables → p.given ≡ given_of cs
    → p.first ≡ length p.given
    → length (p.frozen).items ≤ (p.stack).variables
    → (p.stack).variables ≤ length (p.frozen).items + 2 ^ 20 → IsInput p
new_input f p cs h same wide given firsts low high =
    input_of f p cs h same wide given
    (ap given_of (first_clauses p cs given firsts) ∙ sym
    (take_all p.first p.given (omega arith) ∙ given)) (omega arith) low high

-- what is given to a search over a formula that is left as it is
pub whole_input : (f : Cnf) (p : Input) (cs : List (List Literal)) → IsFormula f → cs ≡ f.clauses
    → length (p.frozen).items ≡ f.variables → p.given ≡ given_of cs → p.first ≡ 0
    → length (p.frozen).items ≤ (p.stack).variables
    → (p.stack).variables ≤ length (p.frozen).items + 2 ^ 20 → IsInput p
whole_input f p cs h same wide given none low high =
    input_of f p cs h same wide given
    (subst (λ n. given_of (map (λ g. g.1) (take n p.given)) ≡ take n p.given) (sym none) refl)
    (omega arith) low high

-- what is left of a formula that is left as it is
pub whole_left : (f : Cnf) (cs : List (List Literal)) (slots : Slots) (stack : StackState) (n : ℕ)
    → IsFormula f → cs ≡ f.clauses → f.variables ≤ n → IsWhole n cs slots stack
    → IsLeft cs slots stack []
whole_left f cs slots stack n h same le w = record {
  live = w.live;
  left =
      subst (All (IsFormulaClause stack.variables)) (sym (ap live_clauses w.together ∙ live_map cs))
      (λ i d lt. wider f.variables stack.variables (get_or cs i d)
      (subst (λ m. f.variables ≤ m) (sym w.variables_are) le)
      (subst (All (IsFormulaClause f.variables)) (sym same) h.clauses i d lt));
}
