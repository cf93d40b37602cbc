-- The work in hand stays right where a pair is defined, and where its variable takes its place in a
-- clause.
use Rattle.std.proofs.Common.{◌≡◌, ◌≢◌, ℕ, ◌+◌, ◌<◌, ◌≤◌, ◌^◌, true, false, not, List, [], ◌∷◌}
use Rattle.std.proofs.Common.{◌++◌, length, Some, None, inl, inr, refl, sym, ◌∙◌, ap, subst, arith}
use Rattle.std.proofs.Common.{slice_set, length-append}
use Rattle.std.specs.Prelude.{All}
use Rattle.std.specs.List.{AllByRecursion}
use Rattle.std.proofs.lemmas.Bool.{or_cases, or_from, or_left, or_right, both_ways, cases_eq}
use Rattle.std.proofs.lemmas.Bool.{false≢true}
use Rattle.std.proofs.lemmas.List.Elements.{All-nil, All-cons, All-head, All-tail, All-weaker}
use Rattle.std.proofs.lemmas.List.Elements.{All-filter, All-from_recursion}
use Rattle.std.proofs.lemmas.Option.{same_Some}
use Rattle.cnf.specs.Literal.{Literal, Assignment, negation, literal_eq}
use Rattle.cnf.specs.Clause.{Satisfies, contains_literal, without_literal, is_tautology}
use Rattle.cnf.specs.Formula.{IsFormulaClause}
use Rattle.cnf.specs.Lrat.{IsId}
use Rattle.cnf.proofs.Laws.{literal_eq-true}
use Rattle.clauses.specs.Slots.{Slots, clause_at, live_clauses}
use Rattle.lrat_log.specs.declared.lines.Name.{Name}
use Rattle.lrat_log.specs.declared.lines.Name.TheVariants.{Added}
use Rattle.lrat_log.specs.declared.lines.Hint.TheVariants.{Plain}
use Rattle.lrat_log.specs.declared.lines.Kind.TheVariants.{Resolvent}
use Rattle.lrat_log.specs.Log.{HasNumber, LogLine, IsLine, IsPlain, number_in, is_delete}
use Rattle.lrat_log.specs.Log.{is_learned}
use Rattle.lrat_log.specs.Steps.{StaysLogOver, IsOwnGroup, adds_empty_clause}
use Rattle.eliminate_pairs.specs.declared.pairs.PairDefinition.{PairDefinition}
use Rattle.lrat_log.specs.Steps.{added_count}
use Rattle.eliminate_names.specs.Work.{name_at, added_line, delete_line}
use Rattle.eliminate_pairs.specs.Pairs.{Ground, positive, whole_clause, side_clause, whole_line}
use Rattle.eliminate_pairs.specs.Pairs.{side_line}
use Rattle.eliminate_pairs.specs.Pairs.{replaced, ShareClause, IsOnOther, HasPairOf, IsDefined}
use Rattle.eliminate_pairs.specs.Pairs.{Stage}
use Rattle.eliminate_pairs.specs.Pairs.{IsStage}
use Rattle.eliminate_pairs.proofs.Definitions.{IsPairFor, first_addable, side_addable, side_lacks}
use Rattle.eliminate_pairs.proofs.Definitions.{other_variable}
use Rattle.eliminate_names.proofs.Laws.{learned-push, stays_added, work_deleted}
use Rattle.eliminate_names.proofs.Laws.{open_deleted}
use Rattle.clauses.proofs.Laws.{clause_cases, clause_kept, clause_left, clause_new, clause_other}
use Rattle.clauses.proofs.Laws.{live_within, all_live, live_all}
use Rattle.lrat_log.proofs.Laws.{additions_push, open_push}
use Rattle.eliminate_names.proofs.Laws.{named_added, name-push, name-last}
use Rattle.eliminate_pairs.proofs.Replacing.{HasPair, replaced_line, replaced_back}
use Rattle.eliminate_pairs.proofs.Replacing.{replaced-no_repeat}
use Rattle.eliminate_pairs.proofs.Replacing.{replaced-no_tautology, pair_variables}
use Rattle.cnf.proofs.Laws.{literal_eq-refl}
use Rattle.cnf.proofs.Laws.{greatest-filter, member-small}
use Rattle.eliminate_pairs.proofs.Pairing.{lacks_both, stays_whole, stays_side}

-- with a clause more
abbrev pub added_stage : Stage → ℕ → LogLine → Stage
added_stage s v l = record {
  variables = v;
  slots = s.slots ++ Some l.clause ∷ [];
  names = s.names ++ added_line (added_count s.lines) ∷ [];
  lines = s.lines ++ l ∷ [];
}

-- and with one less
abbrev pub deleted_stage : Stage → ℕ → Stage
deleted_stage s r = record {
  variables = s.variables;
  slots = slice_set s.slots r None;
  names = s.names;
  lines = s.lines ++ delete_line (name_at s.names r) ∷ [];
}

-- what holds of each literal holds of one
member_holds : (P : Literal → Type 0) (l : Literal) (c : List Literal) → All P c
    → contains_literal l c ≡ true → P l
member_holds P l [] all e = absurd (false≢true e)
member_holds P l (k ∷ c) all e =
    elim (or_cases (literal_eq l k) (contains_literal l c) e) [
      | inl h ↦ subst P (sym (literal_eq-true l k h)) (All-head P k c all)
      | inr h ↦ member_holds P l c (All-tail P k c all) h
    ]

pub all-replaced : (P : Literal → Type 0) (z : ℕ) (a b : Literal) (c : List Literal)
    → P (positive z) → All P c → All P (replaced z a b c)
all-replaced P z a b c first all =
    All-cons P (positive z) (without_literal b (without_literal a c)) first
    (All-filter (λ k. not (literal_eq b k)) P (without_literal a c)
    (All-filter (λ k. not (literal_eq a k)) P c all))

-- a clause of a formula is one where there are more variables
pub wider : (n m : ℕ) (c : List Literal) → n ≤ m → IsFormulaClause n c → IsFormulaClause m c
wider n m c le f =
    record {
      no_repeat = f.no_repeat;
      no_tautology = f.no_tautology;
      from_one = f.from_one;
      small = omega (arith, f.small);
    }

-- a literal of a variable is in no clause whose literals are on others
pub lacks_variable : (z : ℕ) (l : Literal) (c : List Literal) → l.variable ≡ z
    → AllByRecursion (IsOnOther z) c → contains_literal l c ≡ false
lacks_variable z l [] e h = refl
lacks_variable z l (k ∷ c) e h =
    or_from (literal_eq l k) (contains_literal l c) (other_variable l k (λ q. h.0.1 (sym q ∙ e)))
    (lacks_variable z l c e h.1)

whole-has_fresh : (z : ℕ) (a b : Literal)
    → contains_literal (negation (positive z)) (whole_clause z a b) ≡ true
whole-has_fresh z a b =
    or_left (literal_eq (negation (positive z)) (negation (positive z)))
    (contains_literal (negation (positive z)) (a ∷ b ∷ []))
    (literal_eq-refl (negation (positive z)))

whole-has_left : (z : ℕ) (a b : Literal) → contains_literal a (whole_clause z a b) ≡ true
whole-has_left z a b =
    or_right (literal_eq a (negation (positive z))) (contains_literal a (a ∷ b ∷ []))
    (or_left (literal_eq a a) (contains_literal a (b ∷ [])) (literal_eq-refl a))

whole-has_right : (z : ℕ) (a b : Literal) → contains_literal b (whole_clause z a b) ≡ true
whole-has_right z a b =
    or_right (literal_eq b (negation (positive z))) (contains_literal b (a ∷ b ∷ []))
    (or_right (literal_eq b a) (contains_literal b (b ∷ []))
    (or_left (literal_eq b b) false (literal_eq-refl b)))

side-has_fresh : (z : ℕ) (a : Literal) → contains_literal (positive z) (side_clause z a) ≡ true
side-has_fresh z a =
    or_left (literal_eq (positive z) (positive z)) (contains_literal (positive z) (negation a ∷ []))
    (literal_eq-refl (positive z))

module _ (ground : Ground) (s : Stage) (k : IsStage ground s) where
  -- a clause is added by a line that stays a step
  pub stage_added : (v : ℕ) (l : LogLine) → s.variables ≤ v
      → StaysLogOver ground.first ground.given (s.lines ++ l ∷ []) → is_delete l.kind ≡ false
      → is_learned l.kind ≡ false
      → added_count s.lines + 1 < 2 ^ 62 → IsFormulaClause v l.clause
      → All (λ (x : Literal). ground.is_gone x.variable ≡ false) l.clause
      → adds_empty_clause l ≡ false
      → IsStage ground (added_stage s v l)
  stage_added v l more log adds unlearned small clause free stays = record {
    more = omega (arith, k.more);
    work = record {
      log = log;
      none_learned = learned-push s.lines l unlearned ∙ k.work.none_learned;
      named = named_added ground.given s.slots s.names s.lines l k.work.named adds small;
      clauses = λ r c h. elim (clause_cases s.slots l.clause r c h) [
        | inl e ↦ wider s.variables v c more (k.work.clauses r c e)
        | inr e ↦ subst (IsFormulaClause v) (sym e.1) clause
      ];
    };
    going = open_push s.lines l k.going stays;
    back =
        λ t all. k.back t (all_live (Satisfies t) s.slots
        (λ r c e. live_all (Satisfies t) (s.slots ++ Some l.clause ∷ []) all r c
        (clause_kept s.slots l.clause c r e)));
    above = λ u h. k.above u (omega arith);
    free = λ r c e. elim (clause_cases s.slots l.clause r c e) [
      | inl w ↦ k.free r c w
      | inr w ↦ subst (λ (d : List Literal). All (λ (x : Literal). ground.is_gone x.variable
          ≡ false) d) (sym w.1) free
    ];
  }

  -- a clause is deleted that follows from what is left
  pub stage_deleted : (r : ℕ) (c : List Literal) → clause_at s.slots r ≡ Some c
      → ((t : Assignment) → All (Satisfies t) (live_clauses (slice_set s.slots r None))
      → Satisfies t c) → IsStage ground (deleted_stage s r)
  stage_deleted r c live follows =
      let after : Slots = slice_set s.slots r None in
      record {
        more = k.more;
        work =
            work_deleted ground.first s.variables ground.given s.slots s.names s.lines r c k.work
            k.going live;
        going = open_deleted s.lines (name_at s.names r) k.going;
        back = λ t all. k.back t (all_live (Satisfies t) s.slots (λ q x e.
            elim (cases_eq q r) [
              | inl h ↦ subst (Satisfies t)
                  (sym (same_Some x c (sym e ∙ ap (clause_at s.slots) h ∙ live))) (follows t all)
              | inr n ↦ live_all (Satisfies t) after all q x (clause_other s.slots r q n ∙ e)
            ]));
        above = k.above;
        free = λ q x e. k.free q x (clause_left s.slots r q x e).1;
      }

  -- the literals of a clause in the store
  from_one_in : (r : ℕ) (c : List Literal) (l : Literal) → clause_at s.slots r ≡ Some c
      → contains_literal l c ≡ true → 0 < l.variable
  from_one_in r c l live has =
      member_holds (λ (x : Literal). 0 < x.variable) l c (k.work.clauses r c live).from_one has

  few_in : (r : ℕ) (c : List Literal) (l : Literal) → clause_at s.slots r ≡ Some c
      → contains_literal l c ≡ true → l.variable ≤ s.variables
  few_in r c l live has = omega (arith, member-small l c has, (k.work.clauses r c live).small)

  free_in : (r : ℕ) (c : List Literal) (l : Literal) → clause_at s.slots r ≡ Some c
      → contains_literal l c ≡ true → ground.is_gone l.variable ≡ false
  free_in r c l live has =
      member_holds (λ (x : Literal). ground.is_gone x.variable ≡ false) l c (k.free r c live) has

  pair_for : (a b : Literal) → ShareClause s.slots a b → s.variables + 1 < 2 ^ 27
      → IsPairFor (s.variables + 1) a b
  pair_for a b w few =
      let la : a.variable ≤ s.variables = few_in w.place w.clause a w.there w.has_a in
      let lb : b.variable ≤ s.variables = few_in w.place w.clause b w.there w.has_b in
      record {
        not_a = λ e. omega arith;
        not_b = λ e. omega arith;
        two =
            pair_variables a b w.clause w.has_a w.has_b w.two
            (k.work.clauses w.place w.clause w.there).no_tautology;
        small = omega arith;
      }

  -- the first clause of a definition
  pub stage_whole : (a b : Literal) → ShareClause s.slots a b → s.variables + 1 < 2 ^ 27
      → added_count s.lines + 1 < 2 ^ 62
      → IsStage ground (added_stage s (s.variables + 1) (whole_line (s.variables + 1) a b))
  stage_whole a b w few small =
      let z : ℕ = s.variables + 1 in
      let p : IsPairFor z a b = pair_for a b w few in
      let la : a.variable ≤ s.variables = few_in w.place w.clause a w.there w.has_a in
      let lb : b.variable ≤ s.variables = few_in w.place w.clause b w.there w.has_b in
      let zero : 0 < 1 = omega arith in
      let one = first_addable (record { clause_at = λ i. None; last = 0 }) 1 z a b zero p in
      stage_added z (whole_line z a b) (omega arith)
      (stays_whole ground.first ground.given s.slots s.names s.lines k.work.named s.variables z a b
      k.work.log k.going (omega (arith, k.more)) (omega arith)
      (λ r c e. (k.work.clauses r c e).small) p)
      refl refl small
      (record {
        no_repeat = one.no_repeat;
        no_tautology = one.no_tautology;
        from_one = All-cons (λ (x : Literal). 0 < x.variable) (negation (positive z)) (a ∷ b ∷ [])
            (omega arith)
            (All-cons (λ (x : Literal). 0 < x.variable) a (b ∷ [])
            (from_one_in w.place w.clause a w.there w.has_a)
            (All-cons (λ (x : Literal). 0 < x.variable) b []
            (from_one_in w.place w.clause b w.there w.has_b)
            (All-nil (λ (x : Literal). 0 < x.variable))));
        small = omega arith;
      })
      (All-cons (λ (x : Literal). ground.is_gone x.variable ≡ false) (negation (positive z))
      (a ∷ b ∷ []) (k.above z (omega arith))
      (All-cons (λ (x : Literal). ground.is_gone x.variable ≡ false) a (b ∷ [])
      (free_in w.place w.clause a w.there w.has_a)
      (All-cons (λ (x : Literal). ground.is_gone x.variable ≡ false) b []
      (free_in w.place w.clause b w.there w.has_b)
      (All-nil (λ (x : Literal). ground.is_gone x.variable ≡ false)))))
      refl

  -- and the others
  pub stage_side : (z f j : ℕ) (a : Literal) (c : List Literal) → ground.first < z
      → s.variables < 2 ^ 27 → z ≢ a.variable → added_count s.lines + 1 < 2 ^ 62
      → name_at s.names f ≡ Added j → clause_at s.slots f ≡ Some c
      → contains_literal (negation (positive z)) c ≡ true → contains_literal a c ≡ true
      → ((r : ℕ) (d : List Literal) → clause_at s.slots r ≡ Some d
      → contains_literal (negation (positive z)) d ≡ true → r ≡ f)
      → IsStage ground (added_stage s s.variables (side_line z a (name_at s.names f)))
  stage_side z f j a c first few other small named live has has_a only =
      let la : a.variable ≤ s.variables = few_in f c a live has_a in
      let lz : z ≤ s.variables = few_in f c (negation (positive z)) live has in
      let zero : 0 < 1 = omega arith in
      let one =
      side_addable (record { clause_at = λ i. None; last = 0 }) 1 z a zero other (omega arith)
      (omega arith) in
      stage_added s.variables (side_line z a (name_at s.names f)) (omega arith)
      (stays_side ground.first ground.given s.slots s.names s.lines k.work.named z f a c j
      k.work.log k.going first (omega arith) (omega arith) other named live has has_a only)
      refl refl small
      (record {
        no_repeat = one.no_repeat;
        no_tautology = one.no_tautology;
        from_one =
            All-cons (λ (x : Literal). 0 < x.variable) (positive z) (negation a ∷ [])
            (from_one_in f c (negation (positive z)) live has)
            (All-cons (λ (x : Literal). 0 < x.variable) (negation a) []
            (from_one_in f c a live has_a) (All-nil (λ (x : Literal). 0 < x.variable)));
        small = omega arith;
      })
      (All-cons (λ (x : Literal). ground.is_gone x.variable ≡ false) (positive z) (negation a ∷ [])
      (free_in f c (negation (positive z)) live has)
      (All-cons (λ (x : Literal). ground.is_gone x.variable ≡ false) (negation a) []
      (free_in f c a live has_a)
      (All-nil (λ (x : Literal). ground.is_gone x.variable ≡ false))))
      refl

-- the three stages of a definition
abbrev pub with_whole : Stage → Literal → Literal → Stage
with_whole s a b = added_stage s (s.variables + 1) (whole_line (s.variables + 1) a b)

-- a side of a definition whose first clause stands at a place
abbrev pub with_side : Stage → ℕ → Literal → Stage
with_side s f a = added_stage s s.variables (side_line s.variables a (name_at s.names f))

additions-added : (s : Stage) (v : ℕ) (l : LogLine) → is_delete l.kind ≡ false
    → added_count (added_stage s v l).lines ≡ added_count s.lines + 1
additions-added s v l adds = rw adds at (additions_push s.lines l)

-- the only clause with the negation of the fresh variable is the first of its definition
abbrev IsOnly : ℕ → Slots → ℕ → Type 0
IsOnly z slots f = (r : ℕ) (d : List Literal) → clause_at slots r ≡ Some d
    → contains_literal (negation (positive z)) d ≡ true → r ≡ f

only-whole : (slots : Slots) (v : ℕ) (a b : Literal)
    → ((r : ℕ) (c : List Literal) → clause_at slots r ≡ Some c → IsFormulaClause v c)
    → IsOnly (v + 1) (slots ++ Some (whole_clause (v + 1) a b) ∷ []) (length slots)
only-whole slots v a b clauses r d e has =
    elim (clause_cases slots (whole_clause (v + 1) a b) r d e) [
      | inl w ↦ absurd (both_ways (contains_literal (negation (positive (v + 1))) d)
          (lacks_both (v + 1) d (omega (arith, (clauses r d w).small))).1 has)
      | inr w ↦ w.0
    ]

only-side : (slots : Slots) (z f : ℕ) (a : Literal) → z ≢ a.variable → IsOnly z slots f
    → IsOnly z (slots ++ Some (side_clause z a) ∷ []) f
only-side slots z f a other only r d e has = elim (clause_cases slots (side_clause z a) r d e) [
  | inl w ↦ only r d w has
  | inr w ↦ absurd (both_ways (contains_literal (negation (positive z)) d)
      (subst (λ x. contains_literal (negation (positive z)) x ≡ false) (sym w.1)
      (side_lacks z a other)) has)
]

-- the definition's first clause stands at a place under a name of the log, and no other has the
-- negation of its variable
record HasWhole (s : Stage) (f : ℕ) (a b : Literal) : Type 0 where
  j : ℕ
  named : name_at s.names f ≡ Added j
  within : f < length s.names
  there : clause_at s.slots f ≡ Some (whole_clause s.variables a b)
  only : IsOnly s.variables s.slots f

whole_there : (ground : Ground) (s : Stage) (a b : Literal) → IsStage ground s
    → HasWhole (with_whole s a b) (length s.slots) a b
whole_there ground s a b k = record {
  j = added_count s.lines + 1;
  named = name-last s.names (added_line (added_count s.lines)) (length s.slots) k.work.named.long;
  within =
      omega (
        arith,
        k.work.named.long,
        length-append s.names (added_line (added_count s.lines) ∷ []),
      );
  there = clause_new s.slots (whole_clause (s.variables + 1) a b);
  only = only-whole s.slots s.variables a b k.work.clauses;
}

side_there : (s : Stage) (f : ℕ) (c a b : Literal) → s.variables ≢ c.variable → HasWhole s f a b
    → HasWhole (with_side s f c) f a b
side_there s f c a b other h = record {
  j = h.j;
  named = name-push s.names (added_line (added_count s.lines)) f h.within ∙ h.named;
  within = omega (arith, h.within, length-append s.names (added_line (added_count s.lines) ∷ []));
  there = clause_kept s.slots (side_clause s.variables c) (whole_clause s.variables a b) f h.there;
  only = only-side s.slots s.variables f c other h.only;
}

-- each stage of a definition is right
pub whole_right : (ground : Ground) (s : Stage) (a b : Literal) → ShareClause s.slots a b
    → s.variables + 1 < 2 ^ 27 → added_count s.lines + 3 < 2 ^ 62 → IsStage ground s
    → IsStage ground (with_whole s a b)
whole_right ground s a b w few small k = stage_whole ground s k a b w few (omega arith)

pub left_right : (ground : Ground) (s : Stage) (a b : Literal) → ShareClause s.slots a b
    → s.variables + 1 < 2 ^ 27 → added_count s.lines + 3 < 2 ^ 62 → IsStage ground s
    → IsStage ground (with_side (with_whole s a b) (length s.slots) a)
left_right ground s a b w few small k =
    let one : Stage = with_whole s a b in
    let h : HasWhole one (length s.slots) a b = whole_there ground s a b k in
    let p = pair_for ground s k a b w few in
    let e : added_count one.lines ≡ added_count s.lines + 1 =
    additions-added s (s.variables + 1) (whole_line (s.variables + 1) a b) refl in
    stage_side ground one (whole_right ground s a b w few small k) one.variables (length s.slots)
    h.j a (whole_clause one.variables a b) (omega (arith, k.more)) few p.not_a (omega arith)
    h.named h.there
    (whole-has_fresh one.variables a b) (whole-has_left one.variables a b) h.only

pub right_right : (ground : Ground) (s : Stage) (a b : Literal) → ShareClause s.slots a b
    → s.variables + 1 < 2 ^ 27 → added_count s.lines + 3 < 2 ^ 62 → IsStage ground s
    → IsStage ground (with_side (with_side (with_whole s a b) (length s.slots) a)
    (length s.slots) b)
right_right ground s a b w few small k =
    let one : Stage = with_whole s a b in
    let two : Stage = with_side one (length s.slots) a in
    let p = pair_for ground s k a b w few in
    let h : HasWhole two (length s.slots) a b =
    side_there one (length s.slots) a a b p.not_a (whole_there ground s a b k) in
    let e : added_count one.lines ≡ added_count s.lines + 1 =
    additions-added s (s.variables + 1) (whole_line (s.variables + 1) a b) refl in
    let f : added_count two.lines ≡ added_count one.lines + 1 =
    additions-added one one.variables
    (side_line one.variables a (name_at one.names (length s.slots))) refl in
    stage_side ground two (left_right ground s a b w few small k) two.variables (length s.slots) h.j
    b (whole_clause two.variables a b) (omega (arith, k.more)) few p.not_b (omega arith)
    h.named h.there
    (whole-has_fresh two.variables a b) (whole-has_right two.variables a b) h.only

-- a clause with the pair becomes one with the variable
abbrev pub replaced_line_of : Stage → PairDefinition → ℕ → List Literal → LogLine
replaced_line_of s d r c = record {
  kind = Resolvent;
  clause = replaced d.variable d.left d.right c;
  hints = Plain (name_at s.names d.left_side) ∷ Plain (name_at s.names d.right_side) ∷ Plain
      (name_at s.names r) ∷ [];
}

abbrev pub with_replaced : Stage → PairDefinition → ℕ → List Literal → Stage
with_replaced s d r c = added_stage s s.variables (replaced_line_of s d r c)

has_pair : (d : PairDefinition) (c : List Literal) → literal_eq d.left d.right ≡ false
    → is_tautology c ≡ false → HasPairOf d.variable d.left d.right c
    → HasPair d.variable d.left d.right c
has_pair d c two plain h =
    record {
      has_a = h.has_a;
      has_b = h.has_b;
      two = two;
      no_z = (
        lacks_variable d.variable (positive d.variable) c refl h.others,
        lacks_variable d.variable (negation (positive d.variable)) c refl h.others,
      );
      plain = plain;
    }

-- it may be added
pub replaced-is_line : (z : ℕ) (a b : Literal) (c : List Literal) (l m n : Name) → 0 < z
    → z < 2 ^ 27 → AllByRecursion (IsOnOther z) c → IsId (number_in l) → IsId (number_in m)
    → IsId (number_in n)
    → IsLine (record {
      kind = Resolvent;
      clause = replaced z a b c;
      hints = Plain l ∷ Plain m ∷ Plain n ∷ [];
    })
replaced-is_line z a b c l m n some few others il im is = record {
  literals = all-replaced (λ (k : Literal). IsId k.variable) z a b c (some, omega arith)
      (All-weaker (IsOnOther z) (λ (k : Literal). IsId k.variable) (λ k h. h.0) c
      (All-from_recursion (IsOnOther z) c others));
  names = All-from_recursion HasNumber (Plain l ∷ Plain m ∷ Plain n ∷ []) (il, (im, (is, tt)));
  deletes = λ e. absurd (false≢true e);
}

pub delete-is_line : (n : Name) → IsId (number_in n) → IsLine (delete_line n)
delete-is_line n is = record {
  literals = All-nil (λ (k : Literal). IsId k.variable);
  names = All-from_recursion HasNumber (Plain n ∷ []) (is, tt);
  deletes = λ e. (refl, All-from_recursion IsPlain (Plain n ∷ []) (tt, tt));
}

three_plain : (l m n : Name) → All IsOwnGroup (Plain l ∷ Plain m ∷ Plain n ∷ [])
three_plain l m n =
    All-from_recursion IsOwnGroup (Plain l ∷ Plain m ∷ Plain n ∷ []) (tt, (tt, (tt, tt)))

pub replaced_right : (ground : Ground) (s : Stage) (d : PairDefinition) (r : ℕ) (c : List Literal)
    → IsDefined s.slots d → clause_at s.slots r ≡ Some c → HasPairOf d.variable d.left d.right c
    → s.variables < 2 ^ 27 → added_count s.lines + 1 < 2 ^ 62 → IsStage ground s
    → IsStage ground (with_replaced s d r c)
replaced_right ground s d r c defined live pair few small k =
    let z : ℕ = d.variable in
    let f : IsFormulaClause s.variables c = k.work.clauses r c live in
    let h : HasPair z d.left d.right c = has_pair d c defined.two f.no_tautology pair in
    let lz : z ≤ s.variables =
    few_in ground s k d.left_side (side_clause z d.left) (positive z) defined.left_side
    (side-has_fresh z d.left) in
    let l : LogLine = replaced_line_of s d r c in
    let rup =
    replaced_line ground.given s.lines Resolvent s.variables z d.left d.right c
    (name_at s.names d.left_side) (name_at s.names d.right_side) (name_at s.names r) refl few
    (omega arith) f h
    (λ base above. let n = (k.work.named.live base above).named in (
      n d.left_side (side_clause z d.left) defined.left_side,
      n d.right_side (side_clause z d.right) defined.right_side,
      n r c live,
    )) in
    stage_added ground s k s.variables l (omega arith)
    (stays_added ground.first ground.given s.lines l k.work.log k.going rup
    (three_plain (name_at s.names d.left_side) (name_at s.names d.right_side) (name_at s.names r)))
    refl refl small
    (record {
      no_repeat = replaced-no_repeat z d.left d.right c h f.no_repeat;
      no_tautology = replaced-no_tautology z d.left d.right c h f.no_tautology;
      from_one =
          all-replaced (λ (x : Literal). 0 < x.variable) z d.left d.right c
          (from_one_in ground s k d.left_side (side_clause z d.left) (positive z) defined.left_side
          (side-has_fresh z d.left)) f.from_one;
      small =
          omega (
            arith,
            f.small,
            greatest-filter (λ x. not (literal_eq d.right x)) (without_literal d.left c),
            greatest-filter (λ x. not (literal_eq d.left x)) c,
          );
    })
    (all-replaced (λ (x : Literal). ground.is_gone x.variable ≡ false) z d.left d.right c
    (free_in ground s k d.left_side (side_clause z d.left) (positive z) defined.left_side
    (side-has_fresh z d.left)) (k.free r c live))
    refl

-- a clause with the literal and one without stand at two places
apart : (slots : Slots) (q r : ℕ) (l : Literal) (c d : List Literal) → clause_at slots q ≡ Some d
    → clause_at slots r ≡ Some c → contains_literal l d ≡ true → contains_literal l c ≡ false
    → q ≢ r
apart slots q r l c d at_q at_r has lacks e =
    both_ways (contains_literal l c) lacks
    (subst (λ x. contains_literal l x ≡ true) (same_Some d c (sym at_q ∙ ap (clause_at slots) e
    ∙ at_r)) has)

-- and the definition stands on, once the clause is gone
pub defined_after : (slots : Slots) (d : PairDefinition) (r : ℕ) (c more : List Literal)
    → IsDefined slots d
    → clause_at slots r ≡ Some c → HasPairOf d.variable d.left d.right c
    → IsDefined (slice_set (slots ++ Some more ∷ []) r None) d
defined_after slots d r c more h live pair =
    let z : ℕ = d.variable in
    record {
      whole =
          clause_other (slots ++ Some more ∷ []) r d.whole
          (apart slots d.whole r (negation (positive z)) c (whole_clause z d.left d.right) h.whole
          live (whole-has_fresh z d.left d.right)
          (lacks_variable z (negation (positive z)) c refl pair.others))
          ∙ (clause_kept slots more (whole_clause z d.left d.right) d.whole h.whole);
      left_side =
          clause_other (slots ++ Some more ∷ []) r d.left_side
          (apart slots d.left_side r (positive z) c (side_clause z d.left) h.left_side live
          (side-has_fresh z d.left) (lacks_variable z (positive z) c refl pair.others))
          ∙ (clause_kept slots more (side_clause z d.left) d.left_side h.left_side);
      right_side =
          clause_other (slots ++ Some more ∷ []) r d.right_side
          (apart slots d.right_side r (positive z) c (side_clause z d.right) h.right_side live
          (side-has_fresh z d.right) (lacks_variable z (positive z) c refl pair.others))
          ∙ (clause_kept slots more (side_clause z d.right) d.right_side h.right_side);
      two = h.two;
    }

pub gone_right : (ground : Ground) (s : Stage) (d : PairDefinition) (r : ℕ) (c : List Literal)
    → IsDefined s.slots d → clause_at s.slots r ≡ Some c → HasPairOf d.variable d.left d.right c
    → s.variables < 2 ^ 27 → added_count s.lines + 1 < 2 ^ 62 → IsStage ground s
    → IsStage ground (deleted_stage (with_replaced s d r c) r)
gone_right ground s d r c defined live pair few small k =
    let z : ℕ = d.variable in
    let new : List Literal = replaced z d.left d.right c in
    let more : Slots = s.slots ++ Some new ∷ [] in
    let after : Slots = slice_set more r None in
    let there : clause_at more r ≡ Some c = clause_kept s.slots new c r live in
    let other : length s.slots ≢ r = (λ e. omega (arith, live_within s.slots r c live)) in
    let kept : clause_at after (length s.slots) ≡ Some new =
    clause_other more r (length s.slots) other ∙ (clause_new s.slots new) in
    let whole = (defined_after s.slots d r c new defined live pair).whole in
    stage_deleted ground (with_replaced s d r c)
    (replaced_right ground s d r c defined live pair few small k) r c there (λ t all.
    replaced_back t z d.left d.right c pair.has_a pair.has_b
    (live_all (Satisfies t) after all d.whole (whole_clause z d.left d.right) whole)
    (live_all (Satisfies t) after all (length s.slots) new kept))
