-- Learned clauses are detached together and deleted one by one, and the search goes on.
use Rattle.std.proofs.Common.{◌≡◌, ℕ, zero, suc, ◌+◌, ◌<◌, ◌≤◌, Bool, true, false, not, ◌&&◌, List}
use Rattle.std.proofs.Common.{[], ◌∷◌, ◌++◌, length, replicate, get_or, set, Option, Some, None}
use Rattle.std.proofs.Common.{inl, inr, refl, sym, ◌∙◌, ap, subst, arith}
use Rattle.std.specs.Prelude.{All, IfSome}
use Rattle.std.proofs.lemmas.Bool.{cases_Bool, cases_eq, cases_lt, both_ways}
use Rattle.std.proofs.lemmas.List.{get_or_default, get_or-set_other, length-set, length-replicate}
use Rattle.std.proofs.lemmas.List.Elements.{All-nil, All-cons}
use Rattle.std.proofs.lemmas.Option.{same_Some}
use Rattle.cnf.specs.Literal.{Literal}
use Rattle.cnf.specs.Lrat.{IsId}
use Rattle.lrat_log.specs.declared.lines.Name.{Name}
use Rattle.lrat_log.specs.declared.lines.Name.TheVariants.{Formula}
use Rattle.lrat_log.specs.declared.lines.Hint.{Hint}
use Rattle.lrat_log.specs.declared.lines.Hint.TheVariants.{Plain}
use Rattle.lrat_log.specs.declared.lines.Kind.TheVariants.{Delete}
use Rattle.clauses.specs.Slots.{Slots, IsLive, clause_at}
use Rattle.propagate.specs.Trail.{literals_of, depth_of, kept_to}
use Rattle.propagate.specs.Watches.{EngineState, is_attached}
use Rattle.propagate.specs.Doomed.{is_doomed}
use Rattle.propagate.specs.Fits.{Fits}
use Rattle.propagate.proofs.Laws.{fits_local}
use Rattle.analyze.specs.Analyzer.{IsFixpoint}
use Rattle.cdcl_order.specs.Policies.{PolicyState}
use Rattle.lrat_log.specs.Log.{LogLine, IsLine, IsPlain, is_delete, name_of, number_in}
use Rattle.cdcl_search.specs.declared.input.Input.{Input}
use Rattle.cdcl_search.specs.declared.search.Search.{Search}
use Rattle.cdcl_search.specs.Invariant.{name_at, NotesUnits, zero_of}
use Rattle.cdcl_search.specs.Hinting.{plain_hints}
use Rattle.cdcl_search.specs.Running.{tables_of, Runs}
use Rattle.cdcl_search.specs.Moves.{MayBeDeleted}
use Rattle.cdcl_search.specs.Deletions.{AreMarked, IsDeleting}
use Rattle.cdcl_search.proofs.EngineMoves.{room_moved}
use Rattle.cdcl_search.proofs.Moves.{recorded_delete}
use Rattle.cdcl_search.proofs.Places.{clause_other, clause_left}
use Rattle.cdcl_search.proofs.Units.{units_delete}

-- Marks.

none_marked : (n r : ℕ) → is_doomed (replicate n false) r ≡ false
none_marked zero r = refl
none_marked (suc n) zero = refl
none_marked (suc n) (suc r) = none_marked n r

pub marks_none : (s : Search) (chosen : List ℕ) (doomed : List Bool)
    → doomed ≡ replicate (length (s.store).slots) false → AreMarked s chosen 0 doomed
marks_none s chosen doomed fresh =
    let off : (r : ℕ) → is_doomed doomed r ≡ false = λ r. ap (λ x. is_doomed x r) fresh
    ∙ none_marked (length (s.store).slots) r in
    record {
      long = ap length fresh ∙ length-replicate (length (s.store).slots) false;
      may = λ r on. absurd (both_ways (is_doomed doomed r) (off r) on);
      among = λ r on. absurd (both_ways (is_doomed doomed r) (off r) on);
    }

-- the next clause gets no mark
pub marks_same : (s : Search) (chosen : List ℕ) (first : ℕ) (doomed : List Bool)
    → AreMarked s chosen first doomed → AreMarked s chosen (first + 1) doomed
marks_same s chosen first doomed m = record {
  long = m.long;
  may = m.may;
  among = λ r on. let w = m.among r on in (w.0, (let lt = w.1 in omega arith), w.2);
}

-- it gets one
pub marks_more : (s : Search) (chosen : List ℕ) (first : ℕ) (doomed : List Bool) (q : ℕ)
    → AreMarked s chosen first doomed → MayBeDeleted s q → get_or chosen first 0 ≡ q
    → AreMarked s chosen (first + 1) (set doomed q true)
marks_more s chosen first doomed q m may here = record {
  long = length-set doomed q true ∙ m.long;
  may = λ r on. elim (cases_eq r q) [
    | inl same ↦ subst (MayBeDeleted s) (sym same) may
    | inr other ↦ m.may r (sym (get_or-set_other doomed q r true false other) ∙ on)
  ];
  among = λ r on. elim (cases_eq r q) [
    | inl same ↦ (first, omega arith, here ∙ sym same)
    | inr other ↦ let w = m.among r (sym (get_or-set_other doomed q r true false other) ∙ on) in
        (w.0, (let lt = w.1 in omega arith), w.2)
  ];
}

unmarked : (doomed : List Bool) (reason : Option ℕ)
    → ((r : ℕ) → reason ≡ Some r → is_doomed doomed r ≡ false)
    → IfSome reason (λ r. is_doomed doomed r ≡ false)
unmarked doomed None h = tt
unmarked doomed (Some r) h = h r refl

-- no reason is marked
pub reasons_stay : (s : Search) (chosen : List ℕ) (first : ℕ) (doomed : List Bool)
    → AreMarked s chosen first doomed → All (λ a. IfSome a.reason (λ r. is_doomed doomed r ≡ false))
    (s.engine).trail
reasons_stay s chosen first doomed m i d lt =
    unmarked doomed (get_or (s.engine).trail i d).reason
    (λ r e. elim (cases_Bool (is_doomed doomed r)) as (λ _. is_doomed doomed r ≡ false) [
      | inl on ↦ absurd ((m.may r on).no_reason i d lt e)
      | inr off ↦ off
    ])

-- Deletions.

-- the marked clauses are detached
pub deleting_starts : (s : Search) (f : EngineState) (p : Input) (ls : List LogLine)
    (chosen : List ℕ) (first : ℕ) (doomed : List Bool) → Runs s p ls
    → AreMarked s chosen first doomed
    → ((r : ℕ) → is_attached f r ≡ (is_attached s.engine r && not (is_doomed doomed r)))
    → (f.trail ≡ (s.engine).trail) × (f.variables ≡ (s.engine).variables)
    × (f.failed ≡ (s.engine).failed)
    → Fits f (s.store).slots → IsDeleting (record s { engine = f }) p ls doomed
deleting_starts s f p ls chosen first doomed run m detached same fits =
    let searches = run.running.searches in
    record {
      recorded = run.running.recorded;
      works = same.2 ∙ searches.works;
      fits = fits;
      attached =
          λ r live. detached r
          ∙ ap (λ b. b && not (is_doomed doomed r)) (searches.all_attached r live);
      fixpoint = λ level below.
          subst (λ T. IsFixpoint (s.store).slots (literals_of (kept_to level T))) (sym same.0)
          (searches.fixpoint level (subst (λ T. level < depth_of T) same.0 below));
      variables = same.1 ∙ run.running.variables;
      units =
          subst (λ T. NotesUnits (s.store).slots (zero_of T) (depth_of T) (s.units).items s.noted)
          (sym same.0) run.running.units;
      room = room_moved s f s.policy run.room same.1 refl;
      past = run.past;
      few = run.few;
      long = m.long;
      droppable = λ r c at on.
          let may = m.may r on in (
            subst (λ x. 2 < length x) (same_Some may.clause c (sym may.live ∙ at)) may.long,
            may.learned,
          );
    }

-- one of them leaves
pub deleting_more : (s : Search) (k : PolicyState) (p : Input) (ls : List LogLine) (l : LogLine)
    (doomed : List Bool) (q : ℕ) (c : List Literal) → IsDeleting s p ls doomed
    → clause_at (s.store).slots q ≡ Some c → is_doomed doomed q ≡ true → is_delete l.kind ≡ true
    → l.hints ≡ plain_hints (name_at (s.names).items q ∷ [])
    → k ≡ s.policy
    → IsDeleting (record s {
      store = record (s.store) { slots = set (s.store).slots q None };
      policy = k;
    }) p (ls ++ l ∷ []) doomed
deleting_more s k p ls l doomed q c d live on deletes plain same =
    let slots : Slots = (s.store).slots in
    let e : EngineState = s.engine in
    let drop = d.droppable q c live on in
    let long : 1 < length c = (let lt = drop.0 in omega arith) in
    record {
      recorded =
          recorded_delete slots p.stack (tables_of s) (p.frozen).items p.first
          p.given ls l q
          c d.recorded live long drop.1 deletes plain;
      works = d.works;
      fits = fits_local e slots (set slots q None) d.fits
          (λ r attached. clause_other slots q r
          (λ same. both_ways (is_attached e r) (ap (is_attached e) same ∙ d.attached q (c, live)
          ∙ ap not on) attached));
      attached = λ r there. d.attached r (there.0, (clause_left slots q r there.0 there.1).1);
      fixpoint = λ level below r k at. d.fixpoint level below r k (clause_left slots q r k at).1;
      variables = d.variables;
      units =
          units_delete slots q c (zero_of e.trail) (depth_of e.trail) (s.units).items s.noted live
          long d.units;
      room = record {
        policy = ap (λ x. x.variables) same ∙ d.room.policy;
        analyzer = d.room.analyzer;
        few = d.room.few;
        stamps = d.room.stamps;
        units = d.room.units;
      };
      past = d.past;
      few = d.few;
      long = d.long ∙ sym (length-set slots q None);
      droppable = λ r k at marked. d.droppable r k (clause_left slots q r k at).1 marked;
    }

-- what is marked has left
pub deleting_ends : (s : Search) (p : Input) (ls : List LogLine) (doomed : List Bool)
    → IsDeleting s p ls doomed → ((r : ℕ) → is_doomed doomed r ≡ true → IsLive (s.store).slots r
    → ⊥) → Runs s p ls
deleting_ends s p ls doomed d gone =
    let off : (r : ℕ) → IsLive (s.store).slots r → is_doomed doomed r ≡ false =
    λ r live. elim (cases_Bool (is_doomed doomed r)) as (λ _. is_doomed doomed r ≡ false) [
      | inl on ↦ absurd (gone r on live)
      | inr not_on ↦ not_on
    ] in
    record {
      running = record {
        recorded = d.recorded;
        searches =
            record {
              works = d.works;
              fits = d.fits;
              all_attached = λ r live. d.attached r live
                  ∙ ap not (off r live);
              fixpoint = d.fixpoint;
            };
        variables = d.variables;
        units = d.units;
      };
      room = d.room;
      past = d.past;
      few = d.few;
    }

-- of the first `first` chosen clauses those that are marked have left
abbrev pub AreGone : Slots → List ℕ → ℕ → List Bool → Type 0
AreGone slots chosen first doomed =
    (i : ℕ) → i < first → is_doomed doomed (get_or chosen i 0) ≡ true
    → IsLive slots (get_or chosen i 0) → ⊥

pub gone_more : (old new : Slots) (chosen : List ℕ) (first : ℕ) (doomed : List Bool) (q : ℕ)
    → AreGone old chosen first doomed → ((r : ℕ) → IsLive new r → IsLive old r)
    → (is_doomed doomed q ≡ true → IsLive new q → ⊥) → get_or chosen first 0 ≡ q
    → AreGone new chosen (first + 1) doomed
gone_more old new chosen first doomed q gone fewer here at i below on live =
    elim (cases_lt i first) [
      | inl less ↦ gone i less on (fewer _ live)
      | inr more ↦
          let same : get_or chosen i 0 ≡ q =
          ap (λ j. get_or chosen j 0) (let e : i ≡ first = omega arith in e) ∙ at in
          here (subst (λ r. is_doomed doomed r ≡ true) same on) (subst (IsLive new) same live)
    ]

pub all_gone : (s : Search) (slots : Slots) (chosen : List ℕ) (first : ℕ) (doomed : List Bool)
    → AreMarked s chosen (length chosen) doomed → length chosen ≤ first
    → AreGone slots chosen first doomed
    → (r : ℕ) → is_doomed doomed r ≡ true → IsLive slots r → ⊥
all_gone s slots chosen first doomed m all gone r on live =
    let w = m.among r on in
    gone w.0 (let lt = w.1 in omega arith) (subst (λ x. is_doomed doomed x ≡ true) (sym w.2) on)
    (subst (IsLive slots) (sym w.2) live)

-- the name in a table, however it is read
pub named_at : (names : List Name) (i r : ℕ) (n : Name) → i ≡ r → n ≡ get_or names i n
    → r < length names → n ≡ name_at names r
named_at names i r n e is lt = is ∙ get_or_default names i n (Formula 0) (omega arith)
    ∙ ap (name_at names) e

-- the line
pub deleting_line : (c : List Literal) (hints : List Hint) (n : Name) → c ≡ []
    → hints ≡ Plain n ∷ [] → IsId (number_in n)
    → IsLine (record { kind = Delete; clause = c; hints = hints })
deleting_line c hints n none one id =
    let plain : IsLine (record { kind = Delete; clause = []; hints = Plain n ∷ [] }) = record {
      literals = All-nil (λ (k : Literal). IsId k.variable);
      names =
          All-cons (λ (h : Hint). IsId (number_in (name_of h))) (Plain n) [] id
          (All-nil (λ (h : Hint). IsId (number_in (name_of h))));
      deletes = λ d. (refl, All-cons IsPlain (Plain n) [] tt (All-nil IsPlain));
    } in
    subst (λ x. IsLine (record { kind = Delete; clause = x; hints = hints })) (sym none)
    (subst (λ x. IsLine (record { kind = Delete; clause = []; hints = x })) (sym one) plain)
