-- What a conflict teaches: its line is a step, and the search goes on with its clause.
use Rattle.std.proofs.Common.{◌≡◌, ℕ, ◌+◌, ◌-◌, ◌<◌, ◌≤◌, ◌^◌, true, List, [], ◌∷◌, ◌++◌, Option}
use Rattle.std.proofs.Common.{length, refl, sym, ◌∙◌, ap, subst, arith}
use Rattle.std.specs.Prelude.{All, IfSome}
use Rattle.std.specs.List.{AllByRecursion}
use Rattle.std.proofs.lemmas.List.{take_all}
use Rattle.std.proofs.lemmas.List.Elements.{All-nil, All-cons, All-head, All-tail}
use Rattle.std.proofs.lemmas.List.Elements.{All-from_recursion, recursion_from_All}
use Rattle.cnf.specs.Literal.{Literal, negation}
use Rattle.cnf.specs.Clause.{greatest_variable}
use Rattle.cnf.specs.Refute.{Leads, Refutes, IsFalseUnder, IsUnit}
use Rattle.cnf.proofs.Laws.{all_weaker, all_append, all_at}
use Rattle.clauses.specs.Slots.{Slots, clause_at, IsLive}
use Rattle.propagate.specs.Trail.{Assigned, literals_of, depth_of, kept_to, HasReasons, level_of}
use Rattle.propagate.specs.Watches.{EngineState, is_attached}
use Rattle.propagate.specs.Fits.{Fits, IsWithin, IsFalseClause}
use Rattle.propagate.proofs.Laws.{kept_kept, kept_low, no_tautology}
use Rattle.analyze.specs.Analyzer.{IsAsserting, IsConflict, IsRefutedBy, greatest_level}
use Rattle.analyze.proofs.Laws.{learned_fixpoint}
use Rattle.lrat_log.specs.declared.lines.Hint.{Hint}
use Rattle.lrat_log.specs.declared.lines.Name.{Name}
use Rattle.lrat_log.specs.declared.lines.Kind.TheVariants.{Learned}
use Rattle.lrat_log.specs.Log.{LogLine, Given}
use Rattle.cdcl_search.specs.declared.search.Search.{Search}
use Rattle.cdcl_search.specs.declared.input.Input.{Input}
use Rattle.cdcl_search.specs.Invariant.{HasUnit, NotesUnits, NamesStore, Searches, IsRunning}
use Rattle.cdcl_search.specs.Invariant.{zero_of}
use Rattle.cdcl_search.specs.Hinting.{AreHintsOf, AreNoted}
use Rattle.cdcl_search.specs.Running.{LogsLine, HasRoom, Runs, tables_of}
use Rattle.cdcl_search.proofs.LogLines.{AddsByHints, by_hints}
use Rattle.cdcl_search.proofs.LearnedLines.{adds_learned, refutes_alone, no_tautology_false}
use Rattle.cdcl_search.proofs.Conflicts.{is_conflict, serves_zero}
use Rattle.cdcl_search.proofs.Added.{runs_added}

-- hints that refute are live
leads_live : (slots : Slots) (A : List Literal) (hs : List ℕ) (B : List Literal)
    → Leads (clause_at slots) A hs B → AllByRecursion (IsLive slots) hs
leads_live slots A [] B w = tt
leads_live slots A (h ∷ hs) B w = ((w.0, w.2), leads_live slots (w.1 ∷ A) hs B w.4)

pub refutes_live : (slots : Slots) (A : List Literal) (hints : List ℕ)
    → Refutes (clause_at slots) A hints → AllByRecursion (IsLive slots) hints
refutes_live slots A hints r =
    subst (AllByRecursion (IsLive slots)) (sym r.split)
    (all_append (IsLive slots) r.front (r.final ∷ []) (leads_live slots A r.front r.reached r.leads)
    ((r.clause, r.live), tt))

pub live_attached : (e : EngineState) (slots : Slots) (rs : List ℕ) → Searches e slots
    → AllByRecursion (IsLive slots) rs → All (λ r. is_attached e r ≡ true) rs
live_attached e slots rs s live =
    All-from_recursion (λ r. is_attached e r ≡ true) rs
    (all_weaker (IsLive slots) (λ r. is_attached e r ≡ true) rs (λ r l. s.all_attached r l) live)

-- a false clause above level 0 may be analyzed
pub conflict_of : (e : EngineState) (slots : Slots) (r : ℕ) → Searches e slots
    → 0 < depth_of e.trail → IsFalseClause slots e r
    → IfSome (clause_at slots r) (IsConflict e.trail)
conflict_of e slots r s deep f =
    subst (λ o. IfSome o (IsConflict e.trail)) (sym f.1)
    (is_conflict slots e.trail r f.0 s.fits.reasons deep
    (s.fixpoint (depth_of e.trail - 1) (omega arith)) f.1 f.2)

-- above level 0 all of it is noted
pub all_noted : (slots : Slots) (T : List Assigned) (units : List (Option ℕ)) (noted : ℕ)
    (rs : List ℕ)
    → NotesUnits slots (zero_of T) (depth_of T) units noted → 0 < depth_of T
    → AreNoted slots units T rs
all_noted slots T units noted rs n deep r m c at k k_in z =
    all_at (HasUnit slots units) (zero_of T) (negation k)
    (subst (AllByRecursion (HasUnit slots units)) (take_all noted (zero_of T) (n.all deep)) n.have)
    z

-- what is false has the engine's variables
pub small_literals : (T : List Assigned) (n : ℕ)
    → AllByRecursion (λ (a : Assigned). (0 < a.literal.variable) × (a.literal.variable ≤ n)) T
    → AllByRecursion (λ (l : Literal). (0 < l.variable) × (l.variable ≤ n)) (literals_of T)
small_literals [] n h = tt
small_literals (a ∷ T) n h = (h.0, small_literals T n h.1)

pub false_small : (A : List Literal) (n : ℕ) (c : List Literal)
    → AllByRecursion (λ (l : Literal). (0 < l.variable) × (l.variable ≤ n)) A → IsFalseUnder c A
    → IsWithin n c
false_small A n [] small f = (All-nil (λ (l : Literal). 0 < l.variable), omega arith)
false_small A n (l ∷ c) small f =
    let h =
    all_at (λ (k : Literal). (0 < k.variable) × (k.variable ≤ n)) A (negation l) small f.0 in
    let rest = false_small A n c small f.1 in
    let low : greatest_variable c ≤ n = rest.1 in
    let here : l.variable ≤ n = h.1 in
    (All-cons (λ (k : Literal). 0 < k.variable) l c h.0 rest.0, omega arith)

pub asserting_within : (e : EngineState) (slots : Slots) (c : List Literal) (back : ℕ)
    → Fits e slots → IsAsserting e.trail c back → IsWithin e.variables c
asserting_within e slots c back fits w =
    false_small (literals_of e.trail) e.variables c
    (small_literals e.trail e.variables
    (recursion_from_All (λ (a : Assigned). (0 < a.literal.variable)
    × (a.literal.variable ≤ e.variables)) e.trail fits.small)) w.falsified

greatest_low : (T : List Assigned) (c : List Literal) (d : ℕ) → All (λ l. level_of T l < d) c
    → greatest_level T c ≤ d
greatest_low T [] d h = omega arith
greatest_low T (l ∷ c) d h =
    let here : level_of T l < d = All-head (λ (k : Literal). level_of T k < d) l c h in
    let rest = greatest_low T c d (All-tail (λ (k : Literal). level_of T k < d) l c h) in
    omega arith

pub back_low : (T : List Assigned) (c : List Literal) (back : ℕ) → IsAsserting T c back
    → back ≤ depth_of T
back_low T c back w =
    let h = greatest_low T w.others (depth_of T) w.lower in let e = w.back in omega arith

-- the line is a step
pub adds_lesson : (slots : Slots) (T : List Assigned) (names : List Name) (given : Given)
    (ls : List LogLine) (c : List Literal) (back variables : ℕ) (rs : List ℕ) (hints : List Hint)
    → HasReasons (clause_at slots) [] T
    → IsAsserting T c back → 0 < depth_of T → IsRefutedBy slots T c rs
    → NamesStore slots names given ls → AreHintsOf slots names T rs hints → variables < 2 ^ 27
    → IsWithin variables c
    → AddsByHints given ls (record { kind = Learned; clause = c; hints = hints })
adds_lesson slots T names given ls c back variables rs hints reasons w deep refutes store h
    few within =
    let low : greatest_variable c ≤ variables = within.1 in
    adds_learned slots names given ls (record { kind = Learned; clause = c; hints = hints })
    (h.units ++ rs) store refl h.spelled
    (record {
      no_repeat = w.no_repeat;
      no_tautology = no_tautology_false c (literals_of T)
          (no_tautology (clause_at slots) T reasons) w.falsified;
      small = omega arith;
    })
    (refutes_alone slots T c back rs h.units h.zeros reasons w deep refutes h.within h.once
    h.are_units
    (serves_zero (clause_at slots) T c h.zeros rs reasons
    (all_weaker _ _ rs (λ r f d at k m level z. f d at k m z) h.serves)))

-- what was learned, in the words in which the line is written
pub record IsLesson (s : Search) (p : Input) (ls : List LogLine) (c : List Literal) (back : ℕ)
    (hints : List Hint) : Type 0 where
  pub asserting : IsAsserting (s.engine).trail c back
  pub adds : AddsByHints p.given ls (record { kind = Learned; clause = c; hints = hints })

pub is_lesson : (s : Search) (p : Input) (ls : List LogLine) (learned c : List Literal) (back : ℕ)
    (found rs : List ℕ) (names : List Name) (hints : List Hint)
    → Runs s p ls → 0 < depth_of (s.engine).trail
    → IsAsserting (s.engine).trail learned back
    → IsRefutedBy (s.store).slots (s.engine).trail learned found
    → AreHintsOf (s.store).slots names (s.engine).trail rs hints → c ≡ learned → rs ≡ found
    → names ≡ (s.names).items
    → IsLesson s p ls c back hints
is_lesson s p ls learned c back found rs names hints r deep asserting refuted hinted is_c
    is_rs is_names =
    let slots = (s.store).slots in
    let T = (s.engine).trail in
    let run = r.running in
    let w = subst (λ x. IsAsserting T x back) (sym is_c) asserting in
    let refutes =
    subst (λ x. IsRefutedBy slots T x rs) (sym is_c)
    (subst (IsRefutedBy slots T learned) (sym is_rs) refuted) in
    let h = subst (λ x. AreHintsOf slots x T rs hints) is_names hinted in
    let within = asserting_within s.engine slots c back run.searches.fits w in
    record {
      asserting = w;
      adds = adds_lesson slots T (s.names).items p.given ls c back (s.engine).variables rs
          hints run.searches.fits.reasons w deep refutes run.recorded.names h r.room.few within;
    }

-- What the search is once the line is written.
pub runs_learned : (m n : Search) (p : Input) (ls now : List LogLine) (l : LogLine)
    (T : List Assigned) (back : ℕ)
    → IsRunning m.engine (m.store).slots p.stack (tables_of m) (p.frozen).items p.first
    p.given ls
    → HasRoom m
    → All (λ x. x ≤ m.additions + 1) (m.stamps).items → IsAsserting T l.clause back
    → (m.engine).trail ≡ kept_to back T → AddsByHints p.given ls l
    → LogsLine m n ls now l → Runs n p now
runs_learned m n p ls now l T back run room past w trail adds added =
    let low : depth_of (m.engine).trail ≤ back =
    subst (λ X. depth_of X ≤ back) (sym trail) (kept_low back T) in
    runs_added m n p ls now l _ w.others run room past
    (λ level below.
    let kept : kept_to level (m.engine).trail ≡ kept_to level T = ap (kept_to level) trail
    ∙ kept_kept level back T (omega arith) in
    subst (λ X. (IsFalseUnder l.clause (literals_of X) → ⊥)
    × ((k : Literal) → IsUnit l.clause (literals_of X) k → ⊥)) (sym kept)
    (learned_fixpoint T l.clause back w level (omega arith) (back_low T l.clause back w)))
    w.split (by_hints (length (p.frozen).items) p.given ls l adds) added
