-- Cores: what an assumption that is false rests on, and the line of its clause.
use Rattle.std.proofs.Common.{◌≡◌, ℕ, ◌+◌, ◌<◌, ◌≤◌, ◌-◌, ◌||◌, true, false, List}
use Rattle.std.proofs.Common.{[], ◌∷◌, ◌++◌}
use Rattle.std.proofs.Common.{length, take, map, Option, Some, refl, sym, ◌∙◌, ap, subst}
use Rattle.std.proofs.Common.{arith}
use Rattle.std.specs.Prelude.{All, Contains}
use Rattle.std.specs.List.{AllByRecursion}
use Rattle.std.proofs.Common.{get_or, drop, inl, inr}
use Rattle.std.proofs.lemmas.Bool.{cases_lt}
use Rattle.std.proofs.lemmas.List.{take_all, take_more}
use Rattle.std.proofs.lemmas.List.Elements.{All-nil, All-cons, All-head, All-tail, All-push}
use Rattle.std.proofs.lemmas.List.Elements.{recursion_from_All}
use Rattle.cnf.specs.Literal.{Literal, negation}
use Rattle.cnf.specs.Clause.{contains_literal, has_repeat, is_subset}
use Rattle.cnf.proofs.Laws.{all_at, contains_front, contains_negation, subset_from}
use Rattle.clauses.specs.Slots.{Slots, clause_at}
use Rattle.clauses.specs.Within.{Within}
use Rattle.clauses.proofs.Laws.{clause_new}
use Rattle.propagate.specs.Trail.{Assigned, literals_of, depth_of, kept_to, level_in, value_in}
use Rattle.propagate.specs.Trail.{HasReasons, level_of, reason_in}
use Rattle.propagate.specs.Watches.{EngineState}
use Rattle.propagate.specs.Fits.{Fits, HasTrue, IsWithin}
use Rattle.propagate.proofs.Laws.{negation_twice, false_value, kept_prefix, literals-append}
use Rattle.propagate.proofs.Laws.{no_tautology}
use Rattle.analyze.specs.Analyzer.{IsFalsified, IsFinal, IsAsserting, IsRefutedBy, decided}
use Rattle.analyze.specs.declared.analyzer.FinalClause.{FinalClause}
use Rattle.analyze.proofs.Laws.{level_is, tail_is}
use Rattle.analyze.proofs.Laws.{low_kept, decided_zero, decided_reasons, decided_deep, decided_all}
use Rattle.lrat_log.specs.declared.lines.Hint.{Hint}
use Rattle.lrat_log.specs.declared.lines.Name.{Name}
use Rattle.lrat_log.specs.declared.lines.Kind.TheVariants.{Learned}
use Rattle.lrat_log.specs.Log.{LogLine}
use Rattle.lrat_log.specs.Steps.{IsBaseOf, IsNewTo, log_live, nothing_exempt}
use Rattle.cdcl_search.specs.declared.input.Input.{Input}
use Rattle.cdcl_search.specs.declared.search.Search.{Search}
use Rattle.cdcl_search.specs.Invariant.{HasUnit, NotesUnits, zero_of}
use Rattle.cdcl_search.specs.Hinting.{AreHintsOf, AreNoted, Serves}
use Rattle.cdcl_search.specs.Running.{Runs}
use Rattle.cdcl_search.specs.Cores.{HasSubset, AreAssumed, IsShown, IsCoreClause}
use Rattle.cdcl_search.proofs.LogLines.{AddsByHints}
use Rattle.cdcl_search.proofs.LearnedLines.{new_to_log}
use Rattle.cdcl_search.proofs.Lessons.{adds_lesson, false_small, small_literals}

-- Negations.

negated_twice : (c : List Literal) → map negation (map negation c) ≡ c
negated_twice [] = refl
negated_twice (l ∷ c) = λ i. negation_twice l i ∷ negated_twice c i

negated_once : (c : List Literal) → has_repeat (map negation c) ≡ has_repeat c
negated_once [] = refl
negated_once (l ∷ c) =
    let here : contains_literal (negation l) (map negation c) ≡ contains_literal l c =
    contains_negation (negation l) c ∙ ap (λ k. contains_literal k c) (negation_twice l) in
    λ i. here i || negated_once c i

negated_all : (asked c : List Literal) → All (λ l. Contains asked (negation l)) c
    → All (Contains asked) (map negation c)
negated_all asked [] h = All-nil (Contains asked)
negated_all asked (l ∷ c) h =
    All-cons (Contains asked) (negation l) (map negation c)
    (All-head (λ k. Contains asked (negation k)) l c h)
    (negated_all asked c (All-tail (λ k. Contains asked (negation k)) l c h))

-- What was assumed.

pub some_is : (xs ys : List Literal) (k : Literal) → xs ≡ k ∷ ys → 0 < length xs
some_is xs ys k e = subst (λ x. 0 < length x) (sym e) (omega arith)

pub core_assumed : (asked lits core others : List Literal) (l : Literal) → Contains asked l
    → lits ≡ negation l ∷ others → has_repeat lits ≡ false
    → All (λ k. Contains asked (negation k)) others → core ≡ map negation lits
    → AreAssumed asked core
core_assumed asked lits core others l own split once all is =
    let whole : core ≡ negation (negation l) ∷ map negation others =
    is ∙ ap (map negation) split in
    record {
      some = some_is core (map negation others) (negation (negation l)) whole;
      assumed = subst (All (Contains asked)) (sym whole)
          (All-cons (Contains asked) (negation (negation l)) (map negation others)
          (subst (Contains asked) (sym (negation_twice l)) own) (negated_all asked others all));
      once = ap has_repeat is ∙ negated_once lits ∙ once;
    }

pub core_negated : (lits core : List Literal) → core ≡ map negation lits
    → map negation core ≡ lits
core_negated lits core is = ap (map negation) is ∙ negated_twice lits

-- A literal of level 0.

pub zero_unit : (slots : Slots) (T : List Assigned) (units : List (Option ℕ)) (noted : ℕ)
    (k : Literal) → NotesUnits slots (zero_of T) (depth_of T) units noted
    → length (zero_of T) ≤ noted → contains_literal k (zero_of T) ≡ true → HasUnit slots units k
zero_unit slots T units noted k n all z =
    all_at (HasUnit slots units) (zero_of T) k
    (subst (AllByRecursion (HasUnit slots units)) (take_all noted (zero_of T) all) n.have) z

pub zero_noted : (slots : Slots) (T : List Assigned) (units : List (Option ℕ)) (noted : ℕ)
    (rs : List ℕ) → NotesUnits slots (zero_of T) (depth_of T) units noted
    → length (zero_of T) ≤ noted → AreNoted slots units T rs
zero_noted slots T units noted rs n all r m c at k k_in z =
    zero_unit slots T units noted (negation k) n all z

pub zero_false : (slots : Slots) (T : List Assigned) (l : Literal)
    → HasReasons (clause_at slots) [] T → value_in T l ≡ Some false → level_in T l.variable ≡ Some 0
    → contains_literal (negation l) (zero_of T) ≡ true
zero_false slots T l reasons e level =
    low_kept (clause_at slots) T 0 (negation l) 0 reasons (false_value T l e) level (omega arith)

itself : (k : Literal) → is_subset (k ∷ []) (k ∷ []) ≡ true
itself k = subset_from (k ∷ []) (k ∷ []) (λ l e. e)

pub zero_shown : (slots : Slots) (units : List (Option ℕ)) (asked core : List Literal) (l : Literal)
    → HasUnit slots units (negation l) → Contains asked l → core ≡ l ∷ [] → IsShown slots asked core
zero_shown slots units asked core l u own is =
    subst (IsShown slots asked) (sym is) (record {
      assumed = record {
        some = omega arith;
        assumed = All-cons (Contains asked) l [] own (All-nil (Contains asked));
        once = refl;
      };
      shown = record {
        reference = u.0;
        clause = negation l ∷ [];
        live = u.2;
        within = itself (negation l);
      };
    })

-- The line.

-- where the literals of level 0 are the same, hints are
hints_same : (slots : Slots) (names : List Name) (T D : List Assigned) (rs : List ℕ)
    (hints : List Hint) → kept_to 0 D ≡ kept_to 0 T → AreHintsOf slots names T rs hints
    → AreHintsOf slots names D rs hints
hints_same slots names T D rs hints e h = record {
  units = h.units;
  zeros = h.zeros;
  spelled = h.spelled;
  are_units = h.are_units;
  within = subst (λ X. Within h.zeros (literals_of X)) (sym e) h.within;
  once = h.once;
  serves = subst (λ X. Serves (clause_at slots) (literals_of X) h.zeros rs) (sym e) h.serves;
  needed = h.needed;
}

abbrev IsSmall : ℕ → Assigned → Type 0
IsSmall n a = (0 < a.literal.variable) × (a.literal.variable ≤ n)

-- the clause has the engine's variables
pub core_within : (e : EngineState) (slots : Slots) (l : Literal) (r : ℕ) (clause : FinalClause)
    → Fits e slots → IsFalsified e.trail l r → l.variable ≤ e.variables
    → IsFinal slots e.trail l r clause → IsWithin e.variables clause.lits.items
core_within e slots l r clause fits falsified small final =
    let T = e.trail in
    let n = e.variables in
    let all : AllByRecursion (IsSmall n) T = recursion_from_All (IsSmall n) T fits.small in
    let own =
    all_at (λ (k : Literal). (0 < k.variable) × (k.variable ≤ n)) (literals_of T)
    (negation l) (small_literals T n all) falsified.negated in
    false_small (literals_of (decided l T)) n clause.lits.items
    (small_literals (decided l T) n
    (decided_all (IsSmall n) (IsSmall n) l T (λ a h. h) (own.0, small) all))
    final.asserting.falsified

pub core_adds : (s : Search) (p : Input) (ls : List LogLine) (clause : FinalClause)
    (lits : List Literal) (rs : List ℕ) (names : List Name) (hints : List Hint) → Runs s p ls
    → IsCoreClause s clause → lits ≡ clause.lits.items → rs ≡ clause.hints.items
    → names ≡ (s.names).items → AreHintsOf (s.store).slots names (s.engine).trail rs hints
    → AddsByHints p.given ls (record { kind = Learned; clause = lits; hints = hints })
core_adds s p ls clause lits rs names hints r k is_lits is_rs is_names h =
    let slots = (s.store).slots in
    let T = (s.engine).trail in
    let l = k.literal in
    let D = decided l T in
    let run = r.running in
    let reasons = run.searches.fits.reasons in
    let w = k.final.asserting in
    let named =
    subst (λ x. AreHintsOf slots x T rs hints) is_names h in
    let same =
    hints_same slots (s.names).items T D rs hints (decided_zero 0 l T k.falsified.above) named in
    let within =
    core_within s.engine slots l k.reason clause run.searches.fits k.falsified k.small k.final in
    adds_lesson slots D (s.names).items p.given ls lits k.final.back (s.engine).variables rs hints
    (decided_reasons (clause_at slots) [] l T reasons)
    (subst (λ x. IsAsserting D x k.final.back) (sym is_lits) w)
    (decided_deep l T (negation l, k.falsified.negated, refl))
    (subst (λ x. IsRefutedBy slots D x rs) (sym is_lits)
    (subst (IsRefutedBy slots D clause.lits.items) (sym is_rs) k.final.hints))
    run.recorded.names same r.room.few
    (subst (IsWithin (s.engine).variables) (sym is_lits) within)

pub core_new : (s : Search) (p : Input) (ls : List LogLine) (clause : FinalClause)
    (lits : List Literal) → Runs s p ls → IsCoreClause s clause → lits ≡ clause.lits.items
    → (base : ℕ) → IsBaseOf p.given base → IsNewTo nothing_exempt (log_live p.given base ls) lits
core_new s p ls clause lits r k is base above =
    new_to_log (s.store).slots (s.names).items base (log_live p.given base ls) lits
    (r.running.recorded.names.live base above)
    (λ q d at. ap (is_subset d) is ∙ k.new q d at)

pub core_has : (slots now : Slots) (lits c : List Literal) → now ≡ slots ++ Some lits ∷ []
    → lits ≡ c → HasSubset now c
core_has slots now lits c e is = record {
  reference = length slots;
  clause = lits;
  live = subst (λ x. clause_at x (length slots) ≡ Some lits) (sym e) (clause_new slots lits);
  within = subset_from lits c (λ l m. ap (contains_literal l) (sym is) ∙ m);
}

-- no literal of the clause is true at level 0
pub core_untrue : (slots : Slots) (T : List Assigned) (l : Literal) (r : ℕ) (clause : FinalClause)
    → HasReasons (clause_at slots) [] T → IsFalsified T l r → IsFinal slots T l r clause
    → HasTrue clause.lits.items (zero_of T) → ⊥
core_untrue slots T l r clause reasons falsified final h =
    let D = decided l T in
    let p = kept_prefix 0 D in
    let zero : contains_literal h.0 (zero_of D) ≡ true =
    subst (λ X. contains_literal h.0 (literals_of X) ≡ true)
    (sym (decided_zero 0 l T falsified.above)) h.2 in
    let there : contains_literal h.0 (literals_of D) ≡ true =
    subst (λ X. contains_literal h.0 X ≡ true)
    (sym (ap literals_of p.1 ∙ literals-append (kept_to 0 D) p.0))
    (contains_front h.0 (zero_of D) (literals_of p.0) zero) in
    no_tautology (clause_at slots) D (decided_reasons (clause_at slots) [] l T reasons) h.0 there
    (all_at (λ k. contains_literal (negation k) (literals_of D) ≡ true) clause.lits.items h.0
    final.asserting.falsified h.1)

-- What was assumed, as the code finds it.

pub assumed_more : (asked c : List Literal) (i : ℕ) (k q : Literal) → i < length c
    → k ≡ get_or c i k → q ≡ negation k → Contains asked q
    → All (λ l. Contains asked (negation l)) (take i c)
    → All (λ l. Contains asked (negation l)) (take (i + 1) c)
assumed_more asked c i k q lt at is own all =
    let P : Literal → Type 0 = λ l. Contains asked (negation l) in
    subst (All P) (sym (take_more c i k lt))
    (All-push P (take i c) (get_or c i k) all (subst P at (subst (Contains asked) is own)))

pub core_from : (slots : Slots) (T : List Assigned) (l : Literal) (r : ℕ) (clause : FinalClause)
    (asked lits core : List Literal) → IsFinal slots T l r clause → Contains asked l
    → lits ≡ clause.lits.items
    → All (λ k. Contains asked (negation k)) (take (length lits - 1) (drop 1 lits))
    → core ≡ map negation lits → AreAssumed asked core
core_from slots T l r clause asked lits core final own is rest core_is =
    let split : lits ≡ negation l ∷ final.others = is ∙ final.split in
    core_assumed asked lits core final.others l own split
    (ap has_repeat is ∙ final.asserting.no_repeat)
    (subst (All (λ k. Contains asked (negation k))) (tail_is (negation l) final.others lits split)
    rest) core_is

pub falsified_there : (T : List Assigned) (l : Literal) (r v w : ℕ) (level : Option ℕ)
    → value_in T l ≡ Some false → level ≡ level_in T v → v ≡ l.variable → (level ≡ Some 0 → ⊥)
    → reason_in T w ≡ Some r → w ≡ l.variable → IsFalsified T l r
falsified_there T l r v w level e at v_is up reason w_is =
    let negated = false_value T l e in
    let found = level_is T l negated in
    record {
      negated = negated;
      above = elim (cases_lt 0 (level_of T l)) [
        | inl lt ↦ lt
        | inr ge ↦
            let zero : level_of T l ≡ 0 = omega arith in
            absurd (up (at ∙ ap (level_in T) v_is ∙ found ∙ ap Some zero))
      ];
      reason_is = ap (reason_in T) (sym w_is) ∙ reason;
    }
