-- The engine between the moves of a search: at the ends of the levels below the current one nothing
-- was false or unit.
use Rattle.std.proofs.Common.{◌≡◌, ℕ, ◌+◌, ◌<◌, ◌≤◌, true, false, List, [], ◌∷◌, ◌++◌, length}
use Rattle.std.proofs.Common.{map, Some, None, inl, inr, sym, ◌∙◌, ap, subst, arith}
use Rattle.std.specs.Prelude.{IfSome}
use Rattle.std.specs.List.{AllByRecursion}
use Rattle.std.specs.List.Sorted.{IsStrictlyIncreasing}
use Rattle.std.proofs.lemmas.List.Elements.{recursion_from_All}
use Rattle.std.proofs.lemmas.Bool.{cases_lt, cases_eq}
use Rattle.cnf.specs.Literal.{Literal}
use Rattle.cnf.specs.Refute.{IsUnit, IsFalseUnder}
use Rattle.clauses.specs.Slots.{Slots, Renaming, renamed, IsRenaming}
use Rattle.propagate.specs.Trail.{Assigned, literals_of, depth_of, kept_to}
use Rattle.propagate.specs.Watches.{EngineState, is_attached, SameAttached, SetsAttached}
use Rattle.propagate.specs.Fits.{Fits, GrowsByUnits, MovesAttached, renamed_trail}
use Rattle.propagate.proofs.Laws.{kept_push, kept_all, depth_named}
use Rattle.propagate.proofs.Laws.{depth_push}
use Rattle.propagate.proofs.Laws.{kept_kept, kept_low}
use Rattle.propagate.proofs.Laws.{kept_named, trail_listed}
use Rattle.propagate.specs.Renames.{named_trail}
use Rattle.propagate.proofs.Laws.{reasons_listed}
use Rattle.cdcl_search.specs.Invariant.{Searches, zero_of}
use Rattle.analyze.specs.Analyzer.{IsFixpoint}
use Rattle.cdcl_search.proofs.Places.{clause_cases, came, same_clause}
use Rattle.analyze.proofs.Laws.{kept_more, depth_follow}

pub searches_propagate : (slots : Slots) (e f : EngineState) → Searches e slots
    → GrowsByUnits slots e f → SameAttached e f → Fits f slots → f.failed ≡ false → Searches f slots
searches_propagate slots e f s grows same fits works = record {
  works = works;
  fits = fits;
  all_attached = λ r live. same r ∙ s.all_attached r live;
  fixpoint = λ level below.
      let depth : depth_of f.trail ≡ depth_of e.trail =
      ap depth_of grows.1 ∙ depth_follow slots f (literals_of e.trail) e.trail grows.0 grows.2 in
      let low : level < depth_of e.trail = omega arith in
      let kept : kept_to level f.trail ≡ kept_to level e.trail =
      ap (kept_to level) grows.1 ∙ kept_more level e.trail grows.0 low in
      subst (λ T. IsFixpoint slots (literals_of T)) (sym kept) (s.fixpoint level low);
}

pub searches_decide : (slots : Slots) (e f : EngineState) (l : Literal) → Searches e slots
    → IsFixpoint slots (literals_of e.trail)
    → f.trail ≡ e.trail ++ record { literal = l; reason = None } ∷ []
    → SameAttached e f → f.failed ≡ e.failed → Fits f slots → Searches f slots
searches_decide slots e f l s fixpoint trail same failed fits = record {
  works = failed ∙ s.works;
  fits = fits;
  all_attached = λ r live. same r ∙ s.all_attached r live;
  fixpoint = λ level below.
      let a : Assigned = record { literal = l; reason = None } in
      let depth : depth_of (e.trail ++ a ∷ []) ≡ depth_of e.trail + 1 = depth_push e.trail a in
      let deeper : depth_of f.trail ≡ depth_of (e.trail ++ a ∷ []) = ap depth_of trail in
      let low : level < depth_of (e.trail ++ a ∷ []) = omega arith in
      let kept : kept_to level f.trail ≡ kept_to level e.trail =
      ap (kept_to level) trail ∙ kept_push level e.trail a low in
      elim (cases_lt level (depth_of e.trail)) [
        | inl lower ↦
            subst (λ T. IsFixpoint slots (literals_of T)) (sym kept) (s.fixpoint level lower)
        | inr here ↦
            subst (λ T. IsFixpoint slots (literals_of T)) (sym (kept ∙ kept_all level e.trail here))
            fixpoint
      ];
}

pub searches_backtrack : (slots : Slots) (e f : EngineState) (to : ℕ) → Searches e slots
    → to ≤ depth_of e.trail → f.trail ≡ kept_to to e.trail
    → SameAttached e f → f.failed ≡ e.failed → Fits f slots → Searches f slots
searches_backtrack slots e f to s within trail same failed fits = record {
  works = failed ∙ s.works;
  fits = fits;
  all_attached = λ r live. same r ∙ s.all_attached r live;
  fixpoint = λ level below.
      let depth : depth_of f.trail ≤ to =
      subst (λ T. depth_of T ≤ to) (sym trail) (kept_low to e.trail) in
      let kept : kept_to level f.trail ≡ kept_to level e.trail =
      ap (kept_to level) trail ∙ kept_kept level to e.trail (omega arith) in
      subst (λ T. IsFixpoint slots (literals_of T)) (sym kept) (s.fixpoint level (omega arith));
}

-- one more clause, which is neither false nor unit at the ends of lower levels
pub searches_add : (slots : Slots) (e f : EngineState) (c : List Literal) → Searches e slots
    → SetsAttached e f (length slots) true → f.trail ≡ e.trail → f.failed ≡ false
    → Fits f (slots ++ Some c ∷ [])
    → ((level : ℕ) → level < depth_of e.trail
    → (IsFalseUnder c (literals_of (kept_to level e.trail)) → ⊥)
    × ((l : Literal) → IsUnit c (literals_of (kept_to level e.trail)) l → ⊥))
    → Searches f (slots ++ Some c ∷ [])
searches_add slots e f c s sets trail works fits new = record {
  works = works;
  fits = fits;
  all_attached = λ r live. elim (cases_eq r (length slots)) [
    | inl here ↦ ap (is_attached f) here ∙ sets.0
    | inr other ↦ elim (clause_cases slots c r live.0 live.1) [
      | inl old ↦ sets.1 r other ∙ s.all_attached r (live.0, old)
      | inr last ↦ absurd (other last.0)
    ]
  ];
  fixpoint = λ level below r d at.
      let low : level < depth_of e.trail = subst (λ T. level < depth_of T) trail below in
      subst (λ T. (IsFalseUnder d (literals_of (kept_to level T)) → ⊥)
      × ((l : Literal) → IsUnit d (literals_of (kept_to level T)) l → ⊥)) (sym trail)
      (elim (clause_cases slots c r d at)
      as (λ _. (IsFalseUnder d (literals_of (kept_to level e.trail)) → ⊥)
      × ((l : Literal) → IsUnit d (literals_of (kept_to level e.trail)) l → ⊥)) [
        | inl old ↦ s.fixpoint level low r d old
        | inr last ↦ subst (λ x. (IsFalseUnder x (literals_of (kept_to level e.trail)) → ⊥)
            × ((l : Literal) → IsUnit x (literals_of (kept_to level e.trail)) l → ⊥)) (sym last.1)
            (new level low)
      ]);
}

-- A compacted store.

pub searches_move : (before after : Slots) (ms : Renaming) (e f : EngineState)
    → IsRenaming before after ms → IsStrictlyIncreasing (map (λ m. m.0) ms) → Searches e before
    → MovesAttached e f ms → f.trail ≡ renamed_trail ms e.trail → f.failed ≡ e.failed → Fits f after
    → Searches f after × (zero_of f.trail ≡ zero_of e.trail) × (depth_of f.trail ≡ depth_of e.trail)
searches_move before after ms e f renames rises s moves trail failed fits =
    let listed : AllByRecursion (λ a. IfSome a.reason (λ r. (q : ℕ) × (renamed ms r ≡ Some q)))
    e.trail =
    recursion_from_All (λ a. IfSome a.reason (λ r. (q : ℕ) × (renamed ms r ≡ Some q))) e.trail
    (reasons_listed e before after ms s.fits renames) in
    let as_named : f.trail ≡ named_trail ms e.trail =
    trail ∙ sym (trail_listed ms e.trail listed) in
    let depth : depth_of f.trail ≡ depth_of e.trail =
    ap depth_of as_named ∙ depth_named ms e.trail in
    let kept : (level : ℕ)
    → literals_of (kept_to level f.trail) ≡ literals_of (kept_to level e.trail) =
    λ level. ap (λ T. literals_of (kept_to level T)) as_named ∙ kept_named ms level e.trail in (
      record {
        works = failed ∙ s.works;
        fits = fits;
        all_attached = λ q live.
            let w = came before after ms renames rises q live.0 live.1 in
            moves.to w.0 q w.1
            ∙ s.all_attached w.0 (
              live.0,
              sym (same_clause before after ms renames w.0 q w.1)
                  ∙ live.1,
            );
        fixpoint = λ level below q c at.
            let w = came before after ms renames rises q c at in
            subst (λ A. (IsFalseUnder c A → ⊥) × ((l : Literal) → IsUnit c A l → ⊥))
            (sym (kept level))
            (s.fixpoint level (subst (λ k. level < k) depth below) w.0 c
            (sym (same_clause before after ms renames w.0 q w.1) ∙ at));
      },
      kept 0,
      depth,
    )
