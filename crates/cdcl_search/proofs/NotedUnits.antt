-- Literals of level 0 are noted, one after another.
use Rattle.std.proofs.Common.{◌≡◌, ◌<◌, true, List, [], ◌∷◌, ◌++◌, length, Some, inl, inr, refl}
use Rattle.std.proofs.Common.{sym, ◌∙◌, ap, subst, arith}
use Rattle.std.specs.Prelude.{slice_index_or}
use Rattle.std.proofs.lemmas.Bool.{both_ways, or_cases, false≢true}
use Rattle.std.proofs.lemmas.List.{length-map}
use Rattle.cnf.specs.Literal.{Literal, literal_eq}
use Rattle.cnf.specs.Clause.{contains_literal}
use Rattle.cnf.specs.Refute.{IsUnit, IsFalseUnder}
use Rattle.cnf.proofs.Laws.{literal_eq-true}
use Rattle.clauses.specs.Slots.{Slots, clause_at}
use Rattle.propagate.specs.Trail.{Assigned, literals_of, depth_of}
use Rattle.propagate.proofs.Laws.{NoTautology, no_tautology}
use Rattle.propagate.proofs.Laws.{contains_at}
use Rattle.analyze.specs.Analyzer.{IsFixpoint}
use Rattle.lrat_log.specs.Log.{LogLine}
use Rattle.cdcl_order.specs.Orders.{positive}
use Rattle.cdcl_search.specs.declared.search.Search.{Search}
use Rattle.cdcl_search.specs.declared.input.Input.{Input}
use Rattle.cdcl_search.specs.Running.{Runs, Writes}
use Rattle.cdcl_search.specs.Parts.{KeepsTrail, NotesNext}
use Rattle.cdcl_search.proofs.Places.{clause_cases, clause_kept}
use Rattle.cdcl_search.proofs.Written.{writes_none, writes_join}

pub record IsNoting (old now : Search) (p : Input) (before ls : List LogLine) : Type 0 where
  pub keeps : KeepsTrail old now p ls
  pub flat : depth_of (now.engine).trail ≡ 0
  pub writes : Writes p.given before ls 0

pub keeps_trail : (s : Search) (p : Input) (ls : List LogLine) → Runs s p ls → KeepsTrail s s p ls
keeps_trail s p ls r =
    record {
      runs = r;
      trail = refl;
      variables = refl;
      policy = refl;
      fixpoint = λ q. q;
      false_stays = λ r f. f;
    }

pub noting_start : (s : Search) (p : Input) (ls : List LogLine) → Runs s p ls
    → depth_of (s.engine).trail ≡ 0 → IsNoting s s p ls ls
noting_start s p ls r flat =
    record { keeps = keeps_trail s p ls r; flat = flat; writes = writes_none p.given ls }

-- a clause of one true literal is neither false nor unit
fixpoint_true : (slots : Slots) (A : List Literal) (k : Literal) → NoTautology A
    → contains_literal k A ≡ true → IsFixpoint slots A → IsFixpoint (slots ++ Some (k ∷ []) ∷ []) A
fixpoint_true slots A k apart m fixpoint r c at =
    elim (clause_cases slots (k ∷ []) r c at) as (λ _. (IsFalseUnder c A → ⊥)
    × ((l : Literal) → IsUnit c A l → ⊥)) [
      | inl old ↦ fixpoint r c old
      | inr new ↦ subst (λ x. (IsFalseUnder x A → ⊥) × ((l : Literal) → IsUnit x A l → ⊥))
          (sym new.1) (
            λ f. apart k m f.0,
            λ l u. both_ways _ u.not_true
                (elim (or_cases (literal_eq l k) (contains_literal l []) u.member)
                as (λ _. contains_literal l A ≡ true) [
                  | inl s ↦ ap (λ x. contains_literal x A) (literal_eq-true l k s) ∙ m
                  | inr n ↦ absurd (false≢true n)
                ]),
          )
    ]

pub noting_more : (old now new : Search) (p : Input) (before ls more : List LogLine)
    → IsNoting old now p before ls → now.noted < length (now.engine).trail
    → NotesNext now new p ls more → IsNoting old new p before more
noting_more old now new p before ls more d lt next =
    let A : List Literal = literals_of (now.engine).trail in
    let k : Literal = slice_index_or A now.noted (positive 0) in
    let kept = d.keeps in
    let reasons = kept.runs.running.searches.fits.reasons in
    let apart : NoTautology A =
    no_tautology (clause_at (now.store).slots) (now.engine).trail reasons in
    let long : length A ≡ length (now.engine).trail =
    length-map (now.engine).trail (λ (x : Assigned). x.literal) in
    let m : contains_literal k A ≡ true = contains_at A now.noted (positive 0) (omega arith) in
    record {
      keeps = record {
        runs = next.runs;
        trail = next.trail ∙ kept.trail;
        variables = next.variables ∙ kept.variables;
        policy = next.policy ∙ kept.policy;
        fixpoint =
            λ q. subst (λ x. IsFixpoint x (literals_of (new.engine).trail)) (sym next.slots)
            (subst (λ T. IsFixpoint ((now.store).slots ++ Some (k ∷ []) ∷ []) (literals_of T))
            (sym next.trail) (fixpoint_true (now.store).slots A k apart m (kept.fixpoint q)));
        false_stays =
            λ q f. (let x = kept.false_stays q f in (
              x.0,
              subst (λ s. clause_at s q ≡ Some x.0) (sym next.slots)
                  (clause_kept (now.store).slots (k ∷ []) x.0 q x.1),
              subst (λ T. IsFalseUnder x.0 (literals_of T)) (sym next.trail) x.2,
            ));
      };
      flat = ap depth_of next.trail ∙ d.flat;
      writes = writes_join p.given before ls more 0 0 d.writes next.writes;
    }
