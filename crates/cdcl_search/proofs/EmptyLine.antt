-- The Empty line, by a clause that is false at level 0.
use Rattle.std.proofs.Common.{◌≡◌, ℕ, ◌≤◌, true, List, [], ◌∷◌, ◌++◌, length, refl, sym, ◌∙◌, ap}
use Rattle.std.proofs.Common.{subst, arith}
use Rattle.std.specs.List.{AllByRecursion}
use Rattle.std.proofs.lemmas.List.{take_all}
use Rattle.cnf.specs.Literal.{Literal, negation}
use Rattle.cnf.specs.Clause.{contains_literal}
use Rattle.cnf.proofs.Laws.{all_at}
use Rattle.clauses.specs.Slots.{clause_at}
use Rattle.propagate.specs.Trail.{literals_of, depth_of}
use Rattle.propagate.specs.Fits.{IsFalseClause}
use Rattle.propagate.proofs.Laws.{no_tautology}
use Rattle.lrat_log.specs.declared.lines.Hint.{Hint}
use Rattle.lrat_log.specs.declared.lines.Kind.TheVariants.{Empty}
use Rattle.lrat_log.specs.Log.{LogLine}
use Rattle.cdcl_search.specs.declared.search.Search.{Search}
use Rattle.cdcl_search.specs.declared.input.Input.{Input}
use Rattle.cdcl_search.specs.Hinting.{AreHintsOf, AreNoted}
use Rattle.cdcl_search.specs.Invariant.{HasUnit, zero_of}
use Rattle.cdcl_search.specs.Running.{Runs, IsEnded}
use Rattle.cdcl_search.proofs.LogLines.{AddsByHints, by_hints}
use Rattle.cdcl_search.proofs.LearnedLines.{adds_learned}
use Rattle.cdcl_search.proofs.ZeroLines.{refutes_empty}
use Rattle.cdcl_search.proofs.MoreMoves.{answer_unsat}
use Rattle.cdcl_search.proofs.UnitLines.{flat_zero}

-- all of level 0 is noted
pub all_noted : (s : Search) (p : Input) (ls : List LogLine) (rs : List ℕ) → Runs s p ls
    → length (zero_of (s.engine).trail) ≤ s.noted
    → AreNoted (s.store).slots (s.units).items (s.engine).trail rs
all_noted s p ls rs r full q m c at x x_in f =
    let Z : List Literal = zero_of (s.engine).trail in
    all_at (HasUnit (s.store).slots (s.units).items) Z (negation x)
    (subst (AllByRecursion (HasUnit (s.store).slots (s.units).items)) (take_all s.noted Z full)
    r.running.units.have) f

pub adds_empty : (s : Search) (p : Input) (ls : List LogLine) (hints : List Hint) (r : ℕ)
    → Runs s p ls → depth_of (s.engine).trail ≡ 0 → IsFalseClause (s.store).slots s.engine r
    → AreHintsOf (s.store).slots (s.names).items (s.engine).trail (r ∷ []) hints
    → AddsByHints p.given ls (record { kind = Empty; clause = []; hints = hints })
adds_empty s p ls hints r run flat wrong h =
    let T = (s.engine).trail in
    let slots = (s.store).slots in
    let z = flat_zero T flat in
    let apart = no_tautology (clause_at slots) T run.running.searches.fits.reasons in
    let in_trail : (y : Literal) → contains_literal y h.zeros ≡ true
    → contains_literal y (literals_of T) ≡ true = λ y m. ap (contains_literal y) (sym z)
    ∙ h.within y m in
    adds_learned slots (s.names).items p.given ls
    (record { kind = Empty; clause = []; hints = hints }) (h.units ++ r ∷ [])
    run.running.recorded.names refl h.spelled
    (record { no_repeat = refl; no_tautology = refl; small = omega arith })
    (refutes_empty (clause_at slots) h.units h.zeros r wrong.0 h.are_units h.once
    (λ y m o. apart y (in_trail y m) (in_trail (negation y) o)) wrong.1
    (λ k m. h.serves.0 wrong.0 wrong.1 k m (ap (contains_literal (negation k)) z
    ∙ all_at (λ y. contains_literal (negation y) (literals_of T) ≡ true) wrong.0 k
    wrong.2 m)))

pub is_ended : (s : Search) (p : Input) (ls : List LogLine) (hints : List Hint) → Runs s p ls
    → AddsByHints p.given ls (record { kind = Empty; clause = []; hints = hints })
    → IsEnded p (ls ++ record { kind = Empty; clause = []; hints = hints } ∷ [])
is_ended s p ls hints run adds =
    let w =
    answer_unsat (length (p.frozen).items) p.given ls
    (record { kind = Empty; clause = []; hints = hints }) run.running.recorded.log.stays
    run.running.recorded.log.unrefuted
    (by_hints (length (p.frozen).items) p.given ls
    (record { kind = Empty; clause = []; hints = hints }) adds) refl in
    record { stays = w.0; refuted = w.1 }
