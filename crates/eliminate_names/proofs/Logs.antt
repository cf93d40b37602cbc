-- A log grows by a line: what is live after it, and that its lines are steps.
use Rattle.std.proofs.Common.{◌≡◌, ℕ, ◌+◌, Bool, true, false, List, [], ◌∷◌, ◌++◌, map, Some}
use Rattle.std.proofs.Common.{inl, refl, sym, ◌∙◌, ap, subst, arith}
use Rattle.std.specs.Prelude.{if◌then◌else◌, nat_eq}
use Rattle.std.specs.List.{AllByRecursion, IsDistinct}
use Rattle.cnf.specs.Literal.{Literal, negation}
use Rattle.cnf.specs.Lrat.{ProofLine, CandidateHints, Addition, Deletion, Live, Step, Chain}
use Rattle.cnf.specs.Lrat.{with_clause, without_ids}
use Rattle.lrat_log.specs.Log.{LogLine, Given, start_over, is_delete, id_of, name_of, leading_ids}
use Rattle.lrat_log.specs.Log.{group_ids, numbered_line, numbered_on, numbered_lines}
use Rattle.lrat_log.specs.Steps.{added_count}
use Rattle.eliminate_names.specs.Work.{IsRupLine}
use Rattle.lrat_log.proofs.Laws.{live_after-append, chain_join, live_more, base_front}
use Rattle.lrat_log.proofs.Laws.{refutes_covered, ids_covered, last_numbered, numbered_on-append}
use Rattle.lrat_log.specs.Steps.{live_after, AreLogSteps, IsBaseOf, log_live}

pub numbered_lines-more : (base : ℕ) (ls : List LogLine) (l : LogLine)
    → numbered_lines base (ls ++ l ∷ [])
    ≡ numbered_lines base ls ++ numbered_line base (added_count ls) l ∷ []
numbered_lines-more base ls l = numbered_on-append base 0 ls (l ∷ [])
    ∙ ap (λ n. numbered_on base 0 ls ++ numbered_on base n (l ∷ []))
    (let e : 0 + added_count ls ≡ added_count ls = omega arith in e)

live_line : (b : Bool) (live : Live) (lead id : ℕ) (ids hints : List ℕ) (c : List Literal)
    (groups : List CandidateHints) (ls : List ProofLine)
    → live_after live ((if b then Deletion lead ids else Addition id c hints groups) ∷ ls)
    ≡ live_after (if b then without_ids live ids else with_clause live id c) ls
live_line true live lead id ids hints c groups ls = refl
live_line false live lead id ids hints c groups ls = refl

step_live : (old : Live) (l : ProofLine) (new : Live) → Step old l new
    → new ≡ live_after old (l ∷ [])
step_live old (Addition id c hints groups) new s = s.2
step_live old (Deletion lead ids) new s = s.2

step_chain : (old : Live) (l : ProofLine) (new : Live) → Step old l new
    → Chain old (l ∷ []) (live_after old (l ∷ []))
step_chain old l new s = (new, s, sym (step_live old l new s))

-- a log is longer by a line that is a step at its end, whatever the base
pub log_steps_more : (given : Given) (ls : List LogLine) (l : LogLine) → AreLogSteps given ls
    → ((base : ℕ) → IsBaseOf given base
    → (new : Live) × Step (live_after (start_over given base) (numbered_lines base ls))
    (numbered_line base (added_count ls) l) new)
    → AreLogSteps given (ls ++ l ∷ [])
log_steps_more given ls l steps one base above =
    let start : Live = start_over given base in
    let mid : Live = live_after start (numbered_lines base ls) in
    let s = one base above in
    subst (λ ms. Chain start ms (live_after start ms)) (sym (numbered_lines-more base ls l))
    (subst (λ (x : Live). Chain start (numbered_lines base ls ++ numbered_line base (added_count ls)
    l ∷ []) x) (sym (live_after-append start (numbered_lines base ls)
    (numbered_line base (added_count ls) l ∷ [])))
    (chain_join start mid (live_after mid (numbered_line base (added_count ls) l ∷ []))
    (numbered_lines base ls) (numbered_line base (added_count ls) l ∷ []) (steps base above)
    (step_chain mid (numbered_line base (added_count ls) l) s.0 s.1)))

-- it is a step at the end of the log, where more clauses are given
pub rup_line_more : (given more : Given) (ls : List LogLine) (l : LogLine) → IsRupLine given ls l
    → AreLogSteps (given ++ more) ls → AreLogSteps (given ++ more) (ls ++ l ∷ [])
rup_line_more given more ls l r steps = log_steps_more (given ++ more) ls l steps (λ base above.
    let old : Live = live_after (start_over (given ++ more) base) (numbered_lines base ls) in
    let id : ℕ = base + added_count ls + 1 in (
      with_clause old id l.clause,
      subst (λ b. Step old
          (if b then Deletion (base + added_count ls) (map (λ h. id_of base (name_of h)) l.hints)
          else Addition id l.clause (leading_ids base l.hints) (group_ids base l.hints))
          (with_clause old id l.clause)) (sym r.adds) (
            record {
              rising =
                  omega (
                    arith,
                    last_numbered base 0 ls (start_over (given ++ more) base)
                        (let e : base ≡ base + 0 = omega arith in e),
                  );
              no_repeat = r.no_repeat;
              no_tautology = r.no_tautology;
              small = r.small;
            },
            inl (
              r.plain base,
              refutes_covered (log_live given base ls) old.clause_at (live_more given more base ls)
                  (map negation l.clause) (leading_ids base l.hints)
                  (r.refutes base (base_front given more base above)),
            ),
            refl,
          ),
    ))

-- a line that deletes what is live
pub record IsDeleteLine (given : Given) (ls : List LogLine) (l : LogLine) : Type 0 where
  pub deletes : is_delete l.kind ≡ true
  pub distinct : (base : ℕ) → IsBaseOf given base
      → IsDistinct nat_eq (map (λ h. id_of base (name_of h)) l.hints)
  pub live : (base : ℕ) → IsBaseOf given base
      → AllByRecursion (λ i. (c : List Literal) × (log_live given base ls i ≡ Some c))
      (map (λ h. id_of base (name_of h)) l.hints)

pub delete_line_more : (given more : Given) (ls : List LogLine) (l : LogLine)
    → IsDeleteLine given ls l → AreLogSteps (given ++ more) ls
    → AreLogSteps (given ++ more) (ls ++ l ∷ [])
delete_line_more given more ls l r steps = log_steps_more (given ++ more) ls l steps (λ base above.
    let old : Live = live_after (start_over (given ++ more) base) (numbered_lines base ls) in
    let ids : List ℕ = map (λ h. id_of base (name_of h)) l.hints in (
      without_ids old ids,
      subst (λ b. Step old (if b then Deletion (base + added_count ls) ids
          else Addition (base + added_count ls + 1) l.clause (leading_ids base l.hints)
          (group_ids base l.hints)) (without_ids old ids)) (sym r.deletes) (
            r.distinct base (base_front given more base above),
            ids_covered (log_live given base ls) old.clause_at (live_more given more base ls) ids
                (r.live base (base_front given more base above)),
            refl,
          ),
    ))

-- what is live after one more line
pub log_live-more : (given : Given) (base : ℕ) (ls : List LogLine) (l : LogLine)
    → log_live given base (ls ++ l ∷ [])
    ≡ (if is_delete l.kind
    then without_ids (live_after (start_over given base) (numbered_lines base ls))
    (map (λ h. id_of base (name_of h)) l.hints)
    else with_clause (live_after (start_over given base) (numbered_lines base ls))
    (base + added_count ls + 1) l.clause).clause_at
log_live-more given base ls l =
    let start : Live = start_over given base in
    let old : Live = live_after start (numbered_lines base ls) in
    ap (λ ms. (live_after start ms).clause_at) (numbered_lines-more base ls l)
    ∙ ap (λ (x : Live). x.clause_at) (live_after-append start (numbered_lines base ls)
    (numbered_line base (added_count ls) l ∷ []))
    ∙ ap (λ (x : Live). x.clause_at) (live_line (is_delete l.kind) old (base + added_count ls)
    (base + added_count ls + 1) (map (λ h. id_of base (name_of h)) l.hints)
    (leading_ids base l.hints) l.clause (group_ids base l.hints) [])
