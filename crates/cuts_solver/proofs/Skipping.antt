-- An addition that came and went: a search goes on as it stood.
use Rattle.std.proofs.Common.{◌≡◌, ℕ, zero, suc, ◌+◌, ◌<◌, ◌≤◌, true, false, List, [], ◌∷◌, ◌++◌}
use Rattle.std.proofs.Common.{Option, Some, None, refl, sym, ◌∙◌, ap, subst, arith, inl, inr}
use Rattle.std.proofs.Common.{append_assoc}
use Rattle.std.specs.Prelude.{All, nat_eq, ◌==◌}
use Rattle.std.proofs.lemmas.Bool.{cases_eq, cond-false, cond-true, eq-eqb, ne_eqb}
use Rattle.std.proofs.lemmas.List.Elements.{All-append, All-cons, All-nil, All-weaker}
use Rattle.cnf.specs.Literal.{Literal}
use Rattle.cnf.specs.Lrat.{Live, with_clause, without_ids}
use Rattle.lrat_log.specs.declared.log.TheConstants.{LINE_LIMIT}
use Rattle.lrat_log.specs.declared.lines.Name.{Name}
use Rattle.lrat_log.specs.Axioms.{FollowByRup, IsNewClause, IsOpenLogOver, OpenChain}
use Rattle.lrat_log.specs.Log.{Given, LogLine, axiom_line, id_of, numbered_lines}
use Rattle.lrat_log.specs.Log.{numbered_on, start_over}
use Rattle.lrat_log.specs.Steps.{AddsNoEmptyClause, IsBaseOf, IsOwnGroup, added_count, live_after}
use Rattle.lrat_log.specs.Steps.{log_live}
use Rattle.lrat_log.proofs.Laws.{additions_push, follow_append, live_after-append}
use Rattle.lrat_log.proofs.Laws.{numbered_on-append, one_apart, open_push, open_steps_push}
use Rattle.lrat_log.proofs.Laws.{stops_push}
use Rattle.clauses.specs.Slots.{Slots}
use Rattle.cdcl_search.specs.declared.input.Input.{Input}
use Rattle.cdcl_search.specs.declared.search.Search.{Search}
use Rattle.cdcl_search.specs.Invariant.{NamesStore, NamesWhatIsLive, name_at}
use Rattle.cdcl_search.specs.Running.{Runs}
use Rattle.cdcl_search.proofs.Laws.{axiom_stays, live_below}
use Rattle.cnf.specs.Refute.{Clauses}
use Rattle.cuts_log.specs.Starts.{deletion_line, lines_before, lines_for, stand_in}

stand_in_new : IsNewClause stand_in
stand_in_new = record { no_repeat = refl; no_tautology = refl; small = omega arith }

-- first the stand-in comes, and then it goes
abbrev came : List LogLine → List LogLine
came ls = ls ++ axiom_line stand_in ∷ []

abbrev gone : List LogLine → List LogLine
gone ls = came ls ++ deletion_line (added_count ls + 1) ∷ []

came_added : (ls : List LogLine) → added_count (came ls) ≡ added_count ls + 1
came_added ls = additions_push ls (axiom_line stand_in)

gone_added : (ls : List LogLine) → added_count (gone ls) ≡ added_count ls + 1
gone_added ls =
    let last = additions_push (came ls) (deletion_line (added_count ls + 1)) in
    let first = came_added ls in omega (arith, last, first)

gone_is : (ls : List LogLine) (n : ℕ) → n ≡ added_count ls
    → gone ls ≡ ls ++ lines_for None (n + 1)
gone_is ls n e =
    append_assoc ls (axiom_line stand_in ∷ []) (deletion_line (added_count ls + 1) ∷ [])
    ∙ ap (λ k. ls ++ axiom_line stand_in ∷ deletion_line (k + 1) ∷ []) (sym e)

-- what is live then
module _ (given : Given) (base : ℕ) (ls : List LogLine) where
  abbrev live_in : List LogLine → Live
  live_in ms = live_after (start_over given base) (numbered_lines base ms)

  abbrev id : ℕ
  id = base + added_count ls + 1

  live_came : live_in (came ls) ≡ with_clause (live_in ls) id stand_in
  live_came =
      let start = start_over given base in
      let n = added_count ls in
      let same : base + (0 + n) + 1 ≡ id = omega arith in
      ap (live_after start) (numbered_on-append base 0 ls (axiom_line stand_in ∷ []))
      ∙ live_after-append start (numbered_lines base ls)
      (numbered_on base (0 + n) (axiom_line stand_in ∷ []))
      ∙ ap (λ k. with_clause (live_in ls) k stand_in) same

  live_gone : live_in (gone ls) ≡ without_ids (live_in (came ls)) (id ∷ [])
  live_gone =
      let start = start_over given base in
      let n = added_count (came ls) in
      let d = deletion_line (added_count ls + 1) in
      let same : base + (added_count ls + 1) ≡ id = omega arith in
      ap (live_after start) (numbered_on-append base 0 (came ls) (d ∷ []))
      ∙ live_after-append start (numbered_lines base (came ls)) (numbered_on base (0 + n) (d ∷ []))
      ∙ ap (λ k. without_ids (live_in (came ls)) (k ∷ [])) same

  at_id : (live_in (came ls)).clause_at id ≡ Some stand_in
  at_id =
      ap (λ (x : Live). x.clause_at id) live_came
      ∙ cond-true (id == id) (Some stand_in) ((live_in ls).clause_at id) (eq-eqb id id refl)

  none_at : (o : Option (List Literal)) → ((c : List Literal) → o ≡ Some c → ⊥) → o ≡ None
  none_at None h = refl
  none_at (Some c) h = absurd (h c refl)

  still_live : IsBaseOf given base → (i : ℕ)
      → log_live given base (gone ls) i ≡ log_live given base ls i
  still_live above i =
      ap (λ (x : Live). x.clause_at i) live_gone
      ∙ elim (cases_eq i id) [
        | inl t ↦
            let here : nat_eq i id ≡ true = eq-eqb i id t in
            let past : log_live given base ls i ≡ None = none_at (log_live given base ls i)
            (λ c e. let low = live_below given base above ls i c e in
            absurd (omega (arith, low, t))) in
            rw here (sym past)
        | inr f ↦
            let no : nat_eq i id ≡ false = ne_eqb i id f in
            rw no (ap (λ (x : Live). x.clause_at i) live_came
            ∙ cond-false (i == id) (Some stand_in) ((live_in ls).clause_at i) (ne_eqb i id f))
      ]

  -- the log stays open
  gone_open : IsOpenLogOver given (came ls) → AddsNoEmptyClause (came ls) → (above : IsBaseOf given
      base)
      → OpenChain base 0 (start_over given base) (gone ls) (live_in (gone ls))
  gone_open log open_lines above =
      let d = deletion_line (added_count ls + 1) in
      let after = without_ids (live_in (came ls)) (id ∷ []) in
      let same : base + (added_count ls + 1) ≡ id = omega arith in
      let alive : (live_in (came ls)).clause_at (base + (added_count ls + 1)) ≡ Some stand_in =
      ap (live_in (came ls)).clause_at same ∙ at_id in
      open_steps_push given base (came ls) d after (log.steps base above)
      (inr (
        one_apart (base + (added_count ls + 1)),
        ((stand_in, alive), tt),
        ap (λ k. without_ids (live_in (came ls)) (k ∷ [])) (sym same),
      ))

gone_log : (given : Given) (ls : List LogLine) → IsOpenLogOver given (came ls)
    → AddsNoEmptyClause (came ls) → IsOpenLogOver given (gone ls)
gone_log given ls log open_lines = record {
  steps = λ base above. gone_open given base ls log open_lines above;
  stops = stops_push (came ls) (deletion_line (added_count ls + 1)) open_lines;
  groups = All-append (λ (l : LogLine). All IsOwnGroup l.hints) (came ls)
      (deletion_line (added_count ls + 1) ∷ []) log.groups
      (All-cons (λ (l : LogLine). All IsOwnGroup l.hints) (deletion_line (added_count ls + 1)) []
      (All-cons IsOwnGroup _ [] tt (All-nil IsOwnGroup))
      (All-nil (λ (l : LogLine). All IsOwnGroup l.hints)));
}

-- the store has the same clauses under the same names
names_as : (slots : Slots) (names : List Name) (base : ℕ) (at bt : Clauses)
    → ((i : ℕ) → bt i ≡ at i) → NamesWhatIsLive slots names base at
    → NamesWhatIsLive slots names base bt
names_as slots names base at bt same h = record {
  named = λ r c e. same (id_of base (name_at names r)) ∙ h.named r c e;
  only = λ i c e. h.only i c (sym (same i) ∙ e);
  apart = h.apart;
}

names_gone : (slots : Slots) (names : List Name) (given : Given) (ls : List LogLine)
    → NamesStore slots names given ls → NamesStore slots names given (gone ls)
names_gone slots names given ls h = record {
  as_many = h.as_many;
  live = λ base above. names_as slots names base (log_live given base ls)
      (log_live given base (gone ls)) (still_live given base ls above) (h.live base above);
}

pub runs_skip : (s n : Search) (p : Input) (ls : List LogLine) → Runs s p ls
    → n ≡ record s { additions = s.additions + 1 } → s.additions + 1 < LINE_LIMIT
    → Runs n p (ls ++ lines_for None (s.additions + 1))
runs_skip s n p ls r is few =
    let h = r.running.recorded in
    let log = h.log in
    let m : Search = record s { additions = s.additions + 1 } in
    let first = axiom_stays s p ls stand_in r (omega arith) stand_in_new in
    let unrefuted = open_push (came ls) (deletion_line (added_count ls + 1)) first.unrefuted refl in
    let next : Runs m p (gone ls) = record {
      running = record {
        recorded = record {
          log = record {
            stays = λ more small. gone_log (p.given ++ more) ls (first.stays more small)
                first.unrefuted;
            unrefuted = unrefuted;
            counted = ap (λ k. k + 1) log.counted ∙ sym (gone_added ls);
          };
          names = names_gone (s.store).slots (s.names).items p.given ls h.names;
          numbers = h.numbers;
          many_units = h.many_units;
          kept = omega (arith, h.kept);
          not_frozen = h.not_frozen;
          back = h.back;
          plain = h.plain;
        };
        searches = r.running.searches;
        variables = r.running.variables;
        units = r.running.units;
      };
      room = record {
        policy = r.room.policy;
        analyzer = r.room.analyzer;
        few = r.room.few;
        stamps = r.room.stamps;
        units = r.room.units;
      };
      past = All-weaker (λ x. x ≤ s.additions) (λ x. x ≤ s.additions + 1)
          (λ x h. omega (arith, h)) (s.stamps).items r.past;
      few = few;
    } in
    subst (λ (x : Search). Runs x p (ls ++ lines_for None (s.additions + 1))) (sym is)
    (subst (Runs m p) (gone_is ls s.additions log.counted) next)

-- lines that stand for what was written before need not follow
lines_for-follow : (given : Given) (base : ℕ) (before : List LogLine) (o : Option (List Literal))
    (j : ℕ) → FollowByRup given base before (lines_for o j)
lines_for-follow given base before (Some c) j = (λ adds own. absurd (cc), tt)
lines_for-follow given base before None j =
    (λ adds own. absurd (cc), (λ adds own. absurd (cc), tt))

pub earlier_follow : (given : Given) (base : ℕ) (at : Clauses) (n : ℕ)
    → FollowByRup given base [] (lines_before at n)
earlier_follow given base at zero = tt
earlier_follow given base at (suc n) =
    follow_append given base [] (lines_before at n) (lines_for (at (suc n)) (suc n))
    (earlier_follow given base at n)
    (lines_for-follow given base (lines_before at n) (at (suc n)) (suc n))
