-- One more line: a log stays a log where the line is a step over what is live.
use Rattle.std.proofs.Common.{◌≡◌, ℕ, ◌+◌, Bool, true, false, List, [], ◌∷◌, ◌++◌, map}
use Rattle.std.proofs.Common.{Some, inl, inr, refl, sym, ◌∙◌, ap, subst, arith}
use Rattle.std.specs.Prelude.{nat_eq, if◌then◌else◌, All}
use Rattle.std.specs.List.{AllByRecursion, IsDistinct}
use Rattle.std.proofs.lemmas.List.Elements.{All-push, All-from_recursion}
use Rattle.cnf.specs.Literal.{Literal, negation}
use Rattle.cnf.specs.Refute.{Refutes}
use Rattle.cnf.specs.Lrat.{Addition, Deletion, Live, with_clause, without_ids, Step}
use Rattle.cnf.specs.Lrat.{IsAddable}
use Rattle.lrat_log.specs.declared.lines.Name.{Name}
use Rattle.lrat_log.specs.Log.{LogLine, Given, is_delete, axiom_line, id_of, name_of, leading_ids}
use Rattle.lrat_log.specs.Log.{group_ids, numbered_line}
use Rattle.lrat_log.specs.Steps.{live_after, log_live, added_count, IsBaseOf}
use Rattle.lrat_log.specs.Steps.{AddsNoEmptyClause, IsOwnGroup}
use Rattle.lrat_log.specs.Axioms.{IsNewClause, IsOpenStep, StaysOpenLogOver}
use Rattle.lrat_log.proofs.Laws.{axiom_kept, open_steps_push}
use Rattle.cdcl_search.specs.Hinting.{plain_hints}
use Rattle.lrat_log.proofs.Laws.{stops_push, live_more, base_front}
use Rattle.lrat_log.proofs.Laws.{refutes_covered, ids_covered}
use Rattle.cdcl_search.proofs.Chains.{live_of, last-live_of, live_of-append}

-- hints that are plain

pub leading-plain : (base : ℕ) (ns : List Name)
    → leading_ids base (plain_hints ns) ≡ map (id_of base) ns
leading-plain base [] = refl
leading-plain base (n ∷ ns) = ap (λ x. id_of base n ∷ x) (leading-plain base ns)

pub groups-plain : (base : ℕ) (ns : List Name) → group_ids base (plain_hints ns) ≡ []
groups-plain base [] = refl
groups-plain base (n ∷ ns) = groups-plain base ns

names-plain : (base : ℕ) (ns : List Name)
    → map (λ h. id_of base (name_of h)) (plain_hints ns) ≡ map (id_of base) ns
names-plain base [] = refl
names-plain base (n ∷ ns) = ap (λ x. id_of base n ∷ x) (names-plain base ns)

own-plain : (ns : List Name) → AllByRecursion IsOwnGroup (plain_hints ns)
own-plain [] = tt
own-plain (n ∷ ns) = (tt, own-plain ns)

-- the line over names, which is a step wherever the clauses that are live here are live
abbrev StepsWhere : Given → List LogLine → LogLine → Type 0
StepsWhere given ls l = (more : Given) (base : ℕ) → IsBaseOf (given ++ more) base
    → (after : Live) × IsOpenStep base (added_count ls) (live_of (given ++ more) base ls) l after

log_push : (variables : ℕ) (given : Given) (ls : List LogLine) (l : LogLine)
    → StaysOpenLogOver variables given ls → AddsNoEmptyClause ls
    → All IsOwnGroup l.hints → StepsWhere given ls l
    → StaysOpenLogOver variables given (ls ++ l ∷ [])
log_push variables given ls l stays unrefuted own steps more small =
    let old = stays more small in
    record {
      steps = λ base above. let s = steps more base above in
          open_steps_push (given ++ more) base ls l s.0 (old.steps base above) s.1;
      stops = stops_push ls l unrefuted;
      groups = All-push (λ k. All IsOwnGroup k.hints) ls l old.groups own;
    }

-- an addition by hints that refute its negation
addition_line : (d : Bool) (base before : ℕ) (c : List Literal) (ns : List Name) → d ≡ false
    → (if d then Deletion (base + before) (map (λ h. id_of base (name_of h)) (plain_hints ns))
    else Addition (base + before + 1) c (leading_ids base (plain_hints ns))
    (group_ids base (plain_hints ns)))
    ≡ Addition (base + before + 1) c (map (id_of base) ns) []
addition_line true base before c ns e = absurd (cc)
addition_line false base before c ns e =
    ap (λ x. Addition (base + before + 1) c x (group_ids base (plain_hints ns)))
    (leading-plain base ns)
    ∙ ap (λ x. Addition (base + before + 1) c (map (id_of base) ns) x) (groups-plain base ns)

deletion_line : (d : Bool) (base before : ℕ) (c : List Literal) (ns : List Name) → d ≡ true
    → (if d then Deletion (base + before) (map (λ h. id_of base (name_of h)) (plain_hints ns))
    else Addition (base + before + 1) c (leading_ids base (plain_hints ns))
    (group_ids base (plain_hints ns)))
    ≡ Deletion (base + before) (map (id_of base) ns)
deletion_line true base before c ns e = ap (λ x. Deletion (base + before) x) (names-plain base ns)
deletion_line false base before c ns e = absurd (cc)

-- a clause may be added under the next id
next_addable : (given : Given) (base : ℕ) (ls : List LogLine) (c : List Literal) → IsNewClause c
    → IsAddable (live_of given base ls) (base + added_count ls + 1) c
next_addable given base ls c new = record {
  rising = omega (arith, last-live_of given base ls);
  no_repeat = new.no_repeat;
  no_tautology = new.no_tautology;
  small = new.small;
}

-- what is known of a line that follows by hints
pub record AddsByHints (given : Given) (ls : List LogLine) (l : LogLine) : Type 0 where
  pub names : List Name
  pub adds : is_delete l.kind ≡ false
  pub plain : l.hints ≡ plain_hints names
  pub clause : IsNewClause l.clause
  pub refutes : (base : ℕ) → IsBaseOf given base
      → Refutes (log_live given base ls) (map negation l.clause) (map (id_of base) names)

line_of_addition : (base before : ℕ) (l : LogLine) (ns : List Name) → is_delete l.kind ≡ false
    → l.hints ≡ plain_hints ns
    → numbered_line base before l ≡ Addition (base + before + 1) l.clause (map (id_of base) ns) []
line_of_addition base before l ns d e =
    ap (λ hs. numbered_line base before (record { kind = l.kind; clause = l.clause; hints = hs })) e
    ∙ addition_line (is_delete l.kind) base before l.clause ns d

line_of_deletion : (base before : ℕ) (l : LogLine) (ns : List Name) → is_delete l.kind ≡ true
    → l.hints ≡ plain_hints ns
    → numbered_line base before l ≡ Deletion (base + before) (map (id_of base) ns)
line_of_deletion base before l ns d e =
    ap (λ hs. numbered_line base before (record { kind = l.kind; clause = l.clause; hints = hs })) e
    ∙ deletion_line (is_delete l.kind) base before l.clause ns d

pub log_add : (variables : ℕ) (given : Given) (ls : List LogLine) (l : LogLine)
    → StaysOpenLogOver variables given ls → AddsNoEmptyClause ls → AddsByHints given ls l
    → StaysOpenLogOver variables given (ls ++ l ∷ [])
log_add variables given ls l stays unrefuted a =
    log_push variables given ls l stays unrefuted
    (subst (All IsOwnGroup) (sym a.plain) (All-from_recursion IsOwnGroup (plain_hints a.names)
    (own-plain a.names)))
    (λ more base above.
    let id : ℕ = base + added_count ls + 1 in
    let live = live_of (given ++ more) base ls in
    let addable = next_addable (given ++ more) base ls l.clause a.clause in
    let r =
    refutes_covered (log_live given base ls) (log_live (given ++ more) base ls)
    (live_more given more base ls) (map negation l.clause) (map (id_of base) a.names)
    (a.refutes base (base_front given more base above)) in (
      with_clause live id l.clause,
      inr (subst (λ x. Step live x (with_clause live id l.clause))
          (sym (line_of_addition base (added_count ls) l a.names a.adds a.plain)) (
            addable,
            inl (refl, r),
            refl,
          )),
    ))

-- a line that adds, under which a log stays one
pub record AddsLine (variables : ℕ) (given : Given) (ls : List LogLine) (l : LogLine) : Type 0 where
  pub names : List Name
  pub adds : is_delete l.kind ≡ false
  pub plain : l.hints ≡ plain_hints names
  pub stays : StaysOpenLogOver variables given ls → AddsNoEmptyClause ls
      → StaysOpenLogOver variables given (ls ++ l ∷ [])

pub by_hints : (variables : ℕ) (given : Given) (ls : List LogLine) (l : LogLine)
    → AddsByHints given ls l → AddsLine variables given ls l
by_hints variables given ls l a = record {
  names = a.names;
  adds = a.adds;
  plain = a.plain;
  stays = λ stays unrefuted. log_add variables given ls l stays unrefuted a;
}

pub from_outside : (variables : ℕ) (given : Given) (ls : List LogLine) (c : List Literal)
    → IsNewClause c → AddsLine variables given ls (axiom_line c)
from_outside variables given ls c new = record {
  names = [];
  adds = refl;
  plain = refl;
  stays = λ stays unrefuted. axiom_kept variables given ls c stays unrefuted new;
}

-- a deletion of live names
pub record DeletesNames (given : Given) (ls : List LogLine) (l : LogLine) : Type 0 where
  pub names : List Name
  pub deletes : is_delete l.kind ≡ true
  pub plain : l.hints ≡ plain_hints names
  pub apart : (base : ℕ) → IsBaseOf given base → IsDistinct nat_eq (map (id_of base) names)
  pub live : (base : ℕ) → IsBaseOf given base
      → AllByRecursion (λ i. (c : List Literal) × (log_live given base ls i ≡ Some c))
      (map (id_of base) names)

pub log_delete : (variables : ℕ) (given : Given) (ls : List LogLine) (l : LogLine)
    → StaysOpenLogOver variables given ls → AddsNoEmptyClause ls → DeletesNames given ls l
    → StaysOpenLogOver variables given (ls ++ l ∷ [])
log_delete variables given ls l stays unrefuted a =
    log_push variables given ls l stays unrefuted
    (subst (All IsOwnGroup) (sym a.plain) (All-from_recursion IsOwnGroup (plain_hints a.names)
    (own-plain a.names)))
    (λ more base above.
    let live = live_of (given ++ more) base ls in
    let ids : List ℕ = map (id_of base) a.names in
    let b = base_front given more base above in (
      without_ids live ids,
      inr (subst (λ x. Step live x (without_ids live ids))
          (sym (line_of_deletion base (added_count ls) l a.names a.deletes a.plain)) (
            a.apart base b,
            ids_covered (log_live given base ls) (log_live (given ++ more) base ls)
                (live_more given more base ls) ids (a.live base b),
            refl,
          )),
    ))

-- what is live after the line
pub live-add : (given : Given) (base : ℕ) (ls : List LogLine) (l : LogLine) (ns : List Name)
    → is_delete l.kind ≡ false → l.hints ≡ plain_hints ns
    → log_live given base (ls ++ l ∷ [])
    ≡ (with_clause (live_of given base ls) (base + added_count ls + 1) l.clause).clause_at
live-add given base ls l ns d e =
    ap (λ x. x.clause_at) (live_of-append given base ls (l ∷ [])
    ∙ ap (λ x. live_after (live_of given base ls) (x ∷ []))
    (line_of_addition base (added_count ls) l ns d e))

pub live-delete : (given : Given) (base : ℕ) (ls : List LogLine) (l : LogLine) (ns : List Name)
    → is_delete l.kind ≡ true → l.hints ≡ plain_hints ns
    → log_live given base (ls ++ l ∷ [])
    ≡ (without_ids (live_of given base ls) (map (id_of base) ns)).clause_at
live-delete given base ls l ns d e =
    ap (λ x. x.clause_at) (live_of-append given base ls (l ∷ [])
    ∙ ap (λ x. live_after (live_of given base ls) (x ∷ []))
    (line_of_deletion base (added_count ls) l ns d e))
