-- Logs that take clauses from outside, beside those that take none.
use Rattle.std.proofs.Common.{◌≡◌, ℕ, ◌+◌, true, false, List, [], ◌∷◌, ◌++◌, Some, inl, inr}
use Rattle.std.proofs.Common.{refl, sym, ◌∙◌, ap, subst, arith, append_assoc, append-nil}
use Rattle.std.specs.Prelude.{All, nat_eq, map}
use Rattle.std.specs.List.{AllByRecursion, IsDistinct}
use Rattle.std.proofs.lemmas.Bool.{both_ways, cond-false, false≢true}
use Rattle.std.proofs.lemmas.List.Elements.{All-nil, All-push}
use Rattle.cnf.specs.Literal.{Literal}
use Rattle.cnf.specs.Lrat.{ProofLine, Addition, Deletion, Live, Step, Chain, IsAddable, with_clause}
use Rattle.cnf.specs.Lrat.{without_ids}
use Rattle.lrat_log.specs.declared.lines.Kind.{Kind}
use Rattle.lrat_log.specs.declared.lines.Kind.TheVariants.{Learned, Unit, Resolvent, Definition}
use Rattle.lrat_log.specs.declared.lines.Kind.TheVariants.{Weaker, Delete, Empty, Axiom}
use Rattle.lrat_log.specs.Log.{LogLine, Given, axiom_line, start_over, is_delete, is_axiom, id_of}
use Rattle.lrat_log.specs.Log.{name_of, leading_ids, group_ids, numbered_line, numbered_on}
use Rattle.lrat_log.specs.Log.{numbered_lines}
use Rattle.lrat_log.specs.Steps.{live_after, IsLogOver, StaysLogOver, added_count}
use Rattle.lrat_log.specs.Steps.{AddsNoEmptyClause, IsOwnGroup}
use Rattle.lrat_log.specs.Axioms.{IsOpenStep, OpenChain, IsOpenLogOver, StaysOpenLogOver}
use Rattle.lrat_log.specs.Axioms.{IsNewClause, TakesNoAxiom, FollowByRup}
use Rattle.lrat_log.proofs.Additions.{after_line, count_step, last_numbered, numbered_on-append}
use Rattle.lrat_log.proofs.Growing.{chain_join, stops_push}

-- a line from outside adds
pub axiom_adds : (k : Kind) → is_axiom k ≡ true → is_delete k ≡ false
axiom_adds Learned e = refl
axiom_adds Unit e = refl
axiom_adds Resolvent e = refl
axiom_adds Definition e = refl
axiom_adds Weaker e = refl
axiom_adds Delete e = absurd (false≢true e)
axiom_adds Empty e = refl
axiom_adds Axiom e = refl

-- what a line does to what is live, whether or not it follows from that
abbrev pub LiveStep : Live → ProofLine → Live → Type 0
LiveStep old (Addition id c hints groups) new = IsAddable old id c × (new ≡ with_clause old id c)
LiveStep old (Deletion lead ids) new = IsDistinct nat_eq ids
    × AllByRecursion (λ i. (c : List Literal) × (old.clause_at i ≡ Some c)) ids
    × (new ≡ without_ids old ids)

abbrev pub LiveChain : Live → List ProofLine → Live → Type 0
LiveChain old [] new = new ≡ old
LiveChain old (l ∷ ls) new = (mid : Live) × LiveStep old l mid × LiveChain mid ls new

step_live : (old new : Live) (l : ProofLine) → Step old l new → LiveStep old l new
step_live old new (Addition id c hints groups) s = (s.0, s.2)
step_live old new (Deletion lead ids) s = s

open_live : (base before : ℕ) (old new : Live) (l : LogLine) → IsOpenStep base before old l new
    → LiveStep old (numbered_line base before l) new
open_live base before old new l (inl a) =
    subst (λ x. LiveStep old x new)
    (sym (cond-false (is_delete l.kind)
    (Deletion (base + before) (map (λ h. id_of base (name_of h)) l.hints))
    (Addition (base + before + 1) l.clause (leading_ids base l.hints) (group_ids base l.hints))
    (axiom_adds l.kind a.kind))) (a.addable, a.live)
open_live base before old new l (inr s) = step_live old new (numbered_line base before l) s

pub live_chain : (base before : ℕ) (old new : Live) (ls : List LogLine)
    → OpenChain base before old ls new → LiveChain old (numbered_on base before ls) new
live_chain base before old new [] w = w
live_chain base before old new (l ∷ ls) w = (
  w.0,
  open_live base before old w.0 l w.1,
  live_chain base (after_line l before) w.0 new ls w.2,
)

-- it leads to what is live after its lines
pub live_end : (old new : Live) (ls : List ProofLine) → LiveChain old ls new
    → new ≡ live_after old ls
live_end old new [] w = w
live_end old new (Addition id c hints groups ∷ ls) w =
    live_end w.0 new ls w.2 ∙ ap (λ x. live_after x ls) w.1.1
live_end old new (Deletion lead ids ∷ ls) w =
    live_end w.0 new ls w.2 ∙ ap (λ x. live_after x ls) w.1.2

-- a log is one that may take clauses from outside
open_chain : (base before : ℕ) (old new : Live) (ls : List LogLine)
    → Chain old (numbered_on base before ls) new → OpenChain base before old ls new
open_chain base before old new [] w = w
open_chain base before old new (l ∷ ls) w =
    (w.0, inr w.1, open_chain base (after_line l before) w.0 new ls w.2)

pub open_log : (given : Given) (ls : List LogLine) → IsLogOver given ls → IsOpenLogOver given ls
open_log given ls log = record {
  steps =
      λ base above. open_chain base 0 (start_over given base)
      (live_after (start_over given base) (numbered_lines base ls)) ls (log.steps base above);
  stops = log.stops;
  groups = log.groups;
}

pub stays_open : (variables : ℕ) (given : Given) (ls : List LogLine)
    → StaysLogOver variables given ls → StaysOpenLogOver variables given ls
stays_open variables given ls stays more small = open_log (given ++ more) ls (stays more small)

-- and one that takes none is a log
own_step : (base before : ℕ) (old new : Live) (l : LogLine) → IsOpenStep base before old l new
    → is_axiom l.kind ≡ false → Step old (numbered_line base before l) new
own_step base before old new l (inl a) own = absurd (both_ways _ own a.kind)
own_step base before old new l (inr s) own = s

own_chain : (base before : ℕ) (old new : Live) (ls : List LogLine)
    → OpenChain base before old ls new → TakesNoAxiom ls
    → Chain old (numbered_on base before ls) new
own_chain base before old new [] w own = w
own_chain base before old new (l ∷ ls) w own = (
  w.0,
  own_step base before old w.0 l w.1 own.0,
  own_chain base (after_line l before) w.0 new ls w.2 own.1,
)

-- lines behind others
pub open_split : (base before : ℕ) (old new : Live) (ls ms : List LogLine)
    → OpenChain base before old (ls ++ ms) new
    → (mid : Live) × OpenChain base before old ls mid
    × OpenChain base (before + added_count ls) mid ms new
open_split base before old new [] ms w = (
  old,
  refl,
  (let e : before ≡ before + added_count [] = omega arith in
      subst (λ k. OpenChain base k old ms new) e w),
)
open_split base before old new (l ∷ ls) ms w =
    let rest = open_split base (after_line l before) w.0 new ls ms w.2 in (
      rest.0,
      (w.0, w.1, rest.1),
      subst (λ k. OpenChain base k rest.0 ms new) (count_step before l ls) rest.2,
    )

open_join : (base before : ℕ) (old mid new : Live) (ls ms : List LogLine)
    → OpenChain base before old ls mid → OpenChain base (before + added_count ls) mid ms new
    → OpenChain base before old (ls ++ ms) new
open_join base before old mid new [] ms v w =
    let e : before + added_count [] ≡ before = omega arith in
    subst (λ x. OpenChain base before x ms new) v (subst (λ k. OpenChain base k mid ms new) e w)
open_join base before old mid new (l ∷ ls) ms v w = (
  v.0,
  v.1,
  open_join base (after_line l before) v.0 mid new ls ms v.2
      (subst (λ k. OpenChain base k mid ms new) (sym (count_step before l ls)) w),
)

-- one line more at the end of those of a log
pub open_steps_push : (given : Given) (base : ℕ) (ls : List LogLine) (l : LogLine) (after : Live)
    → OpenChain base 0 (start_over given base) ls
    (live_after (start_over given base) (numbered_lines base ls))
    → IsOpenStep base (added_count ls)
    (live_after (start_over given base) (numbered_lines base ls)) l after
    → OpenChain base 0 (start_over given base) (ls ++ l ∷ [])
    (live_after (start_over given base) (numbered_lines base (ls ++ l ∷ [])))
open_steps_push given base ls l after w s =
    let start = start_over given base in
    let mid = live_after start (numbered_lines base ls) in
    let e : added_count ls ≡ 0 + added_count ls = omega arith in
    let last : OpenChain base (0 + added_count ls) mid (l ∷ []) after =
    (after, subst (λ k. IsOpenStep base k mid l after) e s, refl) in
    let whole = open_join base 0 start mid after ls (l ∷ []) w last in
    subst (OpenChain base 0 start (ls ++ l ∷ []))
    (live_end start after (numbered_lines base (ls ++ l ∷ []))
    (live_chain base 0 start after (ls ++ l ∷ []) whole)) whole

-- a clause from outside at the end of a log
pub axiom_kept : (variables : ℕ) (given : Given) (ls : List LogLine) (c : List Literal)
    → StaysOpenLogOver variables given ls → AddsNoEmptyClause ls → IsNewClause c
    → StaysOpenLogOver variables given (ls ++ axiom_line c ∷ [])
axiom_kept variables given ls c stays unrefuted new more small =
    let all = given ++ more in
    let old = stays more small in
    record {
      steps =
          λ base above.
          let live : Live = live_after (start_over all base) (numbered_lines base ls) in
          let id = base + added_count ls + 1 in
          let last = last_numbered base 0 ls (start_over all base) (omega arith) in
          open_steps_push all base ls (axiom_line c) (with_clause live id c) (old.steps base above)
          (inl (record {
            kind = refl;
            addable = record {
              rising = omega (arith, last);
              no_repeat = new.no_repeat;
              no_tautology = new.no_tautology;
              small = new.small;
            };
            live = refl;
          }));
      stops = stops_push ls (axiom_line c) unrefuted;
      groups = All-push (λ k. All IsOwnGroup k.hints) ls (axiom_line c) old.groups
          (All-nil IsOwnGroup);
    }

-- a log to which lines came, none from outside
pub own_log : (given : Given) (front more : List LogLine) → IsLogOver given front
    → IsOpenLogOver given (front ++ more) → TakesNoAxiom more → IsLogOver given (front ++ more)
own_log given front more log whole own = record {
  steps =
      λ base above.
      let start = start_over given base in
      let left = live_after start (numbered_lines base (front ++ more)) in
      let w = open_split base 0 start left front more (whole.steps base above) in
      let mid : w.0 ≡ live_after start (numbered_lines base front) =
      live_end start w.0 (numbered_lines base front) (live_chain base 0 start w.0 front w.1) in
      let first : Chain start (numbered_lines base front) w.0 =
      subst (Chain start (numbered_lines base front)) (sym mid) (log.steps base above) in
      subst (λ x. Chain start x left) (sym (numbered_on-append base 0 front more))
      (chain_join start w.0 left (numbered_lines base front)
      (numbered_on base (0 + added_count front) more) first
      (own_chain base (0 + added_count front) w.0 left more w.2 own));
  stops = whole.stops;
  groups = whole.groups;
}

pub stays_own : (variables : ℕ) (given : Given) (front more : List LogLine)
    → StaysLogOver variables given front → StaysOpenLogOver variables given (front ++ more)
    → TakesNoAxiom more → StaysLogOver variables given (front ++ more)
stays_own variables given front more stays whole own later small =
    own_log (given ++ later) front more (stays later small) (whole later small) own

pub own_append : (a b : List LogLine) → TakesNoAxiom a → TakesNoAxiom b → TakesNoAxiom (a ++ b)
own_append [] b h k = k
own_append (l ∷ a) b h k = (h.0, own_append a b h.1 k)

pub follow_append : (given : Given) (base : ℕ) (before a b : List LogLine)
    → FollowByRup given base before a → FollowByRup given base (before ++ a) b
    → FollowByRup given base before (a ++ b)
follow_append given base before [] b h k =
    subst (λ x. FollowByRup given base x b) (append-nil before) k
follow_append given base before (l ∷ a) b h k = (
  h.0,
  follow_append given base (before ++ l ∷ []) a b h.1
      (subst (λ x. FollowByRup given base x b) (sym (append_assoc before (l ∷ []) a)) k),
)
