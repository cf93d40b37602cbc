-- The additions and deletions of a log are judged right, where they are steps apart from clauses
-- from outside, and follow by their hints alone.
use Rattle.std.proofs.Common.{◌≡◌, ℕ, ◌+◌, Bool, true, false, not, List, [], ◌∷◌, ◌++◌, length}
use Rattle.std.proofs.Common.{map}
use Rattle.std.proofs.Common.{Some, Result, Ok, refl, sym, ◌∙◌, ap, subst, arith, inl, inr}
use Rattle.std.proofs.Common.{append_assoc}
use Rattle.std.proofs.Common.{append-nil, ◌&&◌, Option}
use Rattle.std.specs.Prelude.{if◌then◌else◌}
use Rattle.std.specs.List.{AllByRecursion}
use Rattle.std.proofs.lemmas.Bool.{both_ways, cases_Bool, cond-false, cond-true}
use Rattle.cnf.specs.Clause.{is_empty_clause}
use Rattle.cnf.specs.Literal.{Literal}
use Rattle.cnf.specs.Lrat.{IsAddable, Live, Addition, Deletion, Step, with_clause}
use Rattle.cnf.specs.Lrat.{ProofLine}
use Rattle.cnf.specs.Lrat.{without_ids}
use Rattle.text.specs.LratText.{HasNumbers, line_tokens}
use Rattle.lrat_live.specs.Listed.{Listed, listed_from}
use Rattle.lrat_log.specs.Axioms.{FollowByRup, IsOpenStep, OpenChain}
use Rattle.lrat_log.specs.Log.{Given, LogLine, axiom_line, id_of, is_axiom, is_delete}
use Rattle.lrat_log.specs.Log.{leading_ids, name_of, numbered_line, numbered_lines}
use Rattle.lrat_log.specs.Log.{start_over}
use Rattle.lrat_log.specs.Steps.{IsByRup, StopsAtEmptyClause, added_count, adds_empty_clause}
use Rattle.lrat_log.specs.Steps.{live_after}
use Rattle.lrat_log.proofs.Laws.{additions_push, after_line, live_after-append, numbered_on-append}
use Rattle.lrat_cuts.specs.Cuts.{CutsState, judged_line, put}
use Rattle.cnf.specs.Literal.{negation}
use Rattle.cnf.specs.Lrat.{IsId}
use Rattle.cnf.specs.Refute.{Clauses, Leads, Refutes}
use Rattle.cnf.specs.declared.limits.TheConstants.{NUMBER_LIMIT}
use Rattle.lrat_log.specs.Log.{HasNumber, IsLine}
use Rattle.std.proofs.lemmas.List.Elements.{All-from_recursion, All-nil, recursion_from_All}
use Rattle.std.proofs.Common.{◌<◌}
use Rattle.cuts_log.specs.declared.standing.Standing.{Standing}
use Rattle.cuts_log.specs.Events.{Event, Plain, Word, lines_of}
use Rattle.cuts_log.specs.Judging.{ArePlainRight, Follows, IsRightPlain, IsUpTo, StandsAs}
use Rattle.lrat_read.specs.Words.{WordLine}
use Rattle.lrat_read.specs.WordTokens.{word_tokens}
use Rattle.cuts_log.specs.Stands.{TakesAll, TakesWord, with_clause as with_one, with_clauses}
use Rattle.cuts_log.specs.Stands.{with_line, without}
use Rattle.cuts_log.proofs.JudgedPlain.{Matches, addition_judged, deletion_judged, matches_put}
use Rattle.cuts_log.proofs.EventLines.{added_axioms}
use Rattle.cuts_log.proofs.JudgedWords.{stands_on, taken_told}
use Rattle.cuts_log.proofs.LiveClauses.{live_append, live_deleted}
use Rattle.cuts_log.proofs.Worths.{Rises, Tells, put_rises, rises_same}
use Rattle.forms.specs.Forms.{Forms, heard}
use Rattle.lrat_machine.specs.declared.verdicts.Cause.{Cause}

abbrev live_next : ℕ → ℕ → LogLine → Live → Live
live_next base before l live = live_after live (numbered_line base before l ∷ [])

-- as `FollowByRup`, from what is live
abbrev pub Follow : ℕ → ℕ → Live → List LogLine → Type 0
Follow base before live [] = Unit {0}
Follow base before live (l ∷ ls) =
    (is_delete l.kind ≡ false → is_axiom l.kind ≡ false → IsByRup base live.clause_at l)
    × Follow base (after_line l before) (live_next base before l live) ls

next_count : (d : Bool) (n : ℕ) → n + (if not d then 1 else 0) ≡ (if d then n else n + 1)
next_count true n = omega arith
next_count false n = refl

pub follow_on : (given : Given) (base : ℕ) (done ls : List LogLine)
    → FollowByRup given base done ls → Follow base (added_count done)
    (live_after (start_over given base) (numbered_lines base done)) ls
follow_on given base done [] f = tt
follow_on given base done (l ∷ ls) f =
    let start = start_over given base in
    let n = added_count done in
    let old = live_after start (numbered_lines base done) in
    let new = live_after start (numbered_lines base (done ++ l ∷ [])) in
    let more : numbered_lines base (done ++ l ∷ []) ≡ numbered_lines base done
    ++ numbered_line base n l ∷ [] = numbered_on-append base 0 done (l ∷ [])
    ∙ ap (λ k. numbered_lines base done ++ numbered_line base k l ∷ []) (omega arith) in
    let live : new ≡ live_next base n l old = ap (live_after start) more
    ∙ live_after-append start (numbered_lines base done) (numbered_line base n l ∷ []) in
    let count : added_count (done ++ l ∷ []) ≡ after_line l n =
    additions_push done l ∙ next_count (is_delete l.kind) n in (
      f.0,
      subst (λ k. Follow base k (live_next base n l old) ls) count
          (subst (λ x. Follow base (added_count (done ++ l ∷ [])) x ls) live
          (follow_on given base (done ++ l ∷ []) ls f.1)),
    )

-- what is known of live clauses, and of the lines that are left
pub record Left (base before : ℕ) (es : Listed) (last : ℕ) (live : Live) (ls : List LogLine) : Type
    0 where
  pub matches : Matches es last live
  pub last_is : last ≡ base + before
  pub stops : StopsAtEmptyClause ls
  pub follow : Follow base before live ls
  pub left : Live
  pub chain : OpenChain base before live ls left
  pub room : base + before + length ls < NUMBER_LIMIT

-- so the checker stands
pub record Stands (base before : ℕ) (s : CutsState) (live : Live) (ls : List LogLine) : Type 0 where
  pub lines : Left base before s.live s.last live ls
  pub ended : s.ended ≡ true → ls ≡ []

open_end : (b : Bool) (l : LogLine) (ls : List LogLine) → (b ≡ true → l ∷ ls ≡ []) → b ≡ false
open_end true l ls h = let none = h refl in absurd (cc)
open_end false l ls h = refl

-- no line follows the empty clause
pub ends_at : (l : LogLine) (ls : List LogLine) → StopsAtEmptyClause (l ∷ ls)
    → adds_empty_clause l ≡ true → ls ≡ []
ends_at l [] h e = refl
ends_at l (k ∷ ls) h e = absurd (both_ways _ h.0 e)

pub stops_on : (l : LogLine) (ls : List LogLine) → StopsAtEmptyClause (l ∷ ls)
    → StopsAtEmptyClause ls
stops_on l [] h = tt
stops_on l (k ∷ ls) h = h.1

-- the line is judged, and what is left stands behind it
pub record Goes (o : Option ℕ) (base before : ℕ) (s : CutsState) (l : LogLine)
    (ls : List LogLine) : Type 0 where
  pub next : CutsState
  pub right : IsRightPlain o base before s l next
  pub numbers : HasNumbers (numbered_line base before l)
  pub rises : (cost : ℕ) → Rises cost s next
  pub live : Live
  pub stands : Stands base (after_line l before) next live ls

step_as : (base before : ℕ) (old new : Live) (l : LogLine) (x : ProofLine)
    → numbered_line base before l ≡ x → is_axiom l.kind ≡ false
    → IsOpenStep base before old l new → Step old x new
step_as base before old new l x is own (inl a) = absurd (both_ways _ own a.kind)
step_as base before old new l x is own (inr s) = subst (λ y. Step old y new) is s

-- live ids can be spelled
abbrev AreAlive : Clauses → List ℕ → Type 0
AreAlive at ids = AllByRecursion (λ i. (c : List Literal) × (at i ≡ Some c)) ids

ids_alive : (es : Listed) (last : ℕ) (live : Live) (ids : List ℕ) → Matches es last live
    → last < NUMBER_LIMIT → AreAlive live.clause_at ids → AllByRecursion IsId ids
ids_alive es last live [] m small h = tt
ids_alive es last live (i ∷ is) m small h =
    let r = m.in_range i h.0.0 h.0.1 in
    ((r.0, omega (arith, r.1)), ids_alive es last live is m small h.1)

leads_alive : (at : Clauses) (A : List Literal) (hs : List ℕ) (B : List Literal) → Leads at A hs B
    → AreAlive at hs
leads_alive at A [] B w = tt
leads_alive at A (h ∷ hs) B w = ((w.0, w.2), leads_alive at (w.1 ∷ A) hs B w.4)

alive_append : (at : Clauses) (xs ys : List ℕ) → AreAlive at xs → AreAlive at ys
    → AreAlive at (xs ++ ys)
alive_append at [] ys h k = k
alive_append at (x ∷ xs) ys h k = (h.0, alive_append at xs ys h.1 k)

refutes_alive : (at : Clauses) (A : List Literal) (hs : List ℕ) → Refutes at A hs → AreAlive at hs
refutes_alive at A hs r = subst (AreAlive at) (sym r.split)
    (alive_append at r.front (r.final ∷ []) (leads_alive at A r.front r.reached r.leads)
    ((r.clause, r.live), tt))

abbrev ids_in : ℕ → LogLine → List ℕ
ids_in base l = map (λ h. id_of base (name_of h)) l.hints

deletes_on : (o : Option ℕ) (base before : ℕ) (s : CutsState) (live : Live) (l : LogLine)
    (ls : List LogLine)
    → IsLine l → is_axiom l.kind ≡ false → is_delete l.kind ≡ true
    → Stands base before s live (l ∷ ls)
    → Goes o base before s l ls
deletes_on o base before s live l ls line own d st =
    let h = st.lines in
    let ids = ids_in base l in
    let gone = without_ids live ids in
    let is : numbered_line base before l ≡ Deletion (base + before) ids =
    cond-true (is_delete l.kind) _ _ d in
    let same : after_line l before ≡ before = cond-true (is_delete l.kind) _ _ d in
    let mid = h.chain.0 in
    let step = step_as base before live mid l _ is own h.chain.1 in
    let open_now = open_end s.ended l ls st.ended in
    let small : base + before < NUMBER_LIMIT = omega (arith, h.room) in
    let numbers : HasNumbers (Deletion (base + before) ids) = (
      small,
      All-from_recursion IsId ids (ids_alive s.live s.last live ids h.matches
          (omega (arith, h.last_is))
          step.1),
    ) in
    let j = deletion_judged o s live (base + before) ids h.matches open_now step.0 step.1 numbers in
    let live_is : live_next base before l live ≡ gone = ap (λ x. live_after live (x ∷ [])) is in
    let named = recursion_from_All HasNumber l.hints line.names in
    let next : CutsState = record s { live = j.0 } in
    record {
      next = next;
      right = record {
        judged = subst (λ x. judged_line o s (line_tokens x)
            ≡ Ok (record s { live = j.0 })) (sym is) j.1;
        stands = λ t e. subst (StandsAs base next) (sym (cond-true (is_delete l.kind)
            (without l.hints t) (with_one l.clause t) d)) (record {
              forms = e.forms;
              ended = e.ended;
              within = e.within;
              formula = live_deleted base t.formula s.live j.0 l.hints e.within named j.3 e.formula;
            });
      };
      numbers = subst HasNumbers (sym is) numbers;
      rises = λ cost. rises_same cost s;
      live = live_next base before l live;
      stands = record {
        lines = record {
          matches = subst (Matches j.0 s.last) (sym live_is) j.2;
          last_is = h.last_is ∙ ap (λ n. base + n) (sym same);
          stops = stops_on l ls h.stops;
          follow = h.follow.1;
          left = h.left;
          chain = subst (λ x. OpenChain base (after_line l before) x ls h.left)
              (step.2 ∙ sym live_is) h.chain.2;
          room = omega (arith, h.room, same);
        };
        ended = λ e. absurd (both_ways _ open_now e);
      };
    }

adds_on : (o : Option ℕ) (base before : ℕ) (s : CutsState) (live : Live) (l : LogLine)
    (ls : List LogLine)
    → IsLine l → is_axiom l.kind ≡ false → is_delete l.kind ≡ false
    → Stands base before s live (l ∷ ls)
    → Goes o base before s l ls
adds_on o base before s live l ls line own d st =
    let h = st.lines in
    let id = base + before + 1 in
    let c = l.clause in
    let hints = leading_ids base l.hints in
    let come = with_clause live id c in
    let rup = h.follow.0 d own in
    let is : numbered_line base before l ≡ Addition id c hints [] =
    cond-false (is_delete l.kind) _ _ d ∙ ap (Addition id c hints) rup.0 in
    let same : after_line l before ≡ before + 1 = cond-false (is_delete l.kind) _ _ d in
    let mid = h.chain.0 in
    let step = step_as base before live mid l _ is own h.chain.1 in
    let open_now = open_end s.ended l ls st.ended in
    let small : id < NUMBER_LIMIT = omega (arith, h.room) in
    let alive = refutes_alive live.clause_at (map negation c) hints rup.1 in
    let numbers : HasNumbers (Addition id c hints []) = (
      small,
      line.literals,
      All-from_recursion IsId hints (ids_alive s.live s.last live hints h.matches
          (omega (arith, h.last_is)) alive),
      All-nil _,
    ) in
    let j = addition_judged o s live id c hints h.matches open_now step.0 rup.1 numbers in
    let live_is : live_next base before l live ≡ come = ap (λ x. live_after live (x ∷ [])) is in
    record {
      next = put id c s;
      right = record {
        judged = subst (λ x. judged_line o s (line_tokens x) ≡ Ok (put id c s)) (sym is) j;
        stands = λ t e. subst (StandsAs base (put id c s)) (sym (cond-false (is_delete l.kind)
            (without l.hints t) (with_one c t) d)) (record {
              forms = ap (heard c) e.forms;
              ended = refl;
              within = e.within;
              formula = live_append t.formula s.live ((id, c) ∷ []) e.formula;
            });
      };
      numbers = subst HasNumbers (sym is) numbers;
      rises = λ cost. put_rises cost id c s;
      live = live_next base before l live;
      stands = record {
        lines = record {
          matches = subst (Matches (s.live ++ (id, c) ∷ []) id) (sym live_is)
              (matches_put s.live s.last live id c h.matches step.0);
          last_is = omega (arith, same);
          stops = stops_on l ls h.stops;
          follow = h.follow.1;
          left = h.left;
          chain = subst (λ x. OpenChain base (after_line l before) x ls h.left)
              (step.2 ∙ sym live_is) h.chain.2;
          room = omega (arith, h.room, same);
        };
        ended = λ e. ends_at l ls h.stops (ap (λ b. not b && is_empty_clause c) d ∙ e);
      };
    }

pub plain_on : (o : Option ℕ) (base before : ℕ) (s : CutsState) (live : Live) (l : LogLine)
    (ls : List LogLine)
    → IsLine l → is_axiom l.kind ≡ false → Stands base before s live (l ∷ ls)
    → Goes o base before s l ls
plain_on o base before s live l ls line own st =
    elim (cases_Bool (is_delete l.kind)) [
      | inl d ↦ deletes_on o base before s live l ls line own d st
      | inr d ↦ adds_on o base before s live l ls line own d st
    ]

-- clauses from outside
pub axiom_is : (base before : ℕ) (old new : Live) (c : List Literal)
    → IsOpenStep base before old (axiom_line c) new
    → IsAddable old (base + before + 1) c × (new ≡ with_clause old (base + before + 1) c)
axiom_is base before old new c (inl a) = (a.addable, a.live)
axiom_is base before old new c (inr s) = (s.0, s.2)

pub axioms_on : (base before : ℕ) (made : List (List Literal)) (es : Listed) (last : ℕ) (live :
    Live)
    (ls : List LogLine) → Left base before es last live (map axiom_line made ++ ls)
    → (mid : Live) × Left base (before + length made) (es ++ listed_from (last + 1) made)
    (last + length made) mid ls
axioms_on base before [] es last live ls h =
    let same : before ≡ before + 0 = omega arith in
    let here : last ≡ last + 0 = omega arith in (
      live,
      subst (λ x. Left base (before + 0) x (last + 0) live ls) (sym (append-nil es))
          (subst (λ n. Left base (before + 0) es n live ls) here
          (subst (λ n. Left base n es last live ls) same h)),
    )
axioms_on base before (c ∷ cs) es last live ls h =
    let id = base + before + 1 in
    let a = axiom_is base before live h.chain.0 c h.chain.1 in
    let come = with_clause live id c in
    let rest = axioms_on base (before + 1) cs (es ++ (id, c) ∷ []) id come ls (record {
      matches = matches_put es last live id c h.matches a.0;
      last_is = omega arith;
      stops = stops_on (axiom_line c) (map axiom_line cs ++ ls) h.stops;
      follow = h.follow.1;
      left = h.left;
      chain = subst (λ x. OpenChain base (before + 1) x (map axiom_line cs ++ ls) h.left) a.1
          h.chain.2;
      room = omega (arith, h.room);
    }) in
    let here : id ≡ last + 1 = omega (arith, h.last_is) in
    let listed : (es ++ (id, c) ∷ []) ++ listed_from (id + 1) cs ≡ es ++ listed_from (last + 1)
    (c ∷ cs) = append_assoc es ((id, c) ∷ []) (listed_from (id + 1) cs)
    ∙ ap (λ i. es ++ (i, c) ∷ listed_from (i + 1) cs) here in
    let longer : id + length cs ≡ last + length (c ∷ cs) = omega (arith, here) in
    let further : before + 1 + length cs ≡ before + length (c ∷ cs) = omega arith in (
      rest.0,
      subst (λ x. Left base (before + length (c ∷ cs)) x (last + length (c ∷ cs)) rest.0 ls)
          listed (subst (λ n. Left base (before + length (c ∷ cs))
          ((es ++ (id, c) ∷ []) ++ listed_from (id + 1) cs) n rest.0 ls) longer
          (subst (λ n. Left base n ((es ++ (id, c) ∷ []) ++ listed_from (id + 1) cs) (id + length
          cs)
          rest.0 ls) further rest.1)),
    )

-- the last clause that a word makes may be the empty one
stops_end : (made : List (List Literal)) (s : Standing) (ls : List LogLine) → s.ended ≡ false
    → StopsAtEmptyClause (map axiom_line made ++ ls) → (with_clauses made s).ended ≡ true → ls ≡ []
stops_end [] s ls n h e = absurd (both_ways _ n e)
stops_end (c ∷ []) s ls n h e = ends_at (axiom_line c) ls h e
stops_end (c ∷ d ∷ cs) s ls n h e = stops_end (d ∷ cs) (with_one c s) ls h.0 h.1 e

pub count_one : (before : ℕ) (l : LogLine) → after_line l before ≡ before + added_count (l ∷ [])
count_one before l =
    let one : added_count (l ∷ []) ≡ (if not (is_delete l.kind) then 1 else 0) =
    additions_push [] l ∙ omega arith in
    sym (ap (λ n. before + n) one ∙ next_count (is_delete l.kind) before)

ok_same : (a b : CutsState) → (let x : Result CutsState Cause = Ok a in x) ≡ Ok b → a ≡ b
ok_same a b h = cc

same_ok : (a b : CutsState) (r : Result CutsState Cause) → r ≡ Ok a → r ≡ Ok b → a ≡ b
same_ok a b r e f = ok_same a b (sym e ∙ f)

-- what is left behind a word
word_on : (base before : ℕ) (s t : CutsState) (live : Live) (made : List (List Literal))
    (old new : Standing) (es : List Event) (middle : Forms) → old.ended ≡ false
    → new ≡ with_clauses made (record old { forms = middle }) → Follows s made new t
    → Stands base before s live (map axiom_line made ++ lines_of es)
    → (mid : Live) × Stands base (before + added_count (map axiom_line made)) t mid (lines_of es)
word_on base before s t live made old new es middle open_now is f st =
    let g = axioms_on base before made s.live s.last live (lines_of es) st.lines in
    let n = before + length made in
    let at_live = subst (λ x. Left base n x (s.last + length made) g.0 (lines_of es)) (sym f.live)
    g.1 in
    let at_last = subst (λ x. Left base n t.live x g.0 (lines_of es)) (sym f.last) at_live in
    let count : n ≡ before + added_count (map axiom_line made) =
    ap (λ x. before + x) (sym (added_axioms made)) in (
      g.0,
      record {
        lines = subst (λ x. Left base x t.live t.last g.0 (lines_of es)) count at_last;
        ended = λ e. stops_end made (record old { forms = middle }) (lines_of es) open_now
            st.lines.stops (sym (ap (λ (x : Standing). x.ended) is) ∙ sym f.ended ∙ e);
      },
    )

-- a line of a log is taken, and then the checker stands as the log does
pub goes_same : (o : Option ℕ) (base before : ℕ) (s : CutsState) (l : LogLine) (ls : List LogLine)
    (old new : Standing) → (g : Goes o base before s l ls) → StandsAs base s old
    → new ≡ with_line l old → StandsAs base g.next new
goes_same o base before s l ls old new g same is =
    subst (StandsAs base g.next) (sym is) (g.right.stands old same)

-- the checker behind a word
pub record Says (o : Option ℕ) (cost base before : ℕ) (s : CutsState) (w : WordLine)
    (made : List (List Literal)) (new : Standing) (es : List Event) : Type 0 where
  pub next : CutsState
  pub judged : judged_line o s (word_tokens w) ≡ Ok next
  pub same : StandsAs base next new
  pub tells : Tells cost s w next
  pub live : Live
  pub stands : Stands base (before + added_count (map axiom_line made)) next live (lines_of es)

pub word_says : (o : Option ℕ) (cost base before : ℕ) → IsUpTo cost o
    → (s : CutsState) (old new : Standing)
    (w : WordLine) (made : List (List Literal)) (es : List Event) (live : Live)
    → StandsAs base s old → TakesWord cost old w made new
    → Stands base before s live (map axiom_line made ++ lines_of es)
    → Says o cost base before s w made new es
word_says o cost base before up s old new w made es live same h st =
    let j = taken_told o cost up s old new w made same.forms same.ended same.formula h in
    let g = word_on base before s j.0 live made old new es h.middle h.open_end h.clauses j.2 st in
    record {
      next = j.0;
      judged = j.1;
      same = stands_on base cost s j.0 old new w made same h j.2;
      tells = j.3;
      live = g.0;
      stands = g.1;
    }

-- all lines of a log
pub steps_right : (o : Option ℕ) (cost base before : ℕ) → IsUpTo cost o
    → (s : CutsState) (old new : Standing)
    (es : List Event) (live : Live) → StandsAs base s old → TakesAll cost old es new
    → Stands base before s live (lines_of es) → ArePlainRight o base before s es
steps_right o cost base before up s old new [] live same h st = tt
steps_right o cost base before up s old new (Plain l ∷ es) live same h st =
    let g = plain_on o base before s live l (lines_of es) h.1.0 h.1.1 st in
    let next = goes_same o base before s l (lines_of es) old h.0 g same h.1.2 in
    let rest = steps_right o cost base (after_line l before) up g.next h.0 new es g.live next h.2
    g.stands in
    (g.next, g.right, subst (λ n. ArePlainRight o base n g.next es) (count_one before l) rest)
steps_right o cost base before up s old new (Word w made ∷ es) live same h st = λ t e.
    let after = before + added_count (map axiom_line made) in
    let g = word_says o cost base before up s old h.0 w made es live same h.1 st in
    subst (λ x. ArePlainRight o base after x es) (same_ok g.next t _ g.judged e)
    (steps_right o cost base after up g.next h.0 new es g.live g.same h.2 g.stands)
