-- More lines at the end of a log, and more clauses given: what is live stays so.
use Rattle.std.proofs.Common.{◌≡◌, ℕ, false, List, [], ◌∷◌, ◌++◌, Some, inl, inr, refl, subst}
use Rattle.std.proofs.Common.{arith}
use Rattle.std.specs.Prelude.{◌==◌, nat_eq}
use Rattle.std.specs.List.{AllByRecursion, list_any, IsDistinct}
use Rattle.std.proofs.lemmas.Bool.{cases_Bool}
use Rattle.std.proofs.lemmas.List.{get_or_append_left, length-append}
use Rattle.std.proofs.lemmas.Option.{none-some}
use Rattle.cnf.specs.Literal.{Literal}
use Rattle.cnf.specs.Refute.{Clauses, Leads, Refutes}
use Rattle.cnf.specs.Lrat.{ProofLine, Addition, Deletion, Live, with_clause, without_ids, Chain}
use Rattle.lrat_log.specs.declared.lines.Name.TheVariants.{Formula, Added}
use Rattle.lrat_log.specs.Log.{LogLine, Given, given_at, start_over, numbered_lines}
use Rattle.lrat_log.specs.Steps.{live_after, log_live, IsBaseOf}
use Rattle.lrat_log.specs.Steps.{StopsAtEmptyClause, AddsNoEmptyClause, adds_empty_clause}

-- lines after lines
pub live_after-append : (live : Live) (ls ms : List ProofLine)
    → live_after live (ls ++ ms) ≡ live_after (live_after live ls) ms
live_after-append live [] ms = refl
live_after-append live (Addition id c hints groups ∷ ls) ms =
    live_after-append (with_clause live id c) ls ms
live_after-append live (Deletion lead ids ∷ ls) ms = live_after-append (without_ids live ids) ls ms

pub chain_join : (old mid new : Live) (ls ms : List ProofLine)
    → Chain old ls mid → Chain mid ms new → Chain old (ls ++ ms) new
chain_join old mid new [] ms v w = subst (λ (x : Live). Chain x ms new) v w
chain_join old mid new (l ∷ ls) ms v w = (v.0, v.1, chain_join v.0 mid new ls ms v.2 w)

-- one more line, after lines of which none adds the empty clause
pub stops_push : (ls : List LogLine) (l : LogLine)
    → AddsNoEmptyClause ls → StopsAtEmptyClause (ls ++ l ∷ [])
stops_push [] l h = tt
stops_push (k ∷ []) l h = (h.0, tt)
stops_push (k ∷ j ∷ ls) l h = (h.0, stops_push (j ∷ ls) l h.1)

pub open_push : (ls : List LogLine) (l : LogLine) → AddsNoEmptyClause ls
    → adds_empty_clause l ≡ false → AddsNoEmptyClause (ls ++ l ∷ [])
open_push [] l h e = (e, tt)
open_push (k ∷ ls) l h e = (h.0, open_push ls l h.1 e)

-- an id alone is distinct
pub one_apart : (i : ℕ) → IsDistinct nat_eq (i ∷ [])
unfolding IsDistinct
one_apart i = (tt, tt)

-- what is live in the one is live in the other
abbrev pub Covers : Clauses → Clauses → Type 0
Covers at bt = (i : ℕ) (c : List Literal) → at i ≡ Some c → bt i ≡ Some c

covers_with : (at bt : Live) (id : ℕ) (c : List Literal) → Covers at.clause_at bt.clause_at
    → Covers (with_clause at id c).clause_at (with_clause bt id c).clause_at
covers_with at bt id c h i d e = elim (cases_Bool (i == id)) [
  | inl t ↦ rw t (rw t at e)
  | inr t ↦ rw t (h i d (rw t at e))
]

covers_without : (at bt : Live) (ids : List ℕ) → Covers at.clause_at bt.clause_at
    → Covers (without_ids at ids).clause_at (without_ids bt ids).clause_at
covers_without at bt ids h i d e = elim (cases_Bool (list_any (nat_eq i) ids)) [
  | inl t ↦ absurd (none-some d (rw t at e))
  | inr t ↦ rw t (h i d (rw t at e))
]

covers_after : (at bt : Live) (ls : List ProofLine) → Covers at.clause_at bt.clause_at
    → Covers (live_after at ls).clause_at (live_after bt ls).clause_at
covers_after at bt [] h = h
covers_after at bt (Addition id c hints groups ∷ ls) h =
    covers_after (with_clause at id c) (with_clause bt id c) ls (covers_with at bt id c h)
covers_after at bt (Deletion lead ids ∷ ls) h =
    covers_after (without_ids at ids) (without_ids bt ids) ls (covers_without at bt ids h)

pub given_more : (given more : Given) → Covers (given_at given) (given_at (given ++ more))
given_more [] more i c e = absurd (none-some c e)
given_more ((Formula n, d) ∷ given) more i c e = elim (cases_Bool (n == i)) [
  | inl t ↦ rw t (rw t at e)
  | inr t ↦ rw t (given_more given more i c (rw t at e))
]
given_more ((Added n, d) ∷ given) more i c e = given_more given more i c e

pub live_more : (given more : Given) (base : ℕ) (ls : List LogLine)
    → Covers (log_live given base ls) (log_live (given ++ more) base ls)
live_more given more base ls =
    covers_after (start_over given base) (start_over (given ++ more) base)
    (numbered_lines base ls) (given_more given more)

pub base_front : (given more : Given) (base : ℕ)
    → IsBaseOf (given ++ more) base → IsBaseOf given base
base_front given more base h k d lt =
    rw (get_or_append_left given more d k lt) at (h k d (omega (arith, length-append given more)))

-- hints over more clauses
pub leads_covered : (at bt : Clauses) → Covers at bt
    → (A : List Literal) (hs : List ℕ) (B : List Literal) → Leads at A hs B → Leads bt A hs B
leads_covered at bt h A [] B w = w
leads_covered at bt h A (i ∷ hs) B w =
    (w.0, w.1, h i w.0 w.2, w.3, leads_covered at bt h (w.1 ∷ A) hs B w.4)

pub refutes_covered : (at bt : Clauses) → Covers at bt
    → (A : List Literal) (hs : List ℕ) → Refutes at A hs → Refutes bt A hs
refutes_covered at bt h A hs w = record {
  front = w.front;
  final = w.final;
  split = w.split;
  reached = w.reached;
  leads = leads_covered at bt h A w.front w.reached w.leads;
  clause = w.clause;
  live = h w.final w.clause w.live;
  conflict = w.conflict;
}

pub ids_covered : (at bt : Clauses) → Covers at bt → (ids : List ℕ)
    → AllByRecursion (λ i. (c : List Literal) × (at i ≡ Some c)) ids
    → AllByRecursion (λ i. (c : List Literal) × (bt i ≡ Some c)) ids
ids_covered at bt h [] w = tt
ids_covered at bt h (i ∷ ids) w = ((w.0.0, h i w.0.0 w.0.1), ids_covered at bt h ids w.1)
