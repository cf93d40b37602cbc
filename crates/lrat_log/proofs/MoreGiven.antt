-- Lines that are new over some clauses stay new where further ones are given, but for these.
use Rattle.std.proofs.Common.{◌≡◌, ℕ, ◌<◌, ◌≤◌, Bool, true, false, List, [], ◌∷◌, ◌++◌, Option}
use Rattle.std.proofs.Common.{Some, None, refl, sym, ◌∙◌, ap, arith}
use Rattle.std.specs.Prelude.{◌==◌, nat_eq, if◌then◌else◌}
use Rattle.std.specs.List.{list_any}
use Rattle.std.proofs.lemmas.Bool.{eqb-true, false_from_ne_true, false≢true}
use Rattle.std.proofs.lemmas.Option.{none-some}
use Rattle.cnf.specs.Literal.{Literal}
use Rattle.cnf.specs.Refute.{Clauses, Leads}
use Rattle.cnf.specs.Lrat.{ProofLine, Addition, Deletion, CandidateHints, Live, IsRup, with_clause}
use Rattle.cnf.specs.Lrat.{without_ids}
use Rattle.lrat_log.specs.declared.lines.Name.TheVariants.{Formula, Added}
use Rattle.lrat_log.specs.Log.{LogLine, Given, given_at, start_over, numbered_lines}
use Rattle.lrat_log.specs.Steps.{LearnsNew, nothing_exempt, is_later, learned_count, live_after}
use Rattle.lrat_log.proofs.NewLines.{later_true, none_new, append_new}

-- what was live still is, and there is more under the ids of E alone
pub record Grown (E : ℕ → Bool) (at bt : Clauses) : Type 0 where
  pub same : (i : ℕ) → E i ≡ false → bt i ≡ at i
  pub kept : (i : ℕ) (c : List Literal) → at i ≡ Some c → bt i ≡ Some c

pub pick_kept : (t : Bool) (x y z : Option (List Literal)) (d : List Literal)
    → (y ≡ Some d → z ≡ Some d) → (if t then x else y) ≡ Some d → (if t then x else z) ≡ Some d
pick_kept true x y z d f h = h
pick_kept false x y z d f h = f h

pub grown_after : (E : ℕ → Bool) (a b : Live) (ls : List ProofLine)
    → Grown E a.clause_at b.clause_at
    → Grown E (live_after a ls).clause_at (live_after b ls).clause_at
grown_after E a b [] g = g
grown_after E a b (Addition id c hints groups ∷ ls) g =
    grown_after E (with_clause a id c) (with_clause b id c) ls (record {
      same = λ i h. ap (λ y. if i == id then Some c else y) (g.same i h);
      kept = λ i d h. pick_kept (i == id) (Some c) (a.clause_at i) (b.clause_at i) d (g.kept i d) h;
    })
grown_after E a b (Deletion lead ids ∷ ls) g =
    grown_after E (without_ids a ids) (without_ids b ids) ls (record {
      same = λ i h. ap (λ y. if list_any (nat_eq i) ids then None else y) (g.same i h);
      kept = λ i d h. pick_kept (list_any (nat_eq i) ids) None (a.clause_at i) (b.clause_at i) d
          (g.kept i d) h;
    })

leads_grown : (E : ℕ → Bool) (at bt : Clauses) → Grown E at bt
    → (A : List Literal) (hs : List ℕ) (B : List Literal) → Leads at A hs B → Leads bt A hs B
leads_grown E at bt g A [] B h = h
leads_grown E at bt g A (x ∷ hs) B h =
    (h.0, h.1, g.kept x h.0 h.2, h.3, leads_grown E at bt g (h.1 ∷ A) hs B h.4)

rup_grown : (E : ℕ → Bool) (at bt : Clauses) → Grown E at bt
    → (c : List Literal) (hints : List ℕ) (groups : List CandidateHints) → IsRup at c hints groups
    → IsRup bt c hints groups
rup_grown E at bt g c hints groups r =
    let f = r.1 in (
      r.0,
      record {
        front = f.front;
        final = f.final;
        split = f.split;
        reached = f.reached;
        leads = leads_grown E at bt g _ f.front f.reached f.leads;
        clause = f.clause;
        live = g.kept f.final f.clause f.live;
        conflict = f.conflict;
      },
    )

module _ (E exempt wider : ℕ → Bool) (given more : Given) (base : ℕ)
    (grown : Grown E (given_at given) (given_at more)) (outside : (i : ℕ) → wider i ≡ false
    → (exempt i ≡ false) × (E i ≡ false)) where
  pub still_new : (before ls : List LogLine) → LearnsNew exempt given base before ls
      → LearnsNew wider more base before ls
  still_new before [] h = tt
  still_new before (l ∷ ls) h =
      let g =
      grown_after E (start_over given base) (start_over more base)
      (numbered_lines base before) grown in (
        λ e. (let x = h.0 e in (
          λ i d w s. x.0 i d (outside i w).0 (sym (g.same i (outside i w).1) ∙ s),
          rup_grown E _ _ g l.clause _ _ x.1,
        )),
        still_new (before ++ l ∷ []) ls h.1,
      )

-- one clause more
same_more : (g : Given) (n : ℕ) (c : List Literal) (i : ℕ) → (n == i) ≡ false
    → given_at (g ++ (Formula n, c) ∷ []) i ≡ given_at g i
same_more [] n c i e = ap (λ b. if b then Some c else None) e
same_more ((Formula m, d) ∷ g) n c i e =
    ap (λ y. if m == i then Some d else y) (same_more g n c i e)
same_more ((Added m, d) ∷ g) n c i e = same_more g n c i e

kept_more : (g : Given) (n : ℕ) (c : List Literal) (i : ℕ) (x : List Literal)
    → given_at g i ≡ Some x → given_at (g ++ (Formula n, c) ∷ []) i ≡ Some x
kept_more [] n c i x h = absurd (none-some x h)
kept_more ((Formula m, d) ∷ g) n c i x h =
    pick_kept (m == i) (Some d) (given_at g i) (given_at (g ++ (Formula n, c) ∷ []) i) x
    (kept_more g n c i x) h
kept_more ((Added m, d) ∷ g) n c i x h = kept_more g n c i x h

pub new_more : (k base : ℕ) (g : Given) (n : ℕ) (c : List Literal) (old since : List LogLine)
    → k < n → n ≤ base → LearnsNew (is_later k base) g base [] old → learned_count since ≡ 0
    → LearnsNew (is_later k base) (g ++ (Formula n, c) ∷ []) base [] (old ++ since)
new_more k base g n c old since h l new none =
    let more : Given = g ++ (Formula n, c) ∷ [] in
    append_new (is_later k base) more base [] old since
    (still_new (λ i. n == i) (is_later k base) (is_later k base) g more base
    (record { same = same_more g n c; kept = kept_more g n c })
    (λ i w. (
      w,
      false_from_ne_true (n == i) (λ t. let e : n ≡ i = eqb-true n i t in
          false≢true (sym w ∙ later_true k base i (omega (arith, e, h)) (omega (arith, e, l)))),
    ))
    [] old new)
    (none_new (is_later k base) more base old since none)

-- a search that learns what is new to all
pub new_searched : (exempt : ℕ → Bool) (g : Given) (base : ℕ) (old since : List LogLine)
    → LearnsNew exempt g base [] old → LearnsNew nothing_exempt g base old since
    → LearnsNew exempt g base [] (old ++ since)
new_searched exempt g base old since h k =
    append_new exempt g base [] old since h
    (still_new nothing_exempt nothing_exempt exempt g g base
    (record { same = λ i e. refl; kept = λ i c e. e }) (λ i w. (refl, refl)) old since k)
