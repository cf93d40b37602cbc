-- The near clauses: what is found under an id, and what a deletion leaves.
use Rattle.std.proofs.Common.{◌≡◌, ℕ, ◌+◌, ◌-◌, ◌<◌, ◌≤◌, true, false, List, ◌++◌, length, get_or}
use Rattle.std.proofs.Common.{take, drop, set, Some, None, sym, ◌∙◌, ap, subst, arith, inl, inr}
use Rattle.std.specs.Prelude.{nat_le}
use Rattle.std.proofs.lemmas.Bool.{cases_lt, leb-true, le-leb, cond-true, cond-false}
use Rattle.std.proofs.lemmas.Bool.{false_from_ne_true}
use Rattle.std.proofs.lemmas.List.{get_or-take, get_or-drop, length-take-le, take-set-le}
use Rattle.std.proofs.lemmas.List.{length-set, length-drop}
use Rattle.std.proofs.lemmas.List.{drop-set-lt, drop-set-add}
use Rattle.std.proofs.Math.Seq.{take-set-lt}
use Rattle.std.proofs.Math.ListN.{get_or-eq_default}
use Rattle.cnf.specs.Literal.{Literal}
use Rattle.lrat_live.specs.Listed.{listed_at, without_id}
use Rattle.lrat_live.specs.Near.{is_live, nowhere, literals_at, spanned, given_in, recent_in}
use Rattle.lrat_live.specs.Near.{IsPlace, IsNear}
use Rattle.lrat_live.specs.declared.spans.LiveSpan.{LiveSpan}
use Rattle.lrat_live.proofs.Clauses.{without_none}
use Rattle.lrat_live.proofs.LiveLaws.{listed_first, listed_second}
use Rattle.lrat_live.proofs.SpanLaws.{spanned_at, spanned_gone, spanned_before, spanned_after}
use Rattle.lrat_live.proofs.SpanLaws.{spanned_set, spread_set, spread_within, spread_le}

module _ (ls : List Literal) (ss : List LiveSpan) (given gap : ℕ)
    (covers : given + 1 ≤ length ss) where
  front : length (take (given + 1) ss) ≡ given + 1
  front = length-take-le (given + 1) ss covers

  low : (p : ℕ) → p ≤ given → get_or (take (given + 1) ss) p nowhere ≡ get_or ss p nowhere
  low p h = get_or-take (given + 1) ss p nowhere (omega arith)

  high : (p k : ℕ) → p ≡ given + 1 + k
      → get_or (drop (given + 1) ss) k nowhere ≡ get_or ss p nowhere
  high p k h = get_or-drop (given + 1) ss k nowhere ∙ ap (λ m. get_or ss m nowhere) (sym h)

  given_above : (id : ℕ) → given < id → listed_at (given_in ls ss given) id ≡ None
  given_above id h = spanned_after ls 0 (take (given + 1) ss) id (omega (arith, front))

  -- no clause is under an id whose place has none
  pub gone_low : (id : ℕ) → id ≤ given → is_live (get_or ss id nowhere) ≡ false
      → listed_at (given_in ls ss given ++ recent_in ls ss given gap) id ≡ None
  gone_low id h dead =
      listed_second (given_in ls ss given) (recent_in ls ss given gap) id
      (spanned_gone ls 0 (take (given + 1) ss) id id (omega arith) (ap is_live (low id h) ∙ dead))
      ∙ spanned_before ls (given + 1 + gap) (drop (given + 1) ss) id (omega arith)

  pub gone_between : (id : ℕ) → given < id → id < given + 1 + gap
      → listed_at (given_in ls ss given ++ recent_in ls ss given gap) id ≡ None
  gone_between id h k =
      listed_second (given_in ls ss given) (recent_in ls ss given gap) id (given_above id h)
      ∙ spanned_before ls (given + 1 + gap) (drop (given + 1) ss) id k

  pub gone_high : (id p : ℕ) → given < p → id ≡ p + gap → is_live (get_or ss p nowhere) ≡ false
      → listed_at (given_in ls ss given ++ recent_in ls ss given gap) id ≡ None
  gone_high id p h e dead =
      listed_second (given_in ls ss given) (recent_in ls ss given gap) id
      (given_above id (omega arith))
      ∙ spanned_gone ls (given + 1 + gap) (drop (given + 1) ss) (p - (given + 1)) id (omega arith)
      (ap is_live (high p (p - (given + 1)) (omega arith)) ∙ dead)

  -- the clause at a place
  module _ (id p : ℕ) (at : IsPlace ss given gap id p) where
    id_low : p ≤ given → id ≡ p
    id_low h = at.is ∙ cond-true (nat_le p given) p (p + gap) (le-leb p given h)

    id_high : given < p → id ≡ p + gap
    id_high h = at.is ∙ cond-false (nat_le p given) p (p + gap)
        (false_from_ne_true _ (λ t. absurd (omega (arith, leb-true p given t))))

    pub found_at : listed_at (given_in ls ss given ++ recent_in ls ss given gap) id
        ≡ Some (literals_at ls (get_or ss p nowhere))
    found_at =
        elim (cases_lt given p) [
          | inr h ↦
              listed_first (given_in ls ss given) (recent_in ls ss given gap) id
              (literals_at ls (get_or ss p nowhere))
              (spanned_at ls 0 (take (given + 1) ss) p id (omega (arith, id_low h))
              (ap is_live (low p h) ∙ at.live)
              ∙ ap (λ s. Some (literals_at ls s)) (low p h))
          | inl h ↦
              let e : get_or (drop (given + 1) ss) (p - (given + 1)) nowhere ≡ get_or ss p nowhere =
              high p (p - (given + 1)) (omega arith) in
              listed_second (given_in ls ss given) (recent_in ls ss given gap) id
              (given_above id (omega (arith, id_high h)))
              ∙ spanned_at ls (given + 1 + gap) (drop (given + 1) ss) (p - (given + 1)) id
              (omega (arith, id_high h)) (ap is_live e ∙ at.live)
              ∙ ap (λ s. Some (literals_at ls s)) e
        ]

    pub left_given : (x : LiveSpan) → is_live x ≡ false
        → given_in ls (set ss p x) given ≡ without_id id (given_in ls ss given)
    left_given x dead =
        elim (cases_lt given p) [
          | inr h ↦
              ap (spanned ls 0) (take-set-lt (given + 1) ss p x (omega arith))
              ∙ spanned_set ls 0 (take (given + 1) ss) p id x (omega (arith, id_low h)) dead
          | inl h ↦
              ap (spanned ls 0) (take-set-le (given + 1) ss p x (omega arith))
              ∙ sym (without_none id (given_in ls ss given)
              (given_above id (omega (arith, id_high h))))
        ]

    pub left_recent : (x : LiveSpan) → is_live x ≡ false
        → recent_in ls (set ss p x) given gap ≡ without_id id (recent_in ls ss given gap)
    left_recent x dead =
        elim (cases_lt given p) [
          | inr h ↦
              ap (spanned ls (given + 1 + gap)) (drop-set-lt (given + 1) ss p x (omega arith))
              ∙ sym (without_none id (recent_in ls ss given gap)
              (spanned_before ls (given + 1 + gap) (drop (given + 1) ss) id
              (omega (arith, id_low h))))
          | inl h ↦
              let k : given + 1 + (p - (given + 1)) ≡ p = omega arith in
              let e : drop (given + 1) (set ss p x)
              ≡ set (drop (given + 1) ss) (p - (given + 1)) x =
              ap (λ m. drop (given + 1) (set ss m x)) (sym k)
              ∙ drop-set-add (given + 1) ss (p - (given + 1)) x in
              ap (spanned ls (given + 1 + gap)) e
              ∙ spanned_set ls (given + 1 + gap) (drop (given + 1) ss) (p - (given + 1)) id x
              (omega (arith, id_high h)) dead
        ]

-- where spans lie after a deletion
pub near_set : (ls : List Literal) (ss : List LiveSpan) (given given_literals gap p : ℕ)
    (x : LiveSpan) → is_live x ≡ false → IsNear ls ss given given_literals gap
    → IsNear ls (set ss p x) given given_literals gap
near_set ls ss given given_literals gap p x dead n =
    let long : length (set ss p x) ≡ length ss = length-set ss p x in
    record {
      covers = rw long n.covers;
      first_id = n.first_id;
      last_id = rw long n.last_id;
      formula = elim (cases_lt given p) [
        | inr h ↦ rw (take-set-lt (given + 1) ss p x (omega arith))
            (spread_set 0 (take (given + 1) ss) given_literals p x dead n.formula)
        | inl h ↦ rw (take-set-le (given + 1) ss p x (omega arith)) n.formula
      ];
      recent = elim (cases_lt given p) [
        | inr h ↦ rw (drop-set-lt (given + 1) ss p x (omega arith)) n.recent
        | inl h ↦
            let k : given + 1 + (p - (given + 1)) ≡ p = omega arith in
            let e : drop (given + 1) (set ss p x) ≡ set (drop (given + 1) ss) (p - (given + 1)) x =
            ap (λ m. drop (given + 1) (set ss m x)) (sym k)
            ∙ drop-set-add (given + 1) ss (p - (given + 1)) x in
            rw e (spread_set given_literals (drop (given + 1) ss) (length ls) (p - (given + 1)) x
            dead n.recent)
      ];
      few = n.few;
    }

-- the literals of a live clause are there
pub near_within : (ls : List Literal) (ss : List LiveSpan) (given given_literals gap p : ℕ)
    → IsNear ls ss given given_literals gap → p < length ss
    → is_live (get_or ss p nowhere) ≡ true
    → (get_or ss p nowhere).start + (get_or ss p nowhere).length ≤ length ls
near_within ls ss given given_literals gap p n h live =
    elim (cases_lt given p) [
      | inr k ↦
          let e : get_or (take (given + 1) ss) p nowhere ≡ get_or ss p nowhere =
          low ls ss given gap n.covers p k in
          let b = spread_within 0 (take (given + 1) ss) given_literals n.formula p nowhere
          (omega (arith, length-take-le (given + 1) ss n.covers)) (ap is_live e ∙ live) in
          let c : (get_or ss p nowhere).start + (get_or ss p nowhere).length ≤ given_literals =
          subst (λ s. s.start + s.length ≤ given_literals) e b in
          omega (
            arith,
            c,
            spread_le given_literals (drop (given + 1) ss) (length ls) n.recent,
          )
      | inl k ↦
          let e : get_or (drop (given + 1) ss) (p - (given + 1)) nowhere ≡ get_or ss p nowhere =
          high ls ss given gap n.covers p (p - (given + 1)) (omega arith) in
          subst (λ s. s.start + s.length ≤ length ls) e
          (spread_within given_literals (drop (given + 1) ss) (length ls) n.recent
          (p - (given + 1)) nowhere (omega (arith, length-drop (given + 1) ss))
          (ap is_live e ∙ live))
    ]

pub beyond : (ss : List LiveSpan) (p : ℕ) → length ss ≤ p → is_live (get_or ss p nowhere) ≡ false
beyond ss p h = ap is_live (get_or-eq_default ss nowhere h)
