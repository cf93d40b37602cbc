-- The near clauses that a formula gives, and one more behind the recent ones.
use Rattle.std.proofs.Common.{◌≡◌, ℕ, ◌+◌, ◌-◌, ◌<◌, ◌≤◌, ◌^◌, true, List, [], ◌∷◌, ◌++◌}
use Rattle.std.proofs.Common.{length, take, drop, replicate, sym, ◌∙◌, ap, subst, arith, inl}
use Rattle.std.proofs.Common.{inr}
use Rattle.std.specs.Prelude.{All}
use Rattle.std.proofs.lemmas.Bool.{cases_lt, false≢true}
use Rattle.std.proofs.lemmas.List.{take-append-le, drop-append-le, drop-take, take-take}
use Rattle.std.proofs.lemmas.List.{length-take-le, length-drop, length-append, length-replicate}
use Rattle.std.proofs.lemmas.List.{take_all, drop_all, append-nil}
use Rattle.std.proofs.Math.Seq.{take-append_seam, drop-append_seam}
use Rattle.cnf.specs.Literal.{Literal}
use Rattle.lrat_live.specs.Listed.{listed_from}
use Rattle.lrat_live.specs.Near.{is_live, nowhere, literals_at, spanned, spans_from, AreSpread}
use Rattle.lrat_live.specs.Near.{AreWithin, padded, given_in, recent_in, IsNear}
use Rattle.lrat_live.specs.declared.spans.LiveSpan.{LiveSpan}
use Rattle.lrat_live.specs.declared.spans.TheConstants.{MOST_KEPT}
use Rattle.lrat_live.proofs.SpanLaws.{spanned-append, spanned_live, spanned_none, spanned_cut}
use Rattle.lrat_live.proofs.SpanLaws.{spanned_below, spread_within, spread_up, spread_le}
use Rattle.lrat_live.proofs.SpanLaws.{spread_take, spread_none, spread-append, end_live}
use Rattle.lrat_live.proofs.StartLaws.{joined, spread_from, spanned_from, live_below}

-- a formula's clauses
module _ (ls : List Literal) (ss : List LiveSpan) (cs : List (List Literal)) (given : ℕ)
    (lits : ls ≡ joined cs) (spans : ss ≡ nowhere ∷ spans_from 0 cs)
    (few : length (joined cs) ≤ MOST_KEPT) (count : given + 1 ≡ length ss) where
  whole : take (given + 1) ss ≡ nowhere ∷ spans_from 0 cs
  whole = take_all (given + 1) ss (omega (arith, count)) ∙ spans

  laid : AreSpread 0 (spans_from 0 cs) (length ls)
  laid =
      let n : length ls ≡ length (joined cs) = ap length lits in
      spread_from 0 cs (length ls) (omega (arith, n)) (omega (arith, n, few))

  pub near_new : length ss < 2 ^ 64 → IsNear ls ss given (length ls) 0
  near_new small = record {
    covers = omega (arith, count);
    first_id = omega (arith, count, small);
    last_id = omega (arith, small);
    formula = subst (λ xs. AreSpread 0 xs (length ls)) (sym whole) (
      λ t. absurd (false≢true t),
      laid,
    );
    recent = subst (λ xs. AreSpread (length ls) xs (length ls))
        (sym (drop_all (given + 1) ss (omega (arith, count)))) (omega arith);
    few = omega (arith, few, ap length lits);
  }

  pub given_new : given_in ls ss given ≡ listed_from 1 cs
  given_new =
      ap (spanned ls 0) whole ∙ spanned_from ls 1 0 cs lits (omega (arith, few))

-- more spans, of no clause
reaches : (k place : ℕ) (ss : List LiveSpan) → k ≤ place → k ≤ length ss
    → k ≤ length (take place ss)
reaches k place ss h g =
    elim (cases_lt (length ss) place) [
      | inl l ↦ omega (arith, ap length (take_all place ss (omega arith)))
      | inr l ↦ omega (arith, length-take-le place ss l)
    ]

pub padded_take : (k place : ℕ) (ss : List LiveSpan) → k ≤ place → k ≤ length ss
    → take k (padded place ss) ≡ take k ss
padded_take k place ss h g =
    take-append-le k (take place ss) (replicate (place - length ss) nowhere)
    (reaches k place ss h g)
    ∙ take-take k place ss h

pub padded_drop : (k place : ℕ) (ss : List LiveSpan) → k ≤ place → k ≤ length ss
    → drop k (padded place ss) ≡ padded (place - k) (drop k ss)
padded_drop k place ss h g =
    let z : k + (place - k) ≡ place = omega arith in
    let m : place - length ss ≡ (place - k) - length (drop k ss) =
    omega (arith, length-drop k ss) in
    drop-append-le k (take place ss) (replicate (place - length ss) nowhere)
    (reaches k place ss h g)
    ∙ ap (λ n. drop k (take n ss) ++ replicate (place - length ss) nowhere) (sym z)
    ∙ ap (λ xs. xs ++ replicate (place - length ss) nowhere) (drop-take k (place - k) ss)
    ∙ ap (λ n. take (place - k) (drop k ss) ++ replicate n nowhere) m

pub length-padded : (place : ℕ) (ss : List LiveSpan) → length (padded place ss) ≡ place
length-padded place ss =
    let n = length-append (take place ss) (replicate (place - length ss) nowhere) in
    let m = length-replicate (place - length ss) nowhere in
    elim (cases_lt (length ss) place) [
      | inl l ↦ omega (arith, n, m, ap length (take_all place ss (omega arith)))
      | inr l ↦ omega (arith, n, m, length-take-le place ss l)
    ]

module _ (ls : List Literal) (ss : List LiveSpan) (given given_literals gap : ℕ)
    (n : IsNear ls ss given given_literals gap) where
  given_within : AreWithin (take (given + 1) ss) (length ls)
  given_within =
      spread_within 0 (take (given + 1) ss) (length ls)
      (spread_up 0 (take (given + 1) ss) given_literals (length ls)
      (spread_le given_literals (drop (given + 1) ss) (length ls) n.recent) n.formula)

  recent_within : AreWithin (drop (given + 1) ss) (length ls)
  recent_within = spread_within given_literals (drop (given + 1) ss) (length ls) n.recent

  -- as many spans as a place says
  module _ (place id : ℕ) (above : given + 1 ≤ place) (at : place + gap ≡ id) where
    behind : drop (given + 1) (padded place ss)
        ≡ padded (place - (given + 1)) (drop (given + 1) ss)
    behind = padded_drop (given + 1) place ss above n.covers

    pub near_padded : id < 2 ^ 64 → IsNear ls (padded place ss) given given_literals gap
    near_padded small =
        let long : length (padded place ss) ≡ place = length-padded place ss in
        record {
          covers = omega (arith, long, above);
          first_id = n.first_id;
          last_id = omega (arith, long, at, small);
          formula = subst (λ xs. AreSpread 0 xs given_literals)
              (sym (padded_take (given + 1) place ss above n.covers)) n.formula;
          recent = subst (λ xs. AreSpread given_literals xs (length ls)) (sym behind)
              (spread-append given_literals (take (place - (given + 1)) (drop (given + 1) ss))
              (replicate ((place - (given + 1)) - length (drop (given + 1) ss)) nowhere)
              (length ls) (length ls)
              (spread_take given_literals (drop (given + 1) ss) (length ls)
              (place - (given + 1)) n.recent)
              (spread_none (length ls)
              ((place - (given + 1)) - length (drop (given + 1) ss))));
          few = n.few;
        }

    pub given_padded : given_in ls (padded place ss) given ≡ given_in ls ss given
    given_padded = ap (spanned ls 0) (padded_take (given + 1) place ss above n.covers)

    pub recent_padded : All (λ (e : ℕ × List Literal). e.0 < id) (recent_in ls ss given gap)
        → recent_in ls (padded place ss) given gap ≡ recent_in ls ss given gap
    recent_padded below =
        ap (spanned ls (given + 1 + gap)) behind
        ∙ spanned-append ls (given + 1 + gap) (take (place - (given + 1)) (drop (given + 1) ss))
        (replicate ((place - (given + 1)) - length (drop (given + 1) ss)) nowhere)
        ∙ ap (λ es. spanned ls (given + 1 + gap)
        (take (place - (given + 1)) (drop (given + 1) ss)) ++ es)
        (spanned_none ls
        (given + 1 + gap + length (take (place - (given + 1)) (drop (given + 1) ss)))
        ((place - (given + 1)) - length (drop (given + 1) ss)))
        ∙ append-nil (spanned ls (given + 1 + gap)
        (take (place - (given + 1)) (drop (given + 1) ss)))
        ∙ spanned_cut ls (given + 1 + gap) (drop (given + 1) ss) (place - (given + 1)) id
        (omega (arith, at, above)) below

  -- a clause behind the last span
  module _ (c : List Literal) (id : ℕ) (at : length ss + gap ≡ id)
      (few : length ls + length c ≤ MOST_KEPT) where
    abbrev x : LiveSpan
    x = record { start = length ls; length = length c }

    lives : is_live (record { start = length ls; length = length c }) ≡ true
    lives = live_below (length ls) (length c) (omega arith)

    behind_last : drop (given + 1) (ss ++ x ∷ []) ≡ drop (given + 1) ss ++ x ∷ []
    behind_last = drop-append-le (given + 1) ss (x ∷ []) n.covers

    before_last : take (given + 1) (ss ++ x ∷ []) ≡ take (given + 1) ss
    before_last = take-append-le (given + 1) ss (x ∷ []) n.covers

    kept : take (length ls) (ls ++ c) ≡ take (length ls) ls
    kept = take-append_seam ls c ∙ sym (take_all (length ls) ls (omega arith))

    pub near_last : id < 2 ^ 64 → IsNear (ls ++ c) (ss ++ x ∷ []) given given_literals gap
    near_last small =
        let long : length (ss ++ x ∷ []) ≡ length ss + 1 = length-append ss (x ∷ []) in
        let more : length (ls ++ c) ≡ length ls + length c = length-append ls c in
        record {
          covers = omega (arith, long, n.covers);
          first_id = n.first_id;
          last_id = omega (arith, long, at, small);
          formula = subst (λ xs. AreSpread 0 xs given_literals) (sym before_last) n.formula;
          recent = subst (λ xs. AreSpread given_literals xs (length (ls ++ c))) (sym behind_last)
              (spread-append given_literals (drop (given + 1) ss) (x ∷ []) (length ls)
              (length (ls ++ c)) n.recent (
                λ t. omega arith,
                omega (arith, more, end_live (length ls) x lives),
              ));
          few = omega (arith, more, few);
        }

    pub given_last : given_in (ls ++ c) (ss ++ x ∷ []) given ≡ given_in ls ss given
    given_last =
        ap (spanned (ls ++ c) 0) before_last
        ∙ spanned_below (ls ++ c) ls 0 (take (given + 1) ss) (length ls) given_within kept

    pub recent_last : recent_in (ls ++ c) (ss ++ x ∷ []) given gap
        ≡ recent_in ls ss given gap ++ (id, c) ∷ []
    recent_last =
        let m : given + 1 + gap + length (drop (given + 1) ss) ≡ id =
        omega (arith, length-drop (given + 1) ss, n.covers, at) in
        let k : length ls + length c - length ls ≡ length c = omega arith in
        let here : literals_at (ls ++ c) x ≡ c =
        ap (λ j. take j (drop (length ls) (ls ++ c))) k
        ∙ ap (take (length c)) (drop-append_seam ls c) ∙ take_all (length c) c (omega arith) in
        ap (spanned (ls ++ c) (given + 1 + gap)) behind_last
        ∙ spanned-append (ls ++ c) (given + 1 + gap) (drop (given + 1) ss) (x ∷ [])
        ∙ ap (λ es. es ++ spanned (ls ++ c)
        (given + 1 + gap + length (drop (given + 1) ss)) (x ∷ []))
        (spanned_below (ls ++ c) ls (given + 1 + gap) (drop (given + 1) ss) (length ls)
        recent_within kept)
        ∙ ap (λ j. recent_in ls ss given gap ++ spanned (ls ++ c) j (x ∷ [])) m
        ∙ ap (λ es. recent_in ls ss given gap ++ es)
        (spanned_live (ls ++ c) id x [] lives ∙ ap (λ y. (id, y) ∷ []) here)
