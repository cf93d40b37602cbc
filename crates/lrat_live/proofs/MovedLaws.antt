-- The near clauses after the recent ones were moved on, or their literals moved down.
use Rattle.std.proofs.Common.{◌≡◌, ℕ, ◌+◌, ◌-◌, ◌<◌, ◌≤◌, ◌^◌, List, [], ◌++◌, length, take}
use Rattle.std.proofs.Common.{drop, sym, ◌∙◌, ap, subst, arith}
use borrow.Rule.Slice.PartMut.{put_mid}
use Rattle.std.proofs.lemmas.List.{append-nil, drop_all, take_all, take_at, drop_at}
use Rattle.std.proofs.lemmas.List.{take-take, take_rest, length-take-le, length-drop, length-append}
use Rattle.cnf.specs.Literal.{Literal}
use Rattle.lrat_live.specs.Listed.{Listed}
use Rattle.lrat_live.specs.Near.{NearParts, spanned, given_in, recent_in, IsNear, AreSpread}
use Rattle.lrat_live.specs.declared.spans.LiveSpan.{LiveSpan}
use Rattle.lrat_live.proofs.SpanLaws.{spanned_below, spread_within, spread_le}

-- what a vector holds after its end from a place on was written
module _ (ss dm ys : List LiveSpan) (a len : ℕ) (value : dm ≡ ss) (within : a ≤ length ss)
    (count : len ≡ length ss) (long : length ys ≡ length (take (length dm - a) (drop a dm))) where
  part : put_mid a (length dm - a) dm ys ≡ take a ss ++ ys
  part =
      let n : length (drop a dm) ≤ length dm - a = omega (arith, length-drop a dm) in
      ap (λ xs. take a dm ++ (ys ++ xs)) (drop_all (length dm - a) (drop a dm) n)
      ∙ ap (λ xs. take a dm ++ xs) (append-nil ys) ∙ ap (λ xs. take a xs ++ ys) value

  all_long : length (put_mid a (length dm - a) dm ys) ≡ len
  all_long =
      let old : length ys ≡ length (drop a ss) =
      long ∙ ap length (take_rest dm a) ∙ ap (λ xs. length (drop a xs)) value in
      ap length part ∙ length-append (take a ss) ys
      ∙ omega (arith, length-take-le a ss within, old, length-drop a ss, count)

  pub written_end : take len (put_mid a (length dm - a) dm ys
      ++ drop (length (put_mid a (length dm - a) dm ys)) ss) ≡ take a ss ++ ys
  written_end =
      take_at (put_mid a (length dm - a) dm ys)
      (drop (length (put_mid a (length dm - a) dm ys)) ss) len all_long
      ∙ part

  pub before_end : (n : ℕ) → n ≡ a → take n (take len (put_mid a (length dm - a) dm ys
      ++ drop (length (put_mid a (length dm - a) dm ys)) ss)) ≡ take a ss
  before_end n e =
      ap (take n) written_end ∙ take_at (take a ss) ys n (length-take-le a ss within ∙ sym e)

module _ (ls : List Literal) (ss : List LiveSpan) (given given_literals gap : ℕ)
    (n : IsNear ls ss given given_literals gap) where
  front_long : length (take (given + 1) ss) ≡ given + 1
  front_long = length-take-le (given + 1) ss n.covers

  -- no recent clause
  whole : take (given + 1) (take (given + 1) ss) ≡ take (given + 1) ss
  whole = take_all (given + 1) (take (given + 1) ss) (omega (arith, front_long))

  nothing : drop (given + 1) (take (given + 1) ss) ≡ []
  nothing = drop_all (given + 1) (take (given + 1) ss) (omega (arith, front_long))

  pub near_cut : (more : ℕ) → given + 1 + more < 2 ^ 64
      → IsNear (take given_literals ls) (take (given + 1) ss) given given_literals more
  near_cut more small =
      let room : given_literals ≤ length ls =
      spread_le given_literals (drop (given + 1) ss) (length ls) n.recent in
      let long : length (take given_literals ls) ≡ given_literals =
      length-take-le given_literals ls room in
      record {
        covers = omega (arith, front_long);
        first_id = small;
        last_id = omega (arith, front_long, small);
        formula = subst (λ xs. AreSpread 0 xs given_literals) (sym whole) n.formula;
        recent = subst (λ xs. AreSpread given_literals xs (length (take given_literals ls)))
            (sym nothing) (omega (arith, long));
        few = omega (arith, long, room, n.few);
      }

  pub given_cut : given_in (take given_literals ls) (take (given + 1) ss) given
      ≡ given_in ls ss given
  given_cut =
      ap (spanned (take given_literals ls) 0) whole
      ∙ spanned_below (take given_literals ls) ls 0 (take (given + 1) ss) given_literals
      (spread_within 0 (take (given + 1) ss) given_literals n.formula)
      (take-take given_literals given_literals ls (omega arith))

  -- other spans and literals behind those of the formula
  module _ (ms : List Literal) (ys : List LiveSpan)
      (below : take given_literals ms ≡ take given_literals ls) where
    pub given_squeezed : given_in ms (take (given + 1) ss ++ ys) given ≡ given_in ls ss given
    given_squeezed =
        ap (spanned ms 0) (take_at (take (given + 1) ss) ys (given + 1) front_long)
        ∙ spanned_below ms ls 0 (take (given + 1) ss) given_literals
        (spread_within 0 (take (given + 1) ss) given_literals n.formula) below

    pub recent_squeezed : spanned ms (given + 1 + gap) ys ≡ recent_in ls ss given gap
        → recent_in ms (take (given + 1) ss ++ ys) given gap ≡ recent_in ls ss given gap
    recent_squeezed e =
        ap (spanned ms (given + 1 + gap))
        (drop_at (take (given + 1) ss) ys (given + 1) front_long) ∙ e

abbrev pub parts : Listed → Listed → NearParts
parts gs rs = record { given = gs; recent = rs }

pub parts_same : (gs rs hs ss : Listed) → gs ≡ hs → rs ≡ ss → parts gs rs ≡ parts hs ss
parts_same gs rs hs ss e f = ap (λ xs. parts xs rs) e ∙ ap (parts hs) f
