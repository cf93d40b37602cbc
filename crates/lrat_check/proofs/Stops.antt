-- A reader that is read no further than the verdict takes.
use Rattle.std.proofs.Common.{◌≡◌, ℕ, ◌+◌, ◌≤◌, Bool, true, false, List, [], ◌∷◌}
use Rattle.std.proofs.Common.{◌++◌, length, inl, inr, ◌⊎◌, refl, sym, ◌∙◌, ap, arith}
use Rattle.std.proofs.Common.{append_assoc}
use Rattle.std.specs.Prelude.{◌^◌, ◌==◌, Option, if◌then◌else◌}
use Rattle.std.proofs.lemmas.Bool.{false≢true}
use Rattle.std.proofs.lemmas.List.Elements.{All-head, All-tail}
use Rattle.std.specs.Io.KnownBytes.{Consumes}
use Rattle.std.proofs.KnownBytes.{Consumes-nil}
use Rattle.cnf.specs.Literal.{Literal}
use Rattle.cnf.specs.Lrat.{Live}
use Rattle.text.specs.declared.watched.TheConstants.{READ_SIZE}
use Rattle.text.specs.Text.{IsNoFeed, token_lines}
use Rattle.lrat_machine.specs.Machine.{MachineState, live_in, verdict_after}
use Rattle.lrat_machine.specs.declared.verdicts.Verdict.{Verdict}
use Rattle.lrat_machine.specs.declared.verdicts.Verdict.TheVariants.{Yes, No}
use Rattle.lrat_check.specs.Pieces.{IsOpen, ReadingState}
use Rattle.lrat_check.specs.Stopping.{feeds, Settles, GoesOnFor, ReadsOn, StopsInTime}
use Rattle.lrat_check.specs.Verdict.{proof_verdict, verdict_on}

-- a line that no verdict passes, at once or one line later
abbrev number : Verdict → ℕ
number Yes = 0
number (No cause n) = n

no_next : (n : ℕ) → n ≡ n + 1 → ⊥
no_next n e = omega (arith, e)

apart : (l : Live) (b : Bool) (n : ℕ) (v : Verdict)
    → verdict_on l b n (token_lines (120 ∷ [])) ≡ v
    → verdict_on l b n (token_lines (10 ∷ 120 ∷ [])) ≡ v → ⊥
apart l true n v e f = no_next n (ap number (e ∙ sym f))
apart l false n v e f = no_next n (ap number (e ∙ sym f))

pub open_unsettled : (m : MachineState) (formula : List (List Literal)) (done : List ℕ)
    → ((more : List ℕ)
    → verdict_after m (token_lines more) ≡ proof_verdict formula (done ++ more))
    → Settles (proof_verdict formula) done → ⊥
open_unsettled m formula done resumes (v, e) =
    apart (live_in m) m.ended (m.lines + 1) v
    (resumes (120 ∷ []) ∙ e (120 ∷ []))
    (resumes (10 ∷ 120 ∷ []) ∙ e (10 ∷ 120 ∷ []))

-- line feeds
feeds-append : (x y : List ℕ) → feeds (x ++ y) ≡ feeds x + feeds y
feeds-append [] y = omega arith
feeds-append (b ∷ x) y = let e = feeds-append x y in omega (arith, e)

one_feed : (c : Bool) → (if c then 1 else 0) ≤ 1
one_feed true = omega arith
one_feed false = omega arith

feeds_most : (x : List ℕ) → feeds x ≤ length x
feeds_most [] = omega arith
feeds_most (b ∷ x) = let e = feeds_most x in let one = one_feed (b == 10) in omega (arith, e, one)

no_feed : (c : Bool) → c ≡ false → (if c then 1 else 0) ≤ 0
no_feed true e = absurd (false≢true (sym e))
no_feed false e = omega arith

feeds_none : (x : List ℕ) → IsNoFeed x → feeds x ≡ 0
feeds_none [] h = refl
feeds_none (b ∷ x) h =
    let none = no_feed (b == 10) (All-head (λ y. (y == 10) ≡ false) b x h) in
    let more = feeds_none x (All-tail (λ y. (y == 10) ≡ false) b x h) in
    omega (arith, none, more)

-- parts that leave the verdict open
over_few : (rest piece : List ℕ) → IsNoFeed rest → length piece ≤ READ_SIZE
    → feeds (rest ++ piece) ≤ READ_SIZE
over_few rest piece unfinished small =
    let none = feeds_none rest unfinished in let most = feeds_most piece in
    let two = feeds-append rest piece in omega (arith, none, most, small, two)

pub stops_in_time : (verdict : List ℕ → Verdict) (old new : Option (List ℕ)) (bytes : List ℕ)
    → Consumes old new bytes → (bytes ≡ []) ⊎ ReadsOn verdict bytes → StopsInTime verdict old new
stops_in_time verdict old new bytes p (inl none) =
    record { bytes = bytes; read = p; in_time = inl none }
stops_in_time verdict old new bytes p (inr r) = record {
  bytes = bytes;
  read = p;
  in_time = inr (record {
    done = r.done;
    over = r.rest ++ r.piece;
    split = r.split ∙ ap (λ x. x ++ r.piece) r.cut ∙ append_assoc r.done r.rest r.piece;
    few = let few = over_few r.rest r.piece r.unfinished r.small in omega (arith, few);
    is_open = r.is_open;
  });
}

-- a piece more
pub piece_on : (r : ReadingState) (formula : List (List Literal)) (front piece : List ℕ)
    → IsOpen r formula front → length piece ≤ READ_SIZE
    → ReadsOn (proof_verdict formula) (front ++ piece)
piece_on r formula front piece o small = record {
  front = front;
  piece = piece;
  split = refl;
  small = small;
  done = o.done;
  rest = r.rest;
  cut = (o.cut).split;
  unfinished = (o.cut).unfinished;
  is_open = open_unsettled r.machine formula o.done o.resumes;
}

pub stops_same : (f g : List ℕ → Verdict) (old new : Option (List ℕ))
    → ((bytes : List ℕ) → f bytes ≡ g bytes) → StopsInTime f old new → StopsInTime g old new
stops_same f g old new same h = record {
  bytes = h.bytes;
  read = h.read;
  in_time = on h.in_time;
}
  where
    on : (h.bytes ≡ []) ⊎ GoesOnFor (2 ^ 17) f h.bytes
        → (h.bytes ≡ []) ⊎ GoesOnFor (2 ^ 17) g h.bytes
    on (inl none) = inl none
    on (inr k) = inr (record {
      done = k.done;
      over = k.over;
      split = k.split;
      few = k.few;
      is_open = λ s. k.is_open (s.0, λ more. same (k.done ++ more) ∙ s.1 more);
    })

-- nothing was read
pub stops_at_once : (f : List ℕ → Verdict) (known : Option (List ℕ)) → StopsInTime f known known
stops_at_once f known = record { bytes = []; read = Consumes-nil known; in_time = inl refl }
