-- A certificate in pieces: what holds after a line more, after a piece, and at the end.
use Rattle.std.proofs.Common.{◌≡◌, ℕ, ◌<◌, Bool, true, false, List, [], ◌∷◌, ◌++◌, Option}
use Rattle.std.proofs.Common.{Some, None, refl, sym, ◌∙◌, ap, subst, length}
use Rattle.std.proofs.Common.{append_assoc, inl, rules}
use Rattle.std.specs.Prelude.{◌==◌, not, is_some, IfSome, Ok, Err}
use Rattle.std.specs.Str.Lines.{strip_carriage_return}
use Rattle.std.proofs.lemmas.List.Elements.{All-append}
use Rattle.cnf.specs.Problem.{Problem}
use Rattle.text.specs.Text.{tokens_of, token_lines, IsNoFeed}
use Rattle.text.specs.Pieces.{IsCut, HasTaken}
use Rattle.text.proofs.Laws.{cut-ended, cut-kept, line_tokens-first, line_tokens-last, taken-on}
use Rattle.text.proofs.Laws.{taken-whole}
use Rattle.lrat_machine.specs.declared.verdicts.Cause.{Cause}
use Rattle.lrat_cuts.specs.Cuts.{cuts_start}
use Rattle.lrat_cuts.specs.Machine.{MachineState, judged_after}
use Rattle.lrat_cuts.specs.Pieces.{CheckerState, HasJudged, Holds, IsOpen, IsRefused, Judges}
use Rattle.lrat_cuts.specs.Pieces.{ReadingState}
use Rattle.lrat_cuts.specs.Verdict.{cuts_verdict, judged_text, verdict_of}

-- a line more
module _ (old new : ReadingState) (end line : List ℕ) (no_feed : IsNoFeed end)
    (same : line ≡ strip_carriage_return (old.rest ++ end)) (empty : new.rest ≡ [])
    (cost : Option ℕ) (p : Problem) (bytes : List ℕ) (o : IsOpen old cost p bytes) where
  abbrev whole : List ℕ
  whole = bytes ++ (end ++ 10 ∷ [])

  whole_cut : IsCut whole whole []
  whole_cut = cut-ended bytes (end ++ 10 ∷ []) (end, refl)

  no_feeds : IsNoFeed (old.rest ++ end)
  no_feeds = All-append (λ b. (b == 10) ≡ false) old.rest end (o.cut).unfinished no_feed

  regroup : (d r e more : List ℕ)
      → d ++ ((r ++ e) ++ 10 ∷ more) ≡ ((d ++ r) ++ (e ++ 10 ∷ [])) ++ more
  regroup d r e more = simp append_assoc

  from_old : (more : List ℕ) → judged_after old.machine (tokens_of line ∷ token_lines more)
      ≡ judged_text cost p (whole ++ more)
  from_old more =
      ap (λ x. judged_after old.machine (tokens_of x ∷ token_lines more)) same
      ∙ ap (judged_after old.machine) (sym (line_tokens-first (old.rest ++ end) more no_feeds))
      ∙ o.resumes ((old.rest ++ end) ++ 10 ∷ more)
      ∙ ap (judged_text cost p) (regroup o.done old.rest end more)
      ∙ ap (λ x. judged_text cost p ((x ++ (end ++ 10 ∷ [])) ++ more)) (sym (o.cut).split)

  still_open : Judges old.machine line new.machine None → IsOpen new cost p whole
  still_open j = record {
    done = whole;
    cut = subst (IsCut whole whole) (sym empty) whole_cut;
    resumes = λ more. sym (j (token_lines more)) ∙ from_old more;
  }

  now_refused : (e : Cause × ℕ) → Judges old.machine line new.machine (Some e)
      → IsRefused e cost p whole
  now_refused e j = record {
    done = whole;
    after = [];
    split = whole_cut.split;
    ended = whole_cut.ended;
    stays = λ more. sym (from_old more) ∙ j (token_lines more);
  }

pub line_more : (old new : ReadingState) (end line : List ℕ) → old.refused ≡ None → IsNoFeed end
    → line ≡ strip_carriage_return (old.rest ++ end) → new.rest ≡ []
    → Judges old.machine line new.machine new.refused
    → (cost : Option ℕ) (p : Problem) (bytes : List ℕ) → Holds old cost p bytes
    → Holds new cost p (bytes ++ (end ++ 10 ∷ []))
line_more old new end line none no_feed same empty j cost p bytes h = record {
  open_end = λ e. still_open old new end line no_feed same empty cost p bytes (h.open_end none)
      (subst (Judges old.machine line new.machine) e j);
  refused = λ v e. now_refused old new end line no_feed same empty cost p bytes (h.open_end none)
      v (subst (Judges old.machine line new.machine) e j);
}

-- what comes after a fault is dropped
pub holds_more : (r : ReadingState) (cost : Option ℕ) (p : Problem) (bytes more : List ℕ)
    → (r.refused ≡ None → ⊥) → Holds r cost p bytes → Holds r cost p (bytes ++ more)
holds_more r cost p bytes more some h = record {
  open_end = λ e. absurd (some e);
  refused = λ v e. let w = h.refused v e in record {
    done = w.done;
    after = w.after ++ more;
    split = ap (λ x. x ++ more) w.split ∙ append_assoc w.done w.after more;
    ended = w.ended;
    stays = w.stays;
  };
}

-- all but the left part of the piece was taken
abbrev pub TakesUpTo : ReadingState → ReadingState → List ℕ → List ℕ → Type 0
TakesUpTo old new piece left =
    (cost : Option ℕ) (p : Problem) → HasTaken (Holds old cost p) (Holds new cost p) piece left

pub taken_on : (old mid new : ReadingState) (piece left text rest : List ℕ)
    → TakesUpTo old mid piece left → left ≡ text ++ rest
    → ((cost : Option ℕ) (p : Problem) (bytes : List ℕ) → Holds mid cost p bytes
    → Holds new cost p (bytes ++ text))
    → TakesUpTo old new piece rest
taken_on old mid new piece left text rest t split next cost p =
    taken-on (Holds old cost p) (Holds mid cost p) (Holds new cost p) piece left text rest
    (t cost p) split (next cost p)

kept_rest : (mid new : ReadingState) (left : List ℕ) → mid.refused ≡ None → IsNoFeed left
    → new.machine ≡ mid.machine → new.refused ≡ mid.refused → new.rest ≡ mid.rest ++ left
    → (cost : Option ℕ) (p : Problem) (bytes : List ℕ) → Holds mid cost p bytes
    → Holds new cost p (bytes ++ left)
kept_rest mid new left none no_feed machine refused rest cost p bytes m =
    let o = m.open_end none in
    record {
      open_end = λ e. record {
        done = o.done;
        cut = subst (IsCut (bytes ++ left) o.done) (sym rest)
            (cut-kept bytes o.done mid.rest left o.cut no_feed);
        resumes = λ more. ap (λ (x : MachineState). judged_after x (token_lines more)) machine
            ∙ o.resumes more;
      };
      refused = λ v e. absurd (let two : None ≡ Some v = sym none ∙ sym refused ∙ e in cc);
    }

pub rest_kept : (old mid new : ReadingState) (piece left : List ℕ) → TakesUpTo old mid piece left
    → mid.refused ≡ None → IsNoFeed left → new.machine ≡ mid.machine
    → new.refused ≡ mid.refused → new.rest ≡ mid.rest ++ left
    → (cost : Option ℕ) (p : Problem) (bytes : List ℕ) → Holds old cost p bytes
    → Holds new cost p (bytes ++ piece)
rest_kept old mid new piece left t none no_feed machine refused rest cost p =
    taken-whole (Holds old cost p) (Holds mid cost p) (Holds new cost p) piece left (t cost p)
    (kept_rest mid new left none no_feed machine refused rest cost p)

pub rest_dropped : (old new : ReadingState) (piece left : List ℕ) → TakesUpTo old new piece left
    → (new.refused ≡ None → ⊥)
    → (cost : Option ℕ) (p : Problem) (bytes : List ℕ) → Holds old cost p bytes
    → Holds new cost p (bytes ++ piece)
rest_dropped old new piece left t some cost p =
    taken-whole (Holds old cost p) (Holds new cost p) (Holds new cost p) piece left (t cost p)
    (λ bytes h. holds_more new cost p bytes left some h)

-- what a test for a fault says
pub some_from_test : (o : Option (Cause × ℕ)) (b : Bool) → is_some o ≡ not b → b ≡ false
    → o ≡ None → ⊥
some_from_test o b e h none = let t : false ≡ true = sym (ap is_some none) ∙ e ∙ ap not h in cc

pub none_from_test : (o : Option (Cause × ℕ)) (b : Bool) → is_some o ≡ not b → b ≡ true → o ≡ None
none_from_test None b e h = refl
none_from_test (Some v) b e h = let t : true ≡ false = e ∙ ap not h in absurd (cc)

pub some_from_true : (o : Option (Cause × ℕ)) → is_some o ≡ true → o ≡ None → ⊥
some_from_true o e none = let t : false ≡ true = sym (ap is_some none) ∙ e in cc

-- the end
pub judged_refused : (r : ReadingState) (e : Cause × ℕ) → r.refused ≡ Some e
    → (cost : Option ℕ) (p : Problem) (bytes more : List ℕ) → Holds r cost p bytes
    → judged_text cost p (bytes ++ more) ≡ Err e
judged_refused r e is cost p bytes more h =
    let w = h.refused e is in
    ap (λ x. judged_text cost p (x ++ more)) w.split
    ∙ ap (judged_text cost p) (append_assoc w.done w.after more) ∙ w.stays (w.after ++ more)

module _ (r : ReadingState) (cost : Option ℕ) (p : Problem) (bytes : List ℕ)
    (h : Holds r cost p bytes) where
  pub ends_refused : (e : Cause × ℕ) → r.refused ≡ Some e
      → verdict_of (Err e) ≡ cuts_verdict cost p bytes
  ends_refused e is =
      let w = h.refused e is in
      ap verdict_of (sym (ap (judged_text cost p) w.split ∙ w.stays w.after))

  pub ends_empty : r.refused ≡ None → r.rest ≡ []
      → verdict_of (Ok (r.machine).state) ≡ cuts_verdict cost p bytes
  ends_empty none empty =
      let o = h.open_end none in
      ap verdict_of (o.resumes []
      ∙ ap (judged_text cost p) (ap (λ x. o.done ++ x) (sym empty) ∙ sym (o.cut).split))

  last_line : r.refused ≡ None → 0 < length r.rest
      → judged_after r.machine (tokens_of r.rest ∷ []) ≡ judged_text cost p bytes
  last_line none some =
      let o = h.open_end none in
      ap (judged_after r.machine) (sym (line_tokens-last r.rest some (o.cut).unfinished))
      ∙ o.resumes r.rest ∙ ap (judged_text cost p) (sym (o.cut).split)

  pub ends_open : r.refused ≡ None → 0 < length r.rest → (new : MachineState)
      → Judges r.machine r.rest new None → verdict_of (Ok new.state) ≡ cuts_verdict cost p bytes
  ends_open none some new j = ap verdict_of (sym (j []) ∙ last_line none some)

  pub ends_fault : r.refused ≡ None → 0 < length r.rest → (new : MachineState) (e : Cause × ℕ)
      → Judges r.machine r.rest new (Some e) → verdict_of (Err e) ≡ cuts_verdict cost p bytes
  ends_fault none some new e j = ap verdict_of (sym (j []) ∙ last_line none some)

abbrev pub StaysFault : CheckerState → Cause × ℕ → Type 0
StaysFault c e =
    (cost : Option ℕ) (p : Problem) (bytes more : List ℕ) → HasJudged c cost p bytes
    → judged_text cost p (bytes ++ more) ≡ Err e

pub checker_stays : (c : CheckerState) (o : Option (Cause × ℕ)) → o ≡ (c.reading).refused
    → IfSome o (StaysFault c)
checker_stays c None e = tt
checker_stays c (Some v) e =
    λ cost p bytes more s. judged_refused c.reading v (sym e) cost p bytes more s.holds

-- what holds of the value of a checker holds of what it is the value of
pub holds_seen : (c d : CheckerState) → c ≡ d → (cost : Option ℕ) (p : Problem) (bytes : List ℕ)
    → Holds d.reading cost p bytes → Holds c.reading cost p bytes
holds_seen c d e cost p bytes h =
    subst (λ (x : CheckerState). Holds x.reading cost p bytes) (sym e) h

-- no byte was read yet
pub begins : (m : MachineState) (rest : List ℕ) (cost : Option ℕ) (p : Problem)
    → m ≡ record { state = cuts_start p; cost = cost; lines = 0; made = [] } → rest ≡ []
    → HasJudged (record {
      reading = record { machine = m; rest = rest; refused = None };
      fed = 0;
      failed = false;
    }) cost p []
begins m rest cost p first empty = record {
  fed = refl;
  holds = record {
    open_end = λ e. record {
      done = [];
      cut = subst (IsCut [] []) (sym empty)
          (record { split = refl; ended = inl refl; unfinished = search rules });
      resumes = λ more. ap (λ x. judged_after x (token_lines more)) first;
    };
    refused = λ v e. absurd (let two : None ≡ Some v = e in cc);
  };
}
