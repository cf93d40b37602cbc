-- A certificate in pieces: what holds after a line more, after a piece, and at the end.
use Rattle.std.proofs.Common.{◌≡◌, ℕ, ◌+◌, ◌<◌, ◌≤◌, Bool, true, false, List, [], ◌∷◌}
use Rattle.std.proofs.Common.{◌++◌, length, take, drop, Option, Some, None, refl, sym, ◌∙◌, ap}
use Rattle.std.proofs.Common.{subst, arith, append_assoc, append-nil}
use Rattle.std.specs.Prelude.{◌-◌, ◌==◌, not, is_some, IfSome}
use Rattle.std.specs.Str.Lines.{strip_carriage_return}
use Rattle.std.proofs.lemmas.List.{length-drop, take_rest, take-append-drop}
use Rattle.std.proofs.lemmas.List.Elements.{All-append}
use Rattle.std.specs.Io.KnownBytes.{Consumes, IsAtEnd}
use Rattle.cnf.specs.Literal.{Literal}
use Rattle.text.specs.Text.{tokens_of, token_lines, IsNoFeed}
use Rattle.text.specs.Pieces.{EndsInFeed, IsCut, HasTaken}
use Rattle.text.proofs.Laws.{cut-ended, cut-kept, cut-nothing, line_tokens-first, line_tokens-last}
use Rattle.text.proofs.Laws.{taken-on, taken-whole}
use Rattle.lrat_machine.specs.declared.verdicts.Verdict.{Verdict}
use Rattle.lrat_machine.specs.Machine.{MachineState, listed_from, verdict_after}
use Rattle.lrat_check.specs.Verdict.{verdict_on, proof_verdict}
use Rattle.lrat_machine.proofs.Laws.{live_of-start, state_of}
use Rattle.lrat_check.specs.Pieces.{ReadingState, IsOpen, IsRefused, Holds, Judges}
use Rattle.lrat_check.specs.Pieces.{CheckerState, HasJudged, JudgesLines}

regroup : (d r t more : List ℕ) → d ++ ((r ++ t) ++ more) ≡ ((d ++ r) ++ t) ++ more
regroup d r t more = simp append_assoc

-- lines more, the last of which is ended
module _ (old new : ReadingState) (formula : List (List Literal)) (bytes text : List ℕ)
    (o : IsOpen old formula bytes) (ended : EndsInFeed text)
    (empty : new.rest ≡ []) where
  abbrev whole : List ℕ
  whole = bytes ++ text

  whole_cut : IsCut whole whole []
  whole_cut = cut-ended bytes text ended

  from_old : (more : List ℕ)
      → verdict_after old.machine (token_lines ((old.rest ++ text) ++ more))
      ≡ proof_verdict formula (whole ++ more)
  from_old more =
      o.resumes ((old.rest ++ text) ++ more)
      ∙ ap (proof_verdict formula) (regroup o.done old.rest text more)
      ∙ ap (λ x. proof_verdict formula ((x ++ text) ++ more)) (sym (o.cut).split)

  still_open : JudgesLines old.machine (old.rest ++ text) new.machine None
      → IsOpen new formula whole
  still_open j = record {
    done = whole;
    cut = subst (IsCut whole whole) (sym empty) whole_cut;
    resumes = λ more. sym (j more) ∙ from_old more;
  }

  now_refused : (v : Verdict)
      → JudgesLines old.machine (old.rest ++ text) new.machine (Some v)
      → IsRefused v formula whole
  now_refused v j = record {
    done = whole;
    after = [];
    split = whole_cut.split;
    ended = whole_cut.ended;
    cause = j.0.0;
    line = j.0.1;
    fault = j.0.2;
    stays = λ more. sym (from_old more) ∙ j.1 more;
  }

pub lines_more : (old new : ReadingState) (text : List ℕ) → old.refused ≡ None → EndsInFeed text
    → new.rest ≡ []
    → JudgesLines old.machine (old.rest ++ text) new.machine new.refused
    → (formula : List (List Literal)) (bytes : List ℕ) → Holds old formula bytes
    → Holds new formula (bytes ++ text)
lines_more old new text none ended empty j formula bytes h = record {
  open_end = λ e. still_open old new formula bytes text (h.open_end none) ended empty
      (subst (JudgesLines old.machine (old.rest ++ text) new.machine) e j);
  refused = λ v e. now_refused old new formula bytes text (h.open_end none) ended empty v
      (subst (JudgesLines old.machine (old.rest ++ text) new.machine) e j);
}

-- the verdict where a line and its line feed come next
pub verdict_first : (m : MachineState) (x more : List ℕ) → IsNoFeed x
    → verdict_after m (token_lines (x ++ 10 ∷ more))
    ≡ verdict_after m (tokens_of (strip_carriage_return x) ∷ token_lines more)
verdict_first m x more h = ap (verdict_after m) (line_tokens-first x more h)

first_of : (m : MachineState) (x line more : List ℕ) → IsNoFeed x
    → line ≡ strip_carriage_return x
    → verdict_after m (token_lines ((x ++ 10 ∷ []) ++ more))
    ≡ verdict_after m (tokens_of line ∷ token_lines more)
first_of m x line more h e =
    ap (λ y. verdict_after m (token_lines y)) (append_assoc x (10 ∷ []) more)
    ∙ verdict_first m x more h
    ∙ ap (λ y. verdict_after m (tokens_of y ∷ token_lines more)) (sym e)

-- a line more
judges_line : (old new : MachineState) (x line : List ℕ) (f : Option Verdict) → IsNoFeed x
    → line ≡ strip_carriage_return x → Judges old line new f
    → JudgesLines old (x ++ 10 ∷ []) new f
judges_line old new x line None h e j = λ more. first_of old x line more h e ∙ j (token_lines more)
judges_line old new x line (Some v) h e j =
    (j.0, λ more. first_of old x line more h e ∙ j.1 (token_lines more))

pub line_more : (old new : ReadingState) (end line : List ℕ) → old.refused ≡ None → IsNoFeed end
    → line ≡ strip_carriage_return (old.rest ++ end)
    → new.rest ≡ [] → Judges old.machine line new.machine new.refused
    → (formula : List (List Literal)) (bytes : List ℕ) → Holds old formula bytes
    → Holds new formula (bytes ++ (end ++ 10 ∷ []))
line_more old new end line none no_feed same empty j =
    λ formula bytes h. let no_feeds : IsNoFeed (old.rest ++ end) =
    All-append (λ b. (b == 10) ≡ false) old.rest end
    (((h.open_end none).cut).unfinished) no_feed in
    let judged : JudgesLines old.machine (old.rest ++ (end ++ 10 ∷ [])) new.machine
    new.refused = subst (λ x. JudgesLines old.machine x new.machine new.refused)
    (append_assoc old.rest end (10 ∷ []))
    (judges_line old.machine new.machine (old.rest ++ end) line new.refused no_feeds same j)
    in lines_more old new (end ++ 10 ∷ []) none (end, refl) empty judged formula bytes h

refused_more : (v : Verdict) (formula : List (List Literal)) (bytes more : List ℕ)
    → IsRefused v formula bytes → IsRefused v formula (bytes ++ more)
refused_more v formula bytes more r = record {
  done = r.done;
  after = r.after ++ more;
  split = ap (λ x. x ++ more) r.split ∙ append_assoc r.done r.after more;
  ended = r.ended;
  cause = r.cause;
  line = r.line;
  fault = r.fault;
  stays = r.stays;
}

-- what comes after a fault is dropped
pub holds_more : (r : ReadingState) (formula : List (List Literal)) (bytes more : List ℕ)
    → (r.refused ≡ None → ⊥) → Holds r formula bytes → Holds r formula (bytes ++ more)
holds_more r formula bytes more some h = record {
  open_end = λ e. absurd (some e);
  refused = λ v e. refused_more v formula bytes more (h.refused v e);
}

-- a piece
-- all but the left part of it was taken, whatever the clauses are
abbrev pub TakesUpTo : ReadingState → ReadingState → List ℕ → List ℕ → Type 0
TakesUpTo old new piece left =
    (formula : List (List Literal)) → HasTaken (Holds old formula) (Holds new formula) piece left

pub taken_on : (old mid new : ReadingState) (piece left text rest : List ℕ)
    → TakesUpTo old mid piece left → left ≡ text ++ rest
    → ((formula : List (List Literal)) (bytes : List ℕ) → Holds mid formula bytes
    → Holds new formula (bytes ++ text))
    → TakesUpTo old new piece rest
taken_on old mid new piece left text rest t split next formula =
    taken-on (Holds old formula) (Holds mid formula) (Holds new formula) piece left text rest
    (t formula) split (next formula)

pub batch_lengths : (left : List ℕ) (count : ℕ) (rest : List ℕ) → count ≤ length left
    → rest ≡ take (length left - count) (drop count left) → length left ≡ count + length rest
batch_lengths left count rest le g =
    let size : length rest ≡ length left - count = ap length (g ∙ take_rest left count)
    ∙ length-drop count left in
    omega (arith, size, le)

-- the lines that were read together
pub taken_batch : (old mid new : ReadingState) (piece left : List ℕ) (count : ℕ) (rest : List ℕ)
    → TakesUpTo old mid piece left → rest ≡ take (length left - count) (drop count left)
    → ((formula : List (List Literal)) (bytes : List ℕ) → Holds mid formula bytes
    → Holds new formula (bytes ++ take count left))
    → TakesUpTo old new piece rest
taken_batch old mid new piece left count rest t g next =
    taken_on old mid new piece left (take count left) rest t
    (sym (take-append-drop count left)
    ∙ ap (λ x. take count left ++ x) (sym (g ∙ take_rest left count))) next

pub taken_none : (old mid new : ReadingState) (piece left : List ℕ) (count : ℕ)
    → TakesUpTo old mid piece left → count ≡ 0
    → ((formula : List (List Literal)) (bytes : List ℕ) → Holds mid formula bytes
    → Holds new formula (bytes ++ take count left))
    → TakesUpTo old new piece left
taken_none old mid new piece left count t is_zero next =
    taken_on old mid new piece left (take count left) left t
    (sym (ap (λ k. take k left ++ left) is_zero)) next

kept_rest : (mid new : ReadingState) (left : List ℕ) → mid.refused ≡ None → IsNoFeed left
    → new.machine ≡ mid.machine → new.refused ≡ mid.refused → new.rest ≡ mid.rest ++ left
    → (formula : List (List Literal)) (bytes : List ℕ) → Holds mid formula bytes
    → Holds new formula (bytes ++ left)
kept_rest mid new left none no_feed machine refused rest formula bytes m =
    let o = m.open_end none in
    record {
      open_end = λ e. record {
        done = o.done;
        cut = subst (IsCut (bytes ++ left) o.done) (sym rest)
            (cut-kept bytes o.done mid.rest left o.cut no_feed);
        resumes = λ more. ap (λ (x : MachineState). verdict_after x (token_lines more)) machine
            ∙ o.resumes more;
      };
      refused = λ v e. absurd (let two : None ≡ Some v = sym none ∙ sym refused ∙ e in cc);
    }

pub rest_kept : (old mid new : ReadingState) (piece left : List ℕ) → TakesUpTo old mid piece left
    → mid.refused ≡ None → IsNoFeed left
    → new.machine ≡ mid.machine → new.refused ≡ mid.refused
    → new.rest ≡ mid.rest ++ left
    → (formula : List (List Literal)) (bytes : List ℕ) → Holds old formula bytes
    → Holds new formula (bytes ++ piece)
rest_kept old mid new piece left t none no_feed machine refused rest formula =
    taken-whole (Holds old formula) (Holds mid formula) (Holds new formula) piece left (t formula)
    (kept_rest mid new left none no_feed machine refused rest formula)

pub rest_dropped : (old new : ReadingState) (piece left : List ℕ) → TakesUpTo old new piece left
    → (new.refused ≡ None → ⊥)
    → (formula : List (List Literal)) (bytes : List ℕ) → Holds old formula bytes
    → Holds new formula (bytes ++ piece)
rest_dropped old new piece left t some formula =
    taken-whole (Holds old formula) (Holds new formula) (Holds new formula) piece left (t formula)
    (λ bytes h. holds_more new formula bytes left some h)

-- what a test for a fault says
pub some_from_test : (o : Option Verdict) (b : Bool) → is_some o ≡ not b → b ≡ false → o ≡ None → ⊥
some_from_test o b e h none = let t : false ≡ true = sym (ap is_some none) ∙ e ∙ ap not h in cc

pub some_from_true : (o : Option Verdict) → is_some o ≡ true → o ≡ None → ⊥
some_from_true o e none = let t : false ≡ true = sym (ap is_some none) ∙ e in cc

-- the start
pub starts : (r : ReadingState) (formula : List (List Literal))
    → r.machine ≡ state_of (listed_from 1 formula) (length formula) false 0
    → r.rest ≡ [] → r.refused ≡ None → Holds r formula []
starts r formula e empty none = record {
  open_end = λ _. record {
    done = [];
    cut = subst (IsCut [] []) (sym empty) cut-nothing;
    resumes = λ more. ap (λ (x : MachineState). verdict_after x (token_lines more)) e
        ∙ ap (λ l. verdict_on l false 1 (token_lines more)) (live_of-start formula);
  };
  refused = λ v s. absurd (let two : None ≡ Some v = sym none ∙ s in cc);
}

-- the end
pub ends_refused : (r : ReadingState) (v : Verdict) → r.refused ≡ Some v
    → (formula : List (List Literal)) (bytes : List ℕ) → Holds r formula bytes
    → v ≡ proof_verdict formula bytes
ends_refused r v e formula bytes h =
    let w = h.refused v e in
    sym (w.stays w.after) ∙ ap (proof_verdict formula) (sym w.split)

pub ends_empty : (r : ReadingState) → r.refused ≡ None → r.rest ≡ []
    → (formula : List (List Literal)) (bytes : List ℕ) → Holds r formula bytes
    → verdict_after r.machine [] ≡ proof_verdict formula bytes
ends_empty r none empty formula bytes h =
    let o = h.open_end none in
    o.resumes []
    ∙ ap (proof_verdict formula) (ap (λ x. o.done ++ x) (sym empty) ∙ sym (o.cut).split)

module _ (r : ReadingState) (none : r.refused ≡ None) (some : 0 < length r.rest)
    (formula : List (List Literal)) (bytes : List ℕ) (h : Holds r formula bytes) where
  last_line : verdict_after r.machine (tokens_of r.rest ∷ []) ≡ proof_verdict formula bytes
  last_line =
      let o = h.open_end none in
      ap (verdict_after r.machine) (sym (line_tokens-last r.rest some (o.cut).unfinished))
      ∙ o.resumes r.rest ∙ ap (proof_verdict formula) (sym (o.cut).split)

  pub ends_open : (new : MachineState) → Judges r.machine r.rest new None
      → verdict_after new [] ≡ proof_verdict formula bytes
  ends_open new j = sym (j []) ∙ last_line

  pub ends_fault : (new : MachineState) (v : Verdict) → Judges r.machine r.rest new (Some v)
      → v ≡ proof_verdict formula bytes
  ends_fault new v j = sym (j.1 []) ∙ last_line

pub refused_stays : (r : ReadingState) (o : Option Verdict) → o ≡ r.refused
    → (formula : List (List Literal)) (bytes more : List ℕ) → Holds r formula bytes
    → IfSome o (λ v. v ≡ proof_verdict formula (bytes ++ more))
refused_stays r None e formula bytes more h = tt
refused_stays r (Some v) e formula bytes more h =
    let w = h.refused v (sym e) in
    sym (w.stays (w.after ++ more))
    ∙ ap (proof_verdict formula) (sym (append_assoc w.done w.after more)
    ∙ ap (λ x. x ++ more) (sym w.split))

abbrev pub StaysVerdict : CheckerState → Verdict → Type 0
StaysVerdict c v = (formula : List (List Literal)) (bytes more : List ℕ) → HasJudged c formula bytes
    → v ≡ proof_verdict formula (bytes ++ more)

pub checker_stays : (c : CheckerState) (o : Option Verdict) → o ≡ (c.reading).refused
    → IfSome o (StaysVerdict c)
checker_stays c None e = tt
checker_stays c (Some v) e =
    λ formula bytes more s. refused_stays c.reading (Some v) e formula bytes more s.holds

-- what holds of the value of a checker holds of what it is the value of
pub holds_seen : (c d : CheckerState) → c ≡ d → (formula : List (List Literal)) (bytes : List ℕ)
    → Holds d.reading formula bytes → Holds c.reading formula bytes
holds_seen c d e formula bytes h =
    subst (λ (x : CheckerState). Holds x.reading formula bytes) (sym e) h

-- what was read and fed
pub read_more : (o m n : Option (List ℕ)) (a b : List ℕ) → Consumes o m a → Consumes m n b
    → Consumes o n (a ++ b)
read_more None m n a b p q = tt
read_more (Some x) None n a b p q = absurd p
read_more (Some x) (Some y) None a b p q = absurd q
read_more (Some x) (Some y) (Some z) a b p q = p ∙ ap (λ w. a ++ w) q ∙ sym (append_assoc a b z)

-- the verdict on all bytes of the reader, where it was found over the bytes so far and whatever
-- comes, or at their end
pub over_all : {A : Type 0} (o n : Option (List ℕ)) (fed : List ℕ) (v : A) (f : List ℕ → A)
    → Consumes o n fed → ((more : List ℕ) → v ≡ f (fed ++ more)) → IfSome o (λ bytes. v ≡ f bytes)
over_all None n fed v f p h = tt
over_all (Some x) None fed v f p h = absurd p
over_all (Some x) (Some y) fed v f p h = h y ∙ ap f (sym p)

pub over_ended : {A : Type 0} (o n : Option (List ℕ)) (fed : List ℕ) (v : A) (f : List ℕ → A)
    → Consumes o n fed → IsAtEnd n → v ≡ f fed → IfSome o (λ bytes. v ≡ f bytes)
over_ended None n fed v f p e h = tt
over_ended (Some x) None fed v f p e h = absurd p
over_ended (Some x) (Some y) fed v f p e h =
    h ∙ ap f (sym (append-nil fed) ∙ ap (λ z. fed ++ z) (sym e) ∙ sym p)

-- where the checker has judged what was read: all, or up to a fault
over_state : (c : CheckerState) (r : Option Verdict) → r ≡ (c.reading).refused
    → (formula : List (List Literal)) (fed : List ℕ) (o n : Option (List ℕ)) (v : Verdict)
    → HasJudged c formula fed → Consumes o n fed
    → ((c.reading).refused ≡ None → IsAtEnd n) → v ≡ proof_verdict formula fed
    → IfSome o (λ bytes. v ≡ proof_verdict formula bytes)
over_state c None e formula fed o n v j p end h =
    over_ended o n fed v (proof_verdict formula) p (end (sym e)) h
over_state c (Some w) e formula fed o n v j p end h =
    let stays : (more : List ℕ) → w ≡ proof_verdict formula (fed ++ more) =
    λ more. refused_stays c.reading (Some w) e formula fed more j.holds in
    let same : v ≡ w = h ∙ ap (proof_verdict formula) (sym (append-nil fed)) ∙ sym (stays []) in
    over_all o n fed v (proof_verdict formula) p (λ more. same ∙ stays more)

pub over_judged : (c : CheckerState) (formula : List (List Literal)) (fed : List ℕ)
    (o n : Option (List ℕ)) (v : Verdict) → HasJudged c formula fed → Consumes o n fed
    → ((c.reading).refused ≡ None → IsAtEnd n) → v ≡ proof_verdict formula fed
    → IfSome o (λ bytes. v ≡ proof_verdict formula bytes)
over_judged c = over_state c (c.reading).refused refl
