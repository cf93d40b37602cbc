-- Lines that were read together: what holds after one of them more, and after all.
use Rattle.std.proofs.Common.{◌≡◌, ℕ, zero, suc, ◌+◌, ◌<◌, ◌≤◌, Bool, true, false, List, [], ◌∷◌}
use Rattle.std.proofs.Common.{◌++◌, length, replicate, Option, Some, None, refl, sym, ◌∙◌, ap}
use Rattle.std.proofs.Common.{subst}
use Rattle.std.proofs.Common.{arith, append_assoc, length-append}
use Rattle.std.specs.Str.Lines.{strip_carriage_return}
use Rattle.cnf.specs.Lrat.{Live}
use Rattle.text.specs.Text.{token_lines, tokens_of}
use Rattle.text.specs.Pieces.{EndsInFeed}
use Rattle.lrat_read.specs.Batch.{AreRead, IsFirstRead}
use Rattle.lrat_read.specs.Blanks.{no_tokens}
use Rattle.lrat_read.specs.Reader.{IsReadAs}
use Rattle.lrat_read.specs.declared.line.ReadLine.{ReadLine}
use Rattle.lrat_machine.specs.declared.verdicts.Verdict.{Verdict}
use Rattle.lrat_machine.specs.Machine.{MachineState, after_lines, live_in, verdict_after}
use Rattle.lrat_check.specs.Pieces.{Judges, JudgesLines, JudgesUpTo}
use Rattle.lrat_check.specs.Verdict.{verdict_on}
use Rattle.lrat_check.proofs.PieceLaws.{verdict_first}

abbrev pub JudgesRead : MachineState → ReadLine → MachineState → Option Verdict → Type 0
JudgesRead old r new f =
    (line : List ℕ) → IsReadAs (tokens_of line) r.form r.line → Judges old line new f

module _ (old mid new : MachineState) (bytes : List ℕ) (r : ReadLine) (rs : List ReadLine)
    (h : JudgesUpTo old bytes mid (r ∷ rs)) where
  abbrev after : List ℕ
  after = (h.read).0

  abbrev front : IsFirstRead h.left_bytes r after
  front = (h.read).1

  to_first : (more : List ℕ) → verdict_after old (token_lines (bytes ++ more))
      ≡ verdict_after mid (tokens_of (strip_carriage_return front.line)
      ∷ token_lines (after ++ more))
  to_first more =
      h.leads more
      ∙ ap (λ x. verdict_after mid (token_lines (x ++ more))) front.split
      ∙ ap (λ x. verdict_after mid (token_lines x)) (append_assoc front.line (10 ∷ after) more)
      ∙ verdict_first mid front.line (after ++ more) front.no_feed

  one_more : JudgesRead mid r new None → JudgesUpTo old bytes new rs
  one_more j = record {
    left_bytes = after;
    read = (h.read).2;
    leads = λ more. to_first more
        ∙ j (strip_carriage_return front.line) front.read (token_lines (after ++ more));
  }

  one_faulty : (v : Verdict) → JudgesRead mid r new (Some v) → JudgesLines old bytes new (Some v)
  one_faulty v j =
      let fault = j (strip_carriage_return front.line) front.read in
      (fault.0, λ more. to_first more ∙ fault.1 (token_lines (after ++ more)))

pub judged_more : (old mid new : MachineState) (bytes : List ℕ) (r : ReadLine)
    (all rs : List ReadLine) → all ≡ r ∷ rs → (f : Option Verdict) → f ≡ None
    → JudgesRead mid r new f → JudgesUpTo old bytes mid all → JudgesUpTo old bytes new rs
judged_more old mid new bytes r all rs e f none j h =
    one_more old mid new bytes r rs (subst (JudgesUpTo old bytes mid) e h)
    (subst (JudgesRead mid r new) none j)

pub judged_fault : (old mid new : MachineState) (bytes : List ℕ) (r : ReadLine)
    (all rs : List ReadLine) → all ≡ r ∷ rs → (f : Option Verdict) (v : Verdict) → f ≡ Some v
    → JudgesRead mid r new f → JudgesUpTo old bytes mid all → JudgesLines old bytes new (Some v)
judged_fault old mid new bytes r all rs e f v some j h =
    one_faulty old mid new bytes r rs (subst (JudgesUpTo old bytes mid) e h) v
    (subst (JudgesRead mid r new) some j)

-- each line has a line feed
pub lines_within : (bytes : List ℕ) (rs : List ReadLine) → AreRead bytes rs
    → length rs ≤ length bytes
lines_within bytes [] h = omega arith
lines_within bytes (r ∷ rs) (others, line, read) =
    let more = lines_within others rs read in
    let size : length bytes ≡ length line.line + length (10 ∷ others) = ap length line.split
    ∙ length-append line.line (10 ∷ others) in
    omega (arith, more, size)

one_passed : (live : Live) (ended : Bool) (n : ℕ) (more : List (List (List ℕ)))
    → verdict_on live ended n ([] ∷ more) ≡ verdict_on live ended (n + 1) more
one_passed live true n more = refl
one_passed live false n more = refl

-- lines without a token are counted
pub lines_passed : (m : MachineState) (n : ℕ) (bytes : List ℕ)
    → AreRead bytes (replicate n no_tokens) → JudgesLines m bytes (after_lines m n) None
lines_passed m zero bytes read = λ more.
    ap (λ b. verdict_after m (token_lines (b ++ more))) read
    ∙ ap (λ k. verdict_on (live_in m) m.ended (k + 1) (token_lines more))
    (let same : m.lines ≡ m.lines + 0 = omega arith in same)
lines_passed m (suc n) bytes (left, first, read) = λ more.
    ap (λ b. verdict_after m (token_lines (b ++ more))) first.split
    ∙ ap (λ b. verdict_after m (token_lines b)) (append_assoc first.line (10 ∷ left) more)
    ∙ verdict_first m first.line (left ++ more) first.no_feed
    ∙ ap (λ ts. verdict_after m (ts ∷ token_lines (left ++ more))) first.read
    ∙ one_passed (live_in m) m.ended (m.lines + 1) (token_lines (left ++ more))
    ∙ lines_passed (after_lines m 1) n left read more
    ∙ ap (λ k. verdict_on (live_in m) m.ended (k + 1) (token_lines more))
    (let same : (m.lines + 1) + n ≡ m.lines + suc n = omega arith in same)

ends_after : (bytes front others : List ℕ) → bytes ≡ front ++ 10 ∷ others
    → (0 < length others → EndsInFeed others) → EndsInFeed bytes
ends_after bytes front [] split h = (front, split)
ends_after bytes front (b ∷ bs) split h =
    let e = h (omega arith) in (
      front ++ 10 ∷ e.0,
      split ∙ ap (λ x. front ++ 10 ∷ x) e.1
          ∙ sym (append_assoc front (10 ∷ e.0) (10 ∷ [])),
    )

pub read_ends : (bytes : List ℕ) (rs : List ReadLine) → AreRead bytes rs → 0 < length bytes
    → EndsInFeed bytes
read_ends bytes [] h some = absurd (let none : length bytes ≡ 0 = ap length h in omega arith)
read_ends bytes (r ∷ rs) (others, line, read) some =
    ends_after bytes line.line others line.split (read_ends others rs read)
