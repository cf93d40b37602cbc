-- What a line comes to, by what was read of it.
use Rattle.std.proofs.Common.{◌≡◌, ℕ, ◌+◌, ◌<◌, ◌≤◌, Bool, true, false, List, [], ◌∷◌, Option, Some}
use Rattle.std.proofs.Common.{None, inl, inr, refl, sym, ◌∙◌, ap, subst, arith, ◌||◌, ◌&&◌}
use Rattle.std.proofs.Common.{Result, Err}
use Rattle.std.specs.Prelude.{◌⊎◌, nat_le, not, if◌then◌else◌, max}
use Rattle.std.proofs.lemmas.Bool.Decides.{nat_tests}
use Rattle.cnf.specs.Literal.{Literal}
use Rattle.cnf.specs.Clause.{greatest_variable, has_repeat, is_tautology}
use Rattle.cnf.specs.declared.limits.TheConstants.{VARIABLE_LIMIT}
use Rattle.forms.specs.Forms.{Forms, are_known}
use Rattle.lrat_read.specs.Form.{line_of, Addition as AddsLine}
use Rattle.lrat_read.specs.Reader.{IsReadAs, LineState, is_large_clause}
use Rattle.lrat_read.specs.declared.types.Form.TheVariants.{Addition}
use Rattle.lrat_read.specs.Words.{WordLine, word_of, word_line_of, after_word, CountLine}
use Rattle.lrat_read.specs.Words.{GroupLine, CutLine}
use Rattle.lrat_read.specs.declared.words.Word.{Word}
use Rattle.lrat_read.specs.WordReader.{IsHeld, IsWordRead, WordState, AreLitsOf}
use Rattle.lrat_read.specs.declared.word_reader.WordForm.{WordForm}
use Rattle.lrat_read.specs.declared.word_reader.WordForm.TheVariants.{NoWord, Malformed, Count}
use Rattle.lrat_read.specs.declared.word_reader.WordForm.TheVariants.{More, Group, Form}
use Rattle.lrat_read.specs.declared.word_reader.WordForm.TheVariants.{FurtherFacts, Cut, Bound}
use Rattle.lrat_machine.specs.declared.verdicts.Cause.{Cause}
use Rattle.lrat_machine.specs.declared.verdicts.Cause.TheVariants.{LineName, TrailingLine}
use Rattle.lrat_cuts.specs.Cuts.{CutsState, judged_line, judged_plain, judged_word}
use Rattle.lrat_cuts.specs.Machine.{LeadsTo, MachineState, Makes, Puts, StepsTo}

-- a line by the word that begins it
abbrev by_word : Option ℕ → CutsState → List ℕ → List (List ℕ) → Option Word
    → Result CutsState Cause
by_word cost s t ts None = judged_plain (line_of (t ∷ ts)) s
by_word cost s t ts (Some w) = judged_word cost (after_word w ts) s

goes_on : (cost : Option ℕ) (s : CutsState) (t : List ℕ) (ts : List (List ℕ))
    → s.ended ≡ false → judged_line cost s (t ∷ ts) ≡ by_word cost s t ts (word_of t)
goes_on cost s t ts on =
    ap (λ (b : Bool). if b then Err TrailingLine else by_word cost s t ts (word_of t)) on

abbrev line_by : List (List ℕ) → Option Word → Option (Option WordLine)
line_by ts None = None
line_by ts (Some w) = Some (after_word w ts)

no_word : (ts : List (List ℕ)) (o : Option Word) → line_by ts o ≡ None → o ≡ None
no_word ts None e = refl
no_word ts (Some w) e = absurd (cc)

plain_judged : (cost : Option ℕ) (s : CutsState) (ts : List (List ℕ)) → s.ended ≡ false
    → word_line_of ts ≡ None → (ts ≡ [] → ⊥)
    → judged_line cost s ts ≡ judged_plain (line_of ts) s
plain_judged cost s [] on none some = absurd (some refl)
plain_judged cost s (t ∷ ts) on none some =
    goes_on cost s t ts on ∙ ap (by_word cost s t ts) (no_word ts (word_of t) none)

by_line : (cost : Option ℕ) (s : CutsState) (t : List ℕ) (ts : List (List ℕ))
    (line : Option WordLine) (o : Option Word) → line_by ts o ≡ Some line
    → by_word cost s t ts o ≡ judged_word cost line s
by_line cost s t ts line None e = absurd (cc)
by_line cost s t ts line (Some w) e =
    let same : after_word w ts ≡ line = cc in ap (λ x. judged_word cost x s) same

-- a line that begins with a word
pub word_judged : (cost : Option ℕ) (s : CutsState) (ts : List (List ℕ))
    (line : Option WordLine) → s.ended ≡ false → word_line_of ts ≡ Some line
    → judged_line cost s ts ≡ judged_word cost line s
word_judged cost s [] line on e = absurd (cc)
word_judged cost s (t ∷ ts) line on e =
    goes_on cost s t ts on ∙ by_line cost s t ts line (word_of t) e

-- an addition, by what its reader has of it
module _ (s new : CutsState) (l : LineState) (fault : Option Cause) where
  abbrev IsAdded : Type 0
  IsAdded =
      (c : List Literal) → is_large_clause c ≡ l.is_large
      → (l.is_large ≡ false → c ≡ l.clause)
      → LeadsTo (judged_plain (AddsLine l.id c l.hints) s) new fault

  not_blank : (ts : List (List ℕ)) (c : List Literal) → line_of ts ≡ AddsLine l.id c l.hints
      → ts ≡ [] → ⊥
  not_blank [] c e none = cc
  not_blank (t ∷ ts) c e none = cc

  pub addition_judged : (cost : Option ℕ) (ts : List (List ℕ)) → s.ended ≡ false
      → word_line_of ts ≡ None → IsReadAs ts Addition l → IsAdded
      → LeadsTo (judged_line cost s ts) new fault
  addition_judged cost ts on none read h =
      let line = plain_judged cost s ts on none (not_blank ts read.0 read.1) in
      let same = line ∙ ap (λ x. judged_plain x s) read.1 in
      subst (λ r. LeadsTo r new fault) (sym same) (h read.0 read.2 read.3)

-- a line that begins with a word, by what its reader has of it
held_none : (form : WordForm) (w : WordState) → IsHeld None form w → form ≡ NoWord
held_none NoWord w h = refl
held_none Malformed w h = absurd (cc)
held_none Count w h = let e = h.1 in absurd (cc)
held_none More w h = absurd (cc)
held_none Group w h = let e = h.1 in absurd (cc)
held_none Form w h = absurd (cc)
held_none FurtherFacts w h = absurd (cc)
held_none Cut w h = let e = h.1 in absurd (cc)
held_none Bound w h = absurd (cc)

module _ (cost : Option ℕ) (s new : CutsState) (form : WordForm) (w : WordState)
    (is_word : form ≡ NoWord → ⊥) (ts : List (List ℕ)) where
  -- after the empty clause
  pub word_trails : s.ended ≡ true → IsWordRead ts form w → judged_line cost s ts ≡ Err TrailingLine
  word_trails ended h = at ts h
    where
      at : (us : List (List ℕ)) → IsWordRead us form w → judged_line cost s us ≡ Err TrailingLine
      at [] h = absurd (is_word (held_none form w h))
      at (t ∷ us) h =
          ap (λ (b : Bool). if b then Err TrailingLine else by_word cost s t us (word_of t)) ended

  pub word_leads : (fault : Option Cause) → s.ended ≡ false
      → ((line : Option WordLine) → IsHeld (Some line) form w
      → LeadsTo (judged_word cost line s) new fault)
      → IsWordRead ts form w → LeadsTo (judged_line cost s ts) new fault
  word_leads fault on next h = by (word_line_of ts) refl
    where
      by : (o : Option (Option WordLine)) → word_line_of ts ≡ o
          → LeadsTo (judged_line cost s ts) new fault
      by None e = absurd (is_word (held_none form w (subst (λ x. IsHeld x form w) e h)))
      by (Some line) e =
          subst (λ r. LeadsTo r new fault) (sym (word_judged cost s ts line on e))
          (next line (subst (λ x. IsHeld x form w) e h))

-- literals that are too large are not there
large_greatest : (c : List Literal) → is_large_clause c ≡ true
    → VARIABLE_LIMIT ≤ greatest_variable c
large_greatest [] e = absurd (cc)
large_greatest (l ∷ c) e = larger l.variable (is_large_clause c) e (large_greatest c)
  where
    larger : (n : ℕ) (b : Bool) → (nat_le VARIABLE_LIMIT n || b) ≡ true
        → (b ≡ true → VARIABLE_LIMIT ≤ greatest_variable c)
        → VARIABLE_LIMIT ≤ max n (greatest_variable c)
    larger n true e h = let k = h refl in omega arith
    larger n false e h = grind (arith, nat_tests)

unknown : (f : Forms) (c : List Literal) → f.variables < VARIABLE_LIMIT
    → is_large_clause c ≡ true → are_known f c ≡ false
unknown f c small e =
    let k = large_greatest c e in
    let above : nat_le (greatest_variable c) f.variables ≡ false = grind (arith, nat_tests) in
    ap (λ b. b && not (has_repeat c || is_tautology c)) above

module _ (cost : Option ℕ) (s : CutsState) (w : WordState) (large : w.is_large ≡ true)
    (small : (s.forms).variables < VARIABLE_LIMIT) where
  count_refused : (outputs : ℕ) (c : List Literal) → AreLitsOf c w
      → judged_word cost (Some (CountLine outputs c)) s ≡ Err LineName
  count_refused outputs c h = let k = unknown s.forms c small (h.large ∙ large) in rw k refl

  group_refused : (ids : List ℕ) (c : List Literal) → AreLitsOf c w
      → judged_word cost (Some (GroupLine c ids)) s ≡ Err LineName
  group_refused ids c h = let k = unknown s.forms c small (h.large ∙ large) in rw k refl

  cut_refused : (c : List Literal) → AreLitsOf c w
      → judged_word cost (Some (CutLine c)) s ≡ Err LineName
  cut_refused c h = let k = unknown s.forms c small (h.large ∙ large) in rw k refl

  -- a line with such literals
  pub large_refused : (form : WordForm) (line : Option WordLine)
      → (form ≡ Count) ⊎ ((form ≡ Group) ⊎ (form ≡ Cut)) → IsHeld (Some line) form w
      → judged_word cost line s ≡ Err LineName
  large_refused Count line is h =
      let same : line ≡ Some (CountLine w.number h.0) = let e = h.1 in cc in
      ap (λ x. judged_word cost x s) same ∙ count_refused w.number h.0 h.2
  large_refused Group line is h =
      let same : line ≡ Some (GroupLine h.0 w.ids) = let e = h.1 in cc in
      ap (λ x. judged_word cost x s) same ∙ group_refused w.ids h.0 h.2
  large_refused Cut line is h =
      let same : line ≡ Some (CutLine h.0) = let e = h.1 in cc in
      ap (λ x. judged_word cost x s) same ∙ cut_refused h.0 h.2
  large_refused _ line is h =
      absurd (elim is [
        | inl e ↦ cc
        | inr r ↦ elim r [
          | inl e ↦ cc
          | inr e ↦ cc
        ]
      ])

-- what the line made
abbrev makes_by : CutsState → List (List Literal) → CutsState → Option (Option WordLine) → Type 0
makes_by old made new None = made ≡ []
makes_by old made new (Some line) = Puts old made new

module _ (old : MachineState) (ts : List (List ℕ)) (fault : Option Cause) (new : CutsState)
    (made : List (List Literal)) where
  abbrev after : MachineState
  after = record { state = new; cost = old.cost; lines = old.lines + 1; made = made }

  pub steps_plain : word_line_of ts ≡ None → made ≡ []
      → LeadsTo (judged_line old.cost old.state ts) new fault → StepsTo old ts fault after
  steps_plain none empty leads = record {
    judged = leads;
    made = λ _. subst (makes_by old.state made new) (sym none) empty;
    cost = refl;
    lines = refl;
  }

  pub steps_word : (form : WordForm) (w : WordState) → (form ≡ NoWord → ⊥)
      → IsWordRead ts form w → (fault ≡ None → Puts old.state made new)
      → LeadsTo (judged_line old.cost old.state ts) new fault → StepsTo old ts fault after
  steps_word form w is_word read puts leads = record {
    judged = leads;
    made = λ e. by (puts e) (word_line_of ts) refl;
    cost = refl;
    lines = refl;
  }
    where
      by : Puts old.state made new → (o : Option (Option WordLine)) → word_line_of ts ≡ o
          → Makes ts old.state made new
      by p None e = absurd (is_word (held_none form w (subst (λ x. IsHeld x form w) e read)))
      by p (Some line) e = subst (makes_by old.state made new) (sym e) p
