-- What a right line is, by what was read of it.
use Rattle.std.proofs.Common.{◌≡◌, ℕ, zero, suc, ◌+◌, Bool, true}
use Rattle.std.proofs.Common.{false, List, [], ◌∷◌, length, map, drop}
use Rattle.std.proofs.Common.{Option, Some, None, Result, Ok, Err, refl, sym, ◌∙◌, ap, subst, arith}
use Rattle.std.specs.Prelude.{◌||◌, nat_le, if◌then◌else◌}
use Rattle.cnf.specs.Literal.{Literal}
use Rattle.cnf.specs.Clause.{has_repeat, is_tautology}
use Rattle.cnf.specs.Lrat.{Addition, Deletion}
use Rattle.lrat_live.specs.Listed.{Listed}
use Rattle.lrat_read.specs.Form.{Parsed, line_of, Addition as AddsLine, Deletion as DeletesLine}
use Rattle.lrat_read.specs.Form.{Malformed}
use Rattle.lrat_read.specs.Reader.{is_large_clause}
use Rattle.lrat_read.specs.Words.{WordLine, word_of, word_line_of, after_word}
use Rattle.lrat_read.specs.declared.words.Word.{Word}
use Rattle.lrat_read.proofs.Laws.{parsed_no_word}
use Rattle.lrat_machine.specs.Rup.{deleted_from, rup_fault}
use Rattle.lrat_machine.specs.Steps.{live_of}
use Rattle.lrat_machine.specs.declared.verdicts.Cause.{Cause}
use Rattle.lrat_machine.specs.declared.verdicts.Cause.TheVariants.{TrailingLine, DeadId, IdOrder}
use Rattle.lrat_machine.specs.declared.verdicts.Cause.TheVariants.{ClauseForm, LineForm}
use Rattle.lrat_cuts.specs.Cuts.{CutsState, judged_line, judged_plain, judged_word, put}
use Rattle.lrat_cuts.specs.Machine.{MachineState, Puts}
use Rattle.lrat_plain.specs.Names.{Names, added, forgotten, named, named_all, renumbered}
use Rattle.lrat_plain.specs.Plain.{ending, lead, lines_by, made_by, names_after}
use Rattle.lrat_plain.specs.Steps.{Judges}
use Rattle.lrat_plain.proofs.Stepping.{made_put}

module _ (cost : Option ℕ) (s t : CutsState) where
  -- a line by the word that begins it
  abbrev by_word : List ℕ → List (List ℕ) → Option Word → Result CutsState Cause
  by_word u us None = judged_plain (line_of (u ∷ us)) s
  by_word u us (Some w) = judged_word cost (after_word w us) s

  abbrev line_by : List (List ℕ) → Option Word → Option (Option WordLine)
  line_by us None = None
  line_by us (Some w) = Some (after_word w us)

  abbrev ended_or : List ℕ → List (List ℕ) → Bool → Option Word → Result CutsState Cause
  ended_or u us b o = if b then Err TrailingLine else by_word u us o

  plain_at : (u : List ℕ) (us : List (List ℕ)) (b : Bool) (o : Option Word)
      → ended_or u us b o ≡ Ok t → line_by us o ≡ None
      → judged_plain (line_of (u ∷ us)) s ≡ Ok t
  plain_at u us true o e none = absurd (cc)
  plain_at u us false None e none = e
  plain_at u us false (Some w) e none = absurd (cc)

  -- a right line that begins with no word
  plain_line : (ts : List (List ℕ)) → judged_line cost s ts ≡ Ok t → word_line_of ts ≡ None
      → (ts ≡ [] → ⊥) → judged_plain (line_of ts) s ≡ Ok t
  plain_line [] e none some = absurd (some refl)
  plain_line (u ∷ us) e none some = plain_at u us s.ended (word_of u) e none

  word_at : (u : List ℕ) (us : List (List ℕ)) (b : Bool) (o : Option Word)
      (line : Option WordLine) → ended_or u us b o ≡ Ok t → line_by us o ≡ Some line
      → judged_word cost line s ≡ Ok t
  word_at u us true o line e is = absurd (cc)
  word_at u us false None line e is = absurd (cc)
  word_at u us false (Some w) line e is =
      let same : after_word w us ≡ line = cc in ap (λ x. judged_word cost x s) (sym same) ∙ e

  -- one that begins with a word
  pub word_line : (ts : List (List ℕ)) (line : Option WordLine) → judged_line cost s ts ≡ Ok t
      → word_line_of ts ≡ Some line → judged_word cost line s ≡ Ok t
  word_line [] line e is = absurd (cc)
  word_line (u ∷ us) line e is = word_at u us s.ended (word_of u) line e is

  -- behind the empty clause none has a token
  pub trailing : (ts : List (List ℕ)) → judged_line cost s ts ≡ Ok t → s.ended ≡ true → ts ≡ []
  trailing [] e on = refl
  trailing (u ∷ us) e on =
      let f : Err TrailingLine ≡ Ok t = sym (ap (λ b. ended_or u us b (word_of u)) on) ∙ e in
      absurd (cc)

  -- one that is neither an addition nor a deletion begins with a word
  pub no_plain : (ts : List (List ℕ)) → judged_line cost s ts ≡ Ok t → (ts ≡ [] → ⊥)
      → line_of ts ≡ Malformed → word_line_of ts ≡ None → ⊥
  no_plain ts e some bad none =
      let p : Err LineForm ≡ Ok t = ap (λ x. judged_plain x s) (sym bad)
      ∙ plain_line ts e none some in cc

  not_blank : (ts : List (List ℕ)) (x : Parsed) → line_of ts ≡ x → (Malformed ≡ x → ⊥)
      → ts ≡ [] → ⊥
  not_blank ts x e other none = other (ap line_of (sym none) ∙ e)

  module _ (ts : List (List ℕ)) (right : judged_line cost s ts ≡ Ok t) where
    -- an addition
    module _ (id : ℕ) (c : List Literal) (hints : List (Bool × ℕ))
        (parsed : line_of ts ≡ AddsLine id c hints) where
      no_word : word_line_of ts ≡ None
      no_word = parsed_no_word ts (λ bad. let e : Malformed ≡ AddsLine id c hints = sym bad
          ∙ parsed in cc)

      judged : judged_plain (AddsLine id c hints) s ≡ Ok t
      judged = ap (λ x. judged_plain x s) (sym parsed) ∙ plain_line ts right no_word
          (not_blank ts (AddsLine id c hints) parsed (λ e. cc))

      abbrev by_fault : Option Cause → Result CutsState Cause
      by_fault None = Ok (put id c s)
      by_fault (Some f) = Err f

      none_of : (o : Option Cause) → by_fault o ≡ Ok t → o ≡ None
      none_of None e = refl
      none_of (Some f) e = absurd (cc)

      pub no_fault : rup_fault (live_of s.last s.live) id c hints ≡ None
      no_fault = none_of (rup_fault (live_of s.last s.live) id c hints) judged

      pub addition_state : t ≡ put id c s
      addition_state =
          let e : Ok (put id c s) ≡ Ok t = ap by_fault (sym no_fault) ∙ judged in cc

      small_by : (x y z w : Bool) (rest : Option Cause)
          → (if x then Some IdOrder else if y || z || w then Some ClauseForm else rest) ≡ None
          → w ≡ false
      small_by true y z w rest e = absurd (cc)
      small_by false true z w rest e = absurd (cc)
      small_by false false true w rest e = absurd (cc)
      small_by false false false true rest e = absurd (cc)
      small_by false false false false rest e = refl

      pub addition_small : is_large_clause c ≡ false
      addition_small =
          small_by (nat_le id s.last) (has_repeat c) (is_tautology c) (is_large_clause c) _ no_fault

      module _ (n : Names) where
        pub addition_made : made_by ts s t ≡ []
        addition_made = rw no_word refl

        pub addition_names : names_after n ts s t ≡ n
        addition_names = rw (no_word, parsed) refl

        pub addition_lines : lines_by n ts s t
            ≡ Addition (added n id) c (map (λ h. renumbered n h.1) hints) [] ∷ []
        addition_lines = rw (no_word, parsed) refl

    -- a deletion
    module _ (ids : List ℕ) (parsed : line_of ts ≡ DeletesLine ids) where
      deletes_no_word : word_line_of ts ≡ None
      deletes_no_word = parsed_no_word ts (λ bad. let e : Malformed ≡ DeletesLine ids = sym bad
          ∙ parsed in cc)

      deletes : judged_plain (DeletesLine ids) s ≡ Ok t
      deletes = ap (λ x. judged_plain x s) (sym parsed) ∙ plain_line ts right deletes_no_word
          (not_blank ts (DeletesLine ids) parsed (λ e. cc))

      abbrev by_left : Option Listed → Result CutsState Cause
      by_left None = Err DeadId
      by_left (Some es) = Ok (record s { live = es })

      left_of : (o : Option Listed) → deleted_from s.live ids ≡ o → by_left o ≡ Ok t
          → (es : Listed) × (deleted_from s.live ids ≡ Some es) × (record s { live = es } ≡ t)
      left_of None q e = absurd (cc)
      left_of (Some es) q e = let same : record s { live = es } ≡ t = cc in (es, q, same)

      pub deletion_state : (es : Listed) × (deleted_from s.live ids ≡ Some es)
          × (record s { live = es } ≡ t)
      deletion_state = left_of (deleted_from s.live ids) refl deletes

      pub deletion_last : t.last ≡ s.last
      deletion_last = ap (λ (x : CutsState). x.last) (sym deletion_state.2)

      module _ (n : Names) where
        pub deletion_made : made_by ts s t ≡ []
        deletion_made = rw deletes_no_word refl

        pub deletion_names : names_after n ts s t ≡ forgotten ids n
        deletion_names = rw (deletes_no_word, parsed) refl

        pub deletion_lines : lines_by n ts s t
            ≡ Deletion (added n (lead ts)) (map (renumbered n) ids) ∷ []
        deletion_lines = rw (deletes_no_word, parsed) refl

-- a line that begins with a word, and makes these clauses
module _ (s t : CutsState) (ts : List (List ℕ)) (line : Option WordLine)
    (is : word_line_of ts ≡ Some line) (made : List (List Literal)) (puts : Puts s made t) where
  pub made_are : made_by ts s t ≡ made
  made_are = rw is (made_put s t made puts)

  made_is : made_by ts s t ≡ map (λ e. e.1) (drop (length s.live) t.live)
  made_is = rw is refl

  module _ (n : Names) where
    names_is : names_after n ts s t ≡ named_all s.last (length (made_by ts s t)) n
    names_is = rw is (ap (λ (z : List (List Literal)). named_all s.last (length z) n) made_is)

    pub names_are : names_after n ts s t ≡ named_all s.last (length made) n
    names_are =
        names_is ∙ ap (λ (z : List (List Literal)). named_all s.last (length z) n) made_are

    pub lines_are : lines_by n ts s t
        ≡ ending (named_all s.last (length made) n) t.last t.ended
    lines_are =
        let e : lines_by n ts s t ≡ ending (names_after n ts s t) t.last t.ended =
        rw is (ap (λ z. ending z t.last t.ended) names_is) in
        e ∙ ap (λ z. ending z t.last t.ended) names_are

-- so does a machine that read a line which is neither an addition nor a deletion
module _ (old new : MachineState) (ts : List (List ℕ)) (j : Judges old ts new)
    (some : ts ≡ [] → ⊥) (bad : line_of ts ≡ Malformed) where
  word_is : (o : Option (Option WordLine)) → word_line_of ts ≡ o
      → (line : Option WordLine) × (word_line_of ts ≡ Some line)
  word_is None e =
      absurd (no_plain old.cost old.state new.state ts j.judged some bad e)
  word_is (Some line) e = (line, e)

  word : (line : Option WordLine) × (word_line_of ts ≡ Some line)
  word = word_is (word_line_of ts) refl

  abbrev made_if : Option (Option WordLine) → Type 0
  made_if None = new.made ≡ []
  made_if (Some line) = Puts old.state new.made new.state

  puts : Puts old.state new.made new.state
  puts = subst made_if word.1 j.made

  pub word_made : made_by ts old.state new.state ≡ new.made
  word_made = made_are old.state new.state ts word.0 word.1 new.made puts

  pub word_last : (new.state).last ≡ (old.state).last + length new.made
  word_last = puts.last

  module _ (n : Names) where
    pub word_names : names_after n ts old.state new.state
        ≡ named_all (old.state).last (length new.made) n
    word_names = names_are old.state new.state ts word.0 word.1 new.made puts n

    pub word_lines : lines_by n ts old.state new.state
        ≡ ending (named_all (old.state).last (length new.made) n) (new.state).last
        (new.state).ended
    word_lines = lines_are old.state new.state ts word.0 word.1 new.made puts n

-- names keep what they are over
pub forgotten_same : (ids : List ℕ) (n : Names)
    → ((forgotten ids n).given ≡ n.given) × ((forgotten ids n).all ≡ n.all)
    × ((forgotten ids n).made ≡ n.made)
forgotten_same [] n = (refl, refl, refl)
forgotten_same (id ∷ ids) n = forgotten_same ids _

pub named_same : (count last : ℕ) (n : Names)
    → ((named_all last count n).given ≡ n.given) × ((named_all last count n).all ≡ n.all)
    × ((named_all last count n).made ≡ n.made + count)
named_same zero last n = (refl, refl, omega arith)
named_same (suc count) last n =
    let h = named_same count (last + 1) (named (last + 1) n) in (h.0, h.1, omega (arith, h.2))
