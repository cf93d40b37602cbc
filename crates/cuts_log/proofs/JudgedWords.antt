-- A line that begins with a word, and that the log took, is judged right.
use Rattle.std.proofs.Common.{◌≡◌, ℕ, ◌+◌, ◌≤◌, Bool, true, false, List, [], ◌∷◌, length}
use Rattle.std.proofs.Common.{map, Option, Some, Ok, refl, sym, ◌∙◌, ap, subst, arith}
use Rattle.std.specs.Prelude.{max, min}
use Rattle.std.proofs.Common.{Result, Err, le-leb}
use Rattle.std.specs.Prelude.{nat_le, if◌then◌else◌}
use Rattle.cnf.specs.Literal.{Literal}
use Rattle.forms.specs.Forms.{Forms}
use Rattle.lrat_machine.specs.declared.verdicts.Cause.{Cause}
use Rattle.lrat_machine.specs.declared.verdicts.Cause.TheVariants.{TrailingLine}
use Rattle.lrat_live.specs.Listed.{listed_at, listed_from}
use Rattle.lrat_read.specs.Words.{WordLine, CountLine, MoreLine, GroupLine, FormLine}
use Rattle.lrat_read.specs.Words.{CutLine, BoundLine}
use Rattle.lrat_read.specs.WordTokens.{HasWordNumbers, word_tokens}
use Rattle.lrat_read.proofs.Laws.{word_line_read}
use Rattle.lrat_cuts.proofs.Laws.{put_all-last, put_all-live}
use Rattle.lrat_cuts.specs.Cuts.{CutsState, judged_line, judged_word, put, put_all}
use Rattle.cuts_log.specs.declared.standing.Standing.{Standing}
use Rattle.cuts_log.specs.Given.{AreLive, FormulaState, formula_at}
use Rattle.lrat_cuts.specs.Cuts.{fact_of}
use Rattle.cuts_log.specs.Judging.{Follows, IsUpTo, StandsAs, WordsAreRight}
use Rattle.cuts_log.specs.Stands.{IsRightWord, TakesWord, with_clause, with_clauses}
use Rattle.cuts_log.proofs.LiveClauses.{live_append}
use Rattle.cuts_log.proofs.Tables.{form_more, group_more}
use Rattle.cuts_log.proofs.Worths.{Tells, put_all_rises, put_rises, rises_same, taken_up}

abbrev pub stands_with : FormulaState → CutsState → Standing
stands_with f s = record { forms = s.forms; ended = s.ended; formula = f }

pub put_all-stands : (f : FormulaState) (cs : List (List Literal)) (s : CutsState)
    → stands_with f (put_all cs s) ≡ with_clauses cs (stands_with f s)
put_all-stands f [] s = refl
put_all-stands f (c ∷ cs) s = put_all-stands f cs (put (s.last + 1) c s)

-- clauses that are live leave the formula
pub with_clauses-formula : (cs : List (List Literal)) (s : Standing)
    → (with_clauses cs s).formula ≡ s.formula
with_clauses-formula [] s = refl
with_clauses-formula (c ∷ cs) s = with_clauses-formula cs (with_clause c s)

-- clauses that a line makes
follows : (s : CutsState) (g : FormulaState) (middle : Forms) (worth proved : ℕ)
    (made : List (List Literal)) (new : Standing)
    → new ≡ with_clauses made (record { forms = middle; ended = s.ended; formula = g })
    → Follows s made new
    (put_all made (record s { forms = middle; worth = worth; proved = proved }))
follows s g middle worth proved made new e =
    let from : CutsState = record s { forms = middle; worth = worth; proved = proved } in
    let same = put_all-stands g made from ∙ sym e in record {
      live = put_all-live made from;
      last = put_all-last made from;
      forms = ap (λ (x : Standing). x.forms) same;
      ended = ap (λ (x : Standing). x.ended) same;
    }

abbrev Judged : Option ℕ → ℕ → CutsState → WordLine → List (List Literal) → Standing → Type 0
Judged o cost s w made new =
    (t : CutsState) × (judged_word o (Some w) s ≡ Ok t) × Follows s made new t × Tells cost s w t

le_true : (a b : ℕ) → a ≤ b → nat_le a b ≡ true
le_true a b h = le-leb a b h

word_judged : (o : Option ℕ) (cost : ℕ) → IsUpTo cost o → (s : CutsState) (g : FormulaState)
    (new : Standing) (w : WordLine) (made : List (List Literal)) (middle : Forms)
    → AreLive g s.live → IsRightWord cost (formula_at g) s.forms w made middle
    → new ≡ with_clauses made (record { forms = middle; ended = s.ended; formula = g })
    → Judged o cost s w made new
word_judged o cost up s g new (CountLine outputs inputs) made middle live right e =
    let line : judged_word o (Some (CountLine outputs inputs)) s
    ≡ Ok (put_all made (record s { forms = middle })) = rw right refl in
    let from : CutsState = record s { forms = middle } in (
      put_all made from,
      line,
      follows s g middle s.worth s.proved made new e,
      record { rises = put_all_rises cost made from; told = λ h. tt },
    )
word_judged o cost up s g new (MoreLine number) made middle live right e =
    let line : judged_word o (Some (MoreLine number)) s
    ≡ Ok (put_all made (record s { forms = middle })) = rw right refl in
    let from : CutsState = record s { forms = middle } in (
      put_all made from,
      line,
      follows s g middle s.worth s.proved made new e,
      record { rises = put_all_rises cost made from; told = λ h. tt },
    )
word_judged o cost up s g new (GroupLine inputs ids) made middle live right e =
    let there = group_more (formula_at g) (listed_at s.live) inputs ids s.forms middle live right.0
    in
    let line : judged_word o (Some (GroupLine inputs ids)) s ≡ Ok (record s {
      forms = middle;
    })
    = rw there refl in
    let none : made ≡ [] = right.1 in
    let plain = e
    ∙ ap (λ m. with_clauses m (record { forms = middle; ended = s.ended; formula = g })) none in (
      record s { forms = middle },
      line,
      subst (λ m. Follows s m new (record s { forms = middle })) (sym none)
          (follows s g middle s.worth s.proved [] new plain),
      record { rises = rises_same cost s; told = λ h. tt },
    )
word_judged o cost up s g new (FormLine scale facts) made middle live right e =
    let there = form_more (formula_at g) (listed_at s.live) scale (map fact_of facts) s.forms middle
    live right.0 in
    let line : judged_word o (Some (FormLine scale facts)) s ≡ Ok (record s {
      forms = middle;
    })
    = rw there refl in
    let none : made ≡ [] = right.1 in
    let plain = e
    ∙ ap (λ m. with_clauses m (record { forms = middle; ended = s.ended; formula = g })) none in (
      record s { forms = middle },
      line,
      subst (λ m. Follows s m new (record s { forms = middle })) (sym none)
          (follows s g middle s.worth s.proved [] new plain),
      record { rises = rises_same cost s; told = λ h. tt },
    )
word_judged o cost up s g new (CutLine c) made middle live right e =
    let w = right.0 in
    let enough = taken_up o cost ((s.forms).form).scale w up right.2 in
    let worth = right.1 in
    let next : CutsState = put (s.last + 1) c (record s { worth = min s.worth w }) in
    let line : judged_word o (Some (CutLine c)) s ≡ Ok next = rw (worth, enough) refl in
    let one : made ≡ c ∷ [] = right.3 in
    let plain = e ∙ ap (λ m. with_clauses m (record {
      forms = middle;
      ended = s.ended;
      formula = g;
    })) one
    ∙ ap (λ f. with_clauses (c ∷ []) (record { forms = f; ended = s.ended; formula = g })) right.4
    in (
      next,
      line,
      subst (λ m. Follows s m new next) (sym one)
          (follows s g s.forms (min s.worth w) s.proved (c ∷ []) new plain),
      record {
        rises = (
          λ h. omega (arith, right.2, h),
          (put_rises cost (s.last + 1) c (record s { worth = min s.worth w })).1,
        );
        told = λ h. tt;
      },
    )
word_judged o cost up s g new (BoundLine lower) made middle live right e =
    let w = right.0 in
    let worth = right.1 in
    let enough : nat_le lower w ≡ true = le_true lower w right.2 in
    let next : CutsState = record s { proved = max s.proved (min lower s.worth) } in
    let line : judged_word o (Some (BoundLine lower)) s ≡ Ok next = rw (worth, enough) refl
    in
    let none : made ≡ [] = right.3 in
    let plain = e ∙ ap (λ m. with_clauses m (record {
      forms = middle;
      ended = s.ended;
      formula = g;
    })) none
    ∙ ap (λ f. with_clauses [] (record { forms = f; ended = s.ended; formula = g })) right.4 in (
      next,
      line,
      subst (λ m. Follows s m new next) (sym none)
          (follows s g s.forms s.worth (max s.proved (min lower s.worth)) [] new plain),
      record { rises = (λ h. h, omega arith); told = λ h. omega (arith, h) },
    )

-- the tokens of a line say it
some_of : (x y : Option WordLine) → Some x ≡ Some y → x ≡ y
some_of x y e = cc

abbrev said : Option ℕ → CutsState → Option WordLine → Bool → Result CutsState Cause
said o s line ended = if ended then Err TrailingLine else judged_word o line s

closes : (o : Option ℕ) (s : CutsState) (x : Option WordLine) (w : WordLine) → s.ended ≡ false
    → Some x ≡ Some (Some w) → said o s x s.ended ≡ judged_word o (Some w) s
closes o s x w e f =
    ap (said o s x) e ∙ ap (λ x. judged_word o x s) (some_of x (Some w) f)

line_said : (o : Option ℕ) (s : CutsState) (w : WordLine) → HasWordNumbers w → s.ended ≡ false
    → judged_line o s (word_tokens w) ≡ judged_word o (Some w) s
line_said o s (CountLine outputs inputs) h e = closes o s _ (CountLine outputs inputs) e
    (word_line_read (CountLine outputs inputs) h)
line_said o s (MoreLine number) h e = closes o s _ (MoreLine number) e (word_line_read (MoreLine
    number) h)
line_said o s (GroupLine inputs ids) h e = closes o s _ (GroupLine inputs ids) e (word_line_read
    (GroupLine inputs ids) h)
line_said o s (FormLine scale facts) h e = closes o s _ (FormLine scale facts) e (word_line_read
    (FormLine scale facts) h)
line_said o s (CutLine c) h e = closes o s _ (CutLine c) e (word_line_read (CutLine c) h)
line_said o s (BoundLine lower) h e = closes o s _ (BoundLine lower) e (word_line_read (BoundLine
    lower) h)

-- a line that the log took
pub taken_told : (o : Option ℕ) (cost : ℕ) → IsUpTo cost o → (s : CutsState) (old new : Standing)
    (w : WordLine)
    (made : List (List Literal)) → s.forms ≡ old.forms → s.ended ≡ old.ended
    → AreLive old.formula s.live → TakesWord cost old w made new
    → (t : CutsState) × (judged_line o s (word_tokens w) ≡ Ok t) × Follows s made new t
    × Tells cost s w t
taken_told o cost up s old new w made forms ended live t =
    let g = old.formula in
    let open_end = ended ∙ t.open_end in
    let right = subst (λ f. IsRightWord cost (formula_at g) f w made t.middle) (sym forms) t.right
    in
    let clauses = t.clauses
    ∙ ap (λ b. with_clauses made (record { forms = t.middle; ended = b; formula = g })) (sym ended)
    in
    let j = word_judged o cost up s g new w made t.middle live right clauses in
    (j.0, line_said o s w t.numbers open_end ∙ j.1, j.2, j.3)

pub taken_judged : WordsAreRight
taken_judged k cost le s old new w made forms ended live t =
    let j = taken_told (Some k) cost le s old new w made forms ended live t in
    (j.0, j.1, j.2)

-- and then the checker stands as the log does
pub stands_on : (base cost : ℕ) (s t : CutsState) (old new : Standing) (w : WordLine)
    (made : List (List Literal)) → StandsAs base s old → TakesWord cost old w made new
    → Follows s made new t → StandsAs base t new
stands_on base cost s t old new w made h k f =
    let kept : new.formula ≡ old.formula = ap (λ (x : Standing). x.formula) k.clauses
    ∙ with_clauses-formula made (record old { forms = k.middle }) in
    let more = listed_from (s.last + 1) made in record {
      forms = f.forms;
      ended = f.ended;
      within = subst (λ x. length x.clauses ≤ base) (sym kept) h.within;
      formula = subst (λ x. AreLive x t.live) (sym kept)
          (subst (AreLive old.formula) (sym f.live) (live_append old.formula s.live more
          h.formula));
    }
