-- Certificates of forms and cuts: LRAT whose additions are RUP alone, with lines that bring linear
-- lower bounds of the cost and the clauses that follow from them. The first fault decides.
use Rattle.std.specs.Prelude.{ℕ, zero, suc, ◌+◌, min, max, Bool, false, List, []}
use Rattle.std.specs.Prelude.{◌∷◌, ◌++◌, map, Option, Some, None, Result, Ok, Err}
use Rattle.std.specs.Prelude.{nat_le, if◌then◌else◌}
use Rattle.cnf.specs.Literal.{Literal}
use Rattle.cnf.specs.Clause.{is_empty_clause}
use Rattle.cnf.specs.Problem.{Problem}
use Rattle.cnf.specs.declared.limits.TheConstants.{NUMBER_LIMIT}
use Rattle.bound.specs.Weighted.{weighted_cnf, weights_of}
use Rattle.forms.specs.Forms.{Forms, Made, forms_of, heard, count_line}
use Rattle.forms.specs.declared.types.NamedFact.{NamedFact as FormFact}
use Rattle.forms.specs.Forms.{more_line, group_line, form_line, cut_line, bound_line}
use Rattle.forms.specs.declared.faults.LineFault.{LineFault}
use Rattle.forms.specs.declared.faults.LineFault.TheVariants.{Name, Limit, Worth}
use Rattle.lrat_live.specs.Listed.{Listed, listed_at}
use Rattle.lrat_read.specs.Form.{Parsed, Addition, Deletion, Malformed, line_of}
use Rattle.lrat_read.specs.Words.{NamedFact, WordLine, CountLine, MoreLine, GroupLine, FormLine}
use Rattle.lrat_read.specs.Words.{CutLine, BoundLine, word_of, after_word}
use Rattle.lrat_read.specs.declared.words.Word.{Word}
use Rattle.lrat_machine.specs.Rup.{deleted_from, rup_fault}
use Rattle.lrat_machine.specs.Steps.{live_of}
use Rattle.lrat_machine.specs.declared.verdicts.Cause.{Cause}
use Rattle.lrat_machine.specs.declared.verdicts.Cause.TheVariants.{LineForm, DeadId}
use Rattle.lrat_machine.specs.declared.verdicts.Cause.TheVariants.{TrailingLine}
use Rattle.lrat_machine.specs.declared.verdicts.Cause.TheVariants.{LineName, LineLimit}
use Rattle.lrat_machine.specs.declared.verdicts.Cause.TheVariants.{CutWorth}

-- what the lines so far leave
pub record CutsState : Type 0 where
  -- the live clauses with their ids
  pub live : Listed
  pub last : ℕ
  pub forms : Forms
  -- the empty clause was added
  pub ended : Bool
  -- the least that a cut so far is worth: what is live holds in each solution that costs less
  pub worth : ℕ
  -- the greatest lower bound of the cost that was proved
  pub proved : ℕ

abbrev pub cause_of : LineFault → Cause
cause_of Name = LineName
cause_of Limit = LineLimit
cause_of Worth = CutWorth

-- a clause is live under an id above the last. The empty clause refutes all that costs less than
-- the cuts are worth
abbrev pub put : ℕ → List Literal → CutsState → CutsState
put id c s = record s {
  live = s.live ++ (id, c) ∷ [];
  last = id;
  forms = heard c s.forms;
  ended = is_empty_clause c;
  proved = if is_empty_clause c then max s.proved s.worth else s.proved;
}

-- clauses that a line makes, under the ids that follow the last one
abbrev pub put_all : List (List Literal) → CutsState → CutsState
put_all [] s = s
put_all (c ∷ cs) s = put_all cs (put (s.last + 1) c s)

-- before the first line: an empty clause of the formula ends nothing
abbrev pub cuts_start : Problem → CutsState
cuts_start p =
    let blank : CutsState = record {
      live = [];
      last = 0;
      forms = forms_of (weighted_cnf p).variables (weights_of p);
      ended = false;
      worth = NUMBER_LIMIT;
      proved = 0;
    } in
    record (put_all (weighted_cnf p).clauses blank) { ended = false; proved = 0 }

abbrev pub judged_plain : Parsed → CutsState → Result CutsState Cause
judged_plain Malformed s = Err LineForm
judged_plain (Deletion ids) s = left (deleted_from s.live ids)
  where
    left : Option Listed → Result CutsState Cause
    left None = Err DeadId
    left (Some es) = Ok (record s { live = es })
judged_plain (Addition id c hints) s = by (rup_fault (live_of s.last s.live) id c hints)
  where
    by : Option Cause → Result CutsState Cause
    by None = Ok (put id c s)
    by (Some f) = Err f

-- the facts of a form line, as the forms name them
abbrev pub fact_of : NamedFact → FormFact
fact_of f = record { weight = f.weight; is_numbered = f.is_numbered; number = f.number }

abbrev pub on_clauses : CutsState → Result Made LineFault → Result CutsState Cause
on_clauses s (Err e) = Err (cause_of e)
on_clauses s (Ok m) = Ok (put_all m.clauses (record s { forms = m.forms }))

abbrev pub on_forms : CutsState → Result Forms LineFault → Result CutsState Cause
on_forms s (Err e) = Err (cause_of e)
on_forms s (Ok f) = Ok (record s { forms = f })

-- what a cut is taken for: where it has to hold for a cost, it has to be worth that. Else it is
-- right if it is so for any cost, or says of a multiple of the cost that it is not below 0
abbrev pub taken_worth : Option ℕ → ℕ → Option ℕ → Option ℕ
taken_worth (Some cost) scale None = None
taken_worth (Some cost) scale (Some w) = if nat_le cost w then Some w else None
taken_worth None scale (Some w) = Some w
taken_worth None zero None = None
taken_worth None (suc d) None = Some 0

abbrev pub judged_cut : Option ℕ → List Literal → CutsState → Result CutsState Cause
judged_cut cost c s = by (cut_line c s.forms)
  where
    taken : Option ℕ → Result CutsState Cause
    taken None = Err CutWorth
    taken (Some w) = Ok (put (s.last + 1) c (record s { worth = min s.worth w }))

    by : Result (Option ℕ) LineFault → Result CutsState Cause
    by (Err e) = Err (cause_of e)
    by (Ok w) = taken (taken_worth cost ((s.forms).form).scale w)

-- a lower bound holds up to what the cuts are worth, since unit clauses may come from these
abbrev pub judged_bound : ℕ → CutsState → Result CutsState Cause
judged_bound lower s = by (bound_line s.forms)
  where
    by : Result (Option ℕ) LineFault → Result CutsState Cause
    by (Err e) = Err (cause_of e)
    by (Ok None) = Err CutWorth
    by (Ok (Some w)) =
        if nat_le lower w then Ok (record s { proved = max s.proved (min lower s.worth) })
        else Err CutWorth

abbrev pub judged_word : Option ℕ → Option WordLine → CutsState → Result CutsState Cause
judged_word cost None s = Err LineForm
judged_word cost (Some (CountLine outputs inputs)) s = on_clauses s (count_line outputs inputs
    s.forms)
judged_word cost (Some (MoreLine number)) s = on_clauses s (more_line number s.forms)
judged_word cost (Some (GroupLine inputs ids)) s =
    on_forms s (group_line (listed_at s.live) inputs ids s.forms)
judged_word cost (Some (FormLine scale facts)) s =
    on_forms s (form_line (listed_at s.live) scale (map fact_of facts) s.forms)
judged_word cost (Some (CutLine c)) s = judged_cut cost c s
judged_word cost (Some (BoundLine lower)) s = judged_bound lower s

-- one line, as its tokens. Cuts have to hold for a cost, if there is one
abbrev pub judged_line : Option ℕ → CutsState → List (List ℕ) → Result CutsState Cause
judged_line cost s [] = Ok s
judged_line cost s (t ∷ ts) = if s.ended then Err TrailingLine else by (word_of t)
  where
    by : Option Word → Result CutsState Cause
    by None = judged_plain (line_of (t ∷ ts)) s
    by (Some w) = judged_word cost (after_word w ts) s

-- the lines that are left, the first of which has number n
abbrev pub judged_lines : Option ℕ → CutsState → ℕ → List (List (List ℕ))
    → Result CutsState (Cause × ℕ)
judged_lines cost s n [] = Ok s
judged_lines cost s n (ts ∷ more) =
    by (judged_line cost s ts) (λ next. judged_lines cost next (n + 1) more)
  where
    by : Result CutsState Cause → (CutsState → Result CutsState (Cause × ℕ))
        → Result CutsState (Cause × ℕ)
    by (Err f) next = Err (f, n)
    by (Ok t) next = next t
