-- What all lines of a reader come to.
use Rattle.std.proofs.Common.{◌≡◌, ℕ, ◌+◌, List, [], ◌++◌, length, Option, Some, Ok, sym}
use Rattle.std.proofs.Common.{◌∙◌, ap, subst, append_assoc, append-nil, arith, length-append}
use Rattle.std.specs.List.{flat_map}
use Rattle.std.specs.Io.KnownBytes.{Appends}
use Rattle.cnf.specs.Literal.{Literal}
use Rattle.cnf.specs.Problem.{Problem}
use Rattle.text.specs.Text.{token_lines}
use Rattle.text.specs.Writing.{PassesOn}
use Rattle.text.proofs.Laws.{flat_map-append, passed-more, passed_whole}
use Rattle.bound.specs.Bound.{dimacs_clause, dimacs_text, header_line}
use Rattle.bound.specs.Weighted.{weighted_cnf}
use Rattle.lrat_cuts.specs.Cuts.{CutsState, cuts_start}
use Rattle.lrat_cuts.specs.Machine.{MachineState, judged_after}
use Rattle.lrat_cuts.specs.Verdict.{judged_text}
use Rattle.lrat_cuts.proofs.Laws.{put_all-last}
use Rattle.lrat_plain.specs.Names.{Names, names_start}
use Rattle.lrat_plain.specs.Plain.{lines_in, made_text, plain_formula, plain_lines, plain_text}
use Rattle.lrat_plain.specs.Steps.{WritesSteps, made_after, lines_after}
use Rattle.lrat_plain.specs.Runs.{AreSizes, FaultWithin, IsFirstFault, IsWritten, RunsWhole}
use Rattle.lrat_plain.specs.declared.faults.PlainFault.{PlainFault}
use Rattle.lrat_plain.specs.declared.streams.Run.{Run}
use Rattle.lrat_plain.specs.declared.streams.Sizes.{Sizes}

pub start_last : (p : Problem) → length (weighted_cnf p).clauses ≡ (cuts_start p).last
start_last p =
    let e : (cuts_start p).last ≡ 0 + length (weighted_cnf p).clauses =
    put_all-last (weighted_cnf p).clauses _ in omega (arith, e)

abbrev pub first : ℕ → Problem → MachineState
first cost p = record { state = cuts_start p; cost = Some cost; lines = 0; made = [] }

-- the fault is that of the text
pub fault_first : (cost : ℕ) (p : Problem) (m : MachineState) (kept : List ℕ)
    (had left : Option (List ℕ)) (fault : PlainFault) → m ≡ first cost p → kept ≡ []
    → FaultWithin m kept had left fault → IsFirstFault cost p had left fault
fault_first cost p m kept had left fault machine rest h = λ cause n is.
    let w = h cause n is in (
      w.0,
      w.1,
      λ more end. ap (λ (x : MachineState). judged_after x (token_lines (w.0 ++ more)))
          (sym machine)
          ∙ ap (λ k. judged_after m (token_lines (k ++ (w.0 ++ more)))) (sym rest) ∙ w.2 more end,
    )

module _ (cost given all : ℕ) (p : Problem) (r new : Run) (had left a b d e : Option (List ℕ))
    (machine : (r.steps).machine ≡ first cost p) (names : (r.steps).names ≡ names_start given all)
    (rest : r.rest ≡ []) (w : RunsWhole r new had left a b d e) where
  abbrev lines : List (List (List ℕ))
  lines = token_lines w.bytes

  goes : WritesSteps r.steps new.steps lines a b d e
  goes = subst (λ k. WritesSteps r.steps new.steps (token_lines (k ++ w.bytes)) a b d e) rest w.goes

  judged_is : judged_text (Some cost) p w.bytes ≡ Ok ((new.steps).machine).state
  judged_is =
      ap (λ (m : MachineState). judged_after m lines) (sym machine)
      ∙ ap (judged_after (r.steps).machine) (sym (append-nil lines))
      ∙ (goes.takes).judged []

  made_is : made_text (Some cost) p w.bytes ≡ goes.made
  made_is =
      ap (λ (m : MachineState). made_after m lines) (sym machine)
      ∙ ap (made_after (r.steps).machine) (sym (append-nil lines))
      ∙ (goes.takes).makes [] ∙ append-nil goes.made

  count_is : ((new.steps).names).made ≡ length (made_text (Some cost) p w.bytes)
  count_is =
      let none = ap (λ (n : Names). n.made) names in
      let same = ap (λ (c : List (List Literal)). length c) made_is in
      omega (arith, (goes.takes).count, none, same)

  pub sizes_are : (s : Sizes) → s.made ≡ ((new.steps).names).made
      → s.variables ≡ (((new.steps).machine).state).forms.variables
      → AreSizes s cost p had left
  sizes_are s made variables = record {
    bytes = w.bytes;
    read = w.read;
    whole = w.whole;
    state = ((new.steps).machine).state;
    judged = judged_is;
    made = made ∙ count_is;
    variables = variables;
  }

  -- where they make as many clauses as there are to be
  module _ (whole : given ≡ length (weighted_cnf p).clauses)
      (full : ((new.steps).names).given + ((new.steps).names).made ≡ ((new.steps).names).all)
    where
      all_is : all ≡ given + length (made_text (Some cost) p w.bytes)
      all_is =
          let g = ap (λ (n : Names). n.given) names in
          let h = ap (λ (n : Names). n.all) names in
          omega (arith, full, (goes.takes).given, (goes.takes).all, count_is, g, h)

      abbrev size : ℕ
      size = length (weighted_cnf p).clauses

      names_are : names_start size (size + length (made_text (Some cost) p w.bytes))
          ≡ (r.steps).names
      names_are =
          ap (λ n. names_start n (n + length (made_text (Some cost) p w.bytes))) (sym whole)
          ∙ ap (names_start given) (sym all_is) ∙ sym names

      lines_are : plain_lines (Some cost) p w.bytes ≡ goes.plain
      lines_are =
          ap (λ n. lines_in (Some cost) n (cuts_start p) lines) names_are
          ∙ ap (λ (m : MachineState). lines_after (r.steps).names m lines) (sym machine)
          ∙ ap (lines_after (r.steps).names (r.steps).machine) (sym (append-nil lines))
          ∙ (goes.takes).says [] ∙ append-nil goes.plain

      module _ (v : ℕ) (variables : (((new.steps).machine).state).forms.variables ≡ v)
          (clauses : List (List Literal)) (are : clauses ≡ (weighted_cnf p).clauses)
          (o f g : Option (List ℕ)) (none : List ℕ) (empty : none ≡ [])
          (no_text : (r.steps).certificate ≡ [])
          (begun : PassesOn o none (header_line v all ++ flat_map dimacs_clause clauses) a
          (r.steps).formula)
          (formula : Appends b f (new.steps).formula)
          (certificate : Appends e g (new.steps).certificate) where
        abbrev state : CutsState
        state = ((new.steps).machine).state

        text_is : (header_line v all ++ flat_map dimacs_clause clauses)
            ++ flat_map dimacs_clause goes.made
            ≡ dimacs_text (plain_formula (Some cost) p w.bytes state)
        text_is =
            let made = made_text (Some cost) p w.bytes in
            let n : all ≡ length ((weighted_cnf p).clauses ++ made) =
            omega (arith, all_is, whole, length-append (weighted_cnf p).clauses made) in
            append_assoc (header_line v all) (flat_map dimacs_clause clauses)
            (flat_map dimacs_clause goes.made)
            ∙ ap (λ z. header_line v all ++ z)
            (sym (flat_map-append dimacs_clause clauses goes.made))
            ∙ ap (λ z. header_line v all ++ flat_map dimacs_clause (z ++ goes.made)) are
            ∙ ap (λ z. header_line v all ++ flat_map dimacs_clause ((weighted_cnf p).clauses ++ z))
            (sym made_is)
            ∙ ap (λ z. header_line z all
            ++ flat_map dimacs_clause ((weighted_cnf p).clauses ++ made)) (sym variables)
            ∙ ap (λ z. header_line (state.forms).variables z
            ++ flat_map dimacs_clause ((weighted_cnf p).clauses ++ made)) n

        pub all_written : IsWritten cost p had left o f d g
        all_written = record {
          bytes = w.bytes;
          read = w.read;
          whole = w.whole;
          state = state;
          judged = judged_is;
          formula =
              subst (Appends o f) (ap (λ z. z ++ ((header_line v all
              ++ flat_map dimacs_clause clauses) ++ flat_map dimacs_clause goes.made)) empty
              ∙ text_is)
              (passed_whole o b f none (new.steps).formula _
              (passed-more o a b none (r.steps).formula (new.steps).formula _ _ begun goes.formula)
              formula);
          certificate =
              subst (Appends d g) (ap (λ z. z ++ plain_text goes.plain) no_text
              ∙ ap plain_text (sym lines_are))
              (passed_whole d e g (r.steps).certificate (new.steps).certificate _ goes.certificate
              certificate);
        }
