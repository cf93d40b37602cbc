-- Lines that the state of forms takes.
use Rattle.std.proofs.Common.{◌≡◌, ℕ, ◌<◌, ◌≤◌, true, false, List, [], ◌∷◌, map, Option, Some}
use Rattle.std.proofs.Common.{None}
use Rattle.std.proofs.Common.{Result, Ok, Err, leb-true, refl, sym, ◌∙◌, ap}
use Rattle.std.specs.Prelude.{All, is_some, IfSome}
use Rattle.std.specs.List.{AllByRecursion}
use Rattle.std.proofs.lemmas.Bool.{false≢true}
use Rattle.std.proofs.lemmas.List.Elements.{All-from_recursion, recursion_from_All}
use Rattle.cnf.specs.Literal.{Literal}
use Rattle.cnf.specs.Lrat.{IsId}
use Rattle.cnf.specs.declared.limits.TheConstants.{NUMBER_LIMIT}
use Rattle.forms.specs.declared.faults.LineFault.{LineFault}
use Rattle.forms.specs.declared.types.NamedFact.{NamedFact as FormFact}
use Rattle.forms.specs.Answers.{IsMade, IsTaken}
use Rattle.forms.specs.Forms.{Forms, Made, count_line, cut_line, form_line}
use Rattle.forms.specs.Forms.{group_line}
use Rattle.lrat_read.specs.Words.{CountLine, CutLine, FormLine, GroupLine}
use Rattle.lrat_read.specs.WordTokens.{IsNamed, IsScale}
use Rattle.cuts_log.specs.declared.standing.Standing.{Standing}
use Rattle.cuts_log.specs.Facts.{CanBeSaid, is_worth, spelled}
use Rattle.cuts_log.specs.Given.{formula_at}
use Rattle.lrat_cuts.specs.Cuts.{fact_of}
use Rattle.cuts_log.specs.Stands.{TakesWord, with_clause, with_clauses}

pub made_of : (line : Result Made LineFault) (old mid : Forms) (made : List (List Literal))
    (fault : Option LineFault) → IsMade line old mid made fault → is_some fault ≡ false
    → line ≡ Ok (record { forms = mid; clauses = made })
made_of line old mid made None h e = h
made_of line old mid made (Some f) h e = absurd (false≢true (sym e))

pub count_taken : (old new : Standing) (outputs : ℕ) (inputs : List Literal)
    (made : List (List Literal)) (mid : Forms) (fault : Option LineFault) → old.ended ≡ false
    → outputs < NUMBER_LIMIT → (inputs ≡ [] → ⊥) → All (λ l. IsId l.variable) inputs
    → IsMade (count_line outputs inputs old.forms) old.forms mid made fault
    → is_some fault ≡ false → new ≡ with_clauses made (record old { forms = mid })
    → (cost : ℕ) → TakesWord cost old (CountLine outputs inputs) made new
count_taken old new outputs inputs made mid fault open_end small some ids h e is cost = record {
  open_end = open_end;
  numbers = (small, ids, some);
  middle = mid;
  right = made_of (count_line outputs inputs old.forms) old.forms mid made fault h e;
  clauses = is;
}

worth_of : (line : Result (Option ℕ) LineFault) (least : ℕ) → is_worth line least ≡ true
    → (w : ℕ) × (line ≡ Ok (Some w)) × (least ≤ w)
worth_of (Ok (Some w)) least e = (w, refl, leb-true least w e)
worth_of (Ok None) least e = absurd (false≢true e)
worth_of (Err f) least e = absurd (false≢true e)

pub cut_taken : (old new : Standing) (c : List Literal) (cost : ℕ) → old.ended ≡ false
    → All (λ l. IsId l.variable) c → is_worth (cut_line c old.forms) cost ≡ true
    → new ≡ with_clause c old → TakesWord cost old (CutLine c) (c ∷ []) new
cut_taken old new c cost open_end ids worth is =
    let w = worth_of (cut_line c old.forms) cost worth in record {
      open_end = open_end;
      numbers = ids;
      middle = old.forms;
      right = (w.0, w.1, w.2, refl, refl);
      clauses = is;
    }

-- what facts spell
facts_named : (fs : List FormFact) → map fact_of (map spelled fs) ≡ fs
facts_named [] = refl
facts_named (f ∷ fs) = ap (λ z. f ∷ z) (facts_named fs)

facts_spelled : (fs : List FormFact) → AllByRecursion CanBeSaid fs
    → AllByRecursion IsNamed (map spelled fs)
facts_spelled [] h = tt
facts_spelled (f ∷ fs) h = ((h.0.weight, h.0.number), facts_spelled fs h.1)

scale_said : (scale : Option ℕ) → IfSome scale (λ d. d < NUMBER_LIMIT) → IsScale scale
scale_said None h = tt
scale_said (Some d) h = h

form_of : (line : Result Forms LineFault) (old mid : Forms) (fault : Option LineFault)
    → IsTaken line old mid fault → is_some fault ≡ false → line ≡ Ok mid
form_of line old mid None h e = h
form_of line old mid (Some f) h e = absurd (false≢true (sym e))

pub form_taken : (old : Standing) (scale : Option ℕ) (facts : List FormFact) (mid : Forms)
    (fault : Option LineFault) → old.ended ≡ false → IfSome scale (λ d. d < NUMBER_LIMIT)
    → All CanBeSaid facts
    → IsTaken (form_line (formula_at old.formula) scale facts old.forms) old.forms mid fault
    → is_some fault ≡ false
    → (cost : ℕ) → TakesWord cost old (FormLine scale (map spelled facts)) [] (record old {
      forms =
          mid;
    })
form_taken old scale facts mid fault open_end small all h e cost =
    let each = recursion_from_All CanBeSaid facts all in
    let at = formula_at old.formula in
    let line = form_of (form_line at scale facts old.forms) old.forms mid fault h e in record {
      open_end = open_end;
      numbers = (
        scale_said scale small,
        All-from_recursion IsNamed (map spelled facts) (facts_spelled facts each),
      );
      middle = mid;
      right = (
        ap (λ fs. form_line at scale fs old.forms) (facts_named facts) ∙ line,
        refl,
      );
      clauses = refl;
    }

pub group_taken : (old : Standing) (inputs : List Literal) (ids : List ℕ) (mid : Forms)
    (fault : Option LineFault) → old.ended ≡ false → All (λ l. IsId l.variable) inputs
    → All IsId ids
    → IsTaken (group_line (formula_at old.formula) inputs ids old.forms) old.forms mid fault
    → is_some fault ≡ false
    → (cost : ℕ) → TakesWord cost old (GroupLine inputs ids) [] (record old { forms = mid })
group_taken old inputs ids mid fault open_end lits numbers h e cost = record {
  open_end = open_end;
  numbers = (lits, numbers);
  middle = mid;
  right = (
    form_of (group_line (formula_at old.formula) inputs ids old.forms) old.forms mid fault h e,
    refl,
  );
  clauses = refl;
}
