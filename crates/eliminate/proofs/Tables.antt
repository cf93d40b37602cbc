-- Tables that say the same: a simplified form stays one where only marks, the clause in hand, rows
-- or bins change.
use Rattle.std.proofs.Common.{◌≡◌, ◌*◌, Bool, List, Vec, Global, length, refl, sym, ◌∙◌, ap, subst}
use Rattle.std.proofs.Common.{arith}
use Rattle.cnf.specs.Literal.{Literal}
use Rattle.clauses.specs.Slots.{Slots}
use Rattle.lrat_log.specs.declared.lines.Hint.{Hint}
use Rattle.lrat_log.specs.declared.lines.Kind.{Kind}
use Rattle.lrat_log.specs.Log.{LogLine}
use Rattle.eliminate.specs.declared.simplifier.Simplifier.{Simplifier}
use Rattle.eliminate_tables.specs.Rows.{AreRows}
use Rattle.eliminate_tables.specs.Schedule.{ScheduleState}
use Rattle.eliminate.specs.State.{Start, IsState}
use Rattle.eliminate_names.specs.Work.{NamesState}
use Rattle.eliminate.specs.Simplifier.{IsSimplified, StaysSimplified, LeavesLog, IsAddableLine}

-- the same but for the rows, and for what proofs don't speak of
pub record HasSameBut (s t : Simplifier) : Type 0 where
  pub vars : t.vars ≡ s.vars
  pub names : t.names ≡ s.names
  pub places : length t.occurrences.rows ≡ length s.occurrences.rows
  pub removals : t.removals ≡ s.removals
  pub marks : length t.marks ≡ length s.marks
  pub refuted : t.is_refuted ≡ s.is_refuted

pub simplified_same : (start : Start) (s t : Simplifier) (slots : Slots) (ls : List LogLine)
    → HasSameBut s t → AreRows t.occurrences.rows slots → IsSimplified start s slots ls
    → IsSimplified start t slots ls
simplified_same start s t slots ls n rows h =
    let with_rows : IsState start s.vars slots s.names.names ls t.occurrences.rows s.removals =
    record {
      work = h.state.work;
      occurrences = rows;
      places = n.places ∙ h.state.places;
      back = h.state.back;
      within = h.state.within;
      free = h.state.free;
      not_frozen = h.state.not_frozen;
    } in
    record {
      state = rw (n.vars, n.names, n.removals) with_rows;
      counted = ap (λ (x : NamesState). x.additions) n.names ∙ h.counted;
      marks = n.marks ∙ h.marks ∙ ap (λ k. 2 * k) (sym n.vars);
      few = h.few;
      given = (let v = n.vars in let g = h.given in omega arith);
      fresh = (let v = n.vars in let f = h.fresh in omega arith);
      going = λ e. h.going (sym n.refuted ∙ e);
      refuted = λ e. h.refuted (sym n.refuted ∙ e);
    }

-- marks, the clause in hand and the schedule say nothing
pub simplified_beside : (start : Start) (s : Simplifier) (marks : List Bool)
    (clause : Vec Literal Global) (schedule : ScheduleState) (slots : Slots) (ls : List LogLine)
    → length marks ≡ length s.marks → IsSimplified start s slots ls
    → IsSimplified start (record s { marks = marks; clause = clause; schedule = schedule }) slots ls
simplified_beside start s marks clause schedule slots ls m h =
    simplified_same start s (record s { marks = marks; clause = clause; schedule = schedule }) slots
    ls (record {
      vars = refl;
      names = refl;
      places = refl;
      removals = refl;
      marks = m;
      refuted = refl;
    }) h.state.occurrences h

-- so a log that is left with others is left
pub leaves_beside : (s : Simplifier) (marks : List Bool) (clause : Vec Literal Global)
    (slots : Slots) (ls more : List LogLine) → length marks ≡ length s.marks
    → LeavesLog (record s { marks = marks; clause = clause }) slots ls more
    → LeavesLog s slots ls more
leaves_beside s marks clause slots ls more m leaves start h =
    leaves start (simplified_beside start s marks clause s.schedule slots ls m h)

-- a line may be added under other names of its parts
pub addable_at : (start : Start) (s : Simplifier) (ls : List LogLine) (kind : Kind)
    (c d : List Literal) (hints others : List Hint) → c ≡ d → hints ≡ others
    → IsAddableLine start s ls (record { kind = kind; clause = d; hints = others })
    → IsAddableLine start s ls (record { kind = kind; clause = c; hints = hints })
addable_at start s ls kind c d hints others e f line =
    subst (λ (xs : List Literal). IsAddableLine start s ls
    (record { kind = kind; clause = xs; hints = hints })) (sym e)
    (subst (λ (xs : List Hint). IsAddableLine start s ls
    (record { kind = kind; clause = d; hints = xs })) (sym f) line)

-- what stays a simplified form is one under other names of its parts
pub stays_at : (s t u : Simplifier) (slots left kept : Slots) (ls more most : List LogLine) → u ≡ t
    → kept ≡ left → most ≡ more → StaysSimplified s slots ls t left more
    → StaysSimplified s slots ls u kept most
stays_at s t u slots left kept ls more most e f g h start i =
    subst (λ (x : Simplifier). IsSimplified start x kept most) (sym e)
    (subst (λ (x : Slots). IsSimplified start t x most) (sym f)
    (subst (IsSimplified start t left) (sym g) (h start i)))

pub simplified_at : (start : Start) (t u : Simplifier) (left kept : Slots)
    (more most : List LogLine) → u ≡ t → kept ≡ left → most ≡ more → IsSimplified start t left more
    → IsSimplified start u kept most
simplified_at start t u left kept more most e f g h =
    subst (λ (x : Simplifier). IsSimplified start x kept most) (sym e)
    (subst (λ (x : Slots). IsSimplified start t x most) (sym f)
    (subst (IsSimplified start t left) (sym g) h))
