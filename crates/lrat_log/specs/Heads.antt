-- What the log keeps of each line: the number of its kind and the places where its literals and its
-- hints end, in one word over the ends of another line, or in three words. There the places stand
-- without their 2^32s, and these are in the third word, with the number of the kind.
use Rattle.std.specs.Prelude.{ℕ, suc, ◌+◌, ◌*◌, ◌/◌, ◌%◌, ◌==◌, if◌then◌else◌, List, []}
use Rattle.std.specs.Prelude.{◌∷◌, slice_index_or}
use Rattle.lrat_log.specs.declared.heads.LineHead.{LineHead}
use Rattle.lrat_log.specs.declared.heads.FarHead.{FarHead}
use Rattle.lrat_log.specs.declared.heads.TheConstants.{WORD, BLOCK, NEAR_LITS_UNIT}
use Rattle.lrat_log.specs.declared.heads.TheConstants.{FAR_LITS_UNIT, HINTS_UNIT}
use Rattle.lrat_log.specs.declared.lines.Kind.{Kind}
use Rattle.lrat_log.specs.declared.lines.Kind.TheVariants.{Learned, Unit, Resolvent, Definition}
use Rattle.lrat_log.specs.declared.lines.Kind.TheVariants.{Weaker, Delete, Empty, Axiom}

-- a kind by its number
abbrev pub kind_at : ℕ → Kind
kind_at n =
    if n == 0 then Learned
    else if n == 1 then Unit
    else if n == 2 then Resolvent
    else if n == 3 then Definition
    else if n == 4 then Weaker
    else if n == 5 then Delete
    else if n == 6 then Empty
    else Axiom

-- the number of a kind
abbrev pub number_of : Kind → ℕ
number_of Learned = 0
number_of Unit = 1
number_of Resolvent = 2
number_of Definition = 3
number_of Weaker = 4
number_of Delete = 5
number_of Empty = 6
number_of Axiom = 7

-- where the literals and the hints of a line end
pub record Ends : Type 0 where
  pub lits : ℕ
  pub hints : ℕ

-- a line's word, over the ends of the first line of its block
abbrev pub near_head : Ends → ℕ → LineHead
near_head base word = record {
  kind = kind_at (word % HINTS_UNIT);
  lits_end = base.lits + word / NEAR_LITS_UNIT;
  hints_end = base.hints + word % NEAR_LITS_UNIT / HINTS_UNIT;
}

abbrev pub base_at : List Ends → ℕ → Ends
base_at bases place = slice_index_or bases (place / BLOCK) (record { lits = 0; hints = 0 })

-- the words of the lines from a place on
abbrev pub near_heads : ℕ → List Ends → List ℕ → List LineHead
near_heads place bases [] = []
near_heads place bases (word ∷ words) =
    near_head (base_at bases place) word ∷ near_heads (suc place) bases words

-- a line in three words
abbrev pub far_head : FarHead → LineHead
far_head h = record {
  kind = kind_at (h.tops % HINTS_UNIT);
  lits_end = h.lits_low + WORD * (h.tops / FAR_LITS_UNIT);
  hints_end = h.hints_low + WORD * (h.tops % FAR_LITS_UNIT / HINTS_UNIT);
}
