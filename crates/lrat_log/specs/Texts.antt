-- The text of a line in pieces: numbers, each with the space behind it.
use Rattle.std.specs.Prelude.{ℕ, ◌+◌, Bool, List, [], ◌∷◌, ◌++◌, map, if◌then◌else◌}
use Rattle.std.specs.List.{flat_map}
use Rattle.std.specs.Fmt.{decimal}
use lib.Chars.{codes}
use Rattle.cnf.specs.Literal.{Literal}
use Rattle.cnf.specs.Lrat.{ProofLine, Addition, Deletion}
use Rattle.text.specs.LratText.{line_tokens}
use Rattle.text.specs.Writing.{spaced}
use Rattle.lrat_log.specs.declared.lines.Hint.{Hint}
use Rattle.lrat_log.specs.Log.{LogLine, is_delete, is_group, id_of, name_of, leading_ids, group_ids}

-- the number, with a dash before it where it is negative, and a space behind it
abbrev pub number_text : Bool → ℕ → List ℕ
number_text negative n = (if negative then 45 ∷ decimal n else decimal n) ++ 32 ∷ []

abbrev pub literals_text : List Literal → List ℕ
literals_text lits = flat_map (λ l. number_text l.negated l.variable) lits

abbrev pub hint_text : ℕ → Hint → List ℕ
hint_text base h = number_text (is_group h) (id_of base (name_of h))

abbrev pub hints_text : ℕ → List Hint → List ℕ
hints_text base hints = flat_map (hint_text base) hints

-- the end of a line: a word, the hints and the last 0
abbrev pub end_text : List ℕ → ℕ → List Hint → List ℕ
end_text word base hints = (word ++ hints_text base hints) ++ codes "0\n"

abbrev pub line_text : ProofLine → List ℕ
line_text l = spaced (line_tokens l)

-- the line after those that gave this last id, and the last id after it
abbrev pub numbered_after : ℕ → ℕ → LogLine → ProofLine
numbered_after base last l =
    if is_delete l.kind then Deletion last (map (λ h. id_of base (name_of h)) l.hints)
    else Addition (last + 1) l.clause (leading_ids base l.hints) (group_ids base l.hints)

abbrev pub last_after : ℕ → LogLine → ℕ
last_after last l = if is_delete l.kind then last else last + 1
