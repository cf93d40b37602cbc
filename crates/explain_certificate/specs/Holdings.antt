-- What a certificate of forms and cuts holds.
use Rattle.std.specs.Prelude.{ℕ, zero, suc, ◌+◌, Bool, true, false, List, [], ◌∷◌, ◌++◌, Option}
use Rattle.std.specs.Prelude.{Some, None, if◌then◌else◌, ◌==◌}
use Rattle.std.specs.Str.{bytes_eq}
use Rattle.std.specs.Fmt.{decimal}
use lib.Chars.{codes}
use Rattle.cnf.specs.Literal.{Literal}
use Rattle.cnf.specs.Refute.{Clauses}
use Rattle.cnf.specs.declared.limits.TheConstants.{NUMBER_LIMIT}
use Rattle.lrat_read.specs.Words.{word_of}
use Rattle.lrat_read.specs.declared.words.Word.{Word}
use Rattle.lrat_read.specs.declared.words.Word.TheVariants as words
use Rattle.lrat_cuts.specs.LastForm.{ended_lines}
use Rattle.explain_certificate.specs.declared.holdings.Holdings.{Holdings}
use Rattle.explain_certificate.specs.declared.holdings.LineCounts.{LineCounts}
use Rattle.explain_certificate.specs.declared.holdings.LineKind.{LineKind}
use Rattle.explain_certificate.specs.declared.holdings.LineKind.TheVariants.{Addition, Deletion}
use Rattle.explain_certificate.specs.declared.holdings.LineKind.TheVariants.{Count, Output, Group}
use Rattle.explain_certificate.specs.declared.holdings.LineKind.TheVariants.{Form, Cut, Bound}

-- what a line brings that begins with a word
abbrev pub kind_of_word : Word → LineKind
kind_of_word words.Count = Count
kind_of_word words.More = Output
kind_of_word words.Group = Group
kind_of_word words.Form = Form
kind_of_word words.Cut = Cut
kind_of_word words.Bound = Bound

-- what a line brings that begins with a number, by what follows that
abbrev pub plain_kind : List (List ℕ) → LineKind
plain_kind [] = Addition
plain_kind (t ∷ ts) = if bytes_eq t (codes "d") then Deletion else Addition

-- what a line brings, by its tokens; a blank one brings nothing
abbrev pub kind_of : List (List ℕ) → Option LineKind
kind_of [] = None
kind_of (t ∷ ts) = by (word_of t)
  where
    by : Option Word → Option LineKind
    by None = Some (plain_kind ts)
    by (Some word) = Some (kind_of_word word)

-- a line more of a kind
abbrev pub counted : LineKind → LineCounts → LineCounts
counted Addition c = record c { additions = c.additions + 1 }
counted Deletion c = record c { deletions = c.deletions + 1 }
counted Count c = record c { counts = c.counts + 1 }
counted Output c = record c { outputs = c.outputs + 1 }
counted Group c = record c { groups = c.groups + 1 }
counted Form c = record c { forms = c.forms + 1 }
counted Cut c = record c { cuts = c.cuts + 1 }
counted Bound c = record c { bounds = c.bounds + 1 }

abbrev pub counted_if : Option LineKind → LineCounts → LineCounts
counted_if None c = c
counted_if (Some kind) c = counted kind c

-- all lines of all kinds
abbrev pub count_of_lines : LineCounts → ℕ
count_of_lines c =
    c.additions + (c.deletions + (c.counts + (c.outputs + (c.groups + (c.forms
    + (c.cuts + c.bounds))))))

-- the lines more, each as its tokens
abbrev pub counted_all : LineCounts → List (List (List ℕ)) → LineCounts
counted_all c [] = c
counted_all c (ts ∷ more) = counted_all (counted_if (kind_of ts) c) more

abbrev pub no_lines : LineCounts
no_lines = record {
  additions = 0;
  deletions = 0;
  counts = 0;
  outputs = 0;
  groups = 0;
  forms = 0;
  cuts = 0;
  bounds = 0;
}

-- the lines of a certificate that a line feed ends
abbrev pub counts_of : List ℕ → LineCounts
counts_of proof = counted_all no_lines (ended_lines proof)

-- how many ids from 1 to n are those of live clauses
abbrev pub live_up_to : Clauses → ℕ → ℕ
live_up_to live zero = 0
live_up_to live (suc n) = by (live (suc n)) + live_up_to live n
  where
    by : Option (List Literal) → ℕ
    by None = 0
    by (Some c) = 1

abbrev pub count_line : List ℕ → ℕ → List ℕ
count_line label n = label ++ (decimal n ++ codes "\n")

abbrev pub lines_text : LineCounts → List ℕ
lines_text c =
    count_line (codes "additions: ") c.additions
    ++ (count_line (codes "deletions: ") c.deletions
    ++ (count_line (codes "counts: ") c.counts
    ++ (count_line (codes "further outputs of counts: ") c.outputs
    ++ (count_line (codes "groups: ") c.groups
    ++ (count_line (codes "lines of forms: ") c.forms
    ++ (count_line (codes "cuts: ") c.cuts
    ++ count_line (codes "bounds: ") c.bounds))))))

abbrev pub live_text : Option ℕ → List ℕ
live_text None = []
live_text (Some n) = codes "live clauses: " ++ (decimal n ++ codes "\n")

abbrev pub end_text : Bool → List ℕ
end_text true = codes "PROOF ends with the empty clause: it proves "
end_text false = codes "PROOF does not end: so far it proves "

abbrev pub bound_text : ℕ → List ℕ
bound_text proved =
    if proved == NUMBER_LIMIT then codes "that there is no solution\n"
    else codes "at least " ++ (decimal proved ++ codes "\n")

-- how it ends, and the bound that it proves
abbrev pub proved_text : Bool → ℕ → List ℕ
proved_text has_ended proved = end_text has_ended ++ bound_text proved

abbrev pub holdings_text : Holdings → List ℕ
holdings_text h =
    lines_text h.lines ++ (live_text h.live ++ proved_text h.has_ended h.proved)
