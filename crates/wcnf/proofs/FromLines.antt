-- From the lines of a text to what the text reads as, or to its first fault.
use Rattle.std.proofs.Common.{◌≡◌, ℕ, List, [], ◌∷◌, Some, None, refl, sym, ◌∙◌}
use Rattle.std.specs.Prelude.{Err}
use Rattle.text.specs.Text.{tokens_of, numbered_text}
use Rattle.cnf.specs.Instance.{IsInstance}
use Rattle.wcnf.specs.declared.faults.FaultKind.{FaultKind}
use Rattle.wcnf.specs.declared.faults.FaultKind.TheVariants.{Count}
use Rattle.wcnf.specs.Wcnf.{Reads}
use Rattle.wcnf.specs.Drafts.{Drafted, nothing_drafted, problem_drafted, drafted_line}
use Rattle.wcnf.specs.Reading.{drafted_lines, short_at, finished, reading_of, IsFirstFault}
use Rattle.wcnf.proofs.Texts.{reading_is_right, first_fault}
use Rattle.wcnf.proofs.WithinLimits.{reads_instance}

whole_read : (text : List ℕ) (d : Drafted)
    → drafted_lines d [] ≡ drafted_lines nothing_drafted (numbered_text text)
    → reading_of text ≡ finished d
whole_read text d e = rw (sym e) refl

pub reads_whole : (text : List ℕ) (d : Drafted)
    → drafted_lines d [] ≡ drafted_lines nothing_drafted (numbered_text text) → short_at d ≡ None
    → Reads text (problem_drafted d)
reads_whole text d e s =
    (reading_is_right text (problem_drafted d)).1 (whole_read text d e ∙ rw s refl)

pub whole_instance : (text : List ℕ) (d : Drafted)
    → drafted_lines d [] ≡ drafted_lines nothing_drafted (numbered_text text) → short_at d ≡ None
    → IsInstance (problem_drafted d)
whole_instance text d e s = reads_instance text (problem_drafted d) (reads_whole text d e s)

-- the fault of a header that says more clauses than there are
pub whole_short : (text : List ℕ) (d : Drafted) (n : ℕ)
    → drafted_lines d [] ≡ drafted_lines nothing_drafted (numbered_text text) → short_at d ≡ Some n
    → IsFirstFault text Count n
whole_short text d n e s = first_fault text Count n (whole_read text d e ∙ rw s refl)

pub whole_fault : (text : List ℕ) (d : Drafted) (n : ℕ) (l : List ℕ) (more : List (ℕ × List ℕ))
    (k : FaultKind)
    → drafted_lines d ((n, l) ∷ more) ≡ drafted_lines nothing_drafted (numbered_text text)
    → drafted_line n d (tokens_of l) ≡ Err k → IsFirstFault text k n
whole_fault text d n l more k e h =
    first_fault text k n (rw (sym e, h) refl)
