-- What a right line is, and its plain lines.
use Rattle.std.proofs.Common.{◌≡◌, ℕ, Bool, List, [], ◌∷◌, length, map, Option, Some, None}
use Rattle.std.proofs.Common.{Ok, refl, sym, ◌∙◌, ap, subst}
use Rattle.cnf.specs.Literal.{Literal}
use Rattle.cnf.specs.Lrat.{ProofLine, Addition, Deletion}
use Rattle.lrat_live.specs.Listed.{Listed}
use Rattle.lrat_read.specs.Form.{Parsed, line_of, Addition as AddsLine, Deletion as DeletesLine}
use Rattle.lrat_read.specs.Form.{Malformed}
use Rattle.lrat_read.specs.Words.{WordLine, word_line_of}
use Rattle.lrat_machine.specs.Rup.{deleted_from, rup_fault}
use Rattle.lrat_machine.specs.Steps.{live_of}
use Rattle.lrat_cuts.specs.Cuts.{CutsState, judged_line, put}
use Rattle.lrat_plain.specs.Names.{Names, added, forgotten, named_all, renumbered}
use Rattle.lrat_plain.specs.Plain.{ending, lead, lines_by, made_by, names_after}
use Rattle.lrat_plain.proofs.Cases.{addition_lines, addition_made, addition_names, addition_state}
use Rattle.lrat_plain.proofs.Cases.{deletion_lines, deletion_made, deletion_names, deletion_state}
use Rattle.lrat_plain.proofs.Cases.{lines_are, made_are, names_are, no_fault, no_plain, word_line}
use Rattle.lrat_plain.proofs.LawWords.{PutsAll, puts_of, same_state, word_made}

module _ (cost : Option ℕ) (s t : CutsState) (ts : List (List ℕ))
    (right : judged_line cost s ts ≡ Ok t) (n : Names)
    -- of its plain lines, the names after it, and the clauses that it makes
    (P : List ProofLine → Names → List (List Literal) → Type 0) where
  as_said : (ls : List ProofLine) (m : Names) (made : List (List Literal))
      → lines_by n ts s t ≡ ls → names_after n ts s t ≡ m → made_by ts s t ≡ made → P ls m made
      → P (lines_by n ts s t) (names_after n ts s t) (made_by ts s t)
  as_said ls m made lines names makes h =
      subst (λ x. P x (names_after n ts s t) (made_by ts s t)) (sym lines)
      (subst (λ x. P ls x (made_by ts s t)) (sym names) (subst (P ls m) (sym makes) h))

  module _ (blank : s ≡ t → P [] n [])
      (adds : (id : ℕ) (c : List Literal) (hints : List (Bool × ℕ))
      → rup_fault (live_of s.last s.live) id c hints ≡ None → t ≡ put id c s
      → P (Addition (added n id) c (map (λ h. renumbered n h.1) hints) [] ∷ []) n [])
      (deletes : (first : ℕ) (ids : List ℕ) (es : Listed) → deleted_from s.live ids ≡ Some es
      → record s { live = es } ≡ t
      → P (Deletion first (map (renumbered n) ids) ∷ []) (forgotten ids n) [])
      (makes : (made : List (List Literal)) → PutsAll s made t
      → P (ending (named_all s.last (length made) n) t.last t.ended)
      (named_all s.last (length made) n) made) where
    abbrev IsSo : Type 0
    IsSo = P (lines_by n ts s t) (names_after n ts s t) (made_by ts s t)

    nothing : ts ≡ [] → IsSo
    nothing none =
        let same : s ≡ t = same_state s t (ap (judged_line cost s) (sym none) ∙ right) in
        as_said [] n [] (ap (λ us. lines_by n us s t) none) (ap (λ us. names_after n us s t) none)
        (ap (λ us. made_by us s t) none) (blank same)

    by_word : (line : Option WordLine) → word_line_of ts ≡ Some line → IsSo
    by_word line is =
        let w = word_made s t cost line (word_line cost s t ts line right is) in
        let puts = puts_of s t w.0 w.1 in
        let m = named_all s.last (length w.0) n in
        as_said (ending m t.last t.ended) m w.0 (lines_are s t ts line is w.0 puts n)
        (names_are s t ts line is w.0 puts n) (made_are s t ts line is w.0 puts)
        (makes w.0 w.1)

    by_plain : word_line_of ts ≡ None → (p : Parsed) → line_of ts ≡ p → IsSo
    by_plain none (AddsLine id c hints) e =
        as_said (Addition (added n id) c (map (λ h. renumbered n h.1) hints) [] ∷ []) n []
        (addition_lines cost s t ts right id c hints e n)
        (addition_names cost s t ts right id c hints e n)
        (addition_made cost s t ts right id c hints e n)
        (adds id c hints (no_fault cost s t ts right id c hints e)
        (addition_state cost s t ts right id c hints e))
    by_plain none (DeletesLine ids) e =
        let d = deletion_state cost s t ts right ids e in
        as_said (Deletion (added n (lead ts)) (map (renumbered n) ids) ∷ []) (forgotten ids n) []
        (deletion_lines cost s t ts right ids e n) (deletion_names cost s t ts right ids e n)
        (deletion_made cost s t ts right ids e n)
        (deletes (added n (lead ts)) ids d.0 d.1 d.2)
    by_plain none Malformed e = by_tokens ts refl
      where
        by_tokens : (us : List (List ℕ)) → ts ≡ us → IsSo
        by_tokens [] z = nothing z
        by_tokens (u ∷ us) z =
            absurd (no_plain cost s t ts right (λ x. let y : [] ≡ u ∷ us = sym x ∙ z in cc) e none)

    pub line_is : IsSo
    line_is = by (word_line_of ts) refl
      where
        by : (o : Option (Option WordLine)) → word_line_of ts ≡ o → IsSo
        by None e = by_plain e (line_of ts) refl
        by (Some line) e = by_word line e
