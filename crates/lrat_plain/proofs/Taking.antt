-- What is put of a right line, by what was read of it.
use Rattle.std.proofs.Common.{◌≡◌, ℕ, ◌+◌, ◌<◌, ◌≤◌, false}
use Rattle.std.proofs.Common.{List, [], ◌∷◌, ◌++◌, length, map, Option}
use Rattle.std.proofs.Common.{refl, sym, ◌∙◌, ap, subst, append-nil, arith}
use Rattle.std.specs.List.{flat_map}
use Rattle.cnf.specs.Literal.{Literal}
use Rattle.cnf.specs.Lrat.{ProofLine, Addition, Deletion}
use Rattle.cnf.specs.declared.limits.TheConstants.{NUMBER_LIMIT}
use Rattle.text.specs.LratText.{line_tokens}
use Rattle.text.specs.Writing.{PassesOn, spaced}
use Rattle.text.proofs.Laws.{passed-nil}
use Rattle.bound.specs.Bound.{dimacs_clause}
use Rattle.lrat_read.specs.Reader.{IsReadAs, LineState}
use Rattle.lrat_read.specs.declared.types.Form.TheVariants.{Malformed}
use Rattle.lrat_read.specs.declared.types.Form.TheVariants.{Addition as ReadsAddition}
use Rattle.lrat_read.specs.declared.types.Form.TheVariants.{Deletion as ReadsDeletion}
use Rattle.lrat_cuts.specs.Cuts.{CutsState}
use Rattle.lrat_cuts.specs.Machine.{MachineState, judged_after}
use Rattle.lrat_plain.specs.Names.{Names, added, forgotten, named_all, renumbered}
use Rattle.lrat_plain.specs.Plain.{ending, lead, lines_by, made_by, names_after}
use Rattle.lrat_plain.specs.Plain.{plain_text}
use Rattle.lrat_plain.specs.Steps.{WritesSteps, IsSteady, Judges, made_after, lines_after}
use Rattle.lrat_plain.specs.declared.plain.Steps.{Steps}
use Rattle.lrat_plain.proofs.Cases.{addition_lines, addition_made, addition_names, addition_small}
use Rattle.lrat_plain.proofs.Cases.{addition_state, deletion_last, deletion_lines, deletion_made}
use Rattle.lrat_plain.proofs.Cases.{deletion_names, forgotten_same, named_same, word_last}
use Rattle.lrat_plain.proofs.Cases.{word_lines, word_made, word_names}
use Rattle.lrat_plain.proofs.Naming.{map_ids}
use Rattle.lrat_plain.proofs.Stepping.{judged_next, lines_next, made_next}
use Rattle.lrat_plain.proofs.Texts.{passed_as}

-- names that are over the same, after `count` clauses more
abbrev AreOver : Names → Names → ℕ → Type 0
AreOver old new count =
    (new.given ≡ old.given) × (new.all ≡ old.all) × (new.made ≡ old.made + count)

module _ (old mid : Steps) (ts : List (List ℕ)) (j : Judges old.machine ts mid.machine)
    (rest : mid ≡ record old { machine = mid.machine }) (new : Steps)
    (machine : new.machine ≡ mid.machine) where
  abbrev before : CutsState
  before = (old.machine).state

  abbrev after : CutsState
  after = (mid.machine).state

  names_kept : mid.names ≡ old.names
  names_kept = ap (λ (s : Steps). s.names) rest

  formula_kept : mid.formula ≡ old.formula
  formula_kept = ap (λ (s : Steps). s.formula) rest

  certificate_kept : mid.certificate ≡ old.certificate
  certificate_kept = ap (λ (s : Steps). s.certificate) rest

  last_kept : mid.last ≡ old.last
  last_kept = ap (λ (s : Steps). s.last) rest

  goes : (made : List (List Literal)) (plain : List ProofLine) → made_by ts before after ≡ made
      → lines_by old.names ts before after ≡ plain
      → names_after old.names ts before after ≡ new.names
      → AreOver old.names new.names (length made)
      → (a b d e : Option (List ℕ))
      → PassesOn a mid.formula (flat_map dimacs_clause made) b new.formula
      → PassesOn d mid.certificate (plain_text plain) e new.certificate
      → WritesSteps old new (ts ∷ []) a b d e
  goes made plain makes says names over a b d e p q = record {
    made = made;
    plain = plain;
    takes = record {
      judged = λ more. judged_next old.machine mid.machine ts j more
          ∙ ap (λ (m : MachineState). judged_after m more) (sym machine);
      makes = λ more. made_next old.machine mid.machine ts j more
          ∙ ap (λ (m : MachineState). made_by ts before after ++ made_after m more) (sym machine)
          ∙ ap (λ z. z ++ made_after new.machine more) makes;
      says = λ more. lines_next old.machine mid.machine ts j more old.names
          ∙ ap (λ (m : MachineState). lines_by old.names ts before after
          ++ lines_after (names_after old.names ts before after) m more) (sym machine)
          ∙ ap (λ z. z ++ lines_after (names_after old.names ts before after) new.machine more)
          says
          ∙ ap (λ n. plain ++ lines_after n new.machine more) names;
      given = over.0;
      all = over.1;
      count = over.2;
    };
    formula = subst (λ h. PassesOn a h (flat_map dimacs_clause made) b new.formula) formula_kept p;
    certificate = subst (λ h. PassesOn d h (plain_text plain) e new.certificate)
        certificate_kept q;
  }

  same_over : (x : Names) → AreOver x x 0
  same_over x = (refl, refl, omega arith)

  -- no token
  pub blank_goes : ts ≡ [] → new.names ≡ mid.names → new.formula ≡ mid.formula
      → new.certificate ≡ mid.certificate → (a d : Option (List ℕ))
      → WritesSteps old new (ts ∷ []) a a d d
  blank_goes none names formula certificate a d =
      let same : new.names ≡ old.names = names ∙ names_kept in
      goes [] [] (ap (λ us. made_by us before after) none)
      (ap (λ us. lines_by old.names us before after) none)
      (ap (λ us. names_after old.names us before after) none ∙ sym same)
      (subst (λ x. AreOver old.names x 0) (sym same) (same_over old.names)) a a d d
      (subst (λ h. PassesOn a mid.formula [] a h) (sym formula) (passed-nil a mid.formula))
      (subst (λ h. PassesOn d mid.certificate [] d h) (sym certificate)
      (passed-nil d mid.certificate))

  module _ (l : LineState) (a : Option (List ℕ)) where
    -- an addition
    module _ (read : IsReadAs ts ReadsAddition l) where
      abbrev clause : List Literal
      clause = read.0

      small : l.is_large ≡ false
      small = sym read.2 ∙ addition_small (old.machine).cost before after ts j.judged l.id clause
          l.hints read.1

      is_clause : clause ≡ l.clause
      is_clause = read.3 small

      abbrev said : ProofLine
      said = Addition (added mid.names l.id) l.clause
          (map (λ h. renumbered mid.names h.1) l.hints) []

      pub addition_goes : new.names ≡ mid.names → new.formula ≡ mid.formula
          → (d e : Option (List ℕ)) → PassesOn d mid.certificate (spaced (line_tokens said)) e
          new.certificate
          → WritesSteps old new (ts ∷ []) a a d e
      addition_goes names formula d e q =
          let same : new.names ≡ old.names = names ∙ names_kept in
          let lines : lines_by old.names ts before after ≡ said ∷ [] =
          addition_lines (old.machine).cost before after ts j.judged l.id clause l.hints read.1
          old.names
          ∙ ap (λ x. Addition (added old.names l.id) x
          (map (λ h. renumbered old.names h.1) l.hints) [] ∷ []) is_clause
          ∙ ap (λ (n : Names). Addition (added n l.id) l.clause
          (map (λ h. renumbered n h.1) l.hints) [] ∷ []) (sym names_kept) in
          goes [] (said ∷ [])
          (addition_made (old.machine).cost before after ts j.judged l.id clause l.hints read.1
          old.names) lines
          (addition_names (old.machine).cost before after ts j.judged l.id clause l.hints read.1
          old.names ∙ sym same)
          (subst (λ x. AreOver old.names x 0) (sym same) (same_over old.names)) a a d e
          (subst (λ h. PassesOn a mid.formula [] a h) (sym formula) (passed-nil a mid.formula))
          (passed_as d e _ _ _ _ (sym (append-nil (spaced (line_tokens said)))) q)

      pub addition_steady : new.last ≡ l.id → l.id < NUMBER_LIMIT → IsSteady new
      addition_steady last below =
          let id : after.last ≡ l.id = ap (λ (s : CutsState). s.last)
          (addition_state (old.machine).cost before after ts j.judged l.id clause l.hints
          read.1) in
          record {
            last = last ∙ sym id ∙ ap (λ (m : MachineState). (m.state).last) (sym machine);
            small = omega (arith, last, below);
          }

    -- a deletion
    module _ (read : IsReadAs ts ReadsDeletion l) where
      abbrev ids : List ℕ
      ids = map (λ h. h.1) l.hints

      abbrev deletes : ProofLine
      deletes = Deletion (added mid.names (lead ts))
          (map (λ h. renumbered mid.names h.1) l.hints)

      pub deletion_goes : new.names ≡ forgotten ids mid.names → new.formula ≡ mid.formula
          → (d e : Option (List ℕ))
          → PassesOn d mid.certificate (spaced (line_tokens deletes)) e new.certificate
          → WritesSteps old new (ts ∷ []) a a d e
      deletion_goes names formula d e q =
          let same : new.names ≡ forgotten ids old.names = names
          ∙ ap (forgotten ids) names_kept in
          let lines : lines_by old.names ts before after ≡ deletes ∷ [] =
          deletion_lines (old.machine).cost before after ts j.judged ids read old.names
          ∙ ap (λ x. Deletion (added old.names (lead ts)) x ∷ [])
          (sym (map_ids (renumbered old.names) l.hints))
          ∙ ap (λ (n : Names). Deletion (added n (lead ts))
          (map (λ h. renumbered n h.1) l.hints) ∷ []) (sym names_kept) in
          let over = forgotten_same ids old.names in
          goes [] (deletes ∷ [])
          (deletion_made (old.machine).cost before after ts j.judged ids read old.names) lines
          (deletion_names (old.machine).cost before after ts j.judged ids read old.names
          ∙ sym same)
          (subst (λ x. AreOver old.names x 0) (sym same)
          (over.0, over.1, omega (arith, over.2))) a a d e
          (subst (λ h. PassesOn a mid.formula [] a h) (sym formula) (passed-nil a mid.formula))
          (passed_as d e _ _ _ _ (sym (append-nil (spaced (line_tokens deletes)))) q)

      pub deletion_steady : IsSteady old → new.last ≡ mid.last
          → new.names ≡ forgotten ids mid.names → IsSteady new
      deletion_steady s last names =
          let made : (new.names).made ≡ (old.names).made = ap (λ (n : Names). n.made) names
          ∙ (forgotten_same ids mid.names).2 ∙ ap (λ (n : Names). n.made) names_kept in
          let same : new.last ≡ old.last = last ∙ last_kept in
          record {
            last = same ∙ s.last
                ∙ sym (deletion_last (old.machine).cost before after ts j.judged ids read)
                ∙ ap (λ (m : MachineState). (m.state).last) (sym machine);
            small = omega (arith, same, s.small, made);
          }

    -- a line that begins with a word
    module _ (read : IsReadAs ts Malformed l) (s : IsSteady old)
        (names : new.names ≡ named_all mid.last (length (mid.machine).made) mid.names)
        (last : new.last ≡ mid.last + length (mid.machine).made) where
      abbrev made : List (List Literal)
      made = (mid.machine).made

      last_is : mid.last ≡ before.last
      last_is = last_kept ∙ s.last

      names_are : new.names ≡ named_all before.last (length made) old.names
      names_are = names ∙ ap (λ n. named_all n (length made) mid.names) last_is
          ∙ ap (named_all before.last (length made)) names_kept

      new_last : new.last ≡ after.last
      new_last =
          let w = word_last old.machine mid.machine ts j read.0 read.1 in
          omega (arith, w, last, last_is)

      pub word_goes : (b d e : Option (List ℕ))
          → PassesOn a mid.formula (flat_map dimacs_clause made) b new.formula
          → PassesOn d mid.certificate (plain_text (ending new.names new.last after.ended)) e
          new.certificate → WritesSteps old new (ts ∷ []) a b d e
      word_goes b d e p q =
          let lines : lines_by old.names ts before after
          ≡ ending new.names new.last after.ended =
          word_lines old.machine mid.machine ts j read.0 read.1 old.names
          ∙ ap (λ (n : Names). ending n after.last after.ended) (sym names_are)
          ∙ ap (λ n. ending new.names n after.ended) (sym new_last) in
          goes made (ending new.names new.last after.ended)
          (word_made old.machine mid.machine ts j read.0 read.1) lines
          (word_names old.machine mid.machine ts j read.0 read.1 old.names ∙ sym names_are)
          (subst (λ x. AreOver old.names x (length made)) (sym names_are)
          (named_same (length made) before.last old.names)) a b d e p q

      pub word_steady : new.last ≤ NUMBER_LIMIT + (new.names).made → IsSteady new
      word_steady small = record {
        last = new_last ∙ ap (λ (m : MachineState). (m.state).last) (sym machine);
        small = small;
      }
