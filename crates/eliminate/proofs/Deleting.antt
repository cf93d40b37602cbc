-- Clauses that are deleted one after another.
use Rattle.std.proofs.Common.{◌≡◌, ℕ, ◌+◌, ◌<◌, List, [], ◌∷◌, ◌++◌, length, take, get_or, Some}
use Rattle.std.proofs.Common.{None, inl, inr, refl, sym, ◌∙◌, ap, subst, arith, slice_set}
use Rattle.std.specs.Prelude.{Contains}
use Rattle.std.proofs.lemmas.Bool.{cases_eq}
use Rattle.std.proofs.lemmas.List.{take_more, length-set}
use Rattle.std.proofs.lemmas.List.Elements.{Contains-push, Contains-push_cases}
use Rattle.std.proofs.lemmas.List.Elements.{Contains-append_left, Contains-append_right}
use Rattle.std.proofs.lemmas.List.Elements.{Contains-append_cases}
use Rattle.cnf.specs.Literal.{Literal}
use Rattle.clauses.specs.Slots.{Slots, clause_at, IsLive}
use Rattle.lrat_log.specs.declared.lines.Name.{Name}
use Rattle.lrat_log.specs.Log.{LogLine}
use Rattle.lrat_log.specs.Steps.{added_count}
use Rattle.eliminate_names.specs.Work.{name_at, delete_line}
use Rattle.eliminate_tables.specs.Rows.{AreRows}
use Rattle.eliminate.specs.Variables.{LeavesOut, KeepsWork, KeepsLog}
use Rattle.eliminate_names.proofs.Laws.{work_deleted, open_deleted}
use Rattle.clauses.proofs.Laws.{clause_left, clause_other}
use Rattle.lrat_log.proofs.Laws.{additions_push}

pub leaves_all : (slots : Slots) → LeavesOut [] slots slots
leaves_all slots = record {
  long = refl;
  stays = λ r c e. e;
  gone = λ r c e h. omega (arith, h.1);
  each = λ r c e. inl e;
}

-- one clause more is deleted
pub leaves_deleted : (refs : List ℕ) (slots left : Slots) (r : ℕ) → LeavesOut refs slots left
    → LeavesOut (refs ++ r ∷ []) slots (slice_set left r None)
leaves_deleted refs slots left r h = record {
  long = length-set left r None ∙ h.long;
  stays = λ s c e. h.stays s c (clause_left left r s c e).1;
  gone = λ s c e there.
      let w = clause_left left r s c e in
      elim (Contains-push_cases refs r s there) [
        | inl before ↦ h.gone s c w.1 before
        | inr same ↦ w.0 (sym same)
      ];
  each = λ s c e. elim (h.each s c e) [
    | inl there ↦ elim (cases_eq s r) [
      | inl same ↦ inr (subst (Contains (refs ++ r ∷ [])) (sym same) (Contains-push refs r))
      | inr other ↦ inl (clause_other left r s other ∙ there)
    ]
    | inr before ↦ inr (Contains-append_left refs (r ∷ []) s before)
  ];
}

-- or was deleted before
pub leaves_dead : (refs : List ℕ) (slots left : Slots) (r : ℕ) → (IsLive left r → ⊥)
    → LeavesOut refs slots left → LeavesOut (refs ++ r ∷ []) slots left
leaves_dead refs slots left r dead h = record {
  long = h.long;
  stays = h.stays;
  gone = λ s c e there. elim (Contains-push_cases refs r s there) [
    | inl before ↦ h.gone s c e before
    | inr same ↦ dead (c, ap (clause_at left) same ∙ e)
  ];
  each = λ s c e. elim (h.each s c e) [
    | inl there ↦ inl there
    | inr before ↦ inr (Contains-append_left refs (r ∷ []) s before)
  ];
}

-- some clauses and then others
pub leaves_join : (refs more : List ℕ) (slots mid left : Slots) → LeavesOut refs slots mid
    → LeavesOut more mid left → LeavesOut (refs ++ more) slots left
leaves_join refs more slots mid left a b = record {
  long = b.long ∙ a.long;
  stays = λ r c e. a.stays r c (b.stays r c e);
  gone = λ r c e there. elim (Contains-append_cases refs more r there) [
    | inl first ↦ a.gone r c (b.stays r c e) first
    | inr second ↦ b.gone r c e second
  ];
  each = λ r c e. elim (a.each r c e) [
    | inl there ↦ elim (b.each r c there) [
      | inl left' ↦ inl left'
      | inr second ↦ inr (Contains-append_right refs more r second)
    ]
    | inr first ↦ inr (Contains-append_left refs more r first)
  ];
}

pub rows_left : (refs : List ℕ) (rows : List (List ℕ)) (slots left : Slots)
    → LeavesOut refs slots left → AreRows rows slots → AreRows rows left
rows_left refs rows slots left h a = record {
  complete = λ r c l live has. a.complete r c l (h.stays r c live) has;
  right = λ r c l some live stands. a.right r c l some (h.stays r c live) stands;
  before = λ i r there. let b : r < length slots = a.before i r there in omega (arith, h.long);
}

pub keeps_start : (names : List Name) (slots : Slots) (ls : List LogLine)
    → KeepsWork names slots ls slots ls
keeps_start names slots ls first variables given w going = (w, going)

pub keeps_deleted : (names : List Name) (slots left : Slots) (ls more : List LogLine) (r : ℕ)
    (c : List Literal) → KeepsWork names slots ls left more → clause_at left r ≡ Some c
    → KeepsWork names slots ls (slice_set left r None) (more ++ delete_line (name_at names r) ∷ [])
keeps_deleted names slots left ls more r c h live first variables given w going =
    let k = h first variables given w going in (
      work_deleted first variables given left names more r c k.0 k.1 live,
      open_deleted more (name_at names r) k.1,
    )

pub keeps_join : (names : List Name) (slots mid left : Slots) (ls more most : List LogLine)
    → KeepsWork names slots ls mid more → KeepsWork names mid more left most
    → KeepsWork names slots ls left most
keeps_join names slots mid left ls more most a b first variables given w going =
    let k = a first variables given w going in b first variables given k.0 k.1

pub keeps_log : (names : List Name) (slots left : Slots) (ls more : List LogLine)
    → KeepsWork names slots ls left more → KeepsLog names slots ls more
keeps_log names slots left ls more h first variables given w going =
    let k = h first variables given w going in (k.0.log, k.0.none_learned)

pub log_after : (names : List Name) (slots mid : Slots) (ls more most : List LogLine)
    → KeepsWork names slots ls mid more → KeepsLog names mid more most
    → KeepsLog names slots ls most
log_after names slots mid ls more most a b first variables given w going =
    let k = a first variables given w going in b first variables given k.0 k.1

-- the next reference
pub take_next : (refs : List ℕ) (i r : ℕ) → i < length refs → r ≡ get_or refs i r
    → take (i + 1) refs ≡ take i refs ++ r ∷ []
take_next refs i r lt is = take_more refs i r lt ∙ ap (λ x. take i refs ++ x ∷ []) (sym is)

module _ (names : List Name) (refs : List ℕ) (slots left after : Slots)
    (ls more most : List LogLine) (r i : ℕ) (lt : i < length refs) (is : r ≡ get_or refs i r)
    (work : KeepsWork names slots ls left more) (count : added_count more ≡ added_count ls)
    (out : LeavesOut (take i refs) slots left) where
  -- the next clause is deleted
  pub next_deleted : IsLive left r → after ≡ slice_set left r None
      → most ≡ more ++ delete_line (name_at names r) ∷ []
      → KeepsWork names slots ls after most × LeavesOut (take (i + 1) refs) slots after
      × (added_count most ≡ added_count ls)
  next_deleted live left_is lines_are = (
    subst (λ (xs : Slots). KeepsWork names slots ls xs most) (sym left_is)
        (subst (KeepsWork names slots ls (slice_set left r None)) (sym lines_are)
        (keeps_deleted names slots left ls more r live.0 work live.1)),
    subst (λ (xs : Slots). LeavesOut (take (i + 1) refs) slots xs) (sym left_is)
        (subst (λ (rs : List ℕ). LeavesOut rs slots (slice_set left r None))
        (sym (take_next refs i r lt is)) (leaves_deleted (take i refs) slots left r out)),
    ap added_count lines_are ∙ (let more_is = additions_push more (delete_line (name_at names r)) in
        let same : added_count (more ++ delete_line (name_at names r) ∷ [])
        ≡ added_count more = omega arith in same) ∙ count,
  )

  -- it was deleted before
  pub next_dead : (IsLive left r → ⊥) → after ≡ left → most ≡ more
      → KeepsWork names slots ls after most × LeavesOut (take (i + 1) refs) slots after
      × (added_count most ≡ added_count ls)
  next_dead dead left_is lines_are = (
    subst (λ (xs : Slots). KeepsWork names slots ls xs most) (sym left_is)
        (subst (KeepsWork names slots ls left) (sym lines_are) work),
    subst (λ (xs : Slots). LeavesOut (take (i + 1) refs) slots xs) (sym left_is)
        (subst (λ (rs : List ℕ). LeavesOut rs slots left) (sym (take_next refs i r lt is))
        (leaves_dead (take i refs) slots left r dead out)),
    ap added_count lines_are ∙ count,
  )
