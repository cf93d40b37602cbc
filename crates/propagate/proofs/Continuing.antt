-- Small changes one after another.
use Rattle.std.proofs.Common.{◌≡◌, ℕ, true, false, List, [], ◌∷◌, ◌++◌, set, Some, inl, inr, refl}
use Rattle.std.proofs.Common.{sym, ◌∙◌, ap, append_assoc}
use Rattle.std.proofs.lemmas.Bool.{cases_eq}
use Rattle.std.proofs.lemmas.List.{append-nil}
use Rattle.cnf.specs.Literal.{Literal}
use Rattle.cnf.proofs.Laws.{all_append}
use Rattle.clauses.specs.Slots.{Slots}
use Rattle.propagate_watches.specs.declared.pool.WatchEntry.{WatchEntry}
use Rattle.propagate_watches.specs.declared.table.Attachment.{Attachment}
use Rattle.propagate_watches.specs.declared.table.Attachment.TheVariants.{Waiting}
use Rattle.propagate_watches.specs.Table.{is_kept, attachment_in}
use Rattle.propagate_watches.proofs.Laws.{attachment_set_other, attachment_set_same}
use Rattle.propagate_trail.specs.Trail.{Assigned, is_decision}
use Rattle.propagate.specs.Watches.{EngineState, is_attached}
use Rattle.propagate.specs.Steps.{Continues, GoesOn, with_trail}
use Rattle.propagate_trail.proofs.Laws.{made}
use Rattle.propagate.proofs.Attachments.{with_watches}
use Rattle.propagate.proofs.Fitting.{with_progress}
use Rattle.propagate.proofs.Attaching.{kept_within}

-- neither the trail nor an attachment changes
continues_beside : (e f : EngineState) → f.trail ≡ e.trail → f.variables ≡ e.variables
    → f.failed ≡ e.failed → f.watches.table ≡ e.watches.table → Continues e f
continues_beside e f trail variables failed table = record {
  more = [];
  grown = trail ∙ sym (append-nil e.trail);
  forced = tt;
  variables = variables;
  failed = failed;
  attached = λ r. ap (λ t. is_kept (attachment_in t r)) table;
  waiting = λ r h. sym (ap (λ t. attachment_in t r) table) ∙ h;
}

pub continues_same : (e : EngineState) → Continues e e
continues_same e = continues_beside e e refl refl refl refl

pub continues_then : (e f g : EngineState) → Continues e f → Continues f g → Continues e g
continues_then e f g a b = record {
  more = a.more ++ b.more;
  grown = b.grown ∙ ap (λ T. T ++ b.more) a.grown ∙ append_assoc e.trail a.more b.more;
  forced = all_append (λ (x : Assigned). is_decision x ≡ false) a.more b.more a.forced b.forced;
  variables = b.variables ∙ a.variables;
  failed = b.failed ∙ a.failed;
  attached = λ r. b.attached r ∙ a.attached r;
  waiting = λ r h. a.waiting r (b.waiting r h);
}

pub goes_on_then : (slots : Slots) (e f g : EngineState) → GoesOn slots e f → GoesOn slots f g
    → GoesOn slots e g
goes_on_then slots e f g a b =
    record { continues = continues_then e f g a.continues b.continues; fits = b.fits }

-- only rows and the waiting list change
pub continues_rows : (e : EngineState) (R : List (List WatchEntry)) (w : List ℕ)
    → Continues e (with_watches e e.watches.table R w)
continues_rows e R w = continues_beside e _ refl refl refl refl

-- a literal becomes true, and rows change
pub continues_unit : (e : EngineState) (l : Literal) (r : ℕ)
    → Continues e (with_trail e (e.trail ++ made l (Some r) ∷ []))
continues_unit e l r = record {
  more = made l (Some r) ∷ [];
  grown = refl;
  forced = (refl, tt);
  variables = refl;
  failed = refl;
  attached = λ r. refl;
  waiting = λ r h. h;
}

-- an attached clause gets a place
pub continues_attachment : (e : EngineState) (r : ℕ) (p : Attachment) (R : List (List WatchEntry))
    → is_attached e r ≡ true → is_kept p ≡ true → (p ≡ Waiting → ⊥)
    → Continues e (with_watches e (set e.watches.table r p) R e.watches.waiting)
continues_attachment e r p R was kept new =
    let here = attachment_set_same e.watches.table r p (kept_within e.watches.table r was) in
    record {
      more = [];
      grown = sym (append-nil e.trail);
      forced = tt;
      variables = refl;
      failed = refl;
      attached = λ q. elim (cases_eq q r) [
        | inl same ↦ ap (λ z. is_kept (attachment_in (set e.watches.table r p) z)) same
            ∙ ap is_kept here ∙ kept ∙ sym (ap (is_attached e) same ∙ was)
        | inr ne ↦ ap is_kept (attachment_set_other e.watches.table r q p ne)
      ];
      waiting = λ q h. elim (cases_eq q r) [
        | inl same ↦ absurd (new (sym (ap (attachment_in (set e.watches.table r p)) same ∙ here)
            ∙ h))
        | inr ne ↦ sym (attachment_set_other e.watches.table r q p ne) ∙ h
      ];
    }

-- only the attachments in the queue change
pub continues_progress : (e : EngineState) (s p : ℕ) → Continues e (with_progress e e.trail s p)
continues_progress e s p = continues_beside e _ refl refl refl refl
