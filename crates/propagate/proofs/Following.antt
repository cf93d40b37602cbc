-- A trail that grew followed by units.
use Rattle.std.proofs.Common.{◌≡◌, ℕ, true, false, List, [], ◌∷◌, ◌++◌, Option, Some, None, refl}
use Rattle.std.proofs.Common.{sym, ◌∙◌, subst}
use Rattle.std.specs.Prelude.{IfSome, is_none}
use Rattle.std.specs.List.{AllByRecursion}
use Rattle.std.proofs.lemmas.Bool.{true≢false}
use Rattle.std.proofs.lemmas.List.{append-nil}
use Rattle.std.proofs.lemmas.List.Elements.{recursion_from_All}
use Rattle.cnf.specs.Literal.{Literal}
use Rattle.cnf.specs.Clause.{HaveSame}
use Rattle.cnf.specs.Refute.{Clauses}
use Rattle.cnf.proofs.Laws.{unit_same, more_same, all_right}
use Rattle.clauses.specs.Slots.{Slots, clause_at}
use Rattle.propagate_watches.specs.declared.table.Attachment.{Attachment}
use Rattle.propagate_watches.specs.declared.table.Attachment.TheVariants.{Detached, Waiting}
use Rattle.propagate_watches.specs.declared.table.Attachment.TheVariants.{Satisfied, Watching}
use Rattle.propagate_watches.specs.Table.{attachment_in}
use Rattle.propagate_trail.specs.Trail.{Assigned, literals_of, is_decision, HasReasons, IsJustified}
use Rattle.propagate.specs.Watches.{EngineState, is_attached}
use Rattle.propagate.specs.Fits.{Fits, FitsAttachment, FollowByUnits, GrowsByUnits}
use Rattle.propagate.specs.Steps.{GoesOn}
use Rattle.propagate_trail.proofs.Laws.{same_swap}

reasons_back : (at : Clauses) (A : List Literal) (T U : List Assigned) → HasReasons at A (T ++ U)
    → (B : List Literal) × HaveSame B (literals_of T ++ A) × HasReasons at B U
reasons_back at A [] U h = (A, (λ l. refl), h)
reasons_back at A (a ∷ T) U h =
    let w = reasons_back at (a.literal ∷ A) T U h.1 in
    (w.0, (λ l. w.1 l ∙ sym (same_swap A (literals_of T) a.literal l)), w.2)

follow_one : (slots : Slots) (e : EngineState) (A B : List Literal) (a : Assigned) (o : Option ℕ)
    → a.reason ≡ o → HaveSame B A → IsJustified (clause_at slots) B a.literal o
    → IfSome o (λ r. is_attached e r ≡ true) → is_none o ≡ false → FollowByUnits slots e A (a ∷ [])
follow_one slots e A B a None same m h g n = absurd (true≢false n)
follow_one slots e A B a (Some r) same m h g n =
    ((r, h.0, same, g, h.1, unit_same h.0 B A a.literal m h.2), tt)

follow_on : (slots : Slots) (e : EngineState) (A B : List Literal) (more : List Assigned)
    → HaveSame B A → HasReasons (clause_at slots) B more
    → AllByRecursion (λ a. IfSome a.reason (λ r. is_attached e r ≡ true)) more
    → AllByRecursion (λ a. is_decision a ≡ false) more → FollowByUnits slots e A more
follow_on slots e A B [] m h g n = tt
follow_on slots e A B (a ∷ more) m h g n = (
  (follow_one slots e A B a a.reason refl m h.0 g.0 n.0).0,
  follow_on slots e (a.literal ∷ A) (a.literal ∷ B) more (more_same B A a.literal m)
      h.1 g.1 n.1,
)

pub follows : (slots : Slots) (old new : EngineState) → GoesOn slots old new
    → GrowsByUnits slots old new
follows slots old new on =
    let g = on.continues in
    let fits = on.fits in
    let reasons = subst (HasReasons (clause_at slots) []) g.grown fits.reasons in
    let w = reasons_back (clause_at slots) [] old.trail g.more reasons in
    let attached =
    recursion_from_All (λ (a : Assigned). IfSome a.reason (λ r. is_attached new r ≡ true))
    new.trail fits.reasons_attached in
    let attached' =
    all_right (λ (a : Assigned). IfSome a.reason (λ r. is_attached new r ≡ true)) old.trail g.more
    (subst (AllByRecursion (λ (a : Assigned). IfSome a.reason (λ r. is_attached new r ≡ true)))
    g.grown attached) in (
      g.more,
      g.grown,
      follow_on slots new (literals_of old.trail) w.0 g.more
          (subst (HaveSame w.0) (append-nil (literals_of old.trail)) w.1) w.2 attached' g.forced,
    )

-- an engine that failed
failed_attachment : (e : EngineState) (c : List Literal) (p : Attachment) → FitsAttachment e c p
    → FitsAttachment (record e { failed = true }) c p
failed_attachment e c Detached h = h
failed_attachment e c Waiting h = h
failed_attachment e c Satisfied h = h
failed_attachment e c (Watching one other rest) h = (
  h.0,
  record { member = h.1.member; covered = h.1.covered; stays = h.1.stays },
  record { member = h.2.member; covered = h.2.covered; stays = h.2.stays },
  h.3,
)

pub failed_fits : (e : EngineState) (slots : Slots) → Fits e slots
    → Fits (record e { failed = true }) slots
failed_fits e slots fits = record {
  attached = λ r h. let f = fits.attached r h in
      (f.0, f.1, (f.2.0, failed_attachment e f.0 (attachment_in e.watches.table r) f.2.1));
  reasons = fits.reasons;
  reasons_attached = fits.reasons_attached;
  small = fits.small;
  rows = fits.rows;
  waiting = fits.waiting;
  blockers = fits.blockers;
}

follow_same : (slots : Slots) (e : EngineState) (A : List Literal) (more : List Assigned)
    → FollowByUnits slots e A more → FollowByUnits slots (record e { failed = true }) A more
follow_same slots e A [] h = tt
follow_same slots e A (a ∷ more) h = (h.0, follow_same slots e (a.literal ∷ A) more h.1)

pub failed_grows : (slots : Slots) (old e : EngineState) → GrowsByUnits slots old e
    → GrowsByUnits slots old (record e { failed = true })
failed_grows slots old e h = (h.0, h.1, follow_same slots e (literals_of old.trail) h.0 h.2)
