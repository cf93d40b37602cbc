-- The moves of a compaction have a new reference for each clause that an engine may name.
use Rattle.std.proofs.Common.{◌≡◌, ℕ, true, Some}
use Rattle.std.specs.Prelude.{All, IfSome}
use Rattle.std.proofs.lemmas.List.Elements.{All-weaker}
use Rattle.std.proofs.lemmas.Option.{IfSome_then}
use Rattle.clauses.specs.Slots.{Slots, Renaming, renamed, IsRenaming}
use Rattle.clauses.proofs.Laws.{went}
use Rattle.propagate.specs.Watches.{EngineState, is_attached}
use Rattle.propagate.specs.Fits.{Fits}

module _ (e : EngineState) (before after : Slots) (ms : Renaming) (fits : Fits e before)
    (renames : IsRenaming before after ms) where
  pub attached_listed : (r : ℕ) → is_attached e r ≡ true → (q : ℕ) × (renamed ms r ≡ Some q)
  attached_listed r h =
      let z = fits.attached r h in went before after ms renames r z.0 z.1

  pub reasons_listed : All (λ a. IfSome a.reason (λ r. (q : ℕ) × (renamed ms r ≡ Some q))) e.trail
  reasons_listed =
      All-weaker _ _ (λ a h. IfSome_then a.reason h attached_listed) e.trail fits.reasons_attached
