-- What a sheet has put of a text.
use Rattle.std.specs.Prelude.{◌≡◌, ℕ, true, false, List, [], ◌++◌, Option}
use Rattle.std.specs.Io.KnownBytes.{Appends}
use Rattle.text.specs.Writing.{AppendsPart, PassesOn}
use Rattle.explain_text.specs.declared.sheet.Sheet.{Sheet}

-- The text was put: what the writer had and has, and the sheet before and after. A sheet whose
-- writer failed puts nothing more.
pub record Displays (out : Option (List ℕ)) (sheet : Sheet) (text : List ℕ) (out' : Option (List ℕ))
    (sheet' : Sheet) : Type 0 where
  pub whole : sheet.has_failed ≡ false → sheet'.has_failed ≡ false
      → PassesOn out sheet.block text out' sheet'.block
  pub part : sheet.has_failed ≡ false → sheet'.has_failed ≡ true
      → AppendsPart out out' (sheet.block ++ text)
  pub kept : sheet.has_failed ≡ true → Appends out out' []
  pub lasting : sheet.has_failed ≡ true → sheet'.has_failed ≡ true

-- a beginning of what the sheet held was written last
pub record IsCutOff (out : Option (List ℕ)) (sheet : Sheet) (out' : Option (List ℕ)) : Type 0 where
  pub part : sheet.has_failed ≡ false → AppendsPart out out' sheet.block
  pub kept : sheet.has_failed ≡ true → Appends out out' []
