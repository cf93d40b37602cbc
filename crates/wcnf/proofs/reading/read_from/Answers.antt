-- What the watched reader gave is what the reader gave.
use Rattle.std.proofs.Common.{◌≡◌, ◌∙◌, sym, ap, subst, rules}
use Rattle.std.specs.Prelude.{IfOk, IfErr, IfSome, OnOk, ◌⊎◌}
use Rattle.std.specs.Io.KnownBytes.{IsAtEnd}
use Rattle.wcnf.specs.Wcnf.{Reads}
use Rattle.wcnf.proofs.ParserLaws.{reading_refused}
use Rattle.wcnf.proofs.reading.read_from.Goals as goal

pub returns-clause-instance : goal.returns-clause-instance
returns-clause-instance g c =
    subst (λ x. IfOk c.read_watched-instance.result (λ i. IfSome (g.R.Read.remaining x)
    (λ text. Reads text i))) c.new-watched.ensures.gives c.read_watched-instance.ensures.instance
