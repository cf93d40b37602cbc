-- The test of a reference.
use Rattle.std.proofs.Common.{◌≡◌, true, List, Some, None, Option, refl}
use Rattle.std.proofs.lemmas.Bool.{false≢true}
use Rattle.cnf.specs.Literal.{Literal}
use Rattle.eliminate_tables.specs.Rows.{is_some}

pub some_clause : (o : Option (List Literal)) → is_some o ≡ true → (c : List Literal) × (o ≡ Some c)
some_clause None e = absurd (false≢true e)
some_clause (Some c) e = (c, refl)
