-- Lines without a token.
use Rattle.std.specs.Prelude.{false, []}
use Rattle.lrat_read.specs.declared.line.ReadLine.{ReadLine}
use Rattle.lrat_read.specs.declared.types.Form.TheVariants.{Blank}

-- what is read of such a line
abbrev pub no_tokens : ReadLine
no_tokens = record {
  form = Blank;
  line = record { id = 0; clause = []; is_large = false; hints = [] };
}
