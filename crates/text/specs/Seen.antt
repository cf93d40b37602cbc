-- What the reader sees in a token, by what the token says: a literal above the limit is told from
-- the others.
use Rattle.std.specs.Prelude.{nat_lt, if◌then◌else◌}
use Rattle.cnf.specs.declared.limits.TheConstants.{MOST_VARIABLES}
use Rattle.text.specs.Words as words
use Rattle.text.specs.declared.words.Word.{Word}
use Rattle.text.specs.declared.words.Word.TheVariants.{End, Literal, Above, Other}

abbrev pub seen : words.Word → Word
seen words.Zero = End
seen (words.Literal_word l) = if nat_lt MOST_VARIABLES l.variable then Above else Literal l
seen words.Other = Other
