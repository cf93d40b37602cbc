use Rattle.std.proofs.Common.{rules, codes}
use Rattle.std.proofs.lemmas.Slice.Eq.{bytes_eq-Decides}
use Rattle.wmax_onlooker.proofs.WholeFile.{stem_is}
use Rattle.wmax_onlooker.proofs.whole_file.is_part.Goals as goal

-- Without the ending the first is the second just where with the ending the second is the first.
pub returns-in-Some : goal.returns-in-Some
returns-in-Some c =
    let h = c.in-Some.ensures.cases in
    let stem = stem_is c.args.part.now c.in-Some.stem.now c.args.name.now (codes ".part")
    h.0 h.1.1 h.2 in
    search (rules, bytes_eq-Decides)
