-- A stamp that is written is the present one.
use Rattle.std.proofs.Common.{◌∙◌, ap, true, set, refl}
use Rattle.std.specs.Prelude.{◌==◌}
use Rattle.std.proofs.lemmas.Bool.{eq-eqb}
use Rattle.std.proofs.lemmas.List.{map-set}
use Rattle.cnf.specs.Literal.{index_of}
use Rattle.cnf.proofs.marks.Marks.mark.Goals as goal

pub returns : goal.returns
returns c =
    let p = c.self.inside.present in
    let ss = c.self.inside.stamps.items in
    map-set (λ s. s == p) ss c.index.result p
    ∙ rw (eq-eqb p p refl, c.index.ensures.index)
    (ap (λ xs. set xs (index_of c.args.lit) true) c.self.view_is)
