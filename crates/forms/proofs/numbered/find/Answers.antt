use Rattle.std.proofs.Common.{arith}
use Rattle.forms.proofs.Stamps.{found}
use Rattle.forms.proofs.numbered.find.Goals as goal

pub returns : goal.returns
returns c =
    found c.args.numbered.now c.args.number c.index-numbered-number.result (omega arith)
    (omega arith)
    c.index-numbered-number.is
