-- All was put, and is written.
use Rattle.std.proofs.Common.{◌∙◌, ap, length}
use Rattle.cnf.specs.Formula.{Cnf}
use Rattle.lrat_plain.specs.declared.streams.Run.{Run}
use Rattle.lrat_plain.proofs.Texts.{ok_both, ok_weaker}
use Rattle.lrat_plain.proofs.Wholes.{all_written}
use Rattle.lrat_plain.proofs.streams.Run.write.Goals as goal

pub returns-clause-written : goal.returns-clause-written
returns-clause-written g c =
    let e = c.finish.ensures in
    let r = c.finish.result in
    let put = c.put_given.ensures.rest in
    ok_weaker _ _ r
    (ok_both _ _ r (ok_both _ _ r e.variables e.made) (ok_both _ _ r e.formula e.certificate))
    (λ h cost p given b whole count.
    all_written cost given _ p c.put_given.new.self c.take_all.new.self _ _ _ _ _ _
    (ap (λ (x : Run). (x.steps).machine) put ∙ b.machine)
    (ap (λ (x : Run). (x.steps).names) put ∙ b.names) (ap (λ (x : Run). x.rest) put ∙ b.rest)
    c.in_ok-take_all.ensures.runs (count ∙ ap (λ (f : Cnf). length f.clauses) whole) h.0.1 _ h.0.0
    _ (ap (λ (f : Cnf). f.clauses) whole) _ _ _ _ b.formula
    (ap (λ (x : Run). (x.steps).certificate) put ∙ b.certificate)
    c.in_ok-put_given.ensures.text h.1.0 h.1.1)
