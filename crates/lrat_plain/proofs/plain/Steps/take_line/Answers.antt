-- The line was read as it was judged.
use Rattle.std.proofs.Common.{ap, arith, subst, refl}
use Rattle.text.specs.Text.{tokens_of}
use Rattle.lrat_read.specs.Reader.{IsReadAs}
use Rattle.lrat_plain.specs.declared.plain.Steps.{Steps}
use Rattle.lrat_plain.proofs.Taking.{addition_goes, addition_steady, blank_goes, deletion_goes}
use Rattle.lrat_plain.proofs.Taking.{deletion_steady, word_goes, word_steady}
use Rattle.lrat_plain.proofs.Texts.{ok_both, ok_weaker}
use Rattle.lrat_plain.proofs.plain.Steps.take_line.Goals as goal

pub returns-in-Blank-clause-goes : goal.returns-in-Blank-clause-goes
returns-in-Blank-clause-goes g c =
    let ts = tokens_of c.args.line.now in
    let read = subst (λ f. IsReadAs ts f c.read.new.self) c.in-Blank.is c.in_ok-read.ensures in
    blank_goes c.args.self.now c.judge.new.self ts c.in_ok-judge.ensures.judged
    c.judge.ensures.rest _ refl read refl refl refl _ _

pub returns-in-Malformed-clause-goes : goal.returns-in-Malformed-clause-goes
returns-in-Malformed-clause-goes g c =
    let ts = tokens_of c.args.line.now in
    let read = subst (λ f. IsReadAs ts f c.read.new.self) c.in-Malformed.is c.in_ok-read.ensures in
    let e = c.put_made.ensures in
    let r = c.put_made.result in
    ok_weaker _ _ r (ok_both _ _ r (ok_both _ _ r e.names e.last) (ok_both _ _ r e.formula
    e.certificate))
    (λ h. word_goes c.args.self.now c.judge.new.self ts c.in_ok-judge.ensures.judged
    c.judge.ensures.rest _ e.machine c.read.new.self _ read c.requires h.0.0 h.0.1 _ _ _ h.1.0
    h.1.1)

pub returns-in-Malformed-clause-steady : goal.returns-in-Malformed-clause-steady
returns-in-Malformed-clause-steady g c =
    let ts = tokens_of c.args.line.now in
    let read = subst (λ f. IsReadAs ts f c.read.new.self) c.in-Malformed.is c.in_ok-read.ensures in
    let e = c.put_made.ensures in
    let r = c.put_made.result in
    ok_weaker _ _ r (ok_both _ _ r (ok_both _ _ r e.names e.last) e.small)
    (λ h. word_steady c.args.self.now c.judge.new.self ts c.in_ok-judge.ensures.judged
    c.judge.ensures.rest _ e.machine c.read.new.self (g.F.Write.contents c.args.formula.now) read
    c.requires
    h.0.0 h.0.1 h.1)

pub returns-in-Addition-clause-goes : goal.returns-in-Addition-clause-goes
returns-in-Addition-clause-goes g c =
    let ts = tokens_of c.args.line.now in
    let read = subst (λ f. IsReadAs ts f c.read.new.self) c.in-Addition.is c.in_ok-read.ensures in
    let e = c.put_addition.ensures in
    ok_weaker _ _ c.put_addition.result e.certificate
    (λ h. addition_goes c.args.self.now c.judge.new.self ts c.in_ok-judge.ensures.judged
    c.judge.ensures.rest _ (ap (λ (s : Steps). s.machine) e.rest) c.read.new.self _ read
    (ap (λ (s : Steps). s.names) e.rest) (ap (λ (s : Steps). s.formula) e.rest) _ _ h)

pub returns-in-Addition-clause-steady : goal.returns-in-Addition-clause-steady
returns-in-Addition-clause-steady g c =
    let ts = tokens_of c.args.line.now in
    let read = subst (λ f. IsReadAs ts f c.read.new.self) c.in-Addition.is c.in_ok-read.ensures in
    let e = c.put_addition.ensures in
    let id = ap (λ (s : Steps). s.last) e.rest in
    ok_weaker _ _ c.put_addition.result e.certificate
    (λ h. addition_steady c.args.self.now c.judge.new.self ts c.in_ok-judge.ensures.judged
    c.judge.ensures.rest _ (ap (λ (s : Steps). s.machine) e.rest) c.read.new.self
    (g.F.Write.contents c.args.formula.now) read id (omega (arith, e.small, id)))

pub returns-in-Deletion-clause-goes : goal.returns-in-Deletion-clause-goes
returns-in-Deletion-clause-goes g c =
    let ts = tokens_of c.args.line.now in
    let read = subst (λ f. IsReadAs ts f c.read.new.self) c.in-Deletion.is c.in_ok-read.ensures in
    let e = c.put_deletion.ensures in
    let r = c.put_deletion.result in
    ok_weaker _ _ r (ok_both _ _ r e.rest e.certificate)
    (λ h. deletion_goes c.args.self.now c.judge.new.self ts c.in_ok-judge.ensures.judged
    c.judge.ensures.rest _ (ap (λ (s : Steps). s.machine) h.0) c.read.new.self _ read
    (ap (λ (s : Steps). s.names) h.0) (ap (λ (s : Steps). s.formula) h.0) _ _ h.1)

pub returns-in-Deletion-clause-steady : goal.returns-in-Deletion-clause-steady
returns-in-Deletion-clause-steady g c =
    let ts = tokens_of c.args.line.now in
    let read = subst (λ f. IsReadAs ts f c.read.new.self) c.in-Deletion.is c.in_ok-read.ensures in
    let r = c.put_deletion.result in
    ok_weaker _ _ r c.put_deletion.ensures.rest
    (λ h. deletion_steady c.args.self.now c.judge.new.self ts c.in_ok-judge.ensures.judged
    c.judge.ensures.rest _ (ap (λ (s : Steps). s.machine) h) c.read.new.self
    (g.F.Write.contents c.args.formula.now) read c.requires (ap (λ (s : Steps). s.last) h)
    (ap (λ (s : Steps). s.names) h))
