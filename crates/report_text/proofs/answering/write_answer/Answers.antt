-- The end of the result, by its words and bits.
use Rattle.std.proofs.Common.{subst}
use lib.Chars.{codes}
use Rattle.std.proofs.KnownBytes.{Appends-nil}
use Rattle.std.proofs.lemmas.Result.{err_from_is_err_and}
use Rattle.std.specs.Io.KnownBytes.{Appends}
use Rattle.text.specs.Writing.{AppendsPart}
use Rattle.report_text.specs.Answering.{HasProofRoom}
use Rattle.report_text.proofs.Answered.{end_is, ok_with, err_with, output_left, answers}
use Rattle.report_text.proofs.Answered.{certificate_left}
use Rattle.report_text.proofs.answering.write_answer.Goals as goal

pub deliver_proof-requires : goal.deliver_proof-requires
deliver_proof-requires g c =
    let room = subst HasProofRoom c.in-Optimum.is c.requires in
    record { few = room.0; ids = room.1 }

pub deliver_proof-requires-in-Unsat : goal.deliver_proof-requires-in-Unsat
deliver_proof-requires-in-Unsat g c =
    let room = subst HasProofRoom c.in-Unsat.is c.requires in
    record { few = room.0; ids = room.1 }

pub returns-in_err-deliver_proof-in-Optimum-clause-fault
    : goal.returns-in_err-deliver_proof-in-Optimum-clause-fault
returns-in_err-deliver_proof-in-Optimum-clause-fault g c =
    let p = err_from_is_err_and c.from_residual.result c.from_residual.ensures.1 in
    let k = c.in_err-deliver_proof-in-Optimum.ensures in
    rw (p.1, p.2) (certificate_left c.args.found.now _ c.in-Optimum.is _ _ _ _ _ k.fault
    (Appends-nil _) k.writes tt k.lines)

pub returns-in_err-deliver_proof-in-Unsat-clause-fault
    : goal.returns-in_err-deliver_proof-in-Unsat-clause-fault
returns-in_err-deliver_proof-in-Unsat-clause-fault g c =
    let r = c.from_residual-in_err-deliver_proof-in-Unsat in
    let p = err_from_is_err_and r.result r.ensures.1 in
    let k = c.in_err-deliver_proof-in-Unsat.ensures in
    rw (p.1, p.2) (certificate_left c.args.found.now _ c.in-Unsat.is _ _ _ _ _ k.fault
    (Appends-nil _) k.writes tt k.lines)

pub returns-in_ok-deliver_proof-in-Optimum-clause-ok
    : goal.returns-in_ok-deliver_proof-in-Optimum-clause-ok
returns-in_ok-deliver_proof-in-Optimum-clause-ok g c =
    let e = end_is (codes "s OPTIMUM FOUND\n") _ c.in-Optimum.bits.items _ _ c.spell_optimum.ensures
    c.deref.ensures.value c.deref-in-Optimum.ensures.value in
    let k = c.in_ok-deliver_proof-in-Optimum.ensures in
    ok_with c.deliver_end.result _ _ _ _ (λ h. answers c.args.found.now _ c.in-Optimum.is _ _ _ _
    (subst (Appends _ _) e h) k.writes k.lines) c.deliver_end.ensures.writes

pub returns-in_ok-deliver_proof-in-Optimum-clause-fault
    : goal.returns-in_ok-deliver_proof-in-Optimum-clause-fault
returns-in_ok-deliver_proof-in-Optimum-clause-fault g c =
    let e = end_is (codes "s OPTIMUM FOUND\n") _ c.in-Optimum.bits.items _ _ c.spell_optimum.ensures
    c.deref.ensures.value c.deref-in-Optimum.ensures.value in
    let k = c.in_ok-deliver_proof-in-Optimum.ensures in
    err_with c.deliver_end.result _ _ _ _ _ (λ fault is h. output_left c.args.found.now _
    c.in-Optimum.is _ _ _ _ fault is (subst (AppendsPart _ _) e h) k.writes k.lines)
    c.deliver_end.ensures.fault c.deliver_end.ensures.writes

pub returns-in_ok-deliver_proof-in-Unsat-clause-ok
    : goal.returns-in_ok-deliver_proof-in-Unsat-clause-ok
returns-in_ok-deliver_proof-in-Unsat-clause-ok g c =
    let k = c.in_ok-deliver_proof-in-Unsat.ensures in
    ok_with c.deliver_end-in-Unsat.result _ _ _ _ (λ h. answers c.args.found.now _ c.in-Unsat.is
    _ _ _ _ h k.writes k.lines) c.deliver_end-in-Unsat.ensures.writes

pub returns-in_ok-deliver_proof-in-Unsat-clause-fault
    : goal.returns-in_ok-deliver_proof-in-Unsat-clause-fault
returns-in_ok-deliver_proof-in-Unsat-clause-fault g c =
    let k = c.in_ok-deliver_proof-in-Unsat.ensures in
    err_with c.deliver_end-in-Unsat.result _ _ _ _ _ (λ fault is h. output_left c.args.found.now _
    c.in-Unsat.is _ _ _ _ fault is h k.writes k.lines)
    c.deliver_end-in-Unsat.ensures.fault c.deliver_end-in-Unsat.ensures.writes

pub returns-in-Best-clause-ok : goal.returns-in-Best-clause-ok
returns-in-Best-clause-ok g c =
    let e =
    end_is (codes "s SATISFIABLE\n") _ c.in-Best.bits.items _ _ c.spell_satisfiable.ensures
    c.deref-in-Best.ensures.value c.deref-in-Best-2.ensures.value in
    ok_with c.deliver_end-in-Best.result _ _ _ _ (λ h. answers c.args.found.now _ c.in-Best.is
    _ _ _ _ (subst (Appends _ _) e h) (Appends-nil _) tt) c.deliver_end-in-Best.ensures.writes

pub returns-in-Best-clause-fault : goal.returns-in-Best-clause-fault
returns-in-Best-clause-fault g c =
    let e =
    end_is (codes "s SATISFIABLE\n") _ c.in-Best.bits.items _ _ c.spell_satisfiable.ensures
    c.deref-in-Best.ensures.value c.deref-in-Best-2.ensures.value in
    err_with c.deliver_end-in-Best.result _ _ _ _ _ (λ fault is h. output_left c.args.found.now _
    c.in-Best.is _ _ _ _ fault is (subst (AppendsPart _ _) e h) (Appends-nil _) tt)
    c.deliver_end-in-Best.ensures.fault c.deliver_end-in-Best.ensures.writes

pub returns-in-Nothing-clause-ok : goal.returns-in-Nothing-clause-ok
returns-in-Nothing-clause-ok g c =
    ok_with c.deliver_end-in-Nothing.result _ _ _ _ (λ h. answers c.args.found.now _ c.in-Nothing.is
    _ _ _ _ h (Appends-nil _) tt) c.deliver_end-in-Nothing.ensures.writes

pub returns-in-Nothing-clause-fault : goal.returns-in-Nothing-clause-fault
returns-in-Nothing-clause-fault g c =
    err_with c.deliver_end-in-Nothing.result _ _ _ _ _ (λ fault is h. output_left c.args.found.now _
    c.in-Nothing.is _ _ _ _ fault is h (Appends-nil _) tt)
    c.deliver_end-in-Nothing.ensures.fault c.deliver_end-in-Nothing.ensures.writes
