use Rattle.std.proofs.Common.{false, refl, arith}
use Rattle.clauses.specs.Heads.{Head, head_of}
use Rattle.clauses.proofs.Zipped.{length-zipped, zipped-set_second}
use Rattle.clauses.proofs.heads.Heads.kill.Goals as goal

pub index_mut-requires : goal.index_mut-requires
index_mut-requires c =
    let within = rw (← c.self.view_is) at c.requires in
    omega (
      arith,
      within,
      length-zipped head_of _ _ c.self.invariant,
      c.self.invariant,
      c.self.inside.live.ok.0,
    )

pub returns : goal.returns
returns c =
    rw (← c.self.view_is)
    (λ h at. zipped-set_second head_of (λ (k : Head). record k { live = false }) _ _ _ _ h
    (λ s b. refl) at)
