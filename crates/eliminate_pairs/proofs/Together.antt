-- A stage stays one where its clauses move together, with their names.
use Rattle.std.proofs.Common.{◌≡◌, ℕ, ◌<◌, List, map, Some, inr, refl, sym, ◌∙◌, ap}
use Rattle.std.proofs.Common.{subst, arith}
use Rattle.std.specs.Prelude.{All}
use Rattle.cnf.specs.Clause.{Satisfies}
use Rattle.clauses.specs.Slots.{Slots, live_clauses}
use Rattle.clauses.proofs.Laws.{live_map}
use Rattle.lrat_log.specs.Log.{LogLine}
use Rattle.eliminate_names.specs.Together.{live_names}
use Rattle.eliminate_names.specs.Work.{NamesState}
use Rattle.eliminate_names.proofs.Laws.{AreTogether, together_fit, was_there, work_together}
use Rattle.eliminate_pairs.specs.Pairs.{Stage, Ground, IsStage, FitNames, Replaces, stage_of}
use Rattle.eliminate_pairs.proofs.Leading.{defines_nothing, leads_by, leads_on}

pub stage_together : (ground : Ground) (v : ℕ) (slots moved : Slots) (names n : NamesState)
    (lines : List LogLine) → AreTogether slots moved names n
    → IsStage ground (stage_of v slots names lines) → IsStage ground (stage_of v moved n lines)
stage_together ground v slots moved names n lines t h =
    let left : NamesState = record names { names = live_names names.names slots } in
    let stage : IsStage ground (stage_of v (map Some (live_clauses slots)) left lines) = record {
      more = h.more;
      work = work_together ground.first v ground.given slots names.names lines h.work;
      going = h.going;
      back = λ a all. h.back a (subst (All (Satisfies a)) (live_map (live_clauses slots)) all);
      above = h.above;
      free = λ r c e. let w = was_there slots r c e in h.free w.0 c w.1;
    } in
    subst (λ (x : NamesState). IsStage ground (stage_of v moved x lines)) (sym t.names_are)
    (subst (λ (x : Slots). IsStage ground (stage_of v x left lines)) (sym t.slots_are) stage)

pub fit_together : (slots moved : Slots) (names n : NamesState) (lines : List LogLine)
    → AreTogether slots moved names n → FitNames names slots lines → FitNames n moved lines
fit_together slots moved names n lines t h = record {
  counted = ap (λ (x : NamesState). x.additions) t.names_are ∙ h.counted;
  long = together_fit slots moved names n t h.long;
}

-- after pairs were replaced
pub replaces_together : (s : Stage) (most last : ℕ) (slots moved : Slots) (names n : NamesState)
    (lines : List LogLine) → AreTogether slots moved names n → s.variables < last
    → Replaces s most last slots names lines → Replaces s most last moved n lines
replaces_together s most last slots moved names n lines t grown h = record {
  more = h.more;
  most = h.most;
  fit = fit_together slots moved names n lines t h.fit;
  keeps = λ ground k. stage_together ground last slots moved names n lines t (h.keeps ground k);
  moves =
      let all : Stage = stage_of last slots names lines in
      let left : Stage = stage_of last moved n lines in
      leads_on s all left h.moves (leads_by all left (record {
        keeps = λ ground k. stage_together ground last slots moved names n lines t k;
        pair = inr (defines_nothing all left refl refl);
      }));
  rests = λ rare.
      let same : last ≡ s.variables = ap (λ (x : Stage). x.variables) (h.rests rare) in
      absurd (omega arith);
}
