-- Clause after clause gets the variable.
use Rattle.std.proofs.Common.{◌+◌, ap, sym, subst, arith, ℕ}
use Rattle.std.proofs.lemmas.Result.{MatchResult-from_err}
use Rattle.clauses.specs.Slots.{StoreState}
use Rattle.eliminate_pairs.specs.declared.pairs.PairDefinition.{PairDefinition}
use Rattle.eliminate_pairs.specs.Pairs.{stage_of, Stage, IsStage, Keeps, LeadsTo}
use Rattle.eliminate_pairs.proofs.Defining.{defines_same, replaces_none}
use Rattle.eliminate_pairs.proofs.Leading.{leads_by, leads_here, leads_on}
use Rattle.eliminate_pairs.proofs.pairs.define_found.Goals as goal
use Rattle.eliminate_pairs.proofs.pairs.define_found.Goals.{in-Some+then-has_pair+in_ok-new}
use Rattle.eliminate_pairs.proofs.pairs.define_found.Goals.{in-Some+else-has_pair, in_default}

pub loop-k-init : goal.loop-k-init
loop-k-init g c =
    let L = g.S.Sink.lines in
    let s : Stage =
    stage_of c.args.pair.now.vars c.args.store.now.slots c.args.names.now (L c.args.sink.now) in
    record {
      variable = c.in_ok-definition.ensures.variable;
      defined = c.in_ok-definition.ensures.defined;
      fit = c.in_ok-definition.ensures.fit;
      keeps =
          subst (λ (v : ℕ). Keeps s (stage_of v c.define.new.store.slots c.define.new.names
          (L c.define.new.sink))) (sym c.in_ok-definition.ensures.variable)
          c.in_ok-definition.ensures.moves.keeps;
      moves =
          subst (λ (v : ℕ). LeadsTo s (stage_of v c.define.new.store.slots c.define.new.names
          (L c.define.new.sink))) (sym c.in_ok-definition.ensures.variable)
          (leads_by s (stage_of (c.args.pair.now.vars + 1) c.define.new.store.slots
          c.define.new.names
          (L c.define.new.sink)) c.in_ok-definition.ensures.moves);
    }

pub returns-then-not-stand_often-clause-passes : goal.returns-then-not-stand_often-clause-passes
returns-then-not-stand_often-clause-passes g c =
    replaces_none c.args.pair.now.vars (c.args.pair.now.vars + 1) _ _ _ (omega arith) c.requires.fit

pub returns-in_err-definition-clause-passes : goal.returns-in_err-definition-clause-passes
returns-in_err-definition-clause-passes g c =
    MatchResult-from_err _ _ _ c.from_residual.ensures.0 (λ _. record {
      log = c.in_err-definition.ensures.moves.log;
      moves =
          let s : Stage =
          stage_of c.args.pair.now.vars c.args.store.now.slots c.args.names.now
          (g.S.Sink.lines c.args.sink.now) in
          (s, leads_here s, c.in_err-definition.ensures.moves);
      rests = λ rare. absurd (rare _ _ (c.stand_often.ensures c.if-not-stand_often.false));
    })

pub returns-in_err-new-clause-passes : goal.returns-in_err-new-clause-passes
returns-in_err-new-clause-passes g c =
    MatchResult-from_err _ _ _ c.from_residual-in_err-new.ensures.0 (λ _. record {
      log = λ ground k. c.in_err-new.ensures.moves.log ground (c.loop-k.invariant.keeps ground k);
      moves = (
        stage_of c.in_ok-definition.definition.variable c.loop-k.store.slots c.loop-k.names
            (g.S.Sink.lines c.loop-k.sink),
        c.loop-k.invariant.moves,
        c.in_err-new.ensures.moves,
      );
      rests = λ rare. absurd (rare _ _ (c.stand_often.ensures c.if-not-stand_often.false));
    })

pub loop-k-preserved : goal.loop-k-preserved
loop-k-preserved g c =
    let L = g.S.Sink.lines in
    let s : Stage =
    stage_of c.args.pair.now.vars c.args.store.now.slots c.args.names.now (L c.args.sink.now) in
    let d : PairDefinition = c.in_ok-definition.definition in
    let was = c.loop-k.invariant in
    elim c.match-found_at.branch [
      | in-Some+then-has_pair+in_ok-new w ↦
          defines_same s c.args.pair.now.vars d w.replace.new.store.slots
          c.match-found_at.store.slots
          w.replace.new.names c.match-found_at.names (L w.replace.new.sink)
          (L c.match-found_at.sink)
          (ap (λ (x : StoreState). x.slots) w.store-is) w.names-is (ap L w.sink-is)
          (record {
            variable = was.variable;
            defined = w.in_ok-new.ensures.defined;
            fit = w.in_ok-new.ensures.fit;
            keeps = λ ground k. w.in_ok-new.ensures.moves.keeps ground (was.keeps ground k);
            moves =
                leads_on s
                (stage_of d.variable c.loop-k.store.slots c.loop-k.names (L c.loop-k.sink))
                (stage_of d.variable w.replace.new.store.slots w.replace.new.names
                (L w.replace.new.sink)) was.moves
                (leads_by
                (stage_of d.variable c.loop-k.store.slots c.loop-k.names (L c.loop-k.sink))
                (stage_of d.variable w.replace.new.store.slots w.replace.new.names
                (L w.replace.new.sink)) w.in_ok-new.ensures.moves);
          })
      | in-Some+else-has_pair w ↦
          defines_same s c.args.pair.now.vars d c.loop-k.store.slots c.match-found_at.store.slots
          c.loop-k.names c.match-found_at.names (L c.loop-k.sink) (L c.match-found_at.sink)
          (ap (λ (x : StoreState). x.slots) w.store-is) w.names-is (ap L w.sink-is) was
      | in_default w ↦
          defines_same s c.args.pair.now.vars d c.loop-k.store.slots c.match-found_at.store.slots
          c.loop-k.names c.match-found_at.names (L c.loop-k.sink) (L c.match-found_at.sink)
          (ap (λ (x : StoreState). x.slots) w.store-is) w.names-is (ap L w.sink-is) was
    ]

pub returns-clause-passes : goal.returns-clause-passes
returns-clause-passes g c = record {
  more = omega arith;
  most = omega arith;
  fit = c.loop-k.invariant.fit;
  keeps = λ ground k. subst (λ (v : ℕ). IsStage ground
      (stage_of v c.loop-k.store.slots c.loop-k.names (g.S.Sink.lines c.loop-k.sink)))
      c.loop-k.invariant.variable (c.loop-k.invariant.keeps ground k);
  moves = subst (λ (v : ℕ). LeadsTo
      (stage_of c.args.pair.now.vars c.args.store.now.slots c.args.names.now
      (g.S.Sink.lines c.args.sink.now))
      (stage_of v c.loop-k.store.slots c.loop-k.names (g.S.Sink.lines c.loop-k.sink)))
      c.loop-k.invariant.variable c.loop-k.invariant.moves;
  rests = λ rare. absurd (rare _ _ (c.stand_often.ensures c.if-not-stand_often.false));
}
