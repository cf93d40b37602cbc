-- A fact more, and what ends them.
use Rattle.std.proofs.Common.{◌∙◌, ℕ, Bool, ap, arith, drop, ◌++◌, ◌∷◌, []}
use Rattle.text.specs.Text.{tokens_of}
use Rattle.lrat_read.specs.Words.{NamedFact}
use Rattle.lrat_read.proofs.Ends.{done_at}
use Rattle.lrat_read.proofs.FactLaws.{fact_of, facts_break, facts_end, facts_next}
use Rattle.lrat_read.proofs.facts.read_facts.Goals as goal

pub returns-then-weight-eq0 : goal.returns-then-weight-eq0
returns-then-weight-eq0 c =
    let line = c.args.line.now in
    let place = c.loop-weight.place in
    let weight = c.in-Some.weight in
    let found = c.in-Some.ensures in
    let end = c.skip_blanks.ensures in
    facts_end line c.args.at c.loop-weight.facts.items (tokens_of (drop place line))
    (tokens_of (drop weight.end line)) found.0 weight.value _ c.loop-weight.invariant.facts found.1
    found.2 c.if-weight-eq0.true
    (done_at line c.skip_blanks.result weight.end end.tokens end.within end.stops)

pub loop-weight-preserved : goal.loop-weight-preserved
loop-weight-preserved c =
    let line = c.args.line.now in
    let weight = c.in-Some.weight in
    let found = c.in-Some.ensures in
    let name = c.in-Number.ensures in
    let old = c.loop-weight.facts.items in
    record {
      within = name.5;
      facts =
          facts_next _ old c.push.new.self.items (tokens_of (drop c.loop-weight.place line))
          (tokens_of (drop weight.end line)) (tokens_of (drop c.in-Number.end line)) found.0 name.0
          weight.value c.in-Number.is_dashed c.in-Number.value c.loop-weight.invariant.facts found.1
          name.1 found.2 (omega (arith, c.if-weight-eq0.false)) name.2
          (omega (arith, c.if-value-eq0.false))
          (c.in_ok-push.ensures.items ∙ ap (λ (f : NamedFact). old ++ f ∷ []) (c.new.ensures
          ∙ ap (λ (x : Bool × ℕ). fact_of weight.value x.0 x.1) c.new-name.ensures));
    }

pub returns : goal.returns
returns c =
    facts_break _ c.loop-weight.facts.items (tokens_of (drop c.loop-weight.place c.args.line.now))
    c.loop-weight.invariant.facts c.in_default.ensures
