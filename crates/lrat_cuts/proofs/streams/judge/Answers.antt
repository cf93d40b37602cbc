-- No more of the reader's bytes were read than the first fault takes, and all where there is none.
use Rattle.std.proofs.Common.{rules, ◌≡◌, ℕ, [], ◌++◌, append_assoc}
use Rattle.std.proofs.Common.{append-nil, arith, inl, inr, length-take, refl, subst, sym}
use Rattle.std.specs.Prelude.{None}
use Rattle.std.specs.Io.KnownBytes.{IsAtEnd}
use Rattle.std.proofs.KnownBytes.{Consumes-trans}
use Rattle.text.proofs.Laws.{read_nothing}
use Rattle.lrat_cuts.specs.Pieces.{HasJudged}
use Rattle.lrat_cuts.proofs.EndedParts.{piece_on}
use Rattle.lrat_cuts.proofs.streams.judge.Goals as goal

pub pieces-init : goal.pieces-init
pieces-init g c = record {
  bytes = [];
  read = search rules;
  judged = λ cost p before s. subst (HasJudged c.args.checker.now cost p)
      (sym (append-nil before)) s;
  in_time = λ cost p before s. inl refl;
}

pub returns-in-Ok-eq0-clause-judges : goal.returns-in-Ok-eq0-clause-judges
returns-in-Ok-eq0-clause-judges g c =
    let i = c.pieces.invariant in
    let zero : c.in-Ok-eq0.field-0 ≡ 0 = first_of (omega arith, search rules, cc) in
    record {
      bytes = i.bytes;
      read =
          read_nothing (g.R.Read.remaining c.args.proof.now)
          (g.R.Read.remaining c.pieces.proof) (g.R.Read.remaining c.read.new.self) i.bytes _
          c.in-Ok-eq0.field-0 i.read c.in-Ok-eq0.ensures.bytes.0 zero;
      judged = i.judged;
      in_time = i.in_time;
    }

pub returns-in-Ok-eq0-clause-whole : goal.returns-in-Ok-eq0-clause-whole
returns-in-Ok-eq0-clause-whole g c =
    λ none. let end : IsAtEnd (g.R.Read.remaining c.read.new.self) = search rules in end

pub pieces-preserved : goal.pieces-preserved
pieces-preserved g c =
    let i = c.pieces.invariant in
    let none : ((c.pieces.checker).reading).refused ≡ None = search rules in
    record {
      bytes = _;
      read =
          Consumes-trans (g.R.Read.remaining c.args.proof.now)
          (g.R.Read.remaining c.pieces.proof) (g.R.Read.remaining c.read.new.self) i.bytes _
          i.read c.in-Ok.ensures.bytes.0;
      judged = λ cost p before s.
          subst (HasJudged c.feed.new.self cost p) (append_assoc before i.bytes _)
          (c.in_ok-feed.ensures.judged cost p (before ++ i.bytes) (i.judged cost p before s));
      in_time = λ cost p before s.
          inr (piece_on (c.pieces.checker).reading cost p before i.bytes _
          (((i.judged cost p before s).holds).open_end none)
          (omega (arith, length-take {A = ℕ})));
    }
