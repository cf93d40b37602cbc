-- No more of the reader's bytes were read than the verdict takes, and all where no line is faulty.
use Rattle.std.proofs.Common.{rules, ◌≡◌, ℕ, [], arith, inl, inr, length-take, refl}
use Rattle.std.specs.Prelude.{None}
use Rattle.std.specs.Io.KnownBytes.{IsAtEnd}
use Rattle.text.proofs.Laws.{read_nothing}
use Rattle.lrat_check.proofs.PieceLaws.{read_more}
use Rattle.lrat_check.proofs.Stops.{piece_on}
use Rattle.lrat_check.proofs.streams.judge_pieces.Goals as goal

pub pieces-init : goal.pieces-init
pieces-init g c = record {
  bytes = [];
  read = search rules;
  judged = λ formula s. s;
  in_time = λ formula s. inl refl;
}

pub returns-in-Ok-eq0-clause-judges : goal.returns-in-Ok-eq0-clause-judges
returns-in-Ok-eq0-clause-judges g c =
    let i = c.pieces.invariant in
    let zero : c.in-Ok-eq0.field-0 ≡ 0 = first_of (omega arith, search rules, cc) in
    record {
      bytes = i.bytes;
      read =
          read_nothing (g.R.Read.remaining c.args.proof.now) (g.R.Read.remaining c.pieces.proof)
          (g.R.Read.remaining c.read.new.self) i.bytes _ c.in-Ok-eq0.field-0 i.read
          c.in-Ok-eq0.ensures.bytes.0 zero;
      judged = i.judged;
      in_time = i.in_time;
    }

pub returns-in-Ok-eq0-clause-whole : goal.returns-in-Ok-eq0-clause-whole
returns-in-Ok-eq0-clause-whole g c =
    λ none. let end : IsAtEnd (g.R.Read.remaining c.read.new.self) = search rules in end

pub pieces-preserved : goal.pieces-preserved
pieces-preserved g c =
    let i = c.pieces.invariant in
    let none : ((c.pieces.checker).reading).refused ≡ None = search rules in
    record {
      bytes = _;
      read =
          read_more (g.R.Read.remaining c.args.proof.now) (g.R.Read.remaining c.pieces.proof)
          (g.R.Read.remaining c.read.new.self) i.bytes _ i.read c.in-Ok.ensures.bytes.0;
      judged = λ formula s.
          c.in_ok-feed.ensures.judged formula i.bytes (i.judged formula s);
      in_time = λ formula s.
          inr (piece_on (c.pieces.checker).reading formula i.bytes _
          (((i.judged formula s).holds).open_end none)
          (omega (arith, length-take {A = ℕ})));
    }
