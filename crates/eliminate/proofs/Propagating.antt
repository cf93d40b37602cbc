-- Moves of unit propagation, one after another.
use Rattle.std.proofs.Common.{◌≡◌, false, List, refl, sym, ◌∙◌}
use Rattle.clauses.specs.Slots.{Slots}
use Rattle.lrat_log.specs.Log.{LogLine}
use Rattle.eliminate.specs.declared.simplifier.Simplifier.{Simplifier}
use Rattle.eliminate.specs.declared.units.Units.{Units}
use Rattle.eliminate.specs.Simplifier.{LeavesLog}
use Rattle.eliminate.specs.Units.{AreUnits, IsPropagating, Propagates}
use Rattle.eliminate.proofs.Assigned.{makes_nothing, makes_more}

module _ (u : Units) (s : Simplifier) (slots : Slots) (ls : List LogLine) where
  pub propagates_nothing : AreUnits u slots → Propagates u s slots ls u s slots ls
  propagates_nothing a = record {
    simplified = λ start h. h;
    vars = refl;
    units = λ going. makes_nothing u slots a;
  }

  module _ (v : Units) (t : Simplifier) (mid : Slots) (more : List LogLine)
      (first : Propagates u s slots ls v t mid more) where
    -- without the empty clause it goes on
    pub still_propagating : IsPropagating u s slots ls → t.is_refuted ≡ false
        → IsPropagating v t mid more
    still_propagating p going = record {
      is_open = record {
        simplified = (
          p.is_open.simplified.0,
          first.simplified p.is_open.simplified.0 p.is_open.simplified.1,
        );
        going = going;
      };
      units = (first.units going).units;
      fits = (first.units going).rows ∙ p.fits ∙ sym first.vars;
    }

    pub propagates_more : t.is_refuted ≡ false → (w : Units) (x : Simplifier) (left : Slots)
        (most : List LogLine) → Propagates v t mid more w x left most
        → Propagates u s slots ls w x left most
    propagates_more going w x left most next = record {
      simplified = λ start h. next.simplified start (first.simplified start h);
      vars = next.vars ∙ first.vars;
      units = λ works. makes_more u v w slots mid left (first.units going) (next.units works);
    }

    -- lines that it leaves later are left by the whole
    pub leaves_later : (most : List LogLine) → LeavesLog t mid more most → LeavesLog s slots ls most
    leaves_later most leaves start h = leaves start (first.simplified start h)
