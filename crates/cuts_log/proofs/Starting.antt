-- What is known where a log starts.
use Rattle.std.proofs.Common.{◌≡◌, ℕ, ◌-◌, ◌<◌, false, []}
use Rattle.std.proofs.Common.{length, refl, sym, ◌∙◌, ap, subst, arith}
use Rattle.cnf.specs.Problem.{Problem}
use Rattle.cnf.specs.declared.limits.TheConstants.{NUMBER_LIMIT}
use Rattle.bound.specs.Weighted.{weighted_cnf, weights_of}
use Rattle.forms.specs.Forms.{forms_of}
use Rattle.lrat_live.specs.Listed.{listed_from}
use Rattle.lrat_log.specs.Steps.{AddsNoEmptyClause}
use Rattle.lrat_cuts.specs.Cuts.{CutsState, cuts_start}
use Rattle.lrat_cuts.proofs.Laws.{put_all-last, put_all-live, put_all-worth}
use Rattle.cuts_log.specs.declared.standing.Standing.{Standing}
use Rattle.cuts_log.specs.Given.{AreLive, all_live}
use Rattle.cuts_log.specs.Stands.{stand_at, stand_of}
use Rattle.cuts_log.specs.Starts.{IsReached, IsResumable, IsStart, added_at, earlier_lines}
use Rattle.cuts_log.specs.Starts.{lines_before}
use Rattle.cuts_log.proofs.JudgedWords.{put_all-stands}
use Rattle.cuts_log.proofs.LiveClauses.{live_start}

-- before the first line of a certificate
abbrev blank : Problem → CutsState
blank p = record {
  live = [];
  last = 0;
  forms = forms_of (weighted_cnf p).variables (weights_of p);
  ended = false;
  worth = NUMBER_LIMIT;
  proved = 0;
}

pub start_last : (p : Problem) → (cuts_start p).last ≡ length (weighted_cnf p).clauses
start_last p = put_all-last (weighted_cnf p).clauses (blank p) ∙ omega arith

start_live : (p : Problem) → (cuts_start p).live ≡ listed_from 1 (weighted_cnf p).clauses
start_live p = put_all-live (weighted_cnf p).clauses (blank p)

pub start_worth : (p : Problem) → (cuts_start p).worth ≡ NUMBER_LIMIT
start_worth p = put_all-worth (weighted_cnf p).clauses (blank p)

-- nothing was written before
pub none_earlier : (p : Problem) (base : ℕ) → base ≡ length (weighted_cnf p).clauses
    → earlier_lines base (cuts_start p) ≡ []
none_earlier p base size =
    let none : (cuts_start p).last - base ≡ 0 = omega (arith, start_last p, size) in
    ap (lines_before (added_at base (cuts_start p))) none

pub starts_right : (p : Problem) → IsStart p (cuts_start p)
starts_right p =
    let cs = (weighted_cnf p).clauses in record {
      reached = ([], refl);
      open_end = refl;
      some = omega (arith, start_worth p);
      formula = subst (AreLive (all_live cs)) (sym (start_live p)) (live_start cs);
      last = omega (arith, start_last p);
      unrefuted = subst AddsNoEmptyClause (sym (none_earlier p (length cs) refl)) tt;
    }

pub same_stand : (p : Problem) → stand_of p ≡ stand_at p (cuts_start p)
same_stand p =
    let cs = (weighted_cnf p).clauses in
    ap (λ (s : Standing). record s { ended = false })
    (sym (put_all-stands (all_live cs) cs (blank p)))

-- behind lines that were judged
pub resumes_right : (p : Problem) (s : CutsState) (lines : ℕ) → IsReached p s → s.ended ≡ false
    → 0 < s.worth → IsResumable s (weighted_cnf p).clauses lines → IsStart p s
resumes_right p s lines reached open_end some h = record {
  reached = reached;
  open_end = open_end;
  some = some;
  formula = h.formula;
  last = h.last;
  unrefuted = h.unrefuted;
}
