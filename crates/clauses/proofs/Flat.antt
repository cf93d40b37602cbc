-- Heads over flat literals, by the laws of pieces that are laid one after another.
use Rattle.std.proofs.Common.{◌≡◌, ℕ, ◌+◌, ◌<◌, ◌≤◌, true, false, List, length, get_or, drop, set}
use Rattle.std.proofs.Common.{refl, sym, ap, subst}
use lib.Seq.{paste}
use Rattle.cnf.specs.Literal.{Literal}
use Rattle.clauses.specs.declared.heads.ClauseSpan.{ClauseSpan}
use Rattle.clauses.specs.Heads.{Head, span_of}
use Rattle.cnf.proofs.Laws.{Layout, IsCompacting, moved_within, compacting_dead, compacting_live}
use Rattle.clauses.proofs.Reading.{no_head}

abbrev pub heads : Layout Head Literal (List Literal)
heads = record {
  start = λ h. h.start;
  length = λ h. h.length;
  live = λ h. h.live;
  listed = λ h c. c;
}

-- one head, as its flag and its span were read
module _ (ls : List Literal) (hs : List Head) (kept end i : ℕ) (value : List (List Literal))
    (s : IsCompacting heads ls hs kept end i value) (h : i < length hs) where
  abbrev pub looked : Head
  looked = get_or hs i no_head

  pub dead_head : looked.live ≡ false → IsCompacting heads ls hs kept end (i + 1) value
  dead_head e = compacting_dead heads ls hs kept end i value no_head s h e

  module _ (x : ClauseSpan) (is : x ≡ span_of looked) where
    pub moves_down : (end ≤ x.start) × (x.start + x.length ≤ length ls)
    moves_down = subst (λ (y : ClauseSpan). (end ≤ y.start) × (y.start + y.length ≤ length ls))
        (sym is)
        (moved_within heads ls hs kept end i value no_head s h)

    abbrev moved_head : Head
    moved_head = record { start = end; length = x.length; live = true }

    pub live_head : looked.live ≡ true → (n : ℕ) → n ≡ x.length
        → IsCompacting heads (paste ls end (drop x.start ls) n) (set hs kept moved_head) (kept + 1)
        (end + x.length) (i + 1) value
    live_head e n long =
        let all =
        compacting_live heads ls hs kept end i value no_head s h moved_head e refl
        (ap (λ (y : ClauseSpan). y.length) is) refl (λ c. refl) in
        let by_span =
        subst (λ (y : ClauseSpan). IsCompacting heads (paste ls end (drop y.start ls) y.length)
        (set hs kept moved_head) (kept + 1) (end + y.length) (i + 1) value) (sym is) all in
        rw long by_span
