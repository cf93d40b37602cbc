-- Clauses that are copied to the end of flat lists, each as a piece.
use Rattle.std.proofs.Common.{◌≡◌, ◌+◌, ◌-◌, ◌<◌, ◌≤◌, ◌^◌, List, [], ◌∷◌, ◌++◌, length, refl}
use Rattle.std.proofs.Common.{sym, ◌∙◌, ap, subst, arith, append_assoc, length-append}
use Rattle.std.specs.Prelude.{slice_range, All}
use Rattle.std.proofs.lemmas.List.{append-nil, map-append}
use Rattle.std.proofs.lemmas.List.Elements.{All-nil, All-cons, All-head, All-tail, All-append}
use Rattle.std.proofs.lemmas.List.Elements.{All-weaker, All-push, All-take, All-drop}
use Rattle.cnf.specs.Literal.{Literal}
use Rattle.cnf.proofs.Laws.{range-append, range-appended}
use Rattle.reconstruction.specs.declared.removals.Piece.{Piece}
use Rattle.reconstruction.specs.declared.removals.Gone.{Gone}
use Rattle.reconstruction.specs.Flat.{clause_in, clauses_at, one_removed, removed_in}
use Rattle.reconstruction.specs.Flat.{IsPieceWithin}
use Rattle.reconstruction.specs.Flat.{IsGone, AreRemovals, AddsClauses}

-- pieces of the first literals
clauses_at-append : (ls more : List Literal) (ps : List Piece) → All (IsPieceWithin (length ls)) ps
    → clauses_at (ls ++ more) ps ≡ clauses_at ls ps
clauses_at-append ls more [] all = refl
clauses_at-append ls more (p ∷ ps) all =
    let h = All-head (IsPieceWithin (length ls)) p ps all in
    rw (
      range-append ls more p.start p.end h.0 h.1,
      clauses_at-append ls more ps (All-tail (IsPieceWithin (length ls)) p ps all),
    ) refl

pub adds_none : (ps : List Piece) (ls : List Literal) → AddsClauses ps ps ls ls []
adds_none ps ls = record {
  more = [];
  more_literals = [];
  pieces_are = sym (append-nil ps);
  literals_are = sym (append-nil ls);
  within = All-nil (IsPieceWithin (length ls));
  clauses_are = refl;
}

pub adds_longer : (ps : List Piece) (ls more : List Literal) → AddsClauses ps ps ls (ls ++ more) []
adds_longer ps ls more = record {
  more = [];
  more_literals = more;
  pieces_are = sym (append-nil ps);
  literals_are = refl;
  within = All-nil (IsPieceWithin (length (ls ++ more)));
  clauses_are = refl;
}

pub adds_one : (ps : List Piece) (ls c : List Literal) (p : Piece) → p.start ≡ length ls
    → p.end ≡ length (ls ++ c) → AddsClauses ps (ps ++ p ∷ []) ls (ls ++ c) (c ∷ [])
adds_one ps ls c p from to =
    let long : p.end ≡ length ls + length c = to ∙ length-append ls c in
    record {
      more = p ∷ [];
      more_literals = c;
      pieces_are = refl;
      literals_are = refl;
      within =
          All-cons (IsPieceWithin (length (ls ++ c))) p [] (omega arith, omega arith)
          (All-nil (IsPieceWithin (length (ls ++ c))));
      clauses_are = ap (λ x. x ∷ []) (range-appended ls c p.start p.end from long);
    }

-- clauses after clauses
pub adds_join : (ps qs rs : List Piece) (ls ms ns : List Literal) (cs ds : List (List Literal))
    → AddsClauses ps qs ls ms cs → AddsClauses qs rs ms ns ds → AddsClauses ps rs ls ns (cs ++ ds)
adds_join ps qs rs ls ms ns cs ds a b =
    let longer : length ms ≤ length ns =
    omega (arith, ap length b.literals_are, length-append ms b.more_literals) in
    record {
      more = a.more ++ b.more;
      more_literals = a.more_literals ++ b.more_literals;
      pieces_are = b.pieces_are ∙ ap (λ xs. xs ++ b.more) a.pieces_are
          ∙ append_assoc ps a.more b.more;
      literals_are = b.literals_are ∙ ap (λ xs. xs ++ b.more_literals) a.literals_are
          ∙ append_assoc ls a.more_literals b.more_literals;
      within =
          All-append (IsPieceWithin (length ns)) a.more b.more
          (All-weaker (IsPieceWithin (length ms)) (IsPieceWithin (length ns))
          (λ p h. (h.0, omega (arith, h.1))) a.more a.within) b.within;
      clauses_are = map-append (clause_in ns) a.more b.more
          ∙ ap (λ xs. xs ++ clauses_at ns b.more) (ap (λ xs. clauses_at xs a.more) b.literals_are
          ∙ clauses_at-append ms b.more_literals a.more a.within ∙ a.clauses_are)
          ∙ ap (λ xs. cs ++ xs) b.clauses_are;
    }

-- what was removed before stays as it was
removed_in-same : (gone : List Gone) (ps more : List Piece) (ls longer : List Literal)
    → All (IsGone (length ps)) gone → All (IsPieceWithin (length ls)) ps
    → removed_in gone (ps ++ more) (ls ++ longer) ≡ removed_in gone ps ls
removed_in-same [] ps more ls longer all within = refl
removed_in-same (g ∷ gone) ps more ls longer all within =
    let h = All-head (IsGone (length ps)) g gone all in
    let part : slice_range (ps ++ more) g.start g.end ≡ slice_range ps g.start g.end =
    range-append ps more g.start g.end h.2 h.3 in
    let pieces : All (IsPieceWithin (length ls)) (slice_range ps g.start g.end) =
    All-take (IsPieceWithin (length ls)) (g.end - g.start) _
    (All-drop (IsPieceWithin (length ls)) g.start ps within) in
    rw (
      part,
      clauses_at-append ls longer (slice_range ps g.start g.end) pieces,
      removed_in-same gone ps more ls longer (All-tail (IsGone (length ps)) g gone all) within,
    )
    refl

module _ (gone : List Gone) (ps qs : List Piece) (ls ms : List Literal) (cs : List (List Literal))
    (r : AreRemovals gone ps ls) (a : AddsClauses ps qs ls ms cs) where
  pieces_long : length ps ≤ length qs
  pieces_long = omega (arith, ap length a.pieces_are, length-append ps a.more)

  literals_long : length ls ≤ length ms
  literals_long = omega (arith, ap length a.literals_are, length-append ls a.more_literals)

  -- more clauses, which belong to no variable yet
  pub removals_grown : AreRemovals gone qs ms
  removals_grown = record {
    each_gone =
        All-weaker (IsGone (length ps)) (IsGone (length qs))
        (λ g h. (h.0, h.1, h.2, omega (arith, h.3, pieces_long))) gone r.each_gone;
    each_piece = subst (All (IsPieceWithin (length ms))) (sym a.pieces_are)
        (All-append (IsPieceWithin (length ms)) ps a.more
        (All-weaker (IsPieceWithin (length ls)) (IsPieceWithin (length ms))
        (λ p h. (h.0, omega (arith, h.1, literals_long))) ps r.each_piece) a.within);
  }

  -- and now they do
  pub removals_pushed : (g : Gone) → 0 < g.variable → g.variable < 2 ^ 27 → g.start ≡ length ps
      → g.end ≡ length qs → AreRemovals (gone ++ g ∷ []) qs ms
  removals_pushed g some few from to = record {
    each_gone = All-push (IsGone (length qs)) gone g removals_grown.each_gone (
      some,
      few,
      omega (arith, pieces_long),
      omega arith,
    );
    each_piece = removals_grown.each_piece;
  }

  pub removed_in-push : (g : Gone) → g.start ≡ length ps → g.end ≡ length qs
      → removed_in (gone ++ g ∷ []) qs ms ≡ removed_in gone ps ls ++ record {
        variable = g.variable;
        clauses = cs;
      } ∷ []
  removed_in-push g from to =
      let same : removed_in gone qs ms ≡ removed_in gone ps ls =
      ap (λ xs. removed_in gone xs ms) a.pieces_are
      ∙ ap (λ xs. removed_in gone (ps ++ a.more) xs) a.literals_are
      ∙ removed_in-same gone ps a.more ls a.more_literals r.each_gone r.each_piece in
      let long : g.end ≡ length ps + length a.more = to ∙ ap length a.pieces_are
      ∙ length-append ps a.more in
      let own : clauses_at ms (slice_range qs g.start g.end) ≡ cs =
      ap (λ xs. clauses_at ms (slice_range xs g.start g.end)) a.pieces_are
      ∙ ap (clauses_at ms) (range-appended ps a.more g.start g.end from long) ∙ a.clauses_are in
      map-append (one_removed qs ms) gone (g ∷ []) ∙ rw (same, own) refl
