-- Texts that are put piece by piece, as far as they have come.
use Rattle.std.proofs.Common.{◌≡◌, ℕ, ◌+◌, ◌*◌, ◌<◌, ◌≤◌, List, [], ◌∷◌, ◌++◌, length, drop}
use Rattle.std.proofs.Common.{get_or, Option, Result, true, false, refl, sym, ◌∙◌, ap, subst}
use Rattle.std.proofs.Common.{append_assoc, append-nil, arith}
use Rattle.std.specs.List.{flat_map}
use Rattle.std.specs.Io.KnownBytes.{Appends}
use Rattle.std.proofs.KnownBytes.{Appends-nil}
use Rattle.std.proofs.lemmas.List.{drop_more, length-append}
use Rattle.cnf.specs.Literal.{Literal}
use Rattle.cnf.specs.Formula.{Cnf}
use Rattle.cnf.specs.Clause.{has_repeat, is_tautology}
use Rattle.text.specs.Writing.{PassesOn, AppendsPart, Writes}
use Rattle.text.proofs.Laws.{flat_map-append}
use Rattle.text.proofs.Laws.{passed-nil, passed-more, passed_fault, passed_whole, passed_part}
use Rattle.text.proofs.Laws.{writes_after}
use Rattle.cnf.specs.Problem.{Problem}
use Rattle.adder.specs.declared.cells.Cell.{Cell}
use Rattle.adder.specs.declared.profiles.Profile.{Profile}
use Rattle.adder.specs.Network.{Adders, adders_as}
use Rattle.bound.specs.Bound.{kept, bound_as, cell_clauses, dimacs_clause, dimacs_text, header_line}
use Rattle.bound.specs.Bound.{relaxed_clauses, comparator_for}
use Rattle.bound.specs.Adding.{Adds}
use Rattle.bound.proofs.Few.{kept_le, cells_le}
use Rattle.bound.proofs.Kept.{kept-append, kept_one}

-- of the whole text all but what is left was put
pub record IsPutUpTo (old : Option (List ℕ)) (held whole left : List ℕ) (new : Option (List ℕ))
    (holds : List ℕ) : Type 0 where
  pub text : List ℕ
  pub passed : PassesOn old held text new holds
  pub split : whole ≡ text ++ left

pub none_put : (a : Option (List ℕ)) (h whole : List ℕ) → IsPutUpTo a h whole whole a h
none_put a h whole = record { text = []; passed = passed-nil a h; split = refl }

module _ (a b : Option (List ℕ)) (h whole j : List ℕ) where
  pub all_put : IsPutUpTo a h whole [] b j → PassesOn a h whole b j
  all_put p = subst (λ z. PassesOn a h z b j) (sym (append-nil p.text) ∙ sym p.split) p.passed

  pub same_left : (left other : List ℕ) → left ≡ other → IsPutUpTo a h whole left b j
      → IsPutUpTo a h whole other b j
  same_left left other e p = subst (λ z. IsPutUpTo a h whole z b j) e p

  -- what was put is a beginning
  pub part_put : (left : List ℕ) → IsPutUpTo a h whole left b j → AppendsPart a b (h ++ whole)
  part_put left p = (
    p.passed.written,
    (
      j ++ left,
      ap (λ z. h ++ z) p.split ∙ sym (append_assoc h p.text left)
          ∙ ap (λ z. z ++ left) p.passed.split ∙ append_assoc p.passed.written j left,
    ),
    p.passed.appended,
  )

  module _ (c : Option (List ℕ)) (piece left : List ℕ) (p : IsPutUpTo a h whole (piece ++ left) b j)
    where
      -- one more piece
      pub put_more : (k : List ℕ) → PassesOn b j piece c k → IsPutUpTo a h whole left c k
      put_more k q = record {
        text = p.text ++ piece;
        passed = passed-more a b c h j k p.text piece p.passed q;
        split = p.split ∙ sym (append_assoc p.text piece left);
      }

      pub put_fault : AppendsPart b c (j ++ piece) → AppendsPart a c (h ++ whole)
      put_fault q = passed_fault a b c h j p.text piece left whole p.passed q p.split

-- the lines of the clauses
abbrev pub lines_of : List (List Literal) → List ℕ
lines_of cs = flat_map dimacs_clause cs

pub lines-append : (cs ds : List (List Literal)) → lines_of (cs ++ ds) ≡ lines_of cs ++ lines_of ds
lines-append cs ds = flat_map-append dimacs_clause cs ds

-- of the hard clauses that are left, the first is kept exactly where it has no complementary
-- literals
pub kept_first : (c : List Literal) (cs : List (List Literal)) → has_repeat c ≡ false
    → is_tautology c ≡ false → kept (c ∷ cs) ≡ c ∷ kept cs
kept_first c cs h e = kept-append (c ∷ []) cs ∙ ap (λ x. x ++ kept cs) (kept_one c false h (sym e))

pub kept_not_first : (c : List Literal) (cs : List (List Literal)) → has_repeat c ≡ false
    → is_tautology c ≡ true → kept (c ∷ cs) ≡ kept cs
kept_not_first c cs h e =
    kept-append (c ∷ []) cs ∙ ap (λ x. x ++ kept cs) (kept_one c true h (sym e))

-- the clauses of the cells from one on
abbrev pub cells_kept : List Cell → List (List Literal)
cells_kept cells = kept (flat_map cell_clauses cells)

pub cells_from : (cells : List Cell) (i : ℕ) (cell : Cell) → i < length cells
    → cell ≡ get_or cells i cell
    → cells_kept (drop i cells) ≡ kept (cell_clauses cell) ++ cells_kept (drop (i + 1) cells)
cells_from cells i cell lt is =
    ap cells_kept (drop_more cells i cell lt ∙ ap (λ z. z ∷ drop (i + 1) cells) (sym is))
    ∙ kept-append (cell_clauses cell) (flat_map cell_clauses (drop (i + 1) cells))

-- the text of a formula in the order in which its parts are put
module _ (f : Cnf) (v n : ℕ) (h r x m : List (List Literal)) (ev : v ≡ f.variables)
    (en : n ≡ length f.clauses) (ec : f.clauses ≡ h ++ r ++ x ++ m) where
  abbrev pub parts_text : List ℕ
  parts_text = header_line v n ++ (lines_of h ++ (lines_of r ++ (lines_of x ++ (lines_of m ++ []))))

  text_parts : dimacs_text f ≡ parts_text
  text_parts =
      (λ i. header_line (sym ev i) (sym en i) ++ lines_of (ec i))
      ∙ ap (λ z. header_line v n ++ z)
      (lines-append (h ++ r ++ x) m ∙ ap (λ z. z ++ lines_of m) (lines-append (h ++ r) x
      ∙ ap (λ z. z ++ lines_of x) (lines-append h r))
      ∙ append_assoc (lines_of h ++ lines_of r) (lines_of x) (lines_of m)
      ∙ append_assoc (lines_of h) (lines_of r) (lines_of x ++ lines_of m)
      ∙ ap (λ z. lines_of h ++ (lines_of r ++ (lines_of x ++ z))) (sym (append-nil (lines_of m))))

  pub parts_left : (a : Option (List ℕ)) (held : List ℕ)
      → IsPutUpTo a held (dimacs_text f) parts_text a held
  parts_left a held = same_left a a held (dimacs_text f) held (dimacs_text f) parts_text text_parts
      (none_put a held (dimacs_text f))

-- the text of a formula that is there
pub dimacs_left : (f : Cnf) (v n : ℕ) (cs : List (List Literal)) → v ≡ f.variables
    → n ≡ length f.clauses → cs ≡ f.clauses → (a : Option (List ℕ)) (held : List ℕ)
    → IsPutUpTo a held (dimacs_text f) (header_line v n ++ (lines_of cs ++ [])) a held
dimacs_left f v n cs ev en ec a held =
    let e : dimacs_text f ≡ header_line v n ++ (lines_of cs ++ []) =
    (λ i. header_line (sym ev i) (sym en i) ++ lines_of (sym ec i))
    ∙ ap (λ z. header_line v n ++ z) (sym (append-nil (lines_of cs))) in
    same_left a a held (dimacs_text f) held (dimacs_text f) (header_line v n ++ (lines_of cs ++ []))
    e (none_put a held (dimacs_text f))

-- where the block was empty
pub part_from_empty : (a b : Option (List ℕ)) (held text : List ℕ) → held ≡ []
    → AppendsPart a b (held ++ text) → AppendsPart a b text
part_from_empty a b held text e p = subst (λ z. AppendsPart a b (z ++ text)) e p

pub whole_from_empty : (a b c : Option (List ℕ)) (held j text : List ℕ) → held ≡ []
    → PassesOn a held text b j → Appends b c j → Appends a c text
whole_from_empty a b c held j text e p q =
    subst (λ z. Appends a c (z ++ text)) e (passed_whole a b c held j text p q)

pub flush_from_empty : (a b c : Option (List ℕ)) (held j text : List ℕ) → held ≡ []
    → PassesOn a held text b j → AppendsPart b c j → AppendsPart a c text
flush_from_empty a b c held j text e p q =
    subst (λ z. AppendsPart a c (z ++ text)) e (passed_part a b c held j text p q)

pub writes_from_empty : {T E : Type 0} (r : Result T E) (a b c : Option (List ℕ))
    (held j text : List ℕ) → held ≡ [] → PassesOn a held text b j → Writes r b j c
    → Writes r a text c
writes_from_empty r a b c held j text e p q =
    subst (λ z. Writes r a (z ++ text) c) e (writes_after r a b c held j text p q)

pub nothing_put : (a : Option (List ℕ)) (text : List ℕ) → AppendsPart a a text
nothing_put a text = ([], (text, refl), Appends-nil a)

-- how many clauses there are of each kind
pub counted : (h r x m : List (List Literal)) (i j k l : ℕ) → i ≡ length h → j ≡ length r
    → k ≡ length x → l ≡ length m → i + j + k + l ≡ length (h ++ r ++ x ++ m)
counted h r x m i j k l a b c d =
    omega (
      arith,
      a,
      b,
      c,
      d,
      length-append (h ++ r ++ x) m,
      length-append (h ++ r) x,
      length-append h r,
    )

pub cells_counted : (cells : List Cell) → length (cells_kept cells) ≤ 14 * length cells
cells_counted cells = omega (arith, kept_le (flat_map cell_clauses cells), cells_le cells)

-- one cell more, whose clauses were added to none
module _ (cells : List Cell) (i : ℕ) (cell : Cell) (lt : i < length cells)
    (is : cell ≡ get_or cells i cell) (none now : List (List Literal)) (empty : none ≡ [])
    (adds : Adds none now (cell_clauses cell)) where
  of_cell : now ≡ kept (cell_clauses cell)
  of_cell = adds.items ∙ ap (λ x. x ++ kept (cell_clauses cell)) empty

  cell_next : lines_of (cells_kept (drop i cells)) ≡ lines_of now ++ lines_of
      (cells_kept (drop (i + 1) cells))
  cell_next =
      ap lines_of (cells_from cells i cell lt is)
      ∙ lines-append (kept (cell_clauses cell)) (cells_kept (drop (i + 1) cells))
      ∙ ap (λ z. lines_of z ++ lines_of (cells_kept (drop (i + 1) cells))) (sym of_cell)

  pub cell_counted : length (cells_kept (drop i cells)) ≡ length now + length
      (cells_kept (drop (i + 1) cells))
  cell_counted =
      ap length (cells_from cells i cell lt is)
      ∙ length-append (kept (cell_clauses cell)) (cells_kept (drop (i + 1) cells))
      ∙ ap (λ z. length z + length (cells_kept (drop (i + 1) cells))) (sym of_cell)

  module _ (a b c : Option (List ℕ)) (h whole j : List ℕ)
      (p : IsPutUpTo a h whole (lines_of (cells_kept (drop i cells))) b j) where
    pub cell_put : (k : List ℕ) → PassesOn b j (lines_of now) c k
        → IsPutUpTo a h whole (lines_of (cells_kept (drop (i + 1) cells))) c k
    cell_put k q =
        put_more a b h whole j c (lines_of now) (lines_of (cells_kept (drop (i + 1) cells)))
        (same_left a b h whole j _ _ cell_next p) k q

    pub cell_fault : AppendsPart b c (j ++ lines_of now) → AppendsPart a c (h ++ whole)
    cell_fault q =
        put_fault a b h whole j c (lines_of now) (lines_of (cells_kept (drop (i + 1) cells)))
        (same_left a b h whole j _ _ cell_next p) q

-- one hard clause more
module _ (clause : List Literal) (rest : List (List Literal))
    (once : has_repeat clause ≡ false) where
  pub hard_counted : is_tautology clause ≡ false
      → length (kept (clause ∷ rest)) ≡ 1 + length (kept rest)
  hard_counted e = omega (arith, ap length (kept_first clause rest once e))

  pub hard_passed : is_tautology clause ≡ true → length (kept (clause ∷ rest)) ≡ length (kept rest)
  hard_passed e = ap length (kept_not_first clause rest once e)

  module _ (a b : Option (List ℕ)) (h whole j : List ℕ) (left : List (List Literal))
      (steps : left ≡ clause ∷ rest) (p : IsPutUpTo a h whole (lines_of (kept left)) b j) where
    pub hard_skipped : is_tautology clause ≡ true → IsPutUpTo a h whole (lines_of (kept rest)) b j
    hard_skipped e =
        same_left a b h whole j _ _ (ap (λ x. lines_of (kept x)) steps
        ∙ ap lines_of (kept_not_first clause rest once e)) p

    module _ (e : is_tautology clause ≡ false) (c : Option (List ℕ)) where
      hard_next : lines_of (kept left) ≡ dimacs_clause clause ++ lines_of (kept rest)
      hard_next = ap (λ x. lines_of (kept x)) steps ∙ ap lines_of (kept_first clause rest once e)

      pub hard_put : (k : List ℕ) → PassesOn b j (dimacs_clause clause) c k
          → IsPutUpTo a h whole (lines_of (kept rest)) c k
      hard_put k q =
          put_more a b h whole j c (dimacs_clause clause) (lines_of (kept rest))
          (same_left a b h whole j _ _ hard_next p) k q

      pub hard_fault : AppendsPart b c (j ++ dimacs_clause clause) → AppendsPart a c (h ++ whole)
      hard_fault q =
          put_fault a b h whole j c (dimacs_clause clause) (lines_of (kept rest))
          (same_left a b h whole j _ _ hard_next p) q

-- in all there are as many as the formula has
module _ (profile : Profile) (p : Problem) (k : ℕ) (r m : List (List Literal)) (x : Adders)
    (er : r ≡ kept (relaxed_clauses profile p)) (ex : x ≡ adders_as profile p)
    (em : m ≡ comparator_for profile p k) (i j n l : ℕ) (a : i ≡ length (kept p.hard))
    (b : j ≡ length r) (c : n ≡ length (cells_kept x.cells)) (d : l ≡ length m) where
  pub sum_is : i + j + n + l ≡ length (bound_as profile p k).clauses
  sum_is =
      counted (kept p.hard) r (cells_kept x.cells) m i j n l a b c d
      ∙ (λ t. length (kept p.hard ++ er t ++ cells_kept (ex t).cells ++ em t))
