-- The plain run beside the certificate: each live clause has its number there, and clauses that
-- lines make later are there from the start.
use Rattle.std.proofs.Common.{◌≡◌, ℕ, suc, ◌+◌, ◌-◌, ◌<◌, ◌≤◌, List, [], ◌∷◌, ◌++◌, length}
use Rattle.std.proofs.Common.{Some, None, ◌⊎◌, inl, inr, refl, sym, ◌∙◌, ap, subst, arith}
use Rattle.std.specs.Prelude.{slice_get, ◌==◌}
use Rattle.std.specs.BTreeMap.{insert_entry}
use Rattle.std.specs.Ordering.{nat_cmp}
use Rattle.std.proofs.lemmas.Bool.{cond-false, cond-true, eq-eqb, ne_eqb}
use Rattle.std.proofs.lemmas.Option.{none-some, same_Some, slice_get_within}
use Rattle.cnf.specs.Literal.{Literal}
use Rattle.cnf.specs.Lrat.{Live, with_clause}
use Rattle.lrat_live.specs.Listed.{Listed, listed_at}
use Rattle.lrat_plain.specs.Names.{Names, added, named, renumbered}
use Rattle.lrat_plain.proofs.LawLists.{listed_pushed}
use Rattle.lrat_plain.proofs.LawNumbers.{Numbered, added_number, number_of, placed_number}
use Rattle.lrat_plain.proofs.LawNumbers.{same_number}
use Rattle.lrat_plain.proofs.LawPlaces.{place_at, place_here, place_there}

pub record Stands (later : List (List Literal)) (n : Names) (es : Listed) (last : ℕ) (live : Live) :
    Type 0 where
  pub all : n.all ≡ n.given + n.made + length later
  pub within : n.given ≤ last
  pub behind : live.last ≤ n.all + (last - n.given)
  pub up_to : (i : ℕ) (c : List Literal) → listed_at es i ≡ Some c → i ≤ last
  pub none_above : (i : ℕ) → last < i → place_at n.places i ≡ None
  -- made clauses have places of their own
  pub placed : (i : ℕ) (c : List Literal) (k : ℕ) → listed_at es i ≡ Some c
      → place_at n.places i ≡ Some k → (n.given < k) × (k ≤ n.given + n.made)
  pub single : (i j : ℕ) (c d : List Literal) (k : ℕ) → listed_at es i ≡ Some c
      → listed_at es j ≡ Some d → place_at n.places i ≡ Some k → place_at n.places j ≡ Some k
      → i ≡ j
  pub numbered : (i : ℕ) (c : List Literal) → listed_at es i ≡ Some c
      → live.clause_at (renumbered n i) ≡ Some c
  pub coming : (i : ℕ) (c : List Literal) → slice_get later i ≡ Some c
      → live.clause_at (n.given + n.made + i + 1) ≡ Some c

module _ (later : List (List Literal)) (n : Names) (es : Listed) (last : ℕ) (live : Live)
    (h : Stands later n es last live) where
  abbrev most : ℕ
  most = n.all + (last - n.given)

  -- numbers of live clauses go no further than that of the last addition
  number_below : (i : ℕ) (c : List Literal) → listed_at es i ≡ Some c → renumbered n i ≤ most
  number_below i c e = by (number_of n i)
    where
      by : Numbered n i → renumbered n i ≤ most
      by (inl a) = subst (λ r. r ≤ most) (sym a.1) (let x = h.all in omega (arith, a.0, x))
      by (inr (inl b)) =
          let p = h.placed i c b.0 e b.2 in
          subst (λ r. r ≤ most) (sym b.3) (let x = h.all in omega (arith, p.1, x))
      by (inr (inr d)) =
          let u = h.up_to i c e in
          subst (λ r. r ≤ most) (sym d.2) (omega (arith, d.0, u))

  -- none is that of a clause that comes later
  pub not_coming : (i k : ℕ) (c : List Literal) → listed_at es i ≡ Some c
      → n.given + n.made < k → k ≤ n.all → renumbered n i ≡ k → ⊥
  not_coming i k c e low high z = by (number_of n i)
    where
      by : Numbered n i → ⊥
      by (inl a) = let same : i ≡ k = sym a.1 ∙ z in omega (arith, a.0, low, same)
      by (inr (inl b)) =
          let p = h.placed i c b.0 e b.2 in
          let same : b.0 ≡ k = sym b.3 ∙ z in
          omega (arith, p.1, low, same)
      by (inr (inr d)) =
          let same : n.all + (i - n.given) ≡ k = sym d.2 ∙ z in omega (arith, d.0, high, same)

  -- and no two are the same
  pub injective : (i j : ℕ) (c d : List Literal) → listed_at es i ≡ Some c
      → listed_at es j ≡ Some d → renumbered n i ≡ renumbered n j → i ≡ j
  injective i j c d e f z = by (number_of n i) (number_of n j)
    where
      by : Numbered n i → Numbered n j → i ≡ j
      by (inl a) (inl b) = sym a.1 ∙ z ∙ b.1
      by (inl a) (inr (inl b)) =
          let p = h.placed j d b.0 f b.2 in
          let same : i ≡ b.0 = sym a.1 ∙ z ∙ b.3 in
          absurd (omega (arith, a.0, p.0, same))
      by (inl a) (inr (inr b)) =
          let same : i ≡ n.all + (j - n.given) = sym a.1 ∙ z ∙ b.2 in
          let x = h.all in
          absurd (omega (arith, a.0, b.0, same, x))
      by (inr (inl a)) (inl b) =
          let p = h.placed i c a.0 e a.2 in
          let same : a.0 ≡ j = sym a.3 ∙ z ∙ b.1 in
          absurd (omega (arith, b.0, p.0, same))
      by (inr (inl a)) (inr (inl b)) =
          let same : a.0 ≡ b.0 = sym a.3 ∙ z ∙ b.3 in
          h.single i j c d b.0 e f (a.2 ∙ ap Some same) b.2
      by (inr (inl a)) (inr (inr b)) =
          let p = h.placed i c a.0 e a.2 in
          let same : a.0 ≡ n.all + (j - n.given) = sym a.3 ∙ z ∙ b.2 in
          let x = h.all in
          absurd (omega (arith, b.0, p.1, same, x))
      by (inr (inr a)) (inl b) =
          let same : n.all + (i - n.given) ≡ j = sym a.2 ∙ z ∙ b.1 in
          let x = h.all in
          absurd (omega (arith, a.0, b.0, same, x))
      by (inr (inr a)) (inr (inl b)) =
          let p = h.placed j d b.0 f b.2 in
          let same : n.all + (i - n.given) ≡ b.0 = sym a.2 ∙ z ∙ b.3 in
          let x = h.all in
          absurd (omega (arith, a.0, p.1, same, x))
      by (inr (inr a)) (inr (inr b)) =
          let same : n.all + (i - n.given) ≡ n.all + (j - n.given) = sym a.2 ∙ z ∙ b.2 in
          omega (arith, a.0, b.0, same)

  -- an addition
  module _ (id : ℕ) (c : List Literal) (lt : last < id) where
    abbrev next : Listed
    next = es ++ (id, c) ∷ []

    apart_below : (r : ℕ) → r ≤ most → r ≡ added n id → ⊥
    apart_below r le z = let w = h.within in omega (arith, le, z, w, lt)

    unplaced : place_at n.places id ≡ None
    unplaced = h.none_above id lt

    was : (i k : ℕ) (d : List Literal) → listed_at next i ≡ Some d → place_at n.places i ≡ Some k
        → listed_at es i ≡ Some d
    was i k d e p = by (listed_pushed es id c i d e)
      where
        by : (listed_at es i ≡ Some d) ⊎ ((i ≡ id) × (c ≡ d)) → listed_at es i ≡ Some d
        by (inl o) = o
        by (inr o) = absurd (none-some k (sym unplaced ∙ ap (place_at n.places) (sym o.0) ∙ p))

    pub adds : Stands later n next id (with_clause live (added n id) c)
    adds = record {
      all = h.all;
      within = let w = h.within in omega (arith, w, lt);
      behind = omega arith;
      up_to = λ i d e. by_id i d (listed_pushed es id c i d e);
      none_above = λ i above. h.none_above i (omega (arith, lt, above));
      placed = λ i d k e p. h.placed i d k (was i k d e p) p;
      single = λ i j d f k e g p q. h.single i j d f k (was i k d e p) (was j k f g q) p q;
      numbered = λ i d e. by_number i d (listed_pushed es id c i d e);
      coming = λ i d e. first i d e;
    }
      where
        by_id : (i : ℕ) (d : List Literal) → (listed_at es i ≡ Some d) ⊎ ((i ≡ id) × (c ≡ d))
            → i ≤ id
        by_id i d (inl o) = let u = h.up_to i d o in omega (arith, u, lt)
        by_id i d (inr o) = omega (arith, o.0)

        by_number : (i : ℕ) (d : List Literal)
            → (listed_at es i ≡ Some d) ⊎ ((i ≡ id) × (c ≡ d))
            → (with_clause live (added n id) c).clause_at (renumbered n i) ≡ Some d
        by_number i d (inl o) =
            cond-false (renumbered n i == added n id) (Some c) (live.clause_at (renumbered n i))
            (ne_eqb (renumbered n i) (added n id)
            (apart_below (renumbered n i) (number_below i d o)))
            ∙ h.numbered i d o
        by_number i d (inr o) =
            let above : n.given < id = let w = h.within in omega (arith, w, lt) in
            let is : renumbered n i ≡ added n id = ap (renumbered n) o.0
            ∙ added_number n id above unplaced in
            cond-true (renumbered n i == added n id) (Some c) (live.clause_at (renumbered n i))
            (eq-eqb (renumbered n i) (added n id) is)
            ∙ ap Some o.1

        first : (i : ℕ) (d : List Literal) → slice_get later i ≡ Some d
            → (with_clause live (added n id) c).clause_at (n.given + n.made + i + 1) ≡ Some d
        first i d e =
            let k = n.given + n.made + i + 1 in
            let lt = slice_get_within later i d e in
            let x = h.all in
            let le : k ≤ most = omega (arith, lt, x) in
            cond-false (k == added n id) (Some c) (live.clause_at k)
            (ne_eqb k (added n id) (apart_below k le))
            ∙ h.coming i d e

-- a clause that a line makes
module _ (c : List Literal) (later : List (List Literal)) (n : Names) (es : Listed) (last : ℕ)
    (live : Live) (h : Stands (c ∷ later) n es last live) where
  abbrev id : ℕ
  id = last + 1

  abbrev place : ℕ
  place = n.given + n.made + 1

  abbrev places : List (ℕ × ℕ)
  places = insert_entry nat_cmp n.places id place

  abbrev pushed : Listed
  pushed = es ++ (id, c) ∷ []

  kept : (i : ℕ) → (i ≡ id → ⊥) → place_at places i ≡ place_at n.places i
  kept i apart = place_there n.places id place i apart

  old_apart : (i : ℕ) (d : List Literal) → listed_at es i ≡ Some d → i ≡ id → ⊥
  old_apart i d o z = let u = h.up_to i d o in omega (arith, u, z)

  abbrev Which : ℕ → ℕ → List Literal → Type 0
  Which i k d =
      ((listed_at es i ≡ Some d) × (place_at n.places i ≡ Some k)) ⊎ ((i ≡ id) × (k ≡ place))

  which : (i k : ℕ) (d : List Literal) → listed_at pushed i ≡ Some d
      → place_at places i ≡ Some k → Which i k d
  which i k d e p = by (listed_pushed es id c i d e)
    where
      by : (listed_at es i ≡ Some d) ⊎ ((i ≡ id) × (c ≡ d)) → Which i k d
      by (inl o) = inl (o, sym (kept i (old_apart i d o)) ∙ p)
      by (inr o) =
          let e : Some k ≡ Some place = sym p ∙ ap (place_at places) o.0
          ∙ place_here n.places id place in
          inr (o.0, same_Some k place e)

  placed_by : (i k : ℕ) (d : List Literal) → Which i k d
      → (n.given < k) × (k ≤ n.given + (n.made + 1))
  placed_by i k d (inl o) = let p = h.placed i d k o.0 o.1 in (p.0, omega (arith, p.1))
  placed_by i k d (inr o) = (omega (arith, o.1), omega (arith, o.1))

  single_by : (i j k : ℕ) (d f : List Literal) → Which i k d → Which j k f → i ≡ j
  single_by i j k d f (inl a) (inl b) = h.single i j d f k a.0 b.0 a.1 b.1
  single_by i j k d f (inl a) (inr b) =
      let p = h.placed i d k a.0 a.1 in absurd (omega (arith, p.1, b.1))
  single_by i j k d f (inr a) (inl b) =
      let p = h.placed j f k b.0 b.1 in absurd (omega (arith, p.1, a.1))
  single_by i j k d f (inr a) (inr b) = a.0 ∙ sym b.0

  id_by : (i : ℕ) (d : List Literal) → (listed_at es i ≡ Some d) ⊎ ((i ≡ id) × (c ≡ d)) → i ≤ id
  id_by i d (inl o) = let u = h.up_to i d o in omega (arith, u)
  id_by i d (inr o) = omega (arith, o.0)

  number_by : (i : ℕ) (d : List Literal) → (listed_at es i ≡ Some d) ⊎ ((i ≡ id) × (c ≡ d))
      → live.clause_at (renumbered (named id n) i) ≡ Some d
  number_by i d (inl o) =
      ap live.clause_at (same_number n (named id n) i refl refl (kept i (old_apart i d o)))
      ∙ h.numbered i d o
  number_by i d (inr o) =
      let above : n.given < id = let w = h.within in omega (arith, w) in
      let first : place ≡ n.given + n.made + 0 + 1 = omega arith in
      ap (λ x. live.clause_at (renumbered (named id n) x)) o.0
      ∙ ap live.clause_at (placed_number (named id n) id place above
      (place_here n.places id place) ∙ first)
      ∙ h.coming 0 c refl ∙ ap Some o.1

  pub makes_one : Stands later (named id n) pushed id live
  makes_one = record {
    all = let x = h.all in omega (arith, x);
    within = let w = h.within in omega (arith, w);
    behind = let b = h.behind in let w = h.within in omega (arith, b, w);
    up_to = λ i d e. id_by i d (listed_pushed es id c i d e);
    none_above = λ i above. kept i (λ z. absurd (omega (arith, above, z)))
        ∙ h.none_above i (omega (arith, above));
    placed = λ i d k e p. placed_by i k d (which i k d e p);
    single = λ i j d f k e g p q. single_by i j k d f (which i k d e p) (which j k f g q);
    numbered = λ i d e. number_by i d (listed_pushed es id c i d e);
    coming = λ i d e.
        let next : n.given + (n.made + 1) + i + 1 ≡ n.given + n.made + suc i + 1 = omega arith in
        ap live.clause_at next ∙ h.coming (suc i) d e;
  }
