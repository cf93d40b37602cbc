-- Blocks of numbers, as far as they are read.
use Rattle.std.proofs.Common.{◌≡◌, ℕ, zero, suc, ◌<◌, ◌≤◌, Bool, true, false, List, [], ◌∷◌, ◌++◌}
use Rattle.std.proofs.Common.{map, Option, Some, None, refl, sym, ◌∙◌, ap, subst, arith, ◌+◌}
use Rattle.std.proofs.Common.{length, drop, get_or, append_assoc}
use Rattle.std.specs.Prelude.{◌==◌, ◌||◌, nat_le}
use Rattle.std.proofs.lemmas.Bool.{lt-leb, le-leb, eqb-true, eqb-false}
use Rattle.std.proofs.lemmas.List.{map_push, drop_all, drop_more}
use Rattle.std.proofs.Math.Bool.{or-false, or-true}
use Rattle.cnf.specs.Literal.{Literal}
use Rattle.text.specs.Text.{is_blank, tokens_of}
use Rattle.lrat_read.specs.Form.{signed_of, block_of, literal_from}
use Rattle.lrat_read.specs.Reader.{is_large_clause}
use Rattle.lrat_read.specs.Blocks.{IsHintsRead, IsLastRead}
use Rattle.lrat_read.proofs.Scan.{token_front}
use Rattle.lrat_read.proofs.Tokens.{Signed, Rest, block_more, block_more_none}

-- a block with these numbers before it
abbrev pub ahead : Signed → Rest → Rest
ahead xs None = None
ahead xs (Some (ys, rest)) = Some (xs ++ ys, rest)

ahead_ahead : (xs ys : Signed) (m : Rest) → ahead xs (ahead ys m) ≡ ahead (xs ++ ys) m
ahead_ahead xs ys None = refl
ahead_ahead xs ys (Some (zs, rest)) =
    ap (λ (w : Signed). Some (w, rest)) (sym (append_assoc xs ys zs))

one_ahead : (t : List ℕ) (us : List (List ℕ)) (s : Bool) (n : ℕ) (m : Rest) → block_of us ≡ m
    → signed_of t ≡ Some (s, n) → 0 < n → block_of (t ∷ us) ≡ ahead ((s, n) ∷ []) m
one_ahead t us s zero m e u h = absurd (omega arith)
one_ahead t us s (suc n) None e u h = block_more_none t us s n u e
one_ahead t us s (suc n) (Some (ys, rest)) e u h = block_more t us s n ys rest u e

pub block_next : (total : Rest) (xs : Signed) (ts : List (List ℕ)) (t : List ℕ) (us : List (List ℕ))
    (s : Bool) (n : ℕ) → total ≡ ahead xs (block_of ts) → ts ≡ t ∷ us → signed_of t ≡ Some (s, n)
    → 0 < n → total ≡ ahead (xs ++ (s, n) ∷ []) (block_of us)
block_next total xs ts t us s n sofar e u h = sofar ∙ ap (λ r. ahead xs (block_of r)) e
    ∙ ap (ahead xs) (one_ahead t us s n (block_of us) refl u h)
    ∙ ahead_ahead xs ((s, n) ∷ []) (block_of us)

-- the literals of a block, as far as they are read
pub record LitsSoFar (line : List ℕ) (at place : ℕ) (is_large : Bool) (lits : List Literal)
    : Type 0 where
  pub numbers : Signed
  pub block : block_of (tokens_of (drop at line)) ≡ ahead numbers
      (block_of (tokens_of (drop place line)))
  pub large : is_large_clause (map literal_from numbers) ≡ is_large
  pub same : is_large ≡ false → map literal_from numbers ≡ lits

large_push : (xs : Signed) (x : Bool × ℕ) → is_large_clause (map literal_from (xs ++ x ∷ []))
    ≡ (is_large_clause (map literal_from xs) || nat_le 134217728 x.1)
large_push [] x = or-false (nat_le 134217728 x.1)
large_push (y ∷ ys) x = large_push_at (nat_le 134217728 y.1) ys x (large_push ys x)
  where
    large_push_at : (b : Bool) (ys : Signed) (x : Bool × ℕ)
        → is_large_clause (map literal_from (ys ++ x ∷ []))
        ≡ (is_large_clause (map literal_from ys) || nat_le 134217728 x.1)
        → (b || is_large_clause (map literal_from (ys ++ x ∷ [])))
        ≡ ((b || is_large_clause (map literal_from ys)) || nat_le 134217728 x.1)
    large_push_at true ys x h = refl
    large_push_at false ys x h = h

pub lits_small : (line : List ℕ) (at place end : ℕ) (is_large : Bool) (lits new : List Literal)
    (t : List ℕ) (s : Bool) (n : ℕ) → LitsSoFar line at place is_large lits
    → tokens_of (drop place line) ≡ t ∷ tokens_of (drop end line) → signed_of t ≡ Some (s, n)
    → 0 < n → n < 134217728 →
    new ≡ lits ++ record { variable = n; negated = s } ∷ [] → LitsSoFar line at end is_large new
lits_small line at place end is_large lits new t s n r e u h small pushed = record {
  numbers = r.numbers ++ (s, n) ∷ [];
  block = block_next (block_of (tokens_of (drop at line))) r.numbers (tokens_of (drop place line)) t
      (tokens_of (drop end line)) s n r.block e u h;
  large = large_push r.numbers (s, n) ∙ ap (λ b. is_large_clause (map literal_from r.numbers) || b)
      (lt-leb 134217728 n small) ∙ or-false (is_large_clause (map literal_from r.numbers))
      ∙ r.large;
  same = λ z. map_push literal_from r.numbers (s, n)
      ∙ ap (λ (c : List Literal). c ++ record { variable = n; negated = s } ∷ []) (r.same z)
      ∙ sym pushed;
}

pub lits_large : (line : List ℕ) (at place end : ℕ) (is_large : Bool) (lits : List Literal)
    (t : List ℕ) (s : Bool) (n : ℕ) → LitsSoFar line at place is_large lits
    → tokens_of (drop place line) ≡ t ∷ tokens_of (drop end line) → signed_of t ≡ Some (s, n)
    → 0 < n → 134217728 ≤ n → LitsSoFar line at end true lits
lits_large line at place end is_large lits t s n r e u h large = record {
  numbers = r.numbers ++ (s, n) ∷ [];
  block = block_next (block_of (tokens_of (drop at line))) r.numbers (tokens_of (drop place line)) t
      (tokens_of (drop end line)) s n r.block e u h;
  large = large_push r.numbers (s, n) ∙ ap (λ b. is_large_clause (map literal_from r.numbers) || b)
      (le-leb 134217728 n large) ∙ or-true (is_large_clause (map literal_from r.numbers));
  same = λ z. absurd (cc);
}

rest_after : (xs ys : Signed) (us vs : List (List ℕ))
    → ◌≡◌ {A = Rest} (Some (xs, us)) (Some (ys, vs)) → us ≡ vs
rest_after xs ys us vs e =
    let p : ◌≡◌ {A = Signed × List (List ℕ)} (xs, us) (ys, vs) = cc in
    ap (λ y. y.1) p

last_at : (line : List ℕ) (at place end : ℕ) (hints : Signed) (b : Bool)
    → (place == length line) ≡ b → block_of (tokens_of (drop at line)) ≡ Some (
      hints,
      tokens_of (drop end line),
    ) → tokens_of (drop place line) ≡ tokens_of (drop end line)
    → place ≤ length line → (place < length line → is_blank (get_or line place 0) ≡ false)
    → IsLastRead line at hints b
last_at line at place end hints true e block same within solid =
    let past : length line ≤ place = omega (arith, eqb-true place (length line) e) in
    let none : tokens_of (drop end line) ≡ [] =
    sym same ∙ ap tokens_of (drop_all place line past) in
    block ∙ ap (λ (us : List (List ℕ)). Some (hints, us)) none
last_at line at place end hints false e block same within solid = λ xs w.
    let ne : place ≡ length line → ⊥ = eqb-false place (length line) e in
    let inside : place < length line = omega arith in
    let front = token_front [] (get_or line place 0) (drop (place + 1) line) tt (solid inside) in
    let some : tokens_of (drop end line) ≡ (get_or line place 0 ∷ front.0) ∷ front.1 =
    sym same ∙ ap tokens_of (drop_more line place 0 inside) ∙ front.2 in
    let none : tokens_of (drop end line) ≡ [] =
    rest_after hints xs (tokens_of (drop end line)) [] (sym block ∙ w) in
    cc

pub last_read : (line : List ℕ) (at place end : ℕ) (hints : Signed) (o : Option ℕ)
    → IsHintsRead line at hints o → o ≡ Some end
    → tokens_of (drop place line) ≡ tokens_of (drop end line) → place ≤ length line
    → (place < length line → is_blank (get_or line place 0) ≡ false)
    → IsLastRead line at hints (place == length line)
last_read line at place end hints o read e same within solid =
    last_at line at place end hints (place == length line) refl
    (subst (IsHintsRead line at hints) e read).0 same within solid
