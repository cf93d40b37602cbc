-- Texts that go to a writer by way of a block, one after another.
use Rattle.std.proofs.Common.{◌≡◌, ℕ, List, [], ◌∷◌, ◌++◌, Option, Result, Ok, Err}
use Rattle.std.proofs.Common.{OnErr, refl, sym, ◌∙◌, ap, subst, append_assoc, append-nil}
use Rattle.std.specs.Io.KnownBytes.{Appends, Keeps}
use Rattle.std.proofs.KnownBytes.{Appends-kept, Appends-nil, Appends-trans}
use Rattle.std.specs.List.{flat_map}
use Rattle.text.specs.Writing.{spaced, joined, AppendsPart, PassesOn, Writes, Puts}

pub passed-nil : (a : Option (List ℕ)) (held : List ℕ) → PassesOn a held [] a held
passed-nil a held = record { written = []; appended = Appends-nil a; split = append-nil held }

-- one text after another
pub passed-more : (a b c : Option (List ℕ)) (h i j x y : List ℕ) → PassesOn a h x b i
    → PassesOn b i y c j → PassesOn a h (x ++ y) c j
passed-more a b c h i j x y p q = record {
  written = p.written ++ q.written;
  appended = Appends-trans a b c p.written q.written p.appended q.appended;
  split = sym (append_assoc h x y) ∙ ap (λ z. z ++ y) p.split ∙ append_assoc p.written i y
      ∙ ap (λ z. p.written ++ z) q.split ∙ sym (append_assoc p.written q.written j);
}

-- what is put in comes out, once the block is written
pub passed_whole : (a b c : Option (List ℕ)) (h i x : List ℕ) → PassesOn a h x b i → Appends b c i
    → Appends a c (h ++ x)
passed_whole a b c h i x p q =
    subst (Appends a c) (sym p.split) (Appends-trans a b c p.written i p.appended q)

-- a beginning of a text is one of a longer text
pub part-more : (a b : Option (List ℕ)) (x y : List ℕ) → AppendsPart a b x
    → AppendsPart a b (x ++ y)
part-more a b x y p = (p.0, (p.1.0 ++ y, ap (λ z. z ++ y) p.1.1 ∙ append_assoc p.0 p.1.0 y), p.2)

pub part-after : (a b c : Option (List ℕ)) (w x : List ℕ) → Appends a b w → AppendsPart b c x
    → AppendsPart a c (w ++ x)
part-after a b c w x p q = (
  w ++ q.0,
  (q.1.0, ap (λ z. w ++ z) q.1.1 ∙ sym (append_assoc w q.0 q.1.0)),
  Appends-trans a b c w q.0 p q.2,
)

pub puts_directly : {T E : Type 0} (r : Result T E) (a b c : Option (List ℕ)) (h x : List ℕ)
    → Appends a b h → Writes r b x c → Puts r a h x c []
puts_directly (Ok v) a b c h x p q =
    record {
      written = h ++ x;
      appended = Appends-trans a b c h x p q;
      split = sym (append-nil (h ++ x));
    }
puts_directly (Err e) a b c h x p q = part-after a b c h x p q

-- one text after another, both straight to the writer
pub writes_next : {T E : Type 0} (r : Result T E) (a b c : Option (List ℕ)) (w x : List ℕ)
    → Appends a b w → Writes r b x c → Writes r a (w ++ x) c
writes_next (Ok v) a b c w x p q = Appends-trans a b c w x p q
writes_next (Err e) a b c w x p q = part-after a b c w x p q

-- whatever comes of a flush, the writer has what was written before it
pub writes_kept : {T E : Type 0} (r : Result T E) (a b c : Option (List ℕ)) (x : List ℕ)
    → Appends a b x → Keeps b c → Writes r a x c
writes_kept (Ok v) a b c x p k = Appends-kept a b c x p k
writes_kept (Err e) a b c x p k = (x, ([], sym (append-nil x)), Appends-kept a b c x p k)

pub part-kept : (a b c : Option (List ℕ)) (x : List ℕ) → AppendsPart a b x → Keeps b c
    → AppendsPart a c x
part-kept a b c x p k = (p.0, p.1, Appends-kept a b c p.0 p.2 k)

pub writes_as : {T E : Type 0} (r : Result T E) (a b : Option (List ℕ)) {x y : List ℕ} → x ≡ y
    → Writes r a x b → Writes r a y b
writes_as r a b e p = subst (λ z. Writes r a z b) e p

pub writes-part : {T E : Type 0} (r : Result T E) (a b : Option (List ℕ)) (x : List ℕ)
    → Writes r a x b → OnErr r (AppendsPart a b x)
writes-part (Ok v) a b x p = tt
writes-part (Err e) a b x p = p

-- a fault while the block was written
pub passed_part : (a b c : Option (List ℕ)) (h i x : List ℕ) → PassesOn a h x b i
    → AppendsPart b c i → AppendsPart a c (h ++ x)
passed_part a b c h i x p q =
    subst (AppendsPart a c) (sym p.split) (part-after a b c p.written i p.appended q)

-- a fault in a further text
pub passed_part-more : (a b c : Option (List ℕ)) (h i x y : List ℕ) → PassesOn a h x b i
    → AppendsPart b c (i ++ y) → AppendsPart a c (h ++ (x ++ y))
passed_part-more a b c h i x y p q =
    let e : h ++ (x ++ y) ≡ p.written ++ (i ++ y) = sym (append_assoc h x y)
    ∙ ap (λ z. z ++ y) p.split ∙ append_assoc p.written i y in
    subst (AppendsPart a c) (sym e) (part-after a b c p.written (i ++ y) p.appended q)

-- one text after another, where the last one may fail
pub puts_after : {T E : Type 0} (r : Result T E) (a b c : Option (List ℕ)) (h i j x y : List ℕ)
    → PassesOn a h x b i → Puts r b i y c j → Puts r a h (x ++ y) c j
puts_after (Ok v) a b c h i j x y p q = passed-more a b c h i j x y p q
puts_after (Err e) a b c h i j x y p q = passed_part-more a b c h i x y p q

-- the block is written at the end
pub writes_after : {T E : Type 0} (r : Result T E) (a b c : Option (List ℕ)) (h i x : List ℕ)
    → PassesOn a h x b i → Writes r b i c → Writes r a (h ++ x) c
writes_after (Ok v) a b c h i x p q = passed_whole a b c h i x p q
writes_after (Err e) a b c h i x p q = passed_part a b c h i x p q

-- a fault in the text after x, where the whole text goes on
pub passed_fault : (a b c : Option (List ℕ)) (h i x y rest all : List ℕ) → PassesOn a h x b i
    → AppendsPart b c (i ++ y) → all ≡ x ++ (y ++ rest) → AppendsPart a c (h ++ all)
passed_fault a b c h i x y rest all p q e =
    let longer : AppendsPart b c (i ++ (y ++ rest)) =
    subst (AppendsPart b c) (append_assoc i y rest) (part-more b c (i ++ y) rest q) in
    subst (λ z. AppendsPart a c (h ++ z)) (sym e)
    (passed_part-more a b c h i x (y ++ rest) p longer)

pub first_fault : (a b : Option (List ℕ)) (h x rest all : List ℕ) → AppendsPart a b (h ++ x)
    → all ≡ x ++ rest → AppendsPart a b (h ++ all)
first_fault a b h x rest all p e =
    subst (λ z. AppendsPart a b (h ++ z)) (sym e) (subst (AppendsPart a b) (append_assoc h x rest)
    (part-more a b (h ++ x) rest p))

-- tokens with a last one
pub spaced-joined : (ts : List (List ℕ)) → spaced ts ≡ joined ts ++ 10 ∷ []
spaced-joined [] = refl
spaced-joined (t ∷ []) = refl
spaced-joined (t ∷ u ∷ ts) = ap (λ x. t ++ 32 ∷ x) (spaced-joined (u ∷ ts))
    ∙ sym (append_assoc t (32 ∷ joined (u ∷ ts)) (10 ∷ []))

pub joined-last : (ts : List (List ℕ)) (u : List ℕ)
    → joined (ts ++ u ∷ []) ≡ flat_map (λ t. t ++ 32 ∷ []) ts ++ u
joined-last [] u = refl
joined-last (t ∷ []) u = sym (append_assoc t (32 ∷ []) u)
    ∙ ap (λ x. x ++ u) (sym (append-nil (t ++ 32 ∷ [])))
joined-last (t ∷ v ∷ ts) u =
    ap (λ x. t ++ 32 ∷ x) (joined-last (v ∷ ts) u)
    ∙ sym (append_assoc t (32 ∷ []) (flat_map (λ x. x ++ 32 ∷ []) (v ∷ ts) ++ u))
    ∙ sym (append_assoc (t ++ 32 ∷ []) (flat_map (λ x. x ++ 32 ∷ []) (v ∷ ts)) u)

pub spaced-last : (ts : List (List ℕ)) (u : List ℕ)
    → spaced (ts ++ u ∷ []) ≡ flat_map (λ t. t ++ 32 ∷ []) ts ++ (u ++ 10 ∷ [])
spaced-last ts u = spaced-joined (ts ++ u ∷ [])
    ∙ ap (λ x. x ++ 10 ∷ []) (joined-last ts u)
    ∙ append_assoc (flat_map (λ t. t ++ 32 ∷ []) ts) u (10 ∷ [])
