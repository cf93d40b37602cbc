-- Two lists that are read as a list of attachments.
use Rattle.std.proofs.Common.{◌≡◌, ◌≢◌, ℕ, zero, suc, false, ◌<◌, ◌≤◌, ◌+◌, ◌-◌, List, [], ◌∷◌}
use Rattle.std.proofs.Common.{◌++◌, length, get_or, set, take, replicate, refl, ap, ◌∙◌, sym, arith}
use Rattle.std.proofs.Common.{inl, inr}
use Rattle.std.proofs.lemmas.List.{get_or_past, take_all}
use Rattle.cnf.specs.Literal.{Literal}
use Rattle.clauses.proofs.Laws.{length-zipped, get_or-zipped, zipped-append, zipped-replicate}
use Rattle.clauses.proofs.Laws.{zipped-set_first}
use Rattle.propagate_watches.specs.declared.table.Attachment.{Attachment}
use Rattle.propagate_watches.specs.declared.table.Tag.{Tag}
use Rattle.propagate_watches.specs.declared.table.Tag.TheVariants.{Detached, Waiting, Satisfied}
use Rattle.propagate_watches.specs.declared.table.Tag.TheVariants.{Watching}
use Rattle.propagate_watches.specs.declared.table.Pair.{Pair}
use Rattle.propagate_watches.specs.declared.table.Rest.TheVariants.{Many}
use Rattle.propagate_watches.specs.Table.{attachment_in, rest_in, IsWatching, IsWatchedBy}
use Rattle.propagate_watches.specs.TableLayout.{attachment_of, attachments}

pub attachments_past : (ks : List Tag) (ps : List Pair) (r : ℕ) → length ps ≡ length ks
    → length ks ≤ r → Attachment.Detached ≡ attachment_in (attachments ks ps) r
attachments_past ks ps r h le =
    sym (get_or_past (attachments ks ps) r Attachment.Detached
    (omega (arith, length-zipped attachment_of ks ps h)))

any_pair : Pair
any_pair =
    record {
      one = record { variable = 0; negated = false };
      other = record { variable = 0; negated = false };
      rest = Many;
    }

-- a place without literals, as it is read
pub attachments_tag : (ks : List Tag) (ps : List Pair) (r : ℕ) (x k : Tag) (P : Attachment)
    → length ps ≡ length ks → r < length ks → x ≡ get_or ks r x → x ≡ k
    → ((p : Pair) → attachment_of k p ≡ P) → P ≡ attachment_in (attachments ks ps) r
attachments_tag ks ps r x k P h l at is of =
    sym (get_or-zipped attachment_of ks ps r Attachment.Detached x any_pair h l
    ∙ ap (λ z. attachment_of z (get_or ps r any_pair)) (sym at ∙ is)
    ∙ of (get_or ps r any_pair))

-- a place of the table is one of both lists
pub place_within : (ks : List Tag) (ps : List Pair) (table : List Attachment) (r : ℕ)
    → length ps ≡ length ks → attachments ks ps ≡ table → r < length table
    → (r < length ks) × (r < length ps)
place_within ks ps table r h is lt =
    let long = length-zipped attachment_of ks ps h in
    (omega (arith, lt, ap length is, long), omega (arith, lt, ap length is, long, h))

-- a place without literals, as it is written
pub attachments_set_tag : (ks : List Tag) (ps : List Pair) (table : List Attachment) (r : ℕ)
    (k : Tag) (P : Attachment) → ((p : Pair) → attachment_of k p ≡ P) → attachments ks ps ≡ table
    → attachments (set ks r k) ps ≡ set table r P
attachments_set_tag ks ps table r k P of is =
    zipped-set_first attachment_of ks ps r k P of ∙ ap (λ t. set t r P) is

-- a place with literals, as it is read
pub attachments_pair : (ks : List Tag) (ps : List Pair) (r : ℕ) (x : Tag) (p : Pair)
    → length ps ≡ length ks → r < length ks → x ≡ get_or ks r x → x ≡ Watching → p ≡ get_or ps r p
    → Attachment.Watching p.one p.other p.rest ≡ attachment_in (attachments ks ps) r
attachments_pair ks ps r x p h l at is pair =
    sym (get_or-zipped attachment_of ks ps r Attachment.Detached x p h l
    ∙ ap (λ z. attachment_of z (get_or ps r p)) (sym at ∙ is)
    ∙ ap (attachment_of Watching) (sym pair))

pub watching_within : (ks : List Tag) (ps : List Pair) (r : ℕ) (a b : Literal)
    → IsWatching (attachment_in (attachments ks ps) r) a b → (r < length ks) × (r < length ps)
watching_within [] ps r a b e = absurd (cc)
watching_within (k ∷ ks) [] r a b e = absurd (cc)
watching_within (k ∷ ks) (p ∷ ps) zero a b e = (omega arith, omega arith)
watching_within (k ∷ ks) (p ∷ ps) (suc r) a b e = let w = watching_within ks ps r a b e in
    (omega (arith, w.0), omega (arith, w.1))

pair_here : (k : Tag) (p : Pair) (a b : Literal) → IsWatching (attachment_of k p) a b
    → (k ≡ Watching) × ((p.one ≡ a) × (p.other ≡ b))
pair_here Detached p a b e = absurd (cc)
pair_here Waiting p a b e = absurd (cc)
pair_here Satisfied p a b e = absurd (cc)
pair_here Watching p a b e = (refl, (cc e, cc e))

-- the pair of a clause that watches two literals
pub watching_pair : (ks : List Tag) (ps : List Pair) (r : ℕ) (p : Pair) (a b : Literal)
    → p ≡ get_or ps r p → IsWatching (attachment_in (attachments ks ps) r) a b
    → (p.one ≡ a) × (p.other ≡ b)
watching_pair [] ps r p a b at e = absurd (cc)
watching_pair (k ∷ ks) [] r p a b at e = absurd (cc)
watching_pair (k ∷ ks) (q ∷ ps) zero p a b at e = let h = pair_here k q a b e in
    (ap (λ (x : Pair). x.one) at ∙ h.1.0, ap (λ (x : Pair). x.other) at ∙ h.1.1)
watching_pair (k ∷ ks) (q ∷ ps) (suc r) p a b at e = watching_pair ks ps r p a b at e

pub attachments_set_pair : (ks : List Tag) (ps : List Pair) (r : ℕ) (p : Pair) (a b : Literal)
    → IsWatching (attachment_in (attachments ks ps) r) a b
    → attachments ks (set ps r p) ≡ set (attachments ks ps) r
    (Attachment.Watching p.one p.other p.rest)
attachments_set_pair [] ps r p a b e = refl
attachments_set_pair (x ∷ ks) [] zero p a b e = refl
attachments_set_pair (x ∷ ks) [] (suc r) p a b e = refl
attachments_set_pair (x ∷ ks) (y ∷ ps) zero p a b e = let h = pair_here x y a b e in
    ap (λ z. attachment_of z p ∷ attachments ks ps) h.0
attachments_set_pair (x ∷ ks) (y ∷ ps) (suc r) p a b e =
    ap (λ zs. attachment_of x y ∷ zs) (attachments_set_pair ks ps r p a b e)

-- both lists grow by n
pub attachments_grow : (ks : List Tag) (ps : List Pair) (n : ℕ) (k : Tag) (p : Pair)
    → length ps ≡ length ks → attachments (ks ++ replicate n k) (ps ++ replicate n p)
    ≡ attachments ks ps ++ replicate n (attachment_of k p)
attachments_grow ks ps n k p h = zipped-append attachment_of ks (replicate n k) ps (replicate n p) h
    ∙ ap (λ zs. attachments ks ps ++ zs) (zipped-replicate attachment_of n k p)

rest_here : (k : Tag) (p : Pair) → k ≡ Watching → p.rest ≡ rest_in (attachment_of k p)
rest_here k p e = sym (ap (λ z. rest_in (attachment_of z p)) e)

-- what a clause that watches two literals has beside them
pub watching_rest : (ks : List Tag) (ps : List Pair) (r : ℕ) (p : Pair) (a b : Literal)
    → p ≡ get_or ps r p → IsWatching (attachment_in (attachments ks ps) r) a b
    → p.rest ≡ rest_in (attachment_in (attachments ks ps) r)
watching_rest [] ps r p a b at e = absurd (cc)
watching_rest (k ∷ ks) [] r p a b at e = absurd (cc)
watching_rest (k ∷ ks) (q ∷ ps) zero p a b at e = let h = pair_here k q a b e in
    ap (λ (x : Pair). x.rest) at ∙ rest_here k q h.0
watching_rest (k ∷ ks) (q ∷ ps) (suc r) p a b at e = watching_rest ks ps r p a b at e

pub watched_rest : (ks : List Tag) (ps : List Pair) (r : ℕ) (p : Pair) (w o : Literal)
    → p ≡ get_or ps r p → IsWatchedBy (attachment_in (attachments ks ps) r) w o
    → p.rest ≡ rest_in (attachment_in (attachments ks ps) r)
watched_rest ks ps r p w o at h =
    elim h [ inl f ↦ watching_rest ks ps r p w o at f | inr f ↦ watching_rest ks ps r p o w at f ]

pub watched_within : (ks : List Tag) (ps : List Pair) (r : ℕ) (w o : Literal)
    → IsWatchedBy (attachment_in (attachments ks ps) r) w o → r < length ps
watched_within ks ps r w o h =
    elim h [ inl f ↦ (watching_within ks ps r w o f).1 | inr f ↦ (watching_within ks ps r o w f).1 ]

-- the literal beside a watched one
pub beside_one : (ks : List Tag) (ps : List Pair) (r : ℕ) (p : Pair) (w o : Literal)
    → p ≡ get_or ps r p → IsWatchedBy (attachment_in (attachments ks ps) r) w o → p.one ≡ w
    → IsWatchedBy (attachment_in (attachments ks ps) r) w p.other
beside_one ks ps r p w o at h e = elim h [
  | inl f ↦ let q = watching_pair ks ps r p w o at f in
      inl (f ∙ ap (λ x. Attachment.Watching w x (rest_in (attachment_in (attachments ks ps) r)))
      (sym q.1))
  | inr f ↦ let q = watching_pair ks ps r p o w at f in
      inl (f ∙ ap (λ x. Attachment.Watching x w (rest_in (attachment_in (attachments ks ps) r)))
      (sym q.0 ∙ e) ∙ ap (λ x. Attachment.Watching w x
      (rest_in (attachment_in (attachments ks ps) r))) (sym q.1))
]

pub beside_other : (ks : List Tag) (ps : List Pair) (r : ℕ) (p : Pair) (w o : Literal)
    → p ≡ get_or ps r p → IsWatchedBy (attachment_in (attachments ks ps) r) w o → p.one ≢ w
    → IsWatchedBy (attachment_in (attachments ks ps) r) w p.one
beside_other ks ps r p w o at h ne = elim h [
  | inl f ↦ absurd (ne (watching_pair ks ps r p w o at f).0)
  | inr f ↦ let q = watching_pair ks ps r p o w at f in
      inr (f ∙ ap (λ x. Attachment.Watching x w (rest_in (attachment_in (attachments ks ps) r)))
      (sym q.0))
]

-- what a resize to one past r adds
pub grown_by : {X : Type 0} (xs : List X) (n r l k : ℕ) (x : X) → n ≡ r → k ≡ r + 1 - l
    → length xs ≤ r → take (n + 1) xs ++ replicate k x ≡ xs ++ replicate (r + 1 - l) x
grown_by xs n r l k x e f h = rw (take_all (n + 1) xs (omega arith), f) refl
