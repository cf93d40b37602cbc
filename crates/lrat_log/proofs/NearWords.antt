-- The heads of lines in words.
use Rattle.std.proofs.Common.{◌≡◌, ℕ, zero, suc, ◌+◌, ◌*◌, ◌-◌, ◌/◌, ◌%◌, ◌^◌, ◌<◌, ◌≤◌, List, []}
use Rattle.std.proofs.Common.{◌∷◌, ◌++◌, length, map, get_or, refl, sym, ◌∙◌, ap, arith, add-zero}
use Rattle.std.proofs.Common.{Some, length-append}
use Rattle.std.specs.Prelude.{slice_get}
use Rattle.std.proofs.lemmas.List.{get_or_append_left, get_or_read, get_or-map, length-map}
use Rattle.std.proofs.lemmas.Option.{slice_get_read}
use Rattle.std.proofs.Math.Seq.{get_or-append_seam}
use Rattle.lrat_log.specs.declared.heads.FarHead.{FarHead}
use Rattle.lrat_log.specs.declared.heads.LineHead.{LineHead}
use Rattle.lrat_log.specs.declared.lines.Kind.{Kind}
use Rattle.lrat_log.specs.declared.lines.Kind.TheVariants.{Learned, Unit, Resolvent, Definition}
use Rattle.lrat_log.specs.declared.lines.Kind.TheVariants.{Weaker, Delete, Empty, Axiom}
use Rattle.lrat_log.specs.Heads.{Ends, base_at, near_head, near_heads, far_head}
use Rattle.lrat_log.specs.Heads.{kind_at, number_of}
use Rattle.lrat_log.proofs.Parts.{Stands, stands_first, stands_last}

pub length-near_heads : (i : ℕ) (bs : List Ends) (ws : List ℕ)
    → length (near_heads i bs ws) ≡ length ws
length-near_heads i bs [] = refl
length-near_heads i bs (w ∷ ws) = ap suc (length-near_heads (suc i) bs ws)

near_heads-at : (i : ℕ) (bs : List Ends) (ws : List ℕ) (k : ℕ) (d : LineHead) → k < length ws
    → get_or (near_heads i bs ws) k d ≡ near_head (base_at bs (i + k)) (get_or ws k 0)
near_heads-at i bs [] k d lt = absurd (omega arith)
near_heads-at i bs (w ∷ ws) zero d lt =
    ap (λ n. near_head (base_at bs n) w) (sym (add-zero i))
near_heads-at i bs (w ∷ ws) (suc k) d lt =
    let e : suc i + k ≡ i + suc k = omega arith in
    near_heads-at (suc i) bs ws k d (omega arith)
    ∙ ap (λ n. near_head (base_at bs n) (get_or ws k 0)) e

near_heads-push : (i : ℕ) (bs : List Ends) (ws : List ℕ) (w : ℕ)
    → near_heads i bs (ws ++ w ∷ [])
    ≡ near_heads i bs ws ++ near_head (base_at bs (i + length ws)) w ∷ []
near_heads-push i bs [] w = ap (λ n. near_head (base_at bs n) w ∷ []) (sym (add-zero i))
near_heads-push i bs (x ∷ ws) w =
    let e : suc i + length ws ≡ i + suc (length ws) = omega arith in
    ap (λ hs. near_head (base_at bs i) x ∷ hs) (near_heads-push (suc i) bs ws w
    ∙ ap (λ n. near_heads (suc i) bs ws ++ near_head (base_at bs n) w ∷ []) e)

base_at-more : (bs more : List Ends) (i : ℕ) → i < 32 * length bs
    → base_at (bs ++ more) i ≡ base_at bs i
base_at-more bs more i lt =
    get_or_append_left bs more (record { lits = 0; hints = 0 }) (i / 32) (omega arith)

near_heads-more : (i : ℕ) (bs more : List Ends) (ws : List ℕ) → i + length ws ≤ 32 * length bs
    → near_heads i (bs ++ more) ws ≡ near_heads i bs ws
near_heads-more i bs more [] le = refl
near_heads-more i bs more (w ∷ ws) le =
    ap (λ b. near_head b w ∷ near_heads (suc i) (bs ++ more) ws)
    (base_at-more bs more i (omega arith))
    ∙ ap (λ hs. near_head (base_at bs i) w ∷ hs)
    (near_heads-more (suc i) bs more ws (omega arith))

-- heads are the same where their fields are
pub same_head : (a b : LineHead) → a.kind ≡ b.kind → a.lits_end ≡ b.lits_end
    → a.hints_end ≡ b.hints_end → a ≡ b
same_head a b p q r =
    ap (λ k. record { kind = k; lits_end = a.lits_end; hints_end = a.hints_end }) p
    ∙ ap (λ n. record { kind = b.kind; lits_end = n; hints_end = a.hints_end }) q
    ∙ ap (λ n. record { kind = b.kind; lits_end = b.lits_end; hints_end = n }) r

kind_at-number_of : (k : Kind) → kind_at (number_of k) ≡ k
kind_at-number_of Learned = refl
kind_at-number_of Unit = refl
kind_at-number_of Resolvent = refl
kind_at-number_of Definition = refl
kind_at-number_of Weaker = refl
kind_at-number_of Delete = refl
kind_at-number_of Empty = refl
kind_at-number_of Axiom = refl

module _ (bs : List Ends) (ws : List ℕ) (h : LineHead) where
  -- a line that begins a block
  pub block_begun : (n : ℕ) → length ws ≡ 32 * length bs → n ≡ number_of h.kind → n < 8
      → near_heads 0 (bs ++ record { lits = h.lits_end; hints = h.hints_end } ∷ []) (ws ++ n ∷ [])
      ≡ near_heads 0 bs ws ++ h ∷ []
  block_begun n full is small =
      let base : Ends = record { lits = h.lits_end; hints = h.hints_end } in
      let k : (0 + length ws) / 32 ≡ length bs = omega arith in
      let at : base_at (bs ++ base ∷ []) (0 + length ws) ≡ base =
      rw k (get_or-append_seam bs base [] (record { lits = 0; hints = 0 })) in
      let m : n % 2 ^ 3 ≡ n = omega arith in
      let e : near_head base n ≡ h =
      same_head (near_head base n) h
      (ap kind_at (m ∙ is) ∙ kind_at-number_of h.kind) (omega arith) (omega arith) in
      near_heads-push 0 (bs ++ base ∷ []) ws n
      ∙ ap (λ hs. hs ++ near_head (base_at (bs ++ base ∷ []) (0 + length ws)) n ∷ [])
      (near_heads-more 0 bs (base ∷ []) ws (omega arith))
      ∙ ap (λ b. near_heads 0 bs ws ++ near_head b n ∷ []) at
      ∙ ap (λ x. near_heads 0 bs ws ++ x ∷ []) e

  -- a line more in a block
  pub block_more : (base : Ends) (w : ℕ) → length ws < 32 * length bs
      → base ≡ get_or bs (length ws / 32) base → near_head base w ≡ h
      → near_heads 0 bs (ws ++ w ∷ []) ≡ near_heads 0 bs ws ++ h ∷ []
  block_more base w room is e =
      let k : (0 + length ws) / 32 ≡ length ws / 32 = omega arith in
      let at : base_at bs (0 + length ws) ≡ base =
      rw k (sym (get_or_read bs (length ws / 32) base (omega arith) is
      (record { lits = 0; hints = 0 }))) in
      near_heads-push 0 bs ws w
      ∙ ap (λ b. near_heads 0 bs ws ++ near_head b w ∷ []) at
      ∙ ap (λ x. near_heads 0 bs ws ++ x ∷ []) e

-- the head in a place
module _ (bs : List Ends) (ws : List ℕ) (fs : List FarHead) (whole : List LineHead)
    (joined : near_heads 0 bs ws ++ map far_head fs ≡ whole) where
  pub lengths : length ws + length fs ≡ length whole
  lengths = let n = length-near_heads 0 bs ws in
      let m = length-append (near_heads 0 bs ws) (map far_head fs) in
      omega (arith, ap length joined, length-map fs far_head)

  pub near_at : (k : ℕ) (base : Ends) (w : ℕ) → k < length ws → length ws ≤ 32 * length bs
      → base ≡ get_or bs (k / 32) base → w ≡ get_or ws k w
      → slice_get whole k ≡ Some (near_head base w)
  near_at k base w lt le b is =
      let n = length-near_heads 0 bs ws in
      let j : (0 + k) / 32 ≡ k / 32 = omega arith in
      let at : base_at bs (0 + k) ≡ base =
      rw j (sym (get_or_read bs (k / 32) base (omega arith) b (record { lits = 0; hints = 0 }))) in
      let x = near_head base w in
      let e : x ≡ get_or (near_heads 0 bs ws) k x =
      sym (near_heads-at 0 bs ws k x lt
      ∙ ap (λ c. near_head c (get_or ws k 0)) at
      ∙ ap (near_head base) (sym (get_or_read ws k w lt is 0))) in
      let s =
      stands_first (near_heads 0 bs ws) (map far_head fs) whole joined k x (omega arith) e in
      slice_get_read whole (length whole) k x refl s.within s.here

  pub far_at : (k : ℕ) (f : FarHead) → length ws ≤ k → k < length whole
      → f ≡ get_or fs (k - length ws) f → slice_get whole k ≡ Some (far_head f)
  far_at k f le lt is =
      let n = lengths in
      let m = length-map fs far_head in
      let i = k - length ws in
      let e : far_head f ≡ get_or (map far_head fs) i (far_head f) =
      ap far_head is ∙ sym (get_or-map far_head fs i f (far_head f) (omega arith)) in
      let s = stands_last (near_heads 0 bs ws) (map far_head fs) whole joined i (far_head f)
      (omega arith) e in
      let j : length whole - length (map far_head fs) + i ≡ k = omega arith in
      let t : Stands whole k (far_head f) = rw j at s in
      slice_get_read whole (length whole) k (far_head f) refl t.within t.here
