-- Lines that are read together: a line more, and those before it.
use Rattle.std.proofs.Common.{◌≡◌, ℕ, ◌+◌, ◌<◌, ◌≤◌, Bool, List, [], ◌∷◌, ◌++◌, length}
use Rattle.std.proofs.Common.{take, drop, refl, sym, ◌∙◌, ap, subst, arith, append_assoc}
use Rattle.std.proofs.Common.{slice_range, get_or, false}
use Rattle.std.proofs.lemmas.List.{take-append-drop, length-append, length-drop, length-take-le}
use Rattle.std.proofs.lemmas.List.{drop_more, get_or-map, length-map, map-append}
use Rattle.cnf.proofs.Laws.{range-append}
use Rattle.std.proofs.Math.Seq.{take-append_seam}
use Rattle.cnf.specs.Literal.{Literal}
use Rattle.lrat_read.specs.Batch.{IsFirstRead, AreRead}
use Rattle.lrat_read.specs.declared.plain.LineSpan.{LineSpan}
use Rattle.lrat_read.specs.Plain.{line_in, lines_in, IsSpanWithin, AreSpansWithin}
use Rattle.lrat_read.specs.declared.line.ReadLine.{ReadLine}

-- a line behind the lines so far
pub are_read-last : (bytes : List ℕ) (rs : List ReadLine) (more : List ℕ) (r : ReadLine)
    → AreRead bytes rs → IsFirstRead more r [] → AreRead (bytes ++ more) (rs ++ r ∷ [])
are_read-last bytes [] more r e f =
    ([], subst (λ b. IsFirstRead (b ++ more) r []) (sym e) f, refl)
are_read-last bytes (x ∷ rs) more r (left, g, h) f = (
  left ++ more,
  record {
    line = g.line;
    split = ap (λ b. b ++ more) g.split ∙ append_assoc g.line (10 ∷ left) more;
    no_feed = g.no_feed;
    read = g.read;
  },
  are_read-last left rs more r h f,
)

-- a line of the text up to a place more
pub are_read-next : (text : List ℕ) (at end : ℕ) (rs : List ReadLine) (r : ReadLine)
    → at ≤ length text → end ≤ length text → AreRead (take at text) rs
    → IsFirstRead (drop at text) r (drop end text) → AreRead (take end text) (rs ++ r ∷ [])
are_read-next text at end rs r short within h f =
    subst (λ b. AreRead b (rs ++ r ∷ [])) (sym front)
    (are_read-last (take at text) rs own r h (record {
      line = f.line;
      split = refl;
      no_feed = f.no_feed;
      read = f.read;
    }))
  where
    own : List ℕ
    own = f.line ++ 10 ∷ []

    whole : text ≡ (take at text ++ own) ++ drop end text
    whole = sym (take-append-drop at text) ∙ ap (λ x. take at text ++ x) f.split
        ∙ regroup (take at text) f.line (drop end text)
      where
        regroup : (a l d : List ℕ) → a ++ (l ++ 10 ∷ d) ≡ (a ++ (l ++ 10 ∷ [])) ++ d
        regroup a l d = simp append_assoc

    count : length (take at text ++ own) ≡ end
    count =
        let all : length text ≡ length (take at text ++ own) + length (drop end text) =
        ap length whole ∙ length-append (take at text ++ own) (drop end text) in
        omega (arith, all, length-drop end text, within)

    front : take end text ≡ take at text ++ own
    front = ap (λ n. take n text) (sym count)
        ∙ ap (take (length (take at text ++ own))) whole
        ∙ take-append_seam (take at text ++ own) (drop end text)

-- what stands before a place of a buffer stays
range_before : {X : Type 0} (xs : List X) (used start end : ℕ) → start ≤ end → end ≤ used
    → used ≤ length xs → slice_range xs start end ≡ slice_range (take used xs) start end
range_before xs used start end order within room =
    let count : length (take used xs) ≡ used = length-take-le used xs room in
    ap (λ ys. slice_range ys start end) (sym (take-append-drop used xs))
    ∙ range-append (take used xs) (drop used xs) start end order (omega (arith, within, count))

pub range_kept : {X : Type 0} (new old : List X) (used start end : ℕ) → start ≤ end → end ≤ used
    → used ≤ length new → used ≤ length old → take used new ≡ take used old
    → slice_range new start end ≡ slice_range old start end
range_kept new old used start end order within room room' e =
    range_before new used start end order within room
    ∙ ap (λ xs. slice_range xs start end) e
    ∙ sym (range_before old used start end order within room')

pub lines_kept : (lits lits' : List Literal) (hints hints' : List (Bool × ℕ)) (ul uh : ℕ)
    (ss : List LineSpan) → AreSpansWithin ul uh ss → ul ≤ length lits → uh ≤ length hints
    → length lits' ≡ length lits → length hints' ≡ length hints → take ul lits' ≡ take ul lits
    → take uh hints' ≡ take uh hints → lines_in lits' hints' ss ≡ lines_in lits hints ss
lines_kept lits lits' hints hints' ul uh [] h rl rh nl nh e f = refl
lines_kept lits lits' hints hints' ul uh (s ∷ ss) (w, h) rl rh nl nh e f =
    ap (λ (x : ReadLine). x ∷ lines_in lits' hints' ss) same
    ∙ ap (λ xs. line_in lits hints s ∷ xs)
    (lines_kept lits lits' hints hints' ul uh ss h rl rh nl nh e f)
  where
    same : line_in lits' hints' s ≡ line_in lits hints s
    same =
        ap (λ c. record {
          form = s.form;
          line = record {
            id = s.id;
            clause = c;
            is_large = false;
            hints = slice_range hints' s.hints_start s.hints_end;
          };
        }) (range_kept lits' lits ul s.lits_start s.lits_end w.lits_order w.lits
        (omega (arith, rl, nl)) rl e)
        ∙ ap (λ c. record {
          form = s.form;
          line = record {
            id = s.id;
            clause = slice_range lits s.lits_start s.lits_end;
            is_large = false;
            hints = c;
          };
        }) (range_kept hints' hints uh s.hints_start s.hints_end w.hints_order w.hints
        (omega (arith, rh, nh)) rh f)

-- a span lies before greater places too
span_wider : (a b a' b' : ℕ) (s : LineSpan) → a ≤ a' → b ≤ b' → IsSpanWithin a b s
    → IsSpanWithin a' b' s
span_wider a b a' b' s h k w = record {
  lits_order = w.lits_order;
  lits = omega (arith, w.lits, h);
  hints_order = w.hints_order;
  hints = omega (arith, w.hints, k);
  small = w.small;
}

pub spans_wider : (a b a' b' : ℕ) (ss : List LineSpan) → a ≤ a' → b ≤ b' → AreSpansWithin a b ss
    → AreSpansWithin a' b' ss
spans_wider a b a' b' [] h k w = tt
spans_wider a b a' b' (s ∷ ss) h k (v, w) =
    (span_wider a b a' b' s h k v, spans_wider a b a' b' ss h k w)

pub spans_more : (a b a' b' : ℕ) (ss : List LineSpan) (s : LineSpan) → a ≤ a' → b ≤ b'
    → AreSpansWithin a b ss → IsSpanWithin a' b' s → AreSpansWithin a' b' (ss ++ s ∷ [])
spans_more a b a' b' [] s h k w v = (v, tt)
spans_more a b a' b' (x ∷ ss) s h k (u, w) v =
    (span_wider a b a' b' x h k u, spans_more a b a' b' ss s h k w v)

-- the line at a place
pub line_at : (lits : List Literal) (hints : List (Bool × ℕ)) (ss : List LineSpan) (place : ℕ)
    (none : LineSpan) → place < length ss
    → drop place (lines_in lits hints ss)
    ≡ line_in lits hints (get_or ss place none) ∷ drop (place + 1) (lines_in lits hints ss)
line_at lits hints ss place none h =
    let within : place < length (lines_in lits hints ss) =
    omega (arith, h, length-map ss (line_in lits hints)) in
    drop_more (lines_in lits hints ss) place (line_in lits hints none) within
    ∙ ap (λ (r : ReadLine). r ∷ drop (place + 1) (lines_in lits hints ss))
    (get_or-map (line_in lits hints) ss place none (line_in lits hints none) h)

pub lines_more : (lits lits' : List Literal) (hints hints' : List (Bool × ℕ)) (ul uh : ℕ)
    (ss : List LineSpan) (s : LineSpan) → AreSpansWithin ul uh ss → ul ≤ length lits
    → uh ≤ length hints
    → length lits' ≡ length lits → length hints' ≡ length hints → take ul lits' ≡ take ul lits
    → take uh hints' ≡ take uh hints
    → lines_in lits' hints' (ss ++ s ∷ []) ≡ lines_in lits hints ss ++ line_in lits' hints' s ∷ []
lines_more lits lits' hints hints' ul uh ss s h rl rh nl nh e f =
    map-append (line_in lits' hints') ss (s ∷ [])
    ∙ ap (λ xs. xs ++ line_in lits' hints' s ∷ [])
    (lines_kept lits lits' hints hints' ul uh ss h rl rh nl nh e f)

-- what a vector holds that is written back whole
pub written_back : {X : Type 0} (new old : List X) (n : ℕ) → n ≡ length new
    → take n (new ++ drop (length new) old) ≡ new
written_back new old n e = ap (λ m. take m (new ++ drop (length new) old)) e
    ∙ take-append_seam new (drop (length new) old)
