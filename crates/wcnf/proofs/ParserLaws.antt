-- A text in pieces: what holds after a line more, after a piece, and at the end.
use Rattle.std.proofs.Common.{◌≡◌, ℕ, ◌+◌, ◌<◌, List, [], ◌∷◌, ◌++◌, length, take, inl, inr}
use Rattle.std.proofs.Common.{◌⊎◌, refl, sym, ◌∙◌, ap, subst, append_assoc, append-nil, None, Some}
use Rattle.std.specs.Prelude.{◌==◌, Bool, false, Ok, Err, Option, Result, IfSome, IfOk, IfErr}
use Rattle.std.specs.List.{enumerate_from}
use Rattle.std.specs.Str.Lines.{lines, strip_carriage_return}
use Rattle.std.specs.Io.KnownBytes.{Consumes, IsAtEnd}
use Rattle.std.proofs.KnownBytes.{Consumes-trans, Consumes-whole}
use Rattle.text.specs.Text.{tokens_of, numbered_text, IsNoFeed}
use Rattle.text.specs.Pieces.{IsCut, HasTaken}
use Rattle.wcnf.specs.Wcnf.{Reads}
use Rattle.cnf.specs.Problem.{Problem}
use Rattle.wcnf.specs.Drafts.{Drafted, nothing_drafted, drafted_line}
use Rattle.wcnf.specs.Reading.{drafted_lines, IsFirstFault}
use Rattle.wcnf.specs.Parsing.{HasRead, Ends, NoMemory, IsFaultOf, IsLineFault, Refuses}
use Rattle.wcnf.specs.Parsing.{TellsFailure}
use Rattle.wcnf.specs.declared.faults.FaultKind.TheVariants.{Read}
use Rattle.wcnf.specs.declared.faults.ReadFault.{ReadFault}
use Rattle.wcnf.specs.declared.parser.Parser.{Parser}
use Rattle.text.proofs.Laws.{cut-ended, cut-kept, lines-ended, lines-rest, taken-whole}
use Rattle.wcnf.proofs.FromLines.{whole_fault}
use Rattle.wcnf.proofs.Texts.{reads_one}

abbrev IsOrdinary : ℕ → Type 0
IsOrdinary b = (b == 10) ≡ false

read_on : (d e : Drafted) (n : ℕ) (line : List ℕ) (more : List (ℕ × List ℕ))
    → drafted_line n d (tokens_of line) ≡ Ok e
    → drafted_lines e more ≡ drafted_lines d ((n, line) ∷ more)
read_on d e n line more h = rw h refl

-- a line more
module _ (p : Parser) (end line : List ℕ) (no_feed : IsNoFeed end)
    (same : line ≡ strip_carriage_return (p.rest ++ end)) (bytes : List ℕ)
    (s : HasRead p bytes) where
  regroup : (d r e more : List ℕ) → d ++ (r ++ (e ++ 10 ∷ more))
      ≡ ((d ++ r) ++ (e ++ 10 ∷ [])) ++ more
  regroup d r e more = simp append_assoc

  at_line : (more : List ℕ)
      → drafted_lines p.draft ((p.number, line) ∷ enumerate_from (p.number + 1) (lines more))
      ≡ drafted_lines nothing_drafted (numbered_text ((bytes ++ (end ++ 10 ∷ [])) ++ more))
  at_line more =
      ap (λ x. drafted_lines p.draft ((p.number, x) ∷ enumerate_from (p.number + 1) (lines more)))
      same
      ∙ ap (λ ls. drafted_lines p.draft (enumerate_from p.number ls))
      (sym (lines-ended p.rest end more (s.cut).unfinished no_feed))
      ∙ s.resumes (p.rest ++ (end ++ 10 ∷ more))
      ∙ ap (λ x. drafted_lines nothing_drafted (numbered_text x))
      (regroup s.done p.rest end more
      ∙ ap (λ x. (x ++ (end ++ 10 ∷ [])) ++ more) (sym (s.cut).split))

pub line_more : (old new : Parser) (end line : List ℕ) → IsNoFeed end
    → line ≡ strip_carriage_return (old.rest ++ end) → new.rest ≡ []
    → drafted_line old.number old.draft (tokens_of line) ≡ Ok new.draft
    → new.number ≡ old.number + 1 → (bytes : List ℕ) → HasRead old bytes
    → HasRead new (bytes ++ (end ++ 10 ∷ []))
line_more old new end line no_feed same empty read counted bytes s =
    let whole = bytes ++ (end ++ 10 ∷ []) in
    record {
      done = whole;
      cut = subst (IsCut whole whole) (sym empty) (cut-ended bytes (end ++ 10 ∷ []) (end, refl));
      resumes = λ more.
          ap (λ n. drafted_lines new.draft (enumerate_from n (lines more))) counted
          ∙ read_on old.draft new.draft old.number line
          (enumerate_from (old.number + 1) (lines more)) read
          ∙ at_line old end line no_feed same bytes s more;
    }

line_fault : (p : Parser) (end line : List ℕ) → IsNoFeed end
    → line ≡ strip_carriage_return (p.rest ++ end) → (f : ReadFault)
    → drafted_line p.number p.draft (tokens_of line) ≡ Err f.kind → f.line ≡ p.number
    → (bytes more : List ℕ) → HasRead p bytes
    → IsFirstFault (bytes ++ (end ++ 10 ∷ []) ++ more) f.kind f.line
line_fault p end line no_feed same f met here bytes more s =
    let text = bytes ++ (end ++ 10 ∷ []) ++ more in
    subst (λ n. IsFirstFault text f.kind n) (sym here)
    (whole_fault text p.draft p.number line (enumerate_from (p.number + 1) (lines more)) f.kind
    (at_line p end line no_feed same bytes s more) met)

pub line_refused : (p : Parser) (end line : List ℕ) → IsNoFeed end
    → line ≡ strip_carriage_return (p.rest ++ end) → (f : ReadFault)
    → IsLineFault p.draft p.number line f → Refuses p (end ++ 10 ∷ []) f
line_refused p end line no_feed same f (inl m) = inl m
line_refused p end line no_feed same f (inr e) = inr (line_fault p end line no_feed same f e.0 e.1)

-- a piece
kept_rest : (mid new : Parser) (left : List ℕ) → IsNoFeed left → new.draft ≡ mid.draft
    → new.number ≡ mid.number → new.rest ≡ mid.rest ++ left → (bytes : List ℕ)
    → HasRead mid bytes → HasRead new (bytes ++ left)
kept_rest mid new left no_feed draft number rest bytes m = record {
  done = m.done;
  cut = subst (IsCut (bytes ++ left) m.done) (sym rest)
      (cut-kept bytes m.done mid.rest left m.cut no_feed);
  resumes = λ more. ap (λ d. drafted_lines d (enumerate_from new.number (lines more))) draft
      ∙ ap (λ n. drafted_lines mid.draft (enumerate_from n (lines more))) number
      ∙ m.resumes more;
}

pub rest_kept : (old mid new : Parser) (piece left : List ℕ)
    → HasTaken (HasRead old) (HasRead mid) piece left → IsNoFeed left → new.draft ≡ mid.draft
    → new.number ≡ mid.number → new.rest ≡ mid.rest ++ left → (bytes : List ℕ)
    → HasRead old bytes → HasRead new (bytes ++ piece)
rest_kept old mid new piece left t no_feed draft number rest =
    taken-whole (HasRead old) (HasRead mid) (HasRead new) piece left t
    (kept_rest mid new left no_feed draft number rest)

pub refused_later : (old mid : Parser) (piece left text rest : List ℕ) (f : ReadFault)
    → HasTaken (HasRead old) (HasRead mid) piece left → left ≡ text ++ rest → Refuses mid text f
    → Refuses old piece f
refused_later old mid piece left text rest f t split (inl m) = inl m
refused_later old mid piece left text rest f t split (inr r) = inr (λ bytes more s.
    let all : piece ≡ t.taken ++ (text ++ rest) = t.split ∙ ap (λ x. t.taken ++ x) split in
    subst (λ x. IsFirstFault x f.kind f.line) (grouped bytes t.taken text rest more
    ∙ ap (λ x. bytes ++ x ++ more) (sym all))
    (r (bytes ++ t.taken) (rest ++ more) (t.holds bytes s)))
  where
    grouped : (b t l a m : List ℕ) → (b ++ t) ++ l ++ (a ++ m) ≡ b ++ (t ++ (l ++ a)) ++ m
    grouped b t l a m = simp append_assoc

-- the end
pub ends_empty : (p : Parser) (bytes : List ℕ) → p.rest ≡ [] → HasRead p bytes → Ends p.draft bytes
ends_empty p bytes empty s =
    s.resumes [] ∙ ap (λ x. drafted_lines nothing_drafted (numbered_text x))
    (ap (λ x. s.done ++ x) (sym empty) ∙ sym (s.cut).split)

module _ (p : Parser) (some : 0 < length p.rest) (bytes : List ℕ) (s : HasRead p bytes) where
  last_line : drafted_lines p.draft ((p.number, p.rest) ∷ [])
      ≡ drafted_lines nothing_drafted (numbered_text bytes)
  last_line =
      ap (λ ls. drafted_lines p.draft (enumerate_from p.number ls))
      (sym (lines-rest p.rest some (s.cut).unfinished))
      ∙ s.resumes p.rest
      ∙ ap (λ x. drafted_lines nothing_drafted (numbered_text x)) (sym (s.cut).split)

  pub ends_line : (d : Drafted) → drafted_line p.number p.draft (tokens_of p.rest) ≡ Ok d
      → Ends d bytes
  ends_line d h = read_on p.draft d p.number p.rest [] h ∙ last_line

  pub ends_refused : (f : ReadFault) → drafted_line p.number p.draft (tokens_of p.rest)
      ≡ Err f.kind → f.line ≡ p.number → IsFirstFault bytes f.kind f.line
  ends_refused f met here =
      subst (λ n. IsFirstFault bytes f.kind n) (sym here)
      (whole_fault bytes p.draft p.number p.rest [] f.kind last_line met)

-- a whole text
pub text_refused : (p : Parser) (text : List ℕ) (f : ReadFault) → HasRead p [] → Refuses p text f
    → NoMemory f ⊎ IsFirstFault text f.kind f.line
text_refused p text f s (inl m) = inl m
text_refused p text f s (inr r) =
    inr (subst (λ t. IsFirstFault t f.kind f.line) (append-nil text) (r [] [] s))

abbrev IsRefusedAtEnd : Parser → ReadFault → Type 0
IsRefusedAtEnd p f =
    NoMemory f ⊎ ((bytes : List ℕ) → HasRead p bytes → IsFirstFault bytes f.kind f.line)

pub end_refused : {X : Type 0} (p : Parser) (bytes : List ℕ) (r : Result X ReadFault)
    → HasRead p bytes → IfErr r (IsRefusedAtEnd p)
    → IfErr r (λ f. NoMemory f ⊎ IsFirstFault bytes f.kind f.line)
end_refused p bytes (Ok x) s h = tt
end_refused p bytes (Err f) s (inl m) = inl m
end_refused p bytes (Err f) s (inr g) = inr (g bytes s)

-- the reader's own fault, or one of the whole text, where that is known
abbrev IsRefusedReading : Option (List ℕ) → ReadFault → Type 0
IsRefusedReading known f = NoMemory f ⊎ (f ≡ record { kind = Read; line = 0 })
    ⊎ IfSome known (λ text. IsFirstFault text f.kind f.line)

-- the reader has failed, or this is a fault of the whole text
abbrev IsRefusedWatched : Bool → Option (List ℕ) → ReadFault → Type 0
IsRefusedWatched has_failed known f = NoMemory f ⊎ TellsFailure has_failed f ⊎ IsFaultOf known f

pub reading_refused : {X : Type 0} (has_failed : Bool) (known : Option (List ℕ))
    (r : Result X ReadFault) → IfErr r (IsRefusedWatched has_failed known)
    → IfErr r (IsRefusedReading known)
reading_refused has_failed known (Ok x) h = tt
reading_refused has_failed known (Err f) (inl m) = inl m
reading_refused has_failed known (Err f) (inr (inl t)) = inr (inl t.1)
reading_refused has_failed known (Err f) (inr (inr h)) = inr (inr h.all)

over_known : (a c : Option (List ℕ)) (bytes piece : List ℕ) (f : ReadFault)
    → Consumes a c (bytes ++ piece)
    → ((more : List ℕ) → IsFirstFault (bytes ++ piece ++ more) f.kind f.line)
    → IfSome a (λ text. IsFirstFault text f.kind f.line)
over_known None c bytes piece f p h = tt
over_known (Some x) None bytes piece f p h = absurd p
over_known (Some x) (Some y) bytes piece f p h =
    subst (λ t. IsFirstFault t f.kind f.line) (sym p) (h y)

pub piece_refused : (has_failed : Bool) (a b c : Option (List ℕ)) (bytes piece : List ℕ)
    (p : Parser) (f : ReadFault) → Consumes a b bytes → Consumes b c piece → HasRead p bytes
    → Refuses p piece f → IsRefusedWatched has_failed a f
piece_refused has_failed a b c bytes piece p f u v s (inl m) = inl m
piece_refused has_failed a b c bytes piece p f u v s (inr r) =
    inr (inr (record {
      text = bytes ++ piece ++ [];
      is = r bytes [] s;
      all = over_known a c bytes piece f (Consumes-trans a b c bytes piece u v)
          (λ more. r bytes more s);
    }))

pub reader_refused : {X : Type 0} (has_failed : Bool) (a c : Option (List ℕ)) (bytes : List ℕ)
    (p : Parser) (r : Result X ReadFault) → Consumes a c bytes → IsAtEnd c → HasRead p bytes
    → IfErr r (IsRefusedAtEnd p) → IfErr r (IsRefusedWatched has_failed a)
reader_refused has_failed a c bytes p (Ok x) u e s h = tt
reader_refused has_failed a c bytes p (Err f) u e s (inl m) = inl m
reader_refused has_failed a c bytes p (Err f) u e s (inr g) =
    inr (inr (record {
      text = bytes;
      is = g bytes s;
      all = Consumes-whole a c bytes (λ t. IsFirstFault t f.kind f.line) u e (g bytes s);
    }))

-- what is told at the end is told there
pub told_at_end : {X : Type 0} (c : Option (List ℕ)) (r : Result X ReadFault) → IsAtEnd c
    → IfErr r (λ f. (f ≡ record { kind = Read; line = 0 }) ⊎ IsAtEnd c)
told_at_end c (Ok x) e = tt
told_at_end c (Err f) e = inr e

pub reader_read : (a c : Option (List ℕ)) (bytes : List ℕ) (p : Parser)
    (r : Result Problem ReadFault) → Consumes a c bytes → IsAtEnd c → HasRead p bytes
    → IfOk r (λ i. (bytes : List ℕ) → HasRead p bytes → Reads bytes i)
    → IfOk r (λ i. IfSome a (λ text. Reads text i))
reader_read a c bytes p (Err f) u e s h = tt
reader_read a c bytes p (Ok i) u e s h = Consumes-whole a c bytes (λ t. Reads t i) u e (h bytes s)

pub reader_read_one : (a c : Option (List ℕ)) (bytes : List ℕ) (p : Parser)
    (r : Result Problem ReadFault) → Consumes a c bytes → IsAtEnd c → HasRead p bytes
    → IfOk r (λ i. (bytes : List ℕ) → HasRead p bytes → Reads bytes i)
    → IfOk r (λ i. IfSome a (λ text. (q : Problem) → Reads text q → q ≡ i))
reader_read_one a c bytes p (Err f) u e s h = tt
reader_read_one a c bytes p (Ok i) u e s h =
    Consumes-whole a c bytes (λ t. (q : Problem) → Reads t q → q ≡ i) u e
    (λ q r. reads_one bytes q i r (h bytes s))

pub finished_refused : (p : Parser) (some : 0 < length p.rest) (f : ReadFault)
    → IsLineFault p.draft p.number p.rest f → IsRefusedAtEnd p f
finished_refused p some f (inl m) = inl m
finished_refused p some f (inr e) = inr (λ bytes s. ends_refused p some bytes s f e.0 e.1)

-- where the draft ends what the parser stands for, so do its instance and its faults
pub same_end : {X : Type 0} (p : Parser) (d : Drafted) (r : Result X ReadFault)
    → ((bytes : List ℕ) → HasRead p bytes → Ends d bytes)
    → IfErr r (λ f. (bytes : List ℕ) → Ends d bytes → IsFirstFault bytes f.kind f.line)
    → IfErr r (IsRefusedAtEnd p)
same_end p d (Ok x) e h = tt
same_end p d (Err f) e h = inr (λ bytes s. h bytes (e bytes s))
