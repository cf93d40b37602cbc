-- One text after another, on a sheet.
use Rattle.std.proofs.Common.{◌≡◌, ℕ, true, false, List, [], ◌++◌, Option, refl, sym, subst}
use Rattle.std.proofs.Common.{append_assoc, append-nil, ◌∙◌, Bool, Result, Ok, Err, OnOk, OnErr}
use Rattle.std.proofs.lemmas.Bool.{false≢true}
use Rattle.std.specs.Io.KnownBytes.{Appends}
use Rattle.std.proofs.KnownBytes.{Appends-nil, Appends-trans}
use Rattle.text.specs.Writing.{AppendsPart, PassesOn, Writes}
use Rattle.text.proofs.Laws.{passed-nil, passed-more, passed_part, passed_part-more}
use Rattle.text.proofs.Laws.{passed_whole, part-more}
use Rattle.explain_text.specs.declared.sheet.Sheet.{Sheet}
use Rattle.explain_text.specs.Sheets.{IsCutOff, Displays}

pub nothing : (a : Option (List ℕ)) (s : Sheet) → Displays a s [] a s
nothing a s = record {
  whole = λ h k. passed-nil a s.block;
  part = λ h k. absurd (false≢true (sym h ∙ k));
  kept = λ h. Appends-nil a;
  lasting = λ h. h;
}

-- a beginning stays one, where nothing is written after it
part_kept : (a b c : Option (List ℕ)) (x : List ℕ) → AppendsPart a b x → Appends b c []
    → AppendsPart a c x
part_kept a b c x p q =
    (p.0, p.1, subst (Appends a c) (append-nil p.0) (Appends-trans a b c p.0 [] p.2 q))

pub more : {a b c : Option (List ℕ)} {s t u : Sheet} {x y : List ℕ} → Displays a s x b t
    → Displays b t y c u → Displays a s (x ++ y) c u
more {a} {b} {c} {s} {t} {u} {x} {y} p q = record {
  whole = λ h k. by_whole t.has_failed refl h k;
  part = λ h k. by_part t.has_failed refl h k;
  kept = λ h. Appends-trans a b c [] [] (p.kept h) (q.kept (p.lasting h));
  lasting = λ h. q.lasting (p.lasting h);
}
  where
    by_whole : (f : Bool) → t.has_failed ≡ f → s.has_failed ≡ false → u.has_failed ≡ false
        → PassesOn a s.block (x ++ y) c u.block
    by_whole false e h k = passed-more a b c s.block t.block u.block x y (p.whole h e) (q.whole e k)
    by_whole true e h k = absurd (false≢true (sym k ∙ q.lasting e))

    by_part : (f : Bool) → t.has_failed ≡ f → s.has_failed ≡ false → u.has_failed ≡ true
        → AppendsPart a c (s.block ++ (x ++ y))
    by_part false e h k =
        passed_part-more a b c s.block t.block x y (p.whole h e) (q.part e k)
    by_part true e h k =
        subst (AppendsPart a c) (append_assoc s.block x y)
        (part-more a c (s.block ++ x) y (part_kept a b c (s.block ++ x) (p.part h e) (q.kept e)))

-- whoever puts what is left has put the whole text
abbrev pub Leads : Option (List ℕ) → Sheet → List ℕ → List ℕ → Option (List ℕ) → Sheet → Type 0
Leads a s whole left b t =
    (c : Option (List ℕ)) (u : Sheet) → Displays b t left c u → Displays a s whole c u

pub leads_on : {a b c : Option (List ℕ)} {s t u : Sheet} {whole x left : List ℕ}
    → Displays b t x c u → Leads a s whole (x ++ left) b t → Leads a s whole left c u
leads_on p k d v q = k d v (more p q)

pub leads_same : {a b : Option (List ℕ)} {s t : Sheet} {whole left other : List ℕ}
    → Leads a s whole left b t → left ≡ other → Leads a s whole other b t
leads_same {a} {b} {s} {t} {whole} k e = subst (λ z. Leads a s whole z b t) e k

-- a sheet that was begun with nothing, at its end
pub finished : {a b : Option (List ℕ)} {s t : Sheet} {x : List ℕ} (c : Option (List ℕ))
    → s.block ≡ [] → s.has_failed ≡ false → Displays a s x b t
    → (t.has_failed ≡ false) × Appends b c t.block → Appends a c x
finished {a} {b} {s} {t} {x} c e h p q =
    subst (λ z. Appends a c (z ++ x)) e
    (passed_whole a b c s.block t.block x (p.whole h q.0) q.1)

pub cut_off : {a b c : Option (List ℕ)} {s t : Sheet} {x : List ℕ} → s.block ≡ []
    → s.has_failed ≡ false → Displays a s x b t → IsCutOff b t c → AppendsPart a c x
cut_off {a} {b} {c} {s} {t} {x} e h p q =
    subst (λ z. AppendsPart a c (z ++ x)) e (by t.has_failed refl)
  where
    by : (f : Bool) → t.has_failed ≡ f → AppendsPart a c (s.block ++ x)
    by false k = passed_part a b c s.block t.block x (p.whole h k) (q.part k)
    by true k = part_kept a b c (s.block ++ x) (p.part h k) (q.kept k)

-- the same, by whether it went well
pub written : {T E : Type 0} (r : Result T E) {a b : Option (List ℕ)} {s t : Sheet} {x : List ℕ}
    (c : Option (List ℕ)) → s.block ≡ [] → s.has_failed ≡ false → Displays a s x b t
    → OnOk r ((t.has_failed ≡ false) × Appends b c t.block) → OnErr r (IsCutOff b t c)
    → Writes r a x c
written (Ok v) c e h p q n = finished c e h p q
written (Err w) c e h p q n = cut_off e h p n
