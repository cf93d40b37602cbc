-- Facts, one after the other, on a sheet.
use Rattle.std.proofs.Common.{ℕ, suc, List, [], ◌∷◌, ◌++◌, Option, refl, subst, ap}
use Rattle.std.proofs.Common.{append_assoc}
use Rattle.lrat_read.specs.Words.{NamedFact}
use Rattle.explain_text.specs.declared.sheet.Sheet.{Sheet}
use Rattle.explain_text.specs.Sheets.{Displays}
use Rattle.explain_certificate.specs.Reasons.{Adds, AddsFact, AddsFacts, fact_text, facts_text}
use Rattle.explain_text.proofs.Laws.{more, nothing}

-- some text, and then some
pub adds_on : {a b c : Option (List ℕ)} {s t u : Sheet} → Adds a s b t → Adds b t c u
    → Adds a s c u
adds_on p q = (p.0 ++ q.0, more p.1 q.1)

pub no_fact : (a : Option (List ℕ)) (s : Sheet) → AddsFacts [] a s a s
no_fact a s = record { details = []; each = refl; shown = nothing a s }

pub fact_first : {a b c : Option (List ℕ)} {s t u : Sheet} (f : NamedFact) (fs : List NamedFact)
    → AddsFact f a s b t → AddsFacts fs b t c u → AddsFacts (f ∷ fs) a s c u
fact_first {a} {b} {c} {s} {t} {u} f fs p q = record {
  details = p.0 ∷ q.details;
  each = ap suc q.each;
  shown = subst (λ z. Displays a s z c u)
      (append_assoc (fact_text (p.0).is_group f) (p.0).details (facts_text fs q.details))
      (more p.1 q.shown);
}

-- whoever adds the facts that are left has added all
abbrev pub LeadsFacts : Option (List ℕ) → Sheet → List NamedFact → List NamedFact
    → Option (List ℕ) → Sheet → Type 0
LeadsFacts a s all left b t =
    (c : Option (List ℕ)) (u : Sheet) → AddsFacts left b t c u → AddsFacts all a s c u

pub fact_on : {a b c : Option (List ℕ)} {s t u : Sheet} (all : List NamedFact) (f : NamedFact)
    (left : List NamedFact) → AddsFact f b t c u → LeadsFacts a s all (f ∷ left) b t
    → LeadsFacts a s all left c u
fact_on all f left p k d v q = k d v (fact_first f left p q)
