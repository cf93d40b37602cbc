-- What is written of bits is their explanation.
use Rattle.std.proofs.Common.{◌≡◌, ℕ, Bool, List, length, ap, ◌∙◌, refl}
use Rattle.cnf.specs.Bits.{assignment_of}
use Rattle.cnf.specs.Problem.{Problem, SoftClause, cost_under}
use Rattle.explain.specs.declared.explaining.Findings.{Findings}
use Rattle.explain.specs.Explanation.{bits_line}
use Rattle.explain.specs.Explained.{AreFindings, IsSolutionText, listing_text}

pub listed : (text : List ℕ) (p : Problem) (bits : List Bool) (told : ℕ) (f : Findings) (cost : ℕ)
    (soft : List SoftClause) → length bits ≡ p.variables → AreFindings text p bits f
    → cost ≡ cost_under p (assignment_of bits) → soft ≡ p.soft
    → IsSolutionText text p bits told
    (listing_text text bits cost told (length soft) f)
listed text p bits told f cost soft n found e s = record {
  listing = λ m. record {
    findings = f;
    found = found;
    spelled = ap (λ z. listing_text text bits z told (length soft) f) e
        ∙ ap (λ z. listing_text text bits (cost_under p (assignment_of bits)) told (length z) f) s;
  };
  miscounted = λ m. absurd (m n);
}

pub miscounted : (text : List ℕ) (p : Problem) (bits : List Bool) (told : ℕ)
    → (length bits ≡ p.variables → ⊥)
    → IsSolutionText text p bits told (bits_line (length bits) p.variables)
miscounted text p bits told m = record {
  listing = λ n. absurd (m n);
  miscounted = λ n. refl;
}
