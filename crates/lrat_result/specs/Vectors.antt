-- Worked results, computed from the definitions.
use Rattle.std.specs.Prelude.{◌≡◌, ℕ, ◌++◌, List, [], ◌∷◌, true, false, refl, Ok, Err}
use Rattle.std.specs.List.{flat_map}
use lib.Chars.{codes}
use Rattle.lrat_result.specs.Result.{OptimumFound, Unsatisfiable, report_of}

abbrev line : List ℕ → List ℕ
line bs = bs ++ 10 ∷ []

v1 : report_of
    (flat_map line (codes "c a note" ∷ codes "o 7" ∷ [] ∷ codes "o 3" ∷ codes "s OPTIMUM FOUND"
    ∷ codes "v 10" ∷ []))
    ≡ Ok (record {
      said = OptimumFound 3 (true ∷ false ∷ []);
      cost_line = 4;
      status_line = 5;
      bits_line = 6;
    })
v1 = refl

v2 : report_of (codes "s UNSATISFIABLE")
    ≡ Ok (record { said = Unsatisfiable; cost_line = 0; status_line = 1; bits_line = 0 })
v2 = refl

v3 : report_of (flat_map line (codes "o 3" ∷ codes "o 3" ∷ [])) ≡ Err 2
v3 = refl

v4 : report_of (flat_map line (codes "o 3" ∷ codes "s SATISFIABLE" ∷ codes "v 102" ∷ [])) ≡ Err 3
v4 = refl

v5 : report_of (codes "s SATISFIABLE") ≡ Err 1
v5 = refl

v6 : report_of (flat_map line (codes "s UNKNOWN" ∷ codes "v 1" ∷ [])) ≡ Err 2
v6 = refl

v7 : report_of (codes "o 3") ≡ Err 0
v7 = refl
