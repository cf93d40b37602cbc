-- Levels, positions and reasons, kept side by side.
use Rattle.std.proofs.Common.{◌≡◌, ℕ, zero, suc, Option, None, List, [], ◌∷◌, map, replicate, refl}
use Rattle.std.proofs.Common.{◌∙◌, ap}
use Rattle.clauses.specs.Slots.{Renaming}
use Rattle.propagate_trail.specs.declared.vardata.VarData.{VarData}
use Rattle.propagate_trail.specs.Renames.{named_reason}
use Rattle.propagate_trail.specs.Vardata.{var_table_state, named_var_data}

levels-replicate : (n : ℕ) (m : VarData) → m.level ≡ None
    → map (λ (x : VarData). x.level) (replicate n m) ≡ replicate n None
levels-replicate zero m e = refl
levels-replicate (suc n) m e =
    ap (λ (o : Option ℕ). o ∷ map (λ (x : VarData). x.level) (replicate n m)) e
    ∙ ap (λ ls. None ∷ ls) (levels-replicate n m e)

reasons-replicate : (n : ℕ) (m : VarData) → m.reason ≡ None
    → map (λ (x : VarData). x.reason) (replicate n m) ≡ replicate n None
reasons-replicate zero m e = refl
reasons-replicate (suc n) m e =
    ap (λ (o : Option ℕ). o ∷ map (λ (x : VarData). x.reason) (replicate n m)) e
    ∙ ap (λ ls. None ∷ ls) (reasons-replicate n m e)

positions-replicate : (n : ℕ) (m : VarData) → m.position ≡ 0
    → map (λ (x : VarData). x.position) (replicate n m) ≡ replicate n 0
positions-replicate zero m e = refl
positions-replicate (suc n) m e =
    ap (λ (k : ℕ). k ∷ map (λ (x : VarData). x.position) (replicate n m)) e
    ∙ ap (λ ks. 0 ∷ ks) (positions-replicate n m e)

pub vardata-replicate : (n : ℕ) (m : VarData) → m.level ≡ None → m.position ≡ 0 → m.reason ≡ None
    → var_table_state (replicate n m) ≡ record {
      levels = replicate n None;
      positions = replicate n 0;
      reasons = replicate n None;
    }
vardata-replicate n m e p f =
    ap (λ (ls : List (Option ℕ)). record {
      levels = ls;
      positions = map (λ (x : VarData). x.position) (replicate n m);
      reasons = map (λ (x : VarData). x.reason) (replicate n m);
    }) (levels-replicate n m e)
    ∙ ap (λ (ps : List ℕ). record {
      levels = replicate n None;
      positions = ps;
      reasons = map (λ (x : VarData). x.reason) (replicate n m);
    }) (positions-replicate n m p)
    ∙ ap (λ (rs : List (Option ℕ)). record {
      levels = replicate n None;
      positions = replicate n 0;
      reasons = rs;
    }) (reasons-replicate n m f)

pub levels_named : (moves : Renaming) (ms : List VarData)
    → map (λ (x : VarData). x.level) (map (named_var_data moves) ms)
    ≡ map (λ (x : VarData). x.level) ms
levels_named moves [] = refl
levels_named moves (m ∷ ms) = ap (λ ls. m.level ∷ ls) (levels_named moves ms)

pub positions_named : (moves : Renaming) (ms : List VarData)
    → map (λ (x : VarData). x.position) (map (named_var_data moves) ms)
    ≡ map (λ (x : VarData). x.position) ms
positions_named moves [] = refl
positions_named moves (m ∷ ms) = ap (λ ps. m.position ∷ ps) (positions_named moves ms)

pub reasons_named : (moves : Renaming) (ms : List VarData)
    → map (λ (x : VarData). x.reason) (map (named_var_data moves) ms) ≡ map (named_reason moves)
    (map (λ (x : VarData). x.reason) ms)
reasons_named moves [] = refl
reasons_named moves (m ∷ ms) = ap (λ rs. named_reason moves m.reason ∷ rs) (reasons_named moves ms)
