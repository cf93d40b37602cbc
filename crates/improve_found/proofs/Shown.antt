-- What was shown of a search, from one telling to the next.
use Rattle.std.proofs.Common.{◌≡◌, ℕ, ◌+◌, Bool, List, [], ◌∷◌, ◌++◌, Option, map, refl, sym, ◌∙◌}
use Rattle.std.proofs.Common.{ap, subst, arith, append_assoc, append-nil}
use Rattle.std.specs.Prelude.{All}
use Rattle.std.proofs.lemmas.List.{map-append}
use Rattle.std.proofs.lemmas.List.Elements.{All-nil, All-push, All-append}
use Rattle.cnf.specs.Problem.{Problem}
use Rattle.cdcl_order.specs.Watch.{Sight, Better, with_seen}
use Rattle.cdcl_order.proofs.Laws.{with_seen_none, with_seen_more}
use Rattle.improve_found.specs.Progress.{Telling, with_told, with_failed}
use Rattle.improve_found.specs.Solutions.{IsSolution}
use Rattle.improve_found.specs.Watch.{better_of, costs_shown, AreShown}

-- nothing was shown or told
pub shown_none : (p : Problem) (now : Telling) (s : Option (List Sight)) → AreShown p now now s s
shown_none p now s = record {
  solutions = [];
  each = All-nil (λ (z : ℕ × List Bool). IsSolution p z.1 z.0);
  seen = sym (with_seen_none s);
  told = λ e. sym (append-nil now.told);
  failed = λ e. absurd (omega (arith, e));
}

-- nothing more was shown after it,
pub shown_then : (p : Problem) (old new : Telling) (a b c : Option (List Sight))
    → AreShown p old new a b → c ≡ b → AreShown p old new a c
shown_then p old new a b c s e = subst (AreShown p old new a) (sym e) s

-- or before it
pub shown_after : (p : Problem) (old new : Telling) (a b c : Option (List Sight)) → b ≡ a
    → AreShown p old new b c → AreShown p old new a c
shown_after p old new a b c e s = subst (λ z. AreShown p old new z c) e s

-- nothing was shown
pub shown_same : (p : Problem) (now : Telling) (a b : Option (List Sight)) → b ≡ a
    → AreShown p now now a b
shown_same p now a b e = shown_then p now now a a b (shown_none p now a) e

-- a solution was shown
module _ (p : Problem) (old new : Telling) (before after : Option (List Sight)) (c : ℕ)
    (bits : List Bool) (solution : IsSolution p bits c)
    (seen : after ≡ with_seen (Better p c bits ∷ []) before) where
  one : All (λ (z : ℕ × List Bool). IsSolution p z.1 z.0) ((c, bits) ∷ [])
  one =
      All-push (λ (z : ℕ × List Bool). IsSolution p z.1 z.0) [] (c, bits)
      (All-nil (λ (z : ℕ × List Bool). IsSolution p z.1 z.0)) solution

  -- and its cost told
  pub shown_told : new ≡ with_told c old → AreShown p old new before after
  shown_told e = record {
    solutions = (c, bits) ∷ [];
    each = one;
    seen = seen;
    told = λ z. ap (λ t. t.told) e;
    failed = λ z. absurd (omega (arith, z, ap (λ t. t.failures) e));
  }

  -- and its cost could not be told
  pub shown_failed : new ≡ with_failed c old → AreShown p old new before after
  shown_failed e = record {
    solutions = (c, bits) ∷ [];
    each = one;
    seen = seen;
    told = λ z. absurd (omega (arith, z, ap (λ t. t.failures) e));
    failed = λ z. (
      [],
      ap (λ t. t.told) e ∙ sym (append-nil old.told),
      record { last = c; last_failed = ap (λ t. t.failed) e; tried_is = refl },
    );
  }

-- what was shown in two parts, where telling failed in neither or in the second
pub shown_more : (p : Problem) (old mid new : Telling) (a b c : Option (List Sight))
    → AreShown p old mid a b → mid.failures ≡ old.failures → AreShown p mid new b c
    → AreShown p old new a c
shown_more p old mid new a b c s same t =
    let told = s.told same in
    let shown = better_of p in
    let costs = map-append (λ (z : ℕ × List Bool). z.0) s.solutions t.solutions in
    record {
      solutions = s.solutions ++ t.solutions;
      each =
          All-append (λ (z : ℕ × List Bool). IsSolution p z.1 z.0) s.solutions t.solutions s.each
          t.each;
      seen = t.seen ∙ ap (with_seen (map shown t.solutions)) s.seen
          ∙ with_seen_more (map shown s.solutions) (map shown t.solutions) a
          ∙ ap (λ z. with_seen z a) (sym (map-append shown s.solutions t.solutions));
      told = λ e. t.told (e ∙ sym same) ∙ ap (λ z. z ++ costs_shown t.solutions) told
          ∙ append_assoc old.told (costs_shown s.solutions) (costs_shown t.solutions)
          ∙ ap (λ z. old.told ++ z) (sym costs);
      failed = λ e.
          let f = t.failed (e ∙ ap (λ n. n + 1) (sym same)) in (
            costs_shown s.solutions ++ f.0,
            f.1 ∙ ap (λ z. z ++ f.0) told ∙ append_assoc old.told (costs_shown s.solutions) f.0,
            record {
              last = f.2.last;
              last_failed = f.2.last_failed;
              tried_is = costs ∙ ap (λ z. costs_shown s.solutions ++ z) f.2.tried_is
                  ∙ sym (append_assoc (costs_shown s.solutions) f.0 (f.2.last ∷ []));
            },
          );
    }
