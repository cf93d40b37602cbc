-- A trail and its reasons under new names.
use Rattle.std.proofs.Common.{◌≡◌, ℕ, ◌+◌, ◌≤◌, Bool, true, false, List, [], ◌∷◌, map, Option, Some}
use Rattle.std.proofs.Common.{None, cond, refl, sym, ◌∙◌, ap}
use Rattle.std.specs.Prelude.{is_none, IfSome, nat_le, if◌then◌else◌, ◌==◌}
use Rattle.std.specs.List.{AllByRecursion}
use Rattle.std.proofs.lemmas.List.{length-map}
use Rattle.std.proofs.Math.ListN.{get_or-map}
use Rattle.cnf.specs.Literal.{Literal}
use Rattle.clauses.specs.Slots.{Renaming, renamed}
use Rattle.clauses.proofs.Laws.{named_listed}
use Rattle.propagate_trail.specs.Trail.{Assigned, literals_of, depth_of, value_in, level_in}
use Rattle.propagate_trail.specs.Trail.{level_from, level_after, kept_from, kept_to, is_decision}
use Rattle.propagate_trail.specs.Tables.{assigned_by, reason_at, IsTrail}
use Rattle.propagate_trail.specs.Renames.{renamed_reason, renamed_trail, named_reason, named_trail}
use Rattle.propagate_trail.proofs.Trails.{depth-cons}

abbrev pub named_assigned : Renaming → Assigned → Assigned
named_assigned ms a = record { literal = a.literal; reason = named_reason ms a.reason }

pub literals_named : (ms : Renaming) (T : List Assigned)
    → literals_of (named_trail ms T) ≡ literals_of T
literals_named ms [] = refl
literals_named ms (a ∷ T) = ap (λ A. a.literal ∷ A) (literals_named ms T)

none_named : (ms : Renaming) (r : Option ℕ) → is_none (named_reason ms r) ≡ is_none r
none_named ms None = refl
none_named ms (Some r) = refl

after_named : (ms : Renaming) (level : ℕ) (a : Assigned) → level_after level (named_assigned ms a)
    ≡ level_after level a
after_named ms level a = ap (λ b. if b then level + 1 else level) (none_named ms a.reason)

kept_from_named : (ms : Renaming) (level to : ℕ) (T : List Assigned)
    → kept_from level to (named_trail ms T) ≡ named_trail ms (kept_from level to T)
kept_from_named ms level to [] = refl
kept_from_named ms level to (a ∷ T) =
    ap (λ k. if nat_le k to then named_assigned ms a ∷ kept_from k to (named_trail ms T) else [])
    (after_named ms level a)
    ∙ ap (λ X. if nat_le (level_after level a) to then named_assigned ms a ∷ X else [])
    (kept_from_named ms (level_after level a) to T)
    ∙ kept_if (nat_le (level_after level a) to)
  where
    kept_if : (b : Bool)
        → (if b then named_assigned ms a ∷ named_trail ms (kept_from (level_after level a) to T)
        else []) ≡ named_trail ms (if b then a ∷ kept_from (level_after level a) to T else [])
    kept_if true = refl
    kept_if false = refl

pub kept_named : (ms : Renaming) (to : ℕ) (T : List Assigned)
    → literals_of (kept_to to (named_trail ms T)) ≡ literals_of (kept_to to T)
kept_named ms to T = ap literals_of (kept_from_named ms 0 to T) ∙ literals_named ms (kept_to to T)

pub value_named : (ms : Renaming) (T : List Assigned) (l : Literal)
    → value_in (named_trail ms T) l ≡ value_in T l
value_named ms T l = rw literals_named refl

level_from_named : (ms : Renaming) (level : ℕ) (T : List Assigned) (v : ℕ)
    → level_from level (named_trail ms T) v ≡ level_from level T v
level_from_named ms level [] v = refl
level_from_named ms level (a ∷ T) v =
    ap (λ k. if a.literal.variable == v then Some k else level_from k (named_trail ms T) v)
    (after_named ms level a)
    ∙ ap (λ X. if a.literal.variable == v then Some (level_after level a) else X)
    (level_from_named ms (level_after level a) T v)

pub depth_named : (ms : Renaming) (T : List Assigned) → depth_of (named_trail ms T) ≡ depth_of T
depth_named ms [] = refl
depth_named ms (a ∷ T) =
    depth-cons (named_assigned ms a) (named_trail ms T)
    ∙ ap (λ b. cond b 1 0 + depth_of (named_trail ms T)) (none_named ms a.reason)
    ∙ ap (λ k. cond (is_decision a) 1 0 + k) (depth_named ms T)
    ∙ sym (depth-cons a T)

pub assigned_named : (ms : Renaming) (R : List (Option ℕ)) (A : List Literal)
    → assigned_by (map (named_reason ms) R) A ≡ named_trail ms (assigned_by R A)
assigned_named ms R [] = refl
assigned_named ms R (l ∷ A) =
    ap (λ (r : Option ℕ). record { literal = l; reason = r } ∷ assigned_by (map (named_reason ms) R)
    A) (get_or-map (named_reason ms) R l.variable None)
    ∙ ap (λ T. record { literal = l; reason = named_reason ms (reason_at R l.variable) } ∷ T)
    (assigned_named ms R A)

pub trail_named : (ms : Renaming) (n : ℕ) (A : List Literal) (vs : List (Option Bool))
    (ls : List (Option ℕ)) (ps : List ℕ) (R : List (Option ℕ)) (d room room' : ℕ) → n ≤ room'
    → IsTrail n A vs ls ps R d room
    → IsTrail n A vs ls ps (map (named_reason ms) R) d room'
trail_named ms n A vs ls ps R d room room' wide t =
    let shape = assigned_named ms R A in
    record {
      within = t.within;
      once = t.once;
      values_length = t.values_length;
      levels_length = t.levels_length;
      positions_length = t.positions_length;
      reasons_length = length-map R (named_reason ms) ∙ t.reasons_length;
      value_of = λ l h. t.value_of l h ∙ sym (value_named ms (assigned_by R A) l)
          ∙ sym (ap (λ T. value_in T l) shape);
      level_of = λ v. t.level_of v ∙ sym (level_from_named ms 0 (assigned_by R A) v)
          ∙ sym (ap (λ T. level_in T v) shape);
      position_of = t.position_of;
      depth_is = t.depth_is ∙ sym (depth_named ms (assigned_by R A)) ∙ sym (ap depth_of shape);
      has_room = wide;
      few = t.few;
      open_literals = t.open_literals;
    }

reason_listed : (ms : Renaming) (o : Option ℕ) → IfSome o (λ r. (q : ℕ) × (renamed ms r ≡ Some q))
    → named_reason ms o ≡ renamed_reason ms o
reason_listed ms None h = refl
reason_listed ms (Some r) h = ap Some (named_listed ms r h.0 h.1) ∙ sym h.1

-- where all reasons are listed, the names are the new references
pub trail_listed : (ms : Renaming) (T : List Assigned)
    → AllByRecursion (λ a. IfSome a.reason (λ r. (q : ℕ) × (renamed ms r ≡ Some q))) T
    → named_trail ms T ≡ renamed_trail ms T
trail_listed ms [] h = refl
trail_listed ms (a ∷ T) h =
    ap (λ (r : Option ℕ). record { literal = a.literal; reason = r } ∷ named_trail ms T)
    (reason_listed ms a.reason h.0)
    ∙ ap (λ X. record { literal = a.literal; reason = renamed_reason ms a.reason } ∷ X)
    (trail_listed ms T h.1)
