-- The store, the names and the log stay together where a clause is added or deleted.
use Rattle.std.proofs.Common.{◌≡◌, ◌≢◌, ℕ, ◌+◌, ◌<◌, ◌≤◌, ◌^◌, true, false, List, [], ◌∷◌, ◌++◌}
use Rattle.std.proofs.Common.{length, Some, None, ◌⊎◌, inl, inr, refl, sym, ◌∙◌, ap, subst, arith}
use Rattle.std.proofs.Common.{slice_set, length-append}
use Rattle.std.specs.Prelude.{if◌then◌else◌, ◌==◌, nat_eq}
use Rattle.std.specs.List.{list_any}
use Rattle.std.specs.Prelude.{All}
use Rattle.std.proofs.lemmas.Bool.{ne_eqb, eq-eqb, eqb-true, cases_eq, cases_lt}
use Rattle.std.proofs.lemmas.List.{length-set, get_or_append_left, get_or_push, get_or_past}
use Rattle.std.proofs.lemmas.List.Elements.{All-push}
use Rattle.std.proofs.lemmas.Option.{same_Some, none-some}
use Rattle.cnf.specs.Literal.{Literal}
use Rattle.cnf.specs.Refute.{Clauses}
use Rattle.cnf.specs.Lrat.{IsId}
use Rattle.clauses.specs.Slots.{Slots, clause_at}
use Rattle.lrat_log.specs.declared.lines.Name.{Name}
use Rattle.lrat_log.specs.declared.lines.Name.TheVariants.{Formula}
use Rattle.lrat_log.specs.Log.{LogLine, Given, id_of, is_delete, number_in}
use Rattle.lrat_log.specs.Steps.{log_live}
use Rattle.lrat_log.specs.Steps.{added_count}
use Rattle.eliminate_names.specs.Work.{name_at, added_line, delete_line, AreLiveAs, IsNamed}
use Rattle.clauses.proofs.Laws.{clause_cases, clause_kept, clause_left, clause_new, clause_other}
use Rattle.clauses.proofs.Laws.{live_within}
use Rattle.lrat_log.proofs.Laws.{additions_push}
use Rattle.eliminate_names.proofs.Logs.{log_live-more}

added_from : (at : Clauses) (new i : ℕ) (c d : List Literal)
    → (if i == new then Some c else at i) ≡ Some d → ((i ≡ new) × (d ≡ c)) ⊎ (at i ≡ Some d)
added_from at new i c d e =
    elim (i == new) as (λ b. (i == new) ≡ b → (if b then Some c else at i) ≡ Some d
    → ((i ≡ new) × (d ≡ c)) ⊎ (at i ≡ Some d)) [
      | true ↦ λ q h. inl (eqb-true i new q, sym (same_Some c d h))
      | false ↦ λ q h. inr h
    ] refl e

-- under one base: the clause that is added gets the id after the last
pub live_added : (id more : ℕ → ℕ) (slots : Slots) (at : Clauses) (last new : ℕ) (c : List Literal)
    → AreLiveAs id slots at last → new ≡ last + 1
    → ((r : ℕ) → r < length slots → more r ≡ id r) → more (length slots) ≡ new
    → AreLiveAs more (slots ++ Some c ∷ []) (λ i. if i == new then Some c else at i) new
live_added id more slots at last new c a e before here = record {
  named = λ r d h. elim (clause_cases slots c r d h) [
    | inr w ↦ rw (ap more w.0 ∙ here, eq-eqb new new refl) (ap Some (sym w.1))
    | inl w ↦
        let f : more r ≡ id r = before r (live_within slots r d w) in
        let b : id r ≤ last = a.below r d w in
        let n : id r ≢ new = omega arith in
        rw (f, ne_eqb (id r) new n) (a.named r d w)
  ];
  only = λ i d h. elim (added_from at new i c d h) [
    | inl w ↦ (length slots, clause_new slots c ∙ ap Some (sym w.1), here ∙ sym w.0)
    | inr w ↦ let o = a.only i d w in
        (o.0, clause_kept slots c d o.0 o.1, before o.0 (live_within slots o.0 d o.1) ∙ o.2)
  ];
  differ = λ r s x y h k same. elim (clause_cases slots c r x h) [
    | inr w ↦ elim (clause_cases slots c s y k) [
      | inr v ↦ w.0 ∙ sym v.0
      | inl v ↦
          let f : more s ≡ id s = before s (live_within slots s y v) in
          let b : id s ≤ last = a.below s y v in
          let m : more r ≡ new = ap more w.0 ∙ here in
          absurd (omega arith)
    ]
    | inl w ↦
        let f : more r ≡ id r = before r (live_within slots r x w) in
        let b : id r ≤ last = a.below r x w in
        elim (clause_cases slots c s y k) [
          | inl v ↦ a.differ r s x y w v (sym f ∙ same ∙ before s (live_within slots s y v))
          | inr v ↦ let m : more s ≡ new = ap more v.0 ∙ here in absurd (omega arith)
        ]
  ];
  below = λ r d h. elim (clause_cases slots c r d h) [
    | inr w ↦ let f : more r ≡ new = ap more w.0 ∙ here in omega arith
    | inl w ↦
        let f : more r ≡ id r = before r (live_within slots r d w) in
        let b : id r ≤ last = a.below r d w in
        omega arith
  ];
}

deleted_other : (at : Clauses) (gone i : ℕ) (d : List Literal) → i ≢ gone → at i ≡ Some d
    → (if list_any (nat_eq i) (gone ∷ []) then None else at i) ≡ Some d
deleted_other at gone i d n e = rw (ne_eqb i gone n) e

deleted_from : (at : Clauses) (gone i : ℕ) (d : List Literal)
    → (if list_any (nat_eq i) (gone ∷ []) then None else at i) ≡ Some d
    → (i ≢ gone) × (at i ≡ Some d)
deleted_from at gone i d e =
    elim (cases_eq i gone) [
      | inl q ↦ absurd (none-some d (gone_there q e))
      | inr n ↦ (n, rw (ne_eqb i gone n) at e)
    ]
  where
    gone_there : i ≡ gone → (if list_any (nat_eq i) (gone ∷ []) then None else at i) ≡ Some d
        → None ≡ Some d
    gone_there q h = rw (eq-eqb i gone q) at h

-- and the clause that is deleted leaves with its id
pub live_deleted : (id : ℕ → ℕ) (slots : Slots) (at : Clauses) (last r : ℕ) (c : List Literal)
    → AreLiveAs id slots at last → clause_at slots r ≡ Some c
    → AreLiveAs id (slice_set slots r None) (λ i. if list_any (nat_eq i) (id r ∷ []) then None
    else at i) last
live_deleted id slots at last r c a live = record {
  named = λ s d h.
      let w = clause_left slots r s d h in
      deleted_other at (id r) (id s) d (λ q. w.0 (a.differ s r d c w.1 live q)) (a.named s d w.1);
  only = λ i d h.
      let w = deleted_from at (id r) i d h in
      let o = a.only i d w.1 in
      (o.0, (clause_other slots r o.0 (λ q. w.0 (sym o.2 ∙ ap id q)) ∙ o.1), o.2);
  differ =
      λ s t x y h k same. a.differ s t x y (clause_left slots r s x h).1
      (clause_left slots r t y k).1 same;
  below = λ s d h. a.below s d (clause_left slots r s d h).1;
}

pub name-push : (names : List Name) (n : Name) (r : ℕ) → r < length names
    → name_at (names ++ n ∷ []) r ≡ name_at names r
name-push names n r h = get_or_append_left names (n ∷ []) (Formula 1) r h

pub name-last : (names : List Name) (n : Name) (r : ℕ) → length names ≡ r
    → name_at (names ++ n ∷ []) r ≡ n
name-last names n r h = get_or_push names n (Formula 1) r h

adds_live : (given : Given) (base : ℕ) (ls : List LogLine) (l : LogLine) → is_delete l.kind ≡ false
    → log_live given base (ls ++ l ∷ []) ≡ (λ i. if i == base + added_count ls + 1
    then Some l.clause else log_live given base ls i)
adds_live given base ls l e = log_live-more given base ls l ∙ rw e refl

deletes_live : (given : Given) (base : ℕ) (ls : List LogLine) (n : Name)
    → log_live given base (ls ++ delete_line n ∷ [])
    ≡ (λ i. if list_any (nat_eq i) (id_of base n ∷ []) then None else log_live given base ls i)
deletes_live given base ls n = log_live-more given base ls (delete_line n)

-- a line that adds a clause, which the store gets with the name that the line gives it
pub named_added : (given : Given) (slots : Slots) (names : List Name) (ls : List LogLine)
    (l : LogLine) → IsNamed given slots names ls → is_delete l.kind ≡ false
    → added_count ls + 1 < 2 ^ 62
    → IsNamed given (slots ++ Some l.clause ∷ []) (names ++ added_line (added_count ls) ∷ [])
    (ls ++ l ∷ [])
named_added given slots names ls l n adds small = record {
  long = omega (
    arith,
    n.long,
    length-append names (added_line (added_count ls) ∷ []),
    length-append slots (Some l.clause ∷ []),
  );
  numbers = All-push (λ m. IsId (number_in m)) names (added_line (added_count ls)) n.numbers
      (omega arith, small);
  live = λ base above.
      let new : ℕ = base + added_count ls + 1 in
      let one : added_count (ls ++ l ∷ []) ≡ added_count ls + 1 =
      rw adds at (additions_push ls l) in
      let next : base + added_count (ls ++ l ∷ []) ≡ new = omega arith in
      subst (λ (at : Clauses). AreLiveAs
      (λ r. id_of base (name_at (names ++ added_line (added_count ls) ∷ []) r))
      (slots ++ Some l.clause ∷ []) at (base + added_count (ls ++ l ∷ [])))
      (sym (adds_live given base ls l adds))
      (subst (λ (last : ℕ). AreLiveAs
      (λ r. id_of base (name_at (names ++ added_line (added_count ls) ∷ []) r))
      (slots ++ Some l.clause ∷ []) (λ i. if i == new then Some l.clause
      else log_live given base ls i) last) (sym next)
      (live_added (λ r. id_of base (name_at names r))
      (λ r. id_of base (name_at (names ++ added_line (added_count ls) ∷ []) r)) slots
      (log_live given base ls) (base + added_count ls) new l.clause (n.live base above) refl
      (λ r h. ap (id_of base) (name-push names (added_line (added_count ls)) r
      (omega (arith, n.long))))
      (ap (id_of base) (name-last names (added_line (added_count ls)) (length slots) n.long)
      ∙ (let e : base + (added_count ls + 1) ≡ new = omega arith in e))));
}

-- a line that deletes a clause of the store by its name
pub named_deleted : (given : Given) (slots : Slots) (names : List Name) (ls : List LogLine) (r : ℕ)
    (c : List Literal) → IsNamed given slots names ls → clause_at slots r ≡ Some c
    → IsNamed given (slice_set slots r None) names (ls ++ delete_line (name_at names r) ∷ [])
named_deleted given slots names ls r c n live = record {
  long = n.long ∙ sym (length-set slots r None);
  numbers = n.numbers;
  live = λ base above.
      let same : base + added_count (ls ++ delete_line (name_at names r) ∷ [])
      ≡ base + added_count ls =
      omega (arith, additions_push ls (delete_line (name_at names r))) in
      subst (λ (at : Clauses). AreLiveAs (λ s. id_of base (name_at names s))
      (slice_set slots r None) at
      (base + added_count (ls ++ delete_line (name_at names r) ∷ [])))
      (sym (deletes_live given base ls (name_at names r)))
      (subst (λ (last : ℕ). AreLiveAs (λ s. id_of base (name_at names s)) (slice_set slots r None)
      (λ i. if list_any (nat_eq i) (id_of base (name_at names r) ∷ []) then None
      else log_live given base ls i) last) (sym same)
      (live_deleted (λ s. id_of base (name_at names s)) slots (log_live given base ls)
      (base + added_count ls) r c (n.live base above) live));
}

-- the number in each clause's name is an id; so is that in the name of any other place
pub number_at : (names : List Name) (r : ℕ) → All (λ n. IsId (number_in n)) names
    → IsId (number_in (name_at names r))
number_at names r all = elim (cases_lt r (length names)) [
  | inl within ↦ all r (Formula 1) within
  | inr past ↦ subst (λ (n : Name). IsId (number_in n)) (sym (get_or_past names r (Formula 1) past))
      (omega arith, omega arith)
]
