-- The ids of clauses in the plain certificate: those of the formula keep theirs, clauses that lines
-- make follow them in their order, and additions come behind both.
use Rattle.std.specs.Prelude.{ℕ, zero, suc, ◌+◌, ◌-◌, List, [], ◌∷◌, Option, Some, None, nat_le}
use Rattle.std.specs.Prelude.{if◌then◌else◌}
use Rattle.std.specs.BTreeMap.{insert_entry, is_at}
use Rattle.std.specs.Map.{lookup, remove_entry}
use Rattle.std.specs.Ordering.{nat_cmp}

pub record Names : Type 0 where
  -- how many clauses the formula of the instance has
  pub given : ℕ
  -- how many there are with all that lines make
  pub all : ℕ
  -- how many clauses lines made so far
  pub made : ℕ
  -- by the ids of the live clauses that lines made, in rising order, their numbers in the whole
  -- formula
  pub places : List (ℕ × ℕ)

abbrev pub names_start : ℕ → ℕ → Names
names_start given all = record { given = given; all = all; made = 0; places = [] }

-- the id of an addition
abbrev pub added : Names → ℕ → ℕ
added n id = n.all + (id - n.given)

-- the id of a live clause
abbrev pub renumbered : Names → ℕ → ℕ
renumbered n id = if nat_le id n.given then id else by (lookup (is_at (nat_cmp id)) n.places)
  where
    by : Option ℕ → ℕ
    by None = added n id
    by (Some place) = place

-- a line made a clause, which has this id
abbrev pub named : ℕ → Names → Names
named id n = record n {
  made = n.made + 1;
  places = insert_entry nat_cmp n.places id (n.given + n.made + 1);
}

-- a line made `count` clauses, under the ids that follow the last one
abbrev pub named_all : ℕ → ℕ → Names → Names
named_all last zero n = n
named_all last (suc count) n = named_all (last + 1) count (named (last + 1) n)

-- clauses with these ids are live no more
abbrev pub forgotten : List ℕ → Names → Names
forgotten [] n = n
forgotten (id ∷ ids) n =
    forgotten ids (record n { places = remove_entry (is_at (nat_cmp id)) n.places })
