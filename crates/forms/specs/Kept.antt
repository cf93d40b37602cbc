-- How the state of forms is kept.
use Rattle.std.specs.Prelude.{ℕ, ◌+◌, ◌*◌, ◌<◌, ◌≤◌, ◌^◌, All, length}
use Rattle.linear.specs.Costs.{width_of}
use Rattle.forms.specs.declared.state.Forms.TheInside.{Inside}
use Rattle.forms.specs.declared.faults.TheConstants.{MOST_COUNT_CLAUSES, MOST_TERMS}
use Rattle.forms.specs.Forms.{Forms}
use Rattle.forms.specs.Stamped.{AreStamped, numbered_in}
use Rattle.forms.specs.Within.{IsStampedWithin}

abbrev pub forms_in : Inside → Forms
forms_in f = record {
  variables = f.variables;
  form = (f.bound).form;
  has_form = f.has_form;
  numbered = numbered_in f.present f.numbered.items;
  made = f.made;
  terms = f.terms;
}

-- the most that the form may add to the cost, after `terms` terms and `made` clauses of counts
abbrev pub most_mass : ℕ → ℕ → ℕ
most_mass terms made = terms * 2 ^ 62 * (3 + 2 * made)

pub record AreFormsKept (f : Inside) : Type 0 where
  -- each variable has a place
  pub width : f.variables < width_of (f.bound).form
  pub marks : 2 * f.variables ≤ length f.marks
  -- counts make at most one variable for each clause
  pub variables : f.variables < 2 ^ 25 + f.made
  pub made : f.made ≤ MOST_COUNT_CLAUSES
  pub terms : f.terms ≤ MOST_TERMS
  pub mass : (f.bound).mass ≤ most_mass f.terms f.made
  pub within : All (IsStampedWithin f.variables f.terms) f.numbered.items
  pub stamped : AreStamped f.present f.numbered.items
