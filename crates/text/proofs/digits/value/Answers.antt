-- The digits are all bytes.
use Rattle.std.proofs.Common.{◌≡◌, true, ap, sym, ◌∙◌, arith, take_all}
use Rattle.std.specs.Prelude.{Some}
use Rattle.std.specs.List.{list_all}
use Rattle.std.proofs.lemmas.Bool.{cond-true}
use Rattle.text.specs.Text.{is_digit, value_on, capped}
use Rattle.text.proofs.CappedNumbers.{all_digits}
use Rattle.text.proofs.digits.value.Goals as goal

pub returns : goal.returns
returns c =
    let ds = c.args.digits.now in
    let found = c.leading_digits-value.ensures in
    let all : list_all is_digit ds ≡ true =
    all_digits ds (λ k l. found.digits k (omega arith)) in
    ap Some (found.value ∙ ap (λ xs. capped (value_on 0 xs)) (take_all _ ds (omega arith)))
    ∙ sym (cond-true _ _ _ all)
