-- `runs::code_count` meets its contract. Assumes nothing.
use Rattle.std.proofs.Common.{ℕ, ◌+◌, ◌-◌, ◌∙◌, ap, inl, refl, arith}
use Rattle.std.proofs.lemmas.Iterator.Consumers.{count_from_yields_List, YieldsList-from_first}
use Rattle.format.specs.WritingRunLength.{digits_of}
use Rattle.runs.specs.declared.Digits.{Digits}
use Rattle.runs.proofs.DigitsOf.{digits-few}
use Rattle.runs.proofs.Codes.{count-repeated, count-digits}
use Rattle.runs.proofs.code_count.Goals as goal

pub returns-then-coding-lt2 : goal.returns-then-coding-lt2
returns-then-coding-lt2 c = count-repeated _ _ _ c.if-coding-lt2.true

pub count-requires-clause-fits : goal.count-requires-clause-fits
count-requires-clause-fits c = inl (omega (arith, digits-few c.args.coding.base (omega arith) (c.args.run.length - 1)))

pub overflow_add-result : goal.overflow_add-result
overflow_add-result c = record { fits = omega (arith, c.count.ensures.bound, digits-few c.args.coding.base (omega arith) (c.args.run.length - 1)) }

pub returns : goal.returns
returns c =
    let e = count_from_yields_List _ _ c.count.ensures.ran (YieldsList-from_first (λ (x : ℕ). x) (λ (d : Digits). digits_of d.base d.rest) _ refl) in
    ap (λ (n : ℕ). 1 + n) e ∙ count-digits c.args.coding.greatest _ _ c.if-coding-lt2.false
