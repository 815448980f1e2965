-- `coding::divisor_of` meets its contract. Assumes nothing.
use mathlib.Core.Path.{refl, sym, ◌∙◌}
use native.Mathlib.Omega.{arith}
use Rattle.coding.proofs.Divisors.{divisor-here, divisor-below, above-one}
use Rattle.coding.proofs.divisor_of.Goals as goal

pub loop-divisor-init : goal.loop-divisor-init
loop-divisor-init c = (omega arith, omega arith, refl)

pub loop-divisor-preserved : goal.loop-divisor-preserved
loop-divisor-preserved c =
    let inv = c.loop-divisor.invariant in
    let l = above-one _ _ inv.0 c.if-step-divisor-eq0.false in
    (omega arith, omega arith, inv.2 ∙ divisor-below _ _ c.if-step-divisor-eq0.false)

pub returns : goal.returns
returns c = let inv = c.loop-divisor.invariant in (sym (inv.2 ∙ divisor-here _ _ c.if-step-divisor-eq0.true), inv.1)
