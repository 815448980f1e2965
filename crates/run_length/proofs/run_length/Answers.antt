-- `run_length::run_length` meets its contract. Assumes nothing.
use mathlib.Core.Path.{refl}
use Rattle.std.proofs.lemmas.Result.{err_from_is_err_and}
use Rattle.format.specs.declared.Refusal.TheVariants.{Repeat, Points, Room}
use Rattle.run_length.proofs.Passes.{refused-code, refused-behind, stored-behind, unrolling-all}
use Rattle.laws.specs.First.{tests, flag_same}
use native.Mathlib.Omega.{arith}
use Rattle.run_length.proofs.run_length.Goals as goal

pub returns-in_err-coding : goal.returns-in_err-coding
returns-in_err-coding c =
    let p = err_from_is_err_and c.from_residual.result c.from_residual.ensures.1 in
    rw (p.1, p.2) (refused-code _ _ _ _ _ _ c.in_err-coding.ensures)

pub returns-then-repeats_first : goal.returns-then-repeats_first
returns-then-repeats_first c = let k = c.in_ok-coding.ensures in rw (← k.1, ← k.2) (refused-behind _ _ _ _ _ Repeat (omega (arith, tests, flag_same)))

pub returns-then-declared-gt-LIMIT : goal.returns-then-declared-gt-LIMIT
returns-then-declared-gt-LIMIT c = let k = c.in_ok-coding.ensures in rw (← k.1, ← k.2) (refused-behind _ _ _ _ _ Points (omega (arith, tests, flag_same)))

pub returns-then-unroll-count : goal.returns-then-unroll-count
returns-then-unroll-count c = let k = c.in_ok-coding.ensures in rw (← k.1, ← k.2) (refused-behind _ _ _ _ _ Points (omega (arith, tests, flag_same)))

pub returns-then-levels-count : goal.returns-then-levels-count
returns-then-levels-count c = let k = c.in_ok-coding.ensures in rw (← k.1, ← k.2) (refused-behind _ _ _ _ _ Room (omega (arith, tests, flag_same)))

pub returns : goal.returns
returns c =
    let k = c.in_ok-coding.ensures in
    rw (← k.1, ← k.2)
    (stored-behind _ _ _ _ _ (unrolling-all c.unroll.ensures c.if-unroll-count.false c.if-declared-gt-LIMIT.false _ c.if-levels-count.false refl c.unroll-2.ensures) (omega (arith, tests, flag_same)))
