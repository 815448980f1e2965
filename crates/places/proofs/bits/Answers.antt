-- `places::bits` meets its contract. Assumes nothing.
use native.Mathlib.Omega.{arith}
use Rattle.laws.specs.Digits.{bits_in, leading-digits}
use Rattle.places.proofs.bits.Goals as goal

pub returns : goal.returns
returns c = omega (arith, leading-digits 32 c.args.x, bits_in 32 c.args.x (omega arith))
