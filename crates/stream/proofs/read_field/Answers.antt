-- `stream::read_field` meets its contract. Assumes nothing.
use Rattle.std.proofs.Common.{◌≡◌, length, take, arith}
use Rattle.std.proofs.lemmas.List.{length-take-le}
use Rattle.format.specs.Bits.{read_field}
use Rattle.laws.specs.First.{clears, tests}
use Rattle.laws.specs.Lists.{length-listed}
use Rattle.stream.proofs.read_field.Goals as goal

pub returns : goal.returns
unfolding read_field
returns c =
    let a = c.args in
    let n : length (take a.count a.numbers.now) ≡ a.count = length-take-le a.count a.numbers.now (omega arith) in
    rw (c.fill.ensures, n) (simp length-listed (clears _ _ _ (omega (arith, tests))))
