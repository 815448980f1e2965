-- `stream::fill` meets its contract. Assumes nothing.
use Rattle.std.proofs.Common.{sym, ◌∙◌, ◌*◌, ◌+◌, ℕ, length, arith}
use Rattle.std.proofs.lemmas.List.{ext_get_or}
use Rattle.format.specs.Bits.{number_at}
use Rattle.laws.specs.Lists.{length-listed, get_or-listed}
use Rattle.stream.proofs.fill.Goals as goal

pub returns : goal.returns
returns c =
    let a = c.args in
    let f = λ (k : ℕ). number_at a.octets.now (a.start.0 + k * a.width) a.width in
    ext_get_or 0 c.loop-k.numbers _ (omega (arith, length-listed (length a.numbers.now) f)) (λ k l. c.loop-k.invariant k (omega arith) ∙ sym (get_or-listed (length a.numbers.now) f 0 k (omega arith)))
