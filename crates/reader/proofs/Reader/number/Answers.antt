-- `reader::Reader::number` meets its contract. The check would find this; it stands here so that a failure names the bound.
-- Assumes nothing.
use mathlib.Core.Path.{◌≡◌, sym, ◌∙◌, refl}
use mathlib.Core.Bool.{Bool, false}
use mathlib.Core.List.{List}
use Prim.Native.Nat.{ℕ, ◌<◌}
use native.Mathlib.Omega.{arith}
use lib.ListN.{length}
use borrow.Author.Tests.{lt-ltb}
use Rattle.std.specs.declared.result.Result.{Result}
use Rattle.std.specs.declared.result.Result.TheVariants.{Err}
use Rattle.format.specs.Bits.{span_of}
use Rattle.format.specs.Refusals.{first}
use Rattle.format.specs.declared.Refusal.TheVariants.{Short}
use Rattle.stream.specs.declared.Cursor.{Cursor}
use Rattle.reader.specs.Reading.{outside, taken_at}
use Rattle.reader.proofs.Reader.number.Goals as goal

-- too few octets are 7
short : (octets : List ℕ) (c : Cursor) → outside c ≡ false → length octets < span_of c.place.0 c.width c.left → Err Short ≡ taken_at octets c
unfolding taken_at first
short octets c h l = rw (h, lt-ltb (length octets) (span_of c.place.0 c.width c.left) l) refl

pub returns-then-self-reach : goal.returns-then-self-reach
returns-then-self-reach c = short c.args.self.octets.now c.args.self.cursor (sym c.is_outside.ensures ∙ c.if-is_outside.false) (omega arith)
