-- `writer::write_field` meets its contract. Assumes nothing.
use Rattle.format.specs.Bits.{write_field}
use Rattle.format.specs.declared.Refusal.TheVariants.{Width, Numbers, Room}
use Rattle.laws.specs.First.{decides, tests, flag_same}
use Rattle.writer.proofs.Jobs.{field-written, field-empty}
use native.Mathlib.Omega.{arith}
use borrow.Author.Rules.{rules}
use Rattle.writer.proofs.write_field.Goals as goal

pub returns-then-width-eq0 : goal.returns-then-width-eq0
unfolding write_field
returns-then-width-eq0 c = decides _ Width _ _ (omega (arith, tests))

pub returns-then-width-gt32 : goal.returns-then-width-gt32
unfolding write_field
returns-then-width-gt32 c = decides _ Width _ _ (omega (arith, tests))

pub returns-then-start-gt7 : goal.returns-then-start-gt7
unfolding write_field
returns-then-start-gt7 c = decides _ Width _ _ (omega (arith, tests))

pub returns-then-any_too_large : goal.returns-then-any_too_large
unfolding write_field
returns-then-any_too_large c = decides _ Numbers _ _ (omega (arith, tests, flag_same))

pub returns-then-octets-span : goal.returns-then-octets-span
unfolding write_field
returns-then-octets-span c = decides _ Room _ _ (omega (arith, tests, flag_same))

pub write-requires : goal.write-requires
write-requires c = record {
  low = omega arith;
  pos = omega arith;
  top = omega arith;
  fit = cc;
  room = omega arith;
  some = grind (arith, tests);
}

pub returns-then-not-is_empty : goal.returns-then-not-is_empty
returns-then-not-is_empty c = field-written _ _ _ _ (search rules) (omega (arith, tests, flag_same)) (search rules)

pub returns-else-not-is_empty : goal.returns-else-not-is_empty
returns-else-not-is_empty c = field-empty _ _ _ _ (search rules) (omega (arith, tests, flag_same)) (grind (arith, tests))
