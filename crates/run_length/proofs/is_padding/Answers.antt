-- `run_length::is_padding` meets its contract. Assumes nothing.
use Rattle.run_length.proofs.Codes.{padding-many, padding-is}
use native.Mathlib.Omega.{arith}
use Rattle.run_length.proofs.is_padding.Goals as goal

pub returns-then-run-eq0 : goal.returns-then-run-eq0
returns-then-run-eq0 c = padding-many _ _ (omega arith)

pub returns-then-run-payload : goal.returns-then-run-payload
returns-then-run-payload c = padding-many _ _ (omega arith)

pub returns : goal.returns
returns c = padding-is _ _ _ (omega arith) (omega arith) (omega arith) c.read_in_octet.ensures
