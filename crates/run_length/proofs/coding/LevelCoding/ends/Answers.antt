-- `run_length::LevelCoding::ends` meets its contract. Assumes nothing.
use Rattle.run_length.proofs.Codes.{ends-not}
use Rattle.run_length.proofs.coding.LevelCoding.ends.Goals as goal

pub returns-then-run-payload : goal.returns-then-run-payload
returns-then-run-payload c = search ends-not
