-- `section7::put_codes` meets its contract. Assumes nothing.
use Rattle.std.proofs.Common.{map, arith}
use Rattle.writer.proofs.Jobs.{none-moved}
use Rattle.section7.specs.Parts.{bits_of, code_of}
use Rattle.section7.proofs.Codes.{code-ready, code-moved, codes-moved}
use Rattle.section7.proofs.put_codes.Goals as goal

pub loop-k-init : goal.loop-k-init
loop-k-init c = none-moved (bits_of c.args.coding) (map (code_of c.args.coding) c.args.records.now) c.args.pen c.args.payload.now

pub code_of-code-requires : goal.code_of-code-requires
code_of-code-requires c = c.requires.codes.coded c.loop-k.k _ (omega arith) c.at.ensures

pub put-here-requires-clause-ready : goal.put-here-requires-clause-ready
put-here-requires-clause-ready c =
    rw c.bits-bits.ensures (code-ready (code_of c.args.coding) (bits_of c.args.coding) c.args.records.now c.loop-k.k (omega arith) c.loop-k.invariant c.requires.ready)

pub put-here-requires-clause-width_bound : goal.put-here-requires-clause-width_bound
put-here-requires-clause-width_bound c =
    rw c.bits-bits.ensures (c.requires.codes.top, rw c.code_of-code.ensures (c.requires.codes.fit c.loop-k.k _ (omega arith) c.at.ensures))

pub loop-k-preserved : goal.loop-k-preserved
loop-k-preserved c =
    code-moved (code_of c.args.coding) (bits_of c.args.coding) c.args.records.now c.loop-k.k (omega arith) c.loop-k.invariant c.at.ensures c.code_of-code.ensures (rw c.bits-bits.ensures at c.put-here.ensures)

pub returns : goal.returns
returns c = codes-moved (code_of c.args.coding) (bits_of c.args.coding) c.args.records.now c.loop-k.k (omega arith) c.loop-k.invariant
