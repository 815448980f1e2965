-- `section7::write_codes` meets its contract. Assumes nothing.
use Rattle.std.proofs.Common.{map, ◌++◌, arith, rules}
use Rattle.section7.specs.Parts.{bits_of, code_of}
use Rattle.section7.proofs.Aligned.{none-set, codes-ready, last-ready, all_ready, all_done}
use Rattle.section7.proofs.write_codes.Goals as goal

pub returns-then-bits-eq0 : goal.returns-then-bits-eq0
returns-then-bits-eq0 c = none-set (bits_of c.args.coding) (map (code_of c.args.coding) c.args.records.now ++ c.args.behind.now) c.args.payload.now c.args.place.0 (omega arith)

pub put_codes-pen-requires : goal.put_codes-pen-requires
put_codes-pen-requires c = record {
  codes = (c.requires.codes (omega arith)).0;
  ready = codes-ready (code_of c.args.coding) (bits_of c.args.coding) c.args.records.now c.args.behind.now c.at.ensures c.requires.room;
}

pub put_all-pen-requires : goal.put_all-pen-requires
put_all-pen-requires c =
    let codes = c.requires.codes (omega arith) in
    rw c.bits-bits.ensures (record {
      ready = last-ready (code_of c.args.coding) (bits_of c.args.coding) c.args.records.now c.args.behind.now c.at.ensures c.requires.room c.put_codes-pen.ensures;
      width_bound = (codes.0.top, codes.1);
    })

pub finish-requires : goal.finish-requires
finish-requires c =
    all_ready (code_of c.args.coding) (bits_of c.args.coding) c.args.records.now c.args.behind.now c.at.ensures c.requires.room c.put_codes-pen.ensures (rw c.bits-bits.ensures at c.put_all-pen.ensures)

pub returns : goal.returns
returns c =
    all_done (code_of c.args.coding) (bits_of c.args.coding) c.args.records.now c.args.behind.now c.at.ensures c.requires.room c.put_codes-pen.ensures (rw c.bits-bits.ensures at c.put_all-pen.ensures) (λ k. search rules) c.finish.ensures
