-- `section7::write_section7` meets its contract. Assumes nothing.
use Rattle.std.proofs.Common.{length, rules, arith}
use Rattle.section7.proofs.Values.{countable, size-string}
use Rattle.section7.proofs.Aligned.{part-ready, part-done}
use Rattle.writer.proofs.Pens.{fresh-ready}
use Rattle.section7.proofs.Payload.{passing, references-written, widths-written, lengths-written, references-room, widths-room, lengths-room, values-room, payload-refused, payload-written}
use Rattle.section7.proofs.write_section7.Goals as goal

pub value_bits-requires : goal.value_bits-requires
value_bits-requires c = countable c.requires.0

pub parts_of-places-requires : goal.parts_of-places-requires
parts_of-places-requires c = let h = c.requires.0 in (passing h c.requires.1, omega arith, omega arith)

pub returns-then-payload-places : goal.returns-then-payload-places
returns-then-payload-places c = payload-refused c.requires.0 c.requires.1 c.value_bits.ensures.0 c.parts_of-places.ensures c.args.payload.now (omega arith)

pub write_codes-requires : goal.write_codes-requires
write_codes-requires c = record {
  codes = references-written c.requires.0 c.requires.1;
  room = references-room c.requires.0 c.requires.1 c.value_bits.ensures.0 c.parts_of-places.ensures (omega arith);
}

pub write_codes-requires-2 : goal.write_codes-requires-2
write_codes-requires-2 c = record {
  codes = widths-written c.requires.0 c.requires.1;
  room = widths-room c.requires.0 c.requires.1 c.value_bits.ensures.0 c.parts_of-places.ensures (omega arith);
}

pub write_codes-requires-3 : goal.write_codes-requires-3
write_codes-requires-3 c = record {
  codes = lengths-written c.requires.0 c.requires.1 c.but_last.ensures;
  room = lengths-room c.requires.0 c.requires.1 c.value_bits.ensures.0 c.parts_of-places.ensures (omega arith) c.but_last.ensures;
}

pub put_values-pen-requires-clause-ready : goal.put_values-pen-requires-clause-ready
put_values-pen-requires-clause-ready c =
    fresh-ready c.at.ensures _ (values-room c.requires.0 c.requires.1 c.value_bits.ensures.0 c.parts_of-places.ensures (omega arith))

pub finish-requires : goal.finish-requires
finish-requires c =
    let h = c.requires.0 in
    let room = values-room h c.requires.1 c.value_bits.ensures.0 c.parts_of-places.ensures {long = length c.write_codes-3.new.payload} (omega arith) in
    part-ready c.at.ensures c.put_values-pen.ensures 0 (omega (arith, size-string c.args.numbers.now c.args.records.now h.each, room))

pub returns : goal.returns
returns c =
    let h = c.requires.0 in
    let room = values-room h c.requires.1 c.value_bits.ensures.0 c.parts_of-places.ensures {long = length c.write_codes-3.new.payload} (omega arith) in
    let values = part-done c.at.ensures c.put_values-pen.ensures (omega (arith, size-string c.args.numbers.now c.args.records.now h.each, room)) (λ k. search rules) c.finish.ensures in
    payload-written h c.requires.1 c.value_bits.ensures.0 c.parts_of-places.ensures c.args.payload.now (omega arith) c.write_codes.ensures c.write_codes-2.ensures c.but_last.ensures c.write_codes-3.ensures values
