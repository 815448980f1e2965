-- Demand 3, whole. Assumes nothing.
use Rattle.one_packing.specs.Claims.{DemandThree}
use Rattle.one_packing.proofs.RoundTrip.{round_trip}
use Rattle.one_packing.proofs.Again.{repackable, canonical, idempotent}
use Rattle.one_packing.proofs.Packing.{by-packing, by-packing-alone}

pub demand-three : DemandThree
demand-three = (round_trip 0, repackable, canonical 0, idempotent 0, by-packing, by-packing-alone)
