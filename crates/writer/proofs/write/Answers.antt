-- `writer::write` meets its contract. Assumes nothing.
use Rattle.writer.proofs.Jobs.{job-room, job-ready, job-finish, job-done}
use native.Mathlib.Omega.{arith}
use Rattle.writer.proofs.write.Goals as goal

pub bounds-octets-0 : goal.bounds-octets-0
bounds-octets-0 c = job-room c.requires

pub put_all-requires-clause-ready : goal.put_all-requires-clause-ready
put_all-requires-clause-ready c = job-ready c.requires

pub finish-requires : goal.finish-requires
finish-requires c = job-finish c.requires c.put_all.ensures

pub returns : goal.returns
returns c = job-done c.requires c.put_all.ensures (omega arith) c.cut.ensures c.finish.ensures
