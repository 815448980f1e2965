-- The digits come one by one. Assumes nothing.
use Rattle.std.proofs.Common.{◌∙◌, ap, length, arith, rules}
use Rattle.format.specs.WritingRunLength.{digits_of}
use Rattle.runs.proofs.DigitsOf.{digits-next, digits_last, digits-none}
use Rattle.runs.proofs.DigitsIterator.next.Goals as goal

pub returns-then-self-eq0-clause-steps : goal.returns-then-self-eq0-clause-steps
returns-then-self-eq0-clause-steps c =
    let e = ap (digits_of c.args.self.now.base) c.if-self-eq0.true ∙ digits-none c.args.self.now.base in
    (e, e)

pub returns-then-rest-self-clause-steps : goal.returns-then-rest-self-clause-steps
returns-then-rest-self-clause-steps c = digits_last _ c.args.self.now.some _ (omega arith) c.if-rest-self.true

pub returns-then-rest-self-clause-goes : goal.returns-then-rest-self-clause-goes
returns-then-rest-self-clause-goes c =
    let e = ap length (digits_last _ c.args.self.now.some _ (omega arith) c.if-rest-self.true) in
    search rules

pub returns-clause-steps : goal.returns-clause-steps
returns-clause-steps c = digits-next _ c.args.self.now.some _ (omega arith)

pub returns-clause-goes : goal.returns-clause-goes
returns-clause-goes c =
    let e = ap length (digits-next _ c.args.self.now.some c.args.self.now.rest (omega arith)) in
    search rules
