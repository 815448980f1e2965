-- What the loop of `grouping::Rule::next_group` keeps. Assumes nothing.
use Rattle.grouping.specs.Rule.{Known}
use Rattle.grouping.proofs.Taking.{Open}
use Rattle.grouping.proofs.Rule.next_group.Given as goal

abbrev pub invariant-loop-end : goal.invariant-loop-end
invariant-loop-end l =
    Open l.self.numbers.now l.self.lookahead l.self.added l.start l.window l.width l.end × Known l.self.numbers.now l.self.lookahead l.end l.level
