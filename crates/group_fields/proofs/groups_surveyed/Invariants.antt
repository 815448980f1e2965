-- What the loop of `group_fields::groups_surveyed` keeps. Assumes nothing.
use Rattle.groups.specs.Groups.{codes_in}
use Rattle.group_fields.proofs.Walked.{Walked}
use Rattle.group_fields.proofs.groups_surveyed.Given as goal

abbrev pub invariant-loop-g : goal.invariant-loop-g
invariant-loop-g l = Walked l.groups.template (codes_in l.groups) l.place l.holder l.walk l.g
