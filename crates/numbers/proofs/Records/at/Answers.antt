-- `numbers::Records::at` meets its contract. Assumes nothing.
use Rattle.std.proofs.Common.{List, get_or, sym, ap, ◌∙◌, arith}
use Rattle.format.specs.declared.Group.{Group}
use Rattle.laws.specs.Lists.{length-listed, get_or-listed}
use Rattle.numbers.proofs.Records.at.Goals as goal

pub group_in-requires : goal.group_in-requires
group_in-requires c = let l = rw (← c.self.view_is, length-listed) at c.requires in omega arith

pub returns : goal.returns
returns c = λ d.
    c.group_in.ensures ∙ sym (get_or-listed _ _ d _ (rw (← c.self.view_is, length-listed) at c.requires))
    ∙ ap (λ (l : List Group). get_or l c.args.k d) c.self.view_is
