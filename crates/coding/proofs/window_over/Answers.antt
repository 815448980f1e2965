-- `coding::window_over` meets its contract. Assumes nothing.
use Rattle.std.proofs.Common.{arith, ◌∙◌, ap}
use Rattle.numbers.specs.Windows.{window_of}
use Rattle.coding.proofs.Firsts.{window-first, window-next, firsts-all}
use Rattle.coding.proofs.window_over.Goals as goal

pub loop-k-init : goal.loop-k-init
loop-k-init g c =
    window-first g.coded c.args.records.now c.requires.1.0 c.at.ensures ((c.requires.1.1 _).1 _ c.number.ensures) c.of-window.ensures

pub loop-k-preserved : goal.loop-k-preserved
loop-k-preserved g c =
    window-next g.coded c.args.records.now c.loop-k.k (omega arith) (omega arith) c.loop-k.invariant c.at-in-loop-k.ensures ((c.requires.1.1 _).1 _ c.number-in-loop-k.ensures) c.widened-window.ensures

pub returns : goal.returns
returns g c = c.loop-k.invariant ∙ ap window_of (firsts-all g.coded c.args.records.now c.loop-k.k (omega arith))
