-- `groups::decoded` meets its contract. The check would find this with `nat_tests`; it stands here so that a failure names the
-- equation. Assumes nothing.
use mathlib.Core.Path.{◌∙◌}
use lib.Pow.{pow_pos}
use Rattle.groups.proofs.Decoding.{decoded-first, decoded-second, decoded-number}
use native.Mathlib.Omega.{arith}
use Rattle.groups.proofs.decoded.Goals as goal

pub returns-then-template-eq0 : goal.returns-then-template-eq0
returns-then-template-eq0 c = c.normal-point.ensures ∙ decoded-number _ _ _ _ (λ m e. omega arith) (λ m e. omega arith)

pub returns-then-read-greatest : goal.returns-then-read-greatest
returns-then-read-greatest c = decoded-first _ _ _ _ (omega arith) (omega arith)

pub returns-then-template-ne2 : goal.returns-then-template-ne2
returns-then-template-ne2 c = c.normal-point.ensures ∙ decoded-number _ _ _ _ (λ m e. omega (arith, pow_pos c.args.width)) (λ m e. omega arith)

pub returns-then-read-greatest-2 : goal.returns-then-read-greatest-2
returns-then-read-greatest-2 c = decoded-second _ _ _ _ (λ e. omega arith) (omega arith) (omega arith)

pub returns : goal.returns
returns c = c.normal-point.ensures ∙ decoded-number _ _ _ _ (λ m e. omega arith) (λ m e. omega (arith, pow_pos c.args.width))
