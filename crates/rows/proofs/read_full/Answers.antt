-- `rows::read_full` meets its contract: what one read gave stands behind what was there. Assumes nothing.
use Rattle.std.proofs.Common.{◌≡◌, ℕ, ◌+◌, ◌≤◌, List, ◌++◌, rules, length, take, sym, ap, ◌∙◌, subst, length-take-le}
use Rattle.std.proofs.Math.Seq.{take-append-add}
use Rattle.std.proofs.lemmas.List.{take-append-le}
use Rattle.std.specs.Io.KnownBytes.{Consumes}
use Rattle.std.proofs.KnownBytes.{Consumes-trans}
use borrow.Rule.Slice.PartMut.{put_mid, post_of}
use Rattle.rows.proofs.read_full.Goals as goal

grown : (at room n : ℕ) (xs ys : List ℕ) → at ≤ length xs → n ≤ length ys → take at xs ++ take n ys ≡ take (at + n) (put_mid at room xs ys)
grown at room n xs ys within fits =
    sym
    (ap (λ m. take (m + n) (put_mid at room xs ys)) (sym (length-take-le at xs within))
    ∙ take-append-add (take at xs) (ys ++ post_of at room xs) n
    ∙ ap (λ l. take at xs ++ l) (take-append-le n ys (post_of at room xs) fits))

pub loop-at-preserved : goal.loop-at-preserved
loop-at-preserved g c = (
  search rules,
  subst (Consumes _ _)
      (grown c.loop-at.at _ c.in_ok-count.count c.loop-at.octets c.read.new.buf c.loop-at.invariant.0 c.in_ok-count.ensures.bound.0)
      (Consumes-trans _ _ _ _ _ c.loop-at.invariant.1 c.in_ok-count.ensures.bytes.0),
)
