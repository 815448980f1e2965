-- `writer::any_too_large` meets its contract. Assumes nothing.
use mathlib.Core.Path.{◌≡◌, refl, ◌∙◌}
use mathlib.Core.Bool.{Bool, ◌||◌}
use Prim.Native.Nat.{ℕ, ◌^◌}
use lib.Dec.{leb}
use Rattle.std.specs.List.{list_any}
use Rattle.std.proofs.Common.{rules, tests}
use Rattle.std.proofs.lemmas.Iterator.{YieldsList-from_slice}
use Rattle.std.proofs.lemmas.Iterator.Search.{any_from_yields_List}
use Rattle.std.proofs.lemmas.List.Recursion.{same_from_clauses}
use Rattle.format.specs.Lists.{any_of}
use Rattle.writer.proofs.any_too_large.Goals as goal

pub returns : goal.returns
unfolding any_of
returns c =
    let xs = c.args.numbers.now in
    let large : ℕ → Bool = leb (2 ^ c.args.width) in
    let by_call : c.any.result ≡ list_any large xs =
    any_from_yields_List large _ _ c.any.result c.any.ensures.ran (YieldsList-from_slice xs cc) (λ x b q k. search (rules, tests)) in
    by_call ∙ same_from_clauses (list_any large) (any_of large) (λ (x : ℕ) (r : Bool). large x || r) refl (λ _ _. refl) (λ _ _. refl) xs
