-- A check of some rows goes first: what it refuses is refused, and where it passes, the rows behind it decide. Assumes nothing.
use mathlib.Core.Path.{◌≡◌, sym, ap, ◌∙◌}
use mathlib.Core.Bool.{true, false}
use mathlib.Core.List.{List, [], ◌∷◌, ◌++◌}
use Prim.Native.Nat.{ℕ}
use native.Mathlib.Omega.{arith}
use Rattle.std.specs.Result.{IsErrAnd}
use Rattle.std.specs.declared.result.Result.{Result}
use Rattle.std.specs.declared.result.Result.TheVariants.{Ok, Err}
use Rattle.format.specs.Refusals.{Row, ◌gives◌, first}
use Rattle.format.specs.declared.Refusal.{Refusal}
use Rattle.laws.specs.First.{Clear, passed, first-joined, clears}

-- a refusal that `?` passes on is the answer, where that is what the answer is to be
pub passed_on : {A : Type 0} {y z : Result A Refusal} {r : Refusal} → IsErrAnd y (λ e. e ≡ r) → Err r ≡ z → y ≡ z
passed_on {y = Ok x} h e = absurd h
passed_on {y = Err q} h e = ap Err h ∙ e

pub check-passed : (rows : List Row) {x : Result (Unit {0}) Refusal} → x ≡ first Err rows (Ok tt) → x ≡ Ok tt → Clear rows
check-passed rows e d = (passed Err rows (Ok tt) (sym d ∙ e) (λ r z. (let d : ◌≡◌ {A = ℕ} 0 1 = cc in omega arith))).0

module _ {A : Type 0} (more : List Row) (a : Result A Refusal) where
  pub check-refused : (rows : List Row) {x : Result (Unit {0}) Refusal} {r : Refusal} → x ≡ first Err rows (Ok tt) → x ≡ Err r → Err r ≡ first Err (rows ++ more) a
  unfolding first
  check-refused [] e d = absurd (let d : ◌≡◌ {A = ℕ} 0 1 = cc in omega arith)
  check-refused (true gives q ∷ rows) {r = r} e d = let same : r ≡ q = cc in rw same
  check-refused (false gives q ∷ rows) e d = check-refused rows e d

  pub check-left : (rows : List Row) → Clear rows → first Err more a ≡ first Err (rows ++ more) a
  check-left rows clear = clears Err rows (first Err more a) clear ∙ sym (first-joined Err rows more a)
