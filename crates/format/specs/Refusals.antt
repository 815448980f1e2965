-- Document 01, "What each number says", and 14 and 15 of document 02. Assumes nothing.
use Rattle.std.specs.Prelude.{ℕ, Bool, true, false, not, List, [], ◌∷◌, eqb, ltb}
use Rattle.format.specs.Lists.{whole_ones}
use Rattle.format.specs.declared.Refusal.{Refusal}
use Rattle.format.specs.declared.Refusal.TheVariants.{Splitting, Management, Order, Descriptors, Width, GroupCount, Short, GroupSize, Points, Room, Repeat, Beyond, Numbers, Section5, Place}
use Rattle.std.specs.declared.result.Result.{Result}
use Rattle.std.specs.declared.result.Result.TheVariants.{Ok, Err}

-- "No."
abbrev pub refusal_number : Refusal → ℕ
refusal_number Splitting = 1
refusal_number Management = 2
refusal_number Order = 3
refusal_number Descriptors = 4
refusal_number Width = 5
refusal_number GroupCount = 6
refusal_number Short = 7
refusal_number GroupSize = 8
refusal_number Points = 9
refusal_number Room = 10
refusal_number Repeat = 11
refusal_number Beyond = 12
refusal_number Numbers = 13
refusal_number Section5 = 14
refusal_number Place = 15

-- "Given when": a row is a test, and the refusal that is given when it holds
pub data Row : Type 0 where
  ◌gives◌ : Bool → Refusal → Row

infix 75 ◌gives◌
-- of the rows in an operation's order the first whose test holds refuses; where none does, a is answered
unfoldable pub first : {A : Type 0} → (Refusal → A) → List Row → A → A
first refused [] a = a
first refused (true gives r ∷ rows) a = refused r
first refused (false gives r ∷ rows) a = first refused rows a

-- "4,194,304": no more groups, points or numbers than that
abbrev pub limit : ℕ
limit = 4194304

-- 9: "points do not equal the declared count, or that count is above 4,194,304"
abbrev pub count_refusals : ℕ → ℕ → List Row
count_refusals points declared =
    not (eqb points declared) gives Points
    ∷ ltb limit declared gives Points
    ∷ []

-- 10: "a lent buffer is too small" for n things of a size
abbrev pub room_refusals : ℕ → List ℕ → ℕ → List Row
room_refusals size lent n =
    ltb (whole_ones size lent) n gives Room
    ∷ []

-- "The call returns the refusal's number, or 0."
abbrev pub answer_number : {A : Type 0} → Result A Refusal → ℕ
answer_number (Ok a) = 0
answer_number (Err r) = refusal_number r

-- what an operation comes to: its answer, and the buffer that was lent, as it is left
pub record Left (Answer : Type 0) : Type 0 where
  pub answer : Answer
  pub buffer : List ℕ

abbrev pub left : {Answer : Type 0} → Answer → List ℕ → Left Answer
left answer buffer = record { answer = answer; buffer = buffer }
