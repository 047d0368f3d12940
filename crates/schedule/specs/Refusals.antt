-- When a schedule is not built.
-- Assumes nothing.
use Rattle.std.specs.Prelude.{◌≡◌, ℕ, ◌+◌, ◌<◌, ◌≤◌, Bool, true, false, ◌⊎◌}
use Rattle.quantity.specs.Refusals.{Told, plain}
use Rattle.schedule.specs.Rank.{rank}

-- two good days over 15 days apart, with none between, among positions -64 to n: the first is at most 64 good days before the start
pub record Far (good : ℕ → Bool) (start end : ℕ) : Type 0 where
  pub first : ℕ
  pub second : ℕ
  pub first_good : good first ≡ true
  pub second_good : good second ≡ true
  pub none : (x : ℕ) → first < x → x < second → good x ≡ false
  pub apart : first + 15 < second
  pub low : rank good start ≤ rank good first + 64
  pub high : second ≤ end

-- why a schedule is not built
pub data Reason : Type 0 where
  period : Reason
  not_good : Reason
  apart : Reason

-- the number of its refusal
abbrev pub number : Reason → ℕ
number period = 7
number not_good = 8
number apart = 9

-- what each says
abbrev pub Says : (ℕ → Bool) → ℕ → ℕ → Reason → Type 0
Says good start end period = (end ≤ start) ⊎ (start + 400 < end)
Says good start end not_good = (good start ≡ false) ⊎ (good end ≡ false)
Says good start end apart = (rank good start < 64) ⊎ Far good start end

-- what a refusal says is true, and nothing under a smaller number is
pub record Refused (good : ℕ → Bool) (start end : ℕ) (t : Told) : Type 0 where
  pub reason : Reason
  pub number_is : t ≡ plain (number reason)
  pub true_here : Says good start end reason
  pub smallest : (q : Reason) → number q < number reason → Says good start end q → ⊥
