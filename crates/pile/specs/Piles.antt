-- What a pile of observations means, and what every pile keeps.
-- Assumes nothing.
use Rattle.std.specs.Prelude.{◌≡◌, ℕ, ◌+◌, ◌<◌, ◌≤◌, true, false, ℤ, pos, ◌+ℤ◌, Ok, Err, Result}
use Rattle.quantity.specs.declared.date.Date.{Date}
use Rattle.quantity.specs.declared.weight.Weight.{Weight}
use Rattle.quantity.specs.declared.fault.Fault.{Fault}
use Rattle.schedule.specs.Positions.{within}
use Rattle.pile.specs.Faults.{outside}
use Rattle.pile.specs.declared.observations.ObservedRate.{ObservedRate}

-- a day for each position -64 to n, and for each position -64 to n - 1 a weight, and a rate with its observed date; or a fault
pub record Pile : Type 0 where
  pub n : ℕ
  pub day : ℤ → Result Date Fault
  pub weight : ℤ → Result Weight Fault
  pub rate : ℤ → Result ObservedRate Fault

-- What every pile keeps. Dates, weights and rates are in range by their types.
pub record Lawful (m : Pile) : Type 0 where
  pub some : 1 ≤ m.n
  pub few : m.n ≤ 400
  pub has_day : (i : ℤ) → within (m.n + 1) i ≡ true → (d : Date) × (m.day i ≡ Ok d)
  pub rises : (i : ℤ) (d e : Date) → within m.n i ≡ true → m.day i ≡ Ok d → m.day (i +ℤ pos 1) ≡ Ok e → d.number < e.number
  pub gaps : (i : ℤ) (d e : Date) → within m.n i ≡ true → m.day i ≡ Ok d → m.day (i +ℤ pos 1) ≡ Ok e → e.number ≤ d.number + 15
  pub span : (d e : Date) → m.day (pos 0) ≡ Ok d → m.day (pos m.n) ≡ Ok e → e.number ≤ d.number + 400
  pub no_day : (i : ℤ) → within (m.n + 1) i ≡ false → m.day i ≡ Err (outside i)
  pub no_weight : (i : ℤ) → within m.n i ≡ false → m.weight i ≡ Err (outside i)
  pub no_rate : (i : ℤ) → within m.n i ≡ false → m.rate i ≡ Err (outside i)
