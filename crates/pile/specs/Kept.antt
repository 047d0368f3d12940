-- A layer over a lawful pile is lawful.
-- Assumes nothing.
use Rattle.std.specs.Prelude.{◌≡◌, ℤ}
use Rattle.pile.specs.Piles.{Pile, Lawful}
use Rattle.pile.specs.Layers.{Rates, over}

pub over_lawful : (f : ℤ → ℤ) (rates : Rates) (m : Pile) → Lawful m → Lawful (over f rates m)
over_lawful f rates m h = record {
  some = h.some;
  few = h.few;
  has_day = h.has_day;
  rises = h.rises;
  gaps = h.gaps;
  span = h.span;
  no_day = h.no_day;
  no_weight = λ i e. simp e;
  no_rate = λ i e. simp e;
}

-- so is what is made like one
pub layered_lawful : (f : ℤ → ℤ) (rates : Rates) (m l : Pile) → l ≡ over f rates m → Lawful m → Lawful l
layered_lawful f rates m l e h = rw e (over_lawful f rates m h)
