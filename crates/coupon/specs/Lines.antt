-- What the rules give for a row of days, the oldest first.
-- Assumes nothing.
use Rattle.std.specs.Prelude.{ℕ, ◌-◌, Bool, true, ◌&&◌, List, [], ◌∷◌, ◌++◌, map, ℤ, pos, negsuc, ◌+ℤ◌, ◌-ℤ◌, Some, None, Option, int_le}
use Rattle.quantity.specs.Benchmarks.{base_of}
use Rattle.quantity.specs.declared.date.Date.{Date}
use Rattle.quantity.specs.declared.year.YearBase.{YearBase}
use Rattle.rules.specs.declared.bounds.Bounds.{Bounds}
use Rattle.rules.specs.declared.observation.Observation.{Observation}
use Rattle.rules.specs.Accrual.{at_one, bounds_of, factor_of}
use Rattle.rules.specs.Accrual.{weight_of as weight_seen}
use Rattle.rules.specs.Chosen.{chosen_factor, chosen_bounds}
use Rattle.rules.specs.Rate.{rate_of, exact_rate_of, same, amount_of}
use Rattle.rules.specs.Rounding.{Fraction}
use Rattle.coupon.specs.declared.day.Day.{Day}
use Rattle.coupon.specs.declared.figures.Figures.{Figures}
use Rattle.coupon.specs.declared.line.Line.{Line}
use Rattle.coupon.specs.declared.terms.Terms.{Terms}

-- the day that a line bears
abbrev pub day_of : Line → Day
day_of l = l.day

abbrev pub days_of : List Line → List Day
days_of ls = map day_of ls

-- what a rule sees of a day
abbrev pub observation_of : Day → Observation
observation_of d = record { rate = d.rate; weight = d.weight }

abbrev pub seen : List Day → List Observation
seen ds = map observation_of ds

-- W, the sum of the weights
abbrev pub weight_of : List Day → ℕ
weight_of ds = weight_seen (seen ds)

-- the year base of the benchmark
abbrev pub year_base : Terms → YearBase
year_base t = base_of t.benchmark

-- the bounds of the factor, and the exact factor as a whole number over B^k
abbrev pub bounds_at : Terms → List Day → Bounds
bounds_at t ds = bounds_of (chosen_bounds t.rule (year_base t)) (seen ds)

abbrev pub factor_at : Terms → List Day → ℤ
factor_at t ds = factor_of (chosen_factor t.rule (year_base t)) (seen ds)

-- the exact rate
abbrev pub exact_rate_at : Terms → List Day → Fraction
exact_rate_at t ds = exact_rate_of (year_base t) (seen ds) (factor_at t ds)

-- the date that follows a row of days which begins at `start`
abbrev pub next_date : Date → List Day → Date
next_date start [] = start
next_date start (d ∷ ds) = next_date d.next ds

-- D, the days from the start to the day after the row
abbrev pub elapsed : Terms → List Day → ℕ
elapsed t ds = (next_date t.start ds).number - t.start.number

-- R, whether both bounds give it, and the cumulative amount, at the end of a row of at least one day
abbrev pub rate_at : Terms → List Day → ℤ
rate_at t ds = rate_of (year_base t) (weight_of ds) (bounds_at t ds).lo

abbrev pub settled_at : Terms → List Day → Bool
settled_at t ds = same (rate_of (year_base t) (weight_of ds) (bounds_at t ds).hi) (rate_at t ds)

abbrev pub amount_at : Terms → List Day → ℤ
amount_at t ds = amount_of (year_base t) t.amount.cents (rate_at t ds) t.margin.places (elapsed t ds)

-- the cumulative amount at the end of any row
abbrev pub cumulative_of : Terms → List Day → ℤ
cumulative_of t [] = pos 0
cumulative_of t (d ∷ ds) = amount_at t (d ∷ ds)

-- what a coupon comes to at the end of a row; nothing where there is no day
abbrev pub figures_of : Terms → List Day → Option Figures
figures_of t [] = None
figures_of t (d ∷ ds) = Some (record {
  note = t.note;
  start = t.start;
  end = t.end;
  reported = rate_at t (d ∷ ds);
  settled = settled_at t (d ∷ ds);
  cumulative = amount_at t (d ∷ ds);
})

-- the line of a day, after the days before it
abbrev pub line_after : Terms → List Day → Day → Line
line_after t ds d = record {
  day = d;
  total = record { days = weight_of (ds ++ d ∷ []) };
  bounds = bounds_at t (ds ++ d ∷ []);
  reported = rate_at t (ds ++ d ∷ []);
  settled = settled_at t (ds ++ d ∷ []);
  cumulative = amount_at t (ds ++ d ∷ []);
  daily = amount_at t (ds ++ d ∷ []) -ℤ cumulative_of t ds;
}

abbrev pub lines_from : Terms → List Day → List Day → List Line
lines_from t ds [] = []
lines_from t ds (e ∷ es) = line_after t ds e ∷ lines_from t (ds ++ e ∷ []) es

abbrev pub lines_of : Terms → List Day → List Line
lines_of t ds = lines_from t [] ds

-- the last line, or the one given where there are none
abbrev pub last_from : Option Line → List Line → Option Line
last_from p [] = p
last_from p (l ∷ ls) = last_from (Some l) ls

abbrev pub last_of : List Line → Option Line
last_of ls = last_from None ls

-- what the last line says, or what holds before the first
abbrev pub bounds_before : Option Line → Bounds
bounds_before None = at_one
bounds_before (Some l) = l.bounds

abbrev pub cumulative_before : Option Line → ℤ
cumulative_before None = pos 0
cumulative_before (Some l) = l.cumulative

-- the sum of the daily amounts
abbrev pub sum_of_daily : List Line → ℤ
sum_of_daily [] = pos 0
sum_of_daily (l ∷ ls) = l.daily +ℤ sum_of_daily ls

-- the difference of two such amounts fits 64 bits
abbrev pub is_modest : Line → Bool
is_modest l = int_le (negsuc 4399999999999999999) l.cumulative && int_le l.cumulative (pos 4400000000000000000)

abbrev pub all_modest : List Line → Bool
all_modest [] = true
all_modest (l ∷ ls) = is_modest l && all_modest ls
