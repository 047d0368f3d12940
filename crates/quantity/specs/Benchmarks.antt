-- Benchmarks: code, year base, and the step of the published rate.
-- Assumes nothing.
use Rattle.std.specs.Prelude.{◌≡◌, ◌≢◌, List, codes, Result, MatchResult, ℕ, ◌*◌, ◌%◌, ◌^◌, Bool, cond, ℤ, Some, None, Option, ◌==◌, unsigned_abs}
use Rattle.quantity.specs.declared.benchmark.UnknownBenchmark.{UnknownBenchmark}
use Rattle.quantity.specs.declared.benchmark.BenchmarkCode.{BenchmarkCode}
use Rattle.quantity.specs.declared.benchmark.BenchmarkCode.TheVariants.{Sofr, Sonia, Estr}
use Rattle.quantity.specs.declared.year.YearBase.{YearBase}
use Rattle.quantity.specs.declared.year.YearBase.TheVariants.{Days360, Days365}

-- the number of a benchmark in files
abbrev pub code_number : BenchmarkCode → ℕ
code_number Sofr = 1
code_number Sonia = 2
code_number Estr = 3

-- the benchmark of a number, or none
abbrev pub code_of : ℕ → Option BenchmarkCode
code_of n = cond (n == 1) (Some Sofr) (cond (n == 2) (Some Sonia) (cond (n == 3) (Some Estr) None))

-- the word for a benchmark
abbrev pub word_of : BenchmarkCode → List ℕ
word_of Sofr = codes "SOFR"
word_of Sonia = codes "SONIA"
word_of Estr = codes "ESTR"

-- the answer is the benchmark that has a word, or that none has it
abbrev pub IsNamed : List ℕ → Result BenchmarkCode UnknownBenchmark → Type 0
IsNamed word answer = MatchResult answer (λ b. word ≡ word_of b) (λ _. (b : BenchmarkCode) → word ≢ word_of b)

-- N, the days of a year base
abbrev pub days_in : YearBase → ℕ
days_in Days360 = 360
days_in Days365 = 365

-- B = N × 10^6
abbrev pub scale : YearBase → ℕ
scale base = days_in base * 10 ^ 6

-- the year base of a benchmark
abbrev pub base_of : BenchmarkCode → YearBase
base_of Sofr = Days360
base_of Sonia = Days365
base_of Estr = Days360

-- the ticks that each published rate is a multiple of
abbrev pub step_of : BenchmarkCode → ℕ
step_of Sofr = 100
step_of Sonia = 1
step_of Estr = 10

-- whether a rate is a multiple of the benchmark's step
unfoldable pub is_on_step : BenchmarkCode → ℤ → Bool
is_on_step b r = unsigned_abs r % step_of b == 0
