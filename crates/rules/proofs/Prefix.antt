-- A run one observation longer, and bounds that stay in reach.
-- Assumes nothing.
use Rattle.std.proofs.Common.{◌≡◌, ℕ, suc, ◌+◌, ◌*◌, ◌^◌, ◌<◌, ◌≤◌, true, List, [], ◌∷◌, ◌++◌, length, get_or, take, ℤ, pos, ◌*ℤ◌, ◌≤ℤ◌, sym, ap, ◌∙◌, le_of_mul-le-mul_right, arith, length-take}
use borrow.Author.Differences.{up, down}
use Rattle.std.proofs.lemmas.List.{take_more}
use Rattle.std.proofs.lemmas.List.Sums.{sum_by_more}
use native.Mathlib.Nat.{one-le-pow}
use Rattle.std.proofs.lemmas.Int.{ints}
use Rattle.quantity.proofs.Bases.{scale_least}
use Rattle.quantity.specs.Benchmarks.{scale}
use Rattle.quantity.specs.declared.year.YearBase.{YearBase}
use Rattle.rules.specs.Accrual.{weight_of, carried, bounds_of, at_one, Encloses, Narrow, Moderate}
use Rattle.rules.specs.Reach.{unit, is_in_reach}
use Rattle.rules.proofs.Reach.{in_reach}
use Rattle.rules.specs.declared.bounds.Bounds.{Bounds}
use Rattle.rules.specs.declared.observation.Observation.{Observation}
use Rattle.rules.proofs.Exact.{weight_count}

pub carried-push : {S : Type 0} (step : ℕ → S → Observation → S) (k : ℕ) (s : S) (os : List Observation) (o : Observation)
    → carried step k s (os ++ (o ∷ [])) ≡ step (k + length os) (carried step k s os) o
carried-push step k s [] o = ap (λ n. step n s o) (omega arith)
carried-push step k s (p ∷ os) o = carried-push step (suc k) (step k s p) os o ∙ ap (λ n. step n (carried step (suc k) (step k s p) os) o) (omega arith)

-- the next element of a slice
carried_next : {S : Type 0} (step : ℕ → S → Observation → S) (s : S) (os : List Observation) (i : ℕ) (o : Observation) → i < length os → o ≡ get_or os i o
    → step i (carried step 0 s (take i os)) o ≡ carried step 0 s (take (i + 1) os)
carried_next step s os i o h e =
    let pushed : take (i + 1) os ≡ take i os ++ (o ∷ []) = take_more os i o h ∙ ap (λ y. take i os ++ (y ∷ [])) (sym e) in
    let count : 0 + length (take i os) ≡ i = omega (arith, length-take i os) in
    sym (ap (carried step 0 s) pushed ∙ carried-push step 0 s (take i os) o ∙ ap (λ n. step n (carried step 0 s (take i os)) o) count)

-- the bounds after one step more
pub bounds_next : (step : ℕ → Bounds → Observation → Bounds) (os : List Observation) (i : ℕ) (o : Observation) (before after : Bounds) → i < length os → o ≡ get_or os i o
    → before ≡ bounds_of step (take i os) → after ≡ step i before o → after ≡ bounds_of step (take (i + 1) os)
bounds_next step os i o before after h e b s = s ∙ ap (λ t. step i t o) b ∙ carried_next step at_one os i o h e

-- one observation more
pub weight_next : (os : List Observation) (i : ℕ) (o : Observation) → i < length os → o ≡ get_or os i o → weight_of (take (i + 1) os) ≡ weight_of (take i os) + o.weight.days
weight_next os i o h e = omega (arith, sum_by_more (λ (p : Observation). p.weight.days) os i o h, ap (λ (p : Observation). p.weight.days) e)

-- the bounds of a factor between one half and two
low_most : (P : ℕ) (lo x : ℤ) → 0 < P → (lo *ℤ pos P) ≤ℤ (pos unit *ℤ x) → x ≤ℤ pos (2 * P) → up lo ≤ down lo + 2 * unit
low_most P lo x p h d =
    let a : up lo * P + unit * down x ≤ down lo * P + unit * up x = omega (arith, ints) in
    let b : up x ≤ 2 * P + down x = omega (arith, ints) in
    le_of_mul-le-mul_right {k = P} (omega arith) p

high_least : (P : ℕ) (hi x : ℤ) → 0 < P → (pos unit *ℤ x) ≤ℤ (hi *ℤ pos P) → pos P ≤ℤ (pos 2 *ℤ x) → unit + 2 * down hi ≤ 2 * up hi
high_least P hi x p h d =
    let a : unit * up x + down hi * P ≤ up hi * P + unit * down x = omega (arith, ints) in
    let b : P + 2 * down x ≤ 2 * up x = omega (arith, ints) in
    le_of_mul-le-mul_right {k = P} (omega arith) p

pub tests_in_reach : (base : YearBase) (os : List Observation) (factor : ℤ) (b : Bounds) → weight_of os ≤ 400 → Encloses base os factor b → Narrow os b → Moderate base os factor
    → (is_in_reach b.lo ≡ true) × (is_in_reach b.hi ≡ true)
tests_in_reach base os factor b few enc nar half =
    let p = one-le-pow (length os) (scale base) (omega (arith, scale_least base)) in
    let l = low_most (scale base ^ length os) b.lo factor p enc.above half.double in
    let h = high_least (scale base ^ length os) b.hi factor p enc.below half.half in
    let n = weight_count os in
    (in_reach b.lo (omega (arith, ints, nar)) (omega (arith, ints)), in_reach b.hi (omega (arith, ints)) (omega (arith, ints, nar)))
