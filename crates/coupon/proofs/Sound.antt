-- The lines that the rules give enclose the exact factor, report the exact rate, and add up.
-- Assumes nothing.
use Rattle.std.proofs.Common.{◌≡◌, ℕ, zero, suc, ◌+◌, ◌*◌, ◌^◌, ◌<◌, ◌≤◌, List, [], ◌∷◌, ◌++◌, length, take, pos, ◌+ℤ◌, ◌-ℤ◌, ◌*ℤ◌, ◌≤ℤ◌, Some, sym, refl, ap, ◌∙◌, subst, arith}
use Rattle.std.proofs.lemmas.List.{append-nil, append_assoc, length-map, length-take-le}
use Rattle.std.proofs.lemmas.Int.{ints}
use Rattle.std.specs.List.{slice_get}
use Rattle.quantity.specs.Benchmarks.{scale}
use Rattle.rules.specs.Accrual.{Encloses, Narrow}
use Rattle.rules.specs.Chosen.{chosen_factor, chosen_bounds}
use Rattle.rules.specs.Reach.{unit}
use Rattle.rules.proofs.Exact.{settled_exact, exact_or_next}
use Rattle.rules.proofs.Laws.{chosen_keeps}
use Rattle.rules.specs.Runs.{encloses_of, narrow_of}
use Rattle.coupon.specs.declared.day.Day.{Day}
use Rattle.coupon.specs.declared.line.Line.{Line}
use Rattle.coupon.specs.declared.terms.Terms.{Terms}
use Rattle.coupon.specs.Lines.{bounds_at, bounds_before, cumulative_before, cumulative_of, days_of, factor_at, last_of, lines_from, lines_of, observation_of, rate_at, seen, settled_at, sum_of_daily, weight_of, year_base}
use Rattle.coupon.specs.Sound.{AddUp, Enclosed, Faithful, Sound}
use Rattle.coupon.proofs.Rows.{bounds_is, cumulative_is, cumulative_pushed, lines_count, take_lines, weight_push, weight_take}

-- the rule's laws of a row of days
row_encloses : (t : Terms) (ds : List Day) → weight_of ds ≤ 400 → Encloses (year_base t) (seen ds) (factor_at t ds) (bounds_at t ds)
row_encloses t ds few = encloses_of (year_base t) (chosen_factor t.rule (year_base t)) (chosen_bounds t.rule (year_base t)) (chosen_keeps t.rule (year_base t)) (seen ds) few

row_narrow : (t : Terms) (ds : List Day) → weight_of ds ≤ 400 → Narrow (seen ds) (bounds_at t ds)
row_narrow t ds few = narrow_of (year_base t) (chosen_factor t.rule (year_base t)) (chosen_bounds t.rule (year_base t)) (chosen_keeps t.rule (year_base t)) (seen ds) few

enclosed : (t : Terms) (ds : List Day) (ls : List Line) (k : ℕ) → ls ≡ lines_of t ds → weight_of ds ≤ 400 → k ≤ length ds → Enclosed t ls ds k
enclosed t ds ls k h light w =
    let es = take k ds in
    let B = scale (year_base t) in
    let few : weight_of es ≤ 400 = omega (arith, weight_take k ds) in
    let bounds : bounds_before (last_of (take k ls)) ≡ bounds_at t es = cc (take_lines t [] k ds, bounds_is t es) in
    let len : length (seen es) ≡ k = cc (length-map es observation_of, length-take-le k ds w) in
    let enc = row_encloses t es few in
    let low = subst (λ (n : ℕ). ((bounds_at t es).lo *ℤ pos (B ^ n)) ≤ℤ (pos unit *ℤ factor_at t es)) len enc.above in
    let high = subst (λ (n : ℕ). (pos unit *ℤ factor_at t es) ≤ℤ ((bounds_at t es).hi *ℤ pos (B ^ n))) len enc.below in
    let narrow = subst (λ (n : ℕ). (bounds_at t es).hi ≤ℤ ((bounds_at t es).lo +ℤ pos (3 * n))) len (row_narrow t es few) in
    record { low = rw bounds low; high = rw bounds high; narrow = rw bounds narrow }

-- what a line reports, by the days up to it
record Reports (t : Terms) (ds : List Day) (l : Line) : Type 0 where
  pub rated : l.reported ≡ rate_at t ds
  pub marked : l.settled ≡ settled_at t ds
  pub weighed : 0 < weight_of ds

reports : (t : Terms) (ps ds : List Day) (i : ℕ) (l : Line) → slice_get (lines_from t ps ds) i ≡ Some l → Reports t (ps ++ take (suc i) ds) l
reports t ps [] i l h = absurd cc
reports t ps (d ∷ ds) zero l h =
    record { rated = cc; marked = cc; weighed = omega (arith, weight_push ps d, d.weight.least) }
reports t ps (d ∷ ds) (suc i) l h = subst (λ (xs : List Day). Reports t xs l) (append_assoc ps (d ∷ []) (take (suc i) ds)) (reports t (ps ++ d ∷ []) ds i l h)

faithful_to : (t : Terms) (ds : List Day) (l : Line) → weight_of ds ≤ 400 → Reports t ds l → Faithful t ds l
faithful_to t ds l few r =
    let enc = row_encloses t ds few in
    let nar = row_narrow t ds few in
    record {
      settled = settled_exact (year_base t) (seen ds) (factor_at t ds) (bounds_at t ds) r.weighed enc nar l.reported l.settled r.rated r.marked;
      otherwise = exact_or_next (year_base t) (seen ds) (factor_at t ds) (bounds_at t ds) r.weighed enc nar l.reported r.rated;
    }

days_back : (t : Terms) (ps ds : List Day) → days_of (lines_from t ps ds) ≡ ds
days_back t ps [] = refl
days_back t ps (d ∷ ds) = ap (λ xs. d ∷ xs) (days_back t (ps ++ d ∷ []) ds)

pub sound_of : (t : Terms) (ds : List Day) (ls : List Line) → ls ≡ lines_of t ds → weight_of ds ≤ 400 → Sound t ls ds
sound_of t ds ls h light = record {
  bear = ap days_of h ∙ days_back t [] ds;
  enclosed = λ k w. enclosed t ds ls k h light (omega (arith, ap length h, lines_count t [] ds));
  faithful = λ i l at.
      let next : suc i ≡ i + 1 = omega arith in
      let r = reports t [] ds i l (ap (λ xs. slice_get xs i) (sym h) ∙ at) in
      subst (λ (n : ℕ). Faithful t (take n ds) l) next (faithful_to t (take (suc i) ds) l (omega (arith, weight_take (suc i) ds)) r);
}

-- daily amounts add up

sum_from : (t : Terms) (ps ds : List Day) → sum_of_daily (lines_from t ps ds) ≡ cumulative_of t (ps ++ ds) -ℤ cumulative_of t ps
sum_from t ps [] = let e = ap (cumulative_of t) (append-nil ps) in omega (arith, ints)
sum_from t ps (d ∷ ds) =
    let more = sum_from t (ps ++ d ∷ []) ds in
    let pushed = cumulative_pushed t ps d in
    let e = ap (cumulative_of t) (append_assoc ps (d ∷ []) ds) in
    omega (arith, ints)

pub add_up : (t : Terms) (ls : List Line) (ds : List Day) → ls ≡ lines_of t ds → AddUp ls
add_up t ls ds h k =
    let es = take k ds in
    let cut : take k ls ≡ lines_of t es = cc (take_lines t [] k ds) in
    let sum = ap sum_of_daily cut in
    let last = ap (λ xs. cumulative_before (last_of xs)) cut in
    omega (arith, ints, sum_from t [] es, cumulative_is t es)
