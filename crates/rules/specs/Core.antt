-- One observation's step, over natural numbers.
-- Assumes nothing.
-- B is the scale, P = B^k, X the factor's numerator, W the weights so far with M = B − cW, w the next weight, g = B + rw.
use Rattle.std.specs.Prelude.{◌≡◌, ℕ, suc, ◌+◌, ◌-◌, ◌*◌, ◌<◌, ◌≤◌}
use Rattle.std.proofs.Common.{ap, subst, mul-le-mul_left, mul-le-mul_right, le_of_mul-le-mul_right, lt_of_mul-lt-mul_right, mul-pos, arith}
use Rattle.rules.specs.Reach.{unit}

-- a part of the bounds: lo' = ⌊lo × g / B⌋
pub low_step : (U B P X g lo lo' : ℕ) → lo * P ≤ U * X → lo' * B ≤ lo * g → lo' * (P * B) ≤ U * (X * g)
low_step U B P X g lo lo' h f = omega (arith, mul-le-mul_right g h, mul-le-mul_right P f)

pub high_step : (U B P X g hi hi' : ℕ) → U * X ≤ hi * P → hi * g ≤ hi' * B → U * (X * g) ≤ hi' * (P * B)
high_step U B P X g hi hi' h f = omega (arith, mul-le-mul_right g h, mul-le-mul_right P f)

-- (B + v)(B − cW − v) ≤ B(B − cW), for v = cw
pub shrinks : (B g M' v : ℕ) → M' ≤ B → g ≤ B + v → g * M' ≤ B * (M' + v)
shrinks B g M' v m h = omega (arith, mul-le-mul_right M' h, mul-le-mul_right v m)

-- the gap, weighed by M, grows by less than 2B
pub gap_step : (B g M' v lo d lo' d' j : ℕ) → 0 < B → M' ≤ B → g ≤ B + v
    → d * (M' + v) ≤ j * B → lo * g < lo' * B + B → (lo' + d') * B < (lo + d) * g + B
    → d' * M' ≤ (j + 2) * B
gap_step B g M' v lo d lo' d' j p m h inv fl ce =
    let e : d' * B ≤ d * g + 2 * B = omega arith in
    let s : g * M' ≤ B * (M' + v) = shrinks B g M' v m h in
    le_of_mul-le-mul_right {k = B}
    (omega (arith, mul-le-mul_right M' e, mul-le-mul_left d s, mul-le-mul_right B inv, mul-le-mul_left (2 * B) m)) p

-- the factor stays at most B / M
pub top_step : (B P X g M' v : ℕ) → M' ≤ B → g ≤ B + v → X * (M' + v) ≤ B * P → X * g * M' ≤ B * (P * B)
top_step B P X g M' v m h inv =
    let s : g * M' ≤ B * (M' + v) = shrinks B g M' v m h in
    omega (arith, mul-le-mul_left X s, mul-le-mul_right B inv)

-- and at least M / B
pub bottom_step : (B P X g M' v : ℕ) → M' + v ≤ B → B ≤ g + v → P * (M' + v) ≤ X * B → P * B * M' ≤ X * g * B
bottom_step B P X g M' v m h inv =
    let s : B * M' ≤ (M' + v) * g = omega (arith, mul-le-mul_left (M' + v) h, mul-le-mul_left v m) in
    omega (arith, mul-le-mul_right g inv, mul-le-mul_left P s)

-- What holds of the numbers after k observations: the bounds l and l + d, the factor's numerator x over P.
pub record Held (B P k M x l d : ℕ) : Type 0 where
  pub some : 0 < P
  pub low : l * P ≤ unit * x
  pub high : unit * x ≤ (l + d) * P
  pub gap : d * M ≤ (2 * k) * B
  pub top : x * M ≤ B * P
  pub bottom : P * M ≤ x * B

-- the bounds keep their order
ordered : (B g l d l' h' : ℕ) → 0 < B → l' * B ≤ l * g → (l + d) * g ≤ h' * B → l' ≤ h'
ordered B g l d l' h' p f c = le_of_mul-le-mul_right {k = B} (omega arith) p

pub held_compounded : (B P k M' v x l d g l' h' : ℕ) → 0 < B → M' + v ≤ B → g ≤ B + v → B ≤ g + v
    → Held B P k (M' + v) x l d
    → l' * B ≤ l * g → l * g < l' * B + B → (l + d) * g ≤ h' * B → h' * B < (l + d) * g + B
    → (d' : ℕ) × (h' ≡ l' + d') × Held B (P * B) (suc k) M' (x * g) l' d'
held_compounded B P k M' v x l d g l' h' p m gm gl s fu fo cu co =
    let order : l' ≤ h' = ordered B g l d l' h' p fu cu in
    let d' = h' - l' in
    let whole : h' ≡ l' + d' = omega arith in
    let co' : (l' + d') * B < (l + d) * g + B = subst (λ (h : ℕ). h * B < (l + d) * g + B) whole co in
    let cu' : (l + d) * g ≤ (l' + d') * B = subst (λ (h : ℕ). (l + d) * g ≤ h * B) whole cu in (
      d',
      whole,
      record {
        some = mul-pos s.some p;
        low = low_step unit B P x g l l' s.low fu;
        high = high_step unit B P x g (l + d) (l' + d') s.high cu';
        gap = let t = gap_step B g M' v l d l' d' (2 * k) p (omega arith) gm s.gap fo co' in omega arith;
        top = top_step B P x g M' v (omega arith) gm s.top;
        bottom = bottom_step B P x g M' v m gl s.bottom;
      },
    )

-- at most 3 units to an observation
pub narrow_held : (B P k M x l d : ℕ) → 0 < B → 2 * B ≤ 3 * M → Held B P k M x l d → d ≤ 3 * k
narrow_held B P k M x l d p m s =
    le_of_mul-le-mul_right {k = 2 * B} (omega (arith, mul-le-mul_left d m, s.gap)) (omega arith)

-- the factor is at least one half
pub half_held : (B P k M x l d : ℕ) → 0 < B → 2 * B ≤ 3 * M → Held B P k M x l d → P ≤ 2 * x
half_held B P k M x l d p m s =
    le_of_mul-le-mul_right {k = B} (omega (arith, mul-le-mul_left P m, s.bottom)) p

-- and at most two
pub double_held : (B P k M x l d : ℕ) → 0 < B → 2 * B ≤ 3 * M → Held B P k M x l d → x ≤ 2 * P
double_held B P k M x l d p m s =
    le_of_mul-le-mul_right {k = B} (omega (arith, mul-le-mul_left x m, s.top)) p

-- one simple step's numbers: x' = xB + rwP, and the parts of U with their bounds
pub record Added (B P k M' x l d g fm cm : ℕ) : Type 0 where
  pub x' : ℕ
  pub l' : ℕ
  pub d' : ℕ
  pub x_is : x' + P * B ≡ x * B + g * P
  pub l_is : l' + unit ≡ l + fm
  pub h_is : l' + d' + unit ≡ l + d + cm
  pub held : Held B (P * B) (suc k) M' x' l' d'

-- the lower bound stays natural
simple_low : (B P M' v x l d g fm : ℕ) → 0 < P → 0 < B → 2 * B ≤ 3 * M' → d ≤ 1200 → B ≤ g + v
    → unit * x ≤ (l + d) * P → P * (M' + v) ≤ x * B → unit * g < fm * B + B → unit ≤ l + fm
simple_low B P M' v x l d g fm q p m few gl high bottom fo =
    let e : (unit * (M' + v)) * P ≤ ((l + d) * B) * P = omega (arith, mul-le-mul_right B high) in
    let f : unit * (M' + v) ≤ (l + d) * B = le_of_mul-le-mul_right {k = P} e q in
    le_of_mul-le-mul_right {k = B} (omega (arith, mul-le-mul_right B few)) p

simple_numerator : (B P M' v x g : ℕ) → B ≤ g + v → P * (M' + v) ≤ x * B → P * B ≤ x * B + g * P
simple_numerator B P M' v x g gl bottom = omega (arith, mul-le-mul_left P gl)

simple_gap : (B g fm cm d d' : ℕ) → 0 < B → unit * g < fm * B + B → cm * B < unit * g + B → d' + fm ≡ d + cm → d' ≤ d + 1
simple_gap B g fm cm d d' p fo co e =
    let t : d' * B < (d + 2) * B = omega (arith, ap (λ n. n * B) e) in
    let u : d' < d + 2 = lt_of_mul-lt-mul_right B t in
    omega arith

pub held_simple : (B P k M' v x l d g fm cm : ℕ) → 0 < B → 2 * B ≤ 3 * M' → M' + v ≤ B → g ≤ B + v → B ≤ g + v → k ≤ 400
    → Held B P k (M' + v) x l d
    → fm * B ≤ unit * g → unit * g < fm * B + B → unit * g ≤ cm * B → cm * B < unit * g + B
    → Added B P k M' x l d g fm cm
held_simple B P k M' v x l d g fm cm p m mv gm gl few s fu fo cu co =
    let few_units : d ≤ 3 * k = narrow_held B P k (M' + v) x l d p (omega arith) s in
    let lows : unit ≤ l + fm = simple_low B P M' v x l d g fm s.some p m (omega arith) gl s.high s.bottom fo in
    let nums : P * B ≤ x * B + g * P = simple_numerator B P M' v x g gl s.bottom in
    let parts : fm ≤ cm = le_of_mul-le-mul_right {k = B} (omega arith) p in
    added (x * B + g * P - P * B) (l + fm - unit) (d + cm - fm) (omega arith) (omega arith) (omega arith)
  where
    added : (x' l' d' : ℕ) → x' + P * B ≡ x * B + g * P → l' + unit ≡ l + fm → d' + fm ≡ d + cm → Added B P k M' x l d g fm cm
    added x' l' d' xe le de = record {
      x' = x';
      l' = l';
      d' = d';
      x_is = xe;
      l_is = le;
      h_is = omega arith;
      held = record {
        some = mul-pos s.some p;
        low = omega (arith, mul-le-mul_right B s.low, mul-le-mul_right P fu, ap (λ n. n * (P * B)) le);
        high = omega (arith, mul-le-mul_right B s.high, mul-le-mul_right P cu, ap (λ n. n * (P * B)) le, ap (λ n. n * (P * B)) de);
        gap = let t : d' ≤ d + 1 = simple_gap B g fm cm d d' p fo co de in omega (arith, mul-le-mul_right M' t, s.gap);
        top = omega (arith, mul-le-mul_left (P * M') gm, ap (λ n. n * M') xe, mul-le-mul_right B s.top, mul-le-mul_right v s.bottom);
        bottom = omega (arith, mul-le-mul_left (P * B) gl, ap (λ n. n * B) xe, mul-le-mul_right B s.bottom);
      };
    }
