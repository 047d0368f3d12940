-- What every step of every rule keeps, from which the three laws follow.
-- Assumes nothing.
use Rattle.std.specs.Prelude.{◌≡◌, ℕ, suc, ◌+◌, ◌-◌, ◌*◌, ◌<◌, ◌≤◌, ℤ, pos, negsuc, ◌+ℤ◌, ◌*ℤ◌, ◌≤ℤ◌, refl}
use Rattle.std.proofs.Common.{ap, ap₂, subst, ◌∙◌, mul-le-mul_right, arith}
use Rattle.std.proofs.lemmas.Int.{ints}
use Rattle.rules.specs.Accrual.{gain}
use Rattle.rules.specs.Reach.{unit}
use Rattle.rules.specs.Rounding.{floor_div, ceil_div}
use Rattle.rules.specs.declared.observation.Observation.{Observation}
use Rattle.rules.specs.Core.{Held, held_compounded, held_simple}
use borrow.Author.Differences.{up, down}
use Rattle.rules.specs.Whole.{Floor, floor_of, Ceiling, ceil_of}

-- The state after k observations of weight W in all, where P = B^k: naturals, with M = B − 250,000 W.
pub record Sound (B P k W : ℕ) (factor lo hi : ℤ) : Type 0 where
  pub x : ℕ
  pub l : ℕ
  pub d : ℕ
  pub M : ℕ
  pub factor_is : factor ≡ pos x
  pub lo_is : lo ≡ pos l
  pub hi_is : hi ≡ pos (l + d)
  pub rest : M + 250000 * W ≡ B
  pub count : k ≤ W
  pub held : Held B P k M x l d

-- B + rw is a natural number, off B by at most 250,000 w
pub record Growth (B : ℕ) (o : Observation) : Type 0 where
  pub g : ℕ
  pub is : pos B +ℤ gain o ≡ pos g
  pub most : g ≤ B + 250000 * o.weight.days
  pub least : B ≤ g + 250000 * o.weight.days

growth_of : (B w : ℕ) (r : ℤ) → negsuc 249999 ≤ℤ r → r ≤ℤ pos 250000 → 250000 * w ≤ B
    → (g : ℕ) × (pos B +ℤ (r *ℤ pos w) ≡ pos g) × (g ≤ B + 250000 * w) × (B ≤ g + 250000 * w)
growth_of B w (pos a) lo hi f =
    let a_most : a ≤ 250000 = omega (arith, ints) in
    (B + a * w, refl, omega (arith, mul-le-mul_right w a_most), omega arith)
growth_of B w (negsuc a) lo hi f =
    let a_most : suc a ≤ 250000 = omega (arith, ints) in
    let times = mul-le-mul_right w a_most in
    (B - suc a * w, omega (arith, ints), omega arith, omega arith)

pub growth : (B : ℕ) (o : Observation) → 250000 * o.weight.days ≤ B → Growth B o
growth B o f =
    let t = growth_of B o.weight.days o.rate.ticks o.rate.least o.rate.most f in
    record { g = t.0; is = t.1; most = t.2; least = t.3 }

-- l × (B + z) = l × g
scaled : (l B g : ℕ) (z : ℤ) → pos B +ℤ z ≡ pos g → pos (l * B) +ℤ (pos l *ℤ z) ≡ pos (l * g)
scaled l B g z e =
    let whole : B + up z ≡ g + down z = omega (arith, ints) in
    let times : l * (B + up z) ≡ l * (g + down z) = ap (λ n. l * n) whole in
    omega (arith, ints)

-- what an observation adds to the naturals a and c, rounded down at a and up at c
record Parts (B a c : ℕ) (o : Observation) : Type 0 where
  grown : Growth B o
  low : Floor (pos a *ℤ gain o) B a (a * grown.g)
  high : Ceiling (pos c *ℤ gain o) B c (c * grown.g)

parts_of : (B a c : ℕ) (o : Observation) → 0 < B → 250000 * o.weight.days ≤ B → Parts B a c o
parts_of B a c o p f =
    let gr = growth B o f in
    record {
      grown = gr;
      low = floor_of (pos a *ℤ gain o) B a (a * gr.g) p (scaled a B gr.g (gain o) gr.is);
      high = ceil_of (pos c *ℤ gain o) B c (c * gr.g) p (scaled c B gr.g (gain o) gr.is);
    }

-- the state with the next weight taken off M
lighter : (B P k W : ℕ) (factor lo hi : ℤ) (w : ℕ) → 300000000 ≤ B → W + w ≤ 400 → (s : Sound B P k W factor lo hi) → Held B P k (s.M - 250000 * w + 250000 * w) s.x s.l s.d
lighter B P k W factor lo hi w big few s =
    let e : s.M ≡ s.M - 250000 * w + 250000 * w = omega (arith, s.rest) in
    subst (λ (m : ℕ). Held B P k m s.x s.l s.d) e s.held

pub compounded_step : (B P k W : ℕ) (factor lo hi : ℤ) (o : Observation) → 300000000 ≤ B → W + o.weight.days ≤ 400
    → Sound B P k W factor lo hi
    → Sound B (P * B) (suc k) (W + o.weight.days) (factor *ℤ (pos B +ℤ gain o))
    (lo +ℤ floor_div (lo *ℤ gain o) B) (hi +ℤ ceil_div (hi *ℤ gain o) B)
compounded_step B P k W factor lo hi o big few s = step (parts_of B s.l (s.l + s.d) o (omega arith) (omega arith))
  where
    step : Parts B s.l (s.l + s.d) o → Sound B (P * B) (suc k) (W + o.weight.days) (factor *ℤ (pos B +ℤ gain o))
        (lo +ℤ floor_div (lo *ℤ gain o) B) (hi +ℤ ceil_div (hi *ℤ gain o) B)
    step p =
        let next = held_compounded B P k (s.M - 250000 * o.weight.days) (250000 * o.weight.days) s.x s.l s.d p.grown.g p.low.m p.high.m (omega arith) (omega (arith, s.rest)) p.grown.most p.grown.least
        (lighter B P k W factor lo hi o.weight.days big few s) p.low.under p.low.over p.high.under p.high.over in
        record {
          x = s.x * p.grown.g;
          l = p.low.m;
          d = next.0;
          M = s.M - 250000 * o.weight.days;
          factor_is = ap₂ ◌*ℤ◌ s.factor_is p.grown.is;
          lo_is = ap (λ t. t +ℤ floor_div (t *ℤ gain o) B) s.lo_is ∙ p.low.is;
          hi_is = ap (λ t. t +ℤ ceil_div (t *ℤ gain o) B) s.hi_is ∙ p.high.is ∙ ap pos next.1;
          rest = omega (arith, s.rest);
          count = omega (arith, s.count, o.weight.least);
          held = next.2;
        }

-- xB + zP = x'
summed : (x B P g x' : ℕ) (z : ℤ) → pos B +ℤ z ≡ pos g → x' + P * B ≡ x * B + g * P → pos (x * B) +ℤ (z *ℤ pos P) ≡ pos x'
summed x B P g x' z e h =
    let whole : B + up z ≡ g + down z = omega (arith, ints) in
    let times : (B + up z) * P ≡ (g + down z) * P = ap (λ n. n * P) whole in
    omega (arith, ints)

-- l + q = l', where U + q = m
shifted : (bound : ℤ) (l l' m : ℕ) (q : ℤ) → bound ≡ pos l → pos unit +ℤ q ≡ pos m → l' + unit ≡ l + m → bound +ℤ q ≡ pos l'
shifted bound l l' m q b e h = omega (arith, ints)

pub simple_step : (B P k W : ℕ) (factor lo hi : ℤ) (o : Observation) → 300000000 ≤ B → W + o.weight.days ≤ 400
    → Sound B P k W factor lo hi
    → Sound B (P * B) (suc k) (W + o.weight.days) ((factor *ℤ pos B) +ℤ (gain o *ℤ pos P))
    (lo +ℤ floor_div (pos unit *ℤ gain o) B) (hi +ℤ ceil_div (pos unit *ℤ gain o) B)
simple_step B P k W factor lo hi o big few s = step (parts_of B unit unit o (omega arith) (omega arith))
  where
    step : Parts B unit unit o → Sound B (P * B) (suc k) (W + o.weight.days) ((factor *ℤ pos B) +ℤ (gain o *ℤ pos P))
        (lo +ℤ floor_div (pos unit *ℤ gain o) B) (hi +ℤ ceil_div (pos unit *ℤ gain o) B)
    step p =
        let next = held_simple B P k (s.M - 250000 * o.weight.days) (250000 * o.weight.days) s.x s.l s.d p.grown.g p.low.m p.high.m (omega arith) (omega (arith, s.rest)) (omega (arith, s.rest)) p.grown.most p.grown.least (omega (arith, s.count))
        (lighter B P k W factor lo hi o.weight.days big few s) p.low.under p.low.over p.high.under p.high.over in
        record {
          x = next.x';
          l = next.l';
          d = next.d';
          M = s.M - 250000 * o.weight.days;
          factor_is = ap (λ t. (t *ℤ pos B) +ℤ (gain o *ℤ pos P)) s.factor_is ∙ summed s.x B P p.grown.g next.x' (gain o) p.grown.is next.x_is;
          lo_is = shifted lo s.l next.l' p.low.m _ s.lo_is p.low.is next.l_is;
          hi_is = shifted hi (s.l + s.d) (next.l' + next.d') p.high.m _ s.hi_is p.high.is next.h_is;
          rest = omega (arith, s.rest);
          count = omega (arith, s.count, o.weight.least);
          held = next.held;
        }
