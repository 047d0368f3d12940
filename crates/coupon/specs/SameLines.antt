-- `==` of two lines says whether they are equal.
-- Assumes nothing.
use Rattle.std.proofs.Common.{◌≡◌, ℕ, ◌≤◌, Bool, true, ℤ, pos, negsuc, ◌≤ℤ◌, Decides, eqb, sym, refl, ap, ◌∙◌, arith}
use mathlib.Core.HLevel.{Σ_prop_path}
use native.Mathlib.Bridge.{le_prop}
use Rattle.std.proofs.Props.{props}
use Rattle.std.proofs.lemmas.Bool.Decides.{nat_tests, Decides-and, Decides-eqb, Decides-int_eq}
use Rattle.std.specs.Cmp.{IsPartialEquivalence, booleans_Decides}
use Rattle.rules.specs.Rate.{same}
use Rattle.quantity.specs.declared.date.Date.{Date}
use Rattle.quantity.specs.declared.rate.Rate.{Rate}
use Rattle.quantity.specs.declared.weight.Weight.{Weight}
use Rattle.pile.specs.Joined.{weight_same}
use Rattle.coupon.specs.declared.day.Day.{Day}
use Rattle.coupon.specs.declared.line.Line.{Line}
use Rattle.coupon.specs.contracts.line.LineEq.TheImpl.Laws.{laws-law}
use Rattle.coupon.specs.contracts.line.LinePartialEq.TheImpl.Laws.{laws-law as partial-law}
use Rattle.coupon.specs.contracts.day.DayPartialEq.TheImpl.{eq-value as day_eq}
use Rattle.coupon.specs.contracts.line.LinePartialEq.TheImpl.{eq-value as line_eq}

-- a quantity is known by its number
date_same : (x y : Date) → x.number ≡ y.number → x ≡ y
date_same x y e =
    let made : ((n : ℕ) × (n ≤ 73048)) → Date = λ p. record { number = p.0; known = p.1 } in
    ap made (Σ_prop_path (λ n. le_prop) {u = (x.number, x.known)} {v = (y.number, y.known)} e)

rate_same : (x y : Rate) → x.ticks ≡ y.ticks → x ≡ y
rate_same x y e =
    let made : ((q : ((z : ℤ) × (negsuc 249999 ≤ℤ z))) × (q.0 ≤ℤ pos 250000)) → Rate = λ p. record { ticks = p.0.0; least = p.0.1; most = p.1 } in
    let low : ◌≡◌ {A = (z : ℤ) × (negsuc 249999 ≤ℤ z)} (x.ticks, x.least) (y.ticks, y.least) = Σ_prop_path (λ z. hlevel props) e in
    ap made (Σ_prop_path (λ q. hlevel props) {u = ((x.ticks, x.least), x.most)} {v = ((y.ticks, y.least), y.most)} low)

days_same : (a b : Date) (c d : Date) (v w : Weight) (q r : Rate) (m n : Date) → a ≡ b → c ≡ d → v ≡ w → q ≡ r → m ≡ n
    → ◌≡◌ {A = Day} (record { date = a; next = c; weight = v; rate = q; observed = m }) (record { date = b; next = d; weight = w; rate = r; observed = n })
days_same a b c d v w q r m n date next weight rate observed = cc

day_same : (x y : Day) → day_eq.it x y ≡ true → x ≡ y
day_same x y t =
    days_same _ _ _ _ _ _ _ _ _ _ (date_same x.date y.date (grind (arith, nat_tests))) (date_same x.next y.next (grind (arith, nat_tests)))
    (weight_same x.weight y.weight (grind (arith, nat_tests))) (rate_same x.rate y.rate (grind (arith, nat_tests))) (date_same x.observed y.observed (grind (arith, nat_tests)))

Decides-self : (b : Bool) → Decides b (b ≡ true)
Decides-self b = (λ t. t, λ t. t)

lines_same : (a b : Day) (c d : ℕ) (e f g h : ℤ) (r s : ℤ) (m n : Bool) (j k : ℤ) (v w : ℤ) → a ≡ b → c ≡ d → e ≡ f → g ≡ h → r ≡ s → m ≡ n → j ≡ k → v ≡ w
    → ◌≡◌ {A = Line} (record { day = a; total = record { days = c }; bounds = record { lo = e; hi = g }; reported = r; settled = m; cumulative = j; daily = v }) (record { day = b; total = record { days = d }; bounds = record { lo = f; hi = h }; reported = s; settled = n; cumulative = k; daily = w })
lines_same a b c d e f g h r s m n j k v w day total low high reported settled cumulative daily = cc

line_same : (x y : Line) → line_eq.it x y ≡ true → x ≡ y
line_same x y t =
    let parts : Decides (line_eq.it x y) ((day_eq.it x.day y.day ≡ true) × ((x.total.days ≡ y.total.days) × (((x.bounds.lo ≡ y.bounds.lo) × (x.bounds.hi ≡ y.bounds.hi)) × ((x.reported ≡ y.reported) × ((x.settled ≡ y.settled) × ((x.cumulative ≡ y.cumulative) × (x.daily ≡ y.daily)))))))
    = search (Decides-and, Decides-eqb, Decides-int_eq, booleans_Decides, Decides-self) depth 9 in
    let p = parts.0 t in
    lines_same _ _ _ _ _ _ _ _ _ _ _ _ _ _ _ _ (day_same x.day y.day p.0) p.1.0 p.1.1.0.0 p.1.1.0.1 p.1.1.1.0 p.1.1.1.1.0 p.1.1.1.1.1.0 p.1.1.1.1.1.1

pub line_decides : (x y : Line) (r : Bool) → r ≡ line_eq.it x y → Decides r (x ≡ y)
line_decides x y r h = (λ t. line_same x y (sym h ∙ t), λ e. h ∙ ap (line_eq.it x) (sym e) ∙ laws-law.refl x)

-- so `==` is an equivalence; and each number and each integer of a line is the same as itself
pub line_laws : IsPartialEquivalence line_eq.it
line_laws = partial-law

pub number_self : (n : ℕ) → eqb n n ≡ true
number_self n = (Decides-eqb n n).1 refl

pub same_self : (z : ℤ) → same z z ≡ true
same_self z = (Decides-int_eq z z).1 refl
