-- Each standing day was admitted, over the pile that gave it, when just the days before it stood.
-- Every call keeps this, since winding back takes days off the end only.
-- Assumes nothing.
use Rattle.std.proofs.Common.{◌≡◌, ℕ, zero, suc, Bool, true, false, cond, List, [], ◌∷◌, ◌++◌, map, length, take, ℤ, pos, negsuc, Some, None, Ok, Err, Option, Result, sym, refl, ap, ◌∙◌, subst, arith}
use Rattle.std.proofs.lemmas.List.{append-nil, append_assoc}
use Rattle.quantity.specs.Refusals.{Told, plain}
use Rattle.pile.specs.Piles.{Pile}
use Rattle.coupon.specs.Days.{day_at}
use Rattle.coupon.specs.Verdicts.{admitted, front, refusal_of}
use Rattle.coupon.specs.declared.day.Day.{Day}
use Rattle.coupon.specs.declared.terms.Terms.{Terms}
use Rattle.account.specs.declared.phase.Phase.TheVariants.{Accruing}
use Rattle.account.specs.Histories.{Through}
use Rattle.account.specs.Tally.{Call, Tally, accrue, accrued, advance, answering, appended, begun, carried, check, close, givers_from, given_by, givers, judge, pay, read, status, tally, tally_from, unless_refused, wind_back, withdraw}

-- an admitted day is the pile's

pub admitted-given : (t : Terms) (ds : List Day) (m : Pile) (d : Day) → admitted t ds m ≡ Ok d → day_at m (length ds) ≡ Ok d
admitted-given t ds m d h = grind arith

abbrev pub Goes : Terms → List Day → List Pile → List Day → Type 0
Goes t ds [] [] = Unit {0}
Goes t ds [] (e ∷ es) = ⊥
Goes t ds (m ∷ ms) [] = ⊥
Goes t ds (m ∷ ms) (e ∷ es) = (admitted t ds m ≡ Ok e) × Goes t (ds ++ e ∷ []) ms es

goes_take : (t : Terms) (ds : List Day) (j : ℕ) (ms : List Pile) (es : List Day) → Goes t ds ms es → Goes t ds (take j ms) (take j es)
goes_take t ds zero ms es g = tt
goes_take t ds (suc j) [] [] g = tt
goes_take t ds (suc j) [] (e ∷ es) g = g
goes_take t ds (suc j) (m ∷ ms) [] g = g
goes_take t ds (suc j) (m ∷ ms) (e ∷ es) g = (g.0, goes_take t (ds ++ e ∷ []) j ms es g.1)

goes_front : (t : Terms) (j : ℤ) (ms : List Pile) (es : List Day) → Goes t [] ms es → Goes t [] (front j ms) (front j es)
goes_front t (pos n) ms es g = goes_take t [] n ms es g
goes_front t (negsuc n) ms es g = tt

goes_push : (t : Terms) (ds : List Day) (ms : List Pile) (es : List Day) (m : Pile) (e : Day) → Goes t ds ms es → admitted t (ds ++ es) m ≡ Ok e → Goes t ds (ms ++ m ∷ []) (es ++ e ∷ [])
goes_push t ds [] [] m e g h = (ap (λ xs. admitted t xs m) (sym (append-nil ds)) ∙ h, tt)
goes_push t ds [] (x ∷ es) m e g h = absurd g
goes_push t ds (n ∷ ms) [] m e g h = absurd g
goes_push t ds (n ∷ ms) (x ∷ es) m e g h = (g.0, goes_push t (ds ++ x ∷ []) ms es m e g.1 (ap (λ xs. admitted t xs m) (append_assoc ds (x ∷ []) es) ∙ h))

-- an accrual that is not refused appends an admitted day

not_refused : (b : Bool) (r : Result Day Told) → refusal_of (cond b (answering (λ _. accrued) r) (Err (plain 14))) ≡ None → (d : Day) × (r ≡ Ok d)
not_refused true (Ok d) h = (d, refl)
not_refused true (Err e) h = absurd cc
not_refused false r h = absurd cc

module _ (t : Terms) (s : Tally) (ms : List Pile) (g : Goes t [] ms s.standing) where
  goes_through : (c : Call) → judge t s c ≡ None → Goes t [] (given_by ms c) (carried s c).standing
  goes_through (accrue m) h =
      let r = not_refused _ (admitted t s.standing m) h in
      let e : appended s.standing (day_at m (length s.standing)) ≡ s.standing ++ (r.0 ∷ []) = ap (appended s.standing) (admitted-given t s.standing m r.0 r.1) in
      subst (λ (xs : List Day). Goes t [] (ms ++ m ∷ []) xs) (sym e) (goes_push t [] ms s.standing m r.0 g r.1)
  goes_through (check m) h = g
  goes_through (wind_back j) h = goes_front t j ms s.standing g
  goes_through close h = g
  goes_through (withdraw f) h = g
  goes_through (pay f) h = g
  goes_through (read i) h = g
  goes_through status h = g

  goes_by : (c : Call) (v : Option Told) → judge t s c ≡ v → Goes t [] (unless_refused v (given_by ms c) ms) (unless_refused v (carried s c) s).standing
  goes_by c None h = goes_through c h
  goes_by c (Some e) h = g

  goes_on : (c : Call) → Goes t [] (unless_refused (judge t s c) (given_by ms c) ms) (advance t s c).standing
  goes_on c = goes_by c (judge t s c) refl

goes_all : (t : Terms) (cs : List Call) (s : Tally) (ms : List Pile) → Goes t [] ms s.standing → Goes t [] (givers_from t s ms cs) (tally_from t s cs).standing
goes_all t [] s ms g = g
goes_all t (c ∷ cs) s ms g = goes_all t cs (advance t s c) _ (goes_on t s ms g c)

pub goes : (t : Terms) (cs : List Call) → Goes t [] (givers t cs) (tally t cs).standing
goes t cs = goes_all t cs begun [] tt

-- so one accrue over each of the piles goes through, and leaves the same days

abbrev accruing : List Day → Tally
accruing ds = record { phase = Accruing; standing = ds }

module _ (t : Terms) (ds : List Day) (m : Pile) (e : Day) (h : admitted t ds m ≡ Ok e) where
  accrues : judge t (accruing ds) (accrue m) ≡ None
  accrues = cc

  accrues_to : advance t (accruing ds) (accrue m) ≡ accruing (ds ++ e ∷ [])
  accrues_to = cc (accrues, admitted-given t ds m e h)

replay_through : (t : Terms) (ds : List Day) (ms : List Pile) (es : List Day) → Goes t ds ms es → Through t (accruing ds) (map accrue ms)
replay_through t ds [] [] g = tt
replay_through t ds [] (e ∷ es) g = absurd g
replay_through t ds (m ∷ ms) [] g = absurd g
replay_through t ds (m ∷ ms) (e ∷ es) g =
    (accrues t ds m e g.0, subst (λ (s : Tally). Through t s (map accrue ms)) (sym (accrues_to t ds m e g.0)) (replay_through t (ds ++ e ∷ []) ms es g.1))

replay_leaves : (t : Terms) (ds : List Day) (ms : List Pile) (es : List Day) → Goes t ds ms es → (tally_from t (accruing ds) (map accrue ms)).standing ≡ ds ++ es
replay_leaves t ds [] [] g = sym (append-nil ds)
replay_leaves t ds [] (e ∷ es) g = absurd g
replay_leaves t ds (m ∷ ms) [] g = absurd g
replay_leaves t ds (m ∷ ms) (e ∷ es) g =
    ap (λ (s : Tally). (tally_from t s (map accrue ms)).standing) (accrues_to t ds m e g.0) ∙ replay_leaves t (ds ++ e ∷ []) ms es g.1 ∙ append_assoc ds (e ∷ []) es

pub all_through : (t : Terms) (cs : List Call) → Through t begun (map accrue (givers t cs))
all_through t cs = replay_through t [] (givers t cs) (tally t cs).standing (goes t cs)

pub all_leave : (t : Terms) (cs : List Call) → (tally t (map accrue (givers t cs))).standing ≡ (tally t cs).standing
all_leave t cs = replay_leaves t [] (givers t cs) (tally t cs).standing (goes t cs)
