-- Laws of the lines that the rules give for a row of days.
-- Assumes nothing.
use Rattle.std.proofs.Common.{◌≡◌, ℕ, zero, suc, ◌+◌, ◌-◌, ◌≤◌, Bool, true, List, [], ◌∷◌, ◌++◌, length, take, ℤ, pos, ◌-ℤ◌, Some, None, Option, MatchOption, sym, refl, ap, ◌∙◌, subst, arith}
use Rattle.std.proofs.lemmas.List.{map-append, take-map, append-nil, append_assoc, length-map}
use Rattle.std.proofs.lemmas.Int.{ints}
use Rattle.std.proofs.lemmas.Bool.Decides.{nat_tests}
use Rattle.std.specs.List.{slice_get}
use Rattle.quantity.specs.declared.date.Date.{Date}
use Rattle.quantity.specs.declared.year.YearBase.{YearBase}
use Rattle.std.proofs.lemmas.List.Sums.{sum_by_push, sum_by-take-le}
use Rattle.rules.specs.Accrual.{at_one, carried, weight_of as weight_seen}
use Rattle.rules.specs.declared.observation.Observation.{Observation}
use Rattle.rules.specs.Chosen.{chosen_bounds}
use Rattle.rules.specs.Rate.{SmallAmount, amount_of, rate_of, same}
use Rattle.rules.specs.declared.bounds.Bounds.{Bounds}
use Rattle.rules.proofs.Exact.{weight_count}
use Rattle.rules.proofs.Prefix.{carried-push}
use Rattle.coupon.specs.declared.day.Day.{Day}
use Rattle.coupon.specs.declared.figures.Figures.{Figures}
use Rattle.coupon.specs.declared.line.Line.{Line}
use Rattle.coupon.specs.declared.terms.Terms.{Terms}
use Rattle.coupon.specs.Lines.{day_of, days_of, observation_of, seen, weight_of, year_base, bounds_at, next_date, amount_at, cumulative_of, figures_of, line_after, lines_from, lines_of, last_from, last_of, bounds_before, cumulative_before, is_modest, all_modest}

-- the last line

last_at : (l : Line) (ls : List Line) → last_from (Some l) ls ≡ slice_get (l ∷ ls) (length ls)
last_at l [] = refl
last_at l (x ∷ xs) = last_at x xs

pub last_is : (ls : List Line) → slice_get ls (length ls - 1) ≡ last_of ls
last_is [] = refl
last_is (l ∷ ls) = ap (slice_get (l ∷ ls)) (omega arith) ∙ sym (last_at l ls)

-- what the last line says is what the days come to
module _ {A : Type 0} (t : Terms) (f : Option Line → A) (F : List Day → A) (h : (ps : List Day) (d : Day) → f (Some (line_after t ps d)) ≡ F (ps ++ d ∷ [])) where
  last_gives : (ps ds : List Day) (p : Option Line) → f p ≡ F ps → f (last_from p (lines_from t ps ds)) ≡ F (ps ++ ds)
  last_gives ps [] p e = e ∙ ap F (sym (append-nil ps))
  last_gives ps (d ∷ ds) p e = last_gives (ps ++ d ∷ []) ds (Some (line_after t ps d)) (h ps d) ∙ ap F (append_assoc ps (d ∷ []) ds)

  pub last_says : (ds : List Day) → f None ≡ F [] → f (last_of (lines_of t ds)) ≡ F ds
  last_says ds e = last_gives [] ds None e

pub cumulative_pushed : (t : Terms) (ps : List Day) (d : Day) → amount_at t (ps ++ d ∷ []) ≡ cumulative_of t (ps ++ d ∷ [])
cumulative_pushed t [] d = refl
cumulative_pushed t (x ∷ ps) d = refl

-- the figures that a line says
abbrev pub figures_in : Terms → Line → Figures
figures_in t l = record { note = t.note; start = t.start; end = t.end; reported = l.reported; settled = l.settled; cumulative = l.cumulative }

pub figures_pushed : (t : Terms) (ps : List Day) (d : Day) → Some (figures_in t (line_after t ps d)) ≡ figures_of t (ps ++ d ∷ [])
figures_pushed t [] d = refl
figures_pushed t (x ∷ ps) d = refl

module _ (t : Terms) (ds : List Day) where
  pub bounds_is : bounds_before (last_of (lines_of t ds)) ≡ bounds_at t ds
  bounds_is = last_says t bounds_before (bounds_at t) (λ _ _. refl) ds refl

  pub cumulative_is : cumulative_before (last_of (lines_of t ds)) ≡ cumulative_of t ds
  cumulative_is = last_says t cumulative_before (cumulative_of t) (cumulative_pushed t) ds refl

pub next_push : (s : Date) (ds : List Day) (d : Day) → next_date s (ds ++ d ∷ []) ≡ d.next
next_push s [] d = refl
next_push s (x ∷ ds) d = next_push x.next ds d

-- the first lines of a row, and one line more

pub take_lines : (t : Terms) (ps : List Day) (j : ℕ) (ds : List Day) → take j (lines_from t ps ds) ≡ lines_from t ps (take j ds)
take_lines t ps zero ds = refl
take_lines t ps (suc j) [] = refl
take_lines t ps (suc j) (d ∷ ds) = ap (λ xs. line_after t ps d ∷ xs) (take_lines t (ps ++ d ∷ []) j ds)

lines_push : (t : Terms) (ps ds : List Day) (d : Day) → lines_from t ps (ds ++ d ∷ []) ≡ lines_from t ps ds ++ (line_after t (ps ++ ds) d ∷ [])
lines_push t ps [] d = ap (λ xs. line_after t xs d ∷ []) (sym (append-nil ps))
lines_push t ps (x ∷ ds) d =
    ap (λ xs. line_after t ps x ∷ xs) (lines_push t (ps ++ x ∷ []) ds d ∙ ap (λ xs. lines_from t (ps ++ x ∷ []) ds ++ (line_after t xs d ∷ [])) (append_assoc ps (x ∷ []) ds))

pub lines_count : (t : Terms) (ps ds : List Day) → length (lines_from t ps ds) ≡ length ds
lines_count t ps [] = refl
lines_count t ps (d ∷ ds) = ap suc (lines_count t (ps ++ d ∷ []) ds)

pub weight_push : (ds : List Day) (d : Day) → weight_of (ds ++ d ∷ []) ≡ weight_of ds + d.weight.days
weight_push ds d = ap weight_seen (map-append observation_of ds (d ∷ [])) ∙ sum_by_push (λ (o : Observation). o.weight.days) (seen ds) (observation_of d)

pub weight_take : (j : ℕ) (ds : List Day) → weight_of (take j ds) ≤ weight_of ds
weight_take j ds = omega (arith, ap weight_seen (take-map observation_of j ds), sum_by-take-le (λ (o : Observation). o.weight.days) (seen ds) j)

pub few_days : (ds : List Day) → length ds ≤ weight_of ds
few_days ds = omega (arith, weight_count (seen ds), length-map ds observation_of)

-- the rule's step from a row to one day more
pub bounds_push : (t : Terms) (ds : List Day) (d : Day) → bounds_at t (ds ++ d ∷ []) ≡ chosen_bounds t.rule (year_base t) (length ds) (bounds_at t ds) (observation_of d)
bounds_push t ds d =
    let step = chosen_bounds t.rule (year_base t) in
    let count : 0 + length (seen ds) ≡ length ds = omega (arith, length-map ds observation_of) in
    ap (carried step 0 at_one) (map-append observation_of ds (d ∷ []))
    ∙ carried-push step 0 at_one (seen ds) (observation_of d)
    ∙ ap (λ k. step k (bounds_at t ds) (observation_of d)) count

-- lines stay exact by one line more and under a cut

module _ (t : Terms) (ls : List Line) (exact : ls ≡ lines_of t (days_of ls)) where
  pub days_pushed : (l : Line) (d : Day) (xs : List Line) → l ≡ line_after t (days_of ls) d → xs ≡ ls ++ (l ∷ []) → days_of xs ≡ days_of ls ++ (d ∷ [])
  days_pushed l d xs e h = cc (map-append day_of ls (l ∷ []))

  pub exact_push : (l : Line) (d : Day) (xs : List Line) → l ≡ line_after t (days_of ls) d → xs ≡ ls ++ (l ∷ []) → xs ≡ lines_of t (days_of xs)
  exact_push l d xs e h = cc (days_pushed l d xs e h, lines_push t [] (days_of ls) d)

  pub exact_cut : (j : ℕ) (xs : List Line) → xs ≡ take j ls → xs ≡ lines_of t (days_of xs)
  exact_cut j xs h = cc (take-map day_of j ls, take_lines t [] j (days_of ls))

pub weight_cut : (j : ℕ) (ls xs : List Line) → xs ≡ take j ls → weight_of (days_of xs) ≤ weight_of (days_of ls)
weight_cut j ls xs h = let e : weight_of (days_of xs) ≡ weight_of (take j (days_of ls)) = cc (take-map day_of j ls) in omega (arith, weight_take j (days_of ls))

-- lines with amounts whose differences fit 64 bits

modest_is : (l : Line) → SmallAmount l.cumulative → is_modest l ≡ true
modest_is l s = let a = s.least in let b = s.most in grind (arith, ints, nat_tests)

modest_small : (l : Line) → is_modest l ≡ true → SmallAmount l.cumulative
modest_small l e = record { least = grind (arith, ints, nat_tests); most = grind (arith, ints, nat_tests) }

pub modest_push : (ls : List Line) (l : Line) → all_modest ls ≡ true → SmallAmount l.cumulative → all_modest (ls ++ l ∷ []) ≡ true
modest_push [] l h s = grind (arith, modest_is l s)
modest_push (x ∷ ls) l h s = grind (arith, modest_push ls l)

pub modest_take : (j : ℕ) (ls : List Line) → all_modest ls ≡ true → all_modest (take j ls) ≡ true
modest_take zero ls h = refl
modest_take (suc j) [] h = refl
modest_take (suc j) (x ∷ ls) h = grind (arith, modest_take j ls)

pub modest_last : (ls : List Line) (l : Line) → all_modest ls ≡ true → Some l ≡ last_of ls → SmallAmount l.cumulative
modest_last [] l h e = absurd cc
modest_last (x ∷ []) l h e = modest_small l (grind arith)
modest_last (x ∷ (y ∷ ls)) l h e = modest_last (y ∷ ls) l (grind arith) e

-- what is read of the last line, or 0
pub modest_read : (ls : List Line) (p : Option Line) (r : ℤ) → all_modest ls ≡ true → p ≡ last_of ls → MatchOption p (r ≡ pos 0) (λ l. r ≡ l.cumulative) → SmallAmount r
modest_read ls None r h e is = record { least = grind (arith, ints); most = grind (arith, ints) }
modest_read ls (Some l) r h e is = subst SmallAmount (sym is) (modest_last ls l h e)

-- the line of one day more, from its parts
abbrev made_line : Day → ℕ → Bounds → ℤ → Bool → ℤ → ℤ → Line
made_line d n b rate mark sum daily = record { day = d; total = record { days = n }; bounds = b; reported = rate; settled = mark; cumulative = sum; daily = daily }

pub line_is : (t : Terms) (ds : List Day) (d : Day) (base : YearBase) (W n : ℕ) (b m : Bounds) (rate : ℤ) (mark : Bool) (days : ℕ) (sum before : ℤ)
    → base ≡ year_base t → W ≡ weight_of (ds ++ d ∷ []) → n ≡ W → b ≡ bounds_at t (ds ++ d ∷ []) → m ≡ b
    → rate ≡ rate_of base W m.lo → mark ≡ same (rate_of base W m.hi) (rate_of base W m.lo)
    → days ≡ d.next.number - t.start.number → sum ≡ amount_of base t.amount.cents rate t.margin.places days → before ≡ cumulative_of t ds
    → made_line d n b rate mark sum (sum -ℤ before) ≡ line_after t ds d
line_is t ds d base W n b m rate mark days sum before eb ew en ec em er ek ed es ep = cc (next_push t.start ds d)
