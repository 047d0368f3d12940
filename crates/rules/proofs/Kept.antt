-- What is worked out in 64 and 128 bits is what the definitions have.
-- Assumes nothing.
use Rattle.std.proofs.Common.{◌≡◌, ℕ, ◌*◌, ◌^◌, ◌<◌, ◌≤◌, true, ℤ, pos, negsuc, ◌+ℤ◌, ◌-ℤ◌, ◌*ℤ◌, ◌≤ℤ◌, sym, ◌∙◌, refl, arith, w64, SFits, to_z, of_z, Option, Some, None, MatchOption}
use Rattle.std.specs.Option.{IsSome}
use Rattle.std.specs.Int.RustNames.{unsigned_abs}
use mir.Syntax.{Width, w128}
use Rattle.std.proofs.lemmas.Int.{ints, to_z-of_z}
use Rattle.quantity.proofs.Bases.{base_most}
use Rattle.quantity.specs.Benchmarks.{days_in}
use Rattle.quantity.specs.declared.year.YearBase.{YearBase}
use Rattle.rules.specs.Rate.{rate_of, amount_of}
use Rattle.rules.specs.Reach.{unit, reach, is_in_reach}
use Rattle.rules.specs.Rounding.{nearest}
use Rattle.rules.proofs.Nearest.{rate_most, amount_most}
use Rattle.rules.proofs.Reach.{in_reach_least, in_reach_most, part_most, excess_most, yearly_most, interest_most}

-- what a clause on an `Option` says where the reason for none is false
pub some_of : {X : Type 0} (o : Option X) (P : Type 0) (Q : X → Type 0) → MatchOption o P Q → (P → ⊥) → IsSome o
some_of None P Q p never = absurd (never p)
some_of (Some x) P Q q never = refl

-- a product of two numbers
times_kept : (w : Width) (a b : ℤ) → SFits w a → SFits w b → SFits w (a *ℤ b) → to_z w (of_z w (to_z w (of_z w a) *ℤ to_z w (of_z w b))) ≡ a *ℤ b
times_kept w a b f g h = simp to_z-of_z

-- a bound times a gain
module _ (a z : ℤ) (a_in : is_in_reach a ≡ true) (small : unsigned_abs z ≤ 3750000) where
  a_fits : SFits w64 a
  a_fits = omega (arith, ints, in_reach_least a a_in, in_reach_most a a_in)

  z_fits : SFits w64 z
  z_fits = omega (arith, ints, small)

  pub part_fits : SFits w64 (to_z w64 (of_z w64 a) *ℤ to_z w64 (of_z w64 z))
  part_fits = let f = a_fits in let g = z_fits in simp to_z-of_z (omega (arith, ints, part_most a z a_in small))

  pub part_kept : to_z w64 (of_z w64 (to_z w64 (of_z w64 a) *ℤ to_z w64 (of_z w64 z))) ≡ a *ℤ z
  part_kept = times_kept w64 a z a_fits z_fits (omega (arith, ints, part_most a z a_in small))

  pub part_room : negsuc 9223372036854775806 ≤ℤ to_z w64 (of_z w64 (to_z w64 (of_z w64 a) *ℤ to_z w64 (of_z w64 z)))
  part_room = rw part_kept (omega (arith, ints, part_most a z a_in small))

-- a bound with its part of the bound a, where `div` rounds
module _ (div : ℤ → ℕ → ℤ) (least : (z : ℤ) (B : ℕ) → unsigned_abs (div z B) ≤ unsigned_abs z) (b a z : ℤ) (B : ℕ) (b_in : is_in_reach b ≡ true) (a_in : is_in_reach a ≡ true) (small : unsigned_abs z ≤ 3750000) (q : ℤ)
    (e : q ≡ div (to_z w64 (of_z w64 (to_z w64 (of_z w64 a) *ℤ to_z w64 (of_z w64 z)))) B) where
  share : q ≡ div (a *ℤ z) B
  share = rw (part_kept a z a_in small) at e

  most : unsigned_abs q ≤ reach * 3750000
  most = rw share (omega (arith, least (a *ℤ z) B, part_most a z a_in small))

  pub sum_fits : SFits w64 (to_z w64 (of_z w64 b) +ℤ to_z w64 (of_z w64 q))
  sum_fits = omega (arith, ints, in_reach_least b b_in, in_reach_most b b_in, most)

  pub sum_kept : to_z w64 (of_z w64 (to_z w64 (of_z w64 b) +ℤ to_z w64 (of_z w64 q))) ≡ b +ℤ div (a *ℤ z) B
  sum_kept = rw (sym share) (omega (arith, ints, in_reach_least b b_in, in_reach_most b b_in, most))

-- the rate of a bound
module _ (base : YearBase) (W : ℕ) (bound x n : ℤ) (b_in : is_in_reach bound ≡ true) (x_is : x ≡ to_z w64 (of_z w64 (to_z w64 (of_z w64 bound) -ℤ pos unit))) (n_is : n ≡ pos (days_in base)) where
  excess_kept : to_z w128 (of_z w128 (to_z w128 (of_z w128 x) *ℤ to_z w128 (of_z w128 n))) ≡ (bound -ℤ pos unit) *ℤ pos (days_in base)
  excess_kept =
      let e : x ≡ bound -ℤ pos unit = omega (arith, ints, in_reach_least bound b_in, in_reach_most bound b_in) in
      rw (e, n_is) (times_kept w128 (bound -ℤ pos unit) (pos (days_in base)) (omega (arith, ints, in_reach_least bound b_in, in_reach_most bound b_in)) (omega (arith, ints, base_most base)) (omega (arith, ints, excess_most bound base b_in)))

  pub excess_room : unsigned_abs (to_z w128 (of_z w128 (to_z w128 (of_z w128 x) *ℤ to_z w128 (of_z w128 n)))) ≤ 2 ^ 100
  excess_room = rw excess_kept (omega (arith, excess_most bound base b_in))

  pub rate_is : (d : ℕ) (q : ℤ) → 0 < W → d ≡ W → q ≡ nearest (to_z w128 (of_z w128 (to_z w128 (of_z w128 x) *ℤ to_z w128 (of_z w128 n)))) (100000 * d) → (q ≡ rate_of base W bound) × (unsigned_abs q ≤ 3660000000)
  rate_is d q some d_is q_is =
      let e : q ≡ rate_of base W bound = rw (excess_kept, d_is) at q_is in
      (e, rw e (rate_most base W bound b_in some))

-- a principal times a rate
module _ (principal : ℕ) (rate p r : ℤ) (p_most : principal ≤ 1000000000) (r_most : unsigned_abs rate ≤ 3661000000) (p_is : p ≡ pos principal) (r_is : r ≡ rate) where
  pub yearly_fits : SFits w128 (to_z w128 (of_z w128 p) *ℤ to_z w128 (of_z w128 r))
  yearly_fits =
      let a : to_z w128 (of_z w128 p) ≡ pos principal = omega (arith, ints) in
      let b : to_z w128 (of_z w128 r) ≡ rate = omega (arith, ints, r_most) in
      rw (a, b) (omega (arith, ints, yearly_most principal rate p_most r_most))

  yearly_kept : to_z w128 (of_z w128 (to_z w128 (of_z w128 p) *ℤ to_z w128 (of_z w128 r))) ≡ pos principal *ℤ rate
  yearly_kept = rw (p_is, r_is) (times_kept w128 (pos principal) rate (omega (arith, ints)) (omega (arith, ints, r_most)) (omega (arith, ints, yearly_most principal rate p_most r_most)))

-- an amount
module _ (base : YearBase) (principal days : ℕ) (rate margin p r d : ℤ) (p_most : principal ≤ 1000000000) (r_most : unsigned_abs (rate +ℤ margin) ≤ 3661000000) (d_most : days ≤ 2 ^ 32)
    (p_is : p ≡ pos principal) (r_is : r ≡ rate +ℤ margin) (d_is : d ≡ pos days) where
  product : to_z w128 (of_z w128 (to_z w128 (of_z w128 p) *ℤ to_z w128 (of_z w128 r))) *ℤ to_z w128 (of_z w128 d) ≡ (pos principal *ℤ (rate +ℤ margin)) *ℤ pos days
  product =
      let a = yearly_kept principal (rate +ℤ margin) p r p_most r_most p_is r_is in
      let b : to_z w128 (of_z w128 d) ≡ pos days = omega (arith, ints) in
      cc

  pub interest_fits : SFits w128 (to_z w128 (of_z w128 (to_z w128 (of_z w128 p) *ℤ to_z w128 (of_z w128 r))) *ℤ to_z w128 (of_z w128 d))
  interest_fits = rw product (omega (arith, ints, interest_most principal days (rate +ℤ margin) p_most r_most d_most))

  interest_kept : to_z w128 (of_z w128 (to_z w128 (of_z w128 (to_z w128 (of_z w128 p) *ℤ to_z w128 (of_z w128 r))) *ℤ to_z w128 (of_z w128 d))) ≡ (pos principal *ℤ (rate +ℤ margin)) *ℤ pos days
  interest_kept = to_z-of_z w128 _ interest_fits ∙ product

  pub interest_room : unsigned_abs (to_z w128 (of_z w128 (to_z w128 (of_z w128 (to_z w128 (of_z w128 p) *ℤ to_z w128 (of_z w128 r))) *ℤ to_z w128 (of_z w128 d)))) ≤ 2 ^ 100
  interest_room = rw interest_kept (omega (arith, interest_most principal days (rate +ℤ margin) p_most r_most d_most))

  pub amount_is : (n : ℕ) (q : ℤ) → n ≡ days_in base → q ≡ nearest (to_z w128 (of_z w128 (to_z w128 (of_z w128 (to_z w128 (of_z w128 p) *ℤ to_z w128 (of_z w128 r))) *ℤ to_z w128 (of_z w128 d)))) (n * 10000000)
      → (q ≡ amount_of base principal rate margin days) × (unsigned_abs q ≤ 4400000000000000000)
  amount_is n q n_is q_is =
      let e : q ≡ amount_of base principal rate margin days = rw (interest_kept, n_is) at q_is in
      (e, rw e (amount_most base principal days rate margin p_most r_most d_most))
