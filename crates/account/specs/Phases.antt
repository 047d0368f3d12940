-- The phases of an account, and the calls that each allows.
-- Assumes nothing.
use Rattle.std.specs.Prelude.{ℕ, Bool, true, false, cond, ◌&&◌, Ok, Err, Result, ◌==◌, nat_le, nat_lt}
use Rattle.quantity.specs.Refusals.{Told, plain}
use Rattle.account.specs.declared.phase.Phase.{Phase}
use Rattle.account.specs.declared.phase.Phase.TheVariants.{Empty, Accruing, Closed, Paid}
use Rattle.account.specs.declared.phase.Kind.{Kind}
use Rattle.account.specs.declared.phase.Kind.TheVariants.{Open, Accrue, Check, WindBack, Close, Withdraw, Pay, Read}

abbrev pub is_accruing : Phase → Bool
is_accruing Empty = false
is_accruing Accruing = true
is_accruing Closed = false
is_accruing Paid = false

abbrev pub is_closed : Phase → Bool
is_closed Empty = false
is_closed Accruing = false
is_closed Closed = true
is_closed Paid = false

abbrev pub is_opened : Phase → Bool
is_opened Empty = false
is_opened Accruing = true
is_opened Closed = true
is_opened Paid = true

abbrev pub is_free : Phase → Bool
is_free Empty = true
is_free Accruing = false
is_free Closed = false
is_free Paid = true

-- in which phases a call may be made
abbrev pub allows : Phase → Kind → Bool
allows p Open = is_free p
allows p Accrue = is_accruing p
allows p Check = is_opened p
allows p WindBack = is_accruing p
allows p Close = is_accruing p
allows p Withdraw = is_closed p
allows p Pay = is_closed p
allows p Read = is_opened p

-- the phase after a call that goes through
abbrev pub phase_after : Phase → Kind → Phase
phase_after p Open = Accruing
phase_after p Accrue = p
phase_after p Check = p
phase_after p WindBack = p
phase_after p Close = Closed
phase_after p Withdraw = Accruing
phase_after p Pay = Paid
phase_after p Read = p

-- what a call answers where its phase allows it, and otherwise 14
abbrev pub in_phase : {A : Type 0} → Phase → Kind → Result A Told → Result A Told
in_phase p k r = cond (allows p k) r (Err (plain 14))

abbrev pub moved : Phase → Kind → Result Phase Told
moved p k = in_phase p k (Ok (phase_after p k))

-- the phase that a call with a due leads to: 20 where its figures differ
abbrev pub settled_phase : Phase → Kind → Bool → Result Phase Told
settled_phase p k same = in_phase p k (cond same (Ok (phase_after p k)) (Err (plain 20)))

-- which numbers of days n and of lines k go with a phase
abbrev pub fits : Phase → (n k : ℕ) → Bool
fits Empty n k = k == 0
fits Accruing n k = nat_lt 0 n && nat_le k n
fits Closed n k = nat_lt 0 n && k == n
fits Paid n k = nat_lt 0 n && k == n
