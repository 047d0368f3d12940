-- An issuer's account held against a holder's.
-- Assumes nothing.
use Rattle.std.specs.Prelude.{◌≡◌, Bool, true, false, cond, ◌&&◌, List, [], ◌∷◌, map, Some, None, Decides, Option, Result, MatchResult}
use Rattle.std.specs.Borrow.{Bor}
use Rattle.quantity.specs.Refusals.{Told, plain, told}
use Rattle.quantity.specs.declared.refusal.Refusal.{Refusal}
use Rattle.pile.specs.Piles.{Pile}
use Rattle.coupon.specs.Sound.{Sound}
use Rattle.coupon.specs.declared.terms.Terms.{Terms}
use Rattle.account.specs.declared.account.Account.{Account}
use Rattle.account.specs.declared.phase.Phase.{Phase}
use Rattle.account.specs.declared.phase.Kind.TheVariants.{Open, Read}
use Rattle.account.specs.Accounts.{lines_in, tally_of, terms_of}
use Rattle.account.specs.Histories.{Follows, Reached, Stated}
use Rattle.account.specs.Phases.{allows}
use Rattle.account.specs.Tally.{Call, Tally, accrue, advance, begun, givers, judge, tally}

-- what piles that are lent mean
abbrev pub meanings : {P : Type 0} → (P → Pile) → List (Bor P) → List Pile
meanings f ps = map (λ r. f r.now) ps

abbrev pub is_none : Option Told → Bool
is_none None = true
is_none (Some e) = false

-- whether each of the calls, on the tally that those before it leave, goes through
abbrev pub passes : Terms → Tally → List Call → Bool
passes t s [] = true
passes t s (c ∷ cs) = is_none (judge t s c) && passes t (advance t s c) cs

-- an account accrued over piles in their order, and whether each accrual went through
pub record Replayed (ms : List Pile) (a b : Account) (r : Bool) : Type 0 where
  pub follows : Follows a (map accrue ms) b
  pub all : r ≡ passes (terms_of a) (tally_of a) (map accrue ms)

-- The holder's account b has been opened on the issuer's terms and accrued over these piles and nothing else. The answer is yes exactly where each
-- accrual went through and the lines are the same. It is yes for every history of the issuer's account whose standing days these
-- piles gave, and then the statement holds of the issuer's account, and the holder's lines are the same and sound too.
pub record Reconciled (ms : List Pile) (issuer b : Account) (yes : Bool) : Type 0 where
  pub replayed : Reached (terms_of issuer) (map accrue ms) b
  pub decides : Decides yes ((passes (terms_of issuer) begun (map accrue ms) ≡ true) × (lines_in issuer ≡ lines_in b))
  pub confirms : (t : Terms) (cs : List Call) → Reached t cs issuer → givers t cs ≡ ms
      → (yes ≡ true) × (Stated t cs issuer × ((lines_in issuer ≡ lines_in b) × Sound t (lines_in b) (tally t cs).standing))

-- 14 for an issuer's account that was never opened, or a holder's account that is in use
abbrev pub judge_reconciling : Phase → Phase → Option Told
judge_reconciling issuer holder = cond (allows issuer Read && allows holder Open) None (Some (plain 14))

abbrev pub Reconciling : List Pile → Account → Account → Account → Result Bool Refusal → Type 0
Reconciling ms issuer o b r = MatchResult r
    (λ yes. (judge_reconciling issuer.phase o.phase ≡ None) × Reconciled ms issuer b yes)
    (λ e. (judge_reconciling issuer.phase o.phase ≡ Some (told e)) × (b ≡ o))
