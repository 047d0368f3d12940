-- What may come of an account by its calls, and what then holds of it.
-- Assumes nothing.
use Rattle.std.specs.Prelude.{◌≡◌, List, [], ◌∷◌, ◌++◌, Some, None}
use Rattle.quantity.specs.Refusals.{Told}
use Rattle.coupon.specs.Sound.{AddUp, Sound}
use Rattle.coupon.specs.declared.terms.Terms.{Terms}
use Rattle.account.specs.declared.account.Account.{Account}
use Rattle.account.specs.declared.phase.Phase.TheVariants.{Accruing}
use Rattle.account.specs.Accounts.{lines_in, tally_of, terms_of}
use Rattle.account.specs.Tally.{Answer, Call, Tally, advance, answer, begun, judge, replay, tally}

-- what a call does to an account: its tally goes on by the call, and a refusal changes nothing at all
pub record Performed (c : Call) (a b : Account) : Type 0 where
  pub same_terms : terms_of b ≡ terms_of a
  pub tallied : tally_of b ≡ advance (terms_of a) (tally_of a) c
  pub unchanged : (e : Told) → judge (terms_of a) (tally_of a) c ≡ Some e → b ≡ a

-- an account as an opening on these terms leaves it
pub record Opened (t : Terms) (a : Account) : Type 0 where
  pub on_terms : terms_of a ≡ t
  pub accruing : a.phase ≡ Accruing
  pub no_lines : lines_in a ≡ []

-- e comes of a by the calls, each on the result of those before, each going through or turned down
abbrev pub Follows : Account → List Call → Account → Type 0
Follows a [] e = a ≡ e
Follows a (c ∷ cs) e = (b : Account) × (Performed c a b × Follows b cs e)

-- the account comes of an opening on these terms by these calls and no others
pub record Reached (t : Terms) (cs : List Call) (a : Account) : Type 0 where
  pub first : Account
  pub opened : Opened t first
  pub follows : Follows first cs a

-- each of the calls, on the tally that those before it leave, goes through
abbrev pub Through : Terms → Tally → List Call → Type 0
Through t s [] = Unit {0}
Through t s (c ∷ cs) = (judge t s c ≡ None) × Through t (advance t s c) cs

-- What holds of the issuer's account a after the calls cs. Its lines are sound for the standing days. The holder's accruals, one over the
-- pile that gave each standing day, all go through and leave the same standing days. And every holder's account that is opened
-- on the same terms and accrues these days, and nothing else, holds the same lines, which are sound for them.
pub record Stated (t : Terms) (cs : List Call) (a : Account) : Type 0 where
  pub issuer : Sound t (lines_in a) (tally t cs).standing
  pub through : Through t begun (replay t cs)
  pub leaves : (tally t (replay t cs)).standing ≡ (tally t cs).standing
  pub holder : (b : Account) → Reached t (replay t cs) b → (lines_in a ≡ lines_in b) × Sound t (lines_in b) (tally t cs).standing

-- A call made: the answer, what it does, and what then holds of every history: whatever calls the account has had since it was opened,
-- the statement holds with this call as the last.
pub record Done (c : Call) (a b : Account) (r : Answer) : Type 0 where
  pub answered : r ≡ answer (terms_of a) (tally_of a) c
  pub performed : Performed c a b
  pub stated : (t : Terms) (cs : List Call) → Reached t cs a → Reached t (cs ++ c ∷ []) b × Stated t (cs ++ c ∷ []) b
  pub adds_up : AddUp (lines_in b)
