-- What an account holds.
-- Assumes nothing.
use Rattle.std.specs.Prelude.{List}
use Rattle.coupon.specs.Coupons.{borne, held}
use Rattle.coupon.specs.declared.day.Day.{Day}
use Rattle.coupon.specs.declared.line.Line.{Line}
use Rattle.coupon.specs.declared.terms.Terms.{Terms}
use Rattle.account.specs.declared.account.Account.{Account}
use Rattle.account.specs.Tally.{Tally}

abbrev pub terms_of : Account → Terms
terms_of a = a.lines.terms

abbrev pub lines_in : Account → List Line
lines_in a = held a.lines

-- the days that its lines bear
abbrev pub standing_of : Account → List Day
standing_of a = borne a.lines

abbrev pub tally_of : Account → Tally
tally_of a = record { phase = a.phase; standing = standing_of a }
