use Rattle.std.proofs.Common.{◌≡◌, false, leb, MatchOption, vec_items, ap, ◌∙◌, arith, rules}
use Rattle.std.proofs.lemmas.List.{length-map}
use Rattle.std.proofs.lemmas.Bool.Decides.{nat_tests}
use Rattle.quantity.specs.declared.date.Date.{Date}
use Rattle.quantity.specs.Orders.{rises}
use Rattle.calendar.specs.Holidays.{day_numbers, judge_holiday}
use Rattle.calendar.proofs.Rising.{below_least, rises-push, pushed}
use Rattle.calendar.proofs.holidays.HolidayList.add.Goals as goal

pub returns-then-is_some_and-clause-judged : goal.returns-then-is_some_and-clause-judged
unfolding judge_holiday
returns-then-is_some_and-clause-judged c =
    let e = c.in_ok-date.ensures in
    let size = length-map (vec_items c.args.self.now.holidays) (λ (h : Date). h.number) in
    let known = c.args.self.now.holidays.ok.0 in
    let test : MatchOption c.last.result (c.is_some_and.result ≡ false) (λ x. c.is_some_and.result ≡ leb c.in_ok-date.date.number x.now.number) = search rules in
    let below = below_least c.deref.result.now c.last.result c.in_ok-date.date.number c.is_some_and.result c.last.ensures.item test in
    grind (arith, nat_tests)

pub invariant_of-self : goal.invariant_of-self
invariant_of-self c =
    let e = c.in_ok-date.ensures in
    let days = pushed _ _ _ _ c.push_reserved.ensures.items e in
    let test : MatchOption c.last.result (c.is_some_and.result ≡ false) (λ x. c.is_some_and.result ≡ leb c.in_ok-date.date.number x.now.number) = search rules in
    let below = below_least c.deref.result.now c.last.result c.in_ok-date.date.number c.is_some_and.result c.last.ensures.item test in
    record { few = omega arith; room = omega arith; rising = ap rises days ∙ rises-push (day_numbers c.args.self.now.holidays.items) c.args.number c.args.self.now.rising (grind (arith, nat_tests)) }

pub returns-clause-judged : goal.returns-clause-judged
unfolding judge_holiday
returns-clause-judged c =
    let e = c.in_ok-date.ensures in
    let size = length-map (vec_items c.args.self.now.holidays) (λ (h : Date). h.number) in
    let known = c.args.self.now.holidays.ok.0 in
    let test : MatchOption c.last.result (c.is_some_and.result ≡ false) (λ x. c.is_some_and.result ≡ leb c.in_ok-date.date.number x.now.number) = search rules in
    let below = below_least c.deref.result.now c.last.result c.in_ok-date.date.number c.is_some_and.result c.last.ensures.item test in
    grind (arith, nat_tests)
