use Rattle.std.proofs.Common.{refl, rules, tests}
use Rattle.std.proofs.lemmas.Iterator.{YieldsList-from_range}
use Rattle.std.proofs.lemmas.Iterator.Consumers.{YieldsList-at, YieldsList-from_filter, count_from_yields_List}
use Rattle.schedule.proofs.Ranks.{rank_counted}
use Rattle.schedule.proofs.schedule.build.count.Goals as goal

pub returns-clause-ranked : goal.returns-clause-ranked
returns-clause-ranked g c =
    let good = g.C.Calendar.good c.args.calendar.now in
    let within = g.met.C.Calendar.within c.args.calendar.now in
    rank_counted good c.args.start.number c.args.end.number c.count.result c.requires
    (count_from_yields_List c.filter.result c.count.result c.count.ensures.ran
    (YieldsList-from_filter _ good (YieldsList-at c.filter.ensures.source (YieldsList-from_range c.args.start.number c.args.end.number _ (cc) refl)) c.filter.ensures.closure (λ x b q k. search (rules, tests))))
