-- What holds of an account after any list of calls.
-- Assumes nothing.
use Rattle.std.proofs.Common.{◌≡◌, ◌≤◌, List, [], ◌∷◌, ◌++◌, sym, refl, ap, ◌∙◌, subst}
use Rattle.coupon.specs.Lines.{lines_of, weight_of}
use Rattle.coupon.specs.Sound.{AddUp}
use Rattle.coupon.proofs.Sound.{add_up, sound_of}
use Rattle.coupon.specs.declared.day.Day.{Day}
use Rattle.coupon.specs.declared.terms.Terms.{Terms}
use Rattle.account.specs.declared.account.Account.{Account}
use Rattle.account.specs.Accounts.{lines_in, standing_of, tally_of, terms_of}
use Rattle.account.specs.Histories.{Follows, Opened, Performed, Reached, Stated}
use Rattle.account.specs.Tally.{Call, Tally, advance, begun, replay, tally, tally_from}
use Rattle.account.proofs.Goes.{all_leave, all_through}

-- the terms stay, and the tally of the account is that of the calls
pub record Known (t : Terms) (s : Tally) (a : Account) : Type 0 where
  pub on_terms : terms_of a ≡ t
  pub tallied : tally_of a ≡ s

known_from : (t : Terms) (cs : List Call) (a e : Account) (s : Tally) → Known t s a → Follows a cs e → Known t (tally_from t s cs) e
known_from t [] a e s k f = record { on_terms = cc; tallied = cc }
known_from t (c ∷ cs) a e s k f =
    let p = f.1.0 in
    known_from t cs f.0 e (advance t s c)
    record { on_terms = cc; tallied = cc }
    f.1.1

opened_known : (t : Terms) (a : Account) → Opened t a → Known t begun a
opened_known t a h = record { on_terms = h.on_terms; tallied = cc (h.accruing, h.no_lines) }

pub known_after : (a e : Account) (cs : List Call) → Follows a cs e → Known (terms_of a) (tally_from (terms_of a) (tally_of a) cs) e
known_after a e cs f = known_from (terms_of a) cs a e (tally_of a) (record { on_terms = refl; tallied = refl }) f

pub known : (t : Terms) (cs : List Call) (a : Account) → Reached t cs a → Known t (tally t cs) a
known t cs a r = known_from t cs r.first a begun (opened_known t r.first r.opened) r.follows

-- the lines of an account are what the rules give for its tally's standing days
lines_known : (t : Terms) (ds : List Day) (a : Account) → terms_of a ≡ t → standing_of a ≡ ds → lines_in a ≡ lines_of t ds
lines_known t ds a on days = cc a.lines.exact

standing_known : (t : Terms) (s : Tally) (a : Account) → Known t s a → standing_of a ≡ s.standing
standing_known t s a k = ap (λ (x : Tally). x.standing) k.tallied

pub states : (t : Terms) (cs : List Call) (a : Account) → Reached t cs a → Stated t cs a
states t cs a reached =
    let ds = (tally t cs).standing in
    let k = known t cs a reached in
    let days = standing_known t (tally t cs) a k in
    let mine = lines_known t ds a k.on_terms days in
    let light : weight_of ds ≤ 400 = subst (λ (xs : List Day). weight_of xs ≤ 400) days a.lines.light in
    record {
      issuer = sound_of t ds (lines_in a) mine light;
      through = all_through t cs;
      leaves = all_leave t cs;
      holder = λ b held.
          let h = known t (replay t cs) b held in
          let theirs = lines_known t ds b h.on_terms (standing_known t (tally t (replay t cs)) b h ∙ all_leave t cs) in
          (mine ∙ sym theirs, sound_of t ds (lines_in b) theirs light);
    }

-- one call more
pub follows_push : (a b e : Account) (cs : List Call) (c : Call) → Follows a cs b → Performed c b e → Follows a (cs ++ c ∷ []) e
follows_push a b e [] c f p = (e, (subst (λ (x : Account). Performed c x e) (sym f) p, refl))
follows_push a b e (x ∷ cs) c f p = (f.0, (f.1.0, follows_push f.0 b e cs c f.1.1 p))

pub reached_more : (t : Terms) (cs : List Call) (c : Call) (a b : Account) → Reached t cs a → Performed c a b → Reached t (cs ++ c ∷ []) b
reached_more t cs c a b r p = record { first = r.first; opened = r.opened; follows = follows_push r.first a b cs c r.follows p }

pub reached_none : (t : Terms) (a : Account) → Opened t a → Reached t [] a
reached_none t a h = record { first = a; opened = h; follows = refl }

pub account_adds : (a : Account) → AddUp (lines_in a)
account_adds a = add_up (terms_of a) (lines_in a) (standing_of a) a.lines.exact
