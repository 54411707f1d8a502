-- The cookies of nodes at different places, from the law that cookies tell what they are made of.
use Rattle.std.proofs.Common.{◌≡◌, ◌≢◌, ◌<◌, ◌^◌, false, sym, ap, ◌∙◌}
use Rattle.m2_session.specs.m2_policy.declared.policy.Policy.{Policy}
use Rattle.m2_session.specs.declared.cookie.CookieParts.{CookieParts}
use Rattle.m2_session.specs.Cookies.{cookie_of}
use Rattle.m2_session.specs.AnswerLaws.{CookiesTellDrawsApart}
use Rattle.m2_never_reset.specs.Roles.{IsNumber}
use Rattle.m2_never_reset.specs.CrossingLaws.{CookiesAreMints}

module _ (tell : CookiesTellDrawsApart) where
  kept : (a : Policy) (d : CookieParts) → a.lossy ≡ false → cookie_of a.lossy d ≢ 0
  kept a d lossless z = tell.some d (ap (λ l. cookie_of l d) (sym lossless) ∙ z)

  apart : (a b : Policy) (c d : CookieParts) → a.lossy ≡ false → b.lossy ≡ false → c.salt < 2 ^ 16 → d.salt < 2 ^ 16 → IsNumber c.number → IsNumber d.number →
      c.place ≢ d.place → cookie_of a.lossy c ≢ cookie_of b.lossy d
  apart a b c d one two salt salted m n places same =
      places (ap (λ (e : CookieParts). e.place) (tell.injective c d (record { salt = salt; from = m.from; to = m.to }) (record { salt = salted; from = n.from; to = n.to })
      (ap (λ l. cookie_of l c) (sym one) ∙ same ∙ ap (λ l. cookie_of l d) two)))

pub are_mints : CookiesTellDrawsApart → CookiesAreMints
are_mints tell a b place other salt other_salt one two places left right = record {
  first_kept = λ n. kept tell a (record { place = place; salt = salt; number = n }) one;
  second_kept = λ n. kept tell b (record { place = other; salt = other_salt; number = n }) two;
  apart = λ m n is also. apart tell a b (record { place = place; salt = salt; number = m }) (record { place = other; salt = other_salt; number = n }) one two left right is also places;
}
