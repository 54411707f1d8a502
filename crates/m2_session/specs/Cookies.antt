-- The cookies that a node draws: the top 8 bits are its place plus 1, the next 16 bits its salt, the low 40 bits the
-- number, taken modulo 2 ^ 40. Their form is this project's profile; to Ceph a cookie is a random word.
use Rattle.std.specs.Prelude.{ℕ, ◌+◌, ◌*◌, ◌%◌, ◌^◌, Bool, if◌then◌else◌}
use Rattle.m2_control.specs.declared.fields.TheConstants.{GREATEST_NUMBER}
use Rattle.m2_session.specs.declared.cookie.CookieParts.{CookieParts}

-- a lossy session has none, which is 0
abbrev pub cookie_of : Bool → CookieParts → ℕ
cookie_of lossy d = if lossy then 0 else (d.place + 1) * 2 ^ 56 + d.salt * 2 ^ 40 + d.number % GREATEST_NUMBER
