-- What never changes of a side of a link: its policy towards the other side, and the cookie that it draws with a
-- number. To Ceph a cookie is a random word; that cookies tell sides apart is this project's profile.
use Rattle.std.specs.Prelude.{◌≡◌, ◌≢◌, ℕ, ◌≤◌, true, false}
use Rattle.m2_session.specs.m2_control.declared.fields.TheConstants.{GREATEST_NUMBER}
use Rattle.m2_session.specs.m2_policy.declared.policy.Policy.{Policy}
use Rattle.m2_session.specs.m2_policy.Policy.{allows}
use Rattle.m2_session.specs.Cookies.{cookie_of}

pub record Role : Type 0 where
  pub policy : Policy
  -- the cookie that is drawn with a global number
  pub mint : ℕ → ℕ

-- the role of a node at this place, with this salt
abbrev pub role_of : Policy → (place salt : ℕ) → Role
role_of policy place salt = record {
  policy = policy;
  mint = λ n. cookie_of policy.lossy (record { place = place; salt = salt; number = n });
}

-- a global number that can be drawn
pub record IsNumber (n : ℕ) : Type 0 where
  pub from : 1 ≤ n
  pub to : n ≤ GREATEST_NUMBER

-- no cookie is 0, which is none, and no cookie is drawn by both sides
pub record AreMints (p q : Role) : Type 0 where
  pub first_kept : (n : ℕ) → p.mint n ≢ 0
  pub second_kept : (n : ℕ) → q.mint n ≢ 0
  pub apart : (m n : ℕ) → IsNumber m → IsNumber n → p.mint m ≢ q.mint n

-- an allowed pair of policies that aren't lossy: two peers, or a client and a server
pub record AreLossless (p q : Role) : Type 0 where
  pub allowed : allows p.policy q.policy ≡ true
  pub first : p.policy.lossy ≡ false
  pub second : q.policy.lossy ≡ false
