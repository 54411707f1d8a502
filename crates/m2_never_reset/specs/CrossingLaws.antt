-- What is promised of a link whose connects cross, whose sockets break and whose asks are judged late.
use Rattle.std.specs.Prelude.{◌≡◌, ◌≢◌, ℕ, ◌<◌, ◌^◌, ◌⊎◌, false, [], ◌∷◌}
use Rattle.m2_queues.specs.m2_message.Message.{Content}
use Rattle.m2_session.specs.m2_policy.declared.policy.Policy.{Policy}
use Rattle.m2_session.specs.declared.session.Session.{Session}
use Rattle.m2_session.specs.Ident.{ident_answer}
use Rattle.m2_session.specs.Reconnect.{Reconnect, reconnect_answer}
use Rattle.m2_never_reset.specs.Roles.{Role, role_of, AreMints, AreLossless}
use Rattle.m2_never_reset.specs.Asks.{Ident}
use Rattle.m2_never_reset.specs.Link.{Stand, Node, Link, new_link}
use Rattle.m2_never_reset.specs.Steps.{Run}
use Rattle.m2_never_reset.specs.Order.{AreInOrder}
use Rattle.m2_never_reset.specs.Sessions.{IsKept, IsIdentStep, IsReconnectStep}

-- ---- no session is reset

-- the sides of a lossless link, of which each draws cookies of its own
pub record AreSides (p q : Role) : Type 0 where
  pub mints : AreMints p q
  pub lossless : AreLossless p q

-- the cookies that two nodes at different places draw are such cookies
abbrev pub CookiesAreMints : Type 0
CookiesAreMints = (a b : Policy) (place other salt other_salt : ℕ) → a.lossy ≡ false → b.lossy ≡ false → place ≢ other →
    salt < 2 ^ 16 → other_salt < 2 ^ 16 → AreMints (role_of a place salt) (role_of b other other_salt)

-- nothing that either side accepted is ever numbered anew, and nothing is thrown away
abbrev pub NoTroubleComes : Type 0
NoTroubleComes = (p q : Role) (l : Link) → AreSides p q → Run p q new_link l → l.trouble ≡ 0

-- both sides keep these two cookies
pub record KeepBoth (client server : ℕ) (l : Link) : Type 0 where
  pub near_client : l.near.client ≡ client
  pub near_server : l.near.server ≡ server
  pub far_client : l.far.client ≡ client
  pub far_server : l.far.server ≡ server

-- the two cookies that both keep, from here on
pub record IsSettled (p q : Role) (l : Link) : Type 0 where
  pub client : ℕ
  pub server : ℕ
  pub client_kept : client ≢ 0
  pub server_kept : server ≢ 0
  pub stay : (m : Link) → Run p q l m → KeepBoth client server m

-- from the first acceptance of a message on, both keep the same two cookies
abbrev pub AcceptedIsSettled : Type 0
AcceptedIsSettled = (p q : Role) (l : Link) → AreSides p q → Run p q new_link l →
    (l.near.accepted ≢ []) ⊎ (l.far.accepted ≢ []) → IsSettled p q l

-- ---- runs

-- what two runs do one after the other is a run
abbrev pub RunsGoOn : Type 0
RunsGoOn = (p q : Role) (l m n : Link) → Run p q l m → Run p q m n → Run p q l n

-- the sides of any link, of which one isn't a server, can bring a message over and have it acknowledged
abbrev pub AMessageComesOver : Type 0
AMessageComesOver = (p q : Role) (m : Content) → p.policy.server ≡ false →
    (l : Link) × Run p q new_link l × (l.far.accepted ≡ m ∷ []) × (l.near.base ≡ 1)

-- ---- messages come in order

-- where no trouble has come, whatever the roles are
abbrev pub UntroubledIsInOrder : Type 0
UntroubledIsInOrder = (p q : Role) (l : Link) → Run p q new_link l → l.trouble ≡ 0 → AreInOrder l

-- so always, between the sides of a lossless link
abbrev pub LosslessIsInOrder : Type 0
LosslessIsInOrder = (p q : Role) (l : Link) → AreSides p q → Run p q new_link l → AreInOrder l

-- ---- the tables

-- what the tables answer is a step of the link, or a socket that is closed without a word
pub record AnswersAreSteps : Type 0 where
  pub ident : (p : Role) (x : Node) (s : Stand) (session : Session) (i : Ident) →
      IsKept p x s session →
      IsIdentStep p x s i (ident_answer session i.cookie i.global)
  pub reconnect : (p : Role) (x : Node) (s : Stand) (session : Session) (r : Reconnect) (written : ℕ) →
      IsKept p x s session →
      IsReconnectStep p x s r (reconnect_answer session r written)
