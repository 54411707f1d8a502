-- The five policies (Ceph's Messenger::Policy), and the pairs of them that a link may have, which are this
-- project's profile.
use Rattle.std.specs.Prelude.{Bool, true, false, ◌&&◌, ◌||◌, not}
use Rattle.m2_policy.specs.declared.policy.Policy.{Policy}

--                                         lossy          server          standby          resetcheck
abbrev pub lossy_client : Policy
lossy_client = record { lossy = true; server = false; standby = false; resetcheck = false }

abbrev pub lossless_client : Policy
lossless_client = record { lossy = false; server = false; standby = false; resetcheck = true }

abbrev pub lossless_peer : Policy
lossless_peer = record { lossy = false; server = false; standby = true; resetcheck = false }

abbrev pub stateless_server : Policy
stateless_server = record { lossy = true; server = true; standby = false; resetcheck = false }

abbrev pub stateful_server : Policy
stateful_server = record { lossy = false; server = true; standby = true; resetcheck = true }

abbrev pub same : Bool → Bool → Bool
same true b = b
same false b = not b

abbrev pub is : Policy → Policy → Bool
is a b = same a.lossy b.lossy && same a.server b.server && same a.standby b.standby && same a.resetcheck b.resetcheck

-- the pairs, as they are named
abbrev pub is_pair : Policy → Policy → Bool
is_pair a b =
    (is a lossless_peer && is b lossless_peer)
    || (is a lossless_client && is b stateful_server)
    || (is a lossy_client && is b stateless_server)

-- either way round
abbrev pub allows : Policy → Policy → Bool
allows a b = is_pair a b || is_pair b a
