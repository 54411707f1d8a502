-- The nodes and links of generated load: four osds, each joined to each other.
use Rattle.std.specs.Prelude.{◌≡◌, ℕ, List, [], ◌∷◌, codes}
use Rattle.m2_policy.specs.Policy.{lossless_peer}
use Rattle.m2_scenario.specs.declared.node.Node.{Node}
use Rattle.m2_scenario.specs.declared.link.Link.{Link}
use Rattle.m2_scenario.specs.Node.{plain_node}
use Rattle.m2_scenario.specs.Draft.{Draft}

-- an osd at 127.0.0.1 that dispatches kind 1 at once, and may hold 65,536 bytes of messages
abbrev pub osd : List ℕ → ℕ → ℕ → Node
osd name port nonce = record (plain_node name 4 (record { kind = 2; nonce = nonce; ip = 2130706433; port = port })) {
  fast = 1 ∷ [];
  throttle = 65536;
}

abbrev pub osds : List Node
osds = osd (codes "n0") 7000 1 ∷ osd (codes "n1") 7001 2 ∷ osd (codes "n2") 7002 3 ∷ osd (codes "n3") 7003 4 ∷ []

-- two lossless peers, by their places
abbrev pub peers : ℕ → ℕ → Link
peers a b = record { a = a; b = b; of_a = lossless_peer; of_b = lossless_peer }

abbrev pub all_pairs : List Link
all_pairs = peers 0 1 ∷ peers 0 2 ∷ peers 0 3 ∷ peers 1 2 ∷ peers 1 3 ∷ peers 2 3 ∷ []

-- these stand, whatever lines follow
pub record IsCluster (d : Draft) : Type 0 where
  pub nodes : d.nodes ≡ osds
  pub links : d.links ≡ all_pairs
