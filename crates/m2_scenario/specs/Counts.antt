-- What the limits count of lines.
use Rattle.std.specs.Prelude.{◌+◌, ◌<◌, ◌≤◌, List, count_by, sum_by}
use Rattle.m2_scenario.specs.declared.counts.Counts.{Counts}
use Rattle.m2_scenario.specs.declared.limits.TheConstants.{MOST_POSTS, MOST_CUTS, MOST_FAULTS, MOST_ROUNDS}
use Rattle.m2_scenario.specs.Draft.{DraftLine, is_post, is_cut, is_fault, rounds_of, post, dial, down, cut, turn, flow, fault, settle}

abbrev pub counts_of : List DraftLine → Counts
counts_of lines = record {
  posts = count_by is_post lines;
  cuts = count_by is_cut lines;
  faults = count_by is_fault lines;
  rounds = sum_by rounds_of lines;
}

-- the counts, with one line more
abbrev pub with_one_more : Counts → DraftLine → Counts
with_one_more c (post a b message) = record c { posts = c.posts + 1 }
with_one_more c (cut a b bytes) = record c { cuts = c.cuts + 1 }
with_one_more c (fault a b socket) = record c { faults = c.faults + 1 }
with_one_more c (settle rounds) = record c { rounds = c.rounds + rounds }
with_one_more c (dial a b) = c
with_one_more c (down a b) = c
with_one_more c (turn a) = c
with_one_more c (flow a b socket most) = c

-- none is above its limit
pub record AreWithin (c : Counts) : Type 0 where
  pub posts : c.posts ≤ MOST_POSTS
  pub cuts : c.cuts ≤ MOST_CUTS
  pub faults : c.faults ≤ MOST_FAULTS
  pub rounds : c.rounds ≤ MOST_ROUNDS

-- where so many are counted, the limits permit the line
abbrev pub Permit : Counts → DraftLine → Type 0
Permit c (post a b message) = c.posts < MOST_POSTS
Permit c (cut a b bytes) = c.cuts < MOST_CUTS
Permit c (fault a b socket) = c.faults < MOST_FAULTS
Permit c (settle rounds) = c.rounds + rounds ≤ MOST_ROUNDS
Permit c (dial a b) = Unit {0}
Permit c (down a b) = Unit {0}
Permit c (turn a) = Unit {0}
Permit c (flow a b socket most) = Unit {0}
