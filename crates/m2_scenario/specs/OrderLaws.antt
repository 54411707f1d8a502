-- What holds of the words of the order.
use Rattle.std.specs.Prelude.{◌≡◌, ℕ, ◌+◌, Bool, true, List, length, sum_by, count_by}
use Rattle.std.specs.List.{AllByRecursion}
use Rattle.m2_message.specs.Message.{Content}
use Rattle.m2_dispatch.specs.Heard.{Heard}
use Rattle.m2_scenario.specs.declared.link.Link.{Link}
use Rattle.m2_scenario.specs.declared.node.Node.{Node}
use Rattle.m2_scenario.specs.Draft.{DraftLine, is_post}
use Rattle.m2_scenario.specs.Valid.{IsSound}
use Rattle.m2_scenario.specs.Order.{AreCounted, AreOfJoined, AreSame, HearsNoReset, HearsPrefix, HearsWhole, OverEach}

abbrev pub EqualMessagesAreTheSame : Type 0
EqualMessagesAreTheSame = (ms : List Content) → AreSame ms ms

-- who heard all heard a prefix
abbrev pub AllIsAPrefix : Type 0
AllIsAPrefix = (fast : List (List ℕ)) (lines : List DraftLine) (heard : List (List Heard)) (x y : ℕ) → HearsWhole fast lines heard x y →
    HearsPrefix fast lines heard x y

-- these are so of every link
abbrev pub AreAll : (Link → Bool) → List Link → Type 0
AreAll is_so links = AllByRecursion (λ (l : Link). is_so l ≡ true) links

-- What was heard over all links of a valid scenario, and what is left over them: no reset was heard, and no call is of a node that no
-- link joins with the one that heard it.
pub record IsCountedOverAll (is_so : Link → Bool) (nodes : List Node) (links : List Link) (lines : List DraftLine) (heard : List (List Heard))
    (left : ℕ) : Type 0 where
  pub sound : IsSound nodes links lines
  pub all : AreAll is_so links
  pub joined : AreOfJoined (length nodes) links heard
  pub no_reset : OverEach is_so links (HearsNoReset heard)
  pub counted : AreCounted is_so links lines heard left

-- Counted over all links, all calls of dispatchers and the posts that are left are all posts.
abbrev pub CallsAndLeftArePosts : Type 0
CallsAndLeftArePosts = (is_so : Link → Bool) (nodes : List Node) (links : List Link) (lines : List DraftLine) (heard : List (List Heard)) (left : ℕ) →
    IsCountedOverAll is_so nodes links lines heard left → sum_by length heard + left ≡ count_by is_post lines
